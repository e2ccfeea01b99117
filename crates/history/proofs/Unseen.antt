-- What an instance has set is seen by nobody before its end: with another table of outgoing copies, which differs in its slot alone (`Off`), every step but its end answers the same and leaves states that differ so again
-- (`step_follows`). When it has failed, its end too; from then on nothing differs (`same-on`). So the steps behind are accepted with the same answers (`unseen-on`).
-- Assumes nothing.
use Prim.Native.Nat.{ℕ, ◌≤◌, ◌<◌}
use mathlib.Core.Bool.{Bool, true, false, not}
use mathlib.Core.List.{List, [], ◌∷◌}
use mathlib.Core.Path.{◌≡◌, refl, sym, ap, ◌∙◌, subst}
use native.Mathlib.Decide.{ℕ_discrete, dec_lt}
use native.Mathlib.Omega.{arith}
use lib.Dec.{ltb, eqb}
use lib.ListN.{length, length-set, get_or, set}
use lib.Seq.{get_or-set_same, get_or-set_other}
use borrow.Author.Tests.{eq-eqb, eqb-true}
use Rattle.numbers.specs.Refusals.{malformed, area_taken, not_on_top, queue_full, number_borne, still_waits, not_due, no_slot_free, too_far, not_over, wrong_client}
use Rattle.numbers.specs.Codes.{end_code, fail_code, write_copy_code}
use Rattle.laws.specs.Choice.{pick, both, either}
use Rattle.laws.proofs.Choosing.{clash, both_left, both_right, both-no}
use Rattle.laws.proofs.Places.{past, past-set}
use Rattle.values.specs.Values.{void_v, number_v, ok_v, limit_v, no_data_v, timeout_v}
use Rattle.faces.specs.Types.{Value, Step, Taken, Lists, Config, Copies, Copied, State, Stepped}
use Rattle.config.specs.Tables.{runnable_conf_in, operation_conf_in}
use Rattle.config.specs.Lists.{lists_at, place_of}
use Rattle.state.specs.Parts.{no_slot, no_copies}
use Rattle.state.specs.Queues.{first_value}
use Rattle.state.specs.Tables.{max_slots, runnable_in, element_in, operation_in, slot_in, copies_in, with_copy, with_copies, with_outgoing}
use Rattle.rules.specs.Refusals.{refusal_of}
use Rattle.rules.specs.Sound.{sound_of}
use Rattle.effects.specs.Steps.{refused, took, entered, exited, received, gone_on, answered, handed_back, finished, ticked, read_variable_of, write_variable_of, enter_of, exit_of, read_of, write_of, updated_of, invalidate_of, receive_of, send_of, call_of, poll_of, collect_of, result_of, hand_back_of, spawn_of, timeout_of, tick_of, wait_of, fail_of, hold_of, give_up_of, read_copy_of, write_copy_of, end_of, fed, called, closed, spawned, waited, has_failed, runnable_of, handed_elements, handed_runnables, cleared, ended, begun_in, setting, serves, is_taken, on_top, is_bare, waits, is_open, is_borne, is_busy, requests_full, hands_number, answers, client_of, is_over, may_spawn, lowest_empty, is_up, all_let, is_spent}
use Rattle.effects.specs.Step.{possible_of, claimed_of, inner_of, step_of}
use Rattle.effects.proofs.Codes.{Code, coded, act_by, possible-by, possible-let}
use Rattle.effects.proofs.Codes as code
use Rattle.stays_sound.specs.Facts.{CanSpawn}
use Rattle.stays_sound.proofs.Kept.{lowest-empty}
use Rattle.stays_sound.proofs.Keeps.{kept_step}
use Rattle.stays_sound.proofs.Accepted.{answer_in, accepted, gone, end-told}
use Rattle.history.specs.History.{hands_on_in}
use Rattle.history.specs.Promises.{Answers, Accepted}
use Rattle.history.proofs.Runs.{taken_of}
use Rattle.state.specs.Places.{place_in, with_place}
use Rattle.history.proofs.Copying.{Turns, stays, begins, ends, sets, turns, copies-here, copies-other, either-none}

-- ---- a step with another table of outgoing copies

-- what a step came to, with that table in its state
abbrev shift : Copied → Stepped → Stepped
shift T r = record { answer = r.answer; state = with_outgoing r.state T }

pick-shift : (T : Copied) (b : Bool) (x y : Stepped) {x' y' : Stepped} → x' ≡ shift T x → y' ≡ shift T y → pick b x' y' ≡ shift T (pick b x y)
pick-shift T true x y p q = p
pick-shift T false x y p q = q

module _ (cfg : Config) (st : State) (T : Copied) (i k : ℕ) (v : Value) where
  wait-shift : wait_of cfg (with_outgoing st T) v.number ≡ shift T (wait_of cfg st v.number)
  unfolding wait_of waited all_let
  wait-shift = pick-shift T (all_let cfg st v.number) (took void_v (waited cfg st v.number)) (refused too_far st) refl refl

  call-shift : call_of cfg (with_outgoing st T) i k v ≡ shift T (call_of cfg st i k v)
  unfolding call_of called
  call-shift =
      let r = (operation_conf_in cfg.operations k).server in
      let go = took ok_v (called cfg st i k v) in
      let x = pick (requests_full cfg st.runnables r) (refused queue_full st) go in
      let y = pick (is_borne st k) (refused number_borne st) x in
      pick-shift T (is_busy st k) (took limit_v st) y refl (pick-shift T (is_borne st k) (refused number_borne st) x refl (pick-shift T (requests_full cfg st.runnables r) (refused queue_full st) go refl refl))

  result-shift : result_of cfg (with_outgoing st T) i k ≡ shift T (result_of cfg st i k)
  unfolding result_of poll_of collect_of
  result-shift =
      pick-shift T (operation_conf_in cfg.operations k).asynchronous (poll_of st k) (collect_of st i k)
      (pick-shift T (is_open st k) (took no_data_v st) (took (operation_in st.operations k).done st) refl refl)
      (pick-shift T (is_open st k) (refused still_waits st) (took (operation_in st.operations k).done (gone_on st i)) refl refl)

  back-shift : hand_back_of cfg (with_outgoing st T) i v ≡ shift T (hand_back_of cfg st i v)
  unfolding hand_back_of closed
  back-shift =
      let a = took (number_v 1) (answered cfg st i (handed_back st i v)) in
      let l = took (number_v 0) (finished st st i) in
      let x = pick (answers st.operations (client_of st i)) a l in
      let y = pick (serves st i) x (refused wrong_client st) in
      pick-shift T (hands_number st i v) (refused malformed st) y refl (pick-shift T (serves st i) x (refused wrong_client st) (pick-shift T (answers st.operations (client_of st i)) a l refl refl) refl)

  spawn-shift : spawn_of cfg (with_outgoing st T) k ≡ shift T (spawn_of cfg st k)
  unfolding spawn_of spawned
  spawn-shift =
      let n = lowest_empty st.slots in
      let a = took (number_v n) (begun_in cfg st k n) in
      let x = pick (ltb n max_slots) a (refused no_slot_free st) in
      pick-shift T (may_spawn (runnable_conf_in cfg.runnables k) (runnable_in st.runnables k)) x (refused not_due st) (pick-shift T (ltb n max_slots) a (refused no_slot_free st) refl refl) refl

  -- every code but end and write copy
  act-shift : {n : ℕ} (c : Code n) → (n ≡ end_code → ⊥) → (n ≡ write_copy_code → ⊥) → act_by c cfg (with_outgoing st T) i k v ≡ shift T (act_by c cfg st i k v)
  unfolding read_variable_of write_variable_of enter_of exit_of read_of write_of updated_of invalidate_of receive_of send_of timeout_of tick_of fail_of hold_of give_up_of read_copy_of fed closed
  act-shift code.read_variable a b = refl
  act-shift code.write_variable a b = refl
  act-shift code.enter a b = pick-shift T (is_taken st k) (refused area_taken st) (took void_v (entered st i k)) refl refl
  act-shift code.exit a b = pick-shift T (on_top (slot_in st.slots i) k) (took void_v (exited st i k)) (refused not_on_top st) refl refl
  act-shift code.read a b = refl
  act-shift code.write a b = refl
  act-shift code.updated a b = refl
  act-shift code.invalidate a b = refl
  act-shift code.receive a b =
      let x = pick (waits st i) (refused still_waits st) (took no_data_v st) in
      let y = took (first_value (element_in st.elements k).queue) (received st i k) in
      pick-shift T (is_bare st k) x y (pick-shift T (waits st i) (refused still_waits st) (took no_data_v st) refl refl) refl
  act-shift code.send a b = refl
  act-shift code.call a b = call-shift
  act-shift code.result a b = result-shift
  act-shift code.hand_back a b = back-shift
  act-shift code.end a b = absurd (a refl)
  act-shift code.spawn a b = spawn-shift
  act-shift code.timeout a b = pick-shift T (is_over st k) (took void_v (closed cfg st k timeout_v)) (refused not_over st) refl refl
  act-shift code.tick a b = pick-shift T (is_up st k) (took void_v (ticked cfg st k)) (refused not_over st) refl refl
  act-shift code.wait a b = wait-shift
  act-shift code.fail a b = refl
  act-shift code.hold a b = refl
  act-shift code.give_up a b = pick-shift T (is_spent st i) (took timeout_v (gone_on st i)) (refused not_over st) refl refl
  act-shift code.read_copy a b = refl
  act-shift code.write_copy a b = absurd (b refl)

-- ---- with the claim, and the test

module _ (cfg : Config) (st : State) (T : Copied) (s : Step) (g' : sound_of cfg (with_outgoing st T) ≡ true) {w : Value} (h : (step_of cfg st s).answer ≡ Taken w) where
  -- from what is possible to the step: t is the table after it
  step-shift : (t : Copied) → possible_of cfg (with_outgoing st T) s ≡ shift t (possible_of cfg st s) → step_of cfg (with_outgoing st T) s ≡ shift t (step_of cfg st s)
  unfolding step_of inner_of claimed_of
  step-shift t e =
      let a = accepted cfg st s h in
      let q : (possible_of cfg st s).answer ≡ Taken w = rw a.1 at h in
      rw (a.1, g', e, q, a.2)

  let_through : refusal_of cfg st.slots s ≡ 0
  let_through = let a = accepted cfg st s h in possible-let cfg st s (rw a.1 at h)

  -- a step that neither ends an instance nor sets a copy
  still-shift : (s.code ≡ end_code → ⊥) → (s.code ≡ write_copy_code → ⊥) → step_of cfg (with_outgoing st T) s ≡ shift T (step_of cfg st s)
  still-shift a b =
      let c = coded cfg st.slots s let_through in
      step-shift T (rw (possible-by cfg (with_outgoing st T) s c refl let_through, possible-by cfg st s c refl let_through) (act-shift cfg st T s.who s.what s.argument c a b))

  -- one that sets a copy
  set-shift : s.code ≡ write_copy_code → step_of cfg (with_outgoing st T) s ≡ shift (with_copies T s.who (setting cfg (with_outgoing st T) s.who s.what s.argument)) (step_of cfg st s)
  unfolding write_copy_of
  set-shift c = step-shift _ (rw (possible-by cfg (with_outgoing st T) s code.write_copy c let_through, possible-by cfg st s code.write_copy c let_through))

  -- one that ends an instance which hands on the same with either table
  end-shift : s.code ≡ end_code → handed_elements cfg (with_outgoing st T) s.who ≡ handed_elements cfg st s.who → handed_runnables cfg (with_outgoing st T) s.who ≡ handed_runnables cfg st s.who
      → (t : Copied) → t ≡ cleared cfg.outgoing (runnable_of st s.who) T s.who → step_of cfg (with_outgoing st T) s ≡ shift t (step_of cfg st s)
  unfolding end_of
  end-shift c p q t u =
      let a = accepted cfg st s h in
      let z = end-told cfg st s (gone cfg st s c h) in
      step-shift t
      (rw (possible-by cfg (with_outgoing st T) s code.end c let_through, possible-by cfg st s code.end c let_through, z.none, z.flat, p, q, u))

-- ---- tables that differ in one slot at most

-- T and U have the same copies in every slot, but in the slot i if b says so
pub record Off (i : ℕ) (b : Bool) (T U : Copied) : Type 0 where
  pub size : length T.at ≡ length U.at
  pub each : (k : ℕ) → (k ≡ i → b ≡ false) → copies_in T k ≡ copies_in U k

-- the copies of one slot replaced in both
off-put : (i : ℕ) (b : Bool) (T U : Copied) (j : ℕ) (c d : Copies) → ((j ≡ i → b ≡ false) → c ≡ d) → Off i b T U → Off i b (with_copies T j c) (with_copies U j d)
unfolding place_in with_place
off-put i b T U j c d e o = record { size = length-set T.at j c ∙ o.size ∙ sym (length-set U.at j d); each = λ k n. by k n (ℕ_discrete k j) (dec_lt j (length T.at)) }
  where
    by : (k : ℕ) → (k ≡ i → b ≡ false) → Dec (k ≡ j) → Dec (j < length T.at) → get_or (set T.at j c) k no_copies ≡ get_or (set U.at j d) k no_copies
    by k n (yes q) (yes l) = rw (q, get_or-set_same T.at j c no_copies l, get_or-set_same U.at j d no_copies (omega (arith, l, o.size))) (e (λ z. n (q ∙ z)))
    by k n (yes q) (no l) = rw (past-set T.at j (length T.at) c refl (omega (arith, l)), past-set U.at j (length U.at) d refl (omega (arith, l, o.size))) (o.each k n)
    by k n (no m) l = rw (get_or-set_other T.at j k c no_copies m, get_or-set_other U.at j k d no_copies m) (o.each k n)

copies_length : (C : Copied) (i : ℕ) (c : Copies) → length (with_copies C i c).at ≡ length C.at
unfolding with_place
copies_length C i c = length-set C.at i c

copies-past : (C : Copied) (i : ℕ) → length C.at ≤ i → copies_in C i ≡ no_copies
unfolding place_in
copies-past C i l = past C.at i (length C.at) no_copies refl l

-- the copies of the slot i set differently
pub off-apart : (i : ℕ) (U : Copied) (c d : Copies) → Off i true (with_copies U i c) (with_copies U i d)
off-apart i U c d = off-put i true U U i c d (λ n. absurd (clash true refl (n refl))) (record { size = refl; each = λ k n. refl })

-- those of a slot cleared in both; if it is i, nothing differs any more
off-cleared : (i : ℕ) (b : Bool) (T U : Copied) (t : Lists) (r j : ℕ) → Off i b T U → Off i b (cleared t r T j) (cleared t r U j)
unfolding cleared
off-cleared i b T U t r j o = by (lists_at t r 0)
  where
    by : (x : Bool) → Off i b (pick x (with_copies T j no_copies) T) (pick x (with_copies U j no_copies) U)
    by true = off-put i b T U j no_copies no_copies (λ _. refl) o
    by false = o

off-gone : (i : ℕ) (T U : Copied) (t : Lists) (r : ℕ) → lists_at t r 0 ≡ true → Off i true T U → Off i false (cleared t r T i) (cleared t r U i)
unfolding cleared
off-gone i T U t r h o = rw h (record { size = length-set' T ∙ o.size ∙ sym (length-set' U); each = λ k n. by k (ℕ_discrete k i) (dec_lt i (length T.at)) })
  where
    length-set' : (C : Copied) → length (with_copies C i no_copies).at ≡ length C.at
    length-set' C = copies_length C i no_copies

    beyond : (C : Copied) → length C.at ≤ i → copies_in (with_copies C i no_copies) i ≡ no_copies
    beyond C l = copies-past (with_copies C i no_copies) i (omega (arith, l, length-set' C))

    by : (k : ℕ) → Dec (k ≡ i) → Dec (i < length T.at) → copies_in (with_copies T i no_copies) k ≡ copies_in (with_copies U i no_copies) k
    by k (yes q) (yes l) = rw (q, copies-here T i no_copies l, copies-here U i no_copies (omega (arith, l, o.size)))
    by k (yes q) (no l) = rw (q, beyond T (omega (arith, l)), beyond U (omega (arith, l, o.size)))
    by k (no m) l = rw (copies-other T i k no_copies m, copies-other U i k no_copies m) (o.each k (λ z. absurd (m z)))

-- ---- one step

-- what is handed on with either table
module _ (cfg : Config) (st : State) (T : Copied) (j : ℕ) where
  same-elements : copies_in T j ≡ copies_in st.outgoing j → handed_elements cfg (with_outgoing st T) j ≡ handed_elements cfg st j
  unfolding handed_elements
  same-elements e = rw e

  same-runnables : copies_in T j ≡ copies_in st.outgoing j → handed_runnables cfg (with_outgoing st T) j ≡ handed_runnables cfg st j
  unfolding handed_runnables
  same-runnables e = rw e

  -- who has failed hands on nothing
  none-elements : has_failed st j ≡ true → handed_elements cfg (with_outgoing st T) j ≡ handed_elements cfg st j
  unfolding handed_elements
  none-elements f = rw (f, both-no (lists_at cfg.outgoing (runnable_of st j) 0) false refl)

  none-runnables : has_failed st j ≡ true → handed_runnables cfg (with_outgoing st T) j ≡ handed_runnables cfg st j
  unfolding handed_runnables
  none-runnables f = rw (f, both-no (lists_at cfg.outgoing (runnable_of st j) 0) false refl)

not-false : (b : Bool) → not b ≡ false → b ≡ true
not-false true h = refl
not-false false h = absurd (clash true refl h)

-- the tables after a spawn, and after a copy is set
begin-off : (cfg : Config) (i : ℕ) (b : Bool) (st : State) (T : Copied) (r : ℕ) → Off i b T st.outgoing → Off i b T (begun_in cfg st r (lowest_empty st.slots)).outgoing
unfolding spawned
begin-off cfg i b st T r o = o

set-off : (cfg : Config) (i : ℕ) (b : Bool) (st : State) (T : Copied) (j p : ℕ) (v : Value) → Off i b T st.outgoing → Off i b (with_copies T j (setting cfg (with_outgoing st T) j p v)) (with_copies st.outgoing j (setting cfg st j p v))
set-off cfg i b st T j p v o =
    off-put i b T st.outgoing j _ _ (λ n. ap (λ (c : Copies). with_copy c (place_of cfg.outgoing (runnable_of st j) p) v) (o.each j n)) o

-- ---- the steps behind

-- what a step came to with either table: the table after it, and where that differs
record Follow (cfg : Config) (st : State) (T : Copied) (s : Step) (i : ℕ) (b : Bool) : Type 0 where
  table : Copied
  shifts : step_of cfg (with_outgoing st T) s ≡ shift table (step_of cfg st s)
  off : Off i b table (step_of cfg st s).state.outgoing

module _ (cfg : Config) (st : State) (T : Copied) (s : Step) (i : ℕ) (b : Bool) (g' : sound_of cfg (with_outgoing st T) ≡ true) (o : Off i b T st.outgoing) (h : (step_of cfg st s).answer ≡ Taken (answer_in cfg st s)) where
  -- every step but an end of i
  follow : (s.code ≡ end_code → s.who ≡ i → b ≡ false) → Turns cfg st s (step_of cfg st s).state → Follow cfg st T s i b
  follow n (stays a e d u q f w x) = record { table = T; shifts = still-shift cfg st T s g' h e d; off = rw x o }
  follow n (begins c k z q) = record { table = T; shifts = still-shift cfg st T s g' h (λ e. omega (arith, c, e)) (λ e. omega (arith, c, e)); off = rw q (begin-off cfg i b st T s.what o) }
  follow n (ends c z q) =
      let d = o.each s.who (n c) in
      record {
        table = cleared cfg.outgoing (runnable_of st s.who) T s.who;
        shifts = end-shift cfg st T s g' h c (same-elements cfg st T s.who d) (same-runnables cfg st T s.who d) _ refl;
        off = rw q (off-cleared i b T st.outgoing cfg.outgoing (runnable_of st s.who) s.who o);
      }
  follow n (sets c z q) = record { table = _; shifts = set-shift cfg st T s g' h c; off = rw q (set-off cfg i b st T s.who s.what s.argument o) }

  -- the state after it is sound with that table
  follow-sound : {c : Bool} (f : Follow cfg st T s i c) → sound_of cfg (with_outgoing (step_of cfg st s).state f.table) ≡ true
  follow-sound f = ap (λ (x : Stepped). sound_of cfg x.state) (sym f.shifts) ∙ kept_step cfg (with_outgoing st T) s g'

-- a recording is accepted from its first step on, by what that came to
pub accept-by : (cfg : Config) (st y : State) (s : Step) (rs : List Step) (r : Stepped) → step_of cfg st s ≡ r → Answers r.answer s → Accepted cfg r.state rs y → Accepted cfg st (s ∷ rs) y
unfolding Accepted
accept-by cfg st y s rs r e a p = rw e (a, p)

-- while nothing differs, all goes on alike
same-on : (cfg : Config) (i : ℕ) (rs : List Step) (st z : State) (T : Copied) → sound_of cfg st ≡ true → sound_of cfg (with_outgoing st T) ≡ true → Off i false T st.outgoing → Accepted cfg st rs z
    → (y : State) × Accepted cfg (with_outgoing st T) rs y
unfolding Accepted
same-on cfg i [] st z T g g' o e = (with_outgoing st T, refl)
same-on cfg i (s ∷ rs) st z T g g' o e =
    let h = taken_of cfg st s e.0 in
    let n = follow cfg st T s i false g' o h (λ _ _. refl) (turns cfg st s h) in
    let r = same-on cfg i rs (step_of cfg st s).state z n.table (kept_step cfg st s g) (follow-sound cfg st T s i false g' o h n) n.off e.1 in
    (r.0, accept-by cfg (with_outgoing st T) r.0 s rs (shift n.table (step_of cfg st s)) n.shifts e.0 r.1)

-- the instance that has set something: it is there, lists elements, and has failed as f says
pub record Live (cfg : Config) (st : State) (i : ℕ) (f : Bool) : Type 0 where
  pub used : (slot_in st.slots i).used ≡ true
  pub lists : lists_at cfg.outgoing (slot_in st.slots i).life.runnable 0 ≡ true
  pub failed : (slot_in st.slots i).life.failed ≡ f

-- it is so in a state in which its slot is the same
live_on : (cfg : Config) (st t : State) (i : ℕ) (f f' : Bool) → slot_in t.slots i ≡ slot_in st.slots i → f ≡ f' → Live cfg st i f → Live cfg t i f'
live_on cfg st t i f f' e q l = record { used = rw e l.used; lists = rw e l.lists; failed = rw e (l.failed ∙ q) }

-- after a step that does not end it, where it has failed then as f' says
module _ (cfg : Config) (st : State) (s : Step) (i : ℕ) (f : Bool) (l : Live cfg st i f) where
  abbrev f' : Bool
  f' = either f (both (eqb s.code fail_code) (eqb s.who i))

  -- a step of another code than fail
  quiet : {n : ℕ} → s.code ≡ n → eqb n fail_code ≡ false → f ≡ f'
  quiet c q = rw (c, q) (either-none f)

  -- a spawn goes into another slot, and an end of another instance empties another
  begin-slot : {t : State} → CanSpawn cfg st s.what → t ≡ begun_in cfg st s.what (lowest_empty st.slots) → slot_in t.slots i ≡ slot_in st.slots i
  unfolding spawned place_in with_place
  begin-slot z q = rw q (get_or-set_other st.slots.at (lowest_empty st.slots) i _ no_slot (λ n. clash (slot_in st.slots i).used l.used (rw n (lowest-empty st.slots z.slot))))

  end-slot : {t : State} → (s.who ≡ i → ⊥) → t ≡ ended cfg st s.who → slot_in t.slots i ≡ slot_in st.slots i
  unfolding place_in with_place
  end-slot n q = rw q (get_or-set_other st.slots.at s.who i no_slot no_slot (λ z. n (sym z)))

  lives-on : {t : State} → (s.code ≡ end_code → s.who ≡ i → ⊥) → Turns cfg st s t → Live cfg t i f'
  lives-on n (stays a b d u q w x v) = record { used = u i ∙ l.used; lists = rw (q i) l.lists; failed = w i ∙ ap (λ (x : Bool). either x (both (eqb s.code fail_code) (eqb s.who i))) l.failed }
  lives-on {t} n (begins c k z q) = live_on cfg st t i f f' (begin-slot z q) (quiet c refl) l
  lives-on {t} n (ends c z q) = live_on cfg st t i f f' (end-slot (n c) q) (quiet c refl) l
  lives-on {t} n (sets c z q) = live_on cfg st t i f f' (rw q) (quiet c refl) l

-- its end when it has failed: nothing differs any more
fails-off : (cfg : Config) (st : State) (T : Copied) (s : Step) (g' : sound_of cfg (with_outgoing st T) ≡ true) → Off s.who true T st.outgoing → (step_of cfg st s).answer ≡ Taken (answer_in cfg st s) → Live cfg st s.who true
    → s.code ≡ end_code → Turns cfg st s (step_of cfg st s).state → Follow cfg st T s s.who false
fails-off cfg st T s g' o h l c (stays a b d u q w x v) = absurd (b c)
fails-off cfg st T s g' o h l c (begins k y z q) = absurd (omega (arith, c, k))
fails-off cfg st T s g' o h l c (ends k z q) = record {
  table = cleared cfg.outgoing (runnable_of st s.who) T s.who;
  shifts = end-shift cfg st T s g' h c (none-elements cfg st T s.who l.failed) (none-runnables cfg st T s.who l.failed) _ refl;
  off = rw q (off-gone s.who T st.outgoing cfg.outgoing (runnable_of st s.who) l.lists o);
}
fails-off cfg st T s g' o h l c (sets k z q) = absurd (omega (arith, c, k))

-- one step of that: on is what follows where it lives on
unseen-step : (cfg : Config) (i : ℕ) (f : Bool) (s : Step) (rs : List Step) (st z : State) (T : Copied) → sound_of cfg st ≡ true → sound_of cfg (with_outgoing st T) ≡ true → Off i true T st.outgoing → Live cfg st i f
    → hands_on_in i f (s ∷ rs) ≡ false → Accepted cfg st (s ∷ rs) z → (step_of cfg st s).answer ≡ Taken (answer_in cfg st s)
    → ((t : Copied) → sound_of cfg (with_outgoing (step_of cfg st s).state t) ≡ true → Off i true t (step_of cfg st s).state.outgoing → Live cfg (step_of cfg st s).state i (either f (both (eqb s.code fail_code) (eqb s.who i)))
    → hands_on_in i (either f (both (eqb s.code fail_code) (eqb s.who i))) rs ≡ false → (y : State) × Accepted cfg (with_outgoing (step_of cfg st s).state t) rs y)
    → (y : State) × Accepted cfg (with_outgoing st T) (s ∷ rs) y
unfolding Accepted hands_on_in
unseen-step cfg i f s rs st z T g g' o l p e h on = by (both (eqb s.code end_code) (eqb s.who i)) refl
  where
    by : (b : Bool) → both (eqb s.code end_code) (eqb s.who i) ≡ b → (y : State) × Accepted cfg (with_outgoing st T) (s ∷ rs) y
    by true q =
        let c = eqb-true s.code end_code (both_left (eqb s.code end_code) _ q) in
        let w : s.who ≡ i = eqb-true s.who i (both_right (eqb s.code end_code) _ q) in
        let x = not-false f (rw q at p) in
        let n = fails-off cfg st T s g' (rw w o) h (rw w (subst (Live cfg st i) x l)) c (turns cfg st s h) in
        let r = same-on cfg s.who rs (step_of cfg st s).state z n.table (kept_step cfg st s g) (ap (λ (x : Stepped). sound_of cfg x.state) (sym n.shifts) ∙ kept_step cfg (with_outgoing st T) s g') n.off e.1 in
        (r.0, accept-by cfg (with_outgoing st T) r.0 s rs (shift n.table (step_of cfg st s)) n.shifts e.0 r.1)
    by false q =
        let other : s.code ≡ end_code → s.who ≡ i → ⊥ = λ c w. clash (both (eqb s.code end_code) (eqb s.who i)) (rw (eq-eqb s.code end_code c, eq-eqb s.who i w)) q in
        let n = follow cfg st T s i true g' o h (λ c w. absurd (other c w)) (turns cfg st s h) in
        let r = on n.table (follow-sound cfg st T s i true g' o h n) n.off (lives-on cfg st s i f l other (turns cfg st s h)) (rw q at p) in
        (r.0, accept-by cfg (with_outgoing st T) r.0 s rs (shift n.table (step_of cfg st s)) n.shifts e.0 r.1)

-- while it lives, what it has set differs and nothing else
pub unseen-on : (cfg : Config) (i : ℕ) (f : Bool) (rs : List Step) (st z : State) (T : Copied) → sound_of cfg st ≡ true → sound_of cfg (with_outgoing st T) ≡ true → Off i true T st.outgoing → Live cfg st i f
    → hands_on_in i f rs ≡ false → Accepted cfg st rs z → (y : State) × Accepted cfg (with_outgoing st T) rs y
unfolding Accepted hands_on_in
unseen-on cfg i f [] st z T g g' o l p e = (with_outgoing st T, refl)
unseen-on cfg i f (s ∷ rs) st z T g g' o l p e =
    let h = taken_of cfg st s e.0 in
    unseen-step cfg i f s rs st z T g g' o l p e h (λ t g'' o' l' p'. unseen-on cfg i (either f (both (eqb s.code fail_code) (eqb s.who i))) rs (step_of cfg st s).state z t (kept_step cfg st s g) g'' o' l' p' e.1)
