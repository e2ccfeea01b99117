-- Who waits, by the calls and results of the recording. Every accepted step starts a call on a synchronous operation, collects such a result, or leaves all waiting as they were (`Waits`, `waits-way`).
-- So an instance waits exactly for its own call, made where it lives still, and behind which no other was started there (`Waiter`, `Awaits`), and an operation is bound as the recording says (`Bounds`).
-- Assumes nothing.
use Prim.Native.Nat.{ℕ, ◌+◌, ◌<◌}
use mathlib.Core.Bool.{Bool, true, false, not}
use mathlib.Core.List.{List, [], ◌∷◌, ◌++◌, append_assoc}
use mathlib.Core.Option.{Option, none, some}
use mathlib.Core.Path.{◌≡◌, refl, sym, ◌∙◌, ap}
use native.Mathlib.Decide.{ℕ_discrete}
use native.Mathlib.Nat.{add-zero}
use native.Mathlib.Numerals.{add-one}
use native.Mathlib.Omega.{arith}
use lib.Dec.{ltb, eqb}
use lib.ListN.{length, get_or}
use lib.Seq.{get_or-set_same, get_or-set_other}
use borrow.Author.Tests.{lt-ltb, le-ltb, ltb-true, eqb-true, eq-eqb, ne_eqb}
use Rattle.numbers.specs.Codes.{send_code, call_code, result_code, end_code, spawn_code}
use Rattle.laws.specs.Choice.{both, bit}
use Rattle.laws.proofs.Choosing.{clash, both_left, both_right, both-no, pick-alike}
use Rattle.laws.proofs.Looping.{sum_same, sum-zero, sum-term}
use Rattle.laws.proofs.Places.{inside_of}
use Rattle.faces.specs.Types.{Value, Step, Taken, Config, Slot, Slots, State}
use Rattle.values.specs.Values.{ok_v, same_value}
use Rattle.config.specs.Tables.{runnable_conf_in, operation_conf_in}
use Rattle.state.specs.Parts.{no_slot}
use Rattle.state.specs.Start.{start_of}
use Rattle.state.specs.Tables.{no_slots, runnable_in, slot_in, with_slot}
use Rattle.rules.specs.Sound.{is_caller, waits_on, waiters_of, is_bound}
use Rattle.rules.specs.Refusals.{asks_synchronous}
use Rattle.rules.proofs.Configured.{operations-most}
use Rattle.effects.specs.Steps.{entering, exiting, fed, called, caller_after, waiting_on, running_on, awaiting, on_element, gone_on, closed, finishing, failing, instance_of, lowest_empty, spawned, waited}
use Rattle.effects.specs.Step.{step_of}
use Rattle.stays_sound.specs.Facts.{Sound, CanCall, CanCollect}
use Rattle.stays_sound.proofs.Told.{told, slots_length}
use Rattle.stays_sound.proofs.Kept.{lowest-empty, slot_kept, slot-inside, slots-after-kept}
use Rattle.stays_sound.proofs.Waiters.{no-caller, waits-none, after-waits, empty_runs, new-runs, call-waiters, collect-waiters}
use Rattle.stays_sound.proofs.Ways.{Way}
use Rattle.stays_sound.proofs.Ways as go
use Rattle.stays_sound.proofs.Accepted.{accepted, claim-told, gone, way, call-told, end-told, spawn-told}
use Rattle.history.specs.History.{Ending, History, nothing, latest_on, observe, last_on, given, delivered, ended_call, Started, traced_from, lives_in, binds, frees, bound_after, bound_in, awaits_after, awaits_in}
use Rattle.history.specs.Promises.{Own}
use Rattle.history.proofs.Beside.{all_alike}
use Rattle.history.proofs.Traced.{traced-one}
use Rattle.history.proofs.Tied.{Tied}
use Rattle.history.proofs.Named.{started-more, started-here, Named}
use Rattle.history.proofs.Deeds.{other-code, call-adds}
use Rattle.history.proofs.Unended.{started-older, latest-still}
use Rattle.state.specs.Places.{no_places, place_in, with_place}
use Rattle.history.proofs.Lives.{Lives, lives-one, lives-on}

-- ---- what a step does to those who wait

pub data Waits (cfg : Config) (st : State) (s : Step) (st' : State) : Type 0 where
  calls : s.code ≡ call_code → s.claim ≡ ok_v → (operation_conf_in cfg.operations s.what).asynchronous ≡ false → CanCall cfg st s.who s.what s.argument
      → st'.slots ≡ (called cfg st s.who s.what s.argument).slots → Waits cfg st s st'
  collects : s.code ≡ result_code → CanCollect cfg st s.who s.what → st'.slots ≡ (gone_on st s.who).slots → Waits cfg st s st'
  rests : binds cfg s ≡ false → frees cfg s ≡ false → ((o k : ℕ) → waits_on o (slot_in st'.slots k) ≡ waits_on o (slot_in st.slots k)) → Waits cfg st s st'

module _ (cfg : Config) (st : State) (s : Step) where
  no_call : {n : ℕ} → s.code ≡ n → eqb n call_code ≡ false → binds cfg s ≡ false
  unfolding binds
  no_call c f = rw (c, f)

  no_result : {n : ℕ} → s.code ≡ n → eqb n result_code ≡ false → frees cfg s ≡ false
  unfolding asks_synchronous
  no_result c f = rw (c, f)

  -- slots as they were
  same : {n : ℕ} {t : State} → s.code ≡ n → eqb n call_code ≡ false → eqb n result_code ≡ false → t.slots ≡ st.slots → Waits cfg st s t
  same c f h e = rests (no_call c f) (no_result c h) (λ o k. rw e)

  -- one slot replaced that waits as before
  one : {n : ℕ} {t : State} (i : ℕ) (x : Slot) → s.code ≡ n → eqb n call_code ≡ false → eqb n result_code ≡ false → t.slots ≡ with_slot st.slots i x → ((o : ℕ) → waits_on o x ≡ waits_on o (slot_in st.slots i)) → Waits cfg st s t
  one i x c f h e w = rests (no_call c f) (no_result c h) (λ o k. rw e (slot_kept (waits_on o) st.slots i x (w o) k))

  -- a call that starts, by the kind of its operation
  call-waits : s.code ≡ call_code → s.claim ≡ ok_v → CanCall cfg st s.who s.what s.argument → Waits cfg st s (called cfg st s.who s.what s.argument)
  unfolding binds called caller_after asks_synchronous
  call-waits c k z = by (operation_conf_in cfg.operations s.what).asynchronous refl
    where
      by : (b : Bool) → (operation_conf_in cfg.operations s.what).asynchronous ≡ b → Waits cfg st s (called cfg st s.who s.what s.argument)
      by true e =
          rests (both-no (eqb s.code call_code) _ (both-no (same_value s.claim ok_v) _ (rw e))) (rw c)
          (λ o j. slot_kept (waits_on o) st.slots s.who (caller_after cfg s.what (slot_in st.slots s.who)) (rw e) j)
      by false e = calls c k e z refl

  pub waits-way : {n : ℕ} {w : Value} {t : State} → Sound cfg st → s.code ≡ n → (eqb n send_code ≡ false → s.claim ≡ w) → Way cfg st s n w t → Waits cfg st s t
  unfolding binds asks_synchronous same_value waits_on fed closed waited spawned no_slot
  waits-way g c k go.read_variable = same c refl refl refl
  waits-way g c k (go.write_variable z) = same c refl refl refl
  waits-way g c k (go.enter z) = one s.who (entering (slot_in st.slots s.who) s.what) c refl refl refl (λ o. refl)
  waits-way g c k (go.exit z) = one s.who (exiting (slot_in st.slots s.who)) c refl refl refl (λ o. refl)
  waits-way g c k (go.read z) = same c refl refl refl
  waits-way g c k (go.write z) = same c refl refl refl
  waits-way g c k go.updated = same c refl refl refl
  waits-way g c k (go.invalidate z) = same c refl refl refl
  waits-way g c k (go.receive_none e w) = same c refl refl refl
  waits-way g c k (go.receive z) = one s.who (running_on (slot_in st.slots s.who)) c refl refl refl (λ o. sym (waits-none o (slot_in st.slots s.who) z.free))
  waits-way g c k (go.send z) = same c refl refl refl
  waits-way g c k (go.call_busy e) = rests (rw (c, k refl)) (no_result c refl) (λ o j. refl)
  waits-way g c k (go.call z) = call-waits c (k refl) z
  waits-way g c k (go.poll_open a e) = rests (no_call c refl) (rw (c, a)) (λ o j. refl)
  waits-way g c k (go.poll a e) = rests (no_call c refl) (rw (c, a)) (λ o j. refl)
  waits-way g c k (go.collect z) = collects c z refl
  waits-way g c k (go.answer z e) = one s.who (finishing (slot_in st.slots s.who)) c refl refl refl (λ o. refl)
  waits-way g c k (go.late z e) = one s.who (finishing (slot_in st.slots s.who)) c refl refl refl (λ o. refl)
  waits-way g c k (go.end z) = one s.who no_slot c refl refl refl (λ o. sym (waits-none o (slot_in st.slots s.who) (no-caller (slot_in st.slots s.who).life z.running)))
  waits-way g c k (go.spawn z) =
      let x = instance_of (runnable_conf_in cfg.runnables s.what) s.what (runnable_in st.runnables s.what) in
      one (lowest_empty st.slots) x c refl refl refl
      (λ o. waits-none o x (no-caller x.life (new-runs cfg st s.what)) ∙ sym (waits-none o (slot_in st.slots (lowest_empty st.slots)) (no-caller (slot_in st.slots (lowest_empty st.slots)).life (empty_runs cfg st (lowest_empty st.slots) g z.slot (lowest-empty st.slots z.slot)))))
  waits-way g c k (go.timeout z) = same c refl refl refl
  waits-way g c k (go.tick z) = same c refl refl refl
  waits-way g c k (go.wait z) = rests (no_call c refl) (no_result c refl) (λ o j. slots-after-kept (waits_on o) s.argument.number (after-waits o s.argument.number) st.slots j)
  waits-way g c k (go.fail z) = one s.who (failing (slot_in st.slots s.who)) c refl refl refl (λ o. refl)
  waits-way g c k (go.hold z) =
      one s.who (awaiting (slot_in st.slots s.who) (on_element s.what s.argument.number)) c refl refl refl
      (λ o. sym (waits-none o (slot_in st.slots s.who) (no-caller (slot_in st.slots s.who).life z.who.running)))
  waits-way g c k (go.give_up z) = one s.who (running_on (slot_in st.slots s.who)) c refl refl refl (λ o. sym (waits-none o (slot_in st.slots s.who) z.free))
  waits-way g c k (go.read_copy z) = same c refl refl refl
  waits-way g c k (go.write_copy z) = same c refl refl refl

-- ---- the recording, step by step

bound-one : (cfg : Config) (o : ℕ) (rs : List Step) (s : Step) → bound_in cfg o (rs ++ (s ∷ [])) ≡ bound_after cfg o (bound_in cfg o rs) s
unfolding bound_in
bound-one cfg o rs s = traced-one (λ n. bound_after cfg o) false rs s

awaits-one : (cfg : Config) (i : ℕ) (rs : List Step) (s : Step) → awaits_in cfg i (rs ++ (s ∷ [])) ≡ awaits_after cfg i (length rs + 1) (awaits_in cfg i rs) s
unfolding awaits_in
awaits-one cfg i rs s = traced-one (awaits_after cfg i) 0 rs s

module _ (cfg : Config) (s : Step) where
  binds-told : s.code ≡ call_code → s.claim ≡ ok_v → (operation_conf_in cfg.operations s.what).asynchronous ≡ false → binds cfg s ≡ true
  unfolding binds same_value
  binds-told c k e = rw (c, k, e)

  frees-told : s.code ≡ result_code → (operation_conf_in cfg.operations s.what).asynchronous ≡ false → frees cfg s ≡ true
  unfolding asks_synchronous
  frees-told c e = rw (c, e)

  result-binds : s.code ≡ result_code → binds cfg s ≡ false
  unfolding binds
  result-binds c = rw c

  -- a step of another instance, and one that neither binds nor frees
  awaits-other : (i n w : ℕ) → (s.who ≡ i → ⊥) → awaits_after cfg i n w s ≡ w
  unfolding awaits_after
  awaits-other i n w d = rw (ne_eqb s.who i d)

  awaits-rests : (i n w : ℕ) → binds cfg s ≡ false → frees cfg s ≡ false → awaits_after cfg i n w s ≡ w
  unfolding awaits_after
  awaits-rests i n w a b = rw (a, b) (pick-alike (eqb s.who i) w)

  bound-other : (o : ℕ) (w : Bool) → (s.what ≡ o → ⊥) → bound_after cfg o w s ≡ w
  unfolding bound_after
  bound-other o w d = rw (ne_eqb s.what o d)

  bound-rests : (o : ℕ) (w : Bool) → binds cfg s ≡ false → frees cfg s ≡ false → bound_after cfg o w s ≡ w
  unfolding bound_after
  bound-rests o w a b = rw (a, b) (pick-alike (eqb s.what o) w)

-- ---- an operation is bound as the recording says

pub record Bounds (cfg : Config) (ss : Slots) (rs : List Step) : Type 0 where
  pub bound : (o : ℕ) → is_bound ss o ≡ bound_in cfg o rs

-- at the start nobody waits
none-waits : (o : ℕ) → waiters_of no_slots o ≡ 0
unfolding no_places place_in no_slot waiters_of waits_on
none-waits o = sum-zero _ 32 (λ k b. ap bit (all_alike (λ (y : Slot). waits_on o y ≡ false) 32 no_slot k refl))

pub bounds-start : (cfg : Config) → Bounds cfg (start_of cfg).slots []
unfolding start_of bound_in traced_from
bounds-start cfg = record { bound = λ o. ap (ltb 0) (none-waits o) }

-- slots that wait as before have as many waiters
same-waiters : (ss ss' : Slots) (o : ℕ) → ((k : ℕ) → waits_on o (slot_in ss' k) ≡ waits_on o (slot_in ss k)) → waiters_of ss' o ≡ waiters_of ss o
unfolding waiters_of
same-waiters ss ss' o e = sum_same _ _ 32 (λ k b. ap bit (e k))

module _ (cfg : Config) (st : State) (s : Step) (st' : State) (rs : List Step) (g : Sound cfg st) where
  pub bounds-step : Waits cfg st s st' → Bounds cfg st.slots rs → Bounds cfg st'.slots (rs ++ (s ∷ []))
  unfolding bound_after
  bounds-step w l = record { bound = λ o. go w o (ℕ_discrete o s.what) ∙ sym (bound-one cfg o rs s) }
    where
      go : Waits cfg st s st' → (o : ℕ) → Dec (o ≡ s.what) → is_bound st'.slots o ≡ bound_after cfg o (bound_in cfg o rs) s
      go (calls c k e z q) o (yes d) =
          rw (q, d, eq-eqb s.what s.what refl, binds-told cfg s c k e)
          (lt-ltb 0 (waiters_of (called cfg st s.who s.what s.argument).slots s.what) (omega (arith, call-waiters cfg st s.who s.what s.argument g z s.what, ap (λ (b : Bool). bit (both (not b) (eqb s.what s.what))) e, ap bit (eq-eqb s.what s.what refl))))
      go (calls c k e z q) o (no n) = rw q (ap (ltb 0) (other o n) ∙ l.bound o ∙ sym (bound-other cfg s o (bound_in cfg o rs) (λ d. n (sym d))))
        where
          other : (o : ℕ) → (o ≡ s.what → ⊥) → waiters_of (called cfg st s.who s.what s.argument).slots o ≡ waiters_of st.slots o
          other o n = call-waiters cfg st s.who s.what s.argument g z o ∙ rw (ne_eqb s.what o (λ d. n (sym d)), both-no (not (operation_conf_in cfg.operations s.what).asynchronous) false refl) (add-zero _)
      go (collects c z q) o (yes d) =
          rw (q, d, eq-eqb s.what s.what refl, result-binds cfg s c, frees-told cfg s c z.synchronous)
          (le-ltb 0 (waiters_of (gone_on st s.who).slots s.what) (omega (arith, collect-waiters cfg st s.who s.what g z s.what, ap bit (eq-eqb s.what s.what refl), g.waiters.most s.what (omega (arith, z.inside, operations-most cfg g.config)))))
      go (collects c z q) o (no n) =
          let w : waiters_of (gone_on st s.who).slots o ≡ waiters_of st.slots o = omega (arith, collect-waiters cfg st s.who s.what g z o, ap bit (ne_eqb s.what o (λ d. n (sym d)))) in
          rw q (ap (ltb 0) w ∙ l.bound o ∙ sym (bound-other cfg s o (bound_in cfg o rs) (λ d. n (sym d))))
      go (rests a b e) o d = ap (ltb 0) (same-waiters st.slots st'.slots o (e o)) ∙ l.bound o ∙ sym (bound-rests cfg s o (bound_in cfg o rs) a b)

-- ---- an instance waits for its own call

-- the instance in the slot i waits on o for the call k: its own, made where it lives still, and no other was started there since
pub record Waiter (rs : List Step) (h : History) (i o k : ℕ) : Type 0 where
  pub earlier : List Step
  pub call : Step
  pub between : List Step
  pub whole : rs ≡ earlier ++ (call ∷ between)
  pub place : k ≡ length earlier + 1
  pub started : (call.code ≡ call_code) × (call.what ≡ o) × (call.claim ≡ ok_v)
  pub caller : call.who ≡ i
  pub lives : (0 < lives_in i earlier) × (lives_in i rs ≡ lives_in i earlier)
  pub alone : (j : ℕ) → Started between j o → ⊥
  pub newest : k ≡ latest_on h o

pub record Awaits (cfg : Config) (ss : Slots) (rs : List Step) (h : History) : Type 0 where
  pub each : (i : ℕ) → is_caller (slot_in ss i).life ≡ true → Waiter rs h i (slot_in ss i).life.awaited.on (awaits_in cfg i rs)
  pub idle : (i : ℕ) → is_caller (slot_in ss i).life ≡ false → awaits_in cfg i rs ≡ 0

pub awaits-start : (cfg : Config) → Awaits cfg (start_of cfg).slots [] nothing
unfolding start_of no_places place_in no_slot awaits_in traced_from
awaits-start cfg = record {
  each = λ i e. absurd (clash _ e (all_alike (λ (y : Slot). is_caller y.life ≡ false) 32 no_slot i refl));
  idle = λ i e. refl;
}

-- its call is at its place
pub waiter-started : (rs : List Step) (h : History) (i o k : ℕ) → Waiter rs h i o k → Started rs k o
waiter-started rs h i o k w = rw (w.whole, w.place, add-one, ← append_assoc w.earlier (w.call ∷ []) w.between, ← w.started.1) (started-more (w.earlier ++ (w.call ∷ [])) w.between _ _ (started-here w.earlier w.call w.started.0 w.started.2))

-- what is given is the latest ending there, which is that of its call
pub own-ending : (cfg : Config) (rs : List Step) (s : Step) (h : History) (l : Option Ending) → last_on s.what h.endings ≡ l → Waiter rs h s.who s.what (awaits_in cfg s.who rs)
    → ended_call (last_on s.what h.endings) ≡ latest_on h s.what → s.claim ≡ delivered (last_on s.what h.endings)
    → (e : Ending) × (last_on s.what h.endings ≡ some e) × (s.claim ≡ given e.how) × Own cfg rs s e
own-ending cfg rs s h none q w a b = absurd (omega (arith, w.place, w.newest, a, ap ended_call q))
own-ending cfg rs s h (some e) q w a b =
    let k : awaits_in cfg s.who rs ≡ e.call = w.newest ∙ sym a ∙ ap ended_call q in (
      e,
      q,
      b ∙ ap delivered q,
      record {
        earlier = w.earlier;
        call = w.call;
        between = w.between;
        whole = w.whole;
        place = sym k ∙ w.place;
        started = w.started;
        caller = w.caller;
        lives = w.lives;
        waits = k;
        alone = w.alone;
      },
    )

-- it goes on while nothing starts there and it lives on
waiter-on : (cfg : Config) (rs : List Step) (h : History) (s : Step) (i o k : ℕ) → (s.code ≡ call_code → s.claim ≡ ok_v → s.what ≡ o → ⊥) → lives_in i (rs ++ (s ∷ [])) ≡ lives_in i rs
    → Waiter rs h i o k → Waiter (rs ++ (s ∷ [])) (observe cfg h s) i o k
waiter-on cfg rs h s i o k n l w = record {
  earlier = w.earlier;
  call = w.call;
  between = w.between ++ (s ∷ []);
  whole = ap (λ (y : List Step). y ++ (s ∷ [])) w.whole ∙ append_assoc w.earlier (w.call ∷ w.between) (s ∷ []);
  place = w.place;
  started = w.started;
  caller = w.caller;
  lives = (w.lives.0, l ∙ w.lives.1);
  alone = λ j x. w.alone j (started-older w.between s j o n x);
  newest = w.newest ∙ sym (latest-still cfg h s o n);
}

-- ---- slots that wait on the same

module _ (x y : Slot) (e : (o : ℕ) → waits_on o y ≡ waits_on o x) where
  same-waits : is_caller y.life ≡ true → (is_caller x.life ≡ true) × (x.life.awaited.on ≡ y.life.awaited.on)
  unfolding waits_on
  same-waits w =
      let t : waits_on y.life.awaited.on x ≡ true = sym (e y.life.awaited.on) ∙ rw (w, eq-eqb y.life.awaited.on y.life.awaited.on refl) in
      (both_left (is_caller x.life) _ t, eqb-true _ _ (both_right (is_caller x.life) _ t))

  same-rests : is_caller y.life ≡ false → is_caller x.life ≡ false
  unfolding waits_on
  same-rests w = by (is_caller x.life) refl
    where
      by : (b : Bool) → is_caller x.life ≡ b → is_caller x.life ≡ false
      by false q = q
      by true q = absurd (clash _ (e x.life.awaited.on ∙ rw (q, eq-eqb x.life.awaited.on x.life.awaited.on refl)) (waits-none x.life.awaited.on y w))

-- ---- every accepted step

module _ (cfg : Config) (st : State) (s : Step) {u : Value} (a : (step_of cfg st s).answer ≡ Taken u) where
  abbrev fine : Sound cfg st
  fine = told cfg st (accepted cfg st s a).0

  pub waits-by : Waits cfg st s (step_of cfg st s).state
  waits-by = waits-way cfg st s fine refl (claim-told cfg st s a) (gone cfg st s refl a)

  -- who waits neither ends nor finds another in its slot
  still : (rs : List Step) (i : ℕ) → is_caller (slot_in st.slots i).life ≡ true → lives_in i (rs ++ (s ∷ [])) ≡ lives_in i rs
  still rs i w =
      lives-one i rs s
      ∙ lives-on i (length rs + 1) (lives_in i rs) s
      (λ c e. let z = spawn-told cfg st s (way cfg st s c refl a) in
      let k = lowest_empty st.slots in
      let q : k ≡ i = sym (ap (λ (v : Value). v.number) z.1) ∙ e in
      clash _ w (ap (λ (j : ℕ). is_caller (slot_in st.slots j).life) (sym q) ∙ no-caller (slot_in st.slots k).life (empty_runs cfg st k fine z.0.slot (lowest-empty st.slots z.0.slot))))
      (λ c e. clash _ w (ap (λ (j : ℕ). is_caller (slot_in st.slots j).life) (sym e) ∙ no-caller (slot_in st.slots s.who).life (end-told cfg st s (way cfg st s c refl a)).running))

  -- no call starts where one waits
  kept_out : (i : ℕ) → is_caller (slot_in st.slots i).life ≡ true → s.code ≡ call_code → s.claim ≡ ok_v → s.what ≡ (slot_in st.slots i).life.awaited.on → ⊥
  unfolding waiters_of waits_on place_in no_slot
  kept_out i w c k e =
      let z = call-told cfg st s k (way cfg st s c refl a) in
      let b = inside_of (λ (y : Slot). is_caller y.life ≡ true) st.slots.at i no_slot (λ q. clash false q refl) w in
      let t : waits_on s.what (slot_in st.slots i) ≡ true = rw (w, eq-eqb (slot_in st.slots i).life.awaited.on s.what (sym e)) in
      omega (arith, z.free, sum-term (λ (j : ℕ). bit (waits_on s.what (slot_in st.slots j))) i 32 (omega (arith, b, slots_length cfg st fine)), ap bit t)

  module _ (rs : List Step) (h : History) (t : Tied st h) (n : Named rs h) (v : Lives st.slots rs) (l : Awaits cfg st.slots rs h) where
    -- who waited before goes on waiting
    goes : (i : ℕ) → is_caller (slot_in st.slots i).life ≡ true → Waiter (rs ++ (s ∷ [])) (observe cfg h s) i (slot_in st.slots i).life.awaited.on (awaits_in cfg i rs)
    goes i w = waiter-on cfg rs h s i (slot_in st.slots i).life.awaited.on (awaits_in cfg i rs) (kept_out i w) (still rs i w) (l.each i w)

    -- the caller of a synchronous operation begins to wait
    begin : s.code ≡ call_code → s.claim ≡ ok_v → (operation_conf_in cfg.operations s.what).asynchronous ≡ false → CanCall cfg st s.who s.what s.argument → Waiter (rs ++ (s ∷ [])) (observe cfg h s) s.who s.what (length rs + 1)
    unfolding Started
    begin c k e z = record {
      earlier = rs;
      call = s;
      between = [];
      whole = refl;
      place = refl;
      started = (c, refl, k);
      caller = refl;
      lives = (
        ltb-true 0 (lives_in s.who rs) (sym (v.used s.who) ∙ z.who.there.used),
        lives-one s.who rs s ∙ lives-on s.who (length rs + 1) (lives_in s.who rs) s (λ q d. other-code spawn_code c refl q) (λ q d. other-code end_code c refl q),
      );
      alone = λ j x. x;
      newest = rw (call-adds cfg h s c k) (omega (arith, n.place, get_or-set_same h.latest s.what (h.place + 1) 0 (omega (arith, t.calls.size, operations-most cfg fine.config, z.inside))));
    }

    awaits-went : (st' : State) → Waits cfg st s st' → Awaits cfg st'.slots (rs ++ (s ∷ [])) (observe cfg h s)
    unfolding place_in with_place called caller_after awaits_after
    awaits-went st' (calls c k e z q) = record { each = λ i. rw q (each i (ℕ_discrete i s.who)); idle = λ i. rw q (idle i (ℕ_discrete i s.who)) }
      where
        inside : s.who < length st.slots.at
        inside = slot-inside st.slots s.who z.who.there.used

        new : get_or (called cfg st s.who s.what s.argument).slots.at s.who no_slot ≡ waiting_on (slot_in st.slots s.who) s.what
        new = get_or-set_same st.slots.at s.who _ no_slot inside ∙ rw e

        old : (i : ℕ) → (i ≡ s.who → ⊥) → get_or (called cfg st s.who s.what s.argument).slots.at i no_slot ≡ slot_in st.slots i
        old i d = get_or-set_other st.slots.at s.who i _ no_slot d

        each : (i : ℕ) → Dec (i ≡ s.who) → is_caller (slot_in (called cfg st s.who s.what s.argument).slots i).life ≡ true
            → Waiter (rs ++ (s ∷ [])) (observe cfg h s) i (slot_in (called cfg st s.who s.what s.argument).slots i).life.awaited.on (awaits_in cfg i (rs ++ (s ∷ [])))
        each i (yes d) w = rw (d, new, awaits-one cfg s.who rs s, eq-eqb s.who s.who refl, binds-told cfg s c k e) (begin c k e z)
        each i (no d) w = rw (old i d, awaits-one cfg i rs s, awaits-other cfg s i (length rs + 1) (awaits_in cfg i rs) (λ y. d (sym y))) (goes i (rw (old i d) at w))

        idle : (i : ℕ) → Dec (i ≡ s.who) → is_caller (slot_in (called cfg st s.who s.what s.argument).slots i).life ≡ false → awaits_in cfg i (rs ++ (s ∷ [])) ≡ 0
        idle i (yes d) w = absurd (clash true refl (rw (d, new) at w))
        idle i (no d) w = awaits-one cfg i rs s ∙ awaits-other cfg s i (length rs + 1) (awaits_in cfg i rs) (λ y. d (sym y)) ∙ l.idle i (rw (old i d) at w)
    awaits-went st' (collects c z q) = record { each = λ i. rw q (each i (ℕ_discrete i s.who)); idle = λ i. rw q (idle i (ℕ_discrete i s.who)) }
      where
        new : get_or (gone_on st s.who).slots.at s.who no_slot ≡ running_on (slot_in st.slots s.who)
        new = get_or-set_same st.slots.at s.who _ no_slot (slot-inside st.slots s.who z.there.used)

        old : (i : ℕ) → (i ≡ s.who → ⊥) → get_or (gone_on st s.who).slots.at i no_slot ≡ slot_in st.slots i
        old i d = get_or-set_other st.slots.at s.who i _ no_slot d

        each : (i : ℕ) → Dec (i ≡ s.who) → is_caller (slot_in (gone_on st s.who).slots i).life ≡ true
            → Waiter (rs ++ (s ∷ [])) (observe cfg h s) i (slot_in (gone_on st s.who).slots i).life.awaited.on (awaits_in cfg i (rs ++ (s ∷ [])))
        each i (yes d) w = absurd (clash false (rw (d, new) at w) refl)
        each i (no d) w = rw (old i d, awaits-one cfg i rs s, awaits-other cfg s i (length rs + 1) (awaits_in cfg i rs) (λ y. d (sym y))) (goes i (rw (old i d) at w))

        idle : (i : ℕ) → Dec (i ≡ s.who) → is_caller (slot_in (gone_on st s.who).slots i).life ≡ false → awaits_in cfg i (rs ++ (s ∷ [])) ≡ 0
        idle i (yes d) w = rw (d, awaits-one cfg s.who rs s, eq-eqb s.who s.who refl, result-binds cfg s c, frees-told cfg s c z.synchronous)
        idle i (no d) w = awaits-one cfg i rs s ∙ awaits-other cfg s i (length rs + 1) (awaits_in cfg i rs) (λ y. d (sym y)) ∙ l.idle i (rw (old i d) at w)
    awaits-went st' (rests x y e) = record {
      each = λ i w.
          let o = same-waits (slot_in st.slots i) (slot_in st'.slots i) (λ o. e o i) w in
          rw (awaits-one cfg i rs s, awaits-rests cfg s i (length rs + 1) (awaits_in cfg i rs) x y, ← o.1) (goes i o.0);
      idle = λ i w. awaits-one cfg i rs s ∙ awaits-rests cfg s i (length rs + 1) (awaits_in cfg i rs) x y ∙ l.idle i (same-rests (slot_in st.slots i) (slot_in st'.slots i) (λ o. e o i) w);
    }

    pub awaits-step : Awaits cfg (step_of cfg st s).state.slots (rs ++ (s ∷ [])) (observe cfg h s)
    awaits-step = awaits-went (step_of cfg st s).state waits-by
