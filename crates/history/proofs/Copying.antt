-- What a step does to the slots and to the copies of instances, as one of four turns (`Turns`): an instance begins and copies, one ends, one sets a copy, or none of these. By turns, every instance has as copies what its elements held
-- before its spawn, at every moment (`Copies`, `copies_at`).
-- Assumes nothing.
use Prim.Native.Nat.{ℕ, zero, suc, ◌+◌, ◌-◌, ◌≤◌, ◌<◌}
use mathlib.Core.Bool.{Bool, true, false}
use mathlib.Core.List.{List, [], ◌∷◌, ◌++◌}
use mathlib.Core.Path.{◌≡◌, refl, sym, ap, ◌∙◌}
use native.Mathlib.Decide.{ℕ_discrete}
use native.Mathlib.Omega.{arith}
use lib.Dec.{eqb}
use lib.ListN.{length, get_or, set, take}
use lib.Seq.{get_or-set_same, get_or-set_other}
use borrow.Author.Tests.{eq-eqb, ne_eqb}
use Rattle.numbers.specs.Codes.{send_code, end_code, spawn_code, fail_code, write_copy_code}
use Rattle.laws.specs.Choice.{pick, both, either}
use Rattle.laws.proofs.Choosing.{clash, pick-has}
use Rattle.laws.proofs.Places.{each_at}
use Rattle.values.specs.Values.{number_v, never_received_v}
use Rattle.faces.specs.Types.{Value, Step, Taken, Lists, Config, Elements, Slot, Copies, Copied, State}
use Rattle.config.specs.Lists.{lists_at, element_at}
use Rattle.entries.specs.Faults.{config_sound}
use Rattle.state.specs.Parts.{no_slot, no_copies}
use Rattle.state.specs.Start.{start_of}
use Rattle.state.specs.Tables.{element_in, slot_in, with_slot, copy_in, copies_in, with_copies, with_outgoing}
use Rattle.rules.proofs.Listing.{lists-none}
use Rattle.effects.specs.Step.{step_of}
use Rattle.effects.specs.Steps.{entering, exiting, running_on, caller_after, finishing, failing, awaiting, on_element, fed, called, closed, waited, spawned, has_failed, runnable_of, cleared, ended, copy_of, copies_of, copied_into, lowest_empty, begun_in, setting}
use Rattle.stays_sound.specs.Facts.{Sound, CanEnd, CanSpawn, CanWriteCopy}
use Rattle.stays_sound.proofs.Told.{told, shape-told, slots_length}
use Rattle.stays_sound.proofs.Kept.{here, slot_kept, slots-after-kept, caller-kept}
use Rattle.stays_sound.proofs.Copies.{no-copies-blank, new-runnable}
use Rattle.stays_sound.proofs.Ways.{Way}
use Rattle.stays_sound.proofs.Ways as go
use Rattle.stays_sound.proofs.Accepted.{accepted, claim-told, gone}
use Rattle.history.specs.History.{lives_after, lives_in}
use Rattle.history.specs.Promises.{Run}
use Rattle.history.proofs.Beside.{all_alike}
use Rattle.history.proofs.Traced.{traced-always}
use Rattle.history.proofs.Deeds.{other-code}
use Rattle.history.proofs.Lives.{lives-one, spawn-puts, lives-on}
use Rattle.state.specs.Places.{no_places, place_in, with_place}
use Rattle.history.proofs.Runs.{along}

-- ---- what a step does

pub data Turns (cfg : Config) (st : State) (s : Step) (t : State) : Type 0 where
  stays :
      (s.code ≡ spawn_code → ⊥) → (s.code ≡ end_code → ⊥) → (s.code ≡ write_copy_code → ⊥)
      → ((i : ℕ) → (slot_in t.slots i).used ≡ (slot_in st.slots i).used) → ((i : ℕ) → (slot_in t.slots i).life.runnable ≡ (slot_in st.slots i).life.runnable)
      → ((i : ℕ) → has_failed t i ≡ either (has_failed st i) (both (eqb s.code fail_code) (eqb s.who i)))
      → t.incoming ≡ st.incoming → t.outgoing ≡ st.outgoing → Turns cfg st s t
  begins : s.code ≡ spawn_code → s.claim ≡ number_v (lowest_empty st.slots) → CanSpawn cfg st s.what → t ≡ begun_in cfg st s.what (lowest_empty st.slots) → Turns cfg st s t
  ends : s.code ≡ end_code → CanEnd st s.who → t ≡ ended cfg st s.who → Turns cfg st s t
  sets :
      s.code ≡ write_copy_code → CanWriteCopy cfg st s.who s.what s.argument
      → t ≡ with_outgoing st (with_copies st.outgoing s.who (setting cfg st s.who s.what s.argument)) → Turns cfg st s t

pub either-none : (b : Bool) → b ≡ either b false
either-none true = refl
either-none false = refl

-- a fail of the instance x makes it failed, and leaves each other
fails-one : (b : Bool) → either b true ≡ true
fails-one true = refl
fails-one false = refl

module _ (cfg : Config) (st : State) (s : Step) where
  -- no fail
  fine : {n : ℕ} (t : State) → s.code ≡ n → eqb n fail_code ≡ false → ((i : ℕ) → has_failed t i ≡ has_failed st i) → (i : ℕ) → has_failed t i ≡ either (has_failed st i) (both (eqb s.code fail_code) (eqb s.who i))
  fine t c f e i = e i ∙ rw (c, f) (either-none (has_failed st i))

  -- the slots as they were
  same : {n : ℕ} {t : State} → s.code ≡ n → eqb n spawn_code ≡ false → eqb n end_code ≡ false → eqb n write_copy_code ≡ false → eqb n fail_code ≡ false
      → t.slots ≡ st.slots → t.incoming ≡ st.incoming → t.outgoing ≡ st.outgoing → Turns cfg st s t
  same {n} {t} c a b d f e g h = stays (other-code spawn_code c a) (other-code end_code c b) (other-code write_copy_code c d) (λ i. rw e) (λ i. rw e) (fine t c f (λ i. rw e)) g h

  -- one slot replaced that is used, of the same runnable, and has failed as before
  one : {n : ℕ} {t : State} → s.code ≡ n → eqb n spawn_code ≡ false → eqb n end_code ≡ false → eqb n write_copy_code ≡ false → eqb n fail_code ≡ false
      → (k : ℕ) (x : Slot) → t.slots ≡ with_slot st.slots k x → x.used ≡ (slot_in st.slots k).used → x.life.runnable ≡ (slot_in st.slots k).life.runnable → x.life.failed ≡ (slot_in st.slots k).life.failed
      → t.incoming ≡ st.incoming → t.outgoing ≡ st.outgoing → Turns cfg st s t
  one {n} {t} c a b d f k x e u r l g h =
      stays (other-code spawn_code c a) (other-code end_code c b) (other-code write_copy_code c d)
      (λ i. rw e (slot_kept (λ (y : Slot). y.used) st.slots k x u i)) (λ i. rw e (slot_kept (λ (y : Slot). y.life.runnable) st.slots k x r i))
      (fine t c f (λ i. rw e (slot_kept (λ (y : Slot). y.life.failed) st.slots k x l i))) g h

  fail-turns : s.code ≡ fail_code → (slot_in st.slots s.who).used ≡ true → s.who < length st.slots.at → Turns cfg st s (record { runnables = st.runnables; variables = st.variables; areas = st.areas; elements = st.elements; operations = st.operations; timers = st.timers; slots = with_slot st.slots s.who (failing (slot_in st.slots s.who)); incoming = st.incoming; outgoing = st.outgoing })
  unfolding place_in with_place
  fail-turns c u l =
      stays (other-code spawn_code c refl) (other-code end_code c refl) (other-code write_copy_code c refl)
      (slot_kept (λ (y : Slot). y.used) st.slots s.who (failing (slot_in st.slots s.who)) refl) (slot_kept (λ (y : Slot). y.life.runnable) st.slots s.who (failing (slot_in st.slots s.who)) refl)
      (λ i. rw c (by i (ℕ_discrete i s.who))) refl refl
    where
      by : (i : ℕ) → Dec (i ≡ s.who) → (get_or (set st.slots.at s.who (failing (get_or st.slots.at s.who no_slot))) i no_slot).life.failed ≡ either (get_or st.slots.at i no_slot).life.failed (eqb s.who i)
      by i (yes e) = rw (e, get_or-set_same st.slots.at s.who (failing (get_or st.slots.at s.who no_slot)) no_slot l, eq-eqb s.who s.who refl) (sym (fails-one (get_or st.slots.at s.who no_slot).life.failed))
      by i (no n) = rw (get_or-set_other st.slots.at s.who i (failing (get_or st.slots.at s.who no_slot)) no_slot n, ne_eqb s.who i (λ q. n (sym q))) (either-none (get_or st.slots.at i no_slot).life.failed)

  turns-way : {n : ℕ} {w : Value} {t : State} → Sound cfg st → s.code ≡ n → (eqb n send_code ≡ false → s.claim ≡ w) → Way cfg st s n w t → Turns cfg st s t
  unfolding fed closed waited called
  turns-way g c k go.read_variable = same c refl refl refl refl refl refl refl
  turns-way g c k (go.write_variable z) = same c refl refl refl refl refl refl refl
  turns-way g c k (go.enter z) = one c refl refl refl refl s.who (entering (slot_in st.slots s.who) s.what) refl refl refl refl refl refl
  turns-way g c k (go.exit z) = one c refl refl refl refl s.who (exiting (slot_in st.slots s.who)) refl refl refl refl refl refl
  turns-way g c k (go.read z) = same c refl refl refl refl refl refl refl
  turns-way g c k (go.write z) = same c refl refl refl refl refl refl refl
  turns-way g c k go.updated = same c refl refl refl refl refl refl refl
  turns-way g c k (go.invalidate z) = same c refl refl refl refl refl refl refl
  turns-way g c k (go.receive_none e w) = same c refl refl refl refl refl refl refl
  turns-way g c k (go.receive z) = one c refl refl refl refl s.who (running_on (slot_in st.slots s.who)) refl refl refl refl refl refl
  turns-way g c k (go.send z) = same c refl refl refl refl refl refl refl
  turns-way g c k (go.call_busy e) = same c refl refl refl refl refl refl refl
  turns-way g c k (go.call z) =
      let x = slot_in st.slots s.who in
      one c refl refl refl refl s.who (caller_after cfg s.what x) refl (caller-kept (λ y. y.used) (λ y o. refl) cfg s.what x) (caller-kept (λ y. y.life.runnable) (λ y o. refl) cfg s.what x) (caller-kept (λ y. y.life.failed) (λ y o. refl) cfg s.what x) refl refl
  turns-way g c k (go.poll_open a e) = same c refl refl refl refl refl refl refl
  turns-way g c k (go.poll a e) = same c refl refl refl refl refl refl refl
  turns-way g c k (go.collect z) = one c refl refl refl refl s.who (running_on (slot_in st.slots s.who)) refl refl refl refl refl refl
  turns-way g c k (go.answer z e) = one c refl refl refl refl s.who (finishing (slot_in st.slots s.who)) refl refl refl refl refl refl
  turns-way g c k (go.late z e) = one c refl refl refl refl s.who (finishing (slot_in st.slots s.who)) refl refl refl refl refl refl
  turns-way g c k (go.end z) = ends c z refl
  turns-way g c k (go.spawn z) = begins c (k refl) z refl
  turns-way g c k (go.timeout z) = same c refl refl refl refl refl refl refl
  turns-way g c k (go.tick z) = same c refl refl refl refl refl refl refl
  turns-way g c k (go.wait z) =
      let t = s.argument.number in
      stays (other-code spawn_code c refl) (other-code end_code c refl) (other-code write_copy_code c refl)
      (slots-after-kept (λ y. y.used) t (λ x. refl) st.slots) (slots-after-kept (λ y. y.life.runnable) t (λ x. refl) st.slots) (fine (waited cfg st t) c refl (slots-after-kept (λ y. y.life.failed) t (λ x. refl) st.slots)) refl refl
  turns-way g c k (go.fail z) = fail-turns c z.who.there.used (omega (arith, here cfg st s.who g z.who.there, slots_length cfg st g))
  turns-way g c k (go.hold z) = one c refl refl refl refl s.who (awaiting (slot_in st.slots s.who) (on_element s.what s.argument.number)) refl refl refl refl refl refl
  turns-way g c k (go.give_up z) = one c refl refl refl refl s.who (running_on (slot_in st.slots s.who)) refl refl refl refl refl refl
  turns-way g c k (go.read_copy z) = same c refl refl refl refl refl refl refl
  turns-way g c k (go.write_copy z) = sets c z refl

  pub turns : {v : Value} → (step_of cfg st s).answer ≡ Taken v → Turns cfg st s (step_of cfg st s).state
  turns h = turns-way (told cfg st (accepted cfg st s h).0) refl (claim-told cfg st s h) (gone cfg st s refl h)

-- ---- the tables of copies

pub copies-here : (cs : Copied) (k : ℕ) (c : Copies) → k < length cs.at → copies_in (with_copies cs k c) k ≡ c
unfolding place_in with_place
copies-here cs k c l = get_or-set_same cs.at k c no_copies l

pub copies-other : (cs : Copied) (k i : ℕ) (c : Copies) → (i ≡ k → ⊥) → copies_in (with_copies cs k c) i ≡ copies_in cs i
unfolding place_in with_place
copies-other cs k i c n = get_or-set_other cs.at k i c no_copies n

pub cleared-other : (t : Lists) (r : ℕ) (cs : Copied) (k i : ℕ) → (i ≡ k → ⊥) → copies_in (cleared t r cs k) i ≡ copies_in cs i
unfolding cleared
cleared-other t r cs k i n = pick-has (λ (y : Copied). copies_in y i ≡ copies_in cs i) (lists_at t r 0) _ cs (λ _. copies-other cs k i no_copies n) (λ _. refl)

copied-other : (cfg : Config) (r : ℕ) (es : Elements) (cs : Copied) (k i : ℕ) → (i ≡ k → ⊥) → copies_in (copied_into cfg r es cs k) i ≡ copies_in cs i
unfolding copied_into
copied-other cfg r es cs k i n = pick-has (λ (y : Copied). copies_in y i ≡ copies_in cs i) (lists_at cfg.incoming r 0) _ cs (λ _. copies-other cs k i (copies_of cfg.incoming r es) n) (λ _. refl)

-- what a new instance has copied
copied-here : (cfg : Config) (r : ℕ) (es : Elements) (cs : Copied) (k j : ℕ) → k < length cs.at → j < 4 → lists_at cfg.incoming r j ≡ true → copy_in (copies_in (copied_into cfg r es cs k) k) j ≡ (element_in es (element_at cfg.incoming r j)).value
unfolding copied_into copy_in copies_of copy_of
copied-here cfg r es cs k j l b h = by (lists_at cfg.incoming r 0) refl
  where
    f : ℕ → Value → Value
    f j v = pick (lists_at cfg.incoming r j) (element_in es (element_at cfg.incoming r j)).value never_received_v

    by : (x : Bool) → lists_at cfg.incoming r 0 ≡ x → get_or (copies_in (pick x (with_copies cs k (copies_of cfg.incoming r es)) cs) k).at j never_received_v ≡ (element_in es (element_at cfg.incoming r j)).value
    by true e = rw (copies-here cs k (copies_of cfg.incoming r es) l, each_at f never_received_v 4 no_copies.at j b (omega (arith, b, no-copies-blank.places)), h)
    by false e = absurd (clash (lists_at cfg.incoming r j) h (lists-none cfg.incoming r e j))

-- ---- what every instance has copied

-- the copies of the instance in the slot i are what its elements held in m, the state before its spawn
pub record CopiedAt (cfg : Config) (rs : List Step) (st : State) (i : ℕ) : Type 0 where
  pub m : State
  pub run : Run cfg (take (lives_in i rs - 1) rs) m
  pub held : (j : ℕ) → j < 4 → lists_at cfg.incoming (runnable_of st i) j ≡ true → copy_in (copies_in st.incoming i) j ≡ (element_in m.elements (element_at cfg.incoming (runnable_of st i) j)).value

pub record Copies' (cfg : Config) (rs : List Step) (st : State) : Type 0 where
  pub each : (i : ℕ) → (slot_in st.slots i).used ≡ true → CopiedAt cfg rs st i

-- nobody lives in a slot since later than the last step
pub lives-most : (i : ℕ) (rs : List Step) → lives_in i rs ≤ length rs
unfolding lives_in lives_after
lives-most i rs = traced-always (lives_after i) (λ n w. w ≤ n) keeps 0 rs (omega arith)
  where
    keeps : (n w : ℕ) (s : Step) → w ≤ n → lives_after i (n + 1) w s ≤ n + 1
    keeps n w s l =
        pick-has (λ x. x ≤ n + 1) (both (eqb s.code spawn_code) (eqb s.claim.number i)) _ _ (λ _. omega arith)
        (λ _. pick-has (λ x. x ≤ n + 1) (both (eqb s.code end_code) (eqb s.who i)) 0 w (λ _. omega arith) (λ _. omega (arith, l)))

pub take_more : {A : Type 0} (n : ℕ) (xs ys : List A) → n ≤ length xs → take n (xs ++ ys) ≡ take n xs
take_more zero xs ys l = refl
take_more (suc n) [] ys l = absurd (omega arith)
take_more (suc n) (x ∷ xs) ys l = ap (λ zs. x ∷ zs) (take_more n xs ys (omega arith))

pub take_all : {A : Type 0} (xs ys : List A) → take (length xs) (xs ++ ys) ≡ xs
take_all [] ys = refl
take_all (x ∷ xs) ys = ap (λ zs. x ∷ zs) (take_all xs ys)

module _ (cfg : Config) (before : List Step) (s : Step) (st t : State) (g : Sound cfg st) (r : Run cfg before st) (h : Copies' cfg before st) where
  -- an instance that lives on, and whose copies are as they were
  still : (i : ℕ) → (s.code ≡ spawn_code → s.claim.number ≡ i → ⊥) → (s.code ≡ end_code → s.who ≡ i → ⊥)
      → (slot_in st.slots i).used ≡ true → (slot_in t.slots i).life.runnable ≡ (slot_in st.slots i).life.runnable → copies_in t.incoming i ≡ copies_in st.incoming i → CopiedAt cfg (before ++ (s ∷ [])) t i
  still i a b u q e =
      let z = h.each i u in
      let w = lives_in i before in
      let l : lives_in i (before ++ (s ∷ [])) ≡ w = lives-one i before s ∙ lives-on i (length before + 1) w s a b in
      record {
        m = z.m;
        run = rw (l, take_more (w - 1) before (s ∷ []) (omega (arith, lives-most i before))) z.run;
        held = λ j b. rw (q, e) (z.held j b);
      }

  -- a new instance in the slot k, and the others
  begin-copies : s.code ≡ spawn_code → s.claim ≡ number_v (lowest_empty st.slots) → CanSpawn cfg st s.what → t ≡ begun_in cfg st s.what (lowest_empty st.slots) → CopiedAt cfg (before ++ (s ∷ [])) t (lowest_empty st.slots)
  unfolding spawned
  begin-copies c k z e =
      let i = lowest_empty st.slots in
      let l : lives_in i (before ++ (s ∷ [])) ≡ length before + 1 = lives-one i before s ∙ spawn-puts i (length before + 1) (lives_in i before) s c (ap (λ (x : Value). x.number) k) in
      let n : length before + 1 - 1 ≡ length before = omega arith in
      let q : (slot_in t.slots i).life.runnable ≡ s.what = rw e (new-runnable cfg st g s.what z) in
      record {
        m = st;
        run = rw (l, n, take_all before (s ∷ [])) r;
        held = rw (q, e) (λ j b h. copied-here cfg s.what st.elements st.incoming i j (omega (arith, z.slot, (shape-told st g.shape).incoming)) b h);
      }

  module _ (i : ℕ) (n : i ≡ lowest_empty st.slots → ⊥) (z : CanSpawn cfg st s.what) (e : t ≡ begun_in cfg st s.what (lowest_empty st.slots)) where
    begin-slot : slot_in t.slots i ≡ slot_in st.slots i
    unfolding spawned place_in with_place
    begin-slot = rw e (get_or-set_other st.slots.at (lowest_empty st.slots) i _ no_slot n)

    begin-used : (slot_in t.slots i).used ≡ true → (slot_in st.slots i).used ≡ true
    begin-used v = sym (ap (λ (x : Slot). x.used) begin-slot) ∙ v

    begin-runnable : (slot_in t.slots i).life.runnable ≡ (slot_in st.slots i).life.runnable
    begin-runnable = ap (λ (x : Slot). x.life.runnable) begin-slot

    begin-other : copies_in t.incoming i ≡ copies_in st.incoming i
    unfolding spawned
    begin-other = rw e (copied-other cfg s.what st.elements st.incoming (lowest_empty st.slots) i n)

  module _ (z : CanEnd st s.who) (e : t ≡ ended cfg st s.who) where
    end-gone : (slot_in t.slots s.who).used ≡ false
    unfolding place_in with_place no_slot
    end-gone = rw (e, get_or-set_same st.slots.at s.who no_slot no_slot (omega (arith, here cfg st s.who g z.there, slots_length cfg st g)))

    module _ (i : ℕ) (n : i ≡ s.who → ⊥) where
      end-slot : slot_in t.slots i ≡ slot_in st.slots i
      unfolding place_in with_place
      end-slot = rw e (get_or-set_other st.slots.at s.who i no_slot no_slot n)

      end-used : (slot_in t.slots i).used ≡ true → (slot_in st.slots i).used ≡ true
      end-used v = sym (ap (λ (x : Slot). x.used) end-slot) ∙ v

      end-runnable : (slot_in t.slots i).life.runnable ≡ (slot_in st.slots i).life.runnable
      end-runnable = ap (λ (x : Slot). x.life.runnable) end-slot

      end-other : copies_in t.incoming i ≡ copies_in st.incoming i
      end-other = rw e (cleared-other cfg.incoming (slot_in st.slots s.who).life.runnable st.incoming s.who i n)

  copies-turn : Turns cfg st s t → Copies' cfg (before ++ (s ∷ [])) t
  copies-turn (stays a b d u q f e o) = record { each = λ i v. still i (λ c k. a c) (λ c k. b c) (sym (u i) ∙ v) (q i) (rw e) }
  copies-turn (sets c z e) = record { each = λ i v. still i (λ q k. omega (arith, c, q)) (λ q k. omega (arith, c, q)) (rw e at v) (rw e) (rw e) }
  copies-turn (begins c k z e) = record { each = λ i v. by i v (ℕ_discrete i (lowest_empty st.slots)) }
    where
      by : (i : ℕ) → (slot_in t.slots i).used ≡ true → Dec (i ≡ lowest_empty st.slots) → CopiedAt cfg (before ++ (s ∷ [])) t i
      by i v (yes q) = rw q (begin-copies c k z e)
      by i v (no n) = still i (λ _ q. n (sym q ∙ ap (λ (x : Value). x.number) k)) (λ q _. omega (arith, c, q)) (begin-used i n z e v) (begin-runnable i n z e) (begin-other i n z e)
  copies-turn (ends c z e) = record { each = λ i v. by i v (ℕ_discrete i s.who) }
    where
      by : (i : ℕ) → (slot_in t.slots i).used ≡ true → Dec (i ≡ s.who) → CopiedAt cfg (before ++ (s ∷ [])) t i
      by i v (yes q) = absurd (clash _ v (rw q (end-gone z e)))
      by i v (no n) = still i (λ q _. omega (arith, c, q)) (λ _ q. n (sym q)) (end-used z e i n v) (end-runnable z e i n) (end-other z e i n)

pub copies-along : (cfg : Config) → config_sound cfg ≡ true → (rs : List Step) (st : State) → Run cfg rs st → Copies' cfg rs st
unfolding start_of no_places place_in no_slot
copies-along cfg c rs st e =
    along cfg (λ before m. Copies' cfg before m)
    (λ before s m r h a. copies-turn cfg before s m (step_of cfg m s).state (told cfg m (accepted cfg m s a).0) r h (turns cfg m s a))
    (record { each = λ i u. absurd (clash _ u (all_alike (λ (y : Slot). y.used ≡ false) 32 no_slot i refl)) }) rs st e
