-- Who is held, by the holds, receives and givings up of the recording. Every accepted step holds its instance, lets it go on, finds a queue empty for one that does not wait, or leaves all who are held as they were but for the
-- time that it lets pass (`Holds`, `holds-way`). So an instance is held exactly if the recording says so, by its own step, and what it has left is what has not passed since (`Held`).
-- Assumes nothing.
use Prim.Native.Nat.{ℕ, ◌+◌, ◌≤◌, ◌<◌}
use mathlib.Core.Bool.{Bool, true, false}
use mathlib.Core.List.{List, [], ◌∷◌, ◌++◌, append_assoc}
use mathlib.Core.Path.{◌≡◌, refl, sym, ◌∙◌, ap}
use native.Mathlib.Decide.{ℕ_discrete}
use native.Mathlib.Nat.{add-zero}
use native.Mathlib.Omega.{arith}
use lib.Dec.{eqb}
use lib.ListN.{length, get_or, length-append}
use lib.Seq.{get_or-set_same, get_or-set_other}
use borrow.Author.Tests.{leb-true, eqb-true, eq-eqb, ne_eqb}
use Rattle.numbers.specs.Codes.{receive_code, wait_code, hold_code, give_up_code}
use Rattle.numbers.specs.Tags.{operation_tag, required_tag}
use Rattle.laws.specs.Choice.{pick, either}
use Rattle.laws.proofs.Choosing.{clash, pick-alike}
use Rattle.laws.proofs.Looping.{all-at}
use Rattle.laws.proofs.Places.{inside_of, each_at}
use Rattle.faces.specs.Types.{Value, Step, Taken, Config, Life, Slot, Slots, State}
use Rattle.config.specs.Tables.{runnable_conf_in, operation_conf_in}
use Rattle.state.specs.Parts.{no_slot}
use Rattle.state.specs.Start.{start_of}
use Rattle.state.specs.Tables.{max_slots, runnable_in, slot_in, with_slot}
use Rattle.rules.specs.Rows.{no_part}
use Rattle.rules.specs.Sound.{is_caller, is_held, is_waiting}
use Rattle.effects.specs.Steps.{entering, exiting, fed, called, caller_after, waiting_on, running_on, awaiting, waits, on_element, held, gone_on, closed, finishing, failing, instance_of, lowest_empty, spawned, slot_after, slots_after, slot_lets, slots_let, waited}
use Rattle.effects.specs.Step.{step_of}
use Rattle.stays_sound.specs.Facts.{Sound, There, CanWait, CanHold}
use Rattle.stays_sound.proofs.Told.{told, slots_length}
use Rattle.stays_sound.proofs.Kept.{lowest-empty, slot_kept, slot_has, slot-inside, slots-after-kept}
use Rattle.stays_sound.proofs.Waiters.{empty_runs, new-runs}
use Rattle.stays_sound.proofs.Ways.{Way}
use Rattle.stays_sound.proofs.Ways as go
use Rattle.stays_sound.proofs.Accepted.{accepted, gone}
use Rattle.history.specs.History.{time_of, time_since, traced_from, held_after, held_in, HeldFor}
use Rattle.history.proofs.Beside.{all_alike}
use Rattle.history.proofs.Traced.{traced-one}
use Rattle.history.proofs.Timed.{since-more, since-now, still}
use Rattle.state.specs.Places.{no_places, place_in, with_place}
use Rattle.history.proofs.Deeds.{other-code}

-- ---- who is not held

-- one that waits for nothing, and one that waits on an operation
idle-free : (l : Life) → l.awaited.part ≡ no_part → is_held l ≡ false
idle-free l e = rw e

caller-free : (l : Life) → is_caller l ≡ true → is_held l ≡ false
caller-free l e = rw (eqb-true l.awaited.part operation_tag e)

rest-free : (l : Life) → is_waiting l ≡ false → is_held l ≡ false
rest-free l e = by (is_held l) refl
  where
    by : (b : Bool) → is_held l ≡ b → is_held l ≡ false
    by true h = absurd (clash (is_waiting l) (rw (eqb-true l.awaited.part required_tag h)) e)
    by false h = h

-- ---- what a step does to those who are held

-- a step that ends a holding
abbrev frees : ℕ → Bool
frees n = either (eqb n receive_code) (eqb n give_up_code)

pub data Holds (cfg : Config) (st : State) (s : Step) (st' : State) : Type 0 where
  holds : s.code ≡ hold_code → CanHold cfg st s.who s.what s.argument.number → st'.slots ≡ (held st s.who s.what s.argument.number).slots → Holds cfg st s st'
  goes_on : eqb s.code hold_code ≡ false → frees s.code ≡ true → time_of s ≡ 0 → There st s.who → st'.slots ≡ (gone_on st s.who).slots → Holds cfg st s st'
  finds : eqb s.code hold_code ≡ false → frees s.code ≡ true → time_of s ≡ 0 → waits st s.who ≡ false → st'.slots ≡ st.slots → Holds cfg st s st'
  rests : eqb s.code hold_code ≡ false → frees s.code ≡ false → ((k : ℕ) → is_held (slot_in st'.slots k).life ≡ is_held (slot_in st.slots k).life)
      → ((k : ℕ) → is_held (slot_in st.slots k).life ≡ true → ((slot_in st'.slots k).life.awaited.on ≡ (slot_in st.slots k).life.awaited.on) × ((slot_in st'.slots k).life.awaited.left + time_of s ≡ (slot_in st.slots k).life.awaited.left))
      → Holds cfg st s st'

module _ (cfg : Config) (st : State) (s : Step) {n : ℕ} (c : s.code ≡ n) where
  quick : eqb n wait_code ≡ false → time_of s ≡ 0
  quick f = still s (λ e. clash (eqb n wait_code) (ap (λ (m : ℕ). eqb m wait_code) (sym c ∙ e)) f)

  -- slots as they were
  same : {t : State} → eqb n hold_code ≡ false → frees n ≡ false → eqb n wait_code ≡ false → t.slots ≡ st.slots → Holds cfg st s t
  same a b w e = rests (rw (c, a)) (rw (c, b)) (λ k. rw e) (λ k h. rw (e, quick w) (refl, add-zero _))

  -- one slot replaced, held as before
  one : {t : State} (i : ℕ) (x : Slot) → eqb n hold_code ≡ false → frees n ≡ false → eqb n wait_code ≡ false → t.slots ≡ with_slot st.slots i x → is_held x.life ≡ is_held (slot_in st.slots i).life
      → (is_held (slot_in st.slots i).life ≡ true → (x.life.awaited.on ≡ (slot_in st.slots i).life.awaited.on) × (x.life.awaited.left + 0 ≡ (slot_in st.slots i).life.awaited.left)) → Holds cfg st s t
  one i x a b w e h g =
      rests (rw (c, a)) (rw (c, b)) (λ k. rw e (slot_kept (λ y. is_held y.life) st.slots i x h k))
      (λ k. rw (e, quick w) (slot_has (λ j y. is_held (slot_in st.slots j).life ≡ true → (y.life.awaited.on ≡ (slot_in st.slots j).life.awaited.on) × (y.life.awaited.left + 0 ≡ (slot_in st.slots j).life.awaited.left)) st.slots i x g (λ j q. (refl, add-zero _)) k))

  -- one that waits for the same
  kept : {t : State} (i : ℕ) (x : Slot) → eqb n hold_code ≡ false → frees n ≡ false → eqb n wait_code ≡ false → t.slots ≡ with_slot st.slots i x → x.life.awaited ≡ (slot_in st.slots i).life.awaited → Holds cfg st s t
  kept i x a b w e h = one i x a b w e (rw h) (λ q. rw h (refl, add-zero _))

  -- one that was not held, and is not
  free : {t : State} (i : ℕ) (x : Slot) → eqb n hold_code ≡ false → frees n ≡ false → eqb n wait_code ≡ false → t.slots ≡ with_slot st.slots i x → is_held x.life ≡ false → is_held (slot_in st.slots i).life ≡ false → Holds cfg st s t
  free i x a b w e h g = one i x a b w e (h ∙ sym g) (λ q. absurd (clash _ q g))

-- a caller is not held, whether or not it begins to wait
caller-held : (cfg : Config) (o : ℕ) (x : Slot) → is_held x.life ≡ false → is_held (caller_after cfg o x).life ≡ false
unfolding caller_after
caller-held cfg o x e = by (operation_conf_in cfg.operations o).asynchronous
  where
    by : (b : Bool) → is_held (pick b x (waiting_on x o)).life ≡ false
    by true = e
    by false = refl

-- time passes: each who is held has so much less
module _ (cfg : Config) (st : State) (t : ℕ) (g : Sound cfg st) (z : CanWait cfg st t) (k : ℕ) (h : is_held (slot_in st.slots k).life ≡ true) where
  inside : k < length st.slots.at
  unfolding place_in no_slot
  inside = inside_of (λ (y : Slot). is_held y.life ≡ true) st.slots.at k no_slot (λ q. clash false q refl) h

  enough : t ≤ (slot_in st.slots k).life.awaited.left
  unfolding slots_let slot_lets
  enough = leb-true _ _ (rw h at (all-at (λ (i : ℕ). slot_lets t (slot_in st.slots i)) max_slots z.slots k (omega (arith, inside, slots_length cfg st g))))

  passed : slot_in (slots_after st.slots t) k ≡ slot_after t (slot_in st.slots k)
  unfolding slots_after place_in
  passed = each_at (λ (i : ℕ) (x : Slot). slot_after t x) no_slot max_slots st.slots.at k (omega (arith, inside, slots_length cfg st g)) inside

  pub less : ((slot_in (slots_after st.slots t) k).life.awaited.on ≡ (slot_in st.slots k).life.awaited.on) × ((slot_in (slots_after st.slots t) k).life.awaited.left + t ≡ (slot_in st.slots k).life.awaited.left)
  less = rw passed (refl, omega (arith, enough))

module _ (cfg : Config) (st : State) (s : Step) where
  pub holds-way : {n : ℕ} {w : Value} {t : State} → Sound cfg st → s.code ≡ n → Way cfg st s n w t → Holds cfg st s t
  unfolding fed closed waited spawned called no_slot time_of
  holds-way g c go.read_variable = same cfg st s c refl refl refl refl
  holds-way g c (go.write_variable z) = same cfg st s c refl refl refl refl
  holds-way g c (go.enter z) = kept cfg st s c s.who (entering (slot_in st.slots s.who) s.what) refl refl refl refl refl
  holds-way g c (go.exit z) = kept cfg st s c s.who (exiting (slot_in st.slots s.who)) refl refl refl refl refl
  holds-way g c (go.read z) = same cfg st s c refl refl refl refl
  holds-way g c (go.write z) = same cfg st s c refl refl refl refl
  holds-way g c go.updated = same cfg st s c refl refl refl refl
  holds-way g c (go.invalidate z) = same cfg st s c refl refl refl refl
  holds-way g c (go.receive_none e w) = finds (rw c) (rw c) (quick cfg st s c refl) w refl
  holds-way g c (go.receive z) = goes_on (rw c) (rw c) (quick cfg st s c refl) z.there refl
  holds-way g c (go.send z) = same cfg st s c refl refl refl refl
  holds-way g c (go.call_busy e) = same cfg st s c refl refl refl refl
  holds-way g c (go.call z) =
      let x = slot_in st.slots s.who in
      let e = idle-free x.life z.who.running in
      free cfg st s c s.who (caller_after cfg s.what x) refl refl refl refl (caller-held cfg s.what x e) e
  holds-way g c (go.poll_open a e) = same cfg st s c refl refl refl refl
  holds-way g c (go.poll a e) = same cfg st s c refl refl refl refl
  holds-way g c (go.collect z) = free cfg st s c s.who (running_on (slot_in st.slots s.who)) refl refl refl refl refl (caller-free (slot_in st.slots s.who).life z.waiting)
  holds-way g c (go.answer z e) = kept cfg st s c s.who (finishing (slot_in st.slots s.who)) refl refl refl refl refl
  holds-way g c (go.late z e) = kept cfg st s c s.who (finishing (slot_in st.slots s.who)) refl refl refl refl refl
  holds-way g c (go.end z) = free cfg st s c s.who no_slot refl refl refl refl refl (idle-free (slot_in st.slots s.who).life z.running)
  holds-way g c (go.spawn z) =
      let k = lowest_empty st.slots in
      let x = instance_of (runnable_conf_in cfg.runnables s.what) s.what (runnable_in st.runnables s.what) in
      free cfg st s c k x refl refl refl refl (idle-free x.life (new-runs cfg st s.what)) (idle-free (slot_in st.slots k).life (empty_runs cfg st k g z.slot (lowest-empty st.slots z.slot)))
  holds-way g c (go.timeout z) = same cfg st s c refl refl refl refl
  holds-way g c (go.tick z) = same cfg st s c refl refl refl refl
  holds-way g c (go.wait z) =
      rests (rw c) (rw c) (slots-after-kept (λ y. is_held y.life) s.argument.number (λ x. refl) st.slots)
      (λ k h. rw c (less cfg st s.argument.number g z k h))
  holds-way g c (go.fail z) = kept cfg st s c s.who (failing (slot_in st.slots s.who)) refl refl refl refl refl
  holds-way g c (go.hold z) = holds c z refl
  holds-way g c (go.give_up z) = goes_on (rw c) (rw c) (quick cfg st s c refl) z.there refl
  holds-way g c (go.read_copy z) = same cfg st s c refl refl refl refl
  holds-way g c (go.write_copy z) = same cfg st s c refl refl refl refl

-- ---- the recording, step by step

held_one : (i : ℕ) (rs : List Step) (s : Step) → held_in i (rs ++ (s ∷ [])) ≡ held_after i (length rs + 1) (held_in i rs) s
unfolding held_in
held_one i rs s = traced-one (held_after i) 0 rs s

module _ (s : Step) (i n w : ℕ) where
  held-rests : eqb s.code hold_code ≡ false → frees s.code ≡ false → held_after i n w s ≡ w
  unfolding held_after
  held-rests a b = rw (a, b) (pick-alike (eqb s.who i) w)

  held-other : (s.who ≡ i → ⊥) → held_after i n w s ≡ w
  unfolding held_after
  held-other d = rw (ne_eqb s.who i d)

held-here : (s : Step) (n w : ℕ) → s.code ≡ hold_code → held_after s.who n w s ≡ n
unfolding held_after
held-here s n w c = rw (eq-eqb s.who s.who refl, c)

held-gone : (s : Step) (n w : ℕ) → eqb s.code hold_code ≡ false → frees s.code ≡ true → held_after s.who n w s ≡ 0
unfolding held_after
held-gone s n w a b = rw (eq-eqb s.who s.who refl, a, b)

-- ---- who is held, and what is left

-- the instance in the slot i is held on q, with n left: by its own step, for the time that has passed since and what is left
abbrev pub Holding : List Step → ℕ → ℕ → ℕ → Type 0
Holding rs i q n = (t : ℕ) × HeldFor rs (held_in i rs) i q t × (time_since (held_in i rs) rs + n ≡ t)

pub record Held (ss : Slots) (rs : List Step) : Type 0 where
  pub each : (i : ℕ) → is_held (slot_in ss i).life ≡ true → Holding rs i (slot_in ss i).life.awaited.on (slot_in ss i).life.awaited.left
  pub idle : (i : ℕ) → is_held (slot_in ss i).life ≡ false → held_in i rs ≡ 0

pub held_start : (cfg : Config) → Held (start_of cfg).slots []
unfolding start_of no_places place_in no_slot held_in traced_from
held_start cfg = record {
  each = λ i e. absurd (clash _ e (all_alike (λ (y : Slot). is_held y.life ≡ false) 32 no_slot i refl));
  idle = λ i e. refl;
}

-- its step is among those before
held_below : {rs : List Step} {k i q t : ℕ} → HeldFor rs k i q t → k ≤ length rs
held_below f = omega (arith, f.place, ap length f.whole, length-append f.earlier (f.hold ∷ f.later))

-- and stays at its place
held_more : {rs : List Step} {k i q t : ℕ} (s : Step) → HeldFor rs k i q t → HeldFor (rs ++ (s ∷ [])) k i q t
held_more s f = record {
  earlier = f.earlier;
  hold = f.hold;
  later = f.later ++ (s ∷ []);
  whole = ap (λ (y : List Step). y ++ (s ∷ [])) f.whole ∙ append_assoc f.earlier (f.hold ∷ f.later) (s ∷ []);
  place = f.place;
  is = f.is;
}

module _ (rs : List Step) (s : Step) where
  -- a step that leaves its holding where it is
  on : (i q n m : ℕ) → held_in i (rs ++ (s ∷ [])) ≡ held_in i rs → m + time_of s ≡ n → Holding rs i q n → Holding (rs ++ (s ∷ [])) i q m
  on i q n m e d f = (f.0, rw e (held_more s f.1), rw e (omega (arith, since-more (held_in i rs) rs s (held_below f.1), f.2, d)))

  -- a step that begins it
  begin : s.code ≡ hold_code → held_in s.who (rs ++ (s ∷ [])) ≡ length rs + 1 → Holding (rs ++ (s ∷ [])) s.who s.what s.argument.number
  begin c e = (
    s.argument.number,
    rw e (record { earlier = rs; hold = s; later = []; whole = refl; place = refl; is = (c, refl, refl, refl) }),
    rw e (omega (arith, since-now (length rs + 1) (rs ++ (s ∷ [])) (length-append rs (s ∷ [])))),
  )

module _ (cfg : Config) (st : State) (s : Step) (rs : List Step) (l : Held st.slots rs) where
  held-went : (st' : State) → Holds cfg st s st' → Held st'.slots (rs ++ (s ∷ []))
  unfolding place_in with_place
  held-went st' (holds c z q) = record { each = λ i. rw q (each i (ℕ_discrete i s.who)); idle = λ i. rw q (idle i (ℕ_discrete i s.who)) }
    where
      new : get_or (held st s.who s.what s.argument.number).slots.at s.who no_slot ≡ awaiting (slot_in st.slots s.who) (on_element s.what s.argument.number)
      new = get_or-set_same st.slots.at s.who _ no_slot (slot-inside st.slots s.who z.who.there.used)

      old : (i : ℕ) → (i ≡ s.who → ⊥) → get_or (held st s.who s.what s.argument.number).slots.at i no_slot ≡ slot_in st.slots i
      old i d = get_or-set_other st.slots.at s.who i _ no_slot d

      stays : (i : ℕ) → (i ≡ s.who → ⊥) → held_in i (rs ++ (s ∷ [])) ≡ held_in i rs
      stays i d = held_one i rs s ∙ held-other s i (length rs + 1) (held_in i rs) (λ y. d (sym y))

      each : (i : ℕ) → Dec (i ≡ s.who) → is_held (slot_in (held st s.who s.what s.argument.number).slots i).life ≡ true
          → Holding (rs ++ (s ∷ [])) i (slot_in (held st s.who s.what s.argument.number).slots i).life.awaited.on (slot_in (held st s.who s.what s.argument.number).slots i).life.awaited.left
      each i (yes d) w = rw (d, new) (begin rs s c (held_one s.who rs s ∙ held-here s (length rs + 1) (held_in s.who rs) c))
      each i (no d) w = rw (old i d) (on rs s i _ _ _ (stays i d) (rw (still s (other-code wait_code c refl)) (add-zero _)) (l.each i (rw (old i d) at w)))

      idle : (i : ℕ) → Dec (i ≡ s.who) → is_held (slot_in (held st s.who s.what s.argument.number).slots i).life ≡ false → held_in i (rs ++ (s ∷ [])) ≡ 0
      idle i (yes d) w = absurd (clash true refl (rw (d, new) at w))
      idle i (no d) w = stays i d ∙ l.idle i (rw (old i d) at w)
  held-went st' (goes_on a b t z q) = record { each = λ i. rw q (each i (ℕ_discrete i s.who)); idle = λ i. rw q (idle i (ℕ_discrete i s.who)) }
    where
      new : get_or (gone_on st s.who).slots.at s.who no_slot ≡ running_on (slot_in st.slots s.who)
      new = get_or-set_same st.slots.at s.who _ no_slot (slot-inside st.slots s.who z.used)

      old : (i : ℕ) → (i ≡ s.who → ⊥) → get_or (gone_on st s.who).slots.at i no_slot ≡ slot_in st.slots i
      old i d = get_or-set_other st.slots.at s.who i _ no_slot d

      stays : (i : ℕ) → (i ≡ s.who → ⊥) → held_in i (rs ++ (s ∷ [])) ≡ held_in i rs
      stays i d = held_one i rs s ∙ held-other s i (length rs + 1) (held_in i rs) (λ y. d (sym y))

      each : (i : ℕ) → Dec (i ≡ s.who) → is_held (slot_in (gone_on st s.who).slots i).life ≡ true
          → Holding (rs ++ (s ∷ [])) i (slot_in (gone_on st s.who).slots i).life.awaited.on (slot_in (gone_on st s.who).slots i).life.awaited.left
      each i (yes d) w = absurd (clash false (rw (d, new) at w) refl)
      each i (no d) w = rw (old i d) (on rs s i _ _ _ (stays i d) (rw t (add-zero _)) (l.each i (rw (old i d) at w)))

      idle : (i : ℕ) → Dec (i ≡ s.who) → is_held (slot_in (gone_on st s.who).slots i).life ≡ false → held_in i (rs ++ (s ∷ [])) ≡ 0
      idle i (yes d) w = rw d (held_one s.who rs s ∙ held-gone s (length rs + 1) (held_in s.who rs) a b)
      idle i (no d) w = stays i d ∙ l.idle i (rw (old i d) at w)
  held-went st' (finds a b t f q) = record { each = λ i. rw q (each i (ℕ_discrete i s.who)); idle = λ i. rw q (idle i (ℕ_discrete i s.who)) }
    where
      stays : (i : ℕ) → (i ≡ s.who → ⊥) → held_in i (rs ++ (s ∷ [])) ≡ held_in i rs
      stays i d = held_one i rs s ∙ held-other s i (length rs + 1) (held_in i rs) (λ y. d (sym y))

      each : (i : ℕ) → Dec (i ≡ s.who) → is_held (slot_in st.slots i).life ≡ true → Holding (rs ++ (s ∷ [])) i (slot_in st.slots i).life.awaited.on (slot_in st.slots i).life.awaited.left
      each i (yes d) w = absurd (clash _ w (rw d (rest-free (slot_in st.slots s.who).life f)))
      each i (no d) w = on rs s i _ _ _ (stays i d) (rw t (add-zero _)) (l.each i w)

      idle : (i : ℕ) → Dec (i ≡ s.who) → is_held (slot_in st.slots i).life ≡ false → held_in i (rs ++ (s ∷ [])) ≡ 0
      idle i (yes d) w = rw d (held_one s.who rs s ∙ held-gone s (length rs + 1) (held_in s.who rs) a b)
      idle i (no d) w = stays i d ∙ l.idle i w
  held-went st' (rests a b h g) = record {
    each = λ i w.
        let o = sym (h i) ∙ w in
        rw (g i o).0 (on rs s i _ _ _ (held_one i rs s ∙ held-rests s i (length rs + 1) (held_in i rs) a b) (g i o).1 (l.each i o));
    idle = λ i w. held_one i rs s ∙ held-rests s i (length rs + 1) (held_in i rs) a b ∙ l.idle i (sym (h i) ∙ w);
  }

  pub held-step : {u : Value} → (step_of cfg st s).answer ≡ Taken u → Held (step_of cfg st s).state.slots (rs ++ (s ∷ []))
  held-step a = held-went (step_of cfg st s).state (holds-way cfg st s (told cfg st (accepted cfg st s a).0) refl (gone cfg st s refl a))
