-- Who holds an area, by the enters and exits of the recording, holds it in the state reached (`Holds`): the area stands on that slot's stack, and is free if nobody does.
-- Every deed enters one area, exits one, or leaves all of them and the stacks as they were (`moves`), and so keeps that (`holds-deed`).
-- With a sound state it is the whole of it: the area stands there once, on no other stack, and is taken (`held_by`).
-- Assumes nothing.
use Prim.Native.Nat.{ℕ, ◌≤◌, ◌<◌}
use mathlib.Core.Bool.{Bool, true, false}
use mathlib.Core.List.{List, [], ◌∷◌, ◌++◌}
use mathlib.Core.Option.{Option, none, some}
use mathlib.Core.Path.{◌≡◌, refl, sym, ◌∙◌, ap, subst}
use native.Mathlib.Decide.{ℕ_discrete}
use native.Mathlib.Omega.{arith}
use lib.Dec.{eqb}
use lib.ListN.{length}
use lib.Seq.{get_or-set_same, get_or-set_other}
use borrow.Author.Tests.{eq-eqb, ne_eqb}
use Rattle.numbers.specs.Codes.{enter_code, exit_code}
use Rattle.laws.specs.Choice.{pick, bit}
use Rattle.faces.specs.Types.{Step, Config, State, Slot, Slots, Area, Areas}
use Rattle.state.specs.Parts.{no_area, no_slot}
use Rattle.state.specs.Start.{start_of}
use Rattle.state.specs.Tables.{area_in, slot_in, with_area, with_slot, with_areas, with_slots}
use Rattle.rules.specs.Sound.{times_in}
use Rattle.effects.specs.Steps.{entering, entered, exiting, exited, called, closed, finishing, spawned, failing}
use Rattle.stays_sound.specs.Facts.{Sound, CanEnter, CanExit}
use Rattle.rules.proofs.Configured.{areas-most}
use Rattle.stays_sound.proofs.Told.{areas-length}
use Rattle.stays_sound.proofs.Kept.{slot_kept, slot-inside, here}
use Rattle.stays_sound.proofs.Areas.{enter-stack, exit-stack, call-stack, end-stack, spawn-stack}
use Rattle.history.specs.History.{traced_from, holder_after, holder_of}
use Rattle.history.specs.Promises.{HeldBy}
use Rattle.history.proofs.Beside.{all_alike}
use Rattle.history.proofs.Traced.{traced-one}
use Rattle.history.proofs.Passes.{Unmoved}
use Rattle.history.proofs.Deeds.{Moves, enters, exits, stays, Deed, pass, call, answer, late, end, server, plain, timeout, fail, other-code}
use Rattle.state.specs.Places.{no_places, place_in, with_place}
use Rattle.history.proofs.Finals.{holder, no-holder}

-- ---- the holder, step by step

pub holder-one : (a : ℕ) (before : List Step) (s : Step) → holder_of a (before ++ (s ∷ [])) ≡ holder_after a (holder_of a before) s
unfolding holder_of
holder-one a before s = traced-one (λ n. holder_after a) none before s

enter-makes : (a : ℕ) (w : Option ℕ) (s : Step) → s.code ≡ enter_code → s.what ≡ a → holder_after a w s ≡ some s.who
unfolding holder_after
enter-makes a w s c e = rw (c, eq-eqb s.what a e)

exit-leaves : (a : ℕ) (w : Option ℕ) (s : Step) → s.code ≡ exit_code → s.what ≡ a → holder_after a w s ≡ none
unfolding holder_after
exit-leaves a w s c e = rw (c, eq-eqb s.what a e)

other-area : (a : ℕ) (w : Option ℕ) (s : Step) → (s.what ≡ a → ⊥) → holder_after a w s ≡ w
unfolding holder_after
other-area a w s n = rw (ne_eqb s.what a n)

other_step : (a : ℕ) (w : Option ℕ) (s : Step) → (s.code ≡ enter_code → ⊥) → (s.code ≡ exit_code → ⊥) → holder_after a w s ≡ w
unfolding holder_after
other_step a w s n m = rw (ne_eqb s.code enter_code n, ne_eqb s.code exit_code m) (same (eqb s.what a))
  where
    same : (b : Bool) → pick b w w ≡ w
    same true = refl
    same false = refl

-- ---- every deed moves areas in one of three ways

pub moves : (cfg : Config) (st : State) (s : Step) (st' : State) → Sound cfg st → Deed cfg st s st' → Moves cfg st s st'
unfolding called closed spawned
moves cfg st s st' g d = go d
  where
    still : {n : ℕ} → s.code ≡ n → eqb n enter_code ≡ false → eqb n exit_code ≡ false → Unmoved st st' → Moves cfg st s st'
    still c f h u = stays (other-code enter_code c f) (other-code exit_code c h) u

    -- one slot replaced, on whose stack each area stands as often as before
    one : (i : ℕ) (x : Slot) (ss : Slots) → ((a : ℕ) → times_in a x.stack ≡ times_in a (slot_in ss i).stack) → (a k : ℕ) → times_in a (slot_in (with_slot ss i x) k).stack ≡ times_in a (slot_in ss k).stack
    one i x ss e a k = slot_kept (λ y. times_in a y.stack) ss i x (e a) k

    go : Deed cfg st s st' → Moves cfg st s st'
    go (pass a q m w) = m
    go (call c k z e) = still c refl refl (record { areas = λ a. rw e; stacks = λ a k. rw e (one s.who _ st.slots (call-stack cfg s.what (slot_in st.slots s.who)) a k) })
    go (answer c k z a e) = still c refl refl (record { areas = λ a. rw e; stacks = λ a k. rw e (one s.who (finishing (slot_in st.slots s.who)) st.slots (λ b. refl) a k) })
    go (late c k z e) = still c refl refl (record { areas = λ a. rw e; stacks = λ a k. rw e (one s.who (finishing (slot_in st.slots s.who)) st.slots (λ b. refl) a k) })
    go (end c z e) = still c refl refl (record { areas = λ a. rw e.areas; stacks = λ a k. rw e.slots (one s.who no_slot st.slots (end-stack st s.who z) a k) })
    go (server c k y z e) = still c refl refl (record { areas = λ a. rw e.areas; stacks = λ a k. rw e.slots (one _ _ st.slots (spawn-stack cfg st s.what g z) a k) })
    go (plain c k y z e) = still c refl refl (record { areas = λ a. rw e.areas; stacks = λ a k. rw e.slots (one _ _ st.slots (spawn-stack cfg st s.what g z) a k) })
    go (timeout c z e) = still c refl refl (record { areas = λ a. rw e; stacks = λ a k. rw e })
    go (fail c z e) = still c refl refl (record { areas = λ a. rw e; stacks = λ a k. rw e (one s.who (failing (slot_in st.slots s.who)) st.slots (λ b. refl) a k) })

-- ---- the holder in the state

abbrev pub Holds : State → ℕ → Option ℕ → Type 0
Holds st a none = (area_in st.areas a).taken ≡ false
Holds st a (some i) = (i < 32) × (1 ≤ times_in a (slot_in st.slots i).stack)

pub holds-start : (cfg : Config) (a : ℕ) → Holds (start_of cfg) a (holder_of a [])
unfolding start_of no_places place_in holder_of traced_from
holds-start cfg a = all_alike (λ (y : Area). y.taken ≡ false) 16 no_area a refl

-- one area replaced, and one slot
flag-other : (t : Areas) (a b : ℕ) (v : Bool) → (b ≡ a → ⊥) → (area_in (with_area t a (record { taken = v })) b).taken ≡ (area_in t b).taken
unfolding place_in with_place
flag-other t a b v n = rw (get_or-set_other t.at a b (record { taken = v }) no_area n)

flag_same : (t : Areas) (a : ℕ) (v : Bool) → a < length t.at → (area_in (with_area t a (record { taken = v })) a).taken ≡ v
unfolding place_in with_place
flag_same t a v b = rw (get_or-set_same t.at a (record { taken = v }) no_area b)

slot_same : (ss : Slots) (i : ℕ) (x : Slot) → i < length ss.at → slot_in (with_slot ss i x) i ≡ x
unfolding place_in with_place
slot_same ss i x b = get_or-set_same ss.at i x no_slot b

module _ (cfg : Config) (st : State) (s : Step) (g : Sound cfg st) where
  -- an area that is not the one entered or exited: it stands on each stack as often as it did
  elsewhere : (b : ℕ) (v : Bool) (x : Slot) (w : Option ℕ) → (b ≡ s.what → ⊥) → times_in b x.stack ≡ times_in b (slot_in st.slots s.who).stack → Holds st b w
      → Holds (with_slots (with_areas st (with_area st.areas s.what (record { taken = v }))) (with_slot st.slots s.who x)) b w
  elsewhere b v x none n e h = flag-other st.areas s.what b v n ∙ h
  elsewhere b v x (some i) n e h = (h.0, omega (arith, h.1, slot_kept (λ (y : Slot). times_in b y.stack) st.slots s.who x e i))

  holds-enter : CanEnter cfg st s.who s.what → s.code ≡ enter_code → (b : ℕ) (w : Option ℕ) → Dec (b ≡ s.what) → Holds st b w → Holds (entered st s.who s.what) b (holder_after b w s)
  holds-enter z c b w (yes e) h =
      rw (enter-makes b w s c (sym e), e, slot_same st.slots s.who (entering (slot_in st.slots s.who) s.what) (slot-inside st.slots s.who z.who.there.used))
      (here cfg st s.who g z.who.there, omega (arith, enter-stack cfg st s.who s.what g z s.what, ap bit (eq-eqb s.what s.what refl)))
  holds-enter z c b w (no n) h =
      rw (other-area b w s (λ e. n (sym e)))
      (elsewhere b true (entering (slot_in st.slots s.who) s.what) w n (omega (arith, enter-stack cfg st s.who s.what g z b, ap bit (ne_eqb s.what b (λ e. n (sym e))))) h)

  holds-exit : CanExit cfg st s.who s.what → s.code ≡ exit_code → (b : ℕ) (w : Option ℕ) → Dec (b ≡ s.what) → Holds st b w → Holds (exited st s.who s.what) b (holder_after b w s)
  holds-exit z c b w (yes e) h =
      rw (exit-leaves b w s c (sym e), e) (flag_same st.areas s.what false (omega (arith, areas-length cfg st g, areas-most cfg g.config, z.inside)))
  holds-exit z c b w (no n) h =
      rw (other-area b w s (λ e. n (sym e)))
      (elsewhere b false (exiting (slot_in st.slots s.who)) w n (omega (arith, exit-stack cfg st s.who s.what z b, ap bit (ne_eqb s.what b (λ e. n (sym e))))) h)

  holds-still : (st' : State) → Unmoved st st' → (b : ℕ) (w : Option ℕ) → Holds st b w → Holds st' b w
  holds-still st' u b none h = u.areas b ∙ h
  holds-still st' u b (some i) h = (h.0, omega (arith, h.1, u.stacks b i))

  pub holds-deed : (st' : State) → Moves cfg st s st' → (b : ℕ) (w : Option ℕ) → Holds st b w → Holds st' b (holder_after b w s)
  holds-deed st' (enters c z e) b w h = rw e (holds-enter z c b w (ℕ_discrete b s.what) h)
  holds-deed st' (exits c z e) b w h = rw e (holds-exit z c b w (ℕ_discrete b s.what) h)
  holds-deed st' (stays n m u) b w h = rw (other_step b w s n m) (holds-still st' u b w h)

-- ---- what that says of a sound state

module _ (cfg : Config) (st : State) (a : ℕ) (g : Sound cfg st) (b : a < 16) where
  -- who holds it is its one holder
  only : (i : ℕ) → i < 32 → 1 ≤ times_in a (slot_in st.slots i).stack → HeldBy st a (some i)
  only i l m = go (area_in st.areas a).taken refl
    where
      go : (x : Bool) → (area_in st.areas a).taken ≡ x → HeldBy st a (some i)
      go true e =
          let f = holder cfg st a g b e in
          let same : f.0 ≡ i = is f.0 (ℕ_discrete i f.0) f.4 in
          (e, l, subst (λ (k : ℕ). (slot_in st.slots k).used ≡ true) same f.2, subst (λ (k : ℕ). times_in a (slot_in st.slots k).stack ≡ 1) same f.3, λ j n k. f.4 j n (λ q. k (q ∙ same)))
        where
          is : (k : ℕ) → Dec (i ≡ k) → ((j : ℕ) → j < 32 → (j ≡ k → ⊥) → times_in a (slot_in st.slots j).stack ≡ 0) → k ≡ i
          is k (yes q) none-else = sym q
          is k (no n) none-else = absurd (omega (arith, m, none-else i l n))
      go false e = absurd (omega (arith, m, no-holder cfg st a g b e i l))

  pub held_by : (w : Option ℕ) → Holds st a w → HeldBy st a w
  held_by none h = (h, no-holder cfg st a g b h)
  held_by (some i) h = only i h.0 h.1

  -- a free area has no holder, an area on a stack has the one whose stack it is
  pub free-none : (w : Option ℕ) → Holds st a w → (area_in st.areas a).taken ≡ false → w ≡ none
  free-none none h e = refl
  free-none (some i) h e = absurd (omega (arith, h.1, no-holder cfg st a g b e i h.0))

  pub stack-holder : (w : Option ℕ) (i : ℕ) → Holds st a w → i < 32 → 1 ≤ times_in a (slot_in st.slots i).stack → w ≡ some i
  stack-holder none i h l m = absurd (omega (arith, m, no-holder cfg st a g b h i l))
  stack-holder (some k) i h l m = go (ℕ_discrete k i)
    where
      go : Dec (k ≡ i) → some k ≡ some i
      go (yes e) = ap some e
      go (no n) = absurd (omega (arith, h.1, (only i l m).4 k h.0 n))
