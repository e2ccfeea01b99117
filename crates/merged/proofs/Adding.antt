-- A table that is lowered by a and then by b is lowered by a + b (`each_twice`, place by place), and lets a + b pass exactly if it lets a pass and then b
-- (`all-twice`). So a state lets a + b pass exactly if it lets a pass, and then b (`lets-add`), and is the same afterwards (`waited-add`).
-- Assumes nothing.
use Prim.Native.Nat.{ℕ, ◌+◌, ◌-◌, ◌≤◌}
use mathlib.Core.Bool.{Bool, true, false, not}
use mathlib.Core.List.{List}
use mathlib.Core.Path.{◌≡◌, refl, sym, ap, ◌∙◌}
use native.Mathlib.Decide.{dec_le}
use native.Mathlib.Omega.{arith}
use lib.Dec.{leb}
use borrow.Author.Tests.{le-leb, lt-leb}
use Rattle.laws.specs.Choice.{both, either}
use Rattle.laws.proofs.Choosing.{both-make, both-swap}
use Rattle.laws.proofs.Twice.{each_twice, all-twice}
use Rattle.faces.specs.Types.{Config, Operation, Operations, Timer, Timers, Runnable, Runnables, Slot, Slots, State}
use Rattle.state.specs.Parts.{no_runnable, no_operation, no_timer, no_awaited, no_slot}
use Rattle.state.specs.Fields.{with_left}
use Rattle.state.specs.Tables.{max_slots}
use Rattle.rules.specs.Sound.{is_held}
use Rattle.state.specs.Places.{place_in}
use Rattle.effects.specs.Steps.{awaiting, operation_lets, timer_lets, slot_lets, operations_let, timers_let, slots_let, operation_after, timer_after, runnable_after, slot_after, operations_after, timers_after, runnables_after, slots_after, all_let, waited}

-- ---- one count

-- a + b is no more than n exactly if a is, and b is no more than what is left
leb-add : (a b n : ℕ) → leb (a + b) n ≡ both (leb a n) (leb b (n - a))
leb-add a b n = go (dec_le a n) (dec_le b (n - a))
  where
    go : Dec (a ≤ n) → Dec (b ≤ n - a) → leb (a + b) n ≡ both (leb a n) (leb b (n - a))
    go (yes x) (yes y) = le-leb (a + b) n (omega (arith, x, y)) ∙ sym (both-make _ _ (le-leb a n x) (le-leb b (n - a) y))
    go (yes x) (no y) = rw (lt-leb (a + b) n (omega (arith, x, y)), le-leb a n x, lt-leb b (n - a) (omega (arith, y)))
    go (no x) y = rw (lt-leb (a + b) n (omega (arith, x)), lt-leb a n (omega (arith, x)))

less-add : (a b n : ℕ) → n - a - b ≡ n - (a + b)
less-add a b n = omega arith

-- ---- the four tables

module _ (a b : ℕ) where
  operation-lets : (k : ℕ) (x : Operation) → operation_lets (a + b) x ≡ both (operation_lets a x) (operation_lets b (operation_after a x))
  unfolding operation_lets operation_after
  operation-lets k x = go x.calling refl
    where
      go : (c : Bool) → x.calling ≡ c → either (not x.calling) (leb (a + b) x.count) ≡ both (either (not x.calling) (leb a x.count)) (operation_lets b (operation_after a x))
      go true e = rw e (leb-add a b x.count)
      go false e = rw e

  operation-after : (k : ℕ) (x : Operation) → operation_after b (operation_after a x) ≡ operation_after (a + b) x
  unfolding operation_after
  operation-after k x = go x.calling refl
    where
      go : (c : Bool) → x.calling ≡ c → operation_after b (operation_after a x) ≡ operation_after (a + b) x
      go true e = rw (e, less-add a b x.count)
      go false e = rw e

  timer-lets : (k : ℕ) (x : Timer) → timer_lets (a + b) x ≡ both (timer_lets a x) (timer_lets b (timer_after a x))
  unfolding timer_lets
  timer-lets k x = leb-add a b x.count

  slot-lets : (k : ℕ) (x : Slot) → slot_lets (a + b) x ≡ both (slot_lets a x) (slot_lets b (slot_after a x))
  unfolding slot_lets
  slot-lets k x = go (is_held x.life)
    where
      go : (c : Bool) → either (not c) (leb (a + b) x.life.awaited.left) ≡ both (either (not c) (leb a x.life.awaited.left)) (either (not c) (leb b (x.life.awaited.left - a)))
      go true = leb-add a b x.life.awaited.left
      go false = refl

  -- what lets a + b pass lets a pass and then b
  operations-let : (cfg : Config) (os : Operations) → operations_let cfg os (a + b) ≡ both (operations_let cfg os a) (operations_let cfg (operations_after cfg os a) b)
  unfolding operations_let operations_after place_in operation_after
  operations-let cfg os =
      all-twice (λ (k : ℕ). operation_after a) no_operation cfg.operations.n os.at (λ (k : ℕ). operation_lets a) (λ (k : ℕ). operation_lets b) (λ (k : ℕ). operation_lets (a + b)) operation-lets (λ k. refl)

  timers-let : (cfg : Config) (ts : Timers) → timers_let cfg ts (a + b) ≡ both (timers_let cfg ts a) (timers_let cfg (timers_after cfg ts a) b)
  unfolding timers_let timers_after place_in
  timers-let cfg ts =
      all-twice (λ (k : ℕ). timer_after a) no_timer cfg.timers.n ts.at (λ (k : ℕ). timer_lets a) (λ (k : ℕ). timer_lets b) (λ (k : ℕ). timer_lets (a + b)) timer-lets
      (λ k. ap (λ (n : ℕ). record { count = n }) (omega arith))

  slots-let : (ss : Slots) → slots_let ss (a + b) ≡ both (slots_let ss a) (slots_let (slots_after ss a) b)
  unfolding slots_let slots_after place_in no_slot
  slots-let ss =
      all-twice (λ (k : ℕ). slot_after a) no_slot max_slots ss.at (λ (k : ℕ). slot_lets a) (λ (k : ℕ). slot_lets b) (λ (k : ℕ). slot_lets (a + b)) slot-lets
      (λ k. ap (λ (n : ℕ). awaiting no_slot (with_left no_awaited n)) (omega arith))

  -- and leaves the same behind
  operations-after : (cfg : Config) (os : Operations) → operations_after cfg (operations_after cfg os a) b ≡ operations_after cfg os (a + b)
  unfolding operations_after
  operations-after cfg os =
      ap (λ (l : List Operation). record { at = l })
      (each_twice (λ (k : ℕ). operation_after a) no_operation cfg.operations.n os.at (λ (k : ℕ). operation_after b) (λ (k : ℕ). operation_after (a + b)) operation-after)

  timers-after : (cfg : Config) (ts : Timers) → timers_after cfg (timers_after cfg ts a) b ≡ timers_after cfg ts (a + b)
  unfolding timers_after
  timers-after cfg ts =
      ap (λ (l : List Timer). record { at = l })
      (each_twice (λ (k : ℕ). timer_after a) no_timer cfg.timers.n ts.at (λ (k : ℕ). timer_after b) (λ (k : ℕ). timer_after (a + b)) (λ k x. rw (less-add a b x.count)))

  runnables-after : (cfg : Config) (rs : Runnables) → runnables_after cfg (runnables_after cfg rs a) b ≡ runnables_after cfg rs (a + b)
  unfolding runnables_after
  runnables-after cfg rs =
      ap (λ (l : List Runnable). record { at = l })
      (each_twice (λ (k : ℕ). runnable_after a) no_runnable cfg.runnables.n rs.at (λ (k : ℕ). runnable_after b) (λ (k : ℕ). runnable_after (a + b)) (λ k x. rw (less-add a b x.interval)))

  slots-after : (ss : Slots) → slots_after (slots_after ss a) b ≡ slots_after ss (a + b)
  unfolding slots_after
  slots-after ss =
      ap (λ (l : List Slot). record { at = l })
      (each_twice (λ (k : ℕ). slot_after a) no_slot max_slots ss.at (λ (k : ℕ). slot_after b) (λ (k : ℕ). slot_after (a + b)) (λ k x. rw (less-add a b x.life.awaited.left)))

-- ---- a state

pub lets-add : (cfg : Config) (st : State) (a b : ℕ) → all_let cfg st (a + b) ≡ both (all_let cfg st a) (all_let cfg (waited cfg st a) b)
unfolding all_let waited
lets-add cfg st a b =
    rw (operations-let a b cfg st.operations, timers-let a b cfg st.timers, slots-let a b st.slots, both-swap (timers_let cfg st.timers a) (timers_let cfg (timers_after cfg st.timers a) b) (slots_let st.slots a) (slots_let (slots_after st.slots a) b))
    (both-swap (operations_let cfg st.operations a) _ (both (timers_let cfg st.timers a) (slots_let st.slots a)) _)

pub waited-add : (cfg : Config) (st : State) (a b : ℕ) → waited cfg (waited cfg st a) b ≡ waited cfg st (a + b)
unfolding waited
waited-add cfg st a b = rw (operations-after a b cfg st.operations, timers-after a b cfg st.timers, runnables-after a b cfg st.runnables, slots-after a b st.slots)
