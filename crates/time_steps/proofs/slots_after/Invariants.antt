-- `time_steps::slots_after` meets its contract.
-- Assumes nothing.
use Prim.Native.Nat.{ℕ}
use mathlib.Core.Path.{◌≡◌}
use Rattle.laws.specs.Row.{each_below}
use Rattle.effects.specs.Steps.{slot_after}
use Rattle.state.specs.Parts.{no_slot}
use Rattle.faces.specs.Types.{Slot}
use Rattle.time_steps.proofs.slots_after.Given as goal

abbrev pub invariant-loop-x : goal.invariant-loop-x
invariant-loop-x l = l.x-items ≡ each_below (λ (j : ℕ) (x : Slot). slot_after l.t x) no_slot l.x-index l.initial.x-items
