-- `time_steps::operations_after` meets its contract.
-- Assumes nothing.
use Prim.Native.Nat.{ℕ}
use mathlib.Core.Path.{◌≡◌}
use Rattle.laws.specs.Row.{each_below}
use Rattle.effects.specs.Steps.{operation_after}
use Rattle.state.specs.Parts.{no_operation}
use Rattle.faces.specs.Types.{Operation, Operations}
use Rattle.time_steps.proofs.operations_after.Given as goal

abbrev pub invariant-loop-o : goal.invariant-loop-o
invariant-loop-o l = ◌≡◌ {A = Operations} l.u (record { at = each_below (λ (j : ℕ) (x : Operation). operation_after l.t x) no_operation l.o l.initial.u.at })
