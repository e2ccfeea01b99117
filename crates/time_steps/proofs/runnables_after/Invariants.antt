-- `time_steps::runnables_after` meets its contract. The loop has been over the places below its counter (`each_below`), and takes one more by `each-put`.
-- Assumes nothing.
use Prim.Native.Nat.{ℕ}
use mathlib.Core.Path.{◌≡◌}
use Rattle.laws.specs.Row.{each_below}
use Rattle.effects.specs.Steps.{runnable_after}
use Rattle.state.specs.Parts.{no_runnable}
use Rattle.faces.specs.Types.{Runnable}
use Rattle.time_steps.proofs.runnables_after.Given as goal

abbrev pub invariant-loop-r : goal.invariant-loop-r
invariant-loop-r l = l.u.at ≡ each_below (λ (j : ℕ) (x : Runnable). runnable_after l.t x) no_runnable l.r l.initial.u.at
