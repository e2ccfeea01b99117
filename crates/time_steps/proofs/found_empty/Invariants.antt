-- `time_steps::found_empty` meets its contract.
-- Assumes nothing.
use mathlib.Core.Path.{◌≡◌}
use Rattle.laws.specs.Loop.{first_below}
use Rattle.effects.specs.Steps.{is_empty_at}
use Rattle.time_steps.proofs.found_empty.Given as goal

abbrev pub invariant-loop-k : goal.invariant-loop-k
invariant-loop-k l = first_below (is_empty_at l.t) l.k ≡ l.k
