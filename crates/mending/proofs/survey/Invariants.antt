-- `survey` meets its contract: what is ahead makes up the rest of what is behind (`Surveying`).
-- Assumes nothing.
use Prim.Native.Nat.{◌-◌}
use lib.ListN.{length}
use Rattle.mending.proofs.Walking.{Surveying}
use Rattle.mending.proofs.survey.Given as goal

abbrev pub invariant-loop-x : goal.invariant-loop-x
invariant-loop-x l = Surveying l.cfg l.initial.reached l.s l.reached l.count l.steps l.notes l.at

abbrev pub decreases-loop-x : goal.decreases-loop-x
decreases-loop-x l = length l.s - l.at
