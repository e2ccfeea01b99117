-- `merging::survey` meets its contract: what is ahead makes up the rest of what is behind (`Surveying`).
-- Assumes nothing.
use Prim.Native.Nat.{◌-◌}
use lib.ListN.{length}
use Rattle.merging.proofs.Walking.{held, Surveying}
use Rattle.merging.proofs.survey.Given as goal

abbrev pub invariant-loop-x : goal.invariant-loop-x
invariant-loop-x l = Surveying l.s (held l.last) l.count l.steps l.at

abbrev pub decreases-loop-x : goal.decreases-loop-x
decreases-loop-x l = length l.s - l.at
