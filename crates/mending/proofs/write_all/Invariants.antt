-- `write_all` meets its contract: the turns so far are written, each with its notes (`Writing`).
-- Assumes nothing.
use Prim.Native.Nat.{◌-◌}
use lib.ListN.{length}
use Rattle.mending.proofs.Writing.{Writing}
use Rattle.mending.proofs.write_all.Given as goal

abbrev pub invariant-loop-x : goal.invariant-loop-x
invariant-loop-x l = Writing l.cfg l.initial.reached l.s l.initial.out l.initial.report l.out l.report l.reached l.steps l.notes l.at

abbrev pub decreases-loop-x : goal.decreases-loop-x
decreases-loop-x l = length l.s - l.at
