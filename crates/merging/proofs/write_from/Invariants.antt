-- `merging::write_from` meets its contract: the buffer begins with as much of the merged text as is written, and what is ahead makes up the rest (`Writing`).
-- Assumes nothing.
use Prim.Native.Nat.{◌-◌}
use lib.ListN.{length}
use Rattle.merging.proofs.Walking.{Writing}
use Rattle.merging.proofs.write_from.Given as goal

abbrev pub invariant-loop-x : goal.invariant-loop-x
invariant-loop-x l = Writing l.s l.initial.out l.out l.last l.at l.to

abbrev pub decreases-loop-x : goal.decreases-loop-x
decreases-loop-x l = length l.s - l.at
