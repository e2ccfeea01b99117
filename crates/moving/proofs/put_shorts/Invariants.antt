-- `moving::put_shorts` meets its contract.
-- Assumes nothing.
use Prim.Native.Nat.{◌-◌}
use lib.ListN.{length}
use Rattle.moving.proofs.Shortening.{Shrinking}
use Rattle.moving.proofs.put_shorts.Given as goal

abbrev pub invariant-loop-x : goal.invariant-loop-x
invariant-loop-x l = Shrinking l.s l.initial.out l.out l.at l.to

abbrev pub decreases-loop-x : goal.decreases-loop-x
decreases-loop-x l = length l.s - l.at
