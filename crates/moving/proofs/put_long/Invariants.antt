-- `moving::put_long` meets its contract.
-- Assumes nothing.
use Prim.Native.Nat.{◌-◌}
use lib.ListN.{length}
use Rattle.moving.proofs.Lengthening.{Stretching}
use Rattle.moving.proofs.put_long.Given as goal

abbrev pub invariant-loop-x : goal.invariant-loop-x
invariant-loop-x l = Stretching l.s l.initial.out l.out l.at l.to

abbrev pub decreases-loop-x : goal.decreases-loop-x
decreases-loop-x l = length l.s - l.at
