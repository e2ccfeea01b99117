-- The number so far is at most 255.
-- Assumes nothing.
use Rattle.std.proofs.Common.{◌≤◌}
use Rattle.board.proofs.number_of.Given as goal

abbrev pub invariant-loop-b : goal.invariant-loop-b
invariant-loop-b l = l.n ≤ 255
