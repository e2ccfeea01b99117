-- The sum so far is that of the bytes so far.
-- Assumes nothing.
use Rattle.std.proofs.Common.{◌≡◌, ◌%◌, ◌*◌, ◌+◌, fold, take}
use Rattle.program_io.proofs.sum_of.Given as goal

abbrev pub invariant-loop-b : goal.invariant-loop-b
invariant-loop-b l = l.sum ≡ fold (λ sum b. (sum % 16777213) * 251 + b) 1 (take l.b-index l.text)
