-- `long::hold` meets its contract. The loop has moved the bytes below its counter (`paste`).
-- Assumes nothing.
use Rattle.std.proofs.Common.{◌≡◌, length, drop}
use Rattle.std.proofs.Math.Seq.{paste}
use Rattle.long.proofs.hold.Given as goal

abbrev pub invariant-loop-i : goal.invariant-loop-i
invariant-loop-i l = (length l.buf ≡ length l.initial.buf) × (l.buf ≡ paste l.initial.buf 0 (drop 65520 l.initial.buf) l.i)
