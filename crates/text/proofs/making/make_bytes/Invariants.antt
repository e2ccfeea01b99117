-- `text::making::make_bytes` is safe, and ends: each byte takes some of what is left of the line.
-- Assumes nothing.
use Rattle.std.proofs.Common.{length}
use Rattle.text.proofs.making.make_bytes.Given as goal

abbrev pub decreases-loop-line : goal.decreases-loop-line
decreases-loop-line g l = length l.line.rest.now
