-- `text::showing::show` is safe, and ends: what is shown next is no longer left.
-- Assumes nothing.
use Rattle.std.proofs.Common.{length}
use Rattle.text.proofs.showing.show.Given as goal

abbrev pub decreases-loop-tag : goal.decreases-loop-tag
decreases-loop-tag g l = length l.left.rest.now
