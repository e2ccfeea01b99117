-- `text::tripping::trip` is safe, and ends: the next file starts behind the place where the one before it ends.
-- Assumes nothing.
use Rattle.std.proofs.Common.{◌-◌, length}
use Rattle.text.proofs.tripping.trip.Given as goal

abbrev pub decreases-loop-from : goal.decreases-loop-from
decreases-loop-from g l = length l.packed - l.at
