-- `text::showing::recording_damage` is safe, and ends: each field takes some of what is left of the file.
-- Assumes nothing.
use Rattle.std.proofs.Common.{length}
use Rattle.text.proofs.showing.recording_damage.Given as goal

abbrev pub decreases-loop-rest : goal.decreases-loop-rest
decreases-loop-rest l = length l.rest
