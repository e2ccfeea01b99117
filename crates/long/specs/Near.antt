-- A verdict on one part.
-- Assumes nothing.
use Rattle.std.specs.Prelude.{◌≤◌}
use Rattle.judging.specs.declared.Verdict.{Verdict}
use Rattle.judging.specs.Judging.{verdict_place}

-- its place lies in the part or just behind it ("Judging")
abbrev pub Near : Verdict → Type 0
Near v = verdict_place v ≤ 65538
