-- Numbers of the short form, by name (W-207): its refusal, its tag and its edition.
-- Assumes nothing.
use Rattle.std.specs.Prelude.{ℕ}

-- a step has no short form: its code is unknown, or an entry that it does not use is filled (W-207)
abbrev pub no_short : ℕ
no_short = 29

-- the tag of a step in the short form (W-207)
abbrev pub short_tag : ℕ
short_tag = 0x41

-- the edition of a recording in the short form (W-207)
abbrev pub short_edition : ℕ
short_edition = 2

-- how long the field of the edition is, in all ("The files", tag 01; W-207)
abbrev pub edition_size : ℕ
edition_size = 4
