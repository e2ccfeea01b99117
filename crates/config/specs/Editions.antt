-- What depends on the edition of a configuration: which editions there are, and what only some of them have (W-208). Nothing else asks for an edition.
-- Assumes nothing.
use Rattle.std.specs.Prelude.{ℕ, Bool, not, leb, eqb}
use Rattle.numbers.specs.Codes.{invalidate_code}
use Rattle.numbers.specs.Tags.{incoming_tag, outgoing_tag}
use Rattle.laws.specs.Choice.{both, either}

-- the first edition ("The files", tag 01)
abbrev pub first_edition : ℕ
first_edition = 1

-- the last edition (W-208)
abbrev pub last_edition : ℕ
last_edition = 2

-- an edition that a configuration may have: 1 or 2 ("Numbers of refusal", 24; W-208)
unfoldable pub is_edition : ℕ → Bool
is_edition e = both (leb first_edition e) (leb e last_edition)

-- elements can be marked invalid: in the first edition alone (W-208)
unfoldable pub marks_invalid : ℕ → Bool
marks_invalid e = eqb e first_edition

-- the edition has a step of this code: each but invalidate, which goes where no element is marked (W-208)
unfoldable pub has_step : ℕ → ℕ → Bool
has_step e code = either (not (eqb code invalidate_code)) (marks_invalid e)

-- runnables list elements to be copied at spawn and written at end: in the second edition (W-211)
unfoldable pub lists_elements : ℕ → Bool
lists_elements e = eqb e last_edition

-- the edition has fields with this tag: each but those of lists, which need an edition that has them (W-211)
unfoldable pub has_field : ℕ → ℕ → Bool
has_field e tag = either (not (either (eqb tag incoming_tag) (eqb tag outgoing_tag))) (lists_elements e)
