-- A whole recording: the steps that a text says, and the text of steps ("The files", recording).
-- Assumes nothing.
use Rattle.std.specs.Prelude.{ℕ, zero, suc, Bool, List, [], ◌∷◌, ◌++◌, eqb, length, drop}
use Rattle.numbers.specs.Refusals.{bad_field}
use Rattle.laws.specs.Choice.{pick}
use Rattle.values.specs.declared.Step.{Step}
use Rattle.wire.specs.Bytes.{end_bytes, wrote_to, wrote_bytes}
use Rattle.wire.specs.declared.Wrote.{Wrote}
use Rattle.wire.specs.declared.Wrote.TheVariants.{Refused as NotWritten}
use Rattle.recording.specs.declared.Field.{Field}
use Rattle.recording.specs.declared.Field.TheVariants.{Step as IsStep, End, Refused}
use Rattle.recording.specs.Recording.{field_form, field_of, bytes_of, Recorded}

-- a text read to its first field that is no step: the steps before it, and that field ("The files", recording)
pub record Whole : Type 0 where
  pub steps : List Step
  pub last : Field

-- a field, and what reading comes to behind it
abbrev pub on_field : Field → (ℕ → Whole) → Whole
on_field (IsStep s n) next = record { steps = s ∷ (next n).steps; last = (next n).last }
on_field End next = record { steps = []; last = End }
on_field (Refused p r) next = record { steps = []; last = Refused p r }

-- the same with a bound on the fields
unfoldable pub whole_from : ℕ → List ℕ → Whole
whole_from zero t = record { steps = []; last = Refused 0 bad_field }
whole_from (suc k) t = on_field (field_of t) (λ (n : ℕ). whole_from k (drop n t))

-- a field has bytes, so there are no more fields than bytes
unfoldable pub whole_of : List ℕ → Whole
whole_of t = whole_from (suc (length t)) t

-- the steps of a text, up to its first field that is none ("The files", recording)
abbrev pub steps_in : List ℕ → List Step
steps_in t = (whole_of t).steps

-- a field is the end of a recording ("The files")
abbrev pub is_end : Field → Bool
is_end f = eqb (field_form f) 1

-- a text is a recording: its steps are followed by the end, and that by nothing ("The files", recording)
abbrev pub is_sound : List ℕ → Bool
is_sound t = is_end (whole_of t).last

-- the text of steps: their fields, then the end ("The files", recording)
unfoldable pub text_of : List Step → List ℕ
text_of [] = end_bytes
text_of (s ∷ ss) = bytes_of s ++ text_of ss

-- steps that a recording can hold ("The files", recording)
abbrev pub EachRecorded : List Step → Type 0
EachRecorded [] = Unit {0}
EachRecorded (s ∷ ss) = Recorded s × EachRecorded ss

-- a recording read and written again: 18 for a text that is none, then 27 ("Numbers of refusal", 18 and writing)
abbrev pub rewrite_to : List ℕ → List ℕ → Wrote
rewrite_to s b = pick (is_sound s) (wrote_to b 0 (length s)) (NotWritten bad_field)

-- the buffer afterwards: the same text ("Numbers of refusal", writing)
abbrev pub rewrite_written : List ℕ → List ℕ → List ℕ
rewrite_written s b = pick (is_sound s) (wrote_bytes b 0 s) b
