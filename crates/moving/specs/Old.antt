-- The recording in the old form that a text of either form stands for (W-207).
-- Assumes nothing.
use Rattle.std.specs.Prelude.{ℕ, zero, suc, Bool, List, [], ◌∷◌, ◌++◌, eqb, length, drop}
use Rattle.forms.specs.Numbers.{edition_size}
use Rattle.laws.specs.Choice.{pick}
use Rattle.values.specs.declared.Step.{Step}
use Rattle.wire.specs.Bytes.{end_bytes}
use Rattle.recording.specs.declared.Field.{Field}
use Rattle.recording.specs.declared.Field.TheVariants.{Step as IsStep, End, Refused}
use Rattle.recording.specs.Recording.{field_of, bytes_of}
use Rattle.recording.specs.Whole.{steps_in}
use Rattle.forms.specs.Short.{short_field_of, is_short, is_headed}

-- what stands behind the steps in the old form: the end; or damage of the same kind, which is nothing where a field should be, or a byte behind the end (W-207)
abbrev pub tail_bytes : Field → List ℕ
tail_bytes (IsStep s n) = []
tail_bytes End = end_bytes
tail_bytes (Refused past k) = pick (eqb past 0) [] (end_bytes ++ 0 ∷ [])

-- a field as the old form has it, and what comes behind a step (W-207)
abbrev pub on_short : Field → (ℕ → List ℕ) → List ℕ
on_short (IsStep s n) rest = bytes_of s ++ rest n
on_short End rest = tail_bytes End
on_short (Refused past k) rest = tail_bytes (Refused past k)

-- the same with a bound on the fields
unfoldable pub long_from : ℕ → List ℕ → List ℕ
long_from zero t = []
long_from (suc k) t = on_short (short_field_of t) (λ (n : ℕ). long_from k (drop n t))

-- fields behind a header as the old form has them: a field has bytes, so there are no more fields than bytes (W-207)
unfoldable pub long_of : List ℕ → List ℕ
long_of t = long_from (suc (length t)) t

-- the recording in the old form that a text of either form stands for; none, which is no bytes, if its header is bad (W-207)
unfoldable pub old_of : List ℕ → List ℕ
old_of t = pick (is_short t) (pick (is_headed t) (long_of (drop edition_size t)) []) t

-- the steps of a text of either form, up to its first field that is none (W-207)
abbrev pub steps_of : List ℕ → List Step
steps_of t = steps_in (old_of t)

-- the field at the front of a text in one of the forms, behind its header (W-207)
unfoldable pub field_as : Bool → List ℕ → Field
field_as short t = pick short (short_field_of t) (field_of t)

-- the fields of a text in one of the forms, behind its header, as the old form has them (W-207)
unfoldable pub as_old : Bool → List ℕ → List ℕ
as_old short t = pick short (long_of t) t
