-- What merging a recording's waits answers, and leaves in the lent buffer (W-203; "Numbers of refusal", 18 and writing).
-- Assumes nothing.
use Rattle.std.specs.Prelude.{ℕ, ◌+◌, ◌*◌, List, leb, length}
use Rattle.numbers.specs.Refusals.{bad_field, no_room}
use Rattle.numbers.specs.Tags.{step_size, end_size}
use Rattle.laws.specs.Choice.{pick}
use Rattle.wire.specs.Bytes.{put_at}
use Rattle.recording.specs.declared.Field.{Field}
use Rattle.recording.specs.declared.Field.TheVariants.{Step as IsStep, End, Refused as NoField}
use Rattle.recording.specs.Whole.{whole_of, steps_in, text_of}
use Rattle.merging.specs.declared.Merged.{Merged}
use Rattle.merging.specs.declared.Merged.TheVariants.{Whole, Refused}
use Rattle.merging.specs.Waits.{merged_of}

-- by cases on an answer: merged, or refused
abbrev pub on_merged : {A : Type 0} → Merged → A → A → A
on_merged (Whole steps) a b = a
on_merged (Refused place number) a b = b

-- what the field behind the n steps of a text says: the end, or a refusal with its place ("Numbers of refusal", 18)
abbrev pub on_last : Field → ℕ → Merged → Merged
on_last (IsStep s size) n whole = Refused (n + 1) bad_field
on_last End n whole = whole
on_last (NoField past k) n whole = Refused (n + 1 + past) k

-- the answer but for the room: 18 where the text is no recording, else how many steps are left (W-203)
unfoldable pub survey_of : List ℕ → Merged
survey_of t = on_last (whole_of t).last (length (steps_in t)) (Whole (length (merged_of (steps_in t))))

-- 27, last of all, where the text does not fit ("Numbers of refusal", writing)
abbrev pub fitted : List ℕ → Merged → Merged
fitted b (Whole steps) = pick (leb (steps * step_size + end_size) (length b)) (Whole steps) (Refused 0 no_room)
fitted b (Refused place number) = Refused place number

-- the answer (W-203)
unfoldable pub merge_to : List ℕ → List ℕ → Merged
merge_to t b = fitted b (survey_of t)

-- the buffer afterwards: the text of the merged steps and what it held behind that; a refusal leaves it (W-203)
abbrev pub merge_written : List ℕ → List ℕ → List ℕ
merge_written t b = on_merged (merge_to t b) (put_at b 0 (text_of (merged_of (steps_in t)))) b
