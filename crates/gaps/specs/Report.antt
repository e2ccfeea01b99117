-- What mending answers and leaves in the lent buffers: the mended text, and the report, a run of notes of sixteen bytes each (W-209, the report and its refusals).
-- Assumes nothing.
use Rattle.std.specs.Prelude.{ℕ, ◌+◌, ◌*◌, ◌/◌, List, [], ◌∷◌, ◌++◌, leb, eqb, length}
use Rattle.numbers.specs.Refusals.{bad_field, no_room, not_sound, no_fill}
use Rattle.numbers.specs.Tags.{step_size, end_size}
use Rattle.laws.specs.Choice.{pick, both}
use Rattle.faces.specs.Types.{Step, Config, State, Stepped}
use Rattle.rules.specs.Sound.{sound_of}
use Rattle.effects.specs.Step.{step_of}
use Rattle.wire.specs.Bytes.{bytes32, put_at}
use Rattle.recording.specs.declared.Field.{Field}
use Rattle.recording.specs.declared.Field.TheVariants.{Step as IsStep, End, Refused as NoField}
use Rattle.recording.specs.Whole.{whole_of, steps_in, text_of}
use Rattle.gaps.specs.declared.Mended.{Mended}
use Rattle.gaps.specs.declared.Mended.TheVariants.{Whole, Refused}
use Rattle.gaps.specs.Gaps.{Turn, turn_steps, turns_of, mended_steps}

-- by cases on an answer: mended, or refused
abbrev pub on_mended : {A : Type 0} → Mended → A → A → A
on_mended (Whole steps notes) a b = a
on_mended (Refused place number) a b = b

-- ---- the report

-- how long a note is (W-209, the report)
abbrev pub note_size : ℕ
note_size = 16

-- the eight bytes of a place (W-209, the report)
abbrev pub place_bytes : ℕ → List ℕ
place_bytes n = bytes32 (n / 4294967296) ++ bytes32 n

-- the note of an inserted step: 1, its code and part, its answer, its place in the mended text (W-209, the report)
abbrev pub step_note : ℕ → Step → List ℕ
step_note place x = 1 ∷ x.code ∷ x.what ∷ x.claim.kind ∷ (bytes32 x.claim.number ++ place_bytes place)

-- the note of a gap: 2, three zeros, the sequences passed over, and the place of the recorded step in the mended text (W-209, the report)
abbrev pub gap_note : ℕ → ℕ → List ℕ
gap_note place passed = 2 ∷ 0 ∷ 0 ∷ 0 ∷ (bytes32 passed ++ place_bytes place)

-- the notes of steps inserted behind n others (W-209, the report)
unfoldable pub step_notes : ℕ → List Step → List ℕ
step_notes n [] = []
step_notes n (x ∷ xs) = step_note (n + 1) x ++ step_notes (n + 1) xs

-- the notes of a turn behind n steps; a step that is accepted as it stands has none (W-209, the report)
unfoldable pub turn_notes : ℕ → Turn → List ℕ
turn_notes n t = pick (eqb t.passed 0) [] (step_notes n t.inserted ++ gap_note (n + length t.inserted + 1) t.passed)

-- the report of turns behind n steps (W-209, the report)
unfoldable pub report_from : ℕ → List Turn → List ℕ
report_from n [] = []
report_from n (t ∷ ts) = turn_notes n t ++ report_from (n + length (turn_steps t)) ts

-- how many notes turns have (W-209, the report)
unfoldable pub note_count : List Turn → ℕ
note_count [] = 0
note_count (t ∷ ts) = pick (eqb t.passed 0) 0 (length t.inserted + 1) + note_count ts

-- ---- the answer

-- what the field behind the n steps of a text says: the end, or a refusal (W-209, 18)
abbrev pub on_last : Field → ℕ → Mended → Mended
on_last (IsStep s size) n whole = Refused (n + 1) bad_field
on_last End n whole = whole
on_last (NoField past k) n whole = Refused (n + 1 + past) k

-- the answer but for soundness and room: 31 at the first gap that can't be filled, then what the text's last field says (W-209, refusals)
unfoldable pub survey_of : (State → Step → Stepped) → Config → State → List ℕ → Mended
survey_of step cfg st t =
    pick (eqb (length (turns_of step cfg st (steps_in t))) (length (steps_in t)))
    (on_last (whole_of t).last (length (steps_in t)) (Whole (length (mended_steps (turns_of step cfg st (steps_in t)))) (note_count (turns_of step cfg st (steps_in t)))))
    (Refused (length (turns_of step cfg st (steps_in t)) + 1) no_fill)

-- 27, last of all, where the text or the report does not fit its buffer (W-209, 27)
abbrev pub fitted : List ℕ → List ℕ → Mended → Mended
fitted b p (Whole steps notes) = pick (both (leb (steps * step_size + end_size) (length b)) (leb (notes * note_size) (length p))) (Whole steps notes) (Refused 0 no_room)
fitted b p (Refused place number) = Refused place number

-- the answer: 1 at place 0 before all (W-209, refusals)
unfoldable pub mend_to : Config → State → List ℕ → List ℕ → List ℕ → Mended
mend_to cfg st t b p = pick (sound_of cfg st) (fitted b p (survey_of (step_of cfg) cfg st t)) (Refused 0 not_sound)

-- the buffer of the text afterwards; a refusal leaves it (W-209, the mended text)
abbrev pub mend_written : Config → State → List ℕ → List ℕ → List ℕ → List ℕ
mend_written cfg st t b p = on_mended (mend_to cfg st t b p) (put_at b 0 (text_of (mended_steps (turns_of (step_of cfg) cfg st (steps_in t))))) b

-- the buffer of the report afterwards; a refusal leaves it (W-209, the report)
abbrev pub mend_reported : Config → State → List ℕ → List ℕ → List ℕ → List ℕ
mend_reported cfg st t b p = on_mended (mend_to cfg st t b p) (put_at p 0 (report_from 0 (turns_of (step_of cfg) cfg st (steps_in t)))) p
