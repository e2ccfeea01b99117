-- The mender's answer for two files, and its lines byte by byte (W-209, the report; "Judging", the program).
-- Assumes nothing.
use Rattle.std.specs.Prelude.{ℕ, ◌+◌, ◌-◌, ◌*◌, ◌/◌, Bool, List, [], ◌∷◌, ltb, eqb, length, get_or, take, drop}
use Rattle.numbers.specs.Tags.{step_size, end_size}
use Rattle.laws.specs.Choice.{pick, either}
use Rattle.state.specs.Start.{start_of}
use Rattle.wire.specs.Bytes.{number_of, build}
use Rattle.reading.specs.declared.Outcome.{Outcome}
use Rattle.reading.specs.declared.Outcome.TheVariants.{Whole as Read, Refused as NotRead}
use Rattle.reading.specs.Reading.{config_of}
use Rattle.judging.specs.Line.{max_config, max_recording}
use Rattle.lines.specs.Lines.{line_bytes}
use Rattle.lines.specs.Words.{refused_word, configuration_word, too_long_words}
use Rattle.gaps.specs.declared.Mended.{Mended}
use Rattle.gaps.specs.declared.Mended.TheVariants.{Whole, Refused}
use Rattle.gaps.specs.Report.{note_size, mend_to, mend_written, mend_reported}
use Rattle.mender.specs.declared.Told.{Told}
use Rattle.mender.specs.declared.Told.TheVariants.{Mended as IsMended, Refused as IsRefused, Configuration, TooLong}

-- the number of refusal that an answer stands for; 0 where it was mended or too long (W-209, refusals)
abbrev pub told_refusal : Told → ℕ
told_refusal (IsMended steps notes) = 0
told_refusal (IsRefused place number) = number
told_refusal (Configuration place number) = number
told_refusal TooLong = 0

-- the answer of mending as the answer for two files (W-209)
abbrev pub told_by : Mended → Told
told_by (Whole steps notes) = IsMended steps notes
told_by (Refused place number) = IsRefused place number

-- by cases on what a configuration was read as
abbrev pub on_read : {A : Type 0} → Outcome → A → (ℕ → ℕ → A) → A
on_read Read a f = a
on_read (NotRead p k) a f = f k p

-- one of the two files is longer than the program takes ("Judging", the program)
abbrev pub is_too_long : List ℕ → List ℕ → Bool
is_too_long c t = either (ltb max_config (length c)) (ltb max_recording (length t))

-- the answer for two files: lengths first, then the configuration, then mending from the start state (W-209; "Judging", the program)
unfoldable pub told_of : List ℕ → List ℕ → List ℕ → List ℕ → Told
told_of c t b p =
    pick (is_too_long c t) TooLong
    (on_read (config_of c).outcome (told_by (mend_to (config_of c).config (start_of (config_of c).config) t b p)) (λ k place. Configuration place k))

-- the buffer of the text afterwards (W-209)
unfoldable pub told_text : List ℕ → List ℕ → List ℕ → List ℕ → List ℕ
told_text c t b p =
    pick (is_too_long c t) b
    (on_read (config_of c).outcome (mend_written (config_of c).config (start_of (config_of c).config) t b p) (λ k place. b))

-- the buffer of the report afterwards (W-209)
unfoldable pub told_report : List ℕ → List ℕ → List ℕ → List ℕ → List ℕ
told_report c t b p =
    pick (is_too_long c t) p
    (on_read (config_of c).outcome (mend_reported (config_of c).config (start_of (config_of c).config) t b p) (λ k place. p))

-- ---- lines

-- the word insert (W-209, the report)
abbrev pub insert_word : List ℕ
insert_word = 105 ∷ 110 ∷ 115 ∷ 101 ∷ 114 ∷ 116 ∷ []

-- the word gap (W-209, the report)
abbrev pub gap_word : List ℕ
gap_word = 103 ∷ 97 ∷ 112 ∷ []

-- the word mended (W-209)
abbrev pub mended_word : List ℕ
mended_word = 109 ∷ 101 ∷ 110 ∷ 100 ∷ 101 ∷ 100 ∷ []

-- the number in a note: the answer's, or how many sequences were passed over (W-209, the report)
abbrev pub note_number : List ℕ → ℕ
note_number t = number_of (get_or t 4 0) (get_or t 5 0) (get_or t 6 0) (get_or t 7 0)

-- the place in a note (W-209, the report)
abbrev pub note_place : List ℕ → ℕ
note_place t = number_of (get_or t 8 0) (get_or t 9 0) (get_or t 10 0) (get_or t 11 0) * 4294967296 + number_of (get_or t 12 0) (get_or t 13 0) (get_or t 14 0) (get_or t 15 0)

-- the line of a note: `insert PLACE CODE WHAT KIND NUMBER`, or `gap PLACE COUNT` (W-209, the report)
unfoldable pub note_line : List ℕ → List ℕ
note_line t =
    pick (eqb (get_or t 0 0) 1)
    (line_bytes insert_word (note_place t ∷ get_or t 1 0 ∷ get_or t 2 0 ∷ get_or t 3 0 ∷ note_number t ∷ []))
    (line_bytes gap_word (note_place t ∷ note_number t ∷ []))

-- the note k of a report (W-209, the report)
abbrev pub note_at : List ℕ → ℕ → List ℕ
note_at t k = take note_size (drop (k * note_size) t)

-- the lines of the first n notes of a report, one behind the other (W-209, the report)
abbrev pub note_lines : List ℕ → ℕ → List ℕ
note_lines t n = build (λ (k : ℕ). note_line (note_at t k)) n

-- the last line (W-209; "Judging", the program)
abbrev pub told_line : Told → List ℕ
told_line (IsMended steps notes) = line_bytes mended_word (steps ∷ [])
told_line (IsRefused place number) = line_bytes refused_word (place ∷ number ∷ [])
told_line (Configuration place number) = line_bytes configuration_word (place ∷ number ∷ [])
told_line TooLong = line_bytes too_long_words []

-- the bytes of a text of so many steps; 0 where a buffer of this length is shorter (W-209, the mended text)
unfoldable pub text_size : ℕ → ℕ → ℕ
text_size steps room = pick (ltb room end_size) 0 (pick (ltb ((room - end_size) / step_size) steps) 0 (steps * step_size + end_size))
