-- The short form of a recording: what a code uses, a step's field with only that, and the header (W-207).
-- Assumes nothing.
use Rattle.std.specs.Prelude.{ℕ, ◌+◌, Bool, not, List, [], ◌∷◌, ◌++◌, ltb, leb, eqb, length, get_or}
use Rattle.numbers.specs.Refusals.{bad_field}
use Rattle.numbers.specs.Tags.{edition_tag, edition_length, end_tag, end_length, field_head}
use Rattle.forms.specs.Numbers.{no_short, short_edition, edition_size, short_tag}
use Rattle.laws.specs.Choice.{pick, both, either, bit, all_of}
use Rattle.values.specs.declared.Value.{Value}
use Rattle.values.specs.declared.Step.{Step}
use Rattle.values.specs.Values.{void_v, is_void}
use Rattle.rules.specs.declared.Row.{Row}
use Rattle.rules.specs.Rows.{nobody, a_slot, no_part, nothing, row_of}
use Rattle.wire.specs.Bytes.{length_of, bytes32, wrote_to, wrote_bytes}
use Rattle.wire.specs.declared.Wrote.{Wrote}
use Rattle.wire.specs.declared.Wrote.TheVariants.{Refused as NotWritten}
use Rattle.recording.specs.declared.Field.{Field}
use Rattle.recording.specs.declared.Field.TheVariants.{Step as IsStep, Refused}
use Rattle.recording.specs.Recording.{values_good, value_at, end_in}

-- ---- what a code uses, by its row in the table of steps

-- a code is a step's (W-207: an unknown code has no short form)
abbrev pub is_code : Row → Bool
is_code r = ltb nobody r.who

-- who is used: the step is a slot's (W-207, "only the entries that code uses")
abbrev pub uses_who : Row → Bool
uses_who r = eqb r.who a_slot

-- what is used: the step names a part (W-207)
abbrev pub uses_what : Row → Bool
uses_what r = ltb no_part r.part

-- the argument is used: the step takes one (W-207)
abbrev pub uses_argument : Row → Bool
uses_argument r = ltb nothing r.argument

-- every entry that is not used is empty (W-207, refusal 29)
unfoldable pub is_sparing : Row → Step → Bool
is_sparing r s = all_of (either (uses_who r) (eqb s.who 0) ∷ either (uses_what r) (eqb s.what 0) ∷ either (uses_argument r) (is_void s.argument) ∷ [])

-- a step has a short form (W-207, refusal 29)
unfoldable pub has_short : Step → Bool
has_short s = both (is_code (row_of s.code)) (is_sparing (row_of s.code) s)

-- ---- a field written

-- a kind of value is written with its number: 1, Number, and 8, Full (W-207)
abbrev pub keeps_number : ℕ → Bool
keeps_number k = either (eqb k 1) (eqb k 8)

-- the bytes of a value: its kind, and behind it the number of a Number or a Full (W-207)
abbrev pub short_value : Value → List ℕ
short_value v = v.kind ∷ pick (keeps_number v.kind) (bytes32 v.number) []

-- the bytes of an entry that is there only if it is used (W-207)
abbrev pub if_used : Bool → List ℕ → List ℕ
if_used b l = pick b l []

-- the body of a step's field: its code, the entries that the code uses, its claim (W-207)
abbrev pub body_of : Row → Step → List ℕ
body_of r s = s.code ∷ (if_used (uses_who r) (s.who ∷ []) ++ if_used (uses_what r) (s.what ∷ []) ++ if_used (uses_argument r) (short_value s.argument) ++ short_value s.claim)

-- the bytes of a step's field: tag, length, body (W-207)
unfoldable pub short_bytes : Step → List ℕ
short_bytes s = short_tag ∷ 0 ∷ length (body_of (row_of s.code) s) ∷ body_of (row_of s.code) s

-- the answer to writing a step: 18, 29, then 27 (W-207)
abbrev pub short_to : List ℕ → ℕ → Step → Wrote
short_to b at s = pick (values_good s) (pick (has_short s) (wrote_to b at (length (short_bytes s))) (NotWritten no_short)) (NotWritten bad_field)

-- the buffer afterwards (W-207)
abbrev pub short_written : List ℕ → ℕ → Step → List ℕ
short_written b at s = pick (both (values_good s) (has_short s)) (wrote_bytes b at (short_bytes s)) b

-- ---- a field read

-- how many bytes a value has whose kind is this (W-207)
abbrev pub value_size : ℕ → ℕ
value_size k = pick (keeps_number k) 5 1

-- the value whose bytes stand at a place: a kind without a number has 0 (W-207)
abbrev pub short_value_at : List ℕ → ℕ → Value
short_value_at t i = pick (keeps_number (get_or t i 0)) (value_at t i) (record { kind = get_or t i 0; number = 0 })

-- where what stands: behind code and who (W-207)
abbrev pub what_at : Row → ℕ
what_at r = field_head + 1 + bit (uses_who r)

-- where the argument stands: behind what (W-207)
abbrev pub argument_at : Row → ℕ
argument_at r = what_at r + bit (uses_what r)

-- where the claim stands: behind the argument (W-207)
abbrev pub claim_at : Row → List ℕ → ℕ
claim_at r t = argument_at r + pick (uses_argument r) (value_size (get_or t (argument_at r) 0)) 0

-- where the field ends: behind the claim (W-207)
abbrev pub end_at : Row → List ℕ → ℕ
end_at r t = claim_at r t + value_size (get_or t (claim_at r t) 0)

-- the step whose field stands first; entries that the code does not use are empty (W-207)
abbrev pub short_step_at : Row → List ℕ → Step
short_step_at r t = record {
  code = get_or t field_head 0;
  who = pick (uses_who r) (get_or t (field_head + 1) 0) 0;
  what = pick (uses_what r) (get_or t (what_at r) 0) 0;
  argument = pick (uses_argument r) (short_value_at t (argument_at r)) void_v;
  claim = short_value_at t (claim_at r t);
}

-- a step's field by the row of its code: the code is known, the length is exactly that of its entries, all of it is there, and its values are good; else 18 (W-207)
abbrev pub short_step_by : Row → List ℕ → Field
short_step_by r t =
    pick (all_of (is_code r ∷ eqb (end_at r t) (field_head + length_of (get_or t 1 0) (get_or t 2 0)) ∷ leb (end_at r t) (length t) ∷ values_good (short_step_at r t) ∷ []))
    (IsStep (short_step_at r t) (end_at r t))
    (Refused 0 bad_field)

-- the same for the code that stands there (W-207)
unfoldable pub short_step_in : List ℕ → Field
short_step_in t = short_step_by (row_of (get_or t field_head 0)) t

-- the field at the front of a text in the short form, behind its header; the end is as in the old form (W-207)
unfoldable pub short_field_of : List ℕ → Field
short_field_of t =
    pick (ltb (length t) field_head) (Refused 0 bad_field)
    (pick (eqb (get_or t 0 0) short_tag) (short_step_in t)
    (pick (eqb (get_or t 0 0) end_tag) (pick (eqb (length_of (get_or t 1 0) (get_or t 2 0)) end_length) (end_in t) (Refused 0 bad_field))
    (Refused 0 bad_field)))

-- ---- the header

-- the header: the edition 2 (W-207)
abbrev pub header_bytes : List ℕ
header_bytes = edition_tag ∷ 0 ∷ edition_length ∷ short_edition ∷ []

-- a text is of the short form if it begins as a header does (W-207)
unfoldable pub is_short : List ℕ → Bool
is_short t = eqb (get_or t 0 0) edition_tag

-- behind its tag the header is whole: length 1, edition 2 (W-207, place 0)
unfoldable pub is_headed : List ℕ → Bool
is_headed t = all_of (leb edition_size (length t) ∷ eqb (get_or t 1 0) 0 ∷ eqb (get_or t 2 0) edition_length ∷ eqb (get_or t 3 0) short_edition ∷ [])

-- a text of the short form whose header is bad: 18 at place 0 (W-207)
unfoldable pub is_misheaded : List ℕ → Bool
is_misheaded t = both (is_short t) (not (is_headed t))
