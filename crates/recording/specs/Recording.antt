-- One field of a recording: what a text says is next, and the bytes of a step ("The files"; "Numbers of refusal", 18 and writing).
-- Assumes nothing.
use Rattle.std.specs.Prelude.{ℕ, ◌+◌, ◌<◌, ◌^◌, Bool, true, List, ◌∷◌, ◌++◌, ◌≡◌, length, get_or, ltb, leb, eqb}
use Rattle.numbers.specs.Refusals.{bad_field, no_room}
use Rattle.numbers.specs.Tags.{step_tag, end_tag, step_length, end_length, field_head, step_size, end_size}
use Rattle.laws.specs.Choice.{pick, both}
use Rattle.values.specs.declared.Value.{Value}
use Rattle.values.specs.declared.Step.{Step}
use Rattle.values.specs.Values.{is_good}
use Rattle.wire.specs.Bytes.{length_of, number_of, bytes32, wrote_to, wrote_bytes}
use Rattle.wire.specs.declared.Wrote.{Wrote}
use Rattle.wire.specs.declared.Wrote.TheVariants.{Refused as NotWritten}
use Rattle.recording.specs.declared.Field.{Field}
use Rattle.recording.specs.declared.Field.TheVariants.{Step as IsStep, End, Refused}

-- the number of refusal that a field's reading stands for; 0 for a step and for the end ("Numbers of refusal", 18)
abbrev pub field_refusal : Field → ℕ
field_refusal (IsStep s n) = 0
field_refusal End = 0
field_refusal (Refused p r) = r

-- how many places behind its field a refusal stands: 1 for bytes behind the end ("Judging")
abbrev pub field_past : Field → ℕ
field_past (IsStep s n) = 0
field_past End = 0
field_past (Refused p r) = p

-- which field it is: 0 a step, 1 the end, 2 a refusal ("The files", recording)
abbrev pub field_form : Field → ℕ
field_form (IsStep s n) = 0
field_form End = 1
field_form (Refused p r) = 2

-- a step's two values are good ("The files", last sentence)
unfoldable pub values_good : Step → Bool
values_good s = both (is_good s.argument) (is_good s.claim)

-- a step field whose bytes are there: refused for a bad value ("Numbers of refusal", 18)
unfoldable pub tested : Step → Field
tested s = pick (values_good s) (IsStep s step_size) (Refused 0 bad_field)

-- the value whose five bytes stand at a place: its kind, then its number ("The files", last sentence)
abbrev pub value_at : List ℕ → ℕ → Value
value_at t i = record { kind = get_or t i 0; number = number_of (get_or t (i + 1) 0) (get_or t (i + 2) 0) (get_or t (i + 3) 0) (get_or t (i + 4) 0) }

-- the step whose sixteen bytes stand first: code, who, what, argument, claim ("The files", recording)
abbrev pub step_at : List ℕ → Step
step_at t = record { code = get_or t 3 0; who = get_or t 4 0; what = get_or t 5 0; argument = value_at t 6; claim = value_at t 11 }

-- a step field, tag and length read: it may be cut ("Numbers of refusal", 18 and 21)
unfoldable pub step_in : List ℕ → Field
step_in t = pick (ltb (length t) step_size) (Refused 0 bad_field) (tested (step_at t))

-- the end field, tag and length read: what follows it stands one place on ("Numbers of refusal", the sentence on refused reads: a field that is missing, bytes behind the end)
unfoldable pub end_in : List ℕ → Field
end_in t = pick (eqb (length t) end_size) End (Refused 1 bad_field)

-- the field at the front of a text: its frame first, then its values ("Numbers of refusal", 18)
unfoldable pub field_of : List ℕ → Field
field_of t =
    pick (ltb (length t) field_head) (Refused 0 bad_field)
    (pick (eqb (get_or t 0 0) step_tag) (pick (eqb (length_of (get_or t 1 0) (get_or t 2 0)) step_length) (step_in t) (Refused 0 bad_field))
    (pick (eqb (get_or t 0 0) end_tag) (pick (eqb (length_of (get_or t 1 0) (get_or t 2 0)) end_length) (end_in t) (Refused 0 bad_field))
    (Refused 0 bad_field)))

-- the five bytes of a value ("The files", last sentence)
abbrev pub value_bytes : Value → List ℕ
value_bytes v = v.kind ∷ bytes32 v.number

-- the sixteen bytes of a step's field ("The files", recording)
abbrev pub bytes_of : Step → List ℕ
bytes_of s = step_tag ∷ 0 ∷ step_length ∷ s.code ∷ s.who ∷ s.what ∷ (value_bytes s.argument ++ value_bytes s.claim)

-- the answer to writing a step: 18, then 27 ("Numbers of refusal", writing)
abbrev pub step_to : List ℕ → ℕ → Step → Wrote
step_to b at s = pick (values_good s) (wrote_to b at step_size) (NotWritten bad_field)

-- the buffer afterwards ("Numbers of refusal", writing)
abbrev pub step_written : List ℕ → ℕ → Step → List ℕ
step_written b at s = pick (values_good s) (wrote_bytes b at (bytes_of s)) b

-- a step written and read back ("The files")
abbrev pub write_and_read_of : List ℕ → ℕ → Step → Field
write_and_read_of b at s = pick (values_good s) (pick (leb (at + step_size) (length b)) (IsStep s step_size) (Refused 0 no_room)) (Refused 0 bad_field)

-- what writing asks of a step: argument and claim are good values whose numbers have 32 bits (code, who and what are bytes by their types) ("The files", last sentence)
pub record Recorded (s : Step) : Type 0 where
  pub good : values_good s ≡ true
  pub argument : s.argument.number < 2 ^ 32
  pub claim : s.claim.number < 2 ^ 32
