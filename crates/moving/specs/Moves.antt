-- The moves from one form of a recording to the other: what they answer, and leave in the lent buffer (W-207).
-- Assumes nothing.
use Rattle.std.specs.Prelude.{ℕ, ◌+◌, true, List, [], ◌∷◌, ◌++◌, ◌⊎◌, ◌≡◌, leb, length, drop}
use Rattle.numbers.specs.Refusals.{bad_field, no_room}
use Rattle.forms.specs.Numbers.{no_short, edition_size}
use Rattle.laws.specs.Choice.{pick, both}
use Rattle.values.specs.declared.Step.{Step}
use Rattle.wire.specs.Bytes.{end_bytes, put_at}
use Rattle.recording.specs.declared.Field.{Field}
use Rattle.recording.specs.declared.Field.TheVariants.{Step as IsStep, End, Refused as NoField}
use Rattle.recording.specs.Whole.{whole_of, steps_in, text_of}
use Rattle.moving.specs.declared.Moved.{Moved}
use Rattle.moving.specs.declared.Moved.TheVariants.{To, Refused}
use Rattle.forms.specs.Short.{has_short, short_bytes, header_bytes, is_short, is_headed}
use Rattle.moving.specs.Old.{long_of}

-- ---- whole texts

-- the fields of steps in the short form, then the end (W-207)
unfoldable pub shorts_of : List Step → List ℕ
shorts_of [] = end_bytes
shorts_of (s ∷ ss) = short_bytes s ++ shorts_of ss

-- the recording of steps in the short form: its header, their fields, the end (W-207)
abbrev pub short_text_of : List Step → List ℕ
short_text_of ss = header_bytes ++ shorts_of ss

-- steps that all have short forms (W-207)
abbrev pub EachShort : List Step → Type 0
EachShort [] = Unit {0}
EachShort (s ∷ ss) = (has_short s ≡ true) × EachShort ss

-- a text is that of steps, in one of the two forms (W-207)
abbrev pub IsTextOf : List ℕ → List Step → Type 0
IsTextOf t ss = (t ≡ text_of ss) ⊎ (t ≡ short_text_of ss)

-- ---- what a move answers

-- what the field behind the n steps of a text says: the end, or a refusal with its place ("Numbers of refusal", 18)
abbrev pub on_last : Field → ℕ → Moved → Moved
on_last (IsStep s size) n whole = Refused (n + 1) bad_field
on_last End n whole = whole
on_last (NoField past k) n whole = Refused (n + 1 + past) k

-- with n steps moved: 29 at the first step that has no short form, and behind all of them what is said of the text's end (W-207)
unfoldable pub unless_long : ℕ → List Step → Moved → Moved
unless_long n [] last = last
unless_long n (s ∷ ss) last = pick (has_short s) (unless_long (n + 1) ss last) (Refused (n + 1) no_short)

-- 27, last of all, where a text does not fit; its place is 0 (ours) ("Numbers of refusal", writing)
abbrev pub fitted : List ℕ → Moved → Moved
fitted b (To size) = pick (leb size (length b)) (To size) (Refused 0 no_room)
fitted b (Refused place number) = Refused place number

-- by cases on an answer: moved, or refused
abbrev pub on_moved : {A : Type 0} → Moved → A → A → A
on_moved (To size) a b = a
on_moved (Refused place number) a b = b

-- the move to the short form but for the room: at each field 18, then 29; a text that is in the short form already is 18 at place 1 (W-207)
unfoldable pub shortens_of : List ℕ → Moved
shortens_of t = unless_long 0 (steps_in t) (on_last (whole_of t).last (length (steps_in t)) (To (length (short_text_of (steps_in t)))))

-- its answer (W-207)
unfoldable pub shorten_to : List ℕ → List ℕ → Moved
shorten_to t b = fitted b (shortens_of t)

-- the buffer afterwards: the text in the short form and what the buffer held behind that; a refusal leaves it (W-207)
abbrev pub shorten_written : List ℕ → List ℕ → List ℕ
shorten_written t b = on_moved (shorten_to t b) (put_at b 0 (short_text_of (steps_in t))) b

-- the move of fields behind a header to the old form, but for the room (W-207)
abbrev pub lengthens_from : List ℕ → Moved
lengthens_from l = on_last (whole_of l).last (length (steps_in l)) (To (length l))

-- the move to the old form but for the room: 18 at place 0 for a text without a good header, and so for one that is in the old form already (W-207)
unfoldable pub lengthens_of : List ℕ → Moved
lengthens_of t = pick (both (is_short t) (is_headed t)) (lengthens_from (long_of (drop edition_size t))) (Refused 0 bad_field)

-- its answer (W-207)
unfoldable pub lengthen_to : List ℕ → List ℕ → Moved
lengthen_to t b = fitted b (lengthens_of t)

-- the buffer afterwards (W-207)
abbrev pub lengthen_written : List ℕ → List ℕ → List ℕ
lengthen_written t b = on_moved (lengthen_to t b) (put_at b 0 (long_of (drop edition_size t))) b
