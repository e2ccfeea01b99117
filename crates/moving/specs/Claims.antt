-- What is claimed of the two moves: each takes the other back, byte by byte (W-207).
-- Assumes nothing.
use Rattle.std.specs.Prelude.{ℕ, ◌<◌, true, List, ◌↔◌, ◌≡◌, length, take, drop, get_or}
use Rattle.forms.specs.Numbers.{edition_size}
use Rattle.recording.specs.Whole.{steps_in, is_sound}
use Rattle.forms.specs.Short.{is_short, is_headed}
use Rattle.moving.specs.declared.Moved.TheVariants.{To}
use Rattle.moving.specs.Old.{long_of}
use Rattle.moving.specs.Moves.{short_text_of, EachShort, shortens_of, shorten_to, shorten_written, lengthens_of, lengthen_to, lengthen_written}

-- THE CLAIM: a text moves to the short form exactly if it is a whole recording each of whose steps has a short form; and so long is what it moves to (W-207)
abbrev pub MovesToShort : Type 0
MovesToShort = (t : List ℕ) (n : ℕ) → (shortens_of t ≡ To n) ↔ ((is_sound t ≡ true) × EachShort (steps_in t) × (n ≡ length (short_text_of (steps_in t))))

-- THE CLAIM: a text moves to the old form exactly if it has a good header, and is whole behind it (W-207)
abbrev pub MovesToOld : Type 0
MovesToOld = (t : List ℕ) (n : ℕ) → (lengthens_of t ≡ To n) ↔ ((is_short t ≡ true) × (is_headed t ≡ true) × (is_sound (long_of (drop edition_size t)) ≡ true) × (n ≡ length (long_of (drop edition_size t))))

-- a text of bytes
abbrev pub Bytes : List ℕ → Type 0
Bytes t = (i : ℕ) → get_or t i 0 < 256

-- THE CLAIM, old to new to old: what moves to the short form moves back, and is the same text
abbrev pub ShortAndBack : Type 0
ShortAndBack = (t : List ℕ) (n : ℕ) → Bytes t → shortens_of t ≡ To n
    → (lengthens_of (short_text_of (steps_in t)) ≡ To (length t)) × (long_of (drop edition_size (short_text_of (steps_in t))) ≡ t)

-- THE CLAIM, new to old to new: what moves to the old form moves back, and is the same text
abbrev pub BackAndShort : Type 0
BackAndShort = (t : List ℕ) (n : ℕ) → Bytes t → lengthens_of t ≡ To n
    → (shortens_of (long_of (drop edition_size t)) ≡ To (length t)) × (short_text_of (steps_in (long_of (drop edition_size t))) ≡ t)

-- the same of what the moves leave in lent buffers, the first n bytes of one (W-207, "returns the same bytes")
abbrev pub BuffersReturn : Type 0
BuffersReturn =
    (t b c : List ℕ) (n m : ℕ) → Bytes t
    → (shorten_to t b ≡ To n → lengthen_to (take n (shorten_written t b)) c ≡ To m → take m (lengthen_written (take n (shorten_written t b)) c) ≡ t)
    × (lengthen_to t b ≡ To n → shorten_to (take n (lengthen_written t b)) c ≡ To m → take m (shorten_written (take n (lengthen_written t b)) c) ≡ t)
