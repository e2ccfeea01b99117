-- Numbers and texts that stand packed in an input, one behind the other.
-- Assumes nothing.
use Rattle.std.specs.Prelude.{ℕ, ◌≡◌, ◌<◌, ◌≤◌, List, ◌++◌, length, slice_index, Option}
use Rattle.std.specs.Io.KnownBytes.{Consumes, IsAtEnd}
use Rattle.wire.specs.Bytes.{number_of}

-- the number of the four bytes in front
abbrev pub number_in : List ℕ → ℕ
number_in bs = number_of (slice_index bs 0) (slice_index bs 1) (slice_index bs 2) (slice_index bs 3)

-- what came of an input is a number: it had its four bytes in front
abbrev pub IsNumber : Option (List ℕ) → Option (List ℕ) → ℕ → Type 0
IsNumber had left n = (head : List ℕ) × (length head ≡ 4) × Consumes had left head × (n ≡ number_in head)

-- what came of an input is a text: it had its length and the text in front, which is shorter than that only where the input ended
abbrev pub IsText : Option (List ℕ) → Option (List ℕ) → List ℕ → Type 0
IsText had left text = (head : List ℕ) × (length head ≡ 4) × Consumes had left (head ++ text) × (length text ≤ number_in head) × (length text < number_in head → IsAtEnd left)
