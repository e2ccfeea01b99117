-- A line as bytes: a word, numbers in decimal behind a space each, a line feed ("Judging", the program).
-- Assumes nothing.
use Rattle.std.specs.Prelude.{ℕ, zero, suc, ◌+◌, ◌/◌, ◌%◌, List, [], ◌∷◌, ◌++◌, ltb}
use Rattle.laws.specs.Choice.{pick}

-- the digits of a number in ASCII, the highest first, where it has no more than so many ("Judging", the program)
unfoldable pub spelled : ℕ → ℕ → List ℕ
spelled zero n = []
spelled (suc most) n = pick (ltb n 10) ((48 + n) ∷ []) (spelled most (n / 10) ++ ((48 + n % 10) ∷ []))

-- a number in decimal: no zero in front, and one digit for 0; no number n has more than n + 1 digits ("Judging", the program)
unfoldable pub decimal_of : ℕ → List ℕ
decimal_of n = spelled (suc n) n

-- a space and a number behind it ("Judging", the program)
abbrev pub number_bytes : ℕ → List ℕ
number_bytes n = 32 ∷ decimal_of n

-- what stands behind the word: the numbers, then the line feed ("Judging", the program)
unfoldable pub tail_of : List ℕ → List ℕ
tail_of [] = 10 ∷ []
tail_of (n ∷ ns) = number_bytes n ++ tail_of ns

-- a line: its word and its numbers ("Judging", the program)
unfoldable pub line_bytes : List ℕ → List ℕ → List ℕ
line_bytes word ns = word ++ tail_of ns
