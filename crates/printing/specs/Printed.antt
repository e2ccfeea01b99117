-- The line that the judge prints, byte by byte ("Judging", the program).
-- Assumes nothing.
use Rattle.std.specs.Prelude.{ℕ, List, [], ◌∷◌}
use Rattle.judging.specs.declared.Line.{Line}
use Rattle.judging.specs.declared.Line.TheVariants.{Accepted, Refused, Unfinished, Configuration, TooLong}
use Rattle.lines.specs.Lines.{line_bytes}
use Rattle.lines.specs.Words.{refused_word, configuration_word, too_long_words}

-- the word accepted ("Judging", the program)
abbrev pub accepted_word : List ℕ
accepted_word = 97 ∷ 99 ∷ 99 ∷ 101 ∷ 112 ∷ 116 ∷ 101 ∷ 100 ∷ []

-- the word unfinished ("Judging", the program)
abbrev pub unfinished_word : List ℕ
unfinished_word = 117 ∷ 110 ∷ 102 ∷ 105 ∷ 110 ∷ 105 ∷ 115 ∷ 104 ∷ 101 ∷ 100 ∷ []

-- a line as it is printed: its word, and its count or its place and number ("Judging", the program)
abbrev pub printed_of : Line → List ℕ
printed_of (Accepted n) = line_bytes accepted_word (n ∷ [])
printed_of (Refused p k) = line_bytes refused_word (p ∷ k ∷ [])
printed_of (Unfinished n) = line_bytes unfinished_word (n ∷ [])
printed_of (Configuration p k) = line_bytes configuration_word (p ∷ k ∷ [])
printed_of TooLong = line_bytes too_long_words []
