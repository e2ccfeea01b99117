-- What the board prints, byte by byte (W-213).
-- Assumes nothing.
use Rattle.std.specs.Prelude.{ℕ, List, [], ◌∷◌, ◌++◌}
use Rattle.wire.specs.Bytes.{build}
use Rattle.lines.specs.Lines.{line_bytes}
use Rattle.lines.specs.Words.{refused_word, configuration_word, too_long_words}
use Rattle.posting.specs.declared.Shown.{Shown}
use Rattle.posting.specs.declared.Shown.TheVariants.{Final, Wait, NoPlan, None, Unjudged}
use Rattle.posting.specs.declared.Board.{Board}
use Rattle.posting.specs.declared.Told.{Told}
use Rattle.posting.specs.declared.Told.TheVariants.{Line, Refused, Configuration, TooLong}
use Rattle.posting.specs.Posting.{rows_of, row_in}

-- the word FINAL (W-213)
abbrev pub final_word : List ℕ
final_word = 70 ∷ 73 ∷ 78 ∷ 65 ∷ 76 ∷ []

-- the word WAIT (W-213)
abbrev pub wait_word : List ℕ
wait_word = 87 ∷ 65 ∷ 73 ∷ 84 ∷ []

-- the words NO PLAN, with a space between them (W-213)
abbrev pub no_plan_words : List ℕ
no_plan_words = 78 ∷ 79 ∷ 32 ∷ 80 ∷ 76 ∷ 65 ∷ 78 ∷ []

-- the word NONE (W-213)
abbrev pub none_word : List ℕ
none_word = 78 ∷ 79 ∷ 78 ∷ 69 ∷ []

-- the word UNJUDGED (W-213)
abbrev pub unjudged_word : List ℕ
unjudged_word = 85 ∷ 78 ∷ 74 ∷ 85 ∷ 68 ∷ 71 ∷ 69 ∷ 68 ∷ []

-- the word history (W-213)
abbrev pub history_word : List ℕ
history_word = 104 ∷ 105 ∷ 115 ∷ 116 ∷ 111 ∷ 114 ∷ 121 ∷ []

-- a line of the board as it is printed (W-213)
abbrev pub shown_line : Shown → List ℕ
shown_line (Final n) = line_bytes final_word (n ∷ [])
shown_line Wait = line_bytes wait_word []
shown_line NoPlan = line_bytes no_plan_words []
shown_line None = line_bytes none_word []
shown_line Unjudged = line_bytes unjudged_word []

-- what a showing told, as it is printed (W-213; "Judging", the program)
abbrev pub told_line : Told → List ℕ
told_line (Line x) = shown_line x
told_line (Refused k) = line_bytes refused_word (k ∷ [])
told_line (Configuration p k) = line_bytes configuration_word (p ∷ k ∷ [])
told_line TooLong = line_bytes too_long_words []

-- the history as it is printed: the word, then its lines, the newest first (W-213)
unfoldable pub history_lines : Board → List ℕ
history_lines b = line_bytes history_word [] ++ build (λ i. shown_line (row_in b i)) (rows_of b)
