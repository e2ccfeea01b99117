-- The line of one recording among several.
-- Assumes nothing.
use Rattle.std.specs.Prelude.{ℕ, List, ◌∷◌, ◌++◌}
use Rattle.judging.specs.declared.Line.{Line}
use Rattle.printing.specs.Printed.{printed_of}

-- the line behind the name of its recording, a colon and a space
abbrev pub named_line : List ℕ → Line → List ℕ
named_line name line = name ++ 58 ∷ 32 ∷ printed_of line
