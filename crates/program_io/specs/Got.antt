-- What came of reading an input: how many bytes, or an error.
-- Assumes nothing.
use Rattle.std.specs.Prelude.{ℕ, ◌<◌, ◌≤◌, List, length, take, Option, Result, Ok, Err}
use Rattle.std.specs.Io.KnownBytes.{Consumes, IsAtEnd}

-- the bytes that came are no more than there was room for; nothing is said of a failed read ("Judging", the program)
abbrev pub Fits : {E : Type 0} → Result ℕ E → ℕ → Type 0
Fits (Ok n) m = n ≤ m
Fits (Err e) m = Unit {0}

-- what came of an input whose bytes are known: it had the bytes that came in front, and is at its end where there was room for more; nothing is said of a failed read
abbrev pub Reads : {E : Type 0} → Option (List ℕ) → Option (List ℕ) → Result ℕ E → List ℕ → Type 0
Reads had left (Ok n) buf = Consumes had left (take n buf) × (n < length buf → IsAtEnd left)
Reads had left (Err e) buf = Unit {0}
