-- The bytes of `accepted N` are those of no other line and of no other number: every other word has another first letter (`accepted-printed`), and digits read back as their number (`spelled-reads`).
-- Assumes nothing.
use Prim.Native.Nat.{ℕ, zero, suc, ◌+◌, ◌-◌, ◌*◌, ◌/◌, ◌%◌, ◌<◌}
use mathlib.Core.List.{List, [], ◌∷◌, ◌++◌}
use mathlib.Core.Path.{◌≡◌, refl, ap, ◌∙◌}
use native.Mathlib.Decide.{dec_lt}
use native.Mathlib.Nat.{not-suc-le-zero}
use native.Mathlib.Omega.{arith}
use lib.ListN.{get_or, drop}
use borrow.Author.Tests.{lt-ltb, le-ltb}
use Rattle.lines.specs.Lines.{spelled, decimal_of, tail_of, line_bytes}
use Rattle.judging.specs.declared.Line.{Line}
use Rattle.judging.specs.declared.Line.TheVariants.{Accepted, Refused, Unfinished, Configuration, TooLong}
use Rattle.printing.specs.Printed.{accepted_word, printed_of}

-- the number that digits stand for, behind those of n
read_on : ℕ → List ℕ → ℕ
read_on n [] = n
read_on n (d ∷ ds) = read_on (n * 10 + (d - 48)) ds

read-last : (n : ℕ) (ds : List ℕ) (d : ℕ) → read_on n (ds ++ (d ∷ [])) ≡ read_on n ds * 10 + (d - 48)
unfolding read_on
read-last n [] d = refl
read-last n (e ∷ ds) d = read-last (n * 10 + (e - 48)) ds d

spelled-reads : (most n : ℕ) → n < most → read_on 0 (spelled most n) ≡ n
unfolding spelled read_on
spelled-reads zero n h = absurd (not-suc-le-zero h)
spelled-reads (suc most) n h = go (dec_lt n 10) (λ l. spelled-reads most (n / 10) (omega (arith, h, l)))
  where
    go : Dec (n < 10) → ((n < 10 → ⊥) → read_on 0 (spelled most (n / 10)) ≡ n / 10) → read_on 0 (spelled (suc most) n) ≡ n
    go (yes l) rest = rw (lt-ltb n 10 l) (omega arith)
    go (no l) rest = rw (le-ltb n 10 (omega (arith, l))) (read-last 0 (spelled most (n / 10)) (48 + n % 10) ∙ omega (arith, rest l))

-- the number behind the word, and the line feed as one digit more
told-number : (n : ℕ) → read_on 0 (drop 9 (line_bytes accepted_word (n ∷ []))) ≡ n * 10
unfolding line_bytes tail_of decimal_of
told-number n = read-last 0 (decimal_of n) 10 ∙ omega (arith, spelled-reads (suc n) n (omega arith))

pub accepted-printed : (l : Line) (n : ℕ) → printed_of l ≡ line_bytes accepted_word (n ∷ []) → l ≡ Accepted n
unfolding line_bytes
accepted-printed (Accepted m) n e = ap Accepted (omega (arith, told-number m, told-number n, ap (λ (b : List ℕ). read_on 0 (drop 9 b)) e))
accepted-printed (Refused p k) n e = absurd (omega (arith, ap (λ (b : List ℕ). get_or b 0 0) e))
accepted-printed (Unfinished m) n e = absurd (omega (arith, ap (λ (b : List ℕ). get_or b 0 0) e))
accepted-printed (Configuration p k) n e = absurd (omega (arith, ap (λ (b : List ℕ). get_or b 0 0) e))
accepted-printed TooLong n e = absurd (omega (arith, ap (λ (b : List ℕ). get_or b 0 0) e))
