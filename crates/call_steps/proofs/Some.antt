-- Whether a sum counts anything, and a question asked of each of its terms: the one answers the other.
-- Assumes nothing.
use Prim.Native.Nat.{ℕ, zero, suc, ◌+◌}
use mathlib.Core.Bool.{Bool, true, false}
use mathlib.Core.Path.{◌≡◌, refl, sym, ◌∙◌, ap}
use native.Mathlib.Omega.{arith}
use lib.Dec.{ltb}
use borrow.Author.Tests.{lt-ltb}
use Rattle.laws.specs.Choice.{bit, either}
use Rattle.laws.specs.Loop.{any_below, count_below, sum_below}
use Rattle.laws.proofs.Looping.{any_same}

-- a sum of two counts if one of them does
either-counts : (a b : ℕ) → ltb 0 (a + b) ≡ either (ltb 0 a) (ltb 0 b)
either-counts zero b = let e : zero + b ≡ b = omega arith in ap (ltb 0) e
either-counts (suc a) b = lt-ltb 0 (suc a + b) (omega arith) ∙ ap (λ (x : Bool). either x (ltb 0 b)) (sym (lt-ltb 0 (suc a) (omega arith)))

pub some-count : (f : ℕ → ℕ) (n : ℕ) → any_below (λ (k : ℕ). ltb 0 (f k)) n ≡ ltb 0 (sum_below f n)
unfolding any_below sum_below
some-count f zero = refl
some-count f (suc n) = ap (λ (b : Bool). either b (ltb 0 (f n))) (some-count f n) ∙ sym (either-counts (sum_below f n) (f n))

-- a test that is counted
pub some-bit : (b : Bool) → ltb 0 (bit b) ≡ b
some-bit true = refl
some-bit false = refl

-- some place passes exactly if the passing places are counted at all
pub some-pass : (p : ℕ → Bool) (n : ℕ) → any_below p n ≡ ltb 0 (count_below p n)
some-pass p n = any_same p (λ (k : ℕ). ltb 0 (bit (p k))) n (λ k l. sym (some-bit (p k))) ∙ some-count (λ (k : ℕ). bit (p k)) n
