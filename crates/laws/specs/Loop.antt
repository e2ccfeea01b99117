-- Loops that count upwards from 0, as sums, tests and searches over the numbers below n. A loop's invariant is then its own definition, taken at the counter.
-- Assumes nothing.
use Rattle.std.specs.Prelude.{ℕ, zero, suc, ◌+◌, Bool, true, false, ltb}
use Rattle.laws.specs.Choice.{pick, both, either, bit}

-- every place below n passes
unfoldable pub all_below : (ℕ → Bool) → ℕ → Bool
all_below p zero = true
all_below p (suc n) = both (all_below p n) (p n)

-- some place below n passes
unfoldable pub any_below : (ℕ → Bool) → ℕ → Bool
any_below p zero = false
any_below p (suc n) = either (any_below p n) (p n)

-- the values of f at all numbers below n, added up
unfoldable pub sum_below : (ℕ → ℕ) → ℕ → ℕ
sum_below f zero = 0
sum_below f (suc n) = sum_below f n + f n

-- how many places below n pass
abbrev pub count_below : (ℕ → Bool) → ℕ → ℕ
count_below p n = sum_below (λ (k : ℕ). bit (p k)) n

-- the first place below n that passes, or n
unfoldable pub first_below : (ℕ → Bool) → ℕ → ℕ
first_below p zero = zero
first_below p (suc n) = pick (ltb (first_below p n) n) (first_below p n) (pick (p n) n (suc n))
