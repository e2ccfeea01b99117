-- Places that pass as the bits of one number, and a bit of a number asked for.
-- Assumes nothing.
use Rattle.std.specs.Prelude.{ℕ, zero, suc, ◌/◌, ◌%◌, ◌^◌, Bool, eqb}
use Rattle.laws.specs.Choice.{pick}
use Rattle.laws.specs.Loop.{sum_below}

-- the places below n that pass, each as its bit: the place k counts for 2 to the power of k
unfoldable pub mask_below : (ℕ → Bool) → ℕ → ℕ
mask_below p n = sum_below (λ (k : ℕ). pick (p k) (2 ^ k) 0) n

-- the bit k of a number is set: the number is odd, once it is halved k times
unfoldable pub is_set : ℕ → ℕ → Bool
is_set m zero = eqb (m % 2) 1
is_set m (suc k) = is_set (m / 2) k
