-- What a runnable lists: the elements of its pairs in a list, which stand together as the pairs rise (W-211).
-- Assumes nothing.
use Rattle.std.specs.Prelude.{ℕ, ◌+◌, Bool, ltb, eqb}
use Rattle.laws.specs.Choice.{both}
use Rattle.laws.specs.Loop.{first_below, count_below}
use Rattle.config.specs.Tables.{Lists, max_listed, listed_in}

-- how many of the first n pairs are of the runnable r (W-211)
unfoldable pub listed_below : Lists → ℕ → ℕ → ℕ
listed_below t r n = count_below (λ (k : ℕ). eqb (listed_in t k).runnable r) n

-- where the pairs of the runnable r begin, or how many pairs there are (W-211)
unfoldable pub first_listed : Lists → ℕ → ℕ
first_listed t r = first_below (λ (k : ℕ). eqb (listed_in t k).runnable r) t.n

-- the runnable r has a pair j places behind its first (W-211)
unfoldable pub lists_at : Lists → ℕ → ℕ → Bool
lists_at t r j = both (ltb (first_listed t r + j) t.n) (eqb (listed_in t (first_listed t r + j)).runnable r)

-- the element of the pair j places behind the first of r (W-211)
unfoldable pub element_at : Lists → ℕ → ℕ → ℕ
element_at t r j = (listed_in t (first_listed t r + j)).element

-- the place of the element q among those that r lists, or 4 (W-211)
unfoldable pub place_of : Lists → ℕ → ℕ → ℕ
place_of t r q = first_below (λ (j : ℕ). both (lists_at t r j) (eqb (element_at t r j) q)) max_listed

-- the runnable r lists the element q (W-211)
unfoldable pub is_listed : Lists → ℕ → ℕ → Bool
is_listed t r q = ltb (place_of t r q) max_listed
