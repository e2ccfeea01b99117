-- Rows of places: an array of a state, whatever stands in it. A row is read by get_or, with a blank past its end, and changed by set, which changes nothing there.
-- Assumes nothing.
use Rattle.std.specs.Prelude.{ℕ, zero, suc, Bool, List, [], ◌∷◌, ◌++◌, ltb, eqb, length, get_or, set, drop}
use Rattle.laws.specs.Choice.{pick, both}
use Rattle.laws.specs.Loop.{all_below}

-- the row with each of its first n places changed by f, which knows the place; d stands past the row's end
unfoldable pub each_below : {A : Type 0} → (ℕ → A → A) → A → ℕ → List A → List A
each_below f d zero l = l
each_below f d (suc n) l = set (each_below f d n l) n (f n (get_or (each_below f d n l) n d))

-- what is left of a row when its first entry goes: the others move up, and the last place is blank
unfoldable pub shifted : {A : Type 0} → A → List A → List A
shifted d l = drop 1 l ++ (d ∷ [])

-- one place of a row whose first n places are in use: a used one is good, any other blank
unfoldable pub place_filled : {A : Type 0} → (A → Bool) → (A → Bool) → A → ℕ → List A → ℕ → Bool
place_filled good blank d n l j = pick (ltb j n) (good (get_or l j d)) (blank (get_or l j d))

-- a row of m places whose first n are in use
unfoldable pub filled : {A : Type 0} → (A → Bool) → (A → Bool) → A → ℕ → ℕ → List A → Bool
filled good blank d m n l = both (eqb (length l) m) (all_below (place_filled good blank d n l) m)
