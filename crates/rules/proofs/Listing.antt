-- What a list says of a runnable: an element that it lists stands at its place, and one that lists none has none at any place.
-- Assumes nothing.
use Prim.Native.Nat.{ℕ, ◌+◌, ◌<◌}
use mathlib.Core.Bool.{Bool, true, false}
use mathlib.Core.Path.{◌≡◌, refl}
use native.Mathlib.Decide.{dec_lt}
use native.Mathlib.Omega.{arith}
use lib.Dec.{ltb, eqb}
use borrow.Author.Tests.{lt-ltb, le-ltb, ltb-true, eqb-true}
use Rattle.laws.specs.Choice.{both}
use Rattle.laws.specs.Loop.{first_below}
use Rattle.laws.proofs.Choosing.{clash, both_left, both_right}
use Rattle.laws.proofs.Looping.{first-is}
use Rattle.config.specs.Tables.{Lists}
use Rattle.config.specs.Tables.{listed_in}
use Rattle.config.specs.Lists.{first_listed, lists_at, element_at, place_of, is_listed}

module _ (t : Lists) (r : ℕ) where
  -- a place at which r lists an element is a pair of the list, and one of r
  pub lists-there : (j : ℕ) → lists_at t r j ≡ true → first_listed t r + j < t.n
  unfolding lists_at
  lists-there j h = ltb-true _ _ (both_left (ltb (first_listed t r + j) t.n) _ h)

  -- an element that r lists stands at its place
  module _ (q : ℕ) (h : is_listed t r q ≡ true) where
    pub place_inside : place_of t r q < 4
    unfolding is_listed
    place_inside = ltb-true (place_of t r q) 4 h

    at_place : both (lists_at t r (place_of t r q)) (eqb (element_at t r (place_of t r q)) q) ≡ true
    unfolding place_of
    at_place = first-is (λ (j : ℕ). both (lists_at t r j) (eqb (element_at t r j) q)) 4 place_inside

    pub place-lists : lists_at t r (place_of t r q) ≡ true
    place-lists = both_left (lists_at t r (place_of t r q)) _ at_place

    pub place-element : element_at t r (place_of t r q) ≡ q
    place-element = eqb-true _ q (both_right (lists_at t r (place_of t r q)) _ at_place)

  -- one that lists nothing at its first place lists nothing
  pub lists-none : lists_at t r 0 ≡ false → (j : ℕ) → lists_at t r j ≡ false
  unfolding lists_at first_listed
  lists-none h j = go (dec_lt f t.n)
    where
      f : ℕ
      f = first_below (λ (k : ℕ). eqb (listed_in t k).runnable r) t.n

      z : f + 0 ≡ f
      z = omega arith

      go : Dec (f < t.n) → both (ltb (f + j) t.n) (eqb (listed_in t (f + j)).runnable r) ≡ false
      go (yes l) = absurd (clash _ (rw (z, lt-ltb f t.n l) (first-is (λ (k : ℕ). eqb (listed_in t k).runnable r) t.n l)) h)
      go (no l) = rw (le-ltb (f + j) t.n (omega (arith, l)))

  -- so one that lists anything lists something at its first place
  pub lists-some : (j : ℕ) → lists_at t r j ≡ true → lists_at t r 0 ≡ true
  lists-some j h = go (lists_at t r 0) refl
    where
      go : (b : Bool) → lists_at t r 0 ≡ b → lists_at t r 0 ≡ true
      go true e = e
      go false e = absurd (clash (lists_at t r j) h (lists-none e j))
