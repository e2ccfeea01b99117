-- Laws of choices.
-- Assumes nothing.
use Prim.Native.Nat.{ℕ, ◌≤◌}
use mathlib.Core.Bool.{Bool, true, false}
use mathlib.Core.List.{List, [], ◌∷◌}
use mathlib.Core.Path.{◌≡◌, refl}
use native.Mathlib.Omega.{arith}
use lib.Dec.{eqb}
use borrow.Author.Tests.{lt-ltb, le-ltb, le-leb, lt-leb, eq-eqb, ne_eqb}
use Rattle.laws.specs.Choice.{pick, both, either, alike, bit, all_of, AllOf}

-- a flag is not both
pub clash : (b : Bool) → b ≡ true → b ≡ false → ⊥
clash b p q = let z : ◌≡◌ {A = ℕ} 0 1 = cc in omega arith

pub bit-most : (b : Bool) → bit b ≤ 1
bit-most true = omega arith
bit-most false = omega arith

-- a flag is told from its number
pub bit-back : (b : Bool) → eqb (bit b) 1 ≡ b
bit-back true = refl
bit-back false = refl

pub both_left : (a b : Bool) → both a b ≡ true → a ≡ true
both_left true b h = refl
both_left false b h = h

pub both_right : (a b : Bool) → both a b ≡ true → b ≡ true
both_right true b h = h
both_right false b h = absurd (clash false h refl)

pub both-make : (a b : Bool) → a ≡ true → b ≡ true → both a b ≡ true
both-make a b p q = rw (p, q)

pub both-no : (a b : Bool) → b ≡ false → both a b ≡ false
both-no true b h = h
both-no false b h = refl

-- four tests, two and two
pub both-swap : (a b c d : Bool) → both (both a b) (both c d) ≡ both (both a c) (both b d)
both-swap true true c d = refl
both-swap true false true d = refl
both-swap true false false d = refl
both-swap false b c d = refl

-- the last test of a list decides
pub both_true : (b : Bool) → b ≡ both b true
both_true true = refl
both_true false = refl

-- what is left of two where one fails
pub either-right : (a b : Bool) → either a b ≡ true → a ≡ false → b ≡ true
either-right a b h e = rw e at h

pub either-more : (a b : Bool) → b ≡ true → either a b ≡ true
either-more true b h = refl
either-more false b h = h

pub alike_is : (a b : Bool) → alike a b ≡ true → a ≡ b
alike_is true true h = refl
alike_is true false h = absurd (clash false h refl)
alike_is false true h = absurd (clash false h refl)
alike_is false false h = refl

pub alike_same : (a : Bool) → alike a a ≡ true
alike_same true = refl
alike_same false = refl

-- a list of tests, told apart and put together
pub all_told : (l : List Bool) → all_of l ≡ true → AllOf l
unfolding all_of
all_told [] h = tt
all_told (b ∷ bs) h = (both_left b (all_of bs) h, all_told bs (both_right b (all_of bs) h))

pub all_made : (l : List Bool) → AllOf l → all_of l ≡ true
unfolding all_of
all_made [] h = refl
all_made (b ∷ bs) h = both-make b (all_of bs) h.0 (all_made bs h.1)

-- a choice whose result is known not to be the first, or the second
pub pick-off : {A : Type 0} (b : Bool) (x y z : A) → pick b x y ≡ z → (x ≡ z → ⊥) → (b ≡ false) × (y ≡ z)
pick-off true x y z h n = absurd (n h)
pick-off false x y z h n = (refl, h)

pub pick-on : {A : Type 0} (b : Bool) (x y z : A) → pick b x y ≡ z → (y ≡ z → ⊥) → (b ≡ true) × (x ≡ z)
pick-on true x y z h n = (refl, h)
pick-on false x y z h n = absurd (n h)

-- a choice of the same twice
pub pick-alike : {A : Type 0} (b : Bool) (x : A) → pick b x x ≡ x
pick-alike true x = refl
pick-alike false x = refl

-- what holds of each side holds of the choice
pub pick-has : {A : Type 0} (P : A → Type 0) (b : Bool) (x y : A) → (b ≡ true → P x) → (b ≡ false → P y) → P (pick b x y)
pick-has P true x y f g = f refl
pick-has P false x y f g = g refl

-- from the tests that code went by to the tests of a definition
pub ruleset tests = (lt-ltb, le-ltb, le-leb, lt-leb, eq-eqb, ne_eqb)
