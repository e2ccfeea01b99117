-- Laws of places that pass as the bits of one number: how the number grows, how small it stays, and that each of its bits is a place that passes (`mask-set`).
-- Assumes nothing.
use Prim.Native.Nat.{ℕ, zero, suc, ◌+◌, ◌*◌, ◌/◌, ◌%◌, ◌^◌, ◌≤◌, ◌<◌}
use mathlib.Core.Bool.{Bool, true, false}
use mathlib.Core.Path.{◌≡◌, refl, sym, ap, ◌∙◌}
use native.Mathlib.Decide.{ℕ_discrete, dec_lt}
use native.Mathlib.Nat.{pow-suc}
use native.Mathlib.Numerals.{add-one}
use native.Mathlib.Omega.{arith}
use lib.Dec.{ltb}
use borrow.Author.Tests.{lt-ltb, le-ltb}
use Rattle.laws.specs.Choice.{pick, both, bit}
use Rattle.laws.specs.Loop.{sum_below}
use Rattle.laws.specs.Mask.{mask_below, is_set}
use Rattle.laws.proofs.Choosing.{bit-most, bit-back}
use Rattle.laws.proofs.Looping.{sum_first, sum_same}

-- ---- how it grows

pub mask-none : (p : ℕ → Bool) → mask_below p 0 ≡ 0
unfolding mask_below sum_below
mask-none p = refl

-- one place more that passes, and one that does not
pub mask-on : (p : ℕ → Bool) (i : ℕ) → p i ≡ true → mask_below p (i + 1) ≡ mask_below p i + 2 ^ i
unfolding mask_below sum_below
mask-on p i h = rw (add-one, h)

pub mask-off : (p : ℕ → Bool) (i : ℕ) → p i ≡ false → mask_below p (i + 1) ≡ mask_below p i
unfolding mask_below sum_below
mask-off p i h = rw (add-one, h) (omega arith)

pub mask-same : (p q : ℕ → Bool) (n : ℕ) → ((k : ℕ) → k < n → p k ≡ q k) → mask_below p n ≡ mask_below q n
unfolding mask_below
mask-same p q n h = sum_same _ _ n (λ k l. ap (λ (b : Bool). pick b (2 ^ k) 0) (h k l))

pick-most : (b : Bool) (w : ℕ) → pick b w 0 ≤ w
pick-most true w = omega arith
pick-most false w = omega arith

-- it has no bit from n on
pub mask-small : (p : ℕ → Bool) (n : ℕ) → mask_below p n < 2 ^ n
unfolding mask_below sum_below
mask-small p zero = omega arith
mask-small p (suc n) = omega (arith, mask-small p n, pick-most (p n) (2 ^ n), pow-suc 2 n)

-- places from m on that do not pass do not count
mask-past : (m : ℕ) (p : ℕ → Bool) (n : ℕ) → ((k : ℕ) → m ≤ k → p k ≡ false) → m ≤ n → mask_below p n ≡ mask_below p m
unfolding mask_below sum_below
mask-past m p zero h b = let e : 0 ≡ m = omega arith in ap (mask_below p) e
mask-past m p (suc n) h b = go (ℕ_discrete m (suc n)) (λ c. mask-past m p n h c)
  where
    go : Dec (m ≡ suc n) → (m ≤ n → mask_below p n ≡ mask_below p m) → mask_below p (suc n) ≡ mask_below p m
    go (yes e) rest = ap (mask_below p) (sym e)
    go (no k) rest = let c : m ≤ n = omega (arith, k) in rw (h n c) (omega (arith, rest c))

pub mask-within : (m : ℕ) (p : ℕ → Bool) (n : ℕ) → ((k : ℕ) → m ≤ k → p k ≡ false) → mask_below p (pick (ltb n m) n m) ≡ mask_below p n
mask-within m p n h = go (dec_lt n m)
  where
    go : Dec (n < m) → mask_below p (pick (ltb n m) n m) ≡ mask_below p n
    go (yes b) = rw (lt-ltb n m b)
    go (no b) = rw (le-ltb n m (omega (arith, b))) (sym (mask-past m p n h (omega (arith, b))))

-- ---- its bits

-- all bits but the first stand for twice as much as they do alone
twice : (p : ℕ → Bool) (n : ℕ) → sum_below (λ (k : ℕ). pick (p k) (2 ^ suc k) 0) n ≡ 2 * mask_below p n
unfolding mask_below sum_below
twice p zero = refl
twice p (suc n) = go (p n) (twice p n)
  where
    go : (b : Bool) → sum_below (λ (k : ℕ). pick (p k) (2 ^ suc k) 0) n ≡ 2 * mask_below p n → sum_below (λ (k : ℕ). pick (p k) (2 ^ suc k) 0) n + pick b (2 ^ suc n) 0 ≡ 2 * (mask_below p n + pick b (2 ^ n) 0)
    go true e = omega (arith, e, pow-suc 2 n)
    go false e = omega (arith, e)

mask_first : (p : ℕ → Bool) (n : ℕ) → mask_below p (suc n) ≡ bit (p 0) + 2 * mask_below (λ (k : ℕ). p (suc k)) n
unfolding mask_below
mask_first p n = sum_first (λ (k : ℕ). pick (p k) (2 ^ k) 0) n ∙ go (p 0)
  where
    go : (b : Bool) → pick b 1 0 + sum_below (λ (k : ℕ). pick (p (suc k)) (2 ^ suc k) 0) n ≡ bit b + 2 * mask_below (λ (k : ℕ). p (suc k)) n
    go true = omega (arith, twice (λ (k : ℕ). p (suc k)) n)
    go false = omega (arith, twice (λ (k : ℕ). p (suc k)) n)

-- 0 has none
pub none-set : (k : ℕ) → is_set 0 k ≡ false
unfolding is_set
none-set zero = refl
none-set (suc k) = none-set k

-- the last bit, and those before it
set_last : (b : Bool) (m : ℕ) → is_set (bit b + 2 * m) 0 ≡ b
unfolding is_set
set_last b m = let e : (bit b + 2 * m) % 2 ≡ bit b = omega (arith, bit-most b) in rw e (bit-back b)

set_next : (b : Bool) (m k : ℕ) → is_set (bit b + 2 * m) (suc k) ≡ is_set m k
unfolding is_set
set_next b m k = let e : (bit b + 2 * m) / 2 ≡ m = omega (arith, bit-most b) in rw e

before-suc : (k n : ℕ) → ltb (suc k) (suc n) ≡ ltb k n
before-suc k n = go (dec_lt k n)
  where
    go : Dec (k < n) → ltb (suc k) (suc n) ≡ ltb k n
    go (yes l) = lt-ltb (suc k) (suc n) (omega arith) ∙ sym (lt-ltb k n l)
    go (no l) = le-ltb (suc k) (suc n) (omega (arith, l)) ∙ sym (le-ltb k n (omega (arith, l)))

-- the bit k is set exactly if k is among the places and passes
pub mask-set : (p : ℕ → Bool) (n k : ℕ) → is_set (mask_below p n) k ≡ both (ltb k n) (p k)
mask-set p zero k = rw (mask-none p, le-ltb k 0 (omega arith)) (none-set k)
mask-set p (suc n) zero = rw (mask_first p n, lt-ltb 0 (suc n) (omega arith)) (set_last (p 0) (mask_below (λ (k : ℕ). p (suc k)) n))
mask-set p (suc n) (suc k) =
    rw (mask_first p n, before-suc k n) (set_next (p 0) (mask_below (λ (k : ℕ). p (suc k)) n) k ∙ mask-set (λ (k : ℕ). p (suc k)) n k)
