-- Laws of loops that count from 0: how each begins and goes on, what it tells of each place, and sums.
-- Assumes nothing.
use Prim.Native.Nat.{ℕ, zero, suc, ◌+◌, ◌≤◌, ◌<◌, ◌*◌}
use mathlib.Core.Bool.{Bool, true, false}
use mathlib.Core.Logic.{⊎_elim}
use mathlib.Core.Path.{◌≡◌, refl, sym, ◌∙◌, ap}
use native.Mathlib.Nat.{eq-or-lt_of_le, le_of_suc-le-suc, not-suc-le-zero}
use native.Mathlib.Numerals.{add-one}
use native.Mathlib.Omega.{arith}
use lib.Dec.{ltb, eqb}
use borrow.Author.Tests.{lt-ltb, le-ltb, ltb-true, eq-eqb, ne_eqb}
use Rattle.laws.specs.Choice.{pick, both, bit}
use Rattle.laws.specs.Loop.{all_below, any_below, sum_below, count_below, first_below}
use Rattle.laws.proofs.Choosing.{both_left, both_right, both-no, both-swap, either-more, either-right, bit-most, clash}

-- ---- all

pub all_none : (p : ℕ → Bool) → all_below p 0 ≡ true
unfolding all_below
all_none p = refl

pub all_more : (p : ℕ → Bool) (i : ℕ) → all_below p i ≡ true → p i ≡ true → all_below p (i + 1) ≡ true
unfolding all_below
all_more p i a h = rw add-one (rw (a, h))

pub all-at : (p : ℕ → Bool) (n : ℕ) → all_below p n ≡ true → (k : ℕ) → k < n → p k ≡ true
unfolding all_below
all-at p zero h k l = absurd (not-suc-le-zero l)
all-at p (suc n) h k l =
    ⊎_elim (λ e. ap p e ∙ both_right (all_below p n) (p n) h)
    (λ m. all-at p n (both_left (all_below p n) (p n) h) k m)
    (eq-or-lt_of_le (le_of_suc-le-suc l))

pub all-of : (p : ℕ → Bool) (n : ℕ) → ((k : ℕ) → k < n → p k ≡ true) → all_below p n ≡ true
unfolding all_below
all-of p zero h = refl
all-of p (suc n) h = rw (all-of p n (λ k l. h k (omega arith)), h n (omega arith))

-- one place that fails
pub all-fails : (p : ℕ → Bool) (n k : ℕ) → k < n → p k ≡ false → all_below p n ≡ false
unfolding all_below
all-fails p zero k l h = absurd (not-suc-le-zero l)
all-fails p (suc n) k l h =
    ⊎_elim (λ e. both-no (all_below p n) (p n) (ap p (sym e) ∙ h))
    (λ m. rw (all-fails p n k m h))
    (eq-or-lt_of_le (le_of_suc-le-suc l))

pub all_same : (p q : ℕ → Bool) (n : ℕ) → ((k : ℕ) → k < n → p k ≡ q k) → all_below p n ≡ all_below q n
unfolding all_below
all_same p q zero h = refl
all_same p q (suc n) h = rw (all_same p q n (λ k l. h k (omega arith)), h n (omega arith))

-- two tests of each place, joined
pub all_both : (p q : ℕ → Bool) (n : ℕ) → all_below (λ (k : ℕ). both (p k) (q k)) n ≡ both (all_below p n) (all_below q n)
unfolding all_below
all_both p q zero = refl
all_both p q (suc n) = rw (all_both p q n) (both-swap (all_below p n) (all_below q n) (p n) (q n))

-- ---- any

pub any_here : (p : ℕ → Bool) (n k : ℕ) → k < n → p k ≡ true → any_below p n ≡ true
unfolding any_below
any_here p zero k l h = absurd (not-suc-le-zero l)
any_here p (suc n) k l h =
    ⊎_elim (λ e. either-more (any_below p n) (p n) (ap p (sym e) ∙ h))
    (λ m. rw (any_here p n k m h))
    (eq-or-lt_of_le (le_of_suc-le-suc l))

pub any-find : (p : ℕ → Bool) (n : ℕ) → any_below p n ≡ true → (k : ℕ) × (k < n) × (p k ≡ true)
unfolding any_below
any-find p zero h = absurd (clash false h refl)
any-find p (suc n) h = go (any_below p n) refl (λ e. any-find p n e)
  where
    Found : ℕ → Type 0
    Found m = (k : ℕ) × (k < m) × (p k ≡ true)

    go : (b : Bool) → any_below p n ≡ b → (any_below p n ≡ true → Found n) → Found (suc n)
    go true e rest = let r : Found n = rest e in (r.0, omega (arith, r.1), r.2)
    go false e rest = (n, omega arith, either-right (any_below p n) (p n) h e)

pub any_same : (p q : ℕ → Bool) (n : ℕ) → ((k : ℕ) → k < n → p k ≡ q k) → any_below p n ≡ any_below q n
unfolding any_below
any_same p q zero h = refl
any_same p q (suc n) h = rw (any_same p q n (λ k l. h k (omega arith)), h n (omega arith))

-- ---- sums

pub sum-none : (f : ℕ → ℕ) → sum_below f 0 ≡ 0
unfolding sum_below
sum-none f = refl

pub sum_more : (f : ℕ → ℕ) (i : ℕ) → sum_below f (i + 1) ≡ sum_below f i + f i
unfolding sum_below
sum_more f i = rw add-one

-- the first term apart
pub sum_first : (f : ℕ → ℕ) (n : ℕ) → sum_below f (suc n) ≡ f 0 + sum_below (λ (k : ℕ). f (suc k)) n
unfolding sum_below
sum_first f zero = omega arith
sum_first f (suc n) = omega (arith, sum_first f n)

pub sum_same : (f g : ℕ → ℕ) (n : ℕ) → ((k : ℕ) → k < n → f k ≡ g k) → sum_below f n ≡ sum_below g n
unfolding sum_below
sum_same f g zero h = refl
sum_same f g (suc n) h = rw (sum_same f g n (λ k l. h k (omega arith)), h n (omega arith))

-- one term changed: what the sum loses and gains
pub sum-changed : (f g : ℕ → ℕ) (i n : ℕ) → ((k : ℕ) → (k ≡ i → ⊥) → g k ≡ f k) → i < n → sum_below g n + f i ≡ sum_below f n + g i
unfolding sum_below
sum-changed f g i zero o l = absurd (not-suc-le-zero l)
sum-changed f g i (suc n) o l =
    ⊎_elim
    (λ e. let r : sum_below g n ≡ sum_below f n = sum_same g f n (λ k m. o k (λ q. omega (arith, e, m, q))) in
    omega (arith, r, ap f e, ap g e))
    (λ m. omega (arith, sum-changed f g i n o m, o n (λ q. omega (arith, q, m))))
    (eq-or-lt_of_le (le_of_suc-le-suc l))

pub sum-add : (f g : ℕ → ℕ) (n : ℕ) → sum_below (λ (k : ℕ). f k + g k) n ≡ sum_below f n + sum_below g n
unfolding sum_below
sum-add f g zero = refl
sum-add f g (suc n) = omega (arith, sum-add f g n)

-- a sum of terms each at most m
pub sum_bound : (f : ℕ → ℕ) (m n : ℕ) → ((k : ℕ) → k < n → f k ≤ m) → sum_below f n ≤ n * m
unfolding sum_below
sum_bound f m zero h = omega arith
sum_bound f m (suc n) h = omega (arith, sum_bound f m n (λ k l. h k (omega arith)), h n (omega arith))

pub sum-zero : (f : ℕ → ℕ) (n : ℕ) → ((k : ℕ) → k < n → f k ≡ 0) → sum_below f n ≡ 0
unfolding sum_below
sum-zero f zero h = refl
sum-zero f (suc n) h = omega (arith, sum-zero f n (λ k l. h k (omega arith)), h n (omega arith))

-- no term counts for more than the sum, nor two
pub sum-term : (f : ℕ → ℕ) (i n : ℕ) → i < n → f i ≤ sum_below f n
unfolding sum_below
sum-term f i zero l = absurd (not-suc-le-zero l)
sum-term f i (suc n) l =
    ⊎_elim (λ e. omega (arith, ap f e)) (λ m. omega (arith, sum-term f i n m)) (eq-or-lt_of_le (le_of_suc-le-suc l))

pub sum-two : (f : ℕ → ℕ) (i j n : ℕ) → i < n → j < n → (i ≡ j → ⊥) → f i + f j ≤ sum_below f n
unfolding sum_below
sum-two f i j zero l m d = absurd (not-suc-le-zero l)
sum-two f i j (suc n) l m d =
    ⊎_elim
    (λ e. ⊎_elim (λ q. absurd (d (e ∙ sym q))) (λ r. omega (arith, ap f e, sum-term f j n r)) (eq-or-lt_of_le (le_of_suc-le-suc m)))
    (λ r. ⊎_elim (λ q. omega (arith, ap f q, sum-term f i n r)) (λ q. omega (arith, sum-two f i j n r q d)) (eq-or-lt_of_le (le_of_suc-le-suc m)))
    (eq-or-lt_of_le (le_of_suc-le-suc l))

-- a sum that is not 0 has a term that counts
pub sum-find : (f : ℕ → ℕ) (n : ℕ) → 1 ≤ sum_below f n → (k : ℕ) × (k < n) × (1 ≤ f k)
unfolding sum_below
sum-find f zero h = absurd (omega arith)
sum-find f (suc n) h = go (f n) refl (λ e. sum-find f n e)
  where
    Found : ℕ → Type 0
    Found m = (k : ℕ) × (k < m) × (1 ≤ f k)

    go : (k : ℕ) → f n ≡ k → (1 ≤ sum_below f n → Found n) → Found (suc n)
    go zero e rest = let r : Found n = rest (omega arith) in (r.0, omega (arith, r.1), r.2)
    go (suc k) e rest = (n, omega arith, omega arith)

pub count_most : (p : ℕ → Bool) (n : ℕ) → count_below p n ≤ n
count_most p n = omega (arith, sum_bound (λ (k : ℕ). bit (p k)) 1 n (λ k l. bit-most (p k)))

-- ---- the first place

pub first-none : (p : ℕ → Bool) → first_below p 0 ≡ 0
unfolding first_below
first-none p = refl

pub first_more : (p : ℕ → Bool) (i : ℕ) → first_below p i ≡ i → p i ≡ false → first_below p (i + 1) ≡ i + 1
unfolding first_below
first_more p i e h = rw add-one (rw (e, le-ltb i i (omega arith), h))

pub first-here : (p : ℕ → Bool) (n i : ℕ) → first_below p i ≡ i → p i ≡ true → i < n → first_below p n ≡ i
unfolding first_below
first-here p zero i e h l = absurd (not-suc-le-zero l)
first-here p (suc n) i e h l =
    ⊎_elim (λ q. rw (← q, e, le-ltb i i (omega arith), h))
    (λ m. let r = first-here p n i e h m in rw (r, lt-ltb i n m))
    (eq-or-lt_of_le (le_of_suc-le-suc l))

-- the place found passes
pub first-is : (p : ℕ → Bool) (n : ℕ) → first_below p n < n → p (first_below p n) ≡ true
unfolding first_below
first-is p zero h = absurd (not-suc-le-zero h)
first-is p (suc n) h = go (ltb (first_below p n) n) (p n) refl refl (λ l. first-is p n l) h
  where
    go : (b c : Bool) → ltb (first_below p n) n ≡ b → p n ≡ c → (first_below p n < n → p (first_below p n) ≡ true) → pick b (first_below p n) (pick c n (suc n)) < suc n → p (pick b (first_below p n) (pick c n (suc n))) ≡ true
    go true c e q rest l = rest (ltb-true (first_below p n) n e)
    go false true e q rest l = q
    go false false e q rest l = absurd (omega arith)

-- ---- numbers below n: how often each stands among others

-- one number below n is hit once
pub hit-once : (x n : ℕ) → x < n → sum_below (λ (b : ℕ). bit (eqb x b)) n ≡ 1
hit-once x n l =
    let z : sum_below (λ (b : ℕ). 0) n ≡ 0 = sum-zero (λ (b : ℕ). 0) n (λ k m. refl) in
    let c = sum-changed (λ (b : ℕ). 0) (λ (b : ℕ). bit (eqb x b)) x n (λ k h. ap bit (ne_eqb x k (λ e. h (sym e)))) l in
    omega (arith, z, c, ap bit (eq-eqb x x refl))

-- the places of a row of numbers below m, counted by the number that stands there, are all its places
pub spread : (f : ℕ → ℕ) (m n : ℕ) → ((j : ℕ) → j < n → f j < m) → sum_below (λ (b : ℕ). count_below (λ (j : ℕ). eqb (f j) b) n) m ≡ n
unfolding sum_below
spread f m zero h = sum-zero (λ (b : ℕ). 0) m (λ k l. refl)
spread f m (suc n) h =
    sum-add (λ (b : ℕ). count_below (λ (j : ℕ). eqb (f j) b) n) (λ (b : ℕ). bit (eqb (f n) b)) m
    ∙ omega (arith, spread f m n (λ j l. h j (omega arith)), hit-once (f n) m (h n (omega arith)))

-- counts that are each at most 1, one of them 0, come to less than there are
pub sum_room : (g : ℕ → ℕ) (a n : ℕ) → ((b : ℕ) → b < n → g b ≤ 1) → a < n → g a ≡ 0 → sum_below g n < n
unfolding sum_below
sum_room g a zero h l z = absurd (not-suc-le-zero l)
sum_room g a (suc n) h l z =
    ⊎_elim
    (λ e. omega (arith, ap g e, sum_bound g 1 n (λ k m. h k (omega arith))))
    (λ m. omega (arith, h n (omega arith), sum_room g a n (λ k q. h k (omega arith)) m z))
    (eq-or-lt_of_le (le_of_suc-le-suc l))
