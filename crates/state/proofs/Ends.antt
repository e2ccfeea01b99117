-- A row whose places are changed each, from the first on, is done at its end.
-- Assumes nothing.
use Rattle.std.proofs.Common.{◌≡◌, ℕ, zero, suc, ◌≤◌, ◌<◌, min, List, length, sym, ap, ◌∙◌, ⊎_elim, le_of_suc-le-suc, eq-or-lt_of_le, arith}
use Rattle.std.proofs.Math.Nat.{min-eq_left, min-eq_right}
use native.Mathlib.Decide.{dec_lt}
use Rattle.laws.specs.Row.{each_below}
use Rattle.laws.proofs.Places.{past-set, each-length}

pub each-end : {A : Type 0} (f : ℕ → A → A) (d : A) (m n : ℕ) (l : List A) → length l ≤ m → m ≤ n → each_below f d n l ≡ each_below f d m l
unfolding each_below
each-end f d m zero l a b = let e : m ≡ 0 = omega arith in rw e
each-end f d m (suc n) l a b =
    ⊎_elim (λ e. ap (λ (k : ℕ). each_below f d k l) (sym e))
    (λ c. past-set (each_below f d n l) n (length l) _ (each-length f d n l) (omega (arith, a, c)) ∙ each-end f d m n l a (le_of_suc-le-suc c))
    (eq-or-lt_of_le b)

-- as many turns as there are places at most
pub each-least : {A : Type 0} (f : ℕ → A → A) (d : A) (n : ℕ) (l : List A) → each_below f d (min n (length l)) l ≡ each_below f d n l
each-least f d n l = go (dec_lt n (length l))
  where
    go : Dec (n < length l) → each_below f d (min n (length l)) l ≡ each_below f d n l
    go (yes a) = ap (λ (k : ℕ). each_below f d k l) (min-eq_left (omega (arith, a)))
    go (no a) = ap (λ (k : ℕ). each_below f d k l) (min-eq_right (omega (arith, a))) ∙ sym (each-end f d (length l) n l (omega arith) (omega (arith, a)))
