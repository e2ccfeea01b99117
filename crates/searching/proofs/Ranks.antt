-- What the search passes over in all: four lists behind each other, the shorter sequences first.
-- Assumes nothing.
use Prim.Native.Nat.{ℕ, zero, suc, ◌+◌, ◌*◌, ◌≤◌, ◌<◌}
use mathlib.Core.Bool.{Bool}
use mathlib.Core.List.{List, [], ◌++◌, append-nil}
use mathlib.Core.Path.{◌≡◌, refl, sym, ap, ◌∙◌}
use native.Mathlib.Omega.{arith}
use lib.ListN.{length}
use Rattle.gaps.specs.Orders.{passed_over, sequences, up_to_three}
use Rattle.gaps.proofs.Ordered.{passed-front, passed-behind}

-- the sequences of n choices and of more, up to three
unfoldable pub rests : {A : Type 0} → List A → ℕ → List (List A)
rests xs zero = up_to_three xs
rests xs (suc zero) = sequences xs 1 ++ (sequences xs 2 ++ sequences xs 3)
rests xs (suc (suc zero)) = sequences xs 2 ++ sequences xs 3
rests xs (suc (suc (suc zero))) = sequences xs 3
rests xs (suc (suc (suc (suc n)))) = []

-- what the search keeps before it tries the sequences of n choices: so many are passed over, and none of them fits
pub record Ranking {A : Type 0} (p : List A → Bool) (xs : List A) (n passed : ℕ) : Type 0 where
  pub all : passed_over p (up_to_three xs) ≡ passed + passed_over p (rests xs n)
  pub few : n ≤ 3 → passed ≤ n * 585225
  pub most : passed ≤ 449452800

pub ranking-starts : {A : Type 0} (p : List A → Bool) (xs : List A) → Ranking p xs 0 0
unfolding rests
ranking-starts p xs = record { all = omega arith; few = λ h. omega arith; most = omega arith }

split : {A : Type 0} (xs : List A) (n : ℕ) → n ≤ 3 → rests xs n ≡ sequences xs n ++ rests xs (n + 1)
unfolding rests up_to_three
split xs zero h = refl
split xs (suc zero) h = refl
split xs (suc (suc zero)) h = refl
split xs (suc (suc (suc zero))) h = sym (append-nil (sequences xs 3))
split xs (suc (suc (suc (suc n)))) h = absurd (omega arith)

module _ {A : Type 0} (p : List A → Bool) (xs : List A) {n passed found size : ℕ} (w : Ranking p xs n passed) (short : n ≤ 3)
    (is : found ≡ passed_over p (sequences xs n)) (long : size ≡ length (sequences xs n)) where
  -- the first that fits has n choices
  pub ranking-found : found < size → passed + found ≡ passed_over p (up_to_three xs)
  ranking-found h =
      let f = ap (passed_over p) (split xs n short) ∙ passed-front p (sequences xs n) (rests xs (n + 1)) (omega (arith, h, is, long)) in
      omega (arith, w.all, f, is)

  -- none of n choices fits
  pub ranking-next : size ≤ found → size ≤ 447697125 → (n ≤ 2 → size ≤ 585225) → Ranking p xs (n + 1) (passed + size)
  ranking-next h most few =
      let f = ap (passed_over p) (split xs n short) ∙ passed-behind p (sequences xs n) (rests xs (n + 1)) (omega (arith, h, is, long)) in
      record {
        all = omega (arith, w.all, f, long);
        few = λ l. omega (arith, w.few short, few (omega (arith, l)));
        most = omega (arith, w.few short, most);
      }

-- no sequence fits
pub ranking-over : {A : Type 0} (p : List A → Bool) (xs : List A) {passed : ℕ} → Ranking p xs 4 passed → passed ≡ passed_over p (up_to_three xs)
unfolding rests passed_over
ranking-over p xs w = omega (arith, w.all)
