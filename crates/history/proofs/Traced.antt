-- What the steps of a recording tell, with one step more: it is told of that step, at its place, by what was told before (`traced-one`).
-- Assumes nothing.
use Prim.Native.Nat.{ℕ, ◌+◌}
use mathlib.Core.List.{List, [], ◌∷◌, ◌++◌}
use mathlib.Core.Path.{◌≡◌, ap, ◌∙◌}
use native.Mathlib.Omega.{arith}
use native.Mathlib.Nat.{add-zero, zero-add}
use lib.ListN.{length}
use Rattle.faces.specs.Types.{Step}
use Rattle.history.specs.History.{traced_from, traced}

module _ {A : Type 0} (f : ℕ → A → Step → A) where
  traced-append : (w : A) (n : ℕ) (xs ys : List Step) → traced_from f w n (xs ++ ys) ≡ traced_from f (traced_from f w n xs) (n + length xs) ys
  unfolding traced_from
  traced-append w n [] ys = rw add-zero
  traced-append w n (x ∷ xs) ys =
      let m : n + 1 + length xs ≡ n + length (x ∷ xs) = omega arith in
      traced-append (f (n + 1) w x) (n + 1) xs ys ∙ ap (λ j. traced_from f (traced_from f (f (n + 1) w x) (n + 1) xs) j ys) m

  pub traced-one : (w : A) (rs : List Step) (s : Step) → traced f w (rs ++ (s ∷ [])) ≡ f (length rs + 1) (traced f w rs) s
  unfolding traced_from
  traced-one w rs s = traced-append w 0 rs (s ∷ []) ∙ rw zero-add

  -- what every step keeps is kept by all of them; n is a place that is not behind theirs
  traced-keeps : (P : ℕ → A → Type 0) → ((n : ℕ) (w : A) (s : Step) → P n w → P (n + 1) (f (n + 1) w s)) → (w : A) (n : ℕ) (rs : List Step) → P n w → P (n + length rs) (traced_from f w n rs)
  unfolding traced_from
  traced-keeps P k w n [] p = rw add-zero p
  traced-keeps P k w n (s ∷ rs) p =
      let m : n + 1 + length rs ≡ n + length (s ∷ rs) = omega arith in
      rw m at (traced-keeps P k (f (n + 1) w s) (n + 1) rs (k n w s p))

  pub traced-always : (P : ℕ → A → Type 0) → ((n : ℕ) (w : A) (s : Step) → P n w → P (n + 1) (f (n + 1) w s)) → (w : A) (rs : List Step) → P 0 w → P (length rs) (traced f w rs)
  traced-always P k w rs p = rw zero-add at (traced-keeps P k w 0 rs p)
