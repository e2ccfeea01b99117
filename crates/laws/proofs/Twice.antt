-- Laws of rows whose first places are changed twice: the two changes are one, and a test before and between them is one test before both.
-- Assumes nothing.
use Prim.Native.Nat.{ℕ, ◌<◌}
use mathlib.Core.Bool.{Bool}
use mathlib.Core.List.{List}
use mathlib.Core.Path.{◌≡◌, sym, ◌∙◌, ap}
use native.Mathlib.Decide.{dec_lt}
use native.Mathlib.Omega.{arith}
use lib.ListN.{length, get_or, get_or-eq_default}
use lib.Seq.{ext_get_or}
use Rattle.laws.specs.Choice.{both}
use Rattle.laws.specs.Loop.{all_below}
use Rattle.laws.specs.Row.{each_below}
use Rattle.laws.proofs.Looping.{all_same, all_both}
use Rattle.laws.proofs.Places.{each-length, each-above, each_at}

module _ {A : Type 0} (f : ℕ → A → A) (d : A) (n : ℕ) (l : List A) where
  abbrev once : List A
  once = each_below f d n l

  -- each of the first places changed by f and then by g
  pub each_twice : (g h : ℕ → A → A) → ((k : ℕ) (x : A) → g k (f k x) ≡ h k x) → each_below g d n (each_below f d n l) ≡ each_below h d n l
  each_twice g h e =
      ext_get_or d _ _ (each-length g d n once ∙ each-length f d n l ∙ sym (each-length h d n l))
      (λ i b. go i (omega (arith, b, each-length g d n once, each-length f d n l)) (dec_lt i n))
    where
      go : (i : ℕ) → i < length l → Dec (i < n) → get_or (each_below g d n once) i d ≡ get_or (each_below h d n l) i d
      go i b (yes c) =
          each_at g d n once i c (omega (arith, b, each-length f d n l)) ∙ ap (g i) (each_at f d n l i c b) ∙ e i (get_or l i d) ∙ sym (each_at h d n l i c b)
      go i b (no c) = each-above g d n once i (omega (arith, c)) ∙ each-above f d n l i (omega (arith, c)) ∙ sym (each-above h d n l i (omega (arith, c)))

  -- a test of them: r now is p now, and q after f; f changes nothing of what stands past the end of the row
  pub all-twice : (p q r : ℕ → A → Bool) → ((k : ℕ) (x : A) → r k x ≡ both (p k x) (q k (f k x))) → ((k : ℕ) → f k d ≡ d) → all_below (λ (k : ℕ). r k (get_or l k d)) n ≡ both (all_below (λ (k : ℕ). p k (get_or l k d)) n) (all_below (λ (k : ℕ). q k (get_or (each_below f d n l) k d)) n)
  all-twice p q r e z = all_same (λ (k : ℕ). r k (get_or l k d)) _ n (λ k b. go k b (dec_lt k (length l))) ∙ all_both (λ (k : ℕ). p k (get_or l k d)) (λ (k : ℕ). q k (get_or once k d)) n
    where
      go : (k : ℕ) → k < n → Dec (k < length l) → r k (get_or l k d) ≡ both (p k (get_or l k d)) (q k (get_or once k d))
      go k b (yes c) = rw (each_at f d n l k b c) (e k (get_or l k d))
      go k b (no c) =
          let u : get_or l k d ≡ d = get_or-eq_default l d (omega (arith, c)) in
          let v : get_or once k d ≡ d = get_or-eq_default once d (omega (arith, c, each-length f d n l)) in
          rw (u, v) (e k d ∙ ap (λ (y : A). both (p k d) (q k y)) (z k))
