-- Laws of lists in order: what is passed over, in one list, in two behind each other, and among sequences; how many sequences there are.
-- Assumes nothing.
use Prim.Native.Nat.{ℕ, zero, suc, ◌+◌, ◌*◌, ◌≤◌, ◌<◌}
use mathlib.Core.Bool.{Bool, true, false}
use mathlib.Core.List.{List, [], ◌∷◌, ◌++◌, map}
use mathlib.Core.Path.{◌≡◌, refl, ap, ap₂, ◌∙◌}
use native.Mathlib.Nat.{not-suc-le-zero}
use native.Mathlib.Omega.{arith}
use lib.ListN.{length, get_or, drop, length-append, length-map}
use lib.Seq.{drop-cons}
use Rattle.laws.specs.Choice.{pick}
use Rattle.gaps.specs.Orders.{each, passed_over, behind, sequences, up_to_three}

-- ---- f at each number below n

pub length-each : {A : Type 0} (f : ℕ → A) (n : ℕ) → length (each f n) ≡ n
unfolding each
length-each f zero = refl
length-each f (suc n) = length-append (each f n) (f n ∷ []) ∙ omega (arith, length-each f n)

-- ---- what is passed over

module _ {A : Type 0} (p : A → Bool) where
  pub passed-hit : (x : A) (l : List A) → p x ≡ true → passed_over p (x ∷ l) ≡ 0
  unfolding passed_over
  passed-hit x l h = rw h

  pub passed-miss : (x : A) (l : List A) → p x ≡ false → passed_over p (x ∷ l) ≡ suc (passed_over p l)
  unfolding passed_over
  passed-miss x l h = rw h

  -- found in the first of two lists
  pub passed-front : (l m : List A) → passed_over p l < length l → passed_over p (l ++ m) ≡ passed_over p l
  unfolding passed_over
  passed-front [] m h = absurd (not-suc-le-zero h)
  passed-front (x ∷ l) m h = go (p x) (λ k. passed-front l m k) h
    where
      go : (b : Bool) → (passed_over p l < length l → passed_over p (l ++ m) ≡ passed_over p l) → pick b 0 (suc (passed_over p l)) < suc (length l) → pick b 0 (suc (passed_over p (l ++ m))) ≡ pick b 0 (suc (passed_over p l))
      go true r k = refl
      go false r k = ap suc (r (omega arith))

  -- not found there
  pub passed-behind : (l m : List A) → length l ≤ passed_over p l → passed_over p (l ++ m) ≡ length l + passed_over p m
  unfolding passed_over
  passed-behind [] m h = omega arith
  passed-behind (x ∷ l) m h = go (p x) (λ k. passed-behind l m k) h
    where
      go : (b : Bool) → (length l ≤ passed_over p l → passed_over p (l ++ m) ≡ length l + passed_over p m) → suc (length l) ≤ pick b 0 (suc (passed_over p l)) → pick b 0 (suc (passed_over p (l ++ m))) ≡ suc (length l) + passed_over p m
      go true r k = absurd (not-suc-le-zero k)
      go false r k = let q : passed_over p (l ++ m) ≡ length l + passed_over p m = r (omega arith) in omega arith

  -- none will do
  pub passed_none : (l : List A) → ((x : A) → p x ≡ false) → passed_over p l ≡ length l
  unfolding passed_over
  passed_none [] h = refl
  passed_none (x ∷ l) h = rw (h x) (ap suc (passed_none l h))

  -- the one found will do, and none before it
  pub passed_is : (l : List A) (d : A) → passed_over p l < length l → p (get_or l (passed_over p l) d) ≡ true
  unfolding passed_over
  passed_is [] d h = absurd (not-suc-le-zero h)
  passed_is (x ∷ l) d h = go (p x) refl (λ k. passed_is l d k) h
    where
      go : (b : Bool) → p x ≡ b → (passed_over p l < length l → p (get_or l (passed_over p l) d) ≡ true) → pick b 0 (suc (passed_over p l)) < suc (length l) → p (get_or (x ∷ l) (pick b 0 (suc (passed_over p l))) d) ≡ true
      go true e r k = e
      go false e r k = r (omega arith)

  pub passed-before : (l : List A) (d : A) (j : ℕ) → j < passed_over p l → p (get_or l j d) ≡ false
  unfolding passed_over
  passed-before [] d j h = absurd (not-suc-le-zero h)
  passed-before (x ∷ l) d j h = go (p x) refl (λ i k. passed-before l d i k) j h
    where
      go : (b : Bool) → p x ≡ b → ((i : ℕ) → i < passed_over p l → p (get_or l i d) ≡ false) → (j : ℕ) → j < pick b 0 (suc (passed_over p l)) → p (get_or (x ∷ l) j d) ≡ false
      go true e r j k = absurd (not-suc-le-zero k)
      go false e r zero k = e
      go false e r (suc j) k = r j (omega arith)

pub passed-same : {A : Type 0} (p q : A → Bool) (l : List A) → ((x : A) → p x ≡ q x) → passed_over p l ≡ passed_over q l
unfolding passed_over
passed-same p q [] h = refl
passed-same p q (x ∷ l) h = rw (h x, passed-same p q l h)

pub passed-map : {A B : Type 0} (p : B → Bool) (f : A → B) (l : List A) → passed_over p (map f l) ≡ passed_over (λ (x : A). p (f x)) l
unfolding passed_over
passed-map p f [] = refl
passed-map p f (x ∷ l) = ap (λ (n : ℕ). pick (p (f x)) 0 (suc n)) (passed-map p f l)

-- ---- sequences

module _ {A : Type 0} where
  pub length-behind : (xs : List A) (ls : List (List A)) → length (behind xs ls) ≡ length xs * length ls
  unfolding behind
  length-behind [] ls = omega arith
  length-behind (x ∷ xs) ls =
      length-append (map (λ (l : List A). x ∷ l) ls) (behind xs ls)
      ∙ omega (arith, length-behind xs ls, length-map ls (λ (l : List A). x ∷ l))

  pub length-sequences : (xs : List A) (n : ℕ) → length (sequences xs (suc n)) ≡ length xs * length (sequences xs n)
  unfolding sequences
  length-sequences xs n = length-behind xs (sequences xs n)

  pub length-one : (xs : List A) → length (sequences xs 1) ≡ length xs
  unfolding sequences
  length-one xs = length-sequences xs 0 ∙ omega arith

  pub length_two : (xs : List A) → length (sequences xs 2) ≡ length xs * length xs
  length_two xs = length-sequences xs 1 ∙ ap (λ (n : ℕ). length xs * n) (length-one xs)

  pub length_three : (xs : List A) → length (sequences xs 3) ≡ length xs * (length xs * length xs)
  length_three xs = length-sequences xs 2 ∙ ap (λ (n : ℕ). length xs * n) (length_two xs)

  length_none : (xs : List A) → length (sequences xs 0) ≡ 1
  unfolding sequences
  length_none xs = refl

  pub length-all : (xs : List A) → length (up_to_three xs) ≡ 1 + (length xs + (length xs * length xs + length xs * (length xs * length xs)))
  unfolding up_to_three
  length-all xs =
      length-append (sequences xs 0) (sequences xs 1 ++ (sequences xs 2 ++ sequences xs 3))
      ∙ ap₂ ◌+◌ (length_none xs) (length-append (sequences xs 1) (sequences xs 2 ++ sequences xs 3)
      ∙ ap₂ ◌+◌ (length-one xs) (length-append (sequences xs 2) (sequences xs 3) ∙ ap₂ ◌+◌ (length_two xs) (length_three xs)))

  -- the choices from the k-th on: that one first, with all sequences behind it
  pub behind-drop : (xs : List A) (ls : List (List A)) (k : ℕ) (d : A) → k < length xs → behind (drop k xs) ls ≡ map (λ (l : List A). get_or xs k d ∷ l) ls ++ behind (drop (suc k) xs) ls
  unfolding behind
  behind-drop xs ls k d h = rw (drop-cons xs k d h)
