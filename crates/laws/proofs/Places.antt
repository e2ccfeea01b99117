-- Laws of rows: one place changed, the first places changed each, a queue that grows at its end and is taken at its front.
-- Assumes nothing.
use Prim.Native.Nat.{ℕ, zero, suc, ◌+◌, ◌≤◌, ◌<◌}
use mathlib.Core.Bool.{Bool, true}
use mathlib.Core.List.{List, [], ◌∷◌, ◌++◌, map}
use mathlib.Core.Path.{◌≡◌, refl, sym, ◌∙◌, ap}
use native.Mathlib.Nat.{add_comm}
use native.Mathlib.Numerals.{add-one}
use native.Mathlib.Decide.{ℕ_discrete, dec_lt}
use native.Mathlib.Omega.{arith}
use lib.Dec.{eqb}
use lib.ListN.{length, get_or, set, drop, length-set, length-drop, length-append, length-map, get_or-eq_default, get_or-append}
use lib.Seq.{set_out, get_or-drop, get_or-set_same, get_or-set_other, get_or_at}
use borrow.Author.Tests.{lt-ltb, le-ltb, eq-eqb, eqb-true}
use Rattle.laws.specs.Loop.{all_below, sum_below}
use Rattle.laws.specs.Row.{each_below, shifted, place_filled, filled}
use Rattle.laws.proofs.Choosing.{both_left, both_right, both-make}
use Rattle.laws.proofs.Looping.{all-at, all-of, sum-changed, sum_same, sum_first, sum_more}

-- ---- inside a row, and past its end

-- inside it does not matter what would stand past the end
pub inside : {A : Type 0} (l : List A) (i n : ℕ) (d e : A) → length l ≡ n → i < n → get_or l i d ≡ get_or l i e
inside [] i n d e p h = absurd (omega arith)
inside (x ∷ l) zero n d e p h = refl
inside (x ∷ l) (suc i) n d e p h = inside l i (length l) d e refl (omega arith)

pub past : {A : Type 0} (l : List A) (i n : ℕ) (d : A) → length l ≡ n → n ≤ i → get_or l i d ≡ d
past l i n d p h = get_or-eq_default l d (omega arith)

pub past-set : {A : Type 0} (l : List A) (i n : ℕ) (x : A) → length l ≡ n → n ≤ i → set l i x ≡ l
past-set l i n x p h = set_out l i x (omega arith)

-- a place whose entry is told from what stands past the end is inside
pub inside_of : {A : Type 0} (P : A → Type 0) (l : List A) (i : ℕ) (d : A) → (P d → ⊥) → P (get_or l i d) → i < length l
inside_of P [] i d n p = absurd (n p)
inside_of P (x ∷ xs) zero d n p = omega arith
inside_of P (x ∷ xs) (suc i) d n p = omega (arith, inside_of P xs i d n p)

-- that an array of structs has its length stands in what is known of it at `map` of its entries' lowering
pub length-mapped : (X Y : Type 0) (f : X → Y) (l : List X) (n : ℕ) → length (map f l) ≡ n → length l ≡ n
length-mapped X Y f l n p = sym (length-map l f) ∙ p

-- ---- one place changed

module _ {A : Type 0} (P : ℕ → A → Type 0) (l : List A) (i : ℕ) (x d : A) where
  -- what holds of each entry holds after one is replaced, if it holds of the new one; the place may matter
  pub put-each : P i x → (j : ℕ) → P j (get_or l j d) → P j (get_or (set l i x) j d)
  put-each p j q = go (ℕ_discrete j i) (dec_lt i (length l))
    where
      go : Dec (j ≡ i) → Dec (i < length l) → P j (get_or (set l i x) j d)
      go (yes e) (yes b) = rw (e, get_or-set_same l i x d b) p
      go (yes e) (no n) = rw (set_out l i x (omega (arith, n))) q
      go (no n) b = rw (get_or-set_other l i j x d n) q

module _ {A : Type 0} (p : ℕ → A → Bool) (l : List A) (i m : ℕ) (x d : A) where
  -- the same for a test of the first m places
  pub all-put : all_below (λ (k : ℕ). p k (get_or l k d)) m ≡ true → p i x ≡ true → all_below (λ (k : ℕ). p k (get_or (set l i x) k d)) m ≡ true
  all-put h q =
      all-of (λ (k : ℕ). p k (get_or (set l i x) k d)) m
      (λ k b. put-each (λ j y. p j y ≡ true) l i x d q k (all-at (λ (k : ℕ). p k (get_or l k d)) m h k b))

module _ {A : Type 0} (f : ℕ → A → ℕ) (l : List A) (i m : ℕ) (x d : A) where
  -- a sum over a row: what it loses and gains
  pub sum-put : i < m → i < length l → sum_below (λ (k : ℕ). f k (get_or (set l i x) k d)) m + f i (get_or l i d) ≡ sum_below (λ (k : ℕ). f k (get_or l k d)) m + f i x
  sum-put b c =
      let s = sum-changed (λ (k : ℕ). f k (get_or l k d)) (λ (k : ℕ). f k (get_or (set l i x) k d)) i m (λ k n. ap (f k) (get_or-set_other l i k x d n)) b in
      omega (arith, s, ap (f i) (get_or-set_same l i x d c))

-- ---- the first n places changed, each by f

module _ {A : Type 0} (f : ℕ → A → A) (d : A) where
  pub each_none : (l : List A) → each_below f d 0 l ≡ l
  unfolding each_below
  each_none l = refl

  pub each_more : (n : ℕ) (l : List A) → each_below f d (n + 1) l ≡ set (each_below f d n l) n (f n (get_or (each_below f d n l) n d))
  unfolding each_below
  each_more n l = rw add-one

  pub each-length : (n : ℕ) (l : List A) → length (each_below f d n l) ≡ length l
  unfolding each_below
  each-length zero l = refl
  each-length (suc n) l = length-set (each_below f d n l) n (f n (get_or (each_below f d n l) n d)) ∙ each-length n l

  -- from n on the row is as it was
  pub each-above : (n : ℕ) (l : List A) (j : ℕ) → n ≤ j → get_or (each_below f d n l) j d ≡ get_or l j d
  unfolding each_below
  each-above zero l j h = refl
  each-above (suc n) l j h =
      get_or-set_other (each_below f d n l) n j (f n (get_or (each_below f d n l) n d)) d (λ e. omega (arith, e, h)) ∙ each-above n l j (omega arith)

  pub each_at : (n : ℕ) (l : List A) (j : ℕ) → j < n → j < length l → get_or (each_below f d n l) j d ≡ f j (get_or l j d)
  unfolding each_below
  each_at zero l j h b = absurd (omega arith)
  each_at (suc n) l j h b = go (ℕ_discrete j n) (λ k. each_at n l j k b)
    where
      go : Dec (j ≡ n) → (j < n → get_or (each_below f d n l) j d ≡ f j (get_or l j d)) → get_or (set (each_below f d n l) n (f n (get_or (each_below f d n l) n d))) j d ≡ f j (get_or l j d)
      go (yes e) rest =
          rw (e, get_or-set_same (each_below f d n l) n (f n (get_or (each_below f d n l) n d)) d (omega (arith, each-length n l, e))) (ap (f n) (each-above n l n (omega arith)))
      go (no m) rest = get_or-set_other (each_below f d n l) n j (f n (get_or (each_below f d n l) n d)) d m ∙ rest (omega (arith, m))

  -- what holds of each entry holds after the change, if the change keeps it
  pub each-has : (P : ℕ → A → Type 0) (n : ℕ) (l : List A) (j : ℕ) → (j < n → P j (f j (get_or l j d))) → P j (get_or l j d) → P j (get_or (each_below f d n l) j d)
  each-has P n l j p q = go (dec_lt j n) (dec_lt j (length l))
    where
      go : Dec (j < n) → Dec (j < length l) → P j (get_or (each_below f d n l) j d)
      go (yes b) (yes c) = rw (each_at n l j b c) (p b)
      go (yes b) (no c) =
          let e : get_or (each_below f d n l) j d ≡ d = get_or-eq_default (each_below f d n l) d (omega (arith, c, each-length n l)) in
          let g : get_or l j d ≡ d = get_or-eq_default l d (omega (arith, c)) in
          rw e (rw g at q)
      go (no b) c = rw (each-above n l j (omega (arith, b))) q

  pub all-each : (p : ℕ → A → Bool) (n m : ℕ) (l : List A) → all_below (λ (k : ℕ). p k (get_or l k d)) m ≡ true → ((k : ℕ) → k < m → k < n → p k (get_or l k d) ≡ true → p k (f k (get_or l k d)) ≡ true) → all_below (λ (k : ℕ). p k (get_or (each_below f d n l) k d)) m ≡ true
  all-each p n m l h g =
      all-of (λ (k : ℕ). p k (get_or (each_below f d n l) k d)) m
      (λ k b. let q = all-at (λ (k : ℕ). p k (get_or l k d)) m h k b in each-has (λ j y. p j y ≡ true) n l k (λ c. g k b c q) q)

-- ---- a queue in a row: the oldest taken

module _ {A : Type 0} (d : A) (l : List A) where
  pub shifted-length : 0 < length l → length (shifted d l) ≡ length l
  unfolding shifted
  shifted-length h = length-append (drop 1 l) (d ∷ []) ∙ omega (arith, length-drop 1 l)

  pub shifted_at : (j : ℕ) → j + 1 < length l → get_or (shifted d l) j d ≡ get_or l (j + 1) d
  unfolding shifted
  shifted_at j h =
      let b : j < length (drop 1 l) = simp length-drop (omega arith) in
      get_or-append (drop 1 l) (d ∷ []) d j b ∙ rw (get_or-drop 1 l j d, add_comm 1 j)

  pub shifted-last : (j : ℕ) → 0 < length l → length l ≤ j + 1 → get_or (shifted d l) j d ≡ d
  unfolding shifted
  shifted-last j p h = go (ℕ_discrete (j + 1) (length l))
    where
      go : Dec (j + 1 ≡ length l) → get_or (drop 1 l ++ (d ∷ [])) j d ≡ d
      go (yes e) = get_or_at (drop 1 l) d [] d j (length-drop 1 l ∙ omega (arith, e))
      go (no n) = get_or-eq_default (drop 1 l ++ (d ∷ [])) d (omega (arith, length-append (drop 1 l) (d ∷ []), length-drop 1 l, n))

-- ---- a row whose first places are in use

module _ {A : Type 0} (good blank : A → Bool) (d : A) (m : ℕ) where
  pub filled-length : (n : ℕ) (l : List A) → filled good blank d m n l ≡ true → length l ≡ m
  unfolding filled
  filled-length n l h = eqb-true (length l) m (both_left (eqb (length l) m) (all_below (place_filled good blank d n l) m) h)

  filled-place : (n : ℕ) (l : List A) → filled good blank d m n l ≡ true → (j : ℕ) → j < m → place_filled good blank d n l j ≡ true
  unfolding filled
  filled-place n l h = all-at (place_filled good blank d n l) m (both_right (eqb (length l) m) (all_below (place_filled good blank d n l) m) h)

  pub filled-good : (n : ℕ) (l : List A) → filled good blank d m n l ≡ true → (j : ℕ) → j < m → j < n → good (get_or l j d) ≡ true
  unfolding place_filled
  filled-good n l h j b c = rw (lt-ltb j n c) at (filled-place n l h j b)

  pub filled-blank : (n : ℕ) (l : List A) → filled good blank d m n l ≡ true → (j : ℕ) → j < m → n ≤ j → blank (get_or l j d) ≡ true
  unfolding place_filled
  filled-blank n l h j b c = rw (le-ltb j n c) at (filled-place n l h j b)

  pub filled_of : (n : ℕ) (l : List A) → length l ≡ m → ((j : ℕ) → j < m → j < n → good (get_or l j d) ≡ true) → ((j : ℕ) → j < m → n ≤ j → blank (get_or l j d) ≡ true) → filled good blank d m n l ≡ true
  unfolding filled place_filled
  filled_of n l e g z = both-make _ _ (eq-eqb (length l) m e) (all-of (place_filled good blank d n l) m (λ j b. place j b (dec_lt j n)))
    where
      place : (j : ℕ) → j < m → Dec (j < n) → place_filled good blank d n l j ≡ true
      place j b (yes c) = rw (lt-ltb j n c) (g j b c)
      place j b (no c) = rw (le-ltb j n (omega (arith, c))) (z j b (omega (arith, c)))

  -- one more, at the end
  pub filled-push : (n : ℕ) (l : List A) (x : A) → n < m → good x ≡ true → filled good blank d m n l ≡ true → filled good blank d m (n + 1) (set l n x) ≡ true
  filled-push n l x b g h =
      let len : length l ≡ m = filled-length n l h in
      filled_of (n + 1) (set l n x) (length-set l n x ∙ len)
      (λ j c q. used j c (ℕ_discrete j n) q)
      (λ j c q. rw (get_or-set_other l n j x d (λ e. omega (arith, e, q))) (filled-blank n l h j c (omega arith)))
    where
      used : (j : ℕ) → j < m → Dec (j ≡ n) → j < n + 1 → good (get_or (set l n x) j d) ≡ true
      used j c (yes e) q = rw (e, get_or-set_same l n x d (omega (arith, filled-length n l h))) g
      used j c (no k) q = rw (get_or-set_other l n j x d k) (filled-good n l h j c (omega (arith, k)))

  -- the last cleared
  pub filled-pop : (n : ℕ) (l : List A) (z : A) → blank z ≡ true → n < m → filled good blank d m (n + 1) l ≡ true → filled good blank d m n (set l n z) ≡ true
  filled-pop n l z w b h =
      let len : length l ≡ m = filled-length (n + 1) l h in
      filled_of n (set l n z) (length-set l n z ∙ len)
      (λ j c q. rw (get_or-set_other l n j z d (λ e. omega (arith, e, q))) (filled-good (n + 1) l h j c (omega arith)))
      (λ j c q. free j c (ℕ_discrete j n) q)
    where
      free : (j : ℕ) → j < m → Dec (j ≡ n) → n ≤ j → blank (get_or (set l n z) j d) ≡ true
      free j c (yes e) q = rw (e, get_or-set_same l n z d (omega (arith, filled-length (n + 1) l h))) w
      free j c (no k) q = rw (get_or-set_other l n j z d k) (filled-blank (n + 1) l h j c (omega (arith, k)))

  -- the oldest taken
  pub filled_shift : (n : ℕ) (l : List A) → blank d ≡ true → n < m → filled good blank d m (n + 1) l ≡ true → filled good blank d m n (shifted d l) ≡ true
  filled_shift n l w b h =
      let len : length l ≡ m = filled-length (n + 1) l h in
      filled_of n (shifted d l) (shifted-length d l (omega (arith, len)) ∙ len)
      (λ j c q. rw (shifted_at d l j (omega (arith, len))) (filled-good (n + 1) l h (j + 1) (omega arith) (omega arith)))
      (λ j c q. free j c (dec_lt (j + 1) m) q)
    where
      free : (j : ℕ) → j < m → Dec (j + 1 < m) → n ≤ j → blank (get_or (shifted d l) j d) ≡ true
      free j c (yes k) q = rw (shifted_at d l j (omega (arith, filled-length (n + 1) l h))) (filled-blank (n + 1) l h (j + 1) k (omega arith))
      free j c (no k) q = rw (shifted-last d l j (omega (arith, filled-length (n + 1) l h)) (omega (arith, filled-length (n + 1) l h, k))) w

-- ---- a count over the entries in use

module _ {A : Type 0} (f : A → ℕ) (d : A) where
  -- one more, at the end
  pub sum-push : (n : ℕ) (l : List A) (x : A) → n < length l → sum_below (λ (j : ℕ). f (get_or (set l n x) j d)) (n + 1) ≡ sum_below (λ (j : ℕ). f (get_or l j d)) n + f x
  sum-push n l x b =
      sum_more (λ (j : ℕ). f (get_or (set l n x) j d)) n
      ∙ omega (arith, sum_same (λ (j : ℕ). f (get_or (set l n x) j d)) (λ (j : ℕ). f (get_or l j d)) n (λ k c. ap f (get_or-set_other l n k x d (λ e. omega (arith, e, c)))), ap f (get_or-set_same l n x d b))

  -- the last cleared
  pub sum_pop : (n : ℕ) (l : List A) (z : A) → sum_below (λ (j : ℕ). f (get_or (set l n z) j d)) n + f (get_or l n d) ≡ sum_below (λ (j : ℕ). f (get_or l j d)) (n + 1)
  sum_pop n l z =
      omega (arith, sum_more (λ (j : ℕ). f (get_or l j d)) n, sum_same (λ (j : ℕ). f (get_or (set l n z) j d)) (λ (j : ℕ). f (get_or l j d)) n (λ k c. ap f (get_or-set_other l n k z d (λ e. omega (arith, e, c)))))

  -- the oldest taken
  pub sum-shift : (n : ℕ) (l : List A) → n + 1 ≤ length l → f (get_or l 0 d) + sum_below (λ (j : ℕ). f (get_or (shifted d l) j d)) n ≡ sum_below (λ (j : ℕ). f (get_or l j d)) (n + 1)
  sum-shift n l b =
      let s : sum_below (λ (j : ℕ). f (get_or (shifted d l) j d)) n ≡ sum_below (λ (j : ℕ). f (get_or l (suc j) d)) n
      = sum_same _ _ n (λ k c. ap f (shifted_at d l k (omega arith) ∙ rw add-one)) in
      rw (add-one, sum_first (λ (j : ℕ). f (get_or l j d)) n, s)
