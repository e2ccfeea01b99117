-- The list of sequences is in the order of the request: shorter ones first, then by the first difference.
-- Assumes nothing.
use Prim.Native.Nat.{ℕ, zero, suc, ◌<◌}
use mathlib.Core.List.Memᴰ
use mathlib.Core.List.{List, [], ◌∷◌, ◌++◌, map, Memᴰ}
use mathlib.Core.Logic.{inl, inr, ⊎_elim}
use mathlib.Core.Path.{◌≡◌, refl, sym, ap, subst, ◌∙◌}
use native.Mathlib.Nat.{not-suc-le-zero}
use native.Mathlib.Omega.{arith}
use lib.ListN.{length, get_or, length-append}
use Rattle.numbers.specs.Codes.{spawn_code, timeout_code, tick_code}
use Rattle.faces.specs.Types.{Step}
use Rattle.gaps.specs.declared.Choices.{Choices}
use Rattle.gaps.specs.Orders.{each, behind, sequences, up_to_three}
use Rattle.gaps.specs.Gaps.{choice, counts_of, choices_in, sequences_of}
use Rattle.gaps.proofs.Members.{each-told, map-told, behind-told, sequences-told, at-member}
use Rattle.mended.specs.Claims.{Earlier, Before, shorter, sooner, OrderIsOneWay, ListIsOrdered}

-- ---- lists in which every one stands before those behind it

module _ {A : Type 0} (R : A → A → Type 0) where
  abbrev pub Rising : List A → Type 0
  Rising [] = Unit {0}
  Rising (x ∷ l) = ((y : A) → Memᴰ y l → R x y) × Rising l

  rising-append : (l m : List A) → Rising l → Rising m → ((x y : A) → Memᴰ x l → Memᴰ y m → R x y) → Rising (l ++ m)
  rising-append [] m a b c = b
  rising-append (x ∷ l) m a b c = (
    λ y k. ⊎_elim (λ (j : Memᴰ y l). a.0 y j) (λ (j : Memᴰ y m). c x y (Memᴰ.head refl) j) (Memᴰ.append_cases l k),
    rising-append l m a.1 b (λ z y j k. c z y (Memᴰ.tail j) k),
  )

  rising-each : (f : ℕ → A) (n : ℕ) → ((i j : ℕ) → i < j → R (f i) (f j)) → Rising (each f n)
  unfolding each
  rising-each f zero h = tt
  rising-each f (suc n) h =
      rising-append (each f n) (f n ∷ []) (rising-each f n h) (λ y k. absurd (Memᴰ.not-nil k), tt)
      (λ x y j k. let t = each-told f n j in subst (λ (z : A). R z y) (sym t.2) (subst (R (f t.0)) (sym (Memᴰ.eq_of_singleton k)) (h t.0 n t.1)))

  rising-at : (l : List A) (d : A) (i j : ℕ) → Rising l → i < j → j < length l → R (get_or l i d) (get_or l j d)
  rising-at [] d i j a p q = absurd (not-suc-le-zero q)
  rising-at (x ∷ l) d i zero a p q = absurd (not-suc-le-zero p)
  rising-at (x ∷ l) d zero (suc j) a p q = a.0 (get_or l j d) (at-member l j d (omega arith))
  rising-at (x ∷ l) d (suc i) (suc j) a p q = rising-at l d i j a.1 (omega arith) (omega arith)

-- ---- the choices

pub choices-rise : (n : Choices) → Rising Earlier (choices_in n)
unfolding choices_in
choices-rise n =
    rising-append Earlier (each (choice spawn_code) n.spawns) (each (choice timeout_code) n.timeouts ++ each (choice tick_code) n.ticks) (parts 15 n.spawns)
    (rising-append Earlier (each (choice timeout_code) n.timeouts) (each (choice tick_code) n.ticks) (parts 16 n.timeouts) (parts 17 n.ticks) (λ x y j k. apart 16 17 n.timeouts n.ticks (omega arith) x y j k))
    (λ x y j k. ⊎_elim (λ (l : Memᴰ y (each (choice timeout_code) n.timeouts)). apart 15 16 n.spawns n.timeouts (omega arith) x y j l)
    (λ (l : Memᴰ y (each (choice tick_code) n.ticks)). apart 15 17 n.spawns n.ticks (omega arith) x y j l) (Memᴰ.append_cases (each (choice timeout_code) n.timeouts) k))
  where
    parts : (code m : ℕ) → Rising Earlier (each (choice code) m)
    parts code m = rising-each Earlier (choice code) m (λ i j l. inr (refl, l))

    apart : (c d a b : ℕ) → c < d → (x y : Step) → Memᴰ x (each (choice c) a) → Memᴰ y (each (choice d) b) → Earlier x y
    apart c d a b l x y j k =
        let s = ap (λ (z : Step). z.code) (each-told (choice c) a j).2 in
        let t = ap (λ (z : Step). z.code) (each-told (choice d) b k).2 in
        inl (omega (arith, s, t))

-- ---- the sequences

longer : (x : Step) (p q : List Step) → Before p q → Before (x ∷ p) (x ∷ q)
longer x p q (shorter l) = shorter (omega arith)
longer x p q (sooner same a b u v e f l h) = sooner (x ∷ same) a b u v (ap (λ (z : List Step). x ∷ z) e) (ap (λ (z : List Step). x ∷ z) f) l h

rising-front : (x : Step) (ls : List (List Step)) → Rising Before ls → Rising Before (map (λ (l : List Step). x ∷ l) ls)
rising-front x [] a = tt
rising-front x (l ∷ ls) a = (
  λ q k. let t = map-told (λ (z : List Step). x ∷ z) ls k in subst (Before (x ∷ l)) (sym t.2) (longer x l t.0 (a.0 t.0 t.1)),
  rising-front x ls a.1,
)

rising-behind : (xs : List Step) (ls : List (List Step)) (n : ℕ) → Rising Earlier xs → Rising Before ls → ((l : List Step) → Memᴰ l ls → length l ≡ n) → Rising Before (behind xs ls)
unfolding behind
rising-behind [] ls n a b h = tt
rising-behind (x ∷ xs) ls n a b h =
    rising-append Before (map (λ (l : List Step). x ∷ l) ls) (behind xs ls) (rising-front x ls b) (rising-behind xs ls n a.1 b h)
    (λ p q j k. let s = map-told (λ (z : List Step). x ∷ z) ls j in
    let t = behind-told xs ls k in
    sooner [] x t.0 s.0 t.1 s.2 t.4 (h s.0 s.1 ∙ sym (h t.1 t.3)) (a.0 t.0 t.2))

module _ (xs : List Step) (a : Rising Earlier xs) where
  rising-sequences : (n : ℕ) → Rising Before (sequences xs n)
  unfolding sequences
  rising-sequences zero = (λ y k. absurd (Memᴰ.not-nil k), tt)
  rising-sequences (suc n) = rising-behind xs (sequences xs n) n a (rising-sequences n) (λ l m. (sequences-told xs n l m).0)

  less : (m n : ℕ) → m < n → (p q : List Step) → Memᴰ p (sequences xs m) → Memᴰ q (sequences xs n) → Before p q
  less m n l p q j k = shorter (omega (arith, (sequences-told xs m p j).0, (sequences-told xs n q k).0))

  rising-three : Rising Before (up_to_three xs)
  unfolding up_to_three
  rising-three =
      rising-append Before (sequences xs 0) (sequences xs 1 ++ (sequences xs 2 ++ sequences xs 3)) (rising-sequences 0)
      (rising-append Before (sequences xs 1) (sequences xs 2 ++ sequences xs 3) (rising-sequences 1)
      (rising-append Before (sequences xs 2) (sequences xs 3) (rising-sequences 2) (rising-sequences 3) (less 2 3 (omega arith)))
      (λ p q j k. ⊎_elim (λ (l : Memᴰ q (sequences xs 2)). less 1 2 (omega arith) p q j l) (λ (l : Memᴰ q (sequences xs 3)). less 1 3 (omega arith) p q j l) (Memᴰ.append_cases (sequences xs 2) k)))
      (λ p q j k. ⊎_elim (λ (l : Memᴰ q (sequences xs 1)). less 0 1 (omega arith) p q j l)
      (λ (l : Memᴰ q (sequences xs 2 ++ sequences xs 3)).
      ⊎_elim (λ (i : Memᴰ q (sequences xs 2)). less 0 2 (omega arith) p q j i) (λ (i : Memᴰ q (sequences xs 3)). less 0 3 (omega arith) p q j i) (Memᴰ.append_cases (sequences xs 2) l))
      (Memᴰ.append_cases (sequences xs 1) k))

pub list-is-ordered : ListIsOrdered
unfolding sequences_of
list-is-ordered cfg i j = rising-at Before (up_to_three (choices_in (counts_of cfg))) [] i j (rising-three (choices_in (counts_of cfg)) (choices-rise (counts_of cfg)))

-- ---- one way only

earlier-once : (x y : Step) → Earlier x y → Earlier y x → ⊥
earlier-once x y a b =
    ⊎_elim (λ (l : x.code < y.code). ⊎_elim (λ (k : y.code < x.code). omega arith) (λ (k : (y.code ≡ x.code) × (y.what < x.what)). omega (arith, k.0)) b)
    (λ (l : (x.code ≡ y.code) × (x.what < y.what)). ⊎_elim (λ (k : y.code < x.code). omega (arith, l.0)) (λ (k : (y.code ≡ x.code) × (y.what < x.what)). omega (arith, l.1, k.1)) b) a

-- the first difference is one place
apart : (s t : List Step) (x y a b : Step) (u v w z : List Step) → s ++ (x ∷ u) ≡ t ++ (b ∷ z) → s ++ (y ∷ v) ≡ t ++ (a ∷ w) → Earlier x y → Earlier a b → ⊥
apart [] [] x y a b u v w z e f h k =
    let p : x ≡ b = cc in
    let q : y ≡ a = cc in
    earlier-once x y h (subst (λ (c : Step). Earlier c x) (sym q) (subst (Earlier a) (sym p) k))
apart [] (c ∷ t) x y a b u v w z e f h k =
    let p : x ≡ c = cc in
    let q : y ≡ c = cc in
    let l : Earlier c c = subst (λ (d : Step). Earlier d c) p (subst (Earlier x) q h) in
    earlier-once c c l l
apart (c ∷ s) [] x y a b u v w z e f h k =
    let p : c ≡ b = cc in
    let q : c ≡ a = cc in
    let l : Earlier c c = subst (λ (d : Step). Earlier d c) (sym q) (subst (Earlier a) (sym p) k) in
    earlier-once c c l l
apart (c ∷ s) (d ∷ t) x y a b u v w z e f h k =
    let p : s ++ (x ∷ u) ≡ t ++ (b ∷ z) = cc in
    let q : s ++ (y ∷ v) ≡ t ++ (a ∷ w) = cc in
    apart s t x y a b u v w z p q h k

alike-long : (s : List Step) (x y : Step) (u v p q : List Step) → p ≡ s ++ (x ∷ u) → q ≡ s ++ (y ∷ v) → length u ≡ length v → length p ≡ length q
alike-long s x y u v p q e f l = omega (arith, ap length e, ap length f, length-append s (x ∷ u), length-append s (y ∷ v))

pub order-is-one-way : OrderIsOneWay
order-is-one-way p q (shorter l) (shorter m) = omega arith
order-is-one-way p q (shorter l) (sooner s x y u v e f k h) = omega (arith, alike-long s x y u v q p e f k)
order-is-one-way p q (sooner s x y u v e f k h) (shorter m) = omega (arith, alike-long s x y u v p q e f k)
order-is-one-way p q (sooner s x y u v e f k h) (sooner t a b w z i j n g) = apart s t x y a b u v w z (sym e ∙ j) (sym f ∙ i) h g
