-- How many choices there are, and what the list of sequences holds: every sequence of at most three choices, and nothing else; a choice is a step of the scheduler about a configured part.
-- Assumes nothing.
use Prim.Native.Nat.{ℕ, zero, suc, ◌+◌, ◌≤◌, ◌<◌}
use mathlib.Core.List.{List, [], ◌∷◌, ◌++◌, map, Memᴰ}
use mathlib.Core.Logic.{◌⊎◌, inl, inr, ⊎_elim}
use mathlib.Core.Path.{◌≡◌, refl, sym, ap, subst, ◌∙◌}
use native.Mathlib.Decide.{dec_lt}
use native.Mathlib.Nat.{not-suc-le-zero}
use native.Mathlib.Omega.{arith}
use lib.ListN.{length, get_or, length-append}
use Rattle.numbers.specs.Codes.{spawn_code, timeout_code, tick_code}
use Rattle.faces.specs.Types.{Step}
use Rattle.gaps.specs.declared.Choices.{Choices}
use Rattle.gaps.specs.Orders.{each, behind, sequences, up_to_three}
use Rattle.gaps.specs.Gaps.{choice, choices_in}
use Rattle.gaps.proofs.Ordered.{length-each}

-- ---- f at each number below n

pub each-told : {A : Type 0} (f : ℕ → A) (n : ℕ) {x : A} → Memᴰ x (each f n) → (k : ℕ) × (k < n) × (x ≡ f k)
unfolding each
each-told f zero m = absurd (mathlib.Core.List.Memᴰ.not-nil m)
each-told f (suc n) {x} m =
    ⊎_elim (λ (l : Memᴰ x (each f n)). let r = each-told f n l in let h = r.1 in (r.0, omega arith, r.2))
    (λ (l : Memᴰ x (f n ∷ [])). (n, omega arith, mathlib.Core.List.Memᴰ.eq_of_singleton l)) (mathlib.Core.List.Memᴰ.append_cases (each f n) m)

pub each-has : {A : Type 0} (f : ℕ → A) (n k : ℕ) → k < n → Memᴰ (f k) (each f n)
unfolding each
each-has f zero k l = absurd (not-suc-le-zero l)
each-has f (suc n) k l = go (dec_lt k n) (λ h. each-has f n k h)
  where
    go : Dec (k < n) → (k < n → Memᴰ (f k) (each f n)) → Memᴰ (f k) (each f n ++ (f n ∷ []))
    go (yes h) r = mathlib.Core.List.Memᴰ.append_left (f n ∷ []) (r h)
    go (no h) r = let e : k ≡ n = omega arith in mathlib.Core.List.Memᴰ.append_right (each f n) (mathlib.Core.List.Memᴰ.head (ap f e))

-- ---- the choices

abbrev pub ChoiceIn : Choices → Step → Type 0
ChoiceIn n x = ((k : ℕ) × (k < n.spawns) × (x ≡ choice spawn_code k)) ⊎ (((k : ℕ) × (k < n.timeouts) × (x ≡ choice timeout_code k)) ⊎ ((k : ℕ) × (k < n.ticks) × (x ≡ choice tick_code k)))

pub length-choices : (n : Choices) → length (choices_in n) ≡ n.spawns + n.timeouts + n.ticks
unfolding choices_in
length-choices n =
    length-append (each (choice spawn_code) n.spawns) (each (choice timeout_code) n.timeouts ++ each (choice tick_code) n.ticks)
    ∙ omega (arith, length-append (each (choice timeout_code) n.timeouts) (each (choice tick_code) n.ticks), length-each (choice spawn_code) n.spawns, length-each (choice timeout_code) n.timeouts, length-each (choice tick_code) n.ticks)

pub choices-told : (n : Choices) (x : Step) → Memᴰ x (choices_in n) → ChoiceIn n x
unfolding choices_in
choices-told n x m =
    ⊎_elim (λ (a : Memᴰ x (each (choice spawn_code) n.spawns)). inl (each-told (choice spawn_code) n.spawns a))
    (λ (b : Memᴰ x (each (choice timeout_code) n.timeouts ++ each (choice tick_code) n.ticks)).
    ⊎_elim (λ (c : Memᴰ x (each (choice timeout_code) n.timeouts)). inr (inl (each-told (choice timeout_code) n.timeouts c)))
    (λ (c : Memᴰ x (each (choice tick_code) n.ticks)). inr (inr (each-told (choice tick_code) n.ticks c)))
    (mathlib.Core.List.Memᴰ.append_cases (each (choice timeout_code) n.timeouts) b))
    (mathlib.Core.List.Memᴰ.append_cases (each (choice spawn_code) n.spawns) m)

pub choices-has : (n : Choices) (x : Step) → ChoiceIn n x → Memᴰ x (choices_in n)
unfolding choices_in
choices-has n x (inl h) = mathlib.Core.List.Memᴰ.cast h.2 (mathlib.Core.List.Memᴰ.append_left (each (choice timeout_code) n.timeouts ++ each (choice tick_code) n.ticks) (each-has (choice spawn_code) n.spawns h.0 h.1))
choices-has n x (inr (inl h)) = mathlib.Core.List.Memᴰ.cast h.2 (mathlib.Core.List.Memᴰ.append_right (each (choice spawn_code) n.spawns) (mathlib.Core.List.Memᴰ.append_left (each (choice tick_code) n.ticks) (each-has (choice timeout_code) n.timeouts h.0 h.1)))
choices-has n x (inr (inr h)) = mathlib.Core.List.Memᴰ.cast h.2 (mathlib.Core.List.Memᴰ.append_right (each (choice spawn_code) n.spawns) (mathlib.Core.List.Memᴰ.append_right (each (choice timeout_code) n.timeouts) (each-has (choice tick_code) n.ticks h.0 h.1)))

-- ---- sequences

pub map-told : {A B : Type 0} (f : A → B) (l : List A) {y : B} → Memᴰ y (map f l) → (x : A) × Memᴰ x l × (y ≡ f x)
map-told f [] m = absurd (mathlib.Core.List.Memᴰ.not-nil m)
map-told {A} {B} f (a ∷ l) {y} m =
    ⊎_elim (λ (e : y ≡ f a). (a, mathlib.Core.List.Memᴰ.head refl, e)) (λ (r : Memᴰ y (map f l)). let t = map-told f l r in (t.0, mathlib.Core.List.Memᴰ.tail t.1, t.2)) (mathlib.Core.List.Memᴰ.cases_cons m)

pub map-has : {A B : Type 0} (f : A → B) (l : List A) {x : A} → Memᴰ x l → Memᴰ (f x) (map f l)
map-has f [] m = absurd (mathlib.Core.List.Memᴰ.not-nil m)
map-has f (a ∷ l) (mathlib.Core.List.Memᴰ.head e) = mathlib.Core.List.Memᴰ.head (ap f e)
map-has f (a ∷ l) (mathlib.Core.List.Memᴰ.tail m) = mathlib.Core.List.Memᴰ.tail (map-has f l m)

module _ {A : Type 0} where
  pub behind-told : (xs : List A) (ls : List (List A)) {q : List A} → Memᴰ q (behind xs ls) → (x : A) × (l : List A) × Memᴰ x xs × Memᴰ l ls × (q ≡ x ∷ l)
  unfolding behind
  behind-told [] ls m = absurd (mathlib.Core.List.Memᴰ.not-nil m)
  behind-told (x ∷ xs) ls {q} m =
      ⊎_elim (λ (a : Memᴰ q (map (λ (l : List A). x ∷ l) ls)). let t = map-told (λ (l : List A). x ∷ l) ls a in (x, t.0, mathlib.Core.List.Memᴰ.head refl, t.1, t.2))
      (λ (b : Memᴰ q (behind xs ls)). let t = behind-told xs ls b in (t.0, t.1, mathlib.Core.List.Memᴰ.tail t.2, t.3, t.4))
      (mathlib.Core.List.Memᴰ.append_cases (map (λ (l : List A). x ∷ l) ls) m)

  behind-has : (xs : List A) (ls : List (List A)) {x : A} {l : List A} → Memᴰ x xs → Memᴰ l ls → Memᴰ (x ∷ l) (behind xs ls)
  unfolding behind
  behind-has [] ls m k = absurd (mathlib.Core.List.Memᴰ.not-nil m)
  behind-has (a ∷ xs) ls {x} {l} (mathlib.Core.List.Memᴰ.head e) k = mathlib.Core.List.Memᴰ.cast (ap (λ (y : A). y ∷ l) e) (mathlib.Core.List.Memᴰ.append_left (behind xs ls) (map-has (λ (l : List A). a ∷ l) ls k))
  behind-has (a ∷ xs) ls (mathlib.Core.List.Memᴰ.tail m) k = mathlib.Core.List.Memᴰ.append_right (map (λ (l : List A). a ∷ l) ls) (behind-has xs ls m k)

  -- so many, each from the list
  pub sequences-told : (xs : List A) (n : ℕ) (q : List A) → Memᴰ q (sequences xs n) → (length q ≡ n) × ((x : A) → Memᴰ x q → Memᴰ x xs)
  unfolding sequences
  sequences-told xs zero q m = let e = mathlib.Core.List.Memᴰ.eq_of_singleton m in (ap length e, λ x k. absurd (mathlib.Core.List.Memᴰ.not-nil (subst (λ (l : List A). Memᴰ x l) e k)))
  sequences-told xs (suc n) q m =
      let t = behind-told xs (sequences xs n) m in
      let r = sequences-told xs n t.1 t.3 in
      (ap length t.4 ∙ ap suc r.0, λ x k. ⊎_elim (λ (e : x ≡ t.0). mathlib.Core.List.Memᴰ.cast e t.2) (λ (j : Memᴰ x t.1). r.1 x j) (mathlib.Core.List.Memᴰ.cases_cons (subst (λ (l : List A). Memᴰ x l) t.4 k)))

  pub sequences-has : (xs q : List A) → ((x : A) → Memᴰ x q → Memᴰ x xs) → Memᴰ q (sequences xs (length q))
  unfolding sequences
  sequences-has xs [] h = mathlib.Core.List.Memᴰ.head refl
  sequences-has xs (y ∷ q) h = behind-has xs (sequences xs (length q)) (h y (mathlib.Core.List.Memᴰ.head refl)) (sequences-has xs q (λ x m. h x (mathlib.Core.List.Memᴰ.tail m)))

  -- at most three, each from the list
  pub three-told : (xs q : List A) → Memᴰ q (up_to_three xs) → (length q ≤ 3) × ((x : A) → Memᴰ x q → Memᴰ x xs)
  unfolding up_to_three
  three-told xs q m =
      ⊎_elim (λ (a : Memᴰ q (sequences xs 0)). by 0 (omega arith) a)
      (λ (b : Memᴰ q (sequences xs 1 ++ (sequences xs 2 ++ sequences xs 3))).
      ⊎_elim (λ (c : Memᴰ q (sequences xs 1)). by 1 (omega arith) c)
      (λ (c : Memᴰ q (sequences xs 2 ++ sequences xs 3)).
      ⊎_elim (λ (d : Memᴰ q (sequences xs 2)). by 2 (omega arith) d) (λ (d : Memᴰ q (sequences xs 3)). by 3 (omega arith) d)
      (mathlib.Core.List.Memᴰ.append_cases (sequences xs 2) c))
      (mathlib.Core.List.Memᴰ.append_cases (sequences xs 1) b))
      (mathlib.Core.List.Memᴰ.append_cases (sequences xs 0) m)
    where
      by : (n : ℕ) → n ≤ 3 → Memᴰ q (sequences xs n) → (length q ≤ 3) × ((x : A) → Memᴰ x q → Memᴰ x xs)
      by n l k = let t = sequences-told xs n q k in (omega (arith, t.0), t.1)

  pub three-has : (xs q : List A) → length q ≤ 3 → ((x : A) → Memᴰ x q → Memᴰ x xs) → Memᴰ q (up_to_three xs)
  unfolding up_to_three
  three-has xs [] l h = mathlib.Core.List.Memᴰ.append_left (sequences xs 1 ++ (sequences xs 2 ++ sequences xs 3)) (sequences-has xs [] h)
  three-has xs (a ∷ []) l h = mathlib.Core.List.Memᴰ.append_right (sequences xs 0) (mathlib.Core.List.Memᴰ.append_left (sequences xs 2 ++ sequences xs 3) (sequences-has xs (a ∷ []) h))
  three-has xs (a ∷ b ∷ []) l h = mathlib.Core.List.Memᴰ.append_right (sequences xs 0) (mathlib.Core.List.Memᴰ.append_right (sequences xs 1) (mathlib.Core.List.Memᴰ.append_left (sequences xs 3) (sequences-has xs (a ∷ b ∷ []) h)))
  three-has xs (a ∷ b ∷ c ∷ []) l h = mathlib.Core.List.Memᴰ.append_right (sequences xs 0) (mathlib.Core.List.Memᴰ.append_right (sequences xs 1) (mathlib.Core.List.Memᴰ.append_right (sequences xs 2) (sequences-has xs (a ∷ b ∷ c ∷ []) h)))
  three-has xs (a ∷ b ∷ c ∷ d ∷ q) l h = absurd (omega arith)

-- ---- by place

module _ {A : Type 0} where
  pub at-member : (l : List A) (k : ℕ) (d : A) → k < length l → Memᴰ (get_or l k d) l
  at-member [] k d h = absurd (not-suc-le-zero h)
  at-member (x ∷ l) zero d h = mathlib.Core.List.Memᴰ.head refl
  at-member (x ∷ l) (suc k) d h = mathlib.Core.List.Memᴰ.tail (at-member l k d (omega arith))

  pub member-at : (l : List A) (d : A) {x : A} → Memᴰ x l → (k : ℕ) × (k < length l) × (get_or l k d ≡ x)
  member-at [] d m = absurd (mathlib.Core.List.Memᴰ.not-nil m)
  member-at (y ∷ l) d (mathlib.Core.List.Memᴰ.head e) = (0, omega arith, sym e)
  member-at (y ∷ l) d (mathlib.Core.List.Memᴰ.tail m) = let t = member-at l d m in let h = t.1 in (suc t.0, omega arith, t.2)
