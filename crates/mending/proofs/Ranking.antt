-- Sequences by their rank: the choices of the sequence that stands at a rank.
-- Assumes nothing.
use Prim.Native.Nat.{ℕ, zero, suc, ◌+◌, ◌-◌, ◌*◌, ◌/◌, ◌%◌, ◌≤◌, ◌<◌}
use mathlib.Core.List.{List, [], ◌∷◌, ◌++◌, map}
use mathlib.Core.Path.{◌≡◌, refl, sym, ap, ap₂, ◌∙◌}
use native.Mathlib.Nat.{not-suc-le-zero, one-le-mul, div-add-mod', mod-lt, div-lt_iff_lt-mul}
use native.Mathlib.Decide.{dec_lt}
use native.Mathlib.Numerals.{add-one}
use native.Mathlib.Omega.{arith}
use lib.ListN.{length, get_or, length-map, get_or-append}
use lib.Seq.{get_or-append-add}
use borrow.Author.Tests.{lt-ltb, le-ltb}
use Rattle.faces.specs.Types.{Step, Config, State, Stepped}
use Rattle.effects.specs.Step.{possible_of}
use Rattle.gaps.specs.declared.Choices.{Choices}
use Rattle.gaps.specs.Orders.{behind, sequences, up_to_three}
use Rattle.gaps.specs.Gaps.{choices_in}
use Rattle.gaps.proofs.Ordered.{length-one, length_two}
use Rattle.gaps.proofs.Members.{length-choices}
use Rattle.searching.specs.Search.{Counted, choice_at, size_of}
use Rattle.searching.proofs.Counting.{some_of, at_second, choice-is, size_is}
use Rattle.mending.specs.Going.{most_of, number_at, picks, picks_of, rest_of, picked, taken_all}
use Rattle.mending.specs.declared.Picks.{Picks}

-- ---- the sequence at a place

-- behind the j-th choice the r-th sequence
at-behind : {A : Type 0} (xs : List A) (ls : List (List A)) (j r : ℕ) (d : A) → j < length xs → r < length ls → get_or (behind xs ls) (j * length ls + r) [] ≡ get_or xs j d ∷ get_or ls r []
unfolding behind
at-behind [] ls j r d h k = absurd (not-suc-le-zero h)
at-behind {A = A} (x ∷ xs) ls zero r d h k =
    let z : 0 * length ls + r ≡ r = omega arith in
    ap (λ (i : ℕ). get_or (map (λ (l : List A). x ∷ l) ls ++ behind xs ls) i []) z
    ∙ get_or-append (map (λ (l : List A). x ∷ l) ls) (behind xs ls) [] r (omega (arith, length-map ls (λ (l : List A). x ∷ l)))
    ∙ at_map x ls r k
  where
    at_map : (x : A) (ls : List (List A)) (r : ℕ) → r < length ls → get_or (map (λ (l : List A). x ∷ l) ls) r [] ≡ x ∷ get_or ls r []
    at_map x [] r h = absurd (not-suc-le-zero h)
    at_map x (l ∷ ls) zero h = refl
    at_map x (l ∷ ls) (suc r) h = at_map x ls r (omega arith)
at-behind {A = A} (x ∷ xs) ls (suc j) r d h k =
    let z : suc j * length ls + r ≡ length (map (λ (l : List A). x ∷ l) ls) + (j * length ls + r) = omega (arith, length-map ls (λ (l : List A). x ∷ l)) in
    ap (λ (i : ℕ). get_or (map (λ (l : List A). x ∷ l) ls ++ behind xs ls) i []) z
    ∙ get_or-append-add (map (λ (l : List A). x ∷ l) ls) (behind xs ls) (j * length ls + r) []
    ∙ at-behind xs ls j r d (omega arith) k

module _ {A : Type 0} (xs : List A) (d : A) where
  seq-one : (i : ℕ) → i < length xs → get_or (sequences xs 1) i [] ≡ get_or xs i d ∷ []
  unfolding sequences
  seq-one i h =
      let z : i ≡ i * 1 + 0 = omega arith in
      ap (λ (j : ℕ). get_or (behind xs ([] ∷ [])) j []) z ∙ at-behind xs ([] ∷ []) i 0 d h (omega arith)

  seq-two : (i : ℕ) → i < length xs * length xs → get_or (sequences xs 2) i [] ≡ get_or xs (i / length xs) d ∷ get_or xs (i % length xs) d ∷ []
  unfolding sequences size_of
  seq-two i h =
      let pos : 0 < length xs = some_of (length xs) (length xs) i h in
      let size : length (sequences xs 1) ≡ length xs = size_is xs 1 (omega arith) in
      let quotient : i / length xs < length xs = (div-lt_iff_lt-mul pos).1 h in
      let rest : i % length xs < length xs = mod-lt i pos in
      let z : i ≡ i / length xs * length (sequences xs 1) + i % length xs = rw size (sym (div-add-mod' i (length xs))) in
      ap (λ (j : ℕ). get_or (behind xs (sequences xs 1)) j []) z
      ∙ at-behind xs (sequences xs 1) (i / length xs) (i % length xs) d quotient (omega arith)
      ∙ ap (λ (l : List A). get_or xs (i / length xs) d ∷ l) (seq-one (i % length xs) rest)

  seq-three : (i : ℕ) → i < length xs * (length xs * length xs)
      → get_or (sequences xs 3) i [] ≡ get_or xs (i / (length xs * length xs)) d ∷ get_or xs (i % (length xs * length xs) / length xs) d ∷ get_or xs (i % (length xs * length xs) % length xs) d ∷ []
  unfolding sequences size_of
  seq-three i h =
      let pos : 0 < length xs = some_of (length xs) (length xs * length xs) i h in
      let more : 0 < length xs * length xs = one-le-mul pos pos in
      let size : length (sequences xs 2) ≡ length xs * length xs = size_is xs 2 (omega arith) in
      let quotient : i / (length xs * length xs) < length xs = (div-lt_iff_lt-mul more).1 h in
      let rest : i % (length xs * length xs) < length xs * length xs = mod-lt i more in
      let z : i ≡ i / (length xs * length xs) * length (sequences xs 2) + i % (length xs * length xs) = rw size (sym (div-add-mod' i (length xs * length xs))) in
      ap (λ (j : ℕ). get_or (behind xs (sequences xs 2)) j []) z
      ∙ at-behind xs (sequences xs 2) (i / (length xs * length xs)) (i % (length xs * length xs)) d quotient (omega arith)
      ∙ ap (λ (l : List A). get_or xs (i / (length xs * length xs)) d ∷ l) (seq-two (i % (length xs * length xs)) rest)

module _ {A : Type 0} (xs : List A) (k rank : ℕ) (e : length xs ≡ k) where
  ones : length (sequences xs 1) ≡ k
  ones = length-one xs ∙ e

  twos : length (sequences xs 2) ≡ k * k
  twos = length_two xs ∙ ap₂ ◌*◌ e e

  three-one : 1 ≤ rank → rank - 1 < k → get_or (up_to_three xs) rank [] ≡ get_or (sequences xs 1) (rank - 1) []
  unfolding up_to_three size_of
  three-one a b = at_second (sequences xs 0) _ rank 1 [] (size_is xs 0 (omega arith)) a ∙ get_or-append (sequences xs 1) _ [] (rank - 1) (omega (arith, ones))

  three-two : 1 ≤ rank → k ≤ rank - 1 → rank - 1 - k < k * k → get_or (up_to_three xs) rank [] ≡ get_or (sequences xs 2) (rank - 1 - k) []
  unfolding up_to_three size_of
  three-two a b c =
      at_second (sequences xs 0) _ rank 1 [] (size_is xs 0 (omega arith)) a ∙ at_second (sequences xs 1) _ (rank - 1) k [] ones b
      ∙ get_or-append (sequences xs 2) (sequences xs 3) [] (rank - 1 - k) (omega (arith, twos))

  three-three : 1 ≤ rank → k ≤ rank - 1 → k * k ≤ rank - 1 - k → get_or (up_to_three xs) rank [] ≡ get_or (sequences xs 3) (rank - 1 - k - k * k) []
  unfolding up_to_three size_of
  three-three a b c =
      at_second (sequences xs 0) _ rank 1 [] (size_is xs 0 (omega arith)) a ∙ at_second (sequences xs 1) _ (rank - 1) k [] ones b
      ∙ at_second (sequences xs 2) (sequences xs 3) (rank - 1 - k) (k * k) [] twos c

-- ---- the choices of the sequence of a rank

module _ (k rank : ℕ) where
  pub picks-none : rank < 1 → picks_of k rank ≡ picks 0 0 0 0
  unfolding picks_of
  picks-none a = rw (lt-ltb _ _ a)

  pub picks-one : 1 ≤ rank → rank - 1 < k → picks_of k rank ≡ picks 1 (rank - 1) 0 0
  unfolding picks_of
  picks-one a b = rw (le-ltb _ _ a, lt-ltb _ _ b)

  pub picks-two : 1 ≤ rank → k ≤ rank - 1 → rank - 1 - k < k * k → picks_of k rank ≡ picks 2 ((rank - 1 - k) / k) ((rank - 1 - k) % k) 0
  unfolding picks_of
  picks-two a b c = rw (le-ltb _ _ a, le-ltb _ _ b, lt-ltb _ _ c)

  pub picks-three : 1 ≤ rank → k ≤ rank - 1 → k * k ≤ rank - 1 - k → rank - 1 - k - k * k < k * (k * k)
      → picks_of k rank ≡ picks 3 ((rank - 1 - k - k * k) / (k * k)) ((rank - 1 - k - k * k) % (k * k) / k) ((rank - 1 - k - k * k) % (k * k) % k)
  unfolding picks_of
  picks-three a b c d = rw (le-ltb _ _ a, le-ltb _ _ b, le-ltb _ _ c, lt-ltb _ _ d)

  pub picks-past : 1 ≤ rank → k ≤ rank - 1 → k * k ≤ rank - 1 - k → k * (k * k) ≤ rank - 1 - k - k * k → picks_of k rank ≡ picks 0 0 0 0
  unfolding picks_of
  picks-past a b c d = rw (le-ltb _ _ a, le-ltb _ _ b, le-ltb _ _ c, le-ltb _ _ d)

module _ (n : Choices) {k : ℕ} (counted : Counted n k) where
  long : length (choices_in n) ≡ k
  long = length-choices n ∙ sym counted.is

  chosen : (j : ℕ) → j < k → choice_at n j ≡ get_or (choices_in n) j (choice_at n 0)
  chosen j h = choice-is n j (choice_at n 0) counted.spawns counted.timeouts counted.ticks (omega (arith, counted.is))

  first-is : (i : ℕ) → i < 1 → picked n (picks 0 0 0 0) ≡ get_or (up_to_three (choices_in n)) i []
  unfolding picked up_to_three sequences
  first-is i h = let z : i ≡ 0 = omega arith in rw z

  are-one : (i : ℕ) → i < k → picked n (picks 1 i 0 0) ≡ get_or (sequences (choices_in n) 1) i []
  unfolding picked
  are-one i h = ap (λ (x : Step). x ∷ []) (chosen i h) ∙ sym (seq-one (choices_in n) (choice_at n 0) i (omega (arith, long)))

  are-two : (i : ℕ) → i < k * k → picked n (picks 2 (i / k) (i % k) 0) ≡ get_or (sequences (choices_in n) 2) i []
  unfolding picked
  are-two i h =
      let pos : 0 < k = some_of k k i h in
      ap₂ (λ (x y : Step). x ∷ y ∷ []) (chosen (i / k) ((div-lt_iff_lt-mul pos).1 h)) (chosen (i % k) (mod-lt i pos))
      ∙ rw (← long) (sym (seq-two (choices_in n) (choice_at n 0) i (rw (← long) at h)))

  are-three : (i : ℕ) → i < k * (k * k) → picked n (picks 3 (i / (k * k)) (i % (k * k) / k) (i % (k * k) % k)) ≡ get_or (sequences (choices_in n) 3) i []
  unfolding picked
  are-three i h =
      let pos : 0 < k = some_of k (k * k) i h in
      let more : 0 < k * k = one-le-mul pos pos in
      let rest : i % (k * k) < k * k = mod-lt i more in
      ap₂ (λ (x : Step) (l : List Step). x ∷ l) (chosen (i / (k * k)) ((div-lt_iff_lt-mul more).1 h))
      (ap₂ (λ (x y : Step). x ∷ y ∷ []) (chosen (i % (k * k) / k) ((div-lt_iff_lt-mul pos).1 rest)) (chosen (i % (k * k) % k) (mod-lt (i % (k * k)) pos)))
      ∙ rw (← long) (sym (seq-three (choices_in n) (choice_at n 0) i (rw (← long) at h)))

  pub picks-are : (rank : ℕ) → rank < most_of k → picked n (picks_of k rank) ≡ get_or (up_to_three (choices_in n)) rank []
  picks-are rank h = go (dec_lt rank 1) (dec_lt (rank - 1) k) (dec_lt (rank - 1 - k) (k * k))
    where
      go : Dec (rank < 1) → Dec (rank - 1 < k) → Dec (rank - 1 - k < k * k) → picked n (picks_of k rank) ≡ get_or (up_to_three (choices_in n)) rank []
      go (yes p) q r = ap (picked n) (picks-none k rank p) ∙ first-is rank p
      go (no p) (yes q) r =
          let a : 1 ≤ rank = omega (arith, p) in
          ap (picked n) (picks-one k rank a q) ∙ are-one (rank - 1) q ∙ sym (three-one (choices_in n) k rank long a q)
      go (no p) (no q) (yes r) =
          let a : 1 ≤ rank = omega (arith, p) in
          let b : k ≤ rank - 1 = omega (arith, q) in
          ap (picked n) (picks-two k rank a b r) ∙ are-two (rank - 1 - k) r ∙ sym (three-two (choices_in n) k rank long a b r)
      go (no p) (no q) (no r) =
          let a : 1 ≤ rank = omega (arith, p) in
          let b : k ≤ rank - 1 = omega (arith, q) in
          let c : k * k ≤ rank - 1 - k = omega (arith, r) in
          let d : rank - 1 - k - k * k < k * (k * k) = omega (arith, h) in
          ap (picked n) (picks-three k rank a b c d) ∙ are-three (rank - 1 - k - k * k) d ∙ sym (three-three (choices_in n) k rank long a b c)

-- ---- choice after choice

-- no choice is left
pub picked_none : (n : Choices) (p : Picks) → p.length ≡ 0 → picked n p ≡ []
unfolding picked
picked_none n p e = rw e

-- the first, and the rest
rest-is : (n : Choices) (m a b c : ℕ) → m ≤ 2 → picked n (picks (suc m) a b c) ≡ choice_at n a ∷ picked n (picks m b c 0)
unfolding picked
rest-is n zero a b c h = refl
rest-is n (suc zero) a b c h = refl
rest-is n (suc (suc zero)) a b c h = refl
rest-is n (suc (suc (suc m))) a b c h = absurd (omega arith)

pub picked-rest : (n : Choices) (p : Picks) → 0 < p.length → p.length ≤ 3 → picked n p ≡ choice_at n p.first ∷ picked n (rest_of p)
picked-rest n p a b =
    let e : p.length ≡ suc (p.length - 1) = omega arith in
    ap (λ (m : ℕ). picked n (picks m p.first p.second p.third)) e
    ∙ rest-is n (p.length - 1) p.first p.second p.third (omega arith)

pub length-picked : (n : Choices) (p : Picks) → p.length ≤ 3 → length (picked n p) ≡ p.length
unfolding picked
length-picked n p h = go p.length h
  where
    go : (m : ℕ) → m ≤ 3 → length (picked n (picks m p.first p.second p.third)) ≡ m
    go zero h = ap length (picked_none n (picks 0 p.first p.second p.third) refl)
    go (suc zero) h = refl
    go (suc (suc zero)) h = refl
    go (suc (suc (suc zero))) h = refl
    go (suc (suc (suc (suc m)))) h = absurd (omega arith)

-- the state behind no choice, and behind one more
pub taken_none : (cfg : Config) (st : State) (n : Choices) (p : Picks) → p.length ≡ 0 → taken_all cfg st (picked n p) ≡ st
unfolding taken_all
taken_none cfg st n p e = ap (taken_all cfg st) (picked_none n p e)

pub taken_next : (cfg : Config) (st : State) (n : Choices) (p : Picks) {x : Step} {r : Stepped} → 0 < p.length → p.length ≤ 3 → x ≡ choice_at n p.first → r ≡ possible_of cfg st x
    → taken_all cfg st (picked n p) ≡ taken_all cfg r.state (picked n (rest_of p))
unfolding taken_all
taken_next cfg st n p {x} {r} a b e q =
    ap (taken_all cfg st) (picked-rest n p a b ∙ ap (λ (y : Step). y ∷ picked n (rest_of p)) (sym e))
    ∙ ap (λ (y : Stepped). taken_all cfg y.state (picked n (rest_of p))) (sym q)

-- what is left of a sequence behind its first k choices
unfoldable pub left_of : ℕ → Picks → Picks
left_of zero p = p
left_of (suc k) p = rest_of (left_of k p)

pub left-next : (k : ℕ) (p : Picks) → left_of (k + 1) p ≡ rest_of (left_of k p)
unfolding left_of
left-next k p = rw add-one

pub left_none : (p : Picks) → left_of 0 p ≡ p
unfolding left_of
left_none p = refl

pub left-long : (k : ℕ) (p : Picks) → (left_of k p).length ≡ p.length - k
unfolding left_of
left-long zero p = omega arith
left-long (suc k) p = omega (arith, left-long k p)

pub left-first : (k : ℕ) (p : Picks) → k < 3 → (left_of k p).first ≡ number_at p k
unfolding left_of
left-first zero p h = refl
left-first (suc zero) p h = refl
left-first (suc (suc zero)) p h = refl
left-first (suc (suc (suc k))) p h = absurd (omega arith)
