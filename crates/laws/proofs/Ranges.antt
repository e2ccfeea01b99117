-- What an iterator's call comes to, in the words of Loop and Row: `all`, `any`, `find` and `count` over the numbers below n, and tests of a row whose first n places are in use.
-- Assumes nothing.
use Prim.Native.Nat.{suc, zero, ℕ, ◌+◌, ◌<◌, ◌≤◌}
use borrow.Author.Tests.{le-ltb}
use denote.Param.Members.{Mut}
use denote.Ref.{Bor}
use mathlib.Core.Bool.{Bool, false, true}
use mathlib.Core.List.{List}
use mathlib.Core.Path.{ap, refl, sym, ◌∙◌, ◌≡◌}
use native.Mathlib.Decide.{dec_lt}
use native.Mathlib.Omega.{arith}
use Rattle.std.proofs.Common.{Bool, List, None, Option, Some, ap, arith, drop, eq-eqb, false, get_or, le-ltb, length, lt-ltb, ltb, refl, suc, sym, take, true, zero, ℕ, ◌<◌, ◌∙◌, ◌∷◌, ◌≡◌, []}
use Rattle.std.proofs.iter.Yields.{nat_range_steps}
use Rattle.std.proofs.lemmas.Iterator.{YieldsList-from_range}
use Rattle.std.proofs.lemmas.Iterator.Consumers.{YieldsList-from_filter, count_from_yields_List}
use Rattle.std.proofs.lemmas.Iterator.Search.{all_from_yields_List, any_from_yields_List}
use Rattle.std.proofs.lemmas.List.FromFn.{get_or-range_with_len, length-range_with_len}
use Rattle.std.specs.Fn.{Called, CalledAt}
use Rattle.std.specs.Iterator.{Drains, YieldsThen}
use Rattle.std.specs.Iterator.Adapters.{filter_callee, filter_source, filter_steps}
use Rattle.std.specs.List.{FoldsTo, filter, list_all, list_any, range_with_len}
use Rattle.std.specs.Option.{MatchOption, unwrap_or}
use Rattle.std.specs.declared.iter.Filter.{Filter}
use Rattle.std.specs.declared.ops.Range.{Range}
use Rattle.laws.proofs.Looping.{all_same, any_same, first-here, sum_first, sum_same}
use Rattle.laws.specs.Choice.{bit, both, either}
use Rattle.laws.specs.Loop.{all_below, any_below, count_below, first_below, sum_below}
use Rattle.laws.specs.Row.{filled, place_filled}

-- ---- the first place apart

both-more : (a b c : Bool) → both (both a b) c ≡ both a (both b c)
both-more true b c = refl
both-more false b c = refl

either-last : (a b c : Bool) → either (either a b) c ≡ either a (either b c)
either-last true b c = refl
either-last false b c = refl

all_first : (p : ℕ → Bool) (n : ℕ) → all_below p (suc n) ≡ both (p 0) (all_below (λ (k : ℕ). p (suc k)) n)
unfolding all_below
all_first p zero = both-true (p 0)
  where
    both-true : (b : Bool) → b ≡ both b true
    both-true true = refl
    both-true false = refl
all_first p (suc n) = ap (λ (b : Bool). both b (p (suc n))) (all_first p n) ∙ both-more (p 0) (all_below (λ (k : ℕ). p (suc k)) n) (p (suc n))

any_first : (p : ℕ → Bool) (n : ℕ) → any_below p (suc n) ≡ either (p 0) (any_below (λ (k : ℕ). p (suc k)) n)
unfolding any_below
any_first p zero = either-false (p 0)
  where
    either-false : (b : Bool) → b ≡ either b false
    either-false true = refl
    either-false false = refl
any_first p (suc n) = ap (λ (b : Bool). either b (p (suc n))) (any_first p n) ∙ either-last (p 0) (any_below (λ (k : ℕ). p (suc k)) n) (p (suc n))

-- ---- a range that begins at a

all-from : (p : ℕ → Bool) (a n : ℕ) → list_all p (range_with_len a n) ≡ all_below (λ (k : ℕ). p (a + k)) n
unfolding all_below
all-from p a zero = refl
all-from p a (suc n) =
    let here : p a ≡ p (a + 0) = let e : a ≡ a + 0 = omega arith in ap p e in
    let rest : list_all p (range_with_len (a + 1) n) ≡ all_below (λ (k : ℕ). p (a + suc k)) n
    = all-from p (a + 1) n ∙ all_same (λ (k : ℕ). p ((a + 1) + k)) (λ (k : ℕ). p (a + suc k)) n (λ k l. let e : (a + 1) + k ≡ a + suc k = omega arith in ap p e) in
    ap (λ (b : Bool). both b (list_all p (range_with_len (a + 1) n))) here ∙ ap (λ (b : Bool). both (p (a + 0)) b) rest ∙ sym (all_first (λ (k : ℕ). p (a + k)) n)

any-from : (p : ℕ → Bool) (a n : ℕ) → list_any p (range_with_len a n) ≡ any_below (λ (k : ℕ). p (a + k)) n
unfolding any_below
any-from p a zero = refl
any-from p a (suc n) =
    let here : p a ≡ p (a + 0) = let e : a ≡ a + 0 = omega arith in ap p e in
    let rest : list_any p (range_with_len (a + 1) n) ≡ any_below (λ (k : ℕ). p (a + suc k)) n
    = any-from p (a + 1) n ∙ any_same (λ (k : ℕ). p ((a + 1) + k)) (λ (k : ℕ). p (a + suc k)) n (λ k l. let e : (a + 1) + k ≡ a + suc k = omega arith in ap p e) in
    ap (λ (b : Bool). either b (list_any p (range_with_len (a + 1) n))) here ∙ ap (λ (b : Bool). either (p (a + 0)) b) rest ∙ sym (any_first (λ (k : ℕ). p (a + k)) n)

-- ---- a range that begins at 0

pub all-asked : (p : ℕ → Bool) (n : ℕ) → list_all p (range_with_len 0 n) ≡ all_below p n
all-asked p n = all-from p 0 n ∙ all_same _ p n (λ k l. let e : 0 + k ≡ k = omega arith in ap p e)

pub any-asked : (p : ℕ → Bool) (n : ℕ) → list_any p (range_with_len 0 n) ≡ any_below p n
any-asked p n = any-from p 0 n ∙ any_same _ p n (λ k l. let e : 0 + k ≡ k = omega arith in ap p e)

-- ---- what `(0..n).all` and `(0..n).any` answer, by their clause `ran`, where the closure computes the test p

module _ {F : Type 0} {g : Mut F (ℕ × Unit {0}) Bool} {n : ℕ} {u : Range ℕ} {f : F} {r : Bool} (p : ℕ → Bool) where
  pub all-ran :
      (xs : List ℕ) × (o : Option ℕ) × (j : F) × YieldsThen nat_range_steps (record { start = 0; end = n }) xs o u × FoldsTo (λ q x h. Called g q (x, tt) true h) f xs j × MatchOption o (r ≡ true) (λ x. (r ≡ false) × ((h : F) × Called g j (x, tt) false h))
      → ((x : ℕ) (b : Bool) (q : F) → Called g f (x, tt) b q → (q ≡ f) × (b ≡ p x))
      → r ≡ all_below p n
  all-ran ran calls = all_from_yields_List p u f r ran (YieldsList-from_range 0 n n refl (omega arith)) calls ∙ all-asked p n

  pub any-ran :
      (xs : List ℕ) × (o : Option ℕ) × (j : F) × YieldsThen nat_range_steps (record { start = 0; end = n }) xs o u × FoldsTo (λ q x h. Called g q (x, tt) false h) f xs j × MatchOption o (r ≡ false) (λ x. (r ≡ true) × ((h : F) × Called g j (x, tt) true h))
      → ((x : ℕ) (b : Bool) (q : F) → Called g f (x, tt) b q → (q ≡ f) × (b ≡ p x))
      → r ≡ any_below p n
  any-ran ran calls = any_from_yields_List p u f r ran (YieldsList-from_range 0 n n refl (omega arith)) calls ∙ any-asked p n

-- ---- the first number

-- with none below i that passes
first_at : (p : ℕ → Bool) (i : ℕ) → ((k : ℕ) → k < i → p k ≡ false) → first_below p i ≡ i
unfolding first_below
first_at p zero h = refl
first_at p (suc i) h =
    let e : first_below p i ≡ i = first_at p i (λ k m. h k (omega arith)) in
    rw (e, le-ltb i i (omega arith), h i (omega arith))

-- what `find` tells of the first number below n that passes: there is none, or it is this one
pub first_found : (p : ℕ → Bool) (n : ℕ) (r : Option ℕ) → MatchOption r ((k : ℕ) → 0 ≤ k → k < n → p k ≡ false) (λ i. (0 ≤ i) × (i < n) × (p i ≡ true) × ((k : ℕ) → 0 ≤ k → k < i → p k ≡ false)) → MatchOption r (first_below p n ≡ n) (λ k. (k < n) × (first_below p n ≡ k))
first_found p n None h = first_at p n (λ k l. h k (omega arith) l)
first_found p n (Some i) h = (h.1, first-here p n i (first_at p i (λ k l. h.3 k (omega arith) l)) h.2 h.1)

-- the first number below n that passes, or n
pub found_first : (p : ℕ → Bool) (n : ℕ) (r : Option ℕ) → MatchOption r ((k : ℕ) → 0 ≤ k → k < n → p k ≡ false) (λ i. (0 ≤ i) × (i < n) × (p i ≡ true) × ((k : ℕ) → 0 ≤ k → k < i → p k ≡ false)) → unwrap_or r n ≡ first_below p n
found_first p n None h = sym (first_found p n None h)
found_first p n (Some i) h = sym (first_found p n (Some i) h).1

-- ---- a row

-- the first element of a list apart
list-more : {A : Type 0} (p : A → Bool) (x : A) (l : List A) → list_all p (x ∷ l) ≡ both (p x) (list_all p l)
list-more p x l = go (p x) refl
  where
    go : (b : Bool) → p x ≡ b → list_all p (x ∷ l) ≡ both b (list_all p l)
    go true e = rw e
    go false e = rw e

-- the elements of a list, each tested
all_list : {A : Type 0} (p : A → Bool) (d : A) (l : List A) → list_all p l ≡ all_below (λ (k : ℕ). p (get_or l k d)) (length l)
unfolding all_below
all_list p d [] = refl
all_list p d (x ∷ l) = list-more p x l ∙ ap (both (p x)) (all_list p d l) ∙ sym (all_first (λ (k : ℕ). p (get_or (x ∷ l) k d)) (length l))

-- a call of `all` over the numbers below n, with a closure that computes p
pub all_in : {F : Type 0} {g : Mut F (ℕ × Unit {0}) Bool} {s : Range ℕ} (p : ℕ → Bool) (n : ℕ) (u : Range ℕ) (f : F) (r : Bool) → (xs : List ℕ) × (o : Option ℕ) × (j : F) × YieldsThen nat_range_steps s xs o u × FoldsTo (λ p x q. Called g p (x, tt) true q) f xs j × MatchOption o (r ≡ true) (λ x. (r ≡ false) × ((h : F) × Called g j (x, tt) false h)) → s ≡ record { start = 0; end = n } → ((x : ℕ) (b : Bool) (q : F) → Called g f (x, tt) b q → (q ≡ f) × (b ≡ p x)) → r ≡ all_below p n
all_in p n u f r ran e closure = all_from_yields_List p u f r ran (YieldsList-from_range 0 n n e (omega arith)) closure ∙ all-asked p n

ltb-suc : (k n : ℕ) → ltb (suc k) (suc n) ≡ ltb k n
ltb-suc k n = go (dec_lt k n)
  where
    go : Dec (k < n) → ltb (suc k) (suc n) ≡ ltb k n
    go (yes h) = rw (lt-ltb k n h, lt-ltb (suc k) (suc n) (omega arith))
    go (no h) = rw (le-ltb k n (omega arith), le-ltb (suc k) (suc n) (omega arith))

-- a row whose first n places are in use, split behind them
row_split : {A : Type 0} (p q : A → Bool) (d : A) (n : ℕ) (l : List A) → both (list_all p (take n l)) (list_all q (drop n l)) ≡ all_below (place_filled p q d n l) (length l)
unfolding all_below place_filled
row_split p q d zero l = all_list q d l ∙ all_same _ _ (length l) (λ k b. rw (le-ltb k 0 (omega arith)))
row_split p q d (suc n) [] = all_list p d []
row_split p q d (suc n) (x ∷ l) =
    let first : place_filled p q d (suc n) (x ∷ l) 0 ≡ p x = rw (lt-ltb 0 (suc n) (omega arith)) in
    let rest : all_below (λ (k : ℕ). place_filled p q d (suc n) (x ∷ l) (suc k)) (length l) ≡ all_below (place_filled p q d n l) (length l) = all_same _ _ (length l) (λ k b. rw (ltb-suc k n)) in
    ap (λ (b : Bool). both b (list_all q (drop n l))) (list-more p x (take n l))
    ∙ both-more (p x) _ _
    ∙ ap (both (p x)) (row_split p q d n l ∙ sym rest)
    ∙ ap (λ (b : Bool). both b (all_below (λ (k : ℕ). place_filled p q d (suc n) (x ∷ l) (suc k)) (length l))) (sym first)
    ∙ sym (all_first (place_filled p q d (suc n) (x ∷ l)) (length l))

-- the same in a row of m places
pub row_filled : {A : Type 0} (p q : A → Bool) (d : A) (m n : ℕ) (l : List A) → length l ≡ m → both (list_all p (take n l)) (list_all q (drop n l)) ≡ filled p q d m n l
unfolding filled
row_filled p q d m n l e =
    row_split p q d n l ∙ ap (all_below (place_filled p q d n l)) e ∙ rw (eq-eqb (length l) m e)

-- the elements of a list that pass, counted
count_list : {A : Type 0} (p : A → Bool) (d : A) (l : List A) → length (filter p l) ≡ count_below (λ (k : ℕ). p (get_or l k d)) (length l)
unfolding sum_below
count_list p d [] = refl
count_list p d (x ∷ l) = go (p x) refl (count_list p d l)
  where
    go : (b : Bool) → p x ≡ b → length (filter p l) ≡ count_below (λ (k : ℕ). p (get_or l k d)) (length l) → length (filter p (x ∷ l)) ≡ count_below (λ (k : ℕ). p (get_or (x ∷ l) k d)) (suc (length l))
    go true e r = rw e (omega (arith, r, sum_first (λ (k : ℕ). bit (p (get_or (x ∷ l) k d))) (length l), ap bit e))
    go false e r = rw e (omega (arith, r, sum_first (λ (k : ℕ). bit (p (get_or (x ∷ l) k d))) (length l), ap bit e))

-- the numbers below n that pass, counted
count_numbers : (p : ℕ → Bool) (n : ℕ) → length (filter p (range_with_len 0 n)) ≡ count_below p n
count_numbers p n =
    count_list p 0 (range_with_len 0 n)
    ∙ ap (count_below (λ (k : ℕ). p (get_or (range_with_len 0 n) k 0))) (length-range_with_len 0 n)
    ∙ sum_same _ _ n (λ k b. ap (λ (i : ℕ). bit (p i)) (get_or-range_with_len 0 n k 0 b ∙ omega arith))

-- a call of `count` over the numbers below n that pass a closure which computes p
pub count_in : {F : Type 0} {g : Mut F (Bor ℕ × Unit {0}) Bool} (p : ℕ → Bool) (n : ℕ) {f : F} (s : Filter (Range ℕ) F) (r : ℕ) → (xs : List ℕ) × Drains (filter_steps nat_range_steps g) s xs × (r ≡ length xs) → filter_source s ≡ record { start = 0; end = n } → filter_callee s ≡ f → ((x : ℕ) (b : Bool) (q : F) → CalledAt g f x b q → (q ≡ f) × (b ≡ p x)) → r ≡ count_below p n
count_in p n s r ran source callee closure =
    count_from_yields_List s r ran (YieldsList-from_filter _ p (YieldsList-from_range 0 n n source (omega arith)) callee closure) ∙ count_numbers p n
