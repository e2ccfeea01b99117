-- How many choices and sequences there are, and a choice by its number.
-- Assumes nothing.
use Prim.Native.Nat.{ℕ, zero, suc, ◌+◌, ◌-◌, ◌*◌, ◌%◌, ◌≤◌, ◌<◌}
use mathlib.Core.List.{List, [], ◌∷◌, ◌++◌}
use mathlib.Core.Path.{◌≡◌, refl, sym, ap, ◌∙◌}
use mathlib.Core.Logic.{⊎_elim}
use native.Mathlib.Nat.{mul-le-mul, not-suc-le-zero, eq-or-lt_of_le, le_of_suc-le-suc}
use native.Mathlib.Decide.{dec_lt}
use native.Mathlib.Omega.{arith}
use lib.ListN.{length, get_or, get_or-append}
use lib.Seq.{get_or-append-add, get_or-append_seam}
use borrow.Author.Tests.{lt-ltb, le-ltb}
use Rattle.numbers.specs.Codes.{spawn_code, timeout_code, tick_code}
use Rattle.faces.specs.Types.{Step}
use Rattle.gaps.specs.declared.Choices.{Choices}
use Rattle.gaps.specs.Orders.{each, sequences}
use Rattle.gaps.specs.Gaps.{choice, choices_in}
use Rattle.gaps.proofs.Ordered.{length-each, length-one, length_two, length_three}
use Rattle.searching.specs.Search.{count_in, choice_at, size_of}

-- ---- products of at most 765 choices

pub square-most : (k : ℕ) → k ≤ 765 → k * k ≤ 585225
square-most k h = mul-le-mul h h

pub cube-most : (k : ℕ) → k ≤ 765 → k * (k * k) ≤ 447697125
cube-most k h = mul-le-mul h (square-most k h)

-- what is below a product of k is so because k is not 0
pub some_of : (k m i : ℕ) → i < k * m → 0 < k
some_of zero m i h = absurd (omega (arith, h))
some_of (suc k) m i h = omega arith

-- ---- the list of choices

at_each : {A : Type 0} (f : ℕ → A) (n k : ℕ) (d : A) → k < n → get_or (each f n) k d ≡ f k
unfolding each
at_each f zero k d h = absurd (not-suc-le-zero h)
at_each {A = A} f (suc n) k d h =
    ⊎_elim
    (λ e. ap (λ (j : ℕ). get_or (each f n ++ (f n ∷ [])) j d) (e ∙ sym (length-each f n)) ∙ get_or-append_seam (each f n) (f n) [] d ∙ ap f (sym e))
    (λ m. get_or-append (each f n) (f n ∷ []) d k (omega (arith, length-each f n)) ∙ at_each f n k d m)
    (eq-or-lt_of_le (le_of_suc-le-suc h))

-- past the first of two lists
pub at_second : {A : Type 0} (l m : List A) (k n : ℕ) (d : A) → length l ≡ n → n ≤ k → get_or (l ++ m) k d ≡ get_or m (k - n) d
at_second l m k n d e h =
    let q : k ≡ length l + (k - n) = omega arith in
    ap (λ (j : ℕ). get_or (l ++ m) j d) q ∙ get_or-append-add l m (k - n) d

small : (k : ℕ) → k < 256 → k % 256 ≡ k
small k h = omega arith

-- the choice with a number is the one that stands there
pub choice-is : (n : Choices) (k : ℕ) (d : Step) → n.spawns < 256 → n.timeouts < 256 → n.ticks < 256 → k < count_in n → choice_at n k ≡ get_or (choices_in n) k d
unfolding choice_at choices_in
choice-is n k d ha hb hc h = go (dec_lt k n.spawns) (dec_lt k (n.spawns + n.timeouts))
  where
    l₁ : List Step
    l₁ = each (choice spawn_code) n.spawns

    l₂ : List Step
    l₂ = each (choice timeout_code) n.timeouts

    l₃ : List Step
    l₃ = each (choice tick_code) n.ticks

    go : Dec (k < n.spawns) → Dec (k < n.spawns + n.timeouts) → choice_at n k ≡ get_or (l₁ ++ (l₂ ++ l₃)) k d
    go (yes p) q =
        rw (lt-ltb _ _ p, small k (omega arith))
        (sym (get_or-append l₁ (l₂ ++ l₃) d k (omega (arith, length-each (choice spawn_code) n.spawns)) ∙ at_each (choice spawn_code) n.spawns k d p))
    go (no p) (yes q) =
        let a : n.spawns ≤ k = omega (arith, p) in
        rw (le-ltb _ _ a, lt-ltb _ _ q, small (k - n.spawns) (omega arith))
        (sym (at_second l₁ (l₂ ++ l₃) k n.spawns d (length-each (choice spawn_code) n.spawns) a
        ∙ get_or-append l₂ l₃ d (k - n.spawns) (omega (arith, length-each (choice timeout_code) n.timeouts))
        ∙ at_each (choice timeout_code) n.timeouts (k - n.spawns) d (omega arith)))
    go (no p) (no q) =
        let a : n.spawns ≤ k = omega (arith, p) in
        let b : n.spawns + n.timeouts ≤ k = omega (arith, q) in
        let e : k - n.spawns - n.timeouts ≡ k - (n.spawns + n.timeouts) = omega arith in
        rw (le-ltb _ _ a, le-ltb _ _ b, small (k - (n.spawns + n.timeouts)) (omega arith))
        (sym (at_second l₁ (l₂ ++ l₃) k n.spawns d (length-each (choice spawn_code) n.spawns) a
        ∙ at_second l₂ l₃ (k - n.spawns) n.timeouts d (length-each (choice timeout_code) n.timeouts) (omega arith)
        ∙ ap (λ (j : ℕ). get_or l₃ j d) e
        ∙ at_each (choice tick_code) n.ticks (k - (n.spawns + n.timeouts)) d (omega arith)))

-- ---- how many sequences

pub size_is : {A : Type 0} (xs : List A) (m : ℕ) → m ≤ 3 → length (sequences xs m) ≡ size_of (length xs) m
unfolding size_of sequences
size_is xs zero h = refl
size_is xs (suc zero) h = length-one xs
size_is xs (suc (suc zero)) h = length_two xs
size_is xs (suc (suc (suc zero))) h = length_three xs
size_is xs (suc (suc (suc (suc m)))) h = absurd (omega arith)
