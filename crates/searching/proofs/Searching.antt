-- The search, one turn at a time: what chooser and stepper pass over.
-- Assumes nothing.
use Prim.Native.Nat.{ℕ, zero, suc, ◌+◌, ◌-◌, ◌≤◌, ◌<◌}
use mathlib.Core.List.{List, [], ◌∷◌, ◌++◌, map}
use mathlib.Core.Path.{◌≡◌, refl, sym, ap, ◌∙◌}
use native.Mathlib.Omega.{arith}
use lib.ListN.{length, get_or, drop, length-map, drop_of_length-le}
use Rattle.laws.specs.Choice.{both}
use Rattle.faces.specs.Types.{Value, Step, Answer, Taken, Refused as Barred, Config, State, Stepped}
use Rattle.effects.specs.Step.{possible_of, inner_of}
use Rattle.gaps.specs.declared.Choices.{Choices}
use Rattle.gaps.specs.Orders.{passed_over, behind, sequences}
use Rattle.gaps.specs.Gaps.{choices_in, is_taken, fills}
use Rattle.gaps.proofs.Ordered.{passed-hit, passed-miss, passed-front, passed-behind, passed_none, passed-same, passed-map, behind-drop}
use Rattle.gaps.proofs.Members.{length-choices}
use Rattle.gaps.proofs.Same.{answered-is}
use Rattle.searching.specs.Search.{count_in, Counted, choice_at, size_of}
use Rattle.searching.proofs.Counting.{choice-is, size_is}

-- what is passed over of some sequences
abbrev pub Passed : Config → State → Step → List (List Step) → ℕ
Passed cfg st s l = passed_over (fills (inner_of cfg) cfg st s) l

-- the sequences that begin with the k-th choice or a later one, and go on with n others
abbrev pub Behind : Choices → ℕ → ℕ → List (List Step)
Behind all n k = behind (drop k (choices_in all)) (sequences (choices_in all) n)

-- ---- no choice at all

module _ (cfg : Config) (st : State) (s : Step) (xs : List Step) {r : Stepped} (q : r ≡ inner_of cfg st s) where
  pub none-taken : (v : Value) → r.answer ≡ Taken v → Passed cfg st s (sequences xs 0) ≡ 0
  unfolding sequences fills
  none-taken v e = passed-hit (fills (inner_of cfg) cfg st s) [] [] (ap (λ (x : Stepped). is_taken x.answer) (sym q) ∙ ap is_taken e)

  pub none-barred : (k : ℕ) → r.answer ≡ Barred k → Passed cfg st s (sequences xs 0) ≡ 1
  unfolding sequences fills passed_over
  none-barred k e = passed-miss (fills (inner_of cfg) cfg st s) [] [] (ap (λ (x : Stepped). is_taken x.answer) (sym q) ∙ ap is_taken e)

-- ---- one choice, and what stands behind it

module _ (cfg : Config) (st : State) (s x : Step) (ls : List (List Step)) where
  -- the test of a sequence that begins with x
  one_more : (q : List Step) → fills (inner_of cfg) cfg st s (x ∷ q) ≡ both (is_taken (possible_of cfg st x).answer) (fills (inner_of cfg) cfg (possible_of cfg st x).state s q)
  unfolding fills
  one_more q = ap (λ (r : Stepped). both (is_taken r.answer) (fills (inner_of cfg) cfg r.state s q)) (answered-is cfg st x)

  block-is : Passed cfg st s (map (λ (q : List Step). x ∷ q) ls) ≡ passed_over (λ (q : List Step). both (is_taken (possible_of cfg st x).answer) (fills (inner_of cfg) cfg (possible_of cfg st x).state s q)) ls
  block-is = passed-map (fills (inner_of cfg) cfg st s) (λ (q : List Step). x ∷ q) ls ∙ passed-same _ _ ls one_more

  block-barred : (k : ℕ) → (possible_of cfg st x).answer ≡ Barred k → Passed cfg st s (map (λ (q : List Step). x ∷ q) ls) ≡ length ls
  block-barred k e =
      block-is ∙ passed_none _ ls (λ q. ap (λ (a : Answer). both (is_taken a) (fills (inner_of cfg) cfg (possible_of cfg st x).state s q)) e)

  block-taken : (v : Value) → (possible_of cfg st x).answer ≡ Taken v → Passed cfg st s (map (λ (q : List Step). x ∷ q) ls) ≡ Passed cfg (possible_of cfg st x).state s ls
  block-taken v e =
      block-is ∙ passed-same _ _ ls (λ q. ap (λ (a : Answer). both (is_taken a) (fills (inner_of cfg) cfg (possible_of cfg st x).state s q)) e)

-- ---- the choices that are left

pub left-none : (cfg : Config) (st : State) (s : Step) (all : Choices) (n left : ℕ) → left ≡ 0 → Passed cfg st s (Behind all n (count_in all - left)) ≡ 0
unfolding behind passed_over
left-none cfg st s all n left e =
    let h : length (choices_in all) ≤ count_in all - left = omega (arith, length-choices all) in
    ap (λ (l : List Step). Passed cfg st s (behind l (sequences (choices_in all) n))) (drop_of_length-le (choices_in all) h)

-- all choices are left
pub left-all : (all : Choices) (n : ℕ) {k : ℕ} → k ≡ count_in all → (n ≡ 0 → ⊥) → Behind all (n - 1) (count_in all - k) ≡ sequences (choices_in all) n
unfolding sequences
left-all all zero e h = absurd (h refl)
left-all all (suc n) {k} e h =
    let z : count_in all - k ≡ 0 = omega arith in
    let m : suc n - 1 ≡ n = omega arith in
    rw (z, m)

pub size-rests : (all : Choices) (n : ℕ) → n ≤ 3 → length (sequences (choices_in all) n) ≡ size_of (count_in all) n
size-rests all n h = size_is (choices_in all) n h ∙ ap (λ (k : ℕ). size_of k n) (length-choices all)

module _ (cfg : Config) (st : State) (s : Step) (all : Choices) (n left : ℕ) {k : ℕ} {x : Step} {r : Stepped}
    (counted : Counted all k) (some : left ≡ 0 → ⊥) (few : left ≤ count_in all) (short : n ≤ 2)
    (is : x ≡ choice_at all (k - left)) (stepped : r ≡ possible_of cfg st x) where
  -- the first of them, with all that stands behind it, and the others
  split : Behind all n (count_in all - left) ≡ map (λ (q : List Step). x ∷ q) (sequences (choices_in all) n) ++ Behind all n (count_in all - (left - 1))
  split =
      let e : suc (count_in all - left) ≡ count_in all - (left - 1) = omega (arith, some) in
      let c : x ≡ get_or (choices_in all) (count_in all - left) x = is ∙ ap (λ (m : ℕ). choice_at all (m - left)) counted.is ∙ choice-is all (count_in all - left) x counted.spawns counted.timeouts counted.ticks (omega (arith, some)) in
      behind-drop (choices_in all) (sequences (choices_in all) n) (count_in all - left) x (omega (arith, some, length-choices all))
      ∙ rw (← c, e)

  size-block : length (map (λ (q : List Step). x ∷ q) (sequences (choices_in all) n)) ≡ size_of (count_in all) n
  size-block = length-map (sequences (choices_in all) n) (λ (q : List Step). x ∷ q) ∙ size-rests all n (omega arith)

  -- all that begins with the choice is passed over
  over : size_of (count_in all) n ≤ Passed cfg st s (map (λ (q : List Step). x ∷ q) (sequences (choices_in all) n))
      → Passed cfg st s (Behind all n (count_in all - left)) ≡ size_of (count_in all) n + Passed cfg st s (Behind all n (count_in all - (left - 1)))
  over h =
      ap (Passed cfg st s) split
      ∙ passed-behind (fills (inner_of cfg) cfg st s) (map (λ (q : List Step). x ∷ q) (sequences (choices_in all) n)) (Behind all n (count_in all - (left - 1))) (omega (arith, h, size-block))
      ∙ omega (arith, size-block)

  -- the choice is refused
  pub barred : (k : ℕ) → r.answer ≡ Barred k → Passed cfg st s (Behind all n (count_in all - left)) ≡ size_of (count_in all) n + Passed cfg st s (Behind all n (count_in all - (left - 1)))
  barred k e =
      over (omega (arith, block-barred cfg st s x (sequences (choices_in all) n) k (ap (λ (y : Stepped). y.answer) (sym stepped) ∙ e), size-rests all n (omega arith)))

  module _ {p : ℕ} (v : Value) (e : r.answer ≡ Taken v) (found : p ≡ Passed cfg r.state s (sequences (choices_in all) n)) where
    begins : Passed cfg st s (map (λ (q : List Step). x ∷ q) (sequences (choices_in all) n)) ≡ p
    begins =
        block-taken cfg st s x (sequences (choices_in all) n) v (ap (λ (y : Stepped). y.answer) (sym stepped) ∙ e)
        ∙ ap (λ (y : Stepped). Passed cfg y.state s (sequences (choices_in all) n)) (sym stepped) ∙ sym found

    -- it is taken, and a fill begins with it
    pub hit : p < size_of (count_in all) n → Passed cfg st s (Behind all n (count_in all - left)) ≡ p
    hit h =
        ap (Passed cfg st s) split
        ∙ passed-front (fills (inner_of cfg) cfg st s) (map (λ (q : List Step). x ∷ q) (sequences (choices_in all) n)) (Behind all n (count_in all - (left - 1))) (omega (arith, h, begins, size-block))
        ∙ begins

    -- or none does
    pub missed : size_of (count_in all) n ≤ p → Passed cfg st s (Behind all n (count_in all - left)) ≡ size_of (count_in all) n + Passed cfg st s (Behind all n (count_in all - (left - 1)))
    missed h = over (omega (arith, h, begins))
