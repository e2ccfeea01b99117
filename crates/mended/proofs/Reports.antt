-- The mended steps without those that the report names as inserted are the recorded ones; and the report whole.
-- Assumes nothing.
use Prim.Native.Nat.{ℕ, suc, ◌+◌, ◌≤◌, ◌<◌}
use mathlib.Core.Bool.{Bool, true, false}
use mathlib.Core.List.{List, [], ◌∷◌, ◌++◌, map, append_assoc, append-nil, Memᴰ}
use mathlib.Core.Logic.{⊎_elim}
use mathlib.Core.Path.{◌≡◌, refl, sym, ap, subst, ◌∙◌}
use native.Mathlib.Decide.{dec_lt}
use native.Mathlib.Omega.{arith}
use lib.Dec.{eqb}
use lib.ListN.{length, length-append}
use borrow.Author.Tests.{eq-eqb, ne_eqb, eqb-true}
use Rattle.laws.specs.Choice.{pick}
use Rattle.laws.proofs.Choosing.{either-more}
use Rattle.faces.specs.Types.{Step}
use Rattle.effects.specs.Step.{step_of}
use Rattle.gaps.specs.Gaps.{Turn, turn_steps, turns_of, mended_steps}
use Rattle.mended.specs.Faithful.{Note, inserts, mends, insert_places, is_one, without, ReportIsTrue}
use Rattle.mended.proofs.First.{first-is-inserted}
use Rattle.mended.proofs.Faithful.{inserted-are-few}
use Rattle.mended.proofs.Notes.{insert_notes, notes_of_turn, notes_from, report-bytes, report-count, notes-true}

-- ---- a number of a list

is-one : (m : ℕ) (ps : List ℕ) → Memᴰ m ps → is_one m ps ≡ true
unfolding is_one
is-one m [] k = absurd (mathlib.Core.List.Memᴰ.not-nil k)
is-one m (p ∷ ps) (mathlib.Core.List.Memᴰ.head e) = rw (eq-eqb p m (sym e))
is-one m (p ∷ ps) (mathlib.Core.List.Memᴰ.tail k) = either-more (eqb p m) (is_one m ps) (is-one m ps k)

is_none : (m : ℕ) (ps : List ℕ) → ((p : ℕ) → Memᴰ p ps → p ≡ m → ⊥) → is_one m ps ≡ false
unfolding is_one
is_none m [] h = refl
is_none m (p ∷ ps) h = rw (ne_eqb p m (h p (mathlib.Core.List.Memᴰ.head refl))) (is_none m ps (λ q k. h q (mathlib.Core.List.Memᴰ.tail k)))

-- ---- steps left out, and kept

without-skip : (ps : List ℕ) (n : ℕ) (xs ys : List Step) → ((m : ℕ) → n < m → m ≤ n + length xs → is_one m ps ≡ true) → without ps n (xs ++ ys) ≡ without ps (n + length xs) ys
unfolding without
without-skip ps n [] ys h = let z : n ≡ n + 0 = omega arith in ap (λ (k : ℕ). without ps k ys) z
without-skip ps n (x ∷ xs) ys h =
    let z : n + 1 + length xs ≡ n + suc (length xs) = omega arith in
    rw (h (n + 1) (omega arith) (omega arith)) (without-skip ps (n + 1) xs ys (λ m l g. h m (omega arith) (omega arith)) ∙ ap (λ (k : ℕ). without ps k ys) z)

without-keep : (ps : List ℕ) (n : ℕ) (x : Step) (ys : List Step) → is_one (n + 1) ps ≡ false → without ps n (x ∷ ys) ≡ x ∷ without ps (n + 1) ys
unfolding without
without-keep ps n x ys h = rw h

-- ---- the places that notes name

places-append : (xs ys : List Note) → insert_places (xs ++ ys) ≡ insert_places xs ++ insert_places ys
unfolding insert_places
places-append [] ys = refl
places-append (inserts place x ∷ xs) ys = ap (λ (l : List ℕ). place ∷ l) (places-append xs ys)
places-append (mends place k ∷ xs) ys = places-append xs ys

insert-range : (n : ℕ) (xs : List Step) (p : ℕ) → Memᴰ p (insert_places (insert_notes n xs)) → (n < p) × (p ≤ n + length xs)
unfolding insert_places insert_notes
insert-range n [] p m = absurd (mathlib.Core.List.Memᴰ.not-nil m)
insert-range n (x ∷ xs) p m =
    ⊎_elim (λ (e : p ≡ n + 1). (omega arith, omega arith)) (λ (k : Memᴰ p (insert_places (insert_notes (n + 1) xs))). let r = insert-range (n + 1) xs p k in let a = r.0 in let b = r.1 in (omega arith, omega arith))
    (mathlib.Core.List.Memᴰ.cases_cons m)

insert_all : (n : ℕ) (xs : List Step) (m : ℕ) → n < m → m ≤ n + length xs → Memᴰ m (insert_places (insert_notes n xs))
unfolding insert_places insert_notes
insert_all n [] m l h = absurd (omega arith)
insert_all n (x ∷ xs) m l h = go (dec_lt (n + 1) m) (λ a b. insert_all (n + 1) xs m a b)
  where
    go : Dec (n + 1 < m) → (n + 1 < m → m ≤ n + 1 + length xs → Memᴰ m (insert_places (insert_notes (n + 1) xs))) → Memᴰ m ((n + 1) ∷ insert_places (insert_notes (n + 1) xs))
    go (yes d) r = mathlib.Core.List.Memᴰ.tail (r d (omega arith))
    go (no d) r = let e : m ≡ n + 1 = omega arith in mathlib.Core.List.Memᴰ.head e

-- of one turn: exactly the places of what it inserted
abbrev Bare : Turn → Type 0
Bare t = t.passed ≡ 0 → t.inserted ≡ []

turn-places : (n : ℕ) (t : Turn) → Bare t → insert_places (notes_of_turn n t) ≡ insert_places (insert_notes n t.inserted)
unfolding insert_places insert_notes
turn-places n t b = go (eqb t.passed 0) refl
  where
    go : (x : Bool) → eqb t.passed 0 ≡ x → insert_places (pick x [] (insert_notes n t.inserted ++ (mends (n + length t.inserted + 1) t.passed ∷ []))) ≡ insert_places (insert_notes n t.inserted)
    go true e = sym (ap (λ (l : List Step). insert_places (insert_notes n l)) (b (eqb-true t.passed 0 e)))
    go false e = places-append (insert_notes n t.inserted) (mends (n + length t.inserted + 1) t.passed ∷ []) ∙ append-nil (insert_places (insert_notes n t.inserted))

module _ (n : ℕ) (t : Turn) (ts : List Turn) where
  turn-length : length (turn_steps t) ≡ length t.inserted + 1
  turn-length = length-append t.inserted (t.kept ∷ [])

  places-cons : Bare t → insert_places (notes_from n (t ∷ ts)) ≡ insert_places (insert_notes n t.inserted) ++ insert_places (notes_from (n + length (turn_steps t)) ts)
  unfolding notes_from
  places-cons b =
      places-append (notes_of_turn n t) (notes_from (n + length (turn_steps t)) ts)
      ∙ ap (λ (l : List ℕ). l ++ insert_places (notes_from (n + length (turn_steps t)) ts)) (turn-places n t b)

abbrev AllBare : List Turn → Type 0
AllBare ts = (t : Turn) → Memᴰ t ts → Bare t

-- notes behind n steps name places behind them
later : (n : ℕ) (ts : List Turn) → AllBare ts → (p : ℕ) → Memᴰ p (insert_places (notes_from n ts)) → n < p
unfolding notes_from insert_places
later n [] b p m = absurd (mathlib.Core.List.Memᴰ.not-nil m)
later n (t ∷ ts) b p m =
    ⊎_elim (λ (k : Memᴰ p (insert_places (insert_notes n t.inserted))). (insert-range n t.inserted p k).0)
    (λ (k : Memᴰ p (insert_places (notes_from (n + length (turn_steps t)) ts))). let r = later (n + length (turn_steps t)) ts (λ x j. b x (mathlib.Core.List.Memᴰ.tail j)) p k in omega arith)
    (mathlib.Core.List.Memᴰ.append_cases (insert_places (insert_notes n t.inserted)) (subst (λ (l : List ℕ). Memᴰ p l) (places-cons n t ts (b t (mathlib.Core.List.Memᴰ.head refl))) m))

-- ---- what is left

module _ (ps : List ℕ) where
  pub left : (pre : List ℕ) (n : ℕ) (ts : List Turn) → AllBare ts → ((p : ℕ) → Memᴰ p pre → p ≤ n) → ps ≡ pre ++ insert_places (notes_from n ts) → without ps n (mended_steps ts) ≡ map (λ (t : Turn). t.kept) ts
  unfolding mended_steps without
  left pre n [] b low e = refl
  left pre n (t ∷ ts) b low e =
      let xs = t.inserted in
      let here = insert_places (insert_notes n xs) in
      let next = n + length (turn_steps t) in
      let more = insert_places (notes_from next ts) in
      let l : length (turn_steps t) ≡ length xs + 1 = turn-length n t ts in
      let split : ps ≡ pre ++ (here ++ more) = e ∙ ap (λ (q : List ℕ). pre ++ q) (places-cons n t ts (b t (mathlib.Core.List.Memᴰ.head refl))) in
      let rest : AllBare ts = λ x j. b x (mathlib.Core.List.Memᴰ.tail j) in
      let skip : (m : ℕ) → n < m → m ≤ n + length xs → is_one m ps ≡ true = λ m g h. is-one m ps (subst (λ (q : List ℕ). Memᴰ m q) (sym split) (mathlib.Core.List.Memᴰ.append_right pre (mathlib.Core.List.Memᴰ.append_left more (insert_all n xs m g h)))) in
      let none : is_one (n + length xs + 1) ps ≡ false =
      is_none (n + length xs + 1) ps
      (λ p m q. ⊎_elim (λ (k : Memᴰ p pre). omega (arith, low p k, q))
      (λ (k : Memᴰ p (here ++ more)). ⊎_elim (λ (j : Memᴰ p here). omega (arith, (insert-range n xs p j).1, q)) (λ (j : Memᴰ p more). omega (arith, later next ts rest p j, q)) (mathlib.Core.List.Memᴰ.append_cases here k))
      (mathlib.Core.List.Memᴰ.append_cases pre (subst (λ (y : List ℕ). Memᴰ p y) split m))) in
      let at : n + length xs + 1 ≡ next = omega arith in
      ap (without ps n) (append_assoc xs (t.kept ∷ []) (mended_steps ts))
      ∙ without-skip ps n xs (t.kept ∷ mended_steps ts) skip
      ∙ without-keep ps (n + length xs) t.kept (mended_steps ts) none
      ∙ ap (λ (k : ℕ). t.kept ∷ without ps k (mended_steps ts)) at
      ∙ ap (λ (q : List Step). t.kept ∷ q)
      (left (pre ++ here) next ts rest
      (λ p m. ⊎_elim (λ (k : Memᴰ p pre). omega (arith, low p k)) (λ (k : Memᴰ p here). omega (arith, (insert-range n xs p k).1)) (mathlib.Core.List.Memᴰ.append_cases pre m))
      (split ∙ sym (append_assoc pre here more)))

-- ---- every gap has its note

gap-noted : (n : ℕ) (before after : List Turn) (t : Turn) → 0 < t.passed → Memᴰ (mends (n + length (mended_steps before) + length t.inserted + 1) t.passed) (notes_from n (before ++ (t ∷ after)))
unfolding notes_from mended_steps
gap-noted n [] after t l =
    let z : n + 0 + length t.inserted + 1 ≡ n + length t.inserted + 1 = omega arith in
    rw (ne_eqb t.passed 0 (λ e. omega (arith, e, l)))
    (mathlib.Core.List.Memᴰ.append_left (notes_from (n + length (turn_steps t)) after) (mathlib.Core.List.Memᴰ.append_right (insert_notes n t.inserted) (mathlib.Core.List.Memᴰ.head (ap (λ (k : ℕ). mends k t.passed) z))))
gap-noted n (b ∷ bs) after t l =
    let z : n + length (turn_steps b ++ mended_steps bs) + length t.inserted + 1 ≡ n + length (turn_steps b) + length (mended_steps bs) + length t.inserted + 1 = omega (arith, length-append (turn_steps b) (mended_steps bs)) in
    mathlib.Core.List.Memᴰ.append_right (notes_of_turn n b)
    (subst (λ (k : ℕ). Memᴰ (mends k t.passed) (notes_from (n + length (turn_steps b)) (bs ++ (t ∷ after)))) (sym z) (gap-noted (n + length (turn_steps b)) bs after t l))

-- ---- the report

-- a member stands between what is before it and what is behind
split-at-member : {A : Type 0} (l : List A) {x : A} → Memᴰ x l → (before : List A) × (after : List A) × (l ≡ before ++ (x ∷ after))
split-at-member [] m = absurd (mathlib.Core.List.Memᴰ.not-nil m)
split-at-member {A} (y ∷ l) {x} (mathlib.Core.List.Memᴰ.head e) = ([], l, ap (λ (z : A). z ∷ l) (sym e))
split-at-member {A} (y ∷ l) (mathlib.Core.List.Memᴰ.tail m) = let r = split-at-member l m in (y ∷ r.0, r.1, ap (λ (q : List A). y ∷ q) r.2)

pub report-is-true : ReportIsTrue
unfolding mended_steps
report-is-true cfg st rs =
    let ts = turns_of (step_of cfg) cfg st rs in
    let bare : AllBare ts = λ t m. let s = split-at-member ts m in (first-is-inserted cfg st rs s.0 s.1 t s.2).2.bare in
    record {
      notes = notes_from 0 ts;
      bytes = report-bytes 0 ts;
      count = report-count 0 ts;
      each = notes-true ts (λ t m. (inserted-are-few cfg st rs t m).1) [] ts refl;
      gaps = λ before after t e l. let z : 0 + length (mended_steps before) + length t.inserted + 1 ≡ length (mended_steps before) + length t.inserted + 1 = omega arith in
          subst (λ (k : ℕ). Memᴰ (mends k t.passed) (notes_from 0 ts)) z (subst (λ (q : List Turn). Memᴰ (mends (0 + length (mended_steps before) + length t.inserted + 1) t.passed) (notes_from 0 q)) (sym e) (gap-noted 0 before after t l));
      rest = left (insert_places (notes_from 0 ts)) [] 0 ts bare (λ p m. absurd (mathlib.Core.List.Memᴰ.not-nil m)) refl;
    }
