-- The report as notes: their bytes are the report, and each says what is so.
-- Assumes nothing.
use Prim.Native.Nat.{ℕ, ◌+◌, ◌<◌}
use mathlib.Core.Bool.{Bool, true, false}
use mathlib.Core.List.{List, [], ◌∷◌, ◌++◌, append_assoc, Memᴰ}
use mathlib.Core.Logic.{◌⊎◌, inl, inr, ⊎_elim}
use mathlib.Core.Path.{◌≡◌, refl, sym, ap, ap₂, subst, ◌∙◌}
use native.Mathlib.Omega.{arith}
use lib.Dec.{eqb}
use lib.ListN.{length, length-append}
use borrow.Author.Tests.{eqb-false}
use Rattle.laws.specs.Choice.{pick}
use Rattle.faces.specs.Types.{Step}
use Rattle.gaps.specs.Gaps.{Turn, turn_steps, mended_steps}
use Rattle.gaps.specs.Report.{step_note, gap_note, step_notes, turn_notes, report_from, note_count}
use Rattle.gaps.proofs.Reported.{mended-append}
use Rattle.mended.specs.Faithful.{Insertable, Note, inserts, mends, note_bytes, notes_bytes, Stands, True}

-- ---- the notes of turns

unfoldable pub insert_notes : ℕ → List Step → List Note
insert_notes n [] = []
insert_notes n (x ∷ xs) = inserts (n + 1) x ∷ insert_notes (n + 1) xs

abbrev pub notes_of_turn : ℕ → Turn → List Note
notes_of_turn n t = pick (eqb t.passed 0) [] (insert_notes n t.inserted ++ (mends (n + length t.inserted + 1) t.passed ∷ []))

unfoldable pub notes_from : ℕ → List Turn → List Note
notes_from n [] = []
notes_from n (t ∷ ts) = notes_of_turn n t ++ notes_from (n + length (turn_steps t)) ts

-- ---- their bytes

bytes-append : (xs ys : List Note) → notes_bytes (xs ++ ys) ≡ notes_bytes xs ++ notes_bytes ys
unfolding notes_bytes
bytes-append [] ys = refl
bytes-append (x ∷ xs) ys = ap (λ (l : List ℕ). note_bytes x ++ l) (bytes-append xs ys) ∙ sym (append_assoc (note_bytes x) (notes_bytes xs) (notes_bytes ys))

insert-bytes : (n : ℕ) (xs : List Step) → step_notes n xs ≡ notes_bytes (insert_notes n xs)
unfolding step_notes notes_bytes insert_notes
insert-bytes n [] = refl
insert-bytes n (x ∷ xs) = ap (λ (l : List ℕ). step_note (n + 1) x ++ l) (insert-bytes (n + 1) xs)

turn-bytes : (n : ℕ) (t : Turn) → turn_notes n t ≡ notes_bytes (notes_of_turn n t)
unfolding turn_notes notes_bytes
turn-bytes n t = go (eqb t.passed 0)
  where
    g : Note
    g = mends (n + length t.inserted + 1) t.passed

    go : (b : Bool) → pick b [] (step_notes n t.inserted ++ gap_note (n + length t.inserted + 1) t.passed) ≡ notes_bytes (pick b [] (insert_notes n t.inserted ++ (mends (n + length t.inserted + 1) t.passed ∷ [])))
    go true = refl
    go false =
        ap (λ (l : List ℕ). l ++ gap_note (n + length t.inserted + 1) t.passed) (insert-bytes n t.inserted)
        ∙ sym (bytes-append (insert_notes n t.inserted) (mends (n + length t.inserted + 1) t.passed ∷ []))

pub report-bytes : (n : ℕ) (ts : List Turn) → report_from n ts ≡ notes_bytes (notes_from n ts)
unfolding report_from notes_from notes_bytes
report-bytes n [] = refl
report-bytes n (t ∷ ts) =
    ap₂ (λ (x y : List ℕ). x ++ y) (turn-bytes n t) (report-bytes (n + length (turn_steps t)) ts)
    ∙ sym (bytes-append (notes_of_turn n t) (notes_from (n + length (turn_steps t)) ts))

-- ---- how many

insert-count : (n : ℕ) (xs : List Step) → length (insert_notes n xs) ≡ length xs
unfolding insert_notes
insert-count n [] = refl
insert-count n (x ∷ xs) = let r = insert-count (n + 1) xs in omega arith

turn-count : (n : ℕ) (t : Turn) → pick (eqb t.passed 0) 0 (length t.inserted + 1) ≡ length (notes_of_turn n t)
turn-count n t = go (eqb t.passed 0)
  where
    go : (b : Bool) → pick b 0 (length t.inserted + 1) ≡ length (pick b [] (insert_notes n t.inserted ++ (mends (n + length t.inserted + 1) t.passed ∷ [])))
    go true = refl
    go false = omega (arith, length-append (insert_notes n t.inserted) (mends (n + length t.inserted + 1) t.passed ∷ []), insert-count n t.inserted)

pub report-count : (n : ℕ) (ts : List Turn) → note_count ts ≡ length (notes_from n ts)
unfolding note_count notes_from
report-count n [] = refl
report-count n (t ∷ ts) =
    ap₂ ◌+◌ (turn-count n t) (report-count (n + length (turn_steps t)) ts) ∙ sym (length-append (notes_of_turn n t) (notes_from (n + length (turn_steps t)) ts))

-- ---- what they say

-- an inserted step stands where its note says
insert-told : (front xs back : List Step) (y : Note) → Memᴰ y (insert_notes (length front) xs) → (place : ℕ) × (x : Step) × (y ≡ inserts place x) × Memᴰ x xs × Stands (front ++ (xs ++ back)) place x
unfolding insert_notes
insert-told front [] back y m = absurd (mathlib.Core.List.Memᴰ.not-nil m)
insert-told front (x ∷ xs) back y m = go (mathlib.Core.List.Memᴰ.cases_cons m) (λ k. insert-told (front ++ (x ∷ [])) xs back y k)
  where
    next : length front + 1 ≡ length (front ++ (x ∷ []))
    next = sym (length-append front (x ∷ []))

    go : (y ≡ inserts (length front + 1) x) ⊎ Memᴰ y (insert_notes (length front + 1) xs)
        → (Memᴰ y (insert_notes (length (front ++ (x ∷ []))) xs) → (place : ℕ) × (z : Step) × (y ≡ inserts place z) × Memᴰ z xs × Stands ((front ++ (x ∷ [])) ++ (xs ++ back)) place z)
        → (place : ℕ) × (z : Step) × (y ≡ inserts place z) × Memᴰ z (x ∷ xs) × Stands (front ++ (x ∷ (xs ++ back))) place z
    go (inl e) rest = (length front + 1, x, e, mathlib.Core.List.Memᴰ.head refl, (front, xs ++ back, refl, refl))
    go (inr k) rest =
        let r = rest (subst (λ (n : ℕ). Memᴰ y (insert_notes n xs)) next k) in
        (r.0, r.1, r.2, mathlib.Core.List.Memᴰ.tail r.3, subst (λ (l : List Step). Stands l r.0 r.1) (append_assoc front (x ∷ []) (xs ++ back)) r.4)

-- the mended steps around a turn
around : (full before after : List Turn) (t : Turn) → full ≡ before ++ (t ∷ after) → mended_steps full ≡ mended_steps before ++ (t.inserted ++ (t.kept ∷ mended_steps after))
unfolding mended_steps
around full before after t e =
    ap mended_steps e ∙ mended-append before (t ∷ after)
    ∙ ap (λ (l : List Step). mended_steps before ++ l) (append_assoc t.inserted (t.kept ∷ []) (mended_steps after))

pub around-length : (before : List Turn) (t : Turn) → length (mended_steps (before ++ (t ∷ []))) ≡ length (mended_steps before) + length (turn_steps t)
unfolding mended_steps
around-length before t =
    ap length (mended-append before (t ∷ [])) ∙ length-append (mended_steps before) (turn_steps t ++ [])
    ∙ omega (arith, length-append (turn_steps t) [])

module _ (full : List Turn) (fine : (t : Turn) → Memᴰ t full → (x : Step) → Memᴰ x t.inserted → Insertable x) where
  insert-true : (before after : List Turn) (t : Turn) → full ≡ before ++ (t ∷ after) → (y : Note) → Memᴰ y (insert_notes (length (mended_steps before)) t.inserted) → True full y
  insert-true before after t e y m =
      let r = insert-told (mended_steps before) t.inserted (t.kept ∷ mended_steps after) y m in
      let here : Memᴰ t full = subst (λ (l : List Turn). Memᴰ t l) (sym e) (mathlib.Core.List.Memᴰ.append_right before (mathlib.Core.List.Memᴰ.head refl)) in
      subst (True full) (sym r.2) (subst (λ (l : List Step). Stands l r.0 r.1) (sym (around full before after t e)) r.4, fine t here r.1 r.3)

  gap-true : (before after : List Turn) (t : Turn) → full ≡ before ++ (t ∷ after) → 0 < t.passed → True full (mends (length (mended_steps before) + length t.inserted + 1) t.passed)
  gap-true before after t e l = (
    before,
    t,
    after,
    e,
    refl,
    l,
    refl,
    (
      mended_steps before ++ t.inserted,
      mended_steps after,
      around full before after t e ∙ sym (append_assoc (mended_steps before) t.inserted (t.kept ∷ mended_steps after)),
      ap (λ (n : ℕ). n + 1) (sym (length-append (mended_steps before) t.inserted)),
    ),
  )

  turn-true : (before after : List Turn) (t : Turn) → full ≡ before ++ (t ∷ after) → (y : Note) → Memᴰ y (notes_of_turn (length (mended_steps before)) t) → True full y
  turn-true before after t e y = go (eqb t.passed 0) refl
    where
      n : ℕ
      n = length (mended_steps before)

      go : (b : Bool) → eqb t.passed 0 ≡ b → Memᴰ y (pick b [] (insert_notes (length (mended_steps before)) t.inserted ++ (mends (length (mended_steps before) + length t.inserted + 1) t.passed ∷ []))) → True full y
      go true q m = absurd (mathlib.Core.List.Memᴰ.not-nil m)
      go false q m =
          ⊎_elim (λ (k : Memᴰ y (insert_notes (length (mended_steps before)) t.inserted)). insert-true before after t e y k)
          (λ (k : Memᴰ y (mends (length (mended_steps before) + length t.inserted + 1) t.passed ∷ [])). subst (True full) (sym (mathlib.Core.List.Memᴰ.eq_of_singleton k)) (gap-true before after t e (omega (arith, eqb-false t.passed 0 q))))
          (mathlib.Core.List.Memᴰ.append_cases (insert_notes (length (mended_steps before)) t.inserted) m)

  pub notes-true : (before ts : List Turn) → full ≡ before ++ ts → (y : Note) → Memᴰ y (notes_from (length (mended_steps before)) ts) → True full y
  unfolding notes_from
  notes-true before [] e y m = absurd (mathlib.Core.List.Memᴰ.not-nil m)
  notes-true before (t ∷ ts) e y m =
      ⊎_elim (λ (k : Memᴰ y (notes_of_turn (length (mended_steps before)) t)). turn-true before ts t e y k)
      (λ (k : Memᴰ y (notes_from (length (mended_steps before) + length (turn_steps t)) ts)).
      notes-true (before ++ (t ∷ [])) ts (e ∙ sym (append_assoc before (t ∷ []) ts)) y (subst (λ (n : ℕ). Memᴰ y (notes_from n ts)) (sym (around-length before t)) k))
      (mathlib.Core.List.Memᴰ.append_cases (notes_of_turn (length (mended_steps before)) t) m)
