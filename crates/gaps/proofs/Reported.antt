-- How long texts, notes and reports are, and mended steps and a report with more turns.
-- Assumes nothing.
use Prim.Native.Nat.{ℕ, suc, ◌+◌, ◌*◌}
use mathlib.Core.Bool.{Bool, true, false}
use mathlib.Core.List.{List, [], ◌∷◌, ◌++◌, append_assoc, append-nil}
use mathlib.Core.Path.{◌≡◌, refl, sym, ap, ◌∙◌}
use native.Mathlib.Omega.{arith}
use lib.Dec.{eqb}
use lib.ListN.{length, length-append}
use Rattle.numbers.specs.Tags.{step_size, end_size}
use Rattle.laws.specs.Choice.{pick}
use Rattle.faces.specs.Types.{Step}
use Rattle.recording.specs.Recording.{bytes_of}
use Rattle.recording.specs.Whole.{text_of}
use Rattle.gaps.specs.Gaps.{Turn, turn_steps, mended_steps}
use Rattle.gaps.specs.Report.{note_size, step_note, gap_note, step_notes, turn_notes, report_from, note_count}

pub text-length : (ss : List Step) → length (text_of ss) ≡ length ss * step_size + end_size
unfolding text_of
text-length [] = omega arith
text-length (s ∷ ss) = length-append (bytes_of s) (text_of ss) ∙ omega (arith, text-length ss)

pub notes-length : (n : ℕ) (xs : List Step) → length (step_notes n xs) ≡ length xs * note_size
unfolding step_notes
notes-length n [] = omega arith
notes-length n (x ∷ xs) = omega (arith, notes-length (n + 1) xs)

pub report-length : (n : ℕ) (ts : List Turn) → length (report_from n ts) ≡ note_count ts * note_size
unfolding report_from note_count turn_notes
report-length n [] = omega arith
report-length n (t ∷ ts) = go (eqb t.passed 0) refl (report-length (n + length (turn_steps t)) ts)
  where
    go : (b : Bool) → eqb t.passed 0 ≡ b → length (report_from (n + length (turn_steps t)) ts) ≡ note_count ts * note_size
        → length (turn_notes n t ++ report_from (n + length (turn_steps t)) ts) ≡ (pick (eqb t.passed 0) 0 (length t.inserted + 1) + note_count ts) * note_size
    go true e r = rw e (r ∙ omega arith)
    go false e r =
        rw e
        (length-append (step_notes n t.inserted ++ gap_note (n + length t.inserted + 1) t.passed) (report_from (n + length (turn_steps t)) ts)
        ∙ omega (arith, length-append (step_notes n t.inserted) (gap_note (n + length t.inserted + 1) t.passed), notes-length n t.inserted))

-- one step more
pub notes-one : (n : ℕ) (xs : List Step) (x : Step) → step_notes n (xs ++ (x ∷ [])) ≡ step_notes n xs ++ step_note (n + length xs + 1) x
unfolding step_notes
notes-one n [] x = let z : n + 0 + 1 ≡ n + 1 = omega arith in append-nil (step_note (n + 1) x) ∙ ap (λ (k : ℕ). step_note k x) (sym z)
notes-one n (y ∷ xs) x =
    let z : n + 1 + length xs + 1 ≡ n + suc (length xs) + 1 = omega arith in
    ap (λ (l : List ℕ). step_note (n + 1) y ++ l) (notes-one (n + 1) xs x)
    ∙ sym (append_assoc (step_note (n + 1) y) (step_notes (n + 1) xs) (step_note (n + 1 + length xs + 1) x))
    ∙ ap (λ (k : ℕ). (step_note (n + 1) y ++ step_notes (n + 1) xs) ++ step_note k x) z

-- one turn more
pub mended-one : (ts : List Turn) (t : Turn) → mended_steps (ts ++ (t ∷ [])) ≡ mended_steps ts ++ turn_steps t
unfolding mended_steps
mended-one [] t = append-nil (turn_steps t)
mended-one (u ∷ ts) t = ap (λ (l : List Step). turn_steps u ++ l) (mended-one ts t) ∙ sym (append_assoc (turn_steps u) (mended_steps ts) (turn_steps t))

pub counted-one : (ts : List Turn) (t : Turn) → note_count (ts ++ (t ∷ [])) ≡ note_count ts + pick (eqb t.passed 0) 0 (length t.inserted + 1)
unfolding note_count
counted-one [] t = omega arith
counted-one (u ∷ ts) t = omega (arith, counted-one ts t)

pub report-one : (n : ℕ) (ts : List Turn) (t : Turn) → report_from n (ts ++ (t ∷ [])) ≡ report_from n ts ++ turn_notes (n + length (mended_steps ts)) t
unfolding report_from mended_steps
report-one n [] t = let z : n ≡ n + 0 = omega arith in append-nil (turn_notes n t) ∙ ap (λ (k : ℕ). turn_notes k t) z
report-one n (u ∷ ts) t =
    let z : n + length (turn_steps u) + length (mended_steps ts) ≡ n + length (turn_steps u ++ mended_steps ts) = omega (arith, length-append (turn_steps u) (mended_steps ts)) in
    ap (λ (l : List ℕ). turn_notes n u ++ l) (report-one (n + length (turn_steps u)) ts t)
    ∙ sym (append_assoc (turn_notes n u) (report_from (n + length (turn_steps u)) ts) (turn_notes (n + length (turn_steps u) + length (mended_steps ts)) t))
    ∙ ap (λ (k : ℕ). (turn_notes n u ++ report_from (n + length (turn_steps u)) ts) ++ turn_notes k t) z

-- more turns
pub mended-append : (ts us : List Turn) → mended_steps (ts ++ us) ≡ mended_steps ts ++ mended_steps us
unfolding mended_steps
mended-append [] us = refl
mended-append (t ∷ ts) us = ap (λ (l : List Step). turn_steps t ++ l) (mended-append ts us) ∙ sym (append_assoc (turn_steps t) (mended_steps ts) (mended_steps us))

pub counted-append : (ts us : List Turn) → note_count (ts ++ us) ≡ note_count ts + note_count us
unfolding note_count
counted-append [] us = omega arith
counted-append (t ∷ ts) us = omega (arith, counted-append ts us)
