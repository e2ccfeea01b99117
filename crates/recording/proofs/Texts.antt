-- Whole texts, both ways: the text of steps reads as these steps, and a recording is the text of the steps that it reads as.
-- Assumes nothing.
use Prim.Native.Nat.{ℕ, zero, suc, ◌+◌, ◌<◌}
use mathlib.Core.Bool.{true}
use mathlib.Core.List.{List, [], ◌∷◌, ◌++◌}
use mathlib.Core.Path.{◌≡◌, refl, sym, ap, subst, ◌∙◌}
use native.Mathlib.Nat.{not-suc-le-zero}
use native.Mathlib.Omega.{arith}
use lib.ListN.{length, drop, length-drop}
use lib.Seq.{get_or-drop}
use Rattle.numbers.specs.Tags.{step_size}
use Rattle.laws.proofs.Choosing.{clash}
use Rattle.values.specs.declared.Step.{Step}
use Rattle.wire.proofs.Laws.{Bytes}
use Rattle.wire.specs.Bytes.{end_bytes}
use Rattle.recording.specs.Recording.{field_of, bytes_of}
use Rattle.recording.specs.Whole.{Whole, on_field, whole_from, whole_of, steps_in, is_end, is_sound, text_of, EachRecorded}
use Rattle.recording.specs.declared.Field.{Field}
use Rattle.recording.specs.declared.Field.TheVariants.{Step as IsStep, End, Refused}
use Rattle.recording.proofs.OneField.{step-told, step-reads, end_reads, step-bytes, end-bytes, step-recorded}

-- ---- reading goes field by field, whatever the bound on the fields

-- a step is taken off the front
pub step-shorter : (t : List ℕ) (s : Step) (n : ℕ) → field_of t ≡ IsStep s n → length (drop n t) + step_size ≡ length t
step-shorter t s n e = let f = step-told t s n e in omega (arith, length-drop n t)

-- induction over a text, field by field
module _ (P : List ℕ → Type 0)
    (at-step : (t : List ℕ) (s : Step) (n : ℕ) → field_of t ≡ IsStep s n → P (drop n t) → P t)
    (at-end : (t : List ℕ) → field_of t ≡ End → P t)
    (at-refused : (t : List ℕ) (r p : ℕ) → field_of t ≡ Refused p r → P t) where
  by_length : (k : ℕ) (t : List ℕ) → length t < k → P t
  by_length zero t l = absurd (not-suc-le-zero l)
  by_length (suc k) t l = go (field_of t) refl (λ u m. by_length k u m)
    where
      go : (f : Field) → field_of t ≡ f → ((u : List ℕ) → length u < k → P u) → P t
      go (IsStep s n) e rest = let m = step-shorter t s n e in at-step t s n e (rest (drop n t) (omega arith))
      go End e rest = at-end t e
      go (Refused p r) e rest = at-refused t r p e

  pub by-fields : (t : List ℕ) → P t
  by-fields t = by_length (suc (length t)) t (omega arith)

-- any two bounds above the length will do
abbrev BoundFree : List ℕ → Type 0
BoundFree t = (k j : ℕ) → length t < k → length t < j → whole_from k t ≡ whole_from j t

one-turn : (t : List ℕ) (k j : ℕ) (f : Field) → field_of t ≡ f → on_field f (λ (n : ℕ). whole_from k (drop n t)) ≡ on_field f (λ (n : ℕ). whole_from j (drop n t))
    → whole_from (suc k) t ≡ whole_from (suc j) t
unfolding whole_from
one-turn t k j f e h =
    ap (λ (x : Field). on_field x (λ (n : ℕ). whole_from k (drop n t))) e ∙ h ∙ ap (λ (x : Field). on_field x (λ (n : ℕ). whole_from j (drop n t))) (sym e)

free_step : (t : List ℕ) (s : Step) (n : ℕ) → field_of t ≡ IsStep s n → BoundFree (drop n t) → BoundFree t
free_step t s n e rest zero j h g = absurd (not-suc-le-zero h)
free_step t s n e rest (suc k) zero h g = absurd (not-suc-le-zero g)
free_step t s n e rest (suc k) (suc j) h g =
    let l = step-shorter t s n e in
    one-turn t k j (IsStep s n) e (ap (λ (w : Whole). record { steps = s ∷ w.steps; last = w.last }) (rest k j (omega arith) (omega arith)))

free-last : (t : List ℕ) (f : Field) → field_of t ≡ f → ((k j : ℕ) → on_field f (λ (n : ℕ). whole_from k (drop n t)) ≡ on_field f (λ (n : ℕ). whole_from j (drop n t))) → BoundFree t
free-last t f e same zero j h g = absurd (not-suc-le-zero h)
free-last t f e same (suc k) zero h g = absurd (not-suc-le-zero g)
free-last t f e same (suc k) (suc j) h g = one-turn t k j f e (same k j)

bound-free : (t : List ℕ) → BoundFree t
bound-free t = by-fields BoundFree free_step (λ u e. free-last u End e (λ k j. refl)) (λ u r p e. free-last u (Refused p r) e (λ k j. refl)) t

pub whole-step : (t : List ℕ) (s : Step) (n : ℕ) → field_of t ≡ IsStep s n
    → whole_of t ≡ record { steps = s ∷ (whole_of (drop n t)).steps; last = (whole_of (drop n t)).last }
unfolding whole_of whole_from
whole-step t s n e =
    let l = step-shorter t s n e in
    let free : (k j : ℕ) → length (drop n t) < k → length (drop n t) < j → whole_from k (drop n t) ≡ whole_from j (drop n t) = bound-free (drop n t) in
    ap (λ (f : Field). on_field f (λ (m : ℕ). whole_from (length t) (drop m t))) e
    ∙ ap (λ (w : Whole). record { steps = s ∷ w.steps; last = w.last }) (free (length t) (suc (length (drop n t))) (omega arith) (omega arith))

pub whole-end : (t : List ℕ) → field_of t ≡ End → whole_of t ≡ record { steps = []; last = End }
unfolding whole_of whole_from
whole-end t e = ap (λ (f : Field). on_field f (λ (m : ℕ). whole_from (length t) (drop m t))) e

pub whole-refused : (t : List ℕ) (r p : ℕ) → field_of t ≡ Refused p r → whole_of t ≡ record { steps = []; last = Refused p r }
unfolding whole_of whole_from
whole-refused t r p e = ap (λ (f : Field). on_field f (λ (m : ℕ). whole_from (length t) (drop m t))) e

-- ---- written, then read

pub text-reads : (ss : List Step) → EachRecorded ss → whole_of (text_of ss) ≡ record { steps = ss; last = End }
unfolding text_of
text-reads [] h = whole-end end_bytes end_reads
text-reads (s ∷ ss) h =
    whole-step (bytes_of s ++ text_of ss) s step_size (step-reads s (text_of ss) h.0)
    ∙ ap (λ (w : Whole). record { steps = s ∷ w.steps; last = w.last }) (text-reads ss h.1)

-- ---- read, then written

pub bytes_drop : (t : List ℕ) (n : ℕ) → Bytes t → Bytes (drop n t)
bytes_drop t n h i = rw get_or-drop (h (n + i))

abbrev Again : List ℕ → Type 0
Again t = Bytes t → is_sound t ≡ true → text_of (steps_in t) ≡ t

again-step : (t : List ℕ) (s : Step) (n : ℕ) → field_of t ≡ IsStep s n → Again (drop n t) → Again t
unfolding text_of
again-step t s n e rest h sound =
    let w = whole-step t s n e in
    let z = (step-told t s n e).size in
    let r : text_of (steps_in (drop n t)) ≡ drop n t = rest (bytes_drop t n h) (ap (λ (x : Whole). is_end x.last) (sym w) ∙ sound) in
    ap (λ (x : Whole). text_of x.steps) w ∙ ap (λ (x : List ℕ). bytes_of s ++ x) (r ∙ ap (λ (q : ℕ). drop q t) z) ∙ sym (step-bytes t s n h e)

again-end : (t : List ℕ) → field_of t ≡ End → Again t
unfolding text_of
again-end t e h sound = ap (λ (x : Whole). text_of x.steps) (whole-end t e) ∙ sym (end-bytes t e)

again-refused : (t : List ℕ) (r p : ℕ) → field_of t ≡ Refused p r → Again t
again-refused t r p e h sound = absurd (clash (is_sound t) sound (ap (λ (x : Whole). is_end x.last) (whole-refused t r p e)))

pub text-again : (t : List ℕ) → Bytes t → is_sound t ≡ true → text_of (steps_in t) ≡ t
text-again t = by-fields Again again-step again-end again-refused t

-- the steps that a text reads as can be held by a recording
pub steps-recorded : (t : List ℕ) → Bytes t → EachRecorded (steps_in t)
steps-recorded t =
    by-fields (λ u. Bytes u → EachRecorded (steps_in u))
    (λ u s n e rest h. subst (λ (w : Whole). EachRecorded w.steps) (sym (whole-step u s n e)) (step-recorded u s n h e, rest (bytes_drop u n h)))
    (λ u e h. subst (λ (w : Whole). EachRecorded w.steps) (sym (whole-end u e)) tt)
    (λ u r p e h. subst (λ (w : Whole). EachRecorded w.steps) (sym (whole-refused u r p e)) tt)
    t
