-- The old form that fields of the short form stand for: field by field it is the same recording, damage and all; and both round trips.
-- Assumes nothing.
use Prim.Native.Nat.{ℕ, zero, suc, ◌+◌, ◌<◌, ◌≤◌}
use mathlib.Core.Bool.{Bool, true, false}
use mathlib.Core.List.{List, [], ◌∷◌, ◌++◌}
use mathlib.Core.Path.{◌≡◌, refl, sym, ap, subst, ◌∙◌}
use native.Mathlib.Nat.{not-suc-le-zero}
use native.Mathlib.Omega.{arith}
use lib.ListN.{length, drop, length-drop}
use lib.Seq.{drop_at, drop-drop}
use Rattle.numbers.specs.Tags.{step_size}
use Rattle.laws.proofs.Choosing.{clash}
use Rattle.values.specs.declared.Step.{Step}
use Rattle.wire.proofs.Laws.{Bytes}
use Rattle.wire.specs.Bytes.{end_bytes}
use Rattle.recording.specs.Recording.{field_of, bytes_of, end_in}
use Rattle.recording.specs.Whole.{Whole, whole_of, steps_in, is_end, is_sound, text_of, EachRecorded}
use Rattle.recording.specs.declared.Field.{Field}
use Rattle.recording.specs.declared.Field.TheVariants.{Step as IsStep, End, Refused}
use Rattle.recording.proofs.OneField.{step-told, step-reads, end_reads, refused-18}
use Rattle.recording.proofs.Texts.{whole-step, whole-end, whole-refused, bytes_drop}
use Rattle.forms.specs.Short.{short_bytes, short_field_of}
use Rattle.moving.specs.Old.{tail_bytes, on_short, long_from, long_of, field_as, as_old}
use Rattle.moving.specs.Moves.{shorts_of, EachShort}
use Rattle.forms.proofs.Told.{short-told, short-recorded, short_has, short-end, short-end-reads, short-refused-18}
use Rattle.forms.proofs.OneShort.{short-reads, short-bytes}

-- ---- field by field, whatever the bound on the fields

-- a step is taken off the front
pub short-shorter : (t : List ℕ) (s : Step) (n : ℕ) → short_field_of t ≡ IsStep s n → length (drop n t) < length t
short-shorter t s n e = let f = short-told t s n e in omega (arith, length-drop n t, f.long, f.least)

-- induction over a text, field by field
module _ (P : List ℕ → Type 0)
    (at-step : (t : List ℕ) (s : Step) (n : ℕ) → short_field_of t ≡ IsStep s n → P (drop n t) → P t)
    (at-end : (t : List ℕ) → short_field_of t ≡ End → P t)
    (at-refused : (t : List ℕ) (r p : ℕ) → short_field_of t ≡ Refused p r → P t) where
  by_length : (k : ℕ) (t : List ℕ) → length t < k → P t
  by_length zero t l = absurd (not-suc-le-zero l)
  by_length (suc k) t l = go (short_field_of t) refl (λ u m. by_length k u m)
    where
      go : (f : Field) → short_field_of t ≡ f → ((u : List ℕ) → length u < k → P u) → P t
      go (IsStep s n) e rest = let m = short-shorter t s n e in at-step t s n e (rest (drop n t) (omega arith))
      go End e rest = at-end t e
      go (Refused p r) e rest = at-refused t r p e

  pub by-shorts : (t : List ℕ) → P t
  by-shorts t = by_length (suc (length t)) t (omega arith)

-- any two bounds above the length will do
abbrev BoundFree : List ℕ → Type 0
BoundFree t = (k j : ℕ) → length t < k → length t < j → long_from k t ≡ long_from j t

one-turn : (t : List ℕ) (k j : ℕ) (f : Field) → short_field_of t ≡ f → on_short f (λ (n : ℕ). long_from k (drop n t)) ≡ on_short f (λ (n : ℕ). long_from j (drop n t))
    → long_from (suc k) t ≡ long_from (suc j) t
unfolding long_from
one-turn t k j f e h =
    ap (λ (x : Field). on_short x (λ (n : ℕ). long_from k (drop n t))) e ∙ h ∙ ap (λ (x : Field). on_short x (λ (n : ℕ). long_from j (drop n t))) (sym e)

free_step : (t : List ℕ) (s : Step) (n : ℕ) → short_field_of t ≡ IsStep s n → BoundFree (drop n t) → BoundFree t
free_step t s n e rest zero j h g = absurd (not-suc-le-zero h)
free_step t s n e rest (suc k) zero h g = absurd (not-suc-le-zero g)
free_step t s n e rest (suc k) (suc j) h g =
    let l = short-shorter t s n e in
    one-turn t k j (IsStep s n) e (ap (λ (u : List ℕ). bytes_of s ++ u) (rest k j (omega arith) (omega arith)))

free-last : (t : List ℕ) (f : Field) → short_field_of t ≡ f → ((k j : ℕ) → on_short f (λ (n : ℕ). long_from k (drop n t)) ≡ on_short f (λ (n : ℕ). long_from j (drop n t))) → BoundFree t
free-last t f e same zero j h g = absurd (not-suc-le-zero h)
free-last t f e same (suc k) zero h g = absurd (not-suc-le-zero g)
free-last t f e same (suc k) (suc j) h g = one-turn t k j f e (same k j)

bound-free : (t : List ℕ) → BoundFree t
bound-free t = by-shorts BoundFree free_step (λ u e. free-last u End e (λ k j. refl)) (λ u r p e. free-last u (Refused p r) e (λ k j. refl)) t

-- a step stands for its old field, and the rest for what it stands for
pub long-step : (t : List ℕ) (s : Step) (n : ℕ) → short_field_of t ≡ IsStep s n → long_of t ≡ bytes_of s ++ long_of (drop n t)
unfolding long_of long_from
long-step t s n e =
    let l = short-shorter t s n e in
    let free : (k j : ℕ) → length (drop n t) < k → length (drop n t) < j → long_from k (drop n t) ≡ long_from j (drop n t) = bound-free (drop n t) in
    ap (λ (f : Field). on_short f (λ (m : ℕ). long_from (length t) (drop m t))) e
    ∙ ap (λ (u : List ℕ). bytes_of s ++ u) (free (length t) (suc (length (drop n t))) (omega arith) (omega arith))

-- the end stands for the end
pub long-end : (t : List ℕ) → short_field_of t ≡ End → long_of t ≡ end_bytes
unfolding long_of long_from
long-end t e = ap (λ (f : Field). on_short f (λ (m : ℕ). long_from (length t) (drop m t))) e

-- damage stands for damage
pub long-refused : (t : List ℕ) (r p : ℕ) → short_field_of t ≡ Refused p r → long_of t ≡ tail_bytes (Refused p r)
unfolding long_of long_from
long-refused t r p e = ap (λ (f : Field). on_short f (λ (m : ℕ). long_from (length t) (drop m t))) e

-- ---- the fields of the old form are those of the short one, but for their sizes

tail-reads : (p r : ℕ) → (r ≡ 18) × (p ≤ 1) → field_of (tail_bytes (Refused p r)) ≡ Refused p r
unfolding field_of end_in
tail-reads zero r h = ap (Refused 0) (sym h.0)
tail-reads (suc zero) r h = ap (Refused 1) (sym h.0)
tail-reads (suc (suc p)) r h = absurd (omega (arith, h.1))

pub step-stands : (t : List ℕ) (s : Step) (n : ℕ) → Bytes t → short_field_of t ≡ IsStep s n → (field_of (long_of t) ≡ IsStep s step_size) × (drop step_size (long_of t) ≡ long_of (drop n t))
step-stands t s n h e = (
  ap field_of (long-step t s n e) ∙ step-reads s (long_of (drop n t)) (short-recorded t s n h e),
  ap (drop step_size) (long-step t s n e) ∙ drop_at (bytes_of s) (long_of (drop n t)) step_size refl,
)

pub end-stands : (t : List ℕ) → short_field_of t ≡ End → field_of (long_of t) ≡ End
end-stands t e = ap field_of (long-end t e) ∙ end_reads

pub refused-stands : (t : List ℕ) (r p : ℕ) → short_field_of t ≡ Refused p r → field_of (long_of t) ≡ Refused p r
refused-stands t r p e = ap field_of (long-refused t r p e) ∙ tail-reads p r (short-refused-18 t r p e)

-- ---- as wholes

pub passed-step : (t : List ℕ) (s : Step) (n : ℕ) → Bytes t → short_field_of t ≡ IsStep s n
    → whole_of (long_of t) ≡ record { steps = s ∷ steps_in (long_of (drop n t)); last = (whole_of (long_of (drop n t))).last }
passed-step t s n h e =
    let q = step-stands t s n h e in
    whole-step (long_of t) s step_size q.0 ∙ ap (λ (u : List ℕ). record { steps = s ∷ steps_in u; last = (whole_of u).last }) q.1

pub passed-end : (t : List ℕ) → short_field_of t ≡ End → whole_of (long_of t) ≡ record { steps = []; last = End }
passed-end t e = whole-end (long_of t) (end-stands t e)

pub passed-refused : (t : List ℕ) (r p : ℕ) → short_field_of t ≡ Refused p r → whole_of (long_of t) ≡ record { steps = []; last = Refused p r }
passed-refused t r p e = whole-refused (long_of t) r p (refused-stands t r p e)

-- ---- written in the short form, then put into the old one

-- steps that a recording can hold and that have short forms
pub shorts-stand : (ss : List Step) → EachRecorded ss → EachShort ss → long_of (shorts_of ss) ≡ text_of ss
unfolding shorts_of text_of
shorts-stand [] h g = long-end end_bytes short-end-reads
shorts-stand (s ∷ ss) h g =
    long-step (short_bytes s ++ shorts_of ss) s (length (short_bytes s)) (short-reads s (shorts_of ss) h.0 g.0)
    ∙ ap (λ (u : List ℕ). bytes_of s ++ u) (ap long_of (drop_at (short_bytes s) (shorts_of ss) (length (short_bytes s)) refl) ∙ shorts-stand ss h.1 g.1)

-- ---- put into the old form, then written in the short one

abbrev Again : List ℕ → Type 0
Again t = Bytes t → is_sound (long_of t) ≡ true → shorts_of (steps_in (long_of t)) ≡ t

again-step : (t : List ℕ) (s : Step) (n : ℕ) → short_field_of t ≡ IsStep s n → Again (drop n t) → Again t
unfolding shorts_of
again-step t s n e rest h sound =
    let w = passed-step t s n h e in
    let r = rest (bytes_drop t n h) (ap (λ (x : Whole). is_end x.last) (sym w) ∙ sound) in
    ap (λ (x : Whole). shorts_of x.steps) w ∙ ap (λ (u : List ℕ). short_bytes s ++ u) r ∙ sym (short-bytes t s n h e).0

again-end : (t : List ℕ) → short_field_of t ≡ End → Again t
unfolding shorts_of
again-end t e h sound = ap (λ (x : Whole). shorts_of x.steps) (passed-end t e) ∙ sym (short-end t e)

again-refused : (t : List ℕ) (r p : ℕ) → short_field_of t ≡ Refused p r → Again t
again-refused t r p e h sound = absurd (clash (is_sound (long_of t)) sound (ap (λ (x : Whole). is_end x.last) (passed-refused t r p e)))

pub shorts-again : (t : List ℕ) → Bytes t → is_sound (long_of t) ≡ true → shorts_of (steps_in (long_of t)) ≡ t
shorts-again t = by-shorts Again again-step again-end again-refused t

-- every step that was read has a short form
pub steps-short : (t : List ℕ) → Bytes t → EachShort (steps_in (long_of t))
steps-short t =
    by-shorts (λ u. Bytes u → EachShort (steps_in (long_of u)))
    (λ u s n e rest h. subst (λ (w : Whole). EachShort w.steps) (sym (passed-step u s n h e)) (short_has u s n e, rest (bytes_drop u n h)))
    (λ u e h. subst (λ (w : Whole). EachShort w.steps) (sym (passed-end u e)) tt)
    (λ u r p e h. subst (λ (w : Whole). EachShort w.steps) (sym (passed-refused u r p e)) tt)
    t

-- and a recording can hold it
pub steps-long : (t : List ℕ) → Bytes t → EachRecorded (steps_in (long_of t))
steps-long t =
    by-shorts (λ u. Bytes u → EachRecorded (steps_in (long_of u)))
    (λ u s n e rest h. subst (λ (w : Whole). EachRecorded w.steps) (sym (passed-step u s n h e)) (short-recorded u s n h e, rest (bytes_drop u n h)))
    (λ u e h. subst (λ (w : Whole). EachRecorded w.steps) (sym (passed-end u e)) tt)
    (λ u r p e h. subst (λ (w : Whole). EachRecorded w.steps) (sym (passed-refused u r p e)) tt)
    t

-- ---- in either form

-- a step of a text in one of the forms is the same step in the old one, and the rest stands for the rest
pub as_step : (short : Bool) (t : List ℕ) (s : Step) (n : ℕ) → Bytes t → field_as short t ≡ IsStep s n
    → (field_of (as_old short t) ≡ IsStep s step_size) × (drop step_size (as_old short t) ≡ as_old short (drop n t)) × (n ≤ length t)
unfolding field_as as_old
as_step true t s n h e = let q = step-stands t s n h e in (q.0, q.1, (short-told t s n e).long)
as_step false t s n h e = let f = step-told t s n e in (e ∙ ap (IsStep s) f.size, ap (λ (k : ℕ). drop k t) (sym f.size), omega (arith, f.size, f.long))

-- so is the end
pub as-end : (short : Bool) (t : List ℕ) → field_as short t ≡ End → field_of (as_old short t) ≡ End
unfolding field_as as_old
as-end true t e = end-stands t e
as-end false t e = e

-- and damage
pub as-refused : (short : Bool) (t : List ℕ) (r p : ℕ) → field_as short t ≡ Refused p r → (field_of (as_old short t) ≡ Refused p r) × (p ≤ 1)
unfolding field_as as_old
as-refused true t r p e = (refused-stands t r p e, (short-refused-18 t r p e).1)
as-refused false t r p e = (e, (refused-18 t r p e).1)

-- the same at a place of a text
pub as-next : (short : Bool) (t : List ℕ) (at : ℕ) (s : Step) (n : ℕ) → at ≤ length t → Bytes t → field_as short (drop at t) ≡ IsStep s n
    → (field_of (as_old short (drop at t)) ≡ IsStep s step_size) × (drop step_size (as_old short (drop at t)) ≡ as_old short (drop (at + n) t)) × (at + n ≤ length t)
as-next short t at s n l h e =
    let q = as_step short (drop at t) s n (bytes_drop t at h) e in
    (q.0, q.1 ∙ ap (as_old short) (drop-drop n at t), omega (arith, q.2, length-drop at t, l))
