-- A text of either form and the recording in the old form that it stands for: which form it has, what it holds, and that it is the text of its steps.
-- Assumes nothing.
use Prim.Native.Nat.{ℕ, ◌+◌, ◌*◌, ◌≤◌}
use mathlib.Core.Bool.{Bool, true, false, not}
use mathlib.Core.List.{List, [], ◌∷◌, ◌++◌}
use mathlib.Core.Logic.{inl, inr}
use mathlib.Core.Path.{◌≡◌, refl, sym, ap, ◌∙◌, subst}
use native.Mathlib.Omega.{arith}
use borrow.Author.Tests.{eqb-true, le-leb}
use lib.Dec.{eqb, ltb, leb}
use lib.ListN.{length, drop, get_or, length-append}
use Rattle.forms.specs.Numbers.{edition_size}
use Rattle.laws.specs.Choice.{all_of}
use Rattle.laws.proofs.Choosing.{both_left, both_right, both-make, clash, pick-alike}
use Rattle.wire.proofs.Laws.{Bytes}
use Rattle.values.specs.declared.Step.{Step}
use Rattle.recording.specs.declared.Field.TheVariants.{Refused}
use Rattle.recording.specs.Recording.{field_of}
use Rattle.recording.specs.Whole.{Whole, whole_of, steps_in, is_end, is_sound, text_of, EachRecorded}
use Rattle.recording.proofs.Texts.{text-again, text-reads, steps-recorded, whole-refused, bytes_drop}
use Rattle.forms.specs.Short.{header_bytes, is_short, is_headed, is_misheaded, short_bytes}
use Rattle.forms.proofs.OneShort.{short-size}
use Rattle.moving.specs.Old.{long_of, old_of, steps_of}
use Rattle.moving.specs.Moves.{shorts_of, short_text_of, IsTextOf, EachShort}
use Rattle.moving.proofs.Standing.{shorts-stand, shorts-again, steps-short, steps-long}
use Rattle.moving.proofs.Both.{headed-is}

-- ---- the three cases of a text

-- no field: nothing is read of no bytes
none-field : field_of [] ≡ Refused 0 18
unfolding field_of
none-field = refl

none-whole : whole_of [] ≡ record { steps = []; last = Refused 0 18 }
none-whole = whole-refused [] 18 0 none-field

-- a text in the old form
pub old-is : (t : List ℕ) → is_short t ≡ false → old_of t ≡ t
unfolding old_of
old-is t e = rw e

-- a text in the short form
pub short-is : (t : List ℕ) → is_short t ≡ true → is_headed t ≡ true → old_of t ≡ long_of (drop edition_size t)
unfolding old_of
short-is t e h = rw (e, h)

-- a text with a bad header stands for no bytes
pub bad-is : (t : List ℕ) → is_misheaded t ≡ true → old_of t ≡ []
unfolding old_of is_misheaded
bad-is t e = rw (both_left (is_short t) (not (is_headed t)) e, bare (is_headed t) (both_right (is_short t) (not (is_headed t)) e))
  where
    bare : (b : Bool) → not b ≡ true → b ≡ false
    bare true q = absurd (clash true refl (sym q))
    bare false q = refl

pub bad-whole : (t : List ℕ) → is_misheaded t ≡ true → whole_of (old_of t) ≡ record { steps = []; last = Refused 0 18 }
bad-whole t e = ap whole_of (bad-is t e) ∙ none-whole

-- by the three
pub data Form (t : List ℕ) : Type 0 where
  old : is_short t ≡ false → is_misheaded t ≡ false → old_of t ≡ t → Form t
  short : is_short t ≡ true → is_headed t ≡ true → is_misheaded t ≡ false → old_of t ≡ long_of (drop edition_size t) → Form t
  bad : is_misheaded t ≡ true → Form t

pub form_of : (t : List ℕ) → Form t
unfolding is_misheaded
form_of t = go (is_short t) (is_headed t) refl refl
  where
    go : (a b : Bool) → is_short t ≡ a → is_headed t ≡ b → Form t
    go false b p q = old p (rw p) (old-is t p)
    go true true p q = short p q (rw (p, q)) (short-is t p q)
    go true false p q = bad (rw (p, q))

-- ---- the steps of a text

-- a text that holds a whole recording is the text of its steps, in its form
pub text-either : (t : List ℕ) → Bytes t → is_sound (old_of t) ≡ true → IsTextOf t (steps_of t)
text-either t h e = go (form_of t)
  where
    go : Form t → IsTextOf t (steps_of t)
    go (old p m q) = inl (rw q (sym (text-again t h (ap is_sound (sym q) ∙ e))))
    go (short p g m q) =
        let u : List ℕ = drop edition_size t in
        let again : shorts_of (steps_in (long_of u)) ≡ u = shorts-again u (bytes_drop t edition_size h) (ap is_sound (sym q) ∙ e) in
        inr (headed-is t (both-make (is_short t) (is_headed t) p g) ∙ ap (λ (l : List ℕ). header_bytes ++ l) (sym again) ∙ ap (λ (l : List ℕ). short_text_of (steps_in l)) (sym q))
    go (bad m) = absurd (clash (is_sound (old_of t)) e (ap (λ (w : Whole). is_end w.last) (bad-whole t m)))

-- each of them can be recorded
pub each-recorded : (t : List ℕ) → Bytes t → EachRecorded (steps_of t)
each-recorded t h = go (form_of t)
  where
    go : Form t → EachRecorded (steps_of t)
    go (old p m q) = rw q (steps-recorded t h)
    go (short p g m q) = rw q (steps-long (drop edition_size t) (bytes_drop t edition_size h))
    go (bad m) = subst (λ (w : Whole). EachRecorded w.steps) (sym (bad-whole t m)) tt

-- and those of a text of the short form have short forms
pub each-short : (t : List ℕ) → Bytes t → is_short t ≡ true → EachShort (steps_of t)
each-short t h e = go (form_of t)
  where
    go : Form t → EachShort (steps_of t)
    go (old p m q) = absurd (clash (is_short t) e p)
    go (short p g m q) = rw q (steps-short (drop edition_size t) (bytes_drop t edition_size h))
    go (bad m) = subst (λ (w : Whole). EachShort w.steps) (sym (bad-whole t m)) tt

-- ---- the texts of steps

-- in the old form no field begins as a header does
tag-refused : (t : List ℕ) → get_or t 0 0 ≡ 1 → field_of t ≡ Refused 0 18
unfolding field_of
tag-refused t g = rw g (pick-alike (ltb (length t) 3) (Refused 0 18))

-- so a whole recording in the old form is not of the short one
pub sound-old : (t : List ℕ) → is_sound t ≡ true → is_short t ≡ false
unfolding is_short
sound-old t e = go (eqb (get_or t 0 0) 1) refl
  where
    go : (b : Bool) → eqb (get_or t 0 0) 1 ≡ b → b ≡ false
    go true q = absurd (clash (is_sound t) e (ap (λ (w : Whole). is_end w.last) (whole-refused t 18 0 (tag-refused t (eqb-true (get_or t 0 0) 1 q)))))
    go false q = refl

-- and stands for itself
pub sound-is : (t : List ℕ) → is_sound t ≡ true → old_of t ≡ t
sound-is t e = old-is t (sound-old t e)

-- so is the text of steps in the old form
pub old-recorded : (ss : List Step) → EachRecorded ss → is_short (text_of ss) ≡ false
old-recorded ss h = sound-old (text_of ss) (ap (λ (w : Whole). is_end w.last) (text-reads ss h))

-- and that in the short form has a good header and stands for the one in the old form
pub short-headed : (ss : List Step) → (is_short (short_text_of ss) ≡ true) × (is_headed (short_text_of ss) ≡ true)
unfolding is_short is_headed all_of
short-headed ss = let long : leb edition_size (length (short_text_of ss)) ≡ true = le-leb edition_size (length (short_text_of ss)) (omega arith) in (refl, rw long)

pub short-text : (ss : List Step) → EachRecorded ss → EachShort ss → old_of (short_text_of ss) ≡ text_of ss
short-text ss h g = let s = short-headed ss in short-is (short_text_of ss) s.0 s.1 ∙ shorts-stand ss h g

-- ---- how long they are

-- a field in the short form has five bytes at least, and sixteen at most
pub shorts-length : (ss : List Step) → (length ss * 5 + 3 ≤ length (shorts_of ss)) × (length (shorts_of ss) ≤ length ss * 16 + 3)
unfolding shorts_of
shorts-length [] = (omega arith, omega arith)
shorts-length (s ∷ ss) =
    let l = length-append (short_bytes s) (shorts_of ss) in
    let z = short-size s in
    let r = shorts-length ss in
    (omega (arith, l, z.0, r.0), omega (arith, l, z.1, r.1))
