-- What the walks over the old form keep before each field: the one that sizes the short form (`Measuring`), and the one that writes it (`Shrinking`) (W-207).
-- Assumes nothing.
use Prim.Native.Nat.{ℕ, ◌+◌, ◌*◌, ◌≤◌}
use mathlib.Core.Bool.{Bool, true, false}
use mathlib.Core.List.{List, [], ◌∷◌, ◌++◌}
use mathlib.Core.Path.{◌≡◌, refl, sym, ap, ap₂, subst, ◌∙◌}
use native.Mathlib.Omega.{arith}
use lib.ListN.{length, drop, length-append}
use lib.Seq.{drop-drop}
use Rattle.numbers.specs.Tags.{step_size, end_size}
use Rattle.forms.specs.Numbers.{edition_size}
use Rattle.laws.specs.Choice.{pick}
use Rattle.laws.proofs.Choosing.{both-make}
use Rattle.values.specs.declared.Step.{Step}
use Rattle.wire.specs.Bytes.{end_bytes, put_at, wrote_bytes, Written}
use Rattle.wire.specs.declared.Wrote.{Wrote}
use Rattle.recording.specs.declared.Field.{Field}
use Rattle.recording.specs.declared.Field.TheVariants.{Step as IsStep, End, Refused as NoField}
use Rattle.recording.specs.Recording.{values_good, field_of}
use Rattle.recording.specs.Whole.{Whole, whole_of, steps_in}
use Rattle.recording.proofs.OneField.{step-told}
use Rattle.recording.proofs.Texts.{whole-step, whole-end, whole-refused}
use Rattle.recording.proofs.Loops.{step_room}
use Rattle.moving.specs.declared.Moved.TheVariants.{To, Refused}
use Rattle.forms.specs.Short.{has_short, short_bytes, short_written, header_bytes}
use Rattle.moving.specs.Moves.{shorts_of, short_text_of, on_last, unless_long, shortens_of, EachShort}
use Rattle.forms.proofs.OneShort.{short-size}
use Rattle.moving.proofs.Putting.{Putting, putting-starts, putting-fits, putting-ahead, putting-next, putting-ended, putting-on, putting-over}
use Rattle.moving.proofs.Answers.{said_last}

-- ---- fields of the old form

-- what is ahead of a step
next-steps : (t : List ℕ) (at n : ℕ) (x : Step) → field_of (drop at t) ≡ IsStep x n → steps_in (drop at t) ≡ x ∷ steps_in (drop (at + n) t)
next-steps t at n x e = ap (λ (v : Whole). v.steps) (whole-step (drop at t) x n e) ∙ ap (λ (u : List ℕ). x ∷ steps_in u) (drop-drop n at t)

next_last : (t : List ℕ) (at n : ℕ) (x : Step) → field_of (drop at t) ≡ IsStep x n → (whole_of (drop at t)).last ≡ (whole_of (drop (at + n) t)).last
next_last t at n x e = ap (λ (v : Whole). v.last) (whole-step (drop at t) x n e) ∙ ap (λ (u : List ℕ). (whole_of u).last) (drop-drop n at t)

-- a field whose tag is not that of a step is all that is left
pub no_step : (t : List ℕ) (f : Field) → ((x : Step) (n : ℕ) → f ≡ IsStep x n → ⊥) → f ≡ field_of t → whole_of t ≡ record { steps = []; last = f }
no_step t (IsStep x n) p e = absurd (p x n refl)
no_step t End p e = whole-end t (sym e)
no_step t (NoField n k) p e = whole-refused t k n (sym e)

-- ---- the walk over the old form that sizes the short one

-- what is ahead makes up the rest of the steps, of the size and of the answer
pub record Measuring (t : List ℕ) (count size at : ℕ) : Type 0 where
  pub inside : at ≤ length t
  pub places : count * step_size ≡ at
  pub most : size ≤ at + 7
  pub counted : length (steps_in t) ≡ count + length (steps_in (drop at t))
  pub sized : size + length (shorts_of (steps_in (drop at t))) ≡ end_size + length (short_text_of (steps_in t))
  pub behind : (whole_of t).last ≡ (whole_of (drop at t)).last
  pub ahead : shortens_of t ≡ unless_long count (steps_in (drop at t)) (said_last t)

-- before the first field there are the header and the end
pub measuring-starts : (t : List ℕ) → Measuring t 0 (edition_size + end_size) 0
unfolding shortens_of
measuring-starts t = record {
  inside = omega arith;
  places = refl;
  most = omega arith;
  counted = omega arith;
  sized = omega (arith, length-append header_bytes (shorts_of (steps_in t)));
  behind = refl;
  ahead = refl;
}

module _ (t : List ℕ) (count size at : ℕ) (w : Measuring t count size at) where
  -- there are as many fields as sixteens of bytes, and the short form is hardly longer
  pub measuring-room : (count * step_size ≤ length t) × (size ≤ length t + 7)
  measuring-room = (omega (arith, w.places, w.inside), omega (arith, w.most, w.inside))

  module _ (x : Step) (n : ℕ) (e : field_of (drop at t) ≡ IsStep x n) where
    -- a step that has a short form
    pub measuring-next : has_short x ≡ true → Measuring t (count + 1) (size + length (short_bytes x)) (at + n)
    unfolding shorts_of unless_long
    measuring-next h =
        let room = step_room t at n x w.inside e in
        let steps = next-steps t at n x e in
        record {
          inside = room.0;
          places = omega (arith, w.places, room.1);
          most = omega (arith, w.most, room.1, (short-size x).1);
          counted = omega (arith, w.counted, ap length steps);
          sized = omega (arith, w.sized, ap (λ (l : List Step). length (shorts_of l)) steps, length-append (short_bytes x) (shorts_of (steps_in (drop (at + n) t))));
          behind = w.behind ∙ next_last t at n x e;
          ahead = w.ahead ∙ ap (λ (l : List Step). unless_long count l (said_last t)) steps
              ∙ ap (λ (q : Bool). pick q (unless_long (count + 1) (steps_in (drop (at + n) t)) (said_last t)) (Refused (count + 1) 29)) h;
        }

    -- a step that has none
    pub measuring-long : has_short x ≡ false → Refused (count + 1) 29 ≡ shortens_of t
    unfolding unless_long
    measuring-long h =
        sym (w.ahead ∙ ap (λ (l : List Step). unless_long count l (said_last t)) (next-steps t at n x e)
        ∙ ap (λ (q : Bool). pick q (unless_long (count + 1) (steps_in (drop (at + n) t)) (said_last t)) (Refused (count + 1) 29)) h)

  -- a field that is no step
  pub measuring-ended : (f : Field) → whole_of (drop at t) ≡ record { steps = []; last = f } → on_last f count (To size) ≡ shortens_of t
  unfolding shorts_of unless_long
  measuring-ended f e =
      let none : steps_in (drop at t) ≡ [] = ap (λ (v : Whole). v.steps) e in
      let long : length (steps_in t) ≡ count = omega (arith, w.counted, ap length none) in
      let field : (whole_of t).last ≡ f = w.behind ∙ ap (λ (v : Whole). v.last) e in
      let all : length (short_text_of (steps_in t)) ≡ size = omega (arith, w.sized, ap (λ (l : List Step). length (shorts_of l)) none) in
      sym (w.ahead ∙ ap (λ (l : List Step). unless_long count l (said_last t)) none
      ∙ ap₂ (λ (y : Field) (m : ℕ). on_last y m (To (length (short_text_of (steps_in t))))) field long ∙ ap (λ (m : ℕ). on_last f count (To m)) all)

-- ---- the walk over the old form that writes the short one

-- what is ahead makes up the rest of the short text, and has short forms
pub record Shrinking (t b₀ b : List ℕ) (at to : ℕ) : Type 0 where
  pub inside : at ≤ length t
  pub each : EachShort (steps_in (drop at t))
  pub put : Putting (short_text_of (steps_in t)) b₀ b to
  pub ahead : drop to (short_text_of (steps_in t)) ≡ shorts_of (steps_in (drop at t))

-- the header is written: from then on the buffer with the header is what the walk begins with
module _ (t b₀ b : List ℕ) (room : length (short_text_of (steps_in t)) ≤ length b₀) (p : b ≡ wrote_bytes b₀ 0 header_bytes) where
  header-put : Putting (short_text_of (steps_in t)) b₀ b edition_size
  header-put = putting-next _ b₀ b₀ 0 (putting-starts _ b₀) header_bytes (shorts_of (steps_in t)) refl room b p

  -- before the first field only the header stands there
  pub shrinking-starts : EachShort (steps_in t) → Shrinking t b b 0 edition_size
  shrinking-starts each = record { inside = omega arith; each = each; put = putting-on _ b₀ b edition_size header-put; ahead = refl }

  -- the text still has room
  pub shrinking-room : length (short_text_of (steps_in t)) ≤ length b
  shrinking-room = subst (λ (n : ℕ). length (short_text_of (steps_in t)) ≤ n) (sym header-put.same) room

  -- put over the header, it comes to the text in the buffer as it was
  pub shrinking-over : put_at b 0 (short_text_of (steps_in t)) ≡ put_at b₀ 0 (short_text_of (steps_in t))
  shrinking-over = putting-over _ b₀ b edition_size header-put

module _ (t b₀ b : List ℕ) (at to : ℕ) (w : Shrinking t b₀ b at to) where
  module _ (x : Step) (n : ℕ) (e : field_of (drop at t) ≡ IsStep x n) where
    next-short : drop to (short_text_of (steps_in t)) ≡ short_bytes x ++ shorts_of (steps_in (drop (at + n) t))
    unfolding shorts_of
    next-short = w.ahead ∙ ap shorts_of (next-steps t at n x e)

    next-each : EachShort (x ∷ steps_in (drop (at + n) t))
    next-each = subst EachShort (next-steps t at n x e) w.each

    -- a step that is ahead has room in the short text
    pub shrinking-fits : to + length (short_bytes x) ≤ length (short_text_of (steps_in t))
    shrinking-fits = putting-fits _ b₀ b to w.put (short_bytes x) _ next-short

    -- a step is written in the short form
    pub shrinking-next : length (short_text_of (steps_in t)) ≤ length b₀ → (b' : List ℕ) → b' ≡ short_written b to x → Shrinking t b₀ b' (at + n) (to + length (short_bytes x))
    shrinking-next room b' p =
        let has = both-make (values_good x) (has_short x) (step-told (drop at t) x n e).good next-each.0 in
        let put : b' ≡ wrote_bytes b to (short_bytes x) = p ∙ ap (λ (q : Bool). pick q (wrote_bytes b to (short_bytes x)) b) has in
        record {
          inside = (step_room t at n x w.inside e).0;
          each = next-each.1;
          put = putting-next _ b₀ b to w.put (short_bytes x) _ next-short room b' put;
          ahead = putting-ahead _ b₀ b to w.put (short_bytes x) _ next-short;
        }

  -- a field that is no step: the end is written, and that is all
  pub shrinking-ended : length (short_text_of (steps_in t)) ≤ length b₀ → (f : Field) → whole_of (drop at t) ≡ record { steps = []; last = f }
      → (r : Wrote) (b' : List ℕ) → Written b to end_bytes r b' → b' ≡ put_at b₀ 0 (short_text_of (steps_in t))
  unfolding shorts_of
  shrinking-ended room f e r b' q = putting-ended _ b₀ b to w.put room end_bytes (w.ahead ∙ ap (λ (v : Whole). shorts_of v.steps) e) b' q.bytes
