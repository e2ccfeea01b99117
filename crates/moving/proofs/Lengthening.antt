-- What the walks over the short form keep before each field: the one that counts (`Passing`), and the one that writes the old form (`Stretching`) (W-207).
-- Assumes nothing.
use Prim.Native.Nat.{ℕ, ◌+◌, ◌-◌, ◌*◌, ◌/◌, ◌≤◌}
use mathlib.Core.Bool.{Bool}
use mathlib.Core.List.{List, [], ◌∷◌, ◌++◌}
use mathlib.Core.Path.{◌≡◌, refl, sym, ap, ◌∙◌}
use native.Mathlib.Decide.{dec_le}
use native.Mathlib.Omega.{arith}
use lib.ListN.{length, drop, length-drop}
use lib.Seq.{drop-drop}
use lib.Dec.{leb}
use borrow.Author.Tests.{le-leb, lt-leb}
use Rattle.numbers.specs.Tags.{step_size}
use Rattle.forms.specs.Numbers.{edition_size}
use Rattle.laws.specs.Choice.{pick}
use Rattle.values.specs.declared.Step.{Step}
use Rattle.wire.specs.Bytes.{put_at, wrote_bytes}
use Rattle.wire.proofs.Laws.{Bytes}
use Rattle.recording.specs.declared.Field.{Field}
use Rattle.recording.specs.declared.Field.TheVariants.{Step as IsStep, End, Refused as NoField}
use Rattle.recording.specs.Recording.{bytes_of, step_written}
use Rattle.recording.specs.Whole.{Whole, whole_of, steps_in}
use Rattle.recording.proofs.Texts.{bytes_drop}
use Rattle.forms.specs.Short.{short_field_of}
use Rattle.moving.specs.Old.{tail_bytes, long_of}
use Rattle.forms.proofs.Told.{short-told}
use Rattle.moving.proofs.Standing.{long-step, long-end, long-refused, passed-step, passed-end, passed-refused}
use Rattle.moving.proofs.Putting.{Putting, putting-starts, putting-fits, putting-ahead, putting-next, putting-ended}

-- ---- fields of the short form

-- a step that is ahead lies inside, wherever the walk is
short-room : (s : List ℕ) (at n : ℕ) (x : Step) → short_field_of (drop at s) ≡ IsStep x n → (at + n ≤ length s) × (5 ≤ n) × (n ≤ step_size)
short-room s at n x e =
    let f = short-told (drop at s) x n e in
    let l = length-drop at s in
    let a = f.long in
    let b = f.least in
    (omega arith, b, f.most)

-- a field whose tag is not that of a step is all that is left
pub no_short : (t : List ℕ) (f : Field) → ((x : Step) (n : ℕ) → f ≡ IsStep x n → ⊥) → f ≡ short_field_of t → whole_of (long_of t) ≡ record { steps = []; last = f }
no_short t (IsStep x n) p e = absurd (p x n refl)
no_short t End p e = passed-end t (sym e)
no_short t (NoField n k) p e = passed-refused t k n (sym e)

-- and stands for the end, or for damage of its kind
pub no-short-tail : (t : List ℕ) (f : Field) → ((x : Step) (n : ℕ) → f ≡ IsStep x n → ⊥) → f ≡ short_field_of t → long_of t ≡ tail_bytes f
no-short-tail t (IsStep x n) p e = absurd (p x n refl)
no-short-tail t End p e = long-end t (sym e)
no-short-tail t (NoField n k) p e = long-refused t k n (sym e)

-- ---- the walk over the short form that counts

-- what is ahead makes up the rest of the steps, and ends as they do
pub record Passing (s : List ℕ) (count at : ℕ) : Type 0 where
  pub inside : at ≤ length s + edition_size
  pub places : count * 5 + edition_size ≤ at
  pub counted : length (steps_in (long_of (drop edition_size s))) ≡ count + length (steps_in (long_of (drop at s)))
  pub behind : (whole_of (long_of (drop edition_size s))).last ≡ (whole_of (long_of (drop at s))).last

-- before the first field all is ahead; the text may be shorter than a header
pub passing-starts : (s : List ℕ) → Passing s 0 edition_size
passing-starts s = record { inside = omega arith; places = omega arith; counted = omega arith; behind = refl }

module _ (s : List ℕ) (count at : ℕ) (w : Passing s count at) where
  -- a field has five bytes at least
  pub passing-room : count * 5 ≤ length s
  passing-room = omega (arith, w.places, w.inside)

  -- a step that is ahead lies inside
  pub passing-inside : (x : Step) (n : ℕ) → short_field_of (drop at s) ≡ IsStep x n → (at + n ≤ length s) × (5 ≤ n) × (n ≤ step_size)
  passing-inside x n e = short-room s at n x e

  -- a step is passed
  pub passing-next : Bytes s → (x : Step) (n : ℕ) → short_field_of (drop at s) ≡ IsStep x n → Passing s (count + 1) (at + n)
  passing-next h x n e =
      let room = short-room s at n x e in
      let p = passed-step (drop at s) x n (bytes_drop s at h) e in
      let d : drop n (drop at s) ≡ drop (at + n) s = drop-drop n at s in
      let steps : steps_in (long_of (drop at s)) ≡ x ∷ steps_in (long_of (drop (at + n) s)) =
      ap (λ (v : Whole). v.steps) p ∙ ap (λ (u : List ℕ). x ∷ steps_in (long_of u)) d in
      let last : (whole_of (long_of (drop at s))).last ≡ (whole_of (long_of (drop (at + n) s))).last =
      ap (λ (v : Whole). v.last) p ∙ ap (λ (u : List ℕ). (whole_of (long_of u)).last) d in
      record {
        inside = omega (arith, room.0);
        places = omega (arith, w.places, room.1);
        counted = omega (arith, w.counted, ap length steps);
        behind = w.behind ∙ last;
      }

  -- a field that is no step: all is counted, and that field stands behind
  pub passing-ended : (f : Field) → whole_of (long_of (drop at s)) ≡ record { steps = []; last = f }
      → (count ≡ length (steps_in (long_of (drop edition_size s)))) × (f ≡ (whole_of (long_of (drop edition_size s))).last)
  passing-ended f e =
      let none : steps_in (long_of (drop at s)) ≡ [] = ap (λ (v : Whole). v.steps) e in
      (omega (arith, w.counted, ap length none), sym (w.behind ∙ ap (λ (v : Whole). v.last) e))

-- ---- the walk over the short form that writes the old one

-- what is ahead stands for the rest of the old text
pub record Stretching (s b₀ b : List ℕ) (at to : ℕ) : Type 0 where
  pub put : Putting (long_of (drop edition_size s)) b₀ b to
  pub ahead : drop to (long_of (drop edition_size s)) ≡ long_of (drop at s)

-- before the first field nothing is written
pub stretching-starts : (s b₀ : List ℕ) → Stretching s b₀ b₀ edition_size 0
stretching-starts s b₀ = record { put = putting-starts _ b₀; ahead = refl }

module _ (s b₀ b : List ℕ) (at to : ℕ) (w : Stretching s b₀ b at to) where
  module _ (x : Step) (n : ℕ) (e : short_field_of (drop at s) ≡ IsStep x n) where
    next-long : drop to (long_of (drop edition_size s)) ≡ bytes_of x ++ long_of (drop (at + n) s)
    next-long = w.ahead ∙ long-step (drop at s) x n e ∙ ap (λ (u : List ℕ). bytes_of x ++ long_of u) (drop-drop n at s)

    -- a step that is ahead lies inside
    pub stretching-inside : (at + n ≤ length s) × (5 ≤ n) × (n ≤ step_size)
    stretching-inside = short-room s at n x e

    -- and has room in the old text
    pub stretching-fits : to + step_size ≤ length (long_of (drop edition_size s))
    stretching-fits = putting-fits _ b₀ b to w.put (bytes_of x) _ next-long

    -- a step is written in the old form
    pub stretching-next : length (long_of (drop edition_size s)) ≤ length b₀ → (b' : List ℕ) → b' ≡ step_written b to x → Stretching s b₀ b' (at + n) (to + step_size)
    stretching-next room b' p =
        let put : b' ≡ wrote_bytes b to (bytes_of x) = p ∙ ap (λ (q : Bool). pick q (wrote_bytes b to (bytes_of x)) b) (short-told (drop at s) x n e).good in
        record {
          put = putting-next _ b₀ b to w.put (bytes_of x) _ next-long room b' put;
          ahead = putting-ahead _ b₀ b to w.put (bytes_of x) _ next-long;
        }

  -- a field that is no step: what stands behind the steps is written, and that is all
  pub stretching-ended : length (long_of (drop edition_size s)) ≤ length b₀ → (f : Field) → ((x : Step) (n : ℕ) → f ≡ IsStep x n → ⊥) → f ≡ short_field_of (drop at s)
      → (b' : List ℕ) → b' ≡ wrote_bytes b to (tail_bytes f) → b' ≡ put_at b₀ 0 (long_of (drop edition_size s))
  stretching-ended room f q e b' p = putting-ended _ b₀ b to w.put room (tail_bytes f) (w.ahead ∙ no-short-tail (drop at s) f q e) b' p

-- ---- what stands behind the steps

-- so many steps and what stands behind them have room, told by how many steps the rest has room for
pub room-left : (n k m : ℕ) → k ≤ m → leb n ((m - k) / step_size) ≡ leb (n * step_size + k) m
room-left n k m h = go (dec_le n ((m - k) / step_size))
  where
    go : Dec (n ≤ (m - k) / step_size) → leb n ((m - k) / step_size) ≡ leb (n * step_size + k) m
    go (yes l) = le-leb n ((m - k) / step_size) l ∙ sym (le-leb (n * step_size + k) m (omega (arith, l, h)))
    go (no l) = lt-leb n ((m - k) / step_size) (omega (arith, l)) ∙ sym (lt-leb (n * step_size + k) m (omega (arith, l, h)))
