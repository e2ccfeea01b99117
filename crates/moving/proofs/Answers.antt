-- The answers of the two moves and of `stretch`, from what their walks have found: how long the old form is, and what the field behind the steps says (W-207).
-- Assumes nothing.
use Prim.Native.Nat.{ℕ, ◌+◌, ◌*◌, ◌<◌, ◌≤◌}
use mathlib.Core.Bool.{Bool, true, false}
use mathlib.Core.List.{List, [], ◌∷◌}
use mathlib.Core.Path.{◌≡◌, refl, sym, ap, subst, ◌∙◌}
use native.Mathlib.Omega.{arith}
use lib.ListN.{length, drop, length-append, length-drop}
use lib.Dec.{leb}
use borrow.Author.Tests.{le-leb, lt-leb, leb-true}
use Rattle.numbers.specs.Tags.{step_size, end_size}
use Rattle.forms.specs.Numbers.{edition_size}
use Rattle.laws.specs.Choice.{both}
use Rattle.laws.proofs.Choosing.{both-no, pick-on}
use Rattle.values.specs.declared.Step.{Step}
use Rattle.wire.specs.Bytes.{put_at, wrote_to, wrote_bytes}
use Rattle.wire.specs.declared.Wrote.TheVariants.{To as WroteTo, Refused as NotWritten}
use Rattle.wire.proofs.Laws.{Bytes}
use Rattle.recording.specs.declared.Field.{Field}
use Rattle.recording.specs.declared.Field.TheVariants.{Step as IsStep, End, Refused as NoField}
use Rattle.recording.specs.Recording.{bytes_of}
use Rattle.recording.specs.Whole.{Whole, whole_of, steps_in}
use Rattle.recording.proofs.Texts.{bytes_drop}
use Rattle.moving.specs.declared.Moved.{Moved}
use Rattle.moving.specs.declared.Moved.TheVariants.{To, Refused}
use Rattle.forms.specs.Short.{has_short, short_field_of, is_short, is_headed}
use Rattle.moving.specs.Old.{tail_bytes, long_of}
use Rattle.moving.specs.Moves.{short_text_of, on_last, unless_long, shortens_of, shorten_to, shorten_written, lengthens_of, lengthen_to, lengthen_written, EachShort}
use Rattle.forms.proofs.Told.{short-told}
use Rattle.moving.proofs.Standing.{by-shorts, long-step, long-end, long-refused, passed-step, passed-end, passed-refused}

-- ---- how long the old form is

abbrev Sized : List ℕ → Type 0
Sized t = Bytes t → length (long_of t) ≡ length (steps_in (long_of t)) * step_size + length (tail_bytes (whole_of (long_of t)).last)

sized-step : (t : List ℕ) (s : Step) (n : ℕ) → short_field_of t ≡ IsStep s n → Sized (drop n t) → Sized t
sized-step t s n e rest h =
    let p = passed-step t s n h e in
    let l : length (long_of t) ≡ step_size + length (long_of (drop n t)) = ap length (long-step t s n e) ∙ length-append (bytes_of s) (long_of (drop n t)) in
    let c : length (steps_in (long_of t)) ≡ 1 + length (steps_in (long_of (drop n t))) = ap (λ (v : Whole). length v.steps) p ∙ omega arith in
    let f : length (tail_bytes (whole_of (long_of t)).last) ≡ length (tail_bytes (whole_of (long_of (drop n t))).last) = ap (λ (v : Whole). length (tail_bytes v.last)) p in
    let r = rest (bytes_drop t n h) in
    omega arith

sized-last : (t : List ℕ) (f : Field) → long_of t ≡ tail_bytes f → whole_of (long_of t) ≡ record { steps = []; last = f } → Sized t
sized-last t f e p h =
    let l : length (long_of t) ≡ length (tail_bytes f) = ap length e in
    let c : length (steps_in (long_of t)) ≡ 0 = ap (λ (v : Whole). length v.steps) p in
    let z : length (tail_bytes (whole_of (long_of t)).last) ≡ length (tail_bytes f) = ap (λ (v : Whole). length (tail_bytes v.last)) p in
    omega arith

-- sixteen bytes for each step, and what stands behind them
pub long-size : (t : List ℕ) → Bytes t → length (long_of t) ≡ length (steps_in (long_of t)) * step_size + length (tail_bytes (whole_of (long_of t)).last)
long-size t =
    by-shorts Sized sized-step
    (λ u e. sized-last u End (long-end u e) (passed-end u e))
    (λ u r p e. sized-last u (NoField p r) (long-refused u r p e) (passed-refused u r p e))
    t

abbrev Few : List ℕ → Type 0
Few t = Bytes t → length (steps_in (long_of t)) * 5 ≤ length t

few-step : (t : List ℕ) (s : Step) (n : ℕ) → short_field_of t ≡ IsStep s n → Few (drop n t) → Few t
few-step t s n e rest h =
    let c : length (steps_in (long_of t)) ≡ 1 + length (steps_in (long_of (drop n t))) = ap (λ (v : Whole). length v.steps) (passed-step t s n h e) ∙ omega arith in
    let f = short-told t s n e in
    let a = f.long in
    let b = f.least in
    let l = length-drop n t in
    let r = rest (bytes_drop t n h) in
    omega arith

few-last : (t : List ℕ) (f : Field) → whole_of (long_of t) ≡ record { steps = []; last = f } → Few t
few-last t f p h = let c : length (steps_in (long_of t)) ≡ 0 = ap (λ (v : Whole). length v.steps) p in omega arith

-- a step's field has five bytes at least, so there are few
pub long-few : (t : List ℕ) → Bytes t → length (steps_in (long_of t)) * 5 ≤ length t
long-few t = by-shorts Few few-step (λ u e. few-last u End (passed-end u e)) (λ u r p e. few-last u (NoField p r) (passed-refused u r p e)) t

-- the same behind a header
pub steps-few : (s : List ℕ) → Bytes s → length (steps_in (long_of (drop edition_size s))) * 5 ≤ length s
steps-few s h = omega (arith, long-few (drop edition_size s) (bytes_drop s edition_size h), length-drop edition_size s)

-- ---- the answer of the field behind the steps

moved-clash : {A : Type 0} {n p k : ℕ} → To n ≡ Refused p k → A
moved-clash e = let z : ◌≡◌ {A = ℕ} 0 1 = cc in absurd (omega arith)

-- a refusal does not look at the size
last-refused : (f : Field) (n a : ℕ) {p k : ℕ} → on_last f n (To a) ≡ Refused p k → (w : Moved) → on_last f n w ≡ Refused p k
last-refused (IsStep x m) n a e w = e
last-refused End n a e w = moved-clash e
last-refused (NoField q j) n a e w = e

-- no refusal: the field is the end
last-whole : (f : Field) (n a : ℕ) {m : ℕ} → on_last f n (To a) ≡ To m → (f ≡ End) × (m ≡ a)
last-whole (IsStep x j) n a e = moved-clash (sym e)
last-whole End n a e = (refl, cc)
last-whole (NoField q j) n a e = moved-clash (sym e)

-- ---- the answer of `lengthen`

module _ (t b : List ℕ) where
  unheaded : both (is_short t) (is_headed t) ≡ false → (Refused 0 18 ≡ lengthen_to t b) × (b ≡ lengthen_written t b)
  unfolding lengthen_to lengthens_of
  unheaded h = (rw h, rw h)

  -- a text that is not of the short form is refused
  pub lengthen-other : is_short t ≡ false → (Refused 0 18 ≡ lengthen_to t b) × (b ≡ lengthen_written t b)
  lengthen-other h = unheaded (ap (λ (q : Bool). both q (is_headed t)) h)

  -- a text whose header is bad is refused
  pub lengthen-unheaded : is_headed t ≡ false → (Refused 0 18 ≡ lengthen_to t b) × (b ≡ lengthen_written t b)
  lengthen-unheaded h = unheaded (both-no (is_short t) (is_headed t) h)

  -- what was passed: so many steps, and the field behind them
  module _ (short : is_short t ≡ true) (headed : is_headed t ≡ true) (c : ℕ) (f : Field)
      (counted : c ≡ length (steps_in (long_of (drop edition_size t)))) (behind : f ≡ (whole_of (long_of (drop edition_size t))).last) where
    lengthens-as : lengthens_of t ≡ on_last f c (To (length (long_of (drop edition_size t))))
    unfolding lengthens_of
    lengthens-as = rw (short, headed, counted, behind)

    -- damage is refused, and nothing is written
    pub lengthen-refused : {r : Moved} {p k : ℕ} → r ≡ on_last f c (To 0) → r ≡ Refused p k → (r ≡ lengthen_to t b) × (b ≡ lengthen_written t b)
    unfolding lengthen_to
    lengthen-refused {r} {p} {k} h e = let s : lengthens_of t ≡ Refused p k = lengthens-as ∙ last-refused f c 0 (sym h ∙ e) _ in (rw s e, rw s)

    -- no damage
    module _ (small : Bytes t) (m : ℕ) (whole : on_last f c (To 0) ≡ To m) where
      long-is : length (long_of (drop edition_size t)) ≡ c * step_size + end_size
      long-is =
          let z : length (tail_bytes (whole_of (long_of (drop edition_size t))).last) ≡ end_size = ap (λ (x : Field). length (tail_bytes x)) (sym behind ∙ (last-whole f c 0 whole).0) in
          omega (arith, long-size (drop edition_size t) (bytes_drop t edition_size small), counted)

      lengthens-to : lengthens_of t ≡ To (c * step_size + end_size)
      lengthens-to = lengthens-as ∙ ap (λ (x : Field). on_last x c (To (length (long_of (drop edition_size t))))) (last-whole f c 0 whole).0 ∙ ap To long-is

      -- what has room for so many steps and the end has room for the text
      pub lengthen-fits : leb (c * step_size + end_size) (length b) ≡ true → length (long_of (drop edition_size t)) ≤ length b
      lengthen-fits r = omega (arith, long-is, leb-true (c * step_size + end_size) (length b) r)

      -- all has room
      pub lengthen-whole : leb (c * step_size + end_size) (length b) ≡ true → (To (c * step_size + end_size) ≡ lengthen_to t b) × (put_at b 0 (long_of (drop edition_size t)) ≡ lengthen_written t b)
      unfolding lengthen_to
      lengthen-whole r = (rw (lengthens-to, r), rw (lengthens-to, r))

      -- it has not
      pub lengthen-short : leb (c * step_size + end_size) (length b) ≡ false → (Refused 0 27 ≡ lengthen_to t b) × (b ≡ lengthen_written t b)
      unfolding lengthen_to
      lengthen-short r = (rw (lengthens-to, r), rw (lengthens-to, r))

-- ---- the answer of `stretch`

module _ (t b : List ℕ) (small : Bytes t) (c m : ℕ) (f : Field)
    (counted : c ≡ length (steps_in (long_of (drop edition_size t)))) (behind : f ≡ (whole_of (long_of (drop edition_size t))).last) (tail : m ≡ length (tail_bytes f)) where
  -- so many bytes: the steps, and what stands behind them
  pub stretch-size : c * step_size + m ≡ length (long_of (drop edition_size t))
  stretch-size =
      let z : m ≡ length (tail_bytes (whole_of (long_of (drop edition_size t))).last) = tail ∙ ap (λ (x : Field). length (tail_bytes x)) behind in
      omega (arith, long-size (drop edition_size t) (bytes_drop t edition_size small), counted)

  -- what has room for them has room for the text
  pub stretch-fits : leb (c * step_size + m) (length b) ≡ true → length (long_of (drop edition_size t)) ≤ length b
  stretch-fits r = omega (arith, stretch-size, leb-true (c * step_size + m) (length b) r)

  -- all has room
  pub stretch-whole : leb (c * step_size + m) (length b) ≡ true
      → (WroteTo (c * step_size + m) ≡ wrote_to b 0 (length (long_of (drop edition_size t)))) × (put_at b 0 (long_of (drop edition_size t)) ≡ wrote_bytes b 0 (long_of (drop edition_size t)))
  stretch-whole r =
      let z : c * step_size + m ≡ 0 + length (long_of (drop edition_size t)) = omega (arith, stretch-size) in
      let q : leb (0 + length (long_of (drop edition_size t))) (length b) ≡ true = ap (λ (n : ℕ). leb n (length b)) (sym z) ∙ r in
      (rw q (ap WroteTo z), rw q)

  -- it has not
  pub stretch-short : leb (c * step_size + m) (length b) ≡ false
      → (NotWritten 27 ≡ wrote_to b 0 (length (long_of (drop edition_size t)))) × (b ≡ wrote_bytes b 0 (long_of (drop edition_size t)))
  stretch-short r =
      let z : c * step_size + m ≡ 0 + length (long_of (drop edition_size t)) = omega (arith, stretch-size) in
      let q : leb (0 + length (long_of (drop edition_size t))) (length b) ≡ false = ap (λ (n : ℕ). leb n (length b)) (sym z) ∙ r in
      (rw q, rw q)

-- ---- what a size of the short form says

-- what is said of the text's end
abbrev pub said_last : List ℕ → Moved
said_last t = on_last (whole_of t).last (length (steps_in t)) (To (length (short_text_of (steps_in t))))

unless-each : (n : ℕ) (ss : List Step) (last : Moved) {m : ℕ} → unless_long n ss last ≡ To m → EachShort ss × (last ≡ To m)
unfolding unless_long
unless-each n [] last e = (tt, e)
unless-each n (x ∷ xs) last {m} e =
    let p = pick-on (has_short x) (unless_long (n + 1) xs last) (Refused (n + 1) 29) (To m) e (λ q. moved-clash (sym q)) in
    let r = unless-each (n + 1) xs last p.1 in
    ((p.0, r.0), r.1)

-- every step has a short form, and the text is so long
pub shortens-each : (t : List ℕ) (n : ℕ) → shortens_of t ≡ To n → EachShort (steps_in t) × (n ≡ length (short_text_of (steps_in t)))
unfolding shortens_of
shortens-each t n e =
    let r = unless-each 0 (steps_in t) (said_last t) e in
    (r.0, (last-whole (whole_of t).last (length (steps_in t)) _ r.1).1)

-- ---- the answer of `shorten`

-- what has room for the size has room for the text, and the size is the text's
pub shorten-fits : (t b : List ℕ) (n : ℕ) → shortens_of t ≡ To n → n ≤ length b → (shortens_of t ≡ To (length (short_text_of (steps_in t)))) × (length (short_text_of (steps_in t)) ≤ length b)
shorten-fits t b n e l = let r = shortens-each t n e in (e ∙ ap To r.1, subst (λ (m : ℕ). m ≤ length b) r.1 l)

module _ (t b : List ℕ) where
  -- a refusal, and nothing is written
  pub shorten-refused : {r : Moved} {p k : ℕ} → r ≡ shortens_of t → r ≡ Refused p k → (r ≡ shorten_to t b) × (b ≡ shorten_written t b)
  unfolding shorten_to
  shorten-refused {r} {p} {k} h e = let s : shortens_of t ≡ Refused p k = sym h ∙ e in (rw s e, rw s)

  -- all has room
  pub shorten-whole : (n : ℕ) → shortens_of t ≡ To n → n ≤ length b → (To n ≡ shorten_to t b) × (put_at b 0 (short_text_of (steps_in t)) ≡ shorten_written t b)
  unfolding shorten_to
  shorten-whole n s l = let r = le-leb n (length b) l in (rw (s, r), rw (s, r))

  -- it has not
  pub shorten-short : (n : ℕ) → shortens_of t ≡ To n → length b < n → (Refused 0 27 ≡ shorten_to t b) × (b ≡ shorten_written t b)
  unfolding shorten_to
  shorten-short n s l = let r = lt-leb n (length b) l in (rw (s, r), rw (s, r))
