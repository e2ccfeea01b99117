-- What the loops over a recording keep: how far it is read, and how much of it stands in the buffer.
-- Assumes nothing.
use Prim.Native.Nat.{ℕ, ◌+◌, ◌<◌, ◌≤◌, ◌^◌}
use mathlib.Core.Bool.{Bool, true, false}
use mathlib.Core.List.{List, [], ◌++◌}
use mathlib.Core.Path.{◌≡◌, refl, sym, ap, ap₂, ◌∙◌}
use native.Mathlib.Omega.{arith}
use lib.ListN.{length, take, drop, length-append, length-drop}
use lib.Seq.{drop-drop, length-take-le, take-length}
use lib.Dec.{leb}
use borrow.Author.Tests.{le-leb, lt-leb, leb-true}
use Rattle.numbers.specs.Tags.{step_size}
use Rattle.laws.specs.Choice.{pick}
use Rattle.laws.proofs.Choosing.{clash, pick-on}
use Rattle.values.specs.declared.Step.{Step}
use Rattle.wire.specs.Bytes.{end_bytes, put_at, wrote_bytes, Written}
use Rattle.wire.specs.declared.Wrote.{Wrote}
use Rattle.wire.specs.declared.Wrote.TheVariants.{To, Refused as NotWritten}
use Rattle.wire.proofs.Laws.{grown, drop-put, Bytes}
use Rattle.recording.specs.Recording.{values_good, field_of, bytes_of, step_to, step_written, write_and_read_of}
use Rattle.recording.specs.Whole.{Whole, is_end, is_sound, rewrite_to, rewrite_written}
use Rattle.recording.specs.declared.Field.TheVariants.{Step as IsStep, End, Refused}
use Rattle.recording.proofs.OneField.{step-told, step-reads, step-bytes, end-bytes}
use Rattle.recording.proofs.Texts.{whole-step, whole-end, whole-refused, bytes_drop}

-- ---- reading: what is ahead decides

pub record Reading (s : List ℕ) (at : ℕ) : Type 0 where
  pub inside : at ≤ length s
  pub sound : is_sound s ≡ is_sound (drop at s)

pub reading-starts : (s : List ℕ) → Reading s 0
reading-starts s = record { inside = omega arith; sound = refl }

-- a step that is ahead lies inside
pub step_room : (s : List ℕ) (at n : ℕ) (x : Step) → at ≤ length s → field_of (drop at s) ≡ IsStep x n → (at + n ≤ length s) × (n ≡ step_size)
step_room s at n x i e = let f = step-told (drop at s) x n e in let l = length-drop at s in let z = f.size in let m = f.long in (omega arith, z)

sound-on : (s : List ℕ) (at n : ℕ) (x : Step) → field_of (drop at s) ≡ IsStep x n → is_sound (drop at s) ≡ is_sound (drop (at + n) s)
sound-on s at n x e = ap (λ (w : Whole). is_end w.last) (whole-step (drop at s) x n e) ∙ ap is_sound (drop-drop n at s)

module _ (s : List ℕ) (at : ℕ) (r : Reading s at) where
  pub reading_step : (n : ℕ) (x : Step) → field_of (drop at s) ≡ IsStep x n → Reading s (at + n)
  reading_step n x e = record { inside = (step_room s at n x r.inside e).0; sound = r.sound ∙ sound-on s at n x e }

  pub reading-end : field_of (drop at s) ≡ End → true ≡ is_sound s
  reading-end e = sym (r.sound ∙ ap (λ (w : Whole). is_end w.last) (whole-end (drop at s) e))

  pub reading-refused : (k p : ℕ) → field_of (drop at s) ≡ Refused p k → false ≡ is_sound s
  reading-refused k p e = sym (r.sound ∙ ap (λ (w : Whole). is_end w.last) (whole-refused (drop at s) k p e))

-- ---- copying: the buffer begins with the first bytes of s, as many as at says, and has kept the rest of its own

pub record Copying (s b₀ b : List ℕ) (at : ℕ) : Type 0 where
  pub inside : at ≤ length s
  pub sound : is_sound (drop at s) ≡ true
  pub same : length b ≡ length b₀
  pub bytes : b ≡ take at s ++ drop at b₀

pub copying-starts : (s b₀ : List ℕ) → is_sound s ≡ true → Copying s b₀ b₀ 0
copying-starts s b₀ h = record { inside = omega arith; sound = h; same = refl; bytes = refl }

module _ (s b₀ b b' xs : List ℕ) (at : ℕ) (k : Copying s b₀ b at) (room : length s ≤ length b₀)
    (w : b' ≡ wrote_bytes b at xs) (next : drop at s ≡ xs ++ drop (length xs) (drop at s)) where
  fits : at + length xs ≤ length s
  fits =
      let l = length-drop at s in
      let m = ap length next ∙ length-append xs (drop (length xs) (drop at s)) in
      let i = k.inside in
      omega arith

  pub fitted : leb (at + length xs) (length b) ≡ true
  fitted = let f = fits in let e = k.same in le-leb (at + length xs) (length b) (omega arith)

  pub copied-bytes : b' ≡ take (at + length xs) s ++ drop (at + length xs) b₀
  copied-bytes = w ∙ ap (λ (x : Bool). pick x (put_at b at xs) b) fitted ∙ grown s b₀ b xs at k.inside room k.bytes next

  pub copied-same : length b' ≡ length b₀
  copied-same =
      let f = fits in
      ap length copied-bytes ∙ length-append (take (at + length xs) s) (drop (at + length xs) b₀)
      ∙ ap₂ ◌+◌ (length-take-le (at + length xs) s f) (length-drop (at + length xs) b₀) ∙ omega arith

module _ (s b₀ b b' : List ℕ) (at : ℕ) (k : Copying s b₀ b at) (room : length s ≤ length b₀) where
  pub copying-step : (n : ℕ) (x : Step) → Bytes s → field_of (drop at s) ≡ IsStep x n → b' ≡ step_written b at x → Copying s b₀ b' (at + n)
  copying-step n x small e w =
      let f = step-told (drop at s) x n e in
      let v : b' ≡ wrote_bytes b at (bytes_of x) = w ∙ ap (λ (q : Bool). pick q (wrote_bytes b at (bytes_of x)) b) f.good in
      let d = step-bytes (drop at s) x n (bytes_drop s at small) e in
      let z : at + step_size ≡ at + n = ap (λ (m : ℕ). at + m) (sym f.size) in
      record {
        inside = (step_room s at n x k.inside e).0;
        sound = sym (sound-on s at n x e) ∙ k.sound;
        same = copied-same s b₀ b b' (bytes_of x) at k room v d;
        bytes = copied-bytes s b₀ b b' (bytes_of x) at k room v d ∙ ap (λ (q : ℕ). take q s ++ drop q b₀) z;
      }

  pub copying-end : (r : Wrote) → field_of (drop at s) ≡ End → Written b at end_bytes r b' → (r ≡ To (length s)) × (b' ≡ s ++ drop (length s) b₀)
  copying-end r e w =
      let f = end-bytes (drop at s) e in
      let z : drop 3 (drop at s) ≡ [] = ap (drop 3) f in
      let d : drop at s ≡ end_bytes ++ drop 3 (drop at s) = f ∙ ap (λ (l : List ℕ). end_bytes ++ l) (sym z) in
      let l : at + 3 ≡ length s = let m = length-drop at s in let i = k.inside in let j = ap length f in omega arith in (
        w.answer ∙ ap (λ (x : Bool). pick x (To (at + 3)) (NotWritten 27)) (fitted s b₀ b b' end_bytes at k room w.bytes d) ∙ ap To l,
        copied-bytes s b₀ b b' end_bytes at k room w.bytes d
            ∙ ap (λ (q : ℕ). take q s ++ drop q b₀) l ∙ ap (λ (q : List ℕ). q ++ drop (length s) b₀) (take-length s),
      )

  pub copying-on : (r p : ℕ) {A : Type 0} → field_of (drop at s) ≡ Refused p r → A
  copying-on r p e = absurd (clash (is_sound (drop at s)) k.sound (ap (λ (w : Whole). is_end w.last) (whole-refused (drop at s) r p e)))

-- ---- a recording written again: too long, and whole

pub again-short : (s b : List ℕ) → is_sound s ≡ true → length b < length s → (NotWritten 27 ≡ rewrite_to s b) × (b ≡ rewrite_written s b)
again-short s b g l = let t = lt-leb (0 + length s) (length b) (omega arith) in (rw (g, t), rw (g, t))

pub again-whole : (s b : List ℕ) → is_sound s ≡ true → length s ≤ length b → (To (length s) ≡ rewrite_to s b) × (s ++ drop (length s) b ≡ rewrite_written s b)
again-whole s b g l =
    let t = le-leb (0 + length s) (length b) (omega arith) in
    let z : length s ≡ 0 + length s = omega arith in
    (rw (g, t) (ap To z), rw (g, t) (ap (λ (k : ℕ). s ++ drop k b) z))

-- ---- a step written and read back

not-to : {r n : ℕ} {A : Type 0} → NotWritten r ≡ To n → A
not-to e = let z : ◌≡◌ {A = ℕ} 0 1 = cc in absurd (omega arith)

refused_as : (x y : Bool) (m n : ℕ) (s : Step) → pick x (pick y (To m) (NotWritten 27)) (NotWritten 18) ≡ NotWritten n
    → Refused 0 n ≡ pick x (pick y (IsStep s step_size) (Refused 0 27)) (Refused 0 18)
refused_as true true m n s e = not-to (sym e)
refused_as true false m n s e = let q : n ≡ 27 = cc in ap (λ (k : ℕ). Refused 0 k) q
refused_as false y m n s e = let q : n ≡ 18 = cc in ap (λ (k : ℕ). Refused 0 k) q

module _ (b b' : List ℕ) (at : ℕ) (s : Step) (r : Wrote) (to : r ≡ step_to b at s) (bytes : b' ≡ step_written b at s) where
  pub back_read : (n : ℕ) → s.argument.number < 2 ^ 32 → s.claim.number < 2 ^ 32 → r ≡ To n → field_of (drop at b') ≡ write_and_read_of b at s
  back_read n ha hc e =
      let p = pick-on (values_good s) _ _ (To n) (sym to ∙ e) not-to in
      let q = pick-on (leb (at + step_size) (length b)) _ _ (To n) p.1 not-to in
      let good = p.0 in
      let room = q.0 in
      let l : at + step_size ≤ length b = leb-true (at + step_size) (length b) room in
      let put : b' ≡ put_at b at (bytes_of s) = bytes ∙ ap₂ (λ (x y : Bool). pick x (pick y (put_at b at (bytes_of s)) b) b) good room in
      ap (λ (x : List ℕ). field_of (drop at x)) put ∙ ap field_of (drop-put b (bytes_of s) at (omega arith))
      ∙ step-reads s (drop (at + step_size) b) (record { good = good; argument = ha; claim = hc })
      ∙ sym (ap₂ (λ (x y : Bool). pick x (pick y (IsStep s step_size) (Refused 0 27)) (Refused 0 18)) good room)

  pub back-refused : (n : ℕ) → r ≡ NotWritten n → Refused 0 n ≡ write_and_read_of b at s
  back-refused n e = refused_as (values_good s) (leb (at + step_size) (length b)) (at + step_size) n s (sym to ∙ e)
