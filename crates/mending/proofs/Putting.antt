-- Bytes put behind bytes: laws of a lent buffer and of step fields.
-- Assumes nothing.
use Prim.Native.Nat.{ℕ, ◌+◌, ◌*◌, ◌/◌, ◌≤◌}
use mathlib.Core.Bool.{Bool, true}
use mathlib.Core.List.{List, [], ◌∷◌, ◌++◌, append_assoc, append-nil}
use mathlib.Core.Path.{◌≡◌, refl, sym, ap, ap₂, ◌∙◌}
use native.Mathlib.Decide.{dec_le}
use native.Mathlib.Omega.{arith}
use lib.ListN.{length, take, drop, length-append, length-drop, take-append-drop}
use lib.Seq.{take_at, drop_at, drop-drop, length-take-le}
use lib.Dec.{leb}
use borrow.Author.Tests.{le-leb, lt-leb}
use Rattle.gaps.specs.Report.{note_size}
use Rattle.numbers.specs.Tags.{step_size}
use Rattle.laws.specs.Choice.{pick}
use Rattle.faces.specs.Types.{Step}
use Rattle.wire.specs.Bytes.{end_bytes, put_at, wrote_bytes}
use Rattle.recording.specs.Recording.{values_good, bytes_of, step_written}
use Rattle.recording.specs.Whole.{text_of}
use Rattle.mending.specs.Going.{fields_of}

-- ---- a buffer

pub put-none : (b : List ℕ) (at : ℕ) → put_at b at [] ≡ b
put-none b at =
    let z : at + 0 ≡ at = omega arith in
    ap₂ (λ (l : List ℕ) (n : ℕ). l ++ drop n b) (append-nil (take at b)) z ∙ take-append-drop at b

pub length-put : (b xs : List ℕ) (at : ℕ) → at + length xs ≤ length b → length (put_at b at xs) ≡ length b
length-put b xs at h =
    length-append (take at b ++ xs) (drop (at + length xs) b)
    ∙ omega (arith, length-append (take at b) xs, length-take-le at b (omega arith), length-drop (at + length xs) b)

-- what is put behind what was put
pub put-more : (b xs ys : List ℕ) (at n : ℕ) → at ≤ length b → n ≡ at + length xs → put_at (put_at b at xs) n ys ≡ put_at b at (xs ++ ys)
put-more b xs ys at n h e =
    let front : length (take at b ++ xs) ≡ n = length-append (take at b) xs ∙ omega (arith, length-take-le at b h) in
    let both : at + length xs + length ys ≡ at + length (xs ++ ys) = omega (arith, length-append xs ys) in
    let taken : take n ((take at b ++ xs) ++ drop (at + length xs) b) ≡ take at b ++ xs = take_at (take at b ++ xs) (drop (at + length xs) b) n front in
    let left : drop (n + length ys) ((take at b ++ xs) ++ drop (at + length xs) b) ≡ drop (at + length (xs ++ ys)) b =
    sym (drop-drop (length ys) n ((take at b ++ xs) ++ drop (at + length xs) b))
    ∙ ap (drop (length ys)) (drop_at (take at b ++ xs) (drop (at + length xs) b) n front)
    ∙ drop-drop (length ys) (at + length xs) b
    ∙ ap (λ (k : ℕ). drop k b) both in
    ap₂ (λ (l r : List ℕ). (l ++ ys) ++ r) taken left
    ∙ ap (λ (l : List ℕ). l ++ drop (at + length (xs ++ ys)) b) (append_assoc (take at b) xs ys)

-- a text that fits is put
pub wrote-fits : (b xs : List ℕ) (at : ℕ) → at + length xs ≤ length b → wrote_bytes b at xs ≡ put_at b at xs
wrote-fits b xs at h = ap (λ (x : Bool). pick x (put_at b at xs) b) (le-leb (at + length xs) (length b) h)

pub step_fits : (b : List ℕ) (at : ℕ) (s : Step) → values_good s ≡ true → at + step_size ≤ length b → step_written b at s ≡ put_at b at (bytes_of s)
step_fits b at s good h = ap (λ (x : Bool). pick x (wrote_bytes b at (bytes_of s)) b) good ∙ wrote-fits b (bytes_of s) at h

-- ---- step fields

pub length_fields : (rs : List Step) → length (fields_of rs) ≡ length rs * step_size
unfolding fields_of
length_fields [] = refl
length_fields (s ∷ rs) = length-append (bytes_of s) (fields_of rs) ∙ omega (arith, length_fields rs)

pub fields-append : (rs qs : List Step) → fields_of (rs ++ qs) ≡ fields_of rs ++ fields_of qs
unfolding fields_of
fields-append [] qs = refl
fields-append (s ∷ rs) qs = ap (λ (l : List ℕ). bytes_of s ++ l) (fields-append rs qs) ∙ sym (append_assoc (bytes_of s) (fields_of rs) (fields_of qs))

pub fields-one : (s : Step) → fields_of (s ∷ []) ≡ bytes_of s
unfolding fields_of
fields-one s = append-nil (bytes_of s)

pub text-fields : (rs : List Step) → text_of rs ≡ fields_of rs ++ end_bytes
unfolding fields_of text_of
text-fields [] = refl
text-fields (s ∷ rs) = ap (λ (l : List ℕ). bytes_of s ++ l) (text-fields rs) ∙ sym (append_assoc (bytes_of s) (fields_of rs) end_bytes)

-- ---- room, counted in notes

pub notes-room : (n m : ℕ) → leb n (m / note_size) ≡ leb (n * note_size) m
notes-room n m = go (dec_le n (m / note_size))
  where
    go : Dec (n ≤ m / note_size) → leb n (m / note_size) ≡ leb (n * note_size) m
    go (yes h) = le-leb n (m / note_size) h ∙ sym (le-leb (n * note_size) m (omega arith))
    go (no h) = lt-leb n (m / note_size) (omega (arith, h)) ∙ sym (lt-leb (n * note_size) m (omega (arith, h)))
