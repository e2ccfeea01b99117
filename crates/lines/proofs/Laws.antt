-- Laws of lines: the digits that `io::decimal` makes are those of `decimal_of`, and a line is put into a buffer piece by piece.
-- Assumes nothing.
use Prim.Native.Nat.{ℕ, zero, suc, ◌+◌, ◌-◌, ◌*◌, ◌/◌, ◌%◌, ◌^◌, ◌<◌, ◌≤◌, min}
use mathlib.Core.Bool.{Bool, true, false}
use mathlib.Core.List.{List, [], ◌∷◌, ◌++◌, append_assoc}
use mathlib.Core.Path.{◌≡◌, refl, sym, ap, ◌∙◌}
use native.Mathlib.Nat.{pow-suc, pow-le-pow_right, one-le-pow}
use native.Mathlib.Numerals.{add-one}
use native.Mathlib.Omega.{arith}
use lib.Dec.{ltb, leb}
use lib.ListN.{length, take, drop, get_or, length-append}
use lib.Seq.{drop-cons, drop-length, take_at, length-take-le}
use borrow.Author.Tests.{lt-ltb, le-ltb, le-leb, leb-true, leb-false}
use Rattle.std.proofs.lemmas.List.{take_min}
use Rattle.io.specs.Digits.{last_digits, IsDigitCount}
use Rattle.wire.specs.Bytes.{put_at, Written}
use Rattle.wire.specs.declared.Wrote.{Wrote}
use Rattle.wire.specs.declared.Wrote.TheVariants.{To, Refused}
use Rattle.wire.proofs.Pieces.{Put, put_same, put-more, short-written}
use Rattle.lines.specs.Lines.{spelled, decimal_of, number_bytes, tail_of, line_bytes}

-- ---- digits

-- the last digit, where there are others before it, and where it is the only one
spelled-more : (most n : ℕ) → 10 ≤ n → spelled (suc most) n ≡ spelled most (n / 10) ++ ((48 + n % 10) ∷ [])
unfolding spelled
spelled-more most n h = rw (le-ltb n 10 h)

spelled-one : (most n : ℕ) → n < 10 → spelled (suc most) n ≡ (48 + n) ∷ []
unfolding spelled
spelled-one most n h = rw (lt-ltb n 10 h)

-- the last digit in ASCII
last-digit : (k n : ℕ) → last_digits 10 (suc k) n ≡ last_digits 10 k (n / 10) ++ ((48 + n % 10) ∷ [])
last-digit k n = let g : ltb (n % 10) 10 ≡ true = lt-ltb (n % 10) 10 (omega arith) in rw g

-- a number of more than one digit: 10 at least, and the others are those of its tenth
tenth : (k n : ℕ) → IsDigitCount 10 1 n (suc (suc k)) → (10 ≤ n) × IsDigitCount 10 1 (n / 10) (suc k)
tenth k n f =
    let e : suc (suc k) - 1 ≡ suc k = omega arith in
    let d : suc k - 1 ≡ k = omega arith in
    let l : 10 ^ suc k ≤ n = rw e at (f.2 (omega arith)) in
    let h : n < 10 ^ suc (suc k) = f.1 in
    let p = pow-suc 10 (suc k) in
    let q = pow-suc 10 k in
    let o = one-le-pow k 10 (omega arith) in
    (omega arith, (omega arith, omega arith, λ m. rw d (omega arith)))

-- so many digits, and no fewer, spell the number
digits-spelled : (most k n : ℕ) → n < most → IsDigitCount 10 1 n k → last_digits 10 k n ≡ spelled most n
digits-spelled zero k n h f = absurd (omega arith)
digits-spelled (suc most) zero n h f = absurd (omega (arith, f.0))
digits-spelled (suc most) (suc zero) n h f =
    let l : n < 10 = omega (arith, f.1) in
    let e : n % 10 ≡ n = omega arith in
    last-digit 0 n ∙ rw e (sym (spelled-one most n l))
digits-spelled (suc most) (suc (suc k)) n h f =
    let t = tenth k n f in
    let l : n / 10 < most = omega (arith, t.0) in
    last-digit (suc k) n ∙ ap (λ (x : List ℕ). x ++ ((48 + n % 10) ∷ [])) (digits-spelled most (suc k) (n / 10) l t.1) ∙ sym (spelled-more most n t.0)

pub digits_decimal : (k n : ℕ) → IsDigitCount 10 1 n k → last_digits 10 k n ≡ decimal_of n
unfolding decimal_of
digits_decimal k n f = digits-spelled (suc n) k n (omega arith) f

-- a number of 64 bits has twenty digits at most
pub digits-most : (k n : ℕ) → n < 2 ^ 64 → IsDigitCount 10 1 n k → k ≤ 20
digits-most k n h f = go (leb k 20) refl
  where
    go : (b : Bool) → leb k 20 ≡ b → k ≤ 20
    go true e = leb-true k 20 e
    go false e =
        let l : 20 < k = leb-false k 20 e in
        let m : 20 ≤ k - 1 = omega arith in
        let p : 10 ^ 20 ≤ 10 ^ (k - 1) = pow-le-pow_right (omega arith) m in
        absurd (omega (arith, f.2 (omega arith)))

-- ---- pieces

-- what was put, and what stood before it
take_put : (b xs : List ℕ) (at : ℕ) → at + length xs ≤ length b → take (at + length xs) (put_at b at xs) ≡ take at b ++ xs
take_put b xs at h =
    let l = length-take-le at b (omega arith) in
    take_at (take at b ++ xs) (drop (at + length xs) b) (at + length xs) (omega (arith, length-append (take at b) xs))

-- a piece that has room
piece : (b b' xs : List ℕ) (at : ℕ) (r : Wrote) → Written b at xs r b' → at + length xs ≤ length b → Put b at xs (at + length xs) b'
piece b b' xs at r w h = let t = le-leb (at + length xs) (length b) h in record { next = refl; bytes = rw (w.bytes, t) }

-- and one behind it
pub both-pieces : (b b₁ b₂ xs ys : List ℕ) (at o : ℕ) (r₁ r₂ : Wrote) → Written b at xs r₁ b₁ → Written b₁ o ys r₂ b₂ → o ≡ at + length xs → at + length (xs ++ ys) ≤ length b
    → (r₂ ≡ To (at + length (xs ++ ys))) × (b₂ ≡ put_at b at (xs ++ ys))
both-pieces b b₁ b₂ xs ys at o r₁ r₂ w₁ w₂ e h =
    let l = length-append xs ys in
    let room : at + length xs ≤ length b = omega arith in
    let w : Written b₁ (at + length xs) ys r₂ b₂ = rw e at w₂ in
    let p = piece b b₁ xs at r₁ w₁ room in
    let s = put_same b b₁ xs at (at + length xs) p room in
    let n : at + length (xs ++ ys) ≡ at + length xs + length ys = omega arith in
    let m = put-more b b₁ xs at (at + length xs) p room b₂ ys (at + length xs + length ys) h w.bytes refl in
    let t = le-leb (at + length xs + length ys) (length b₁) (omega arith) in
    (rw (n, w.answer, t), m.bytes)

-- ---- what stands behind the word, put number by number: the text up to here and what is ahead make up the whole

tail_none : tail_of [] ≡ 10 ∷ []
unfolding tail_of
tail_none = refl

tail_more : (n : ℕ) (ns : List ℕ) → tail_of (n ∷ ns) ≡ number_bytes n ++ tail_of ns
unfolding tail_of
tail_more n ns = refl

pub record Ahead (b₀ ns : List ℕ) (b : List ℕ) (at i : ℕ) : Type 0 where
  pub same : length b ≡ length b₀
  pub upto : i ≤ length ns
  pub near : at ≤ 21 * i
  pub text : take at b ++ tail_of (drop i ns) ≡ tail_of ns

pub ahead-start : (b ns : List ℕ) → Ahead b ns b 0 0
ahead-start b ns = record { same = refl; upto = omega arith; near = omega arith; text = refl }

module _ {b₀ ns b : List ℕ} {at i : ℕ} (a : Ahead b₀ ns b at i) where
  pub ahead_step : (b' : List ℕ) (at' : ℕ) → i < length ns → at + 21 ≤ length b → b' ≡ put_at b at (number_bytes (get_or ns i 0)) → at' ≡ at + length (number_bytes (get_or ns i 0)) → at' ≤ at + 21 → Ahead b₀ ns b' at' (i + 1)
  ahead_step b' at' l room e n m =
      let xs = number_bytes (get_or ns i 0) in
      let fits : at + length xs ≤ length b = omega arith in
      let s = put_same b b' xs at (at + length xs) (record { next = refl; bytes = e }) fits in
      record {
        same = s ∙ a.same;
        upto = omega arith;
        near = omega (arith, a.near);
        text = ap (λ (k : ℕ). take k b' ++ tail_of (drop (i + 1) ns)) n ∙ ap (λ (x : List ℕ). take (at + length xs) x ++ tail_of (drop (i + 1) ns)) e
            ∙ ap (λ (x : List ℕ). x ++ tail_of (drop (i + 1) ns)) (take_put b xs at fits) ∙ append_assoc (take at b) xs (tail_of (drop (i + 1) ns))
            ∙ ap (λ (x : List ℕ). take at b ++ x) (sym (tail_more (get_or ns i 0) (drop (i + 1) ns)) ∙ ap tail_of (sym (rw (← add-one) at (drop-cons ns i 0 l))))
            ∙ a.text;
      }

  pub ahead-done : (b' : List ℕ) (r : Wrote) → length ns ≤ i → at + 1 ≤ length b → Written b at (10 ∷ []) r b' → take (at + 1) b' ≡ tail_of ns
  ahead-done b' r l room w =
      let e : i ≡ length ns = omega (arith, a.upto) in
      let t = le-leb (at + 1) (length b) room in
      let p : b' ≡ put_at b at (10 ∷ []) = rw (w.bytes, t) in
      ap (take (at + 1)) p ∙ take_put b (10 ∷ []) at room
      ∙ ap (λ (x : List ℕ). take at b ++ x) (sym (ap tail_of (ap (λ (k : ℕ). drop k ns) e ∙ drop-length ns) ∙ tail_none)) ∙ a.text

-- ---- the whole line

-- of so many numbers, those that a line has room for: all that there are
pub taken-all : (ns : List ℕ) (count : ℕ) → length ns ≡ 5 → take (min count 5) ns ≡ take count ns
taken-all ns count e = rw (← e) (take_min count ns)

module _ (b word ns tail : List ℕ) (at size : ℕ) (room : size ≤ length tail) (made : take size tail ≡ tail_of ns) where
  line-is : line_bytes word ns ≡ word ++ take size tail
  unfolding line_bytes
  line-is = ap (λ (l : List ℕ). word ++ l) (sym made)

  line-size : length (word ++ take size tail) ≡ length word + size
  line-size = length-append word (take size tail) ∙ ap (λ (k : ℕ). length word + k) (length-take-le size tail room)

  -- a line that has no room, and one that is put in two pieces
  pub line-short : length b < at + (length word + size) → Written b at (line_bytes word ns) (Refused 27) b
  line-short h = rw line-is (short-written b (word ++ take size tail) at (omega (arith, line-size)))

  pub line-put : (b₁ b₂ : List ℕ) (r₁ r₂ : Wrote) → at + (length word + size) ≤ length b → Written b at word r₁ b₁ → Written b₁ (at + length word) (take size tail) r₂ b₂ → Written b at (line_bytes word ns) r₂ b₂
  line-put b₁ b₂ r₁ r₂ h w₁ w₂ =
      let fits : at + length (word ++ take size tail) ≤ length b = omega (arith, line-size) in
      let k = both-pieces b b₁ b₂ word (take size tail) at (at + length word) r₁ r₂ w₁ w₂ refl fits in
      let t = le-leb (at + length (word ++ take size tail)) (length b) fits in
      rw line-is (record { answer = rw t k.0; bytes = rw t k.1 })
