-- Laws of bytes: a number and its bytes, the bytes at the front of a text, and what an answer to writing tells.
-- Assumes nothing.
use Prim.Native.Nat.{ℕ, zero, suc, ◌-◌, ◌+◌, ◌/◌, ◌%◌, ◌<◌, ◌≤◌, ◌^◌}
use mathlib.Core.Path.{◌≡◌, refl, sym, ap, ap₂, ◌∙◌}
use mathlib.Core.Bool.{Bool}
use mathlib.Core.List.{List, [], ◌∷◌, ◌++◌, append_assoc}
use native.Mathlib.Omega.{arith}
use lib.ListN.{length, get_or, take, drop, length-drop}
use lib.Seq.{drop-cons, drop-drop, drop_at, take_at, take-add, take-append_seam, length-take-le, take_all}
use borrow.Author.Tests.{le-leb, lt-leb, leb-true, leb-false}
use lib.Dec.{leb}
use Rattle.laws.specs.Choice.{pick}
use Rattle.laws.proofs.Choosing.{pick-on, pick-off}
use Rattle.wire.specs.Bytes.{wrote_refusal, wrote_length, number_of, put_at, Written, build}
use Rattle.wire.specs.declared.Wrote.{Wrote}
use Rattle.wire.specs.declared.Wrote.TheVariants.{To, Refused}

-- ---- a number and its bytes

-- the bytes of a number are its own
pub be32-bytes : (n : ℕ) → n < 2 ^ 32 → number_of (n / 256 / 256 / 256 % 256) (n / 256 / 256 % 256) (n / 256 % 256) (n % 256) ≡ n
be32-bytes n h = omega arith

-- and the number of four bytes has these four
pub bytes32-be : (n a b c d : ℕ) → n ≡ number_of a b c d → a < 256 → b < 256 → c < 256 → d < 256
    → (n / 256 / 256 / 256 % 256 ≡ a) × (n / 256 / 256 % 256 ≡ b) × (n / 256 % 256 ≡ c) × (n % 256 ≡ d)
bytes32-be n a b c d e ha hb hc hd = omega arith

-- four bytes make a number of 32 bits
pub be32-fits : (a b c d : ℕ) → a < 256 → b < 256 → c < 256 → d < 256 → number_of a b c d < 2 ^ 32
be32-fits a b c d ha hb hc hd = omega arith

-- ---- the front of a text

-- every byte of a text is below 256
abbrev pub Bytes : List ℕ → Type 0
Bytes t = (i : ℕ) → get_or t i 0 < 256

-- what code takes as the part of a slice from a place on is all that is ahead
pub rest-is : (s : List ℕ) (at : ℕ) → take (length s - at) (drop at s) ≡ drop at s
rest-is s at = take_all (length s - at) (drop at s) (let e = length-drop at s in omega arith)

-- n bytes from place i on, one by one
abbrev pub read : List ℕ → ℕ → ℕ → List ℕ
read t i zero = []
read t i (suc n) = get_or t i 0 ∷ read t (suc i) n

drop-read : (n : ℕ) (t : List ℕ) (i : ℕ) → i + n ≤ length t → drop i t ≡ read t i n ++ drop (i + n) t
drop-read zero t i h = let e : i ≡ i + 0 = omega arith in ap (λ (k : ℕ). drop k t) e
drop-read (suc n) t i h =
    let e : suc i + n ≡ i + suc n = omega arith in
    drop-cons t i 0 (omega arith)
    ∙ ap (λ (r : List ℕ). get_or t i 0 ∷ r) (drop-read n t (suc i) (omega arith) ∙ ap (λ (k : ℕ). read t (suc i) n ++ drop k t) e)

-- the first n bytes are these
pub front_read : (n : ℕ) (t xs : List ℕ) → n ≤ length t → read t 0 n ≡ xs → t ≡ xs ++ drop n t
front_read n t xs h r =
    let e : 0 + n ≡ n = omega arith in
    drop-read n t 0 (omega arith) ∙ ap₂ (λ (l : List ℕ) (k : ℕ). l ++ drop k t) r e

-- ---- a buffer

-- a text copied piece by piece: what the buffer holds once the piece xs, next in the text, is put
pub grown : (s b₀ b xs : List ℕ) (at : ℕ) → at ≤ length s → length s ≤ length b₀ → b ≡ take at s ++ drop at b₀
    → drop at s ≡ xs ++ drop (length xs) (drop at s) → put_at b at xs ≡ take (at + length xs) s ++ drop (at + length xs) b₀
grown s b₀ b xs at hs hb e f =
    let la : length (take at s) ≡ at = length-take-le at s hs in
    let t₁ : take at b ≡ take at s = ap (take at) e ∙ take_at (take at s) (drop at b₀) at la in
    let t₂ : drop (at + length xs) b ≡ drop (at + length xs) b₀ =
    sym (drop-drop (length xs) at b)
    ∙ ap (drop (length xs)) (ap (drop at) e ∙ drop_at (take at s) (drop at b₀) at la)
    ∙ drop-drop (length xs) at b₀ in
    let t₃ : take (at + length xs) s ≡ take at s ++ xs =
    take-add at (length xs) s
    ∙ ap (λ (l : List ℕ). take at s ++ l) (ap (take (length xs)) f ∙ take-append_seam xs (drop (length xs) (drop at s))) in
    ap₂ (λ (l r : List ℕ). (l ++ xs) ++ r) t₁ t₂ ∙ ap (λ (l : List ℕ). l ++ drop (at + length xs) b₀) (sym t₃)

-- what was put stands there
pub drop-put : (b xs : List ℕ) (at : ℕ) → at ≤ length b → drop at (put_at b at xs) ≡ xs ++ drop (at + length xs) b
drop-put b xs at h = ap (drop at) (append_assoc (take at b) xs _) ∙ drop_at (take at b) _ at (length-take-le at b h)

-- ---- an answer to writing, told apart

module _ (b b' xs : List ℕ) (at : ℕ) (r : Wrote) (w : Written b at xs r b') where
  -- it fitted, and the bytes stand there
  pub record Stands (k : ℕ) : Type 0 where
    pub room : at + length xs ≤ length b
    pub next : k ≡ at + length xs
    pub bytes : b' ≡ put_at b at xs
    pub behind : drop at b' ≡ xs ++ drop (at + length xs) b

  pub written : {k : ℕ} → r ≡ To k → Stands k
  written {k} e =
      let t = pick-on (leb (at + length xs) (length b)) _ _ _ (sym w.answer ∙ e) other in
      let l : at + length xs ≤ length b = leb-true (at + length xs) (length b) t.0 in
      let n : at + length xs ≡ k = let q = t.1 in cc in
      let p : b' ≡ put_at b at xs = w.bytes ∙ ap (λ (x : Bool). pick x (put_at b at xs) b) t.0 in
      record { room = l; next = sym n; bytes = p; behind = ap (drop at) p ∙ drop-put b xs at (omega arith) }
    where
      other : Refused 27 ≡ To k → ⊥
      other q = let z : ◌≡◌ {A = ℕ} 0 1 = cc in omega arith

  -- it did not fit, and nothing has changed
  pub record Kept (k : ℕ) : Type 0 where
    pub short : length b < at + length xs
    pub number : k ≡ 27
    pub bytes : b' ≡ b

  pub refused : {k : ℕ} → r ≡ Refused k → Kept k
  refused {k} e =
      let t = pick-off (leb (at + length xs) (length b)) _ _ _ (sym w.answer ∙ e) other in
      let n : 27 ≡ k = let q = t.1 in cc in
      record {
        short = leb-false (at + length xs) (length b) t.0;
        number = sym n;
        bytes = w.bytes ∙ ap (λ (x : Bool). pick x (put_at b at xs) b) t.0;
      }
    where
      other : To (at + length xs) ≡ Refused k → ⊥
      other q = let z : ◌≡◌ {A = ℕ} 0 1 = cc in omega arith

-- where the bytes fit they are written, and where they do not it is 27 and each byte stays
pub fits-written : (b b' xs : List ℕ) (at : ℕ) (r : Wrote) → Written b at xs r b' → at + length xs ≤ length b
    → (wrote_refusal r ≡ 0) × (wrote_length r ≡ at + length xs) × (b' ≡ put_at b at xs)
fits-written b b' xs at r w h = let t = le-leb (at + length xs) (length b) h in (rw (w.answer, t), rw (w.answer, t), rw (w.bytes, t))

pub short-refused : (b b' xs : List ℕ) (at : ℕ) (r : Wrote) → Written b at xs r b' → length b < at + length xs → (wrote_refusal r ≡ 27) × (b' ≡ b)
short-refused b b' xs at r w h = let t = lt-leb (at + length xs) (length b) h in (rw (w.answer, t), rw (w.bytes, t))

-- writing has one answer, and leaves one buffer
pub written_once : (b xs : List ℕ) (at : ℕ) (r r' : Wrote) (c c' : List ℕ) → Written b at xs r c → Written b at xs r' c' → (r ≡ r') × (c ≡ c')
written_once b xs at r r' c c' w w' = (w.answer ∙ sym w'.answer, w.bytes ∙ sym w'.bytes)

-- ---- a text of pieces

-- pieces that agree make the same text
pub build-same : (f g : ℕ → List ℕ) (n : ℕ) → ((k : ℕ) → k < n → f k ≡ g k) → build f n ≡ build g n
unfolding build
build-same f g zero h = refl
build-same f g (suc n) h = ap₂ (λ (l r : List ℕ). l ++ r) (build-same f g n (λ k b. h k (omega arith))) (h n (omega arith))
