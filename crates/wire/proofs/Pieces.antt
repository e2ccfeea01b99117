-- A text put into a buffer piece by piece.
-- Assumes nothing.
use Prim.Native.Nat.{ℕ, zero, suc, ◌+◌, ◌*◌, ◌<◌, ◌≤◌}
use mathlib.Core.Bool.{Bool, true}
use mathlib.Core.List.{List, [], ◌++◌, append_assoc, append-nil}
use mathlib.Core.Path.{◌≡◌, refl, sym, ap, ap₂, subst, ◌∙◌}
use native.Mathlib.Decide.{le_ind}
use native.Mathlib.Numerals.{add-one}
use native.Mathlib.Omega.{arith}
use lib.ListN.{length, take, drop, length-append, length-drop, take-append-drop}
use lib.Seq.{drop-drop, drop_at, take_at, length-take-le}
use lib.Dec.{leb}
use borrow.Author.Tests.{le-leb, lt-leb}
use Rattle.laws.specs.Choice.{pick}
use Rattle.laws.specs.Loop.{sum_below}
use Rattle.wire.specs.Bytes.{put_at, wrote_bytes, Written, build}
use Rattle.wire.specs.declared.Wrote.{Wrote}
use Rattle.wire.specs.declared.Wrote.TheVariants.{To, Refused}

-- ---- one piece behind another

put-length : (b xs : List ℕ) (at : ℕ) → at + length xs ≤ length b → length (put_at b at xs) ≡ length b
put-length b xs at h =
    length-append (take at b ++ xs) (drop (at + length xs) b)
    ∙ ap₂ ◌+◌ (length-append (take at b) xs ∙ ap (λ (k : ℕ). k + length xs) (length-take-le at b (omega arith))) (length-drop (at + length xs) b)
    ∙ omega arith

put-put : (b xs ys : List ℕ) (at : ℕ) → at + length xs ≤ length b → put_at (put_at b at xs) (at + length xs) ys ≡ put_at b at (xs ++ ys)
put-put b xs ys at h =
    let l : length (take at b ++ xs) ≡ at + length xs = length-append (take at b) xs ∙ ap (λ (k : ℕ). k + length xs) (length-take-le at b (omega arith)) in
    let t : take (at + length xs) (put_at b at xs) ≡ take at b ++ xs = take_at (take at b ++ xs) (drop (at + length xs) b) (at + length xs) l in
    let d : drop (at + length xs) (put_at b at xs) ≡ drop (at + length xs) b = drop_at (take at b ++ xs) (drop (at + length xs) b) (at + length xs) l in
    let n : at + length xs + length ys ≡ at + length (xs ++ ys) = omega (arith, length-append xs ys) in
    let e : drop (at + length xs + length ys) (put_at b at xs) ≡ drop (at + length (xs ++ ys)) b =
    sym (drop-drop (length ys) (at + length xs) (put_at b at xs)) ∙ ap (drop (length ys)) d ∙ drop-drop (length ys) (at + length xs) b
    ∙ ap (λ (k : ℕ). drop k b) n in
    ap₂ (λ (u v : List ℕ). (u ++ ys) ++ v) t e ∙ ap (λ (u : List ℕ). u ++ drop (at + length (xs ++ ys)) b) (append_assoc (take at b) xs ys)

-- xs stands in the buffer from a place on, and o is where the text goes on
pub record Put (b₀ : List ℕ) (at : ℕ) (xs : List ℕ) (o : ℕ) (b : List ℕ) : Type 0 where
  pub next : o ≡ at + length xs
  pub bytes : b ≡ put_at b₀ at xs

pub put-none : (b : List ℕ) (at : ℕ) → Put b at [] at b
put-none b at =
    let e : at + 0 ≡ at = omega arith in
    record {
      next = sym e;
      bytes = sym (ap₂ (λ (u v : List ℕ). u ++ v) (append-nil (take at b)) (ap (λ (k : ℕ). drop k b) e) ∙ take-append-drop at b);
    }

module _ (b₀ b xs : List ℕ) (at o : ℕ) (p : Put b₀ at xs o b) (room : at + length xs ≤ length b₀) where
  pub put_same : length b ≡ length b₀
  put_same = ap length p.bytes ∙ put-length b₀ xs at room

  -- one piece more that fits
  pub put-more : (b' ys : List ℕ) (o' : ℕ) → at + length (xs ++ ys) ≤ length b₀ → b' ≡ wrote_bytes b o ys → o' ≡ o + length ys → Put b₀ at (xs ++ ys) o' b'
  put-more b' ys o' fits w n =
      let l = length-append xs ys in
      let s = put_same in
      let m = p.next in
      let t : leb (o + length ys) (length b) ≡ true = le-leb (o + length ys) (length b) (omega arith) in
      record {
        next = omega arith;
        bytes = w ∙ ap (λ (x : Bool). pick x (put_at b o ys) b) t ∙ ap₂ (λ (u : List ℕ) (k : ℕ). put_at u k ys) p.bytes m ∙ put-put b₀ xs ys at room;
      }

  -- all of a text
  pub put_written : Written b₀ at xs (To o) b
  put_written =
      let t = le-leb (at + length xs) (length b₀) room in
      record { answer = rw t (ap To p.next); bytes = rw t p.bytes }

pub short-written : (b xs : List ℕ) (at : ℕ) → length b < at + length xs → Written b at xs (Refused 27) b
short-written b xs at h = let t = lt-leb (at + length xs) (length b) h in record { answer = rw t; bytes = rw t }

-- ---- pieces counted

pub build-one : (f : ℕ → List ℕ) (n : ℕ) → build f (n + 1) ≡ build f n ++ f n
unfolding build
build-one f n = rw add-one

pub build-le : (f : ℕ → List ℕ) (n i : ℕ) → i ≤ n → length (build f i) ≤ length (build f n)
unfolding build
build-le f n i =
    le_ind (λ (m : ℕ). length (build f i) ≤ length (build f m)) (omega arith)
    (λ m h ih. let e = length-append (build f m) (f m) in omega arith) n

pub build-sum : (f : ℕ → List ℕ) (n : ℕ) → length (build f n) ≡ sum_below (λ (i : ℕ). length (f i)) n
unfolding build sum_below
build-sum f zero = refl
build-sum f (suc n) = length-append (build f n) (f n) ∙ ap (λ (k : ℕ). k + length (f n)) (build-sum f n)

pub build-size : (f : ℕ → List ℕ) (k n : ℕ) → ((i : ℕ) → length (f i) ≡ k) → length (build f n) ≡ n * k
unfolding build
build-size f k zero h = omega arith
build-size f k (suc n) h = omega (arith, length-append (build f n) (f n), h n, build-size f k n h)

-- ---- a loop that puts pieces: all n of them fit, i are put, and o is where the text goes on

pub record Putting (b₀ : List ℕ) (at : ℕ) (f : ℕ → List ℕ) (n i o : ℕ) (b : List ℕ) : Type 0 where
  pub room : at + length (build f n) ≤ length b₀
  pub upto : i ≤ n
  pub put : Put b₀ at (build f i) o b

pub putting-start : (b₀ : List ℕ) (at : ℕ) (f : ℕ → List ℕ) (n : ℕ) → at + length (build f n) ≤ length b₀ → Putting b₀ at f n 0 at b₀
unfolding build
putting-start b₀ at f n room = record { room = room; upto = omega arith; put = put-none b₀ at }

module _ {b₀ : List ℕ} {at : ℕ} {f : ℕ → List ℕ} {n i o : ℕ} {b : List ℕ} (p : Putting b₀ at f n i o b) where
  pub putting-same : length b ≡ length b₀
  putting-same = let l = build-le f n i p.upto in put_same b₀ b (build f i) at o p.put (omega arith)

  pub putting-room : i < n → o + length (f i) ≤ length b₀
  putting-room l = let k = build-le f n (i + 1) (omega arith) in omega (arith, p.put.next, ap length (build-one f i), length-append (build f i) (f i))

  pub putting-step : i < n → {r : Wrote} {b' : List ℕ} {size : ℕ} → Written b o (f i) r b' → size ≡ length (f i) → Putting b₀ at f n (i + 1) (o + size) b'
  putting-step l {r} {b'} {size} w z =
      let m = build-le f n i p.upto in
      let k = build-le f n (i + 1) (omega arith) in
      let e = build-one f i in
      record {
        room = p.room;
        upto = omega arith;
        put = rw e (put-more b₀ b (build f i) at o p.put (omega arith) b' (f i) (o + size) (omega (arith, ap length e)) w.bytes (ap (λ (q : ℕ). o + q) z));
      }

  pub putting-done : n ≤ i → Written b₀ at (build f n) (To o) b
  putting-done l =
      let e : i ≡ n = omega (arith, p.upto) in
      put_written b₀ b (build f n) at o (subst (λ (k : ℕ). Put b₀ at (build f k) o b) e p.put) p.room
