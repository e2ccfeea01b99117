-- A text put into a lent buffer, piece by piece.
-- Assumes nothing.
use Prim.Native.Nat.{ℕ, ◌+◌, ◌-◌, ◌≤◌}
use mathlib.Core.Bool.{Bool}
use mathlib.Core.List.{List, [], ◌++◌, append-nil}
use mathlib.Core.Path.{◌≡◌, refl, sym, ap, ap₂, ◌∙◌}
use native.Mathlib.Omega.{arith}
use lib.ListN.{length, take, drop, length-append, length-drop}
use lib.Seq.{drop-drop, drop_at, length-take-le, take-length}
use borrow.Author.Tests.{le-leb}
use Rattle.laws.specs.Choice.{pick}
use Rattle.wire.specs.Bytes.{put_at, wrote_bytes}
use Rattle.wire.proofs.Laws.{grown}

-- the buffer begins with as much of the text T as is written, and has kept the rest of its own
pub record Putting (T b₀ b : List ℕ) (to : ℕ) : Type 0 where
  pub within : to ≤ length T
  pub same : length b ≡ length b₀
  pub bytes : b ≡ take to T ++ drop to b₀

-- nothing is written yet
pub putting-starts : (T b₀ : List ℕ) → Putting T b₀ b₀ 0
putting-starts T b₀ = record { within = omega arith; same = refl; bytes = refl }

-- bytes that come next in the text are put behind those that stand there
module _ (T b₀ b : List ℕ) (to : ℕ) (w : Putting T b₀ b to) (xs rest : List ℕ) (next : drop to T ≡ xs ++ rest) where
  -- they have room in the text
  pub putting-fits : to + length xs ≤ length T
  putting-fits = omega (arith, length-drop to T, ap length next ∙ length-append xs rest, w.within)

  left : drop (length xs) (drop to T) ≡ rest
  left = ap (drop (length xs)) next ∙ drop_at xs rest (length xs) refl

  -- what comes behind them
  pub putting-ahead : drop (to + length xs) T ≡ rest
  putting-ahead = sym (drop-drop (length xs) to T) ∙ left

  module _ (room : length T ≤ length b₀) (b' : List ℕ) (put : b' ≡ wrote_bytes b to xs) where
    put-bytes : b' ≡ take (to + length xs) T ++ drop (to + length xs) b₀
    put-bytes =
        put ∙ ap (λ (x : Bool). pick x (put_at b to xs) b) (le-leb (to + length xs) (length b) (omega (arith, putting-fits, w.same, room)))
        ∙ grown T b₀ b xs to w.within room w.bytes (next ∙ ap (λ (l : List ℕ). xs ++ l) (sym left))

    -- they stand there
    pub putting-next : Putting T b₀ b' (to + length xs)
    putting-next = record {
      within = putting-fits;
      same = ap length put-bytes ∙ length-append (take (to + length xs) T) (drop (to + length xs) b₀)
          ∙ ap₂ ◌+◌ (length-take-le (to + length xs) T putting-fits) (length-drop (to + length xs) b₀) ∙ omega (arith, putting-fits, room);
      bytes = put-bytes;
    }

-- the last bytes of the text are put: all of it stands in the buffer
pub putting-ended : (T b₀ b : List ℕ) (to : ℕ) → Putting T b₀ b to → length T ≤ length b₀ → (xs : List ℕ) → drop to T ≡ xs → (b' : List ℕ) → b' ≡ wrote_bytes b to xs → b' ≡ put_at b₀ 0 T
putting-ended T b₀ b to w room xs e b' put =
    let next : drop to T ≡ xs ++ [] = e ∙ sym (append-nil xs) in
    let all : to + length xs ≡ length T = omega (arith, length-drop to T, ap length e, w.within) in
    let none : length T ≡ 0 + length T = omega arith in
    (putting-next T b₀ b to w xs [] next room b' put).bytes
    ∙ ap (λ (n : ℕ). take n T ++ drop n b₀) all ∙ ap₂ (λ (l : List ℕ) (n : ℕ). l ++ drop n b₀) (take-length T) none

-- a buffer in which the beginning of the text stands
module _ (T b₀ b : List ℕ) (to : ℕ) (w : Putting T b₀ b to) where
  behind-same : drop to b ≡ drop to b₀
  behind-same = ap (drop to) w.bytes ∙ drop_at (take to T) (drop to b₀) to (length-take-le to T w.within)

  -- the rest may be put over it
  pub putting-on : Putting T b b to
  putting-on = record { within = w.within; same = refl; bytes = w.bytes ∙ ap (λ (l : List ℕ). take to T ++ l) (sym behind-same) }

  -- and comes to the same
  pub putting-over : put_at b 0 T ≡ put_at b₀ 0 T
  putting-over =
      let k : 0 + length T ≡ to + (length T - to) = omega (arith, w.within) in
      ap (λ (l : List ℕ). T ++ l)
      (ap (λ (n : ℕ). drop n b) k ∙ sym (drop-drop (length T - to) to b) ∙ ap (drop (length T - to)) behind-same ∙ drop-drop (length T - to) to b₀ ∙ ap (λ (n : ℕ). drop n b₀) (sym k))
