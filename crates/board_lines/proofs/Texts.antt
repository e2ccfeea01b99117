-- Laws of the board's texts: how long a line is at most, and the history put line by line.
-- Assumes nothing.
use Prim.Native.Nat.{ℕ, zero, suc, ◌+◌, ◌*◌, ◌/◌, ◌%◌, ◌^◌, ◌<◌, ◌≤◌}
use mathlib.Core.Bool.{Bool, true, false}
use mathlib.Core.List.{List, [], ◌∷◌, ◌++◌, append_assoc, append-nil}
use mathlib.Core.Path.{◌≡◌, refl, sym, ap, ◌∙◌}
use native.Mathlib.Nat.{pow-suc}
use native.Mathlib.Omega.{arith}
use lib.Dec.{ltb}
use lib.ListN.{length, take, drop, length-append}
use lib.Seq.{take_at}
use borrow.Author.Tests.{lt-ltb, ltb-true, le-leb}
use Rattle.laws.specs.Choice.{pick}
use Rattle.wire.specs.Bytes.{wrote_bytes, Written, build}
use Rattle.wire.specs.declared.Wrote.{Wrote}
use Rattle.wire.proofs.Pieces.{Put, put_same, put-more, build-one}
use Rattle.lines.specs.Lines.{spelled, decimal_of, tail_of, line_bytes}
use Rattle.posting.specs.declared.Board.{Board}
use Rattle.posting.specs.Posting.{rows_of, row_in}
use Rattle.board_lines.specs.Printed.{final_word, history_word, shown_line, history_lines}

-- ---- how long a line is

-- a number below a power of ten has no more digits
spelled-short : (most k n : ℕ) → n < 10 ^ suc k → length (spelled most n) ≤ suc k
unfolding spelled
spelled-short zero k n h = none
  where
    none : length (spelled zero n) ≤ suc k
    none = omega arith
spelled-short (suc most) zero n h = one
  where
    one : length (spelled (suc most) n) ≤ 1
    one = let t = lt-ltb n 10 (omega (arith, h)) in rw t (omega arith)
spelled-short (suc most) (suc k) n h = go (ltb n 10) refl (spelled-short most k (n / 10) (let p = pow-suc 10 (suc k) in omega (arith, h, p)))
  where
    go : (b : Bool) → ltb n 10 ≡ b → length (spelled most (n / 10)) ≤ suc k → length (spelled (suc most) n) ≤ suc (suc k)
    go true e s = rw e (omega arith)
    go false e s = rw e (omega (arith, s, length-append (spelled most (n / 10)) ((48 + n % 10) ∷ [])))

decimal-short : (n : ℕ) → n < 2 ^ 32 → length (decimal_of n) ≤ 10
unfolding decimal_of
decimal-short n h = spelled-short (suc n) 9 n (omega (arith, h))

pub final-short : (n : ℕ) → n < 2 ^ 32 → length (line_bytes final_word (n ∷ [])) ≤ 17
unfolding line_bytes tail_of
final-short n h = omega (arith, decimal-short n h, length-append (decimal_of n) (10 ∷ []))

-- a line of a word alone
pub word-length : (word : List ℕ) → length (line_bytes word []) ≡ length word + 1
unfolding line_bytes tail_of
word-length word = length-append word (10 ∷ [])

-- ---- the history, line by line

history-word : line_bytes history_word [] ≡ 104 ∷ 105 ∷ 115 ∷ 116 ∷ 111 ∷ 114 ∷ 121 ∷ 10 ∷ []
unfolding line_bytes tail_of
history-word = refl

module _ (b₀ : List ℕ) (board : Board) where
  -- the history up to its line i
  abbrev up_to : ℕ → List ℕ
  up_to i = line_bytes history_word [] ++ build (λ k. shown_line (row_in board k)) i

  pub record RowsPut (b : List ℕ) (at i : ℕ) : Type 0 where
    pub put : Put b₀ 0 (up_to i) at b
    pub near : at ≤ 8 + 17 * i
    pub upto : i ≤ 8

  none-put : up_to 0 ≡ 104 ∷ 105 ∷ 115 ∷ 116 ∷ 111 ∷ 114 ∷ 121 ∷ 10 ∷ []
  unfolding build
  none-put = append-nil (line_bytes history_word []) ∙ history-word

  pub rows_start : (b : List ℕ) (r : Wrote) → 144 ≤ length b₀ → Written b₀ 0 (104 ∷ 105 ∷ 115 ∷ 116 ∷ 111 ∷ 114 ∷ 121 ∷ 10 ∷ []) r b → RowsPut b 8 0
  rows_start b r room w =
      let t = le-leb 8 (length b₀) (omega (arith, room)) in
      record { put = rw none-put (record { next = refl; bytes = rw (w.bytes, t) }); near = omega arith; upto = omega arith }

  module _ (b : List ℕ) (at i : ℕ) (room : 144 ≤ length b₀) (a : RowsPut b at i) where
    pub rows_same : length b ≡ length b₀
    rows_same = put_same b₀ b (up_to i) 0 at a.put (omega (arith, a.put.next, a.near, a.upto, room))

    pub rows_step : (b' : List ℕ) (at' : ℕ) → i < 8 → b' ≡ wrote_bytes b at (shown_line (row_in board i)) → at' ≡ at + length (shown_line (row_in board i)) → at' ≤ at + 17 → RowsPut b' at' (i + 1)
    rows_step b' at' l e n m =
        let xs = shown_line (row_in board i) in
        let one : up_to (i + 1) ≡ up_to i ++ xs = ap (λ (x : List ℕ). line_bytes history_word [] ++ x) (build-one (λ k. shown_line (row_in board k)) i) ∙ sym (append_assoc (line_bytes history_word []) (build (λ k. shown_line (row_in board k)) i) xs) in
        let long = length-append (up_to i) xs in
        let fits : 0 + length (up_to i ++ xs) ≤ length b₀ = omega (arith, long, a.put.next, n, m, a.near, l, room) in
        record {
          put = rw one (put-more b₀ b (up_to i) 0 at a.put (omega (arith, a.put.next, a.near, a.upto, room)) b' xs at' fits e n);
          near = omega (arith, a.near, m);
          upto = omega (arith, l);
        }

    pub rows-done : rows_of board ≡ i → (at ≤ 144) × (take at b ≡ history_lines board)
    unfolding history_lines
    rows-done e = (omega (arith, a.near, a.upto), rw e (ap (take at) a.put.bytes ∙ take_at (up_to i) (drop (0 + length (up_to i)) b₀) at (omega (arith, a.put.next))))

-- no more rows than there are have a line
pub rows-most : (b : Board) → rows_of b ≤ 8
unfolding rows_of
rows-most b = go (ltb b.count 8) refl
  where
    go : (x : Bool) → ltb b.count 8 ≡ x → pick x b.count 8 ≤ 8
    go true e = omega (arith, ltb-true b.count 8 e)
    go false e = omega arith
