-- The board follows what is told: a line stands in front of those that were there, and of these seven stay (`posted`).
-- Assumes nothing.
use Prim.Native.Nat.{ℕ, zero, suc, ◌+◌, ◌≤◌, ◌<◌}
use mathlib.Core.List.{List, [], ◌∷◌, ◌++◌}
use mathlib.Core.Path.{◌≡◌, refl, sym, ap, ◌∙◌}
use native.Mathlib.Decide.{dec_lt}
use native.Mathlib.Omega.{arith}
use lib.Dec.{ltb}
use lib.ListN.{length, take, length-append}
use lib.Seq.{get_or-take, take_all, take_at, take-take}
use borrow.Author.Tests.{lt-ltb, le-ltb}
use Rattle.laws.specs.Choice.{pick}
use Rattle.posting.specs.declared.Shown.{Shown}
use Rattle.posting.specs.declared.Row.{Row}
use Rattle.posting.specs.declared.Board.{Board}
use Rattle.posting.specs.declared.Told.TheVariants.{Line}
use Rattle.posting.specs.declared.Posted.{Posted}
use Rattle.posting.specs.Posting.{no_row, no_board, rows_of, row_in, post_of}
use Rattle.showing.specs.Showing.{show_files_of}
use Rattle.shown.specs.Claims.{told_of, lines_to, lines_of, BoardFollows, post_all, LastEight}
use Rattle.shown.proofs.Lines.{Files, too_long, unread, absent, there, files, kind_of, line_in, told-by}

-- ---- one line more

lines-length : (b : Board) (n : ℕ) → length (lines_to b n) ≡ n
unfolding lines_to
lines-length b zero = refl
lines-length b (suc n) = length-append (lines_to b n) (row_in b n ∷ []) ∙ omega (arith, lines-length b n)

-- how many rows have a line, before and after
rows-some : (b : Board) → b.count < 8 → rows_of b ≡ b.count
unfolding rows_of
rows-some b l = rw (lt-ltb b.count 8 l)

rows_all : (b : Board) → 8 ≤ b.count → rows_of b ≡ 8
unfolding rows_of
rows_all b l = rw (le-ltb b.count 8 l)

rows-up : (b : Board) (x : Shown) → b.count < 8 → rows_of (post_of b x) ≡ suc b.count
unfolding rows_of post_of
rows-up b x l = let t = lt-ltb b.count 8 l in rw t (go (dec_lt (b.count + 1) 8))
  where
    go : Dec (b.count + 1 < 8) → pick (ltb (b.count + 1) 8) (b.count + 1) 8 ≡ suc b.count
    go (yes m) = rw (lt-ltb (b.count + 1) 8 m) (omega arith)
    go (no m) = rw (le-ltb (b.count + 1) 8 (omega (arith, m))) (omega (arith, l, m))

rows-full : (b : Board) (x : Shown) → 8 ≤ b.count → rows_of (post_of b x) ≡ 8
unfolding rows_of post_of
rows-full b x l = rw (le-ltb b.count 8 l)

none-shown : lines_of no_board ≡ []
unfolding no_board rows_of lines_to
none-shown = refl

-- the first seven of eight
seven : (b : Board) → take 7 (lines_to b 8) ≡ lines_to b 7
unfolding lines_to
seven b = take_at (lines_to b 7) (row_in b 7 ∷ []) 7 (lines-length b 7)

module _ (b : Board) (x : Shown) where
  -- the lines that were there stand one row further
  row-further : (n : ℕ) → n < 7 → row_in (post_of b x) (suc n) ≡ row_in b n
  unfolding row_in post_of
  row-further n l = ap (λ (r : Row). r.shown) (get_or-take 7 b.at n no_row l)

  row_first : row_in (post_of b x) 0 ≡ x
  unfolding row_in post_of
  row_first = refl

  lines-further : (n : ℕ) → n ≤ 7 → lines_to (post_of b x) (suc n) ≡ x ∷ lines_to b n
  unfolding lines_to
  lines-further zero l = ap (λ (y : Shown). y ∷ []) row_first
  lines-further (suc n) l = ap (λ (ys : List Shown). ys ++ (row_in (post_of b x) (suc n) ∷ [])) (lines-further n (omega (arith, l))) ∙ ap (λ (y : Shown). x ∷ (lines_to b n ++ (y ∷ []))) (row-further n (omega (arith, l)))

  pub posted : lines_of (post_of b x) ≡ take 8 (x ∷ lines_of b)
  posted = go (dec_lt b.count 8)
    where
      go : Dec (b.count < 8) → lines_to (post_of b x) (rows_of (post_of b x)) ≡ take 8 (x ∷ lines_to b (rows_of b))
      go (yes l) =
          ap (lines_to (post_of b x)) (rows-up b x l) ∙ lines-further b.count (omega (arith, l))
          ∙ ap (λ (ys : List Shown). x ∷ ys) (sym (ap (λ (n : ℕ). take 7 (lines_to b n)) (rows-some b l) ∙ take_all 7 (lines_to b b.count) (omega (arith, l, lines-length b b.count))))
      go (no l) =
          ap (lines_to (post_of b x)) (rows-full b x (omega (arith, l))) ∙ lines-further 7 (omega arith)
          ∙ ap (λ (ys : List Shown). x ∷ ys) (sym (ap (λ (n : ℕ). take 7 (lines_to b n)) (rows_all b (omega (arith, l))) ∙ seven b))

-- ---- what is told

pub board-follows : BoardFollows
board-follows c o t b = (λ x h. goes x h (files c o t b), λ n. stays n (files c o t b))
  where
    goes : (x : Shown) → told_of c o t b ≡ Line x → Files c o t b → lines_of (show_files_of c o t b).board ≡ take 8 (x ∷ lines_of b)
    goes x h (too_long l e) = absurd (omega (arith, ap kind_of (told-by c o t b e h)))
    goes x h (unread p k u e) = absurd (omega (arith, ap kind_of (told-by c o t b e h)))
    goes x h (absent l r n e) = absurd (omega (arith, ap kind_of (told-by c o t b e h)))
    goes x h (there w e) = ap (λ (p : Posted). lines_of p.board) e ∙ posted b _ ∙ ap (λ (y : Shown). take 8 (y ∷ lines_of b)) (ap line_in (told-by c o t b e h))

    stays : ((x : Shown) → told_of c o t b ≡ Line x → ⊥) → Files c o t b → (show_files_of c o t b).board ≡ b
    stays n (too_long l e) = ap (λ (p : Posted). p.board) e
    stays n (unread p k u e) = ap (λ (p : Posted). p.board) e
    stays n (absent l r m e) = ap (λ (p : Posted). p.board) e
    stays n (there w e) = absurd (n _ (ap (λ (p : Posted). p.told) e))

pub last-eight : LastEight
unfolding post_all
last-eight [] = none-shown
last-eight (x ∷ xs) = posted (post_all xs) x ∙ ap (λ (ys : List Shown). x ∷ take 7 ys) (last-eight xs) ∙ ap (λ (ys : List Shown). x ∷ ys) (take-take 7 8 xs (omega arith))
