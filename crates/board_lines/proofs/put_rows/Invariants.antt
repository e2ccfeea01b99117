-- `board_lines::put_rows` meets its contract: the word stands at the start, and behind it the lines so far (`RowsPut`).
-- Assumes nothing.
use Rattle.std.proofs.Common.{ℕ, ◌≤◌, ◌≡◌, List, length}
use Rattle.board_lines.proofs.Texts.{RowsPut}
use Rattle.board_lines.proofs.put_rows.Given as goal

abbrev pub invariant-loop-i : goal.invariant-loop-i
invariant-loop-i l = (buf₀ : List ℕ) × (144 ≤ length buf₀) × (length buf₀ ≡ length l.initial.buf) × RowsPut buf₀ l.board l.buf l.at l.i
