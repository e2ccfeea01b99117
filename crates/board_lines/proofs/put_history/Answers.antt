-- `board_lines::put_history` meets its contract.
-- Assumes nothing.
use mathlib.Core.Path.{sym}
use native.Mathlib.Omega.{arith}
use lib.Seq.{length-take-le}
use Rattle.board_lines.proofs.put_history.Goals as goal

pub slice_bounds-write-end : goal.slice_bounds-write-end
slice_bounds-write-end c = sym (length-take-le _ _ (omega (arith, c.put_rows-size.ensures.upper_bound)))

pub returns : goal.returns
returns c = rw c.put_rows-size.ensures.buf_after at c.write.ensures
