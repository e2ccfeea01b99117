-- `board_lines::put_rows` meets its contract: the word stands at the start, and behind it the lines so far (`RowsPut`).
-- Assumes nothing.
use Rattle.std.proofs.Common.{rules, arith, ◌<◌, ◌≡◌}
use Rattle.posting.specs.Posting.{rows_of}
use Rattle.board_lines.proofs.Texts.{rows_start, rows_same, rows_step, rows-done, rows-most}
use Rattle.board_lines.proofs.put_rows.Goals as goal

pub loop-i-init : goal.loop-i-init
loop-i-init c = (c.args.buf.now, c.requires, search rules, rows_start c.args.buf.now c.args.board c.write.new.buf c.write.result c.requires c.write.ensures)

pub put_row-at-requires : goal.put_row-at-requires
put_row-at-requires c =
    omega (arith, rows-most c.args.board, c.loop-i.invariant.3.near, rows_same c.loop-i.invariant.0 c.args.board c.loop-i.buf c.loop-i.at c.loop-i.i c.loop-i.invariant.1 c.loop-i.invariant.3, c.loop-i.invariant.1)

pub loop-i-preserved : goal.loop-i-preserved
loop-i-preserved c =
    let below : c.loop-i.i < 8 = omega (arith, rows-most c.args.board) in
    (c.loop-i.invariant.0, c.loop-i.invariant.1, c.loop-i.invariant.2, rows_step c.loop-i.invariant.0 c.args.board c.loop-i.buf c.loop-i.at c.loop-i.i c.loop-i.invariant.1 c.loop-i.invariant.3 c.put_row-at.new.buf c.put_row-at.result below (rw c.row.ensures at c.put_row-at.ensures.buf_after) (rw c.row.ensures at c.put_row-at.ensures.value) c.put_row-at.ensures.upper_bound)

pub returns : goal.returns
returns c =
    let all : rows_of c.args.board ≡ c.loop-i.i = omega (arith) in
    let w = rows-done c.loop-i.invariant.0 c.args.board c.loop-i.buf c.loop-i.at c.loop-i.i c.loop-i.invariant.1 c.loop-i.invariant.3 all in
    record { upper_bound = w.0; buf_after = w.1 }
