-- `writing::write_parts` meets its contract. The loop has put the pieces below its counter, and all of them have room (`Putting`).
-- Assumes nothing.
use mathlib.Core.Path.{◌≡◌, sym, ◌∙◌}
use native.Mathlib.Omega.{arith}
use lib.ListN.{length}
use Rattle.writing.specs.Writing.{block_of, parts_bytes}
use Rattle.wire.proofs.Pieces.{putting-start, putting-same, putting-room, putting-step, putting-done}
use Rattle.writing.proofs.Texts.{parts-size, block_size, run_room, run_short}
use Rattle.writing.proofs.write_parts.Goals as goal

pub returns-then-not-has_room : goal.returns-then-not-has_room
returns-then-not-has_room c =
    run_short c.args.buf.now (parts_bytes c.args.cfg) c.args.at c.parts_size.result (parts-size c.args.cfg ∙ sym c.parts_size.ensures) (sym c.has_room.ensures ∙ c.if-not-has_room.true)

pub loop-j-init : goal.loop-j-init
unfolding parts_bytes
loop-j-init c =
    putting-start c.args.buf.now c.args.at (block_of c.args.cfg) 12
    (run_room c.args.buf.now (parts_bytes c.args.cfg) c.args.at c.parts_size.result (parts-size c.args.cfg ∙ sym c.parts_size.ensures) (sym c.has_room.ensures ∙ c.if-not-has_room.false))

pub overflow_add-next : goal.overflow_add-next
overflow_add-next c =
    let z : c.kind_size.result ≡ length (block_of c.args.cfg c.loop-j.j) = c.kind_size.ensures ∙ sym (block_size c.args.cfg c.loop-j.j) in
    omega (arith, putting-room c.loop-j.invariant (omega arith))

pub loop-j-preserved : goal.loop-j-preserved
unfolding block_of
loop-j-preserved c =
    let z : c.kind_size.result ≡ length (block_of c.args.cfg c.loop-j.j) = c.kind_size.ensures ∙ sym (block_size c.args.cfg c.loop-j.j) in
    putting-step c.loop-j.invariant (omega arith) c.write_kind.ensures z

pub shape_of-buf : goal.shape_of-buf
shape_of-buf c = putting-same c.loop-j.invariant

pub returns : goal.returns
unfolding parts_bytes
returns c = putting-done c.loop-j.invariant (omega arith)
