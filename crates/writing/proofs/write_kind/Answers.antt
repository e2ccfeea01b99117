-- `writing::write_kind` meets its contract. The loop has put the pieces below its counter, and all of them have room (`Putting`).
-- Assumes nothing.
use Prim.Native.Nat.{◌<◌}
use mathlib.Core.Path.{◌≡◌, sym, ◌∙◌}
use native.Mathlib.Omega.{arith}
use lib.ListN.{length}
use Rattle.entries.specs.Entries.{count_of}
use Rattle.writing.specs.Writing.{part_bytes, kind_bytes}
use Rattle.wire.proofs.Pieces.{putting-start, putting-same, putting-room, putting-step, putting-done}
use Rattle.writing.proofs.Texts.{kind-size, run_room, run_short, part-size, part-written}
use Rattle.writing.proofs.write_kind.Goals as goal

pub returns-then-not-has_room : goal.returns-then-not-has_room
returns-then-not-has_room c =
    run_short c.args.buf.now (kind_bytes c.args.cfg c.args.tag) c.args.at c.kind_size.result (kind-size c.args.cfg c.args.tag ∙ sym c.kind_size.ensures) (sym c.has_room.ensures ∙ c.if-not-has_room.true)

pub loop-i-init : goal.loop-i-init
unfolding kind_bytes
loop-i-init c =
    putting-start c.args.buf.now c.args.at (part_bytes c.args.cfg c.args.tag) (count_of c.args.cfg c.args.tag)
    (run_room c.args.buf.now (kind_bytes c.args.cfg c.args.tag) c.args.at c.kind_size.result (kind-size c.args.cfg c.args.tag ∙ sym c.kind_size.ensures) (sym c.has_room.ensures ∙ c.if-not-has_room.false))

pub overflow_add-next : goal.overflow_add-next
overflow_add-next c =
    let loop = c.loop-i in
    let l : loop.i < count_of c.args.cfg c.args.tag = omega (arith, c.count_of-i-end.ensures) in
    let z : c.field_size-size.result ≡ length (part_bytes c.args.cfg c.args.tag loop.i) = c.field_size-size.ensures ∙ sym (part-size c.args.cfg c.args.tag loop.i) in
    omega (arith, putting-room loop.invariant l)

pub loop-i-preserved : goal.loop-i-preserved
loop-i-preserved c =
    let loop = c.loop-i in
    let l : loop.i < count_of c.args.cfg c.args.tag = omega (arith, c.count_of-i-end.ensures) in
    let z : c.field_size-size.result ≡ length (part_bytes c.args.cfg c.args.tag loop.i) = c.field_size-size.ensures ∙ sym (part-size c.args.cfg c.args.tag loop.i) in
    let w = part-written c.args.cfg c.args.tag loop.i c.entry_of.result c.entry_of.ensures loop.buf loop.next c.write_entry.result c.write_entry.new.buf c.write_entry.ensures in
    putting-step loop.invariant l w z

pub shape_of-buf : goal.shape_of-buf
shape_of-buf c = putting-same c.loop-i.invariant

pub returns : goal.returns
unfolding kind_bytes
returns c = putting-done c.loop-i.invariant (omega (arith, c.count_of-i-end.ensures))
