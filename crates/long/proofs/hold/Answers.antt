-- `long::hold` meets its contract. The loop has moved the bytes below its counter (`paste`).
-- Assumes nothing.
use mathlib.Core.Path.{◌≡◌, ap, ◌∙◌}
use native.Mathlib.Omega.{arith}
use lib.ListN.{drop, length-set}
use lib.Seq.{paste, paste-zero}
use Rattle.numbers.specs.Tags.{step_size}
use Rattle.long.proofs.Laws.{held_more}
use Rattle.long.proofs.hold.Goals as goal

pub loop-i-init : goal.loop-i-init
loop-i-init c = (omega arith, paste-zero c.args.buf.now 0 (drop 65520 c.args.buf.now))

pub overflow_add-buf : goal.overflow_add-buf
overflow_add-buf c = omega arith

pub bounds-buf-i : goal.bounds-buf-i
bounds-buf-i c = omega (arith, c.requires, c.loop-i.invariant.0)

pub bounds-buf-i-in-loop-i : goal.bounds-buf-i-in-loop-i
bounds-buf-i-in-loop-i c = omega (arith, c.requires, c.loop-i.invariant.0)

pub loop-i-preserved : goal.loop-i-preserved
loop-i-preserved c = (simp length-set c.loop-i.invariant.0, held_more c.args.buf.now c.loop-i.buf c.loop-i.i c.requires (omega arith) c.loop-i.invariant.1)

pub shape_of-buf : goal.shape_of-buf
shape_of-buf c = c.loop-i.invariant.0

pub returns : goal.returns
returns c =
    let e : c.loop-i.i ≡ step_size = omega arith in
    c.loop-i.invariant.1 ∙ ap (paste c.args.buf.now 0 (drop 65520 c.args.buf.now)) e
