-- `lines::put_tail` meets its contract. What is put and what is ahead make up the whole (`Ahead`).
-- Assumes nothing.
use native.Mathlib.Omega.{arith}
use borrow.Author.Rules.{rules}
use Rattle.lines.proofs.Laws.{ahead-start, ahead_step, ahead-done}
use Rattle.lines.proofs.put_tail.Goals as goal

pub loop-n-init : goal.loop-n-init
loop-n-init c = ahead-start c.args.buf.now c.args.numbers.now

pub put_number-at-requires : goal.put_number-at-requires
put_number-at-requires c = omega (arith, c.loop-n.invariant.same, c.loop-n.invariant.near, c.requires)

pub loop-n-preserved : goal.loop-n-preserved
loop-n-preserved c =
    let l = c.loop-n in
    let p = c.put_number-at in
    ahead_step l.invariant p.new.buf p.result (omega arith) (omega (arith, l.invariant.same, l.invariant.near, c.requires)) p.ensures.buf_after p.ensures.value p.ensures.upper_bound

pub overflow_add-result : goal.overflow_add-result
overflow_add-result c = let l = c.loop-n in omega (arith, l.invariant.near, l.invariant.upto)

pub shape_of-buf : goal.shape_of-buf
shape_of-buf c = let e = c.loop-n.invariant.same in search rules

pub returns : goal.returns
returns c =
    let l = c.loop-n in
    record { upper_bound = omega (arith, l.invariant.near, l.invariant.upto); buf_after = ahead-done l.invariant c.write.new.buf c.write.result (omega arith) (omega (arith, l.invariant.same, l.invariant.near, l.invariant.upto, c.requires)) c.write.ensures }
