-- `merging::write_from` meets its contract: the buffer begins with as much of the merged text as is written, and what is ahead makes up the rest (`Writing`).
-- Assumes nothing.
use mathlib.Core.Path.{sym, ◌∙◌}
use native.Mathlib.Omega.{arith}
use Rattle.recording.proofs.Loops.{step_room}
use Rattle.merging.proofs.Waits.{adds-up}
use Rattle.merging.proofs.Walking.{no-step, writing-starts, writing-joined, writing-next, last_fits, writing-ended}
use Rattle.merging.proofs.write_from.Goals as goal
use Rattle.merging.proofs.write_from.Goals.{then-adds_up, else-adds_up}

pub loop-x-init : goal.loop-x-init
loop-x-init c = writing-starts _ _ _ _ c.requires.s_value

pub overflow_add-to : goal.overflow_add-to
overflow_add-to c =
    let l = last_fits _ _ _ _ _ _ c.loop-x.invariant c.requires.s_in_bounds _ (no-step _ _ c.in_default.not-Step c.read_field-f.ensures) _ c.write_step.ensures.buf_after in
    omega (arith, l, c.requires.s_in_bounds)

pub shape_of-out-in_default : goal.shape_of-out-in_default
shape_of-out-in_default c = c.write_end.auto.buf ∙ c.write_step.auto.buf ∙ c.loop-x.invariant.same

pub returns-in_default : goal.returns-in_default
returns-in_default c = writing-ended _ _ _ _ _ _ c.loop-x.invariant c.requires.s_in_bounds _ (no-step _ _ c.in_default.not-Step c.read_field-f.ensures) _ c.write_step.ensures.buf_after _ _ c.write_end.ensures

pub joined-last-requires : goal.joined-last-requires
joined-last-requires c = (adds-up _ _ (sym c.adds_up.ensures ∙ c.if-adds_up.true)).fits

pub overflow_add-to-else-adds_up : goal.overflow_add-to-else-adds_up
overflow_add-to-else-adds_up c =
    let w = writing-next _ _ _ _ _ _ c.loop-x.invariant c.requires.s_in_bounds _ _ (sym c.read_field-f.ensures ∙ c.in-Step.is) (sym c.adds_up.ensures ∙ c.if-adds_up.false) _ c.write_step-else-adds_up.ensures.buf_after in
    omega (arith, w.within, c.requires.s_in_bounds)

pub overflow_add-at : goal.overflow_add-at
overflow_add-at c = let r = step_room _ _ _ _ c.loop-x.invariant.inside (sym c.read_field-f.ensures ∙ c.in-Step.is) in omega (arith, r.0, r.1)

pub loop-x-smaller : goal.loop-x-smaller
loop-x-smaller c = let r = step_room _ _ _ _ c.loop-x.invariant.inside (sym c.read_field-f.ensures ∙ c.in-Step.is) in omega (arith, r.0, r.1)

pub loop-x-preserved : goal.loop-x-preserved
loop-x-preserved c =
    let e = sym c.read_field-f.ensures ∙ c.in-Step.is in
    elim c.if-adds_up.branch [
      | then-adds_up w ↦ rw (w.last-is, w.to-is, w.out-is, w.joined-last.ensures) (writing-joined _ _ _ _ _ _ c.loop-x.invariant _ _ e (sym c.adds_up.ensures ∙ w.if-adds_up.true))
      | else-adds_up w ↦ rw (w.last-is, w.to-is, w.out-is) (writing-next _ _ _ _ _ _ c.loop-x.invariant c.requires.s_in_bounds _ _ e (sym c.adds_up.ensures ∙ w.if-adds_up.false) _ w.write_step-else-adds_up.ensures.buf_after)
    ]
