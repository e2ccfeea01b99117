-- `moving::put_long` meets its contract.
-- Assumes nothing.
use mathlib.Core.Path.{sym, ◌∙◌}
use native.Mathlib.Omega.{arith}
use Rattle.moving.proofs.Lengthening.{stretching-starts, stretching-inside, stretching-fits, stretching-next, stretching-ended}
use Rattle.moving.proofs.put_long.Goals as goal

pub loop-x-init : goal.loop-x-init
loop-x-init c = stretching-starts _ _

pub shape_of-out-in_default : goal.shape_of-out-in_default
shape_of-out-in_default c = c.put_tail.auto.out ∙ c.loop-x.invariant.put.same

pub returns-in_default : goal.returns-in_default
returns-in_default c = stretching-ended _ _ _ _ _ c.loop-x.invariant c.requires _ c.in_default.not-Step c.read_short-f.ensures _ c.put_tail.ensures

pub overflow_add-to : goal.overflow_add-to
overflow_add-to c =
    let l = stretching-fits _ _ _ _ _ c.loop-x.invariant _ _ (sym c.read_short-f.ensures ∙ c.in-Step.is) in
    omega (arith, l, c.requires, c.well_formed.1)

pub overflow_add-at : goal.overflow_add-at
overflow_add-at c = let r = stretching-inside _ _ _ _ _ c.loop-x.invariant _ _ (sym c.read_short-f.ensures ∙ c.in-Step.is) in omega (arith, r.0, c.well_formed.0)

pub loop-x-smaller : goal.loop-x-smaller
loop-x-smaller c = let r = stretching-inside _ _ _ _ _ c.loop-x.invariant _ _ (sym c.read_short-f.ensures ∙ c.in-Step.is) in omega (arith, r.0, r.1)

pub loop-x-preserved : goal.loop-x-preserved
loop-x-preserved c = stretching-next _ _ _ _ _ c.loop-x.invariant _ _ (sym c.read_short-f.ensures ∙ c.in-Step.is) c.requires _ c.write_step.ensures.buf_after
