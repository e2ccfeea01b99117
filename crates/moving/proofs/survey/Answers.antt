-- `moving::survey` meets its contract.
-- Assumes nothing.
use mathlib.Core.Path.{sym, ◌∙◌}
use native.Mathlib.Omega.{arith}
use Rattle.recording.proofs.Loops.{step_room}
use Rattle.forms.proofs.OneShort.{short-size}
use Rattle.moving.proofs.Shortening.{no_step, measuring-starts, measuring-room, measuring-next, measuring-long, measuring-ended}
use Rattle.moving.proofs.survey.Goals as goal

pub loop-x-init : goal.loop-x-init
loop-x-init c = measuring-starts _

pub ended-requires : goal.ended-requires
ended-requires c = omega (arith, (measuring-room _ _ _ _ c.loop-x.invariant).0, c.well_formed.0)

pub returns-in_default : goal.returns-in_default
returns-in_default c = c.ended.ensures ∙ measuring-ended _ _ _ _ c.loop-x.invariant _ (no_step _ _ c.in_default.not-Step c.read_field-f.ensures)

pub overflow_add-size-in-loop-x : goal.overflow_add-size-in-loop-x
overflow_add-size-in-loop-x c = omega (arith, (measuring-room _ _ _ _ c.loop-x.invariant).1, c.short_size-size.ensures, (short-size c.in-Step.x).1, c.well_formed.0)

pub overflow_add-count : goal.overflow_add-count
overflow_add-count c = omega (arith, (measuring-room _ _ _ _ c.loop-x.invariant).0, c.well_formed.0)

pub overflow_add-at : goal.overflow_add-at
overflow_add-at c = let r = step_room _ _ _ _ c.loop-x.invariant.inside (sym c.read_field-f.ensures ∙ c.in-Step.is) in omega (arith, r.0, c.well_formed.0)

pub loop-x-smaller : goal.loop-x-smaller
loop-x-smaller c = let r = step_room _ _ _ _ c.loop-x.invariant.inside (sym c.read_field-f.ensures ∙ c.in-Step.is) in omega (arith, r.0, r.1)

pub loop-x-preserved : goal.loop-x-preserved
loop-x-preserved c = rw c.short_size-size.ensures (measuring-next _ _ _ _ c.loop-x.invariant _ _ (sym c.read_field-f.ensures ∙ c.in-Step.is) (sym c.has_short.ensures ∙ c.if-not-has_short.false))

pub overflow_add-result : goal.overflow_add-result
overflow_add-result c = omega (arith, (measuring-room _ _ _ _ c.loop-x.invariant).0, c.well_formed.0)

pub returns-then-not-has_short : goal.returns-then-not-has_short
returns-then-not-has_short c = measuring-long _ _ _ _ c.loop-x.invariant _ _ (sym c.read_field-f.ensures ∙ c.in-Step.is) (sym c.has_short.ensures ∙ c.if-not-has_short.true)
