-- `survey` meets its contract: what is ahead makes up the rest of what is behind (`Surveying`).
-- Assumes nothing.
use mathlib.Core.Path.{sym, ◌∙◌}
use native.Mathlib.Omega.{arith}
use Rattle.recording.proofs.Loops.{step_room}
use Rattle.mending.proofs.Walking.{no_step, surveying-starts, surveying-room, surveying-ended, surveying-kept, surveying-stuck, surveying-filled}
use Rattle.mending.proofs.survey.Goals as goal

pub choices_of-all-requires : goal.choices_of-all-requires
choices_of-all-requires c = tt

pub count_of-k-requires : goal.count_of-k-requires
count_of-k-requires c = tt

pub most_of-most-requires : goal.most_of-most-requires
most_of-most-requires c = c.count_of-k.ensures.most

pub loop-x-init : goal.loop-x-init
loop-x-init c = surveying-starts _ _ _

pub read_field-f-requires : goal.read_field-f-requires
read_field-f-requires c = tt

pub ended-requires : goal.ended-requires
ended-requires c = let r = surveying-room _ _ _ _ _ _ _ _ c.loop-x.invariant in omega (arith, r.0, r.1, r.2, c.well_formed.1.1.0)

pub returns-in_default : goal.returns-in_default
returns-in_default c = c.ended.ensures ∙ surveying-ended _ _ _ _ _ _ _ _ c.loop-x.invariant _ (no_step _ _ c.in_default.not-Step c.read_field-f.ensures)

pub inner-r-requires : goal.inner-r-requires
inner-r-requires c = tt

pub overflow_add-steps : goal.overflow_add-steps
overflow_add-steps c = let r = surveying-room _ _ _ _ _ _ _ _ c.loop-x.invariant in omega (arith, r.0, r.1, r.2, c.well_formed.1.1.0)

pub overflow_add-count : goal.overflow_add-count
overflow_add-count c = let r = surveying-room _ _ _ _ _ _ _ _ c.loop-x.invariant in omega (arith, r.0, r.1, r.2, c.well_formed.1.1.0)

pub overflow_add-at : goal.overflow_add-at
overflow_add-at c = let r = step_room _ _ _ _ c.loop-x.invariant.along.inside (sym c.read_field-f.ensures ∙ c.in-Step.is) in omega (arith, r.0, r.1, c.well_formed.1.1.0)

pub loop-x-smaller-in-Taken : goal.loop-x-smaller-in-Taken
loop-x-smaller-in-Taken c = let r = step_room _ _ _ _ c.loop-x.invariant.along.inside (sym c.read_field-f.ensures ∙ c.in-Step.is) in omega (arith, r.0, r.1, c.well_formed.1.1.0)

pub loop-x-preserved-in-Taken : goal.loop-x-preserved-in-Taken
loop-x-preserved-in-Taken c = surveying-kept _ _ _ _ _ _ _ _ c.loop-x.invariant _ _ (sym c.read_field-f.ensures ∙ c.in-Step.is) c.choices_of-all.ensures c.count_of-k.ensures c.inner-r.ensures _ c.in-Taken.is

pub rank-passed-requires : goal.rank-passed-requires
rank-passed-requires c = tt

pub overflow_add-result : goal.overflow_add-result
overflow_add-result c = let r = surveying-room _ _ _ _ _ _ _ _ c.loop-x.invariant in omega (arith, r.0, r.1, r.2, c.well_formed.1.1.0)

pub returns-then-most-passed : goal.returns-then-most-passed
returns-then-most-passed c = surveying-stuck _ _ _ _ _ _ _ _ c.loop-x.invariant _ _ (sym c.read_field-f.ensures ∙ c.in-Step.is) c.choices_of-all.ensures c.count_of-k.ensures c.inner-r.ensures _ c.in-Refused.is c.rank-passed.ensures.0 (rw (← c.most_of-most.ensures.0) c.if-most-passed.true)

pub picks_of-fill-requires : goal.picks_of-fill-requires
picks_of-fill-requires c = c.count_of-k.ensures.most

pub taken_all-next-requires : goal.taken_all-next-requires
taken_all-next-requires c = c.picks_of-fill.ensures.1

pub inner-last-requires : goal.inner-last-requires
inner-last-requires c = tt

pub overflow_add-more : goal.overflow_add-more
overflow_add-more c = omega (arith, c.picks_of-fill.ensures.1)

pub overflow_add-steps-in-Refused : goal.overflow_add-steps-in-Refused
overflow_add-steps-in-Refused c = let r = surveying-room _ _ _ _ _ _ _ _ c.loop-x.invariant in omega (arith, r.0, r.1, r.2, c.well_formed.1.1.0, c.picks_of-fill.ensures.1)

pub overflow_add-notes : goal.overflow_add-notes
overflow_add-notes c = let r = surveying-room _ _ _ _ _ _ _ _ c.loop-x.invariant in omega (arith, r.0, r.1, r.2, c.well_formed.1.1.0, c.picks_of-fill.ensures.1)

pub overflow_add-count-in-Refused : goal.overflow_add-count-in-Refused
overflow_add-count-in-Refused c = let r = surveying-room _ _ _ _ _ _ _ _ c.loop-x.invariant in omega (arith, r.0, r.1, r.2, c.well_formed.1.1.0)

pub overflow_add-at-in-Refused : goal.overflow_add-at-in-Refused
overflow_add-at-in-Refused c = let r = step_room _ _ _ _ c.loop-x.invariant.along.inside (sym c.read_field-f.ensures ∙ c.in-Step.is) in omega (arith, r.0, r.1, c.well_formed.1.1.0)

pub loop-x-smaller : goal.loop-x-smaller
loop-x-smaller c = let r = step_room _ _ _ _ c.loop-x.invariant.along.inside (sym c.read_field-f.ensures ∙ c.in-Step.is) in omega (arith, r.0, r.1, c.well_formed.1.1.0)

pub loop-x-preserved : goal.loop-x-preserved
loop-x-preserved c = surveying-filled _ _ _ _ _ _ _ _ c.loop-x.invariant _ _ (sym c.read_field-f.ensures ∙ c.in-Step.is) c.choices_of-all.ensures c.count_of-k.ensures c.inner-r.ensures _ c.in-Refused.is c.rank-passed.ensures.0 (rw (← c.most_of-most.ensures.0) c.if-most-passed.false) c.picks_of-fill.ensures.0 c.picks_of-fill.ensures.1 c.taken_all-next.ensures c.inner-last.ensures
