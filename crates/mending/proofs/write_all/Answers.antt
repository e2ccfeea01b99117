-- `write_all` meets its contract: the turns so far are written, each with its notes (`Writing`).
-- Assumes nothing.
use mathlib.Core.Path.{sym, ap, ◌∙◌}
use native.Mathlib.Omega.{arith}
use Rattle.recording.proofs.Loops.{step_room}
use Rattle.mending.specs.declared.Crossed.{Crossed}
use Rattle.mending.proofs.Walking.{no_step}
use Rattle.mending.proofs.Writing.{writing-starts, writing-room, writing-ended, writing-kept, writing-gap, writing-filled, writing_more}
use Rattle.mending.proofs.write_all.Goals as goal

pub choices_of-all-requires : goal.choices_of-all-requires
choices_of-all-requires c = tt

pub loop-x-init : goal.loop-x-init
loop-x-init c = writing-starts _ _ _ _ _

pub read_field-f-requires : goal.read_field-f-requires
read_field-f-requires c = tt

pub overflow_mul-steps : goal.overflow_mul-steps
overflow_mul-steps c =
    let r = writing-room _ _ c.args.s.now c.args.out.now c.args.report.now c.requires c.loop-x.out c.loop-x.report _ _ _ c.loop-x.at c.loop-x.invariant in omega (arith, r.0, r.1, c.well_formed.1.1.1.0, c.well_formed.1.1.1.1.0)

pub write_end-requires : goal.write_end-requires
write_end-requires c = tt

pub shape_of-out-in_default : goal.shape_of-out-in_default
shape_of-out-in_default c =
    c.write_end.auto.buf ∙ c.loop-x.invariant.out-same

pub shape_of-report-in_default : goal.shape_of-report-in_default
shape_of-report-in_default c =
    c.loop-x.invariant.report-same

pub returns-in_default : goal.returns-in_default
returns-in_default c =
    let r = writing-ended _ _ c.args.s.now c.args.out.now c.args.report.now c.requires c.loop-x.out c.loop-x.report _ _ _ c.loop-x.at c.loop-x.invariant _ (no_step _ _ c.in_default.not-Step c.read_field-f.ensures) c.write_end.ensures in record { out_after = r.0; report_after = r.1 }

pub inner-r-requires : goal.inner-r-requires
inner-r-requires c = tt

pub overflow_mul-steps-in-Taken : goal.overflow_mul-steps-in-Taken
overflow_mul-steps-in-Taken c =
    let r = writing-room _ _ c.args.s.now c.args.out.now c.args.report.now c.requires c.loop-x.out c.loop-x.report _ _ _ c.loop-x.at c.loop-x.invariant in omega (arith, r.0, r.1, c.well_formed.1.1.1.0, c.well_formed.1.1.1.1.0)

pub write_step-requires : goal.write_step-requires
write_step-requires c = tt

pub overflow_add-steps : goal.overflow_add-steps
overflow_add-steps c =
    let r = writing-room _ _ c.args.s.now c.args.out.now c.args.report.now c.requires c.loop-x.out c.loop-x.report _ _ _ c.loop-x.at c.loop-x.invariant in omega (arith, r.0, r.1, c.well_formed.1.1.1.0, c.well_formed.1.1.1.1.0)

pub overflow_add-at : goal.overflow_add-at
overflow_add-at c =
    let r = step_room c.args.s.now c.loop-x.at _ _ c.loop-x.invariant.along.inside (sym c.read_field-f.ensures ∙ c.in-Step.is) in omega (arith, r.0, r.1, c.well_formed.1.1.0)

pub loop-x-smaller-in-Taken : goal.loop-x-smaller-in-Taken
loop-x-smaller-in-Taken c =
    let r = step_room c.args.s.now c.loop-x.at _ _ c.loop-x.invariant.along.inside (sym c.read_field-f.ensures ∙ c.in-Step.is) in omega (arith, r.0, r.1, c.well_formed.1.1.0)

pub loop-x-preserved-in-Taken : goal.loop-x-preserved-in-Taken
loop-x-preserved-in-Taken c =
    writing-kept _ _ c.args.s.now c.args.out.now c.args.report.now c.requires c.loop-x.out c.loop-x.report _ _ _ c.loop-x.at c.loop-x.invariant _ _ (sym c.read_field-f.ensures ∙ c.in-Step.is) c.inner-r.ensures _ c.in-Taken.is c.write_step.ensures.buf_after

pub write_gap-c-requires : goal.write_gap-c-requires
write_gap-c-requires c =
    writing-gap _ _ c.args.s.now c.args.out.now c.args.report.now c.requires c.loop-x.out c.loop-x.report _ _ _ c.loop-x.at c.loop-x.invariant _ _ (sym c.read_field-f.ensures ∙ c.in-Step.is) c.inner-r.ensures _ c.in-Refused.is c.choices_of-all.ensures

pub overflow_add-more : goal.overflow_add-more
overflow_add-more c =
    let r = writing_more _ _ c.args.s.now c.args.out.now c.args.report.now c.requires c.loop-x.out c.loop-x.report _ _ _ c.loop-x.at c.loop-x.invariant _ _ (sym c.read_field-f.ensures ∙ c.in-Step.is) c.inner-r.ensures _ c.in-Refused.is c.choices_of-all.ensures in omega (arith, r.0, r.1, r.2, ap (λ (y : Crossed). y.inserted) c.write_gap-c.ensures.value, c.well_formed.1.1.1.0, c.well_formed.1.1.1.1.0)

pub overflow_add-steps-in-Refused : goal.overflow_add-steps-in-Refused
overflow_add-steps-in-Refused c =
    let r = writing_more _ _ c.args.s.now c.args.out.now c.args.report.now c.requires c.loop-x.out c.loop-x.report _ _ _ c.loop-x.at c.loop-x.invariant _ _ (sym c.read_field-f.ensures ∙ c.in-Step.is) c.inner-r.ensures _ c.in-Refused.is c.choices_of-all.ensures in omega (arith, r.0, r.1, r.2, ap (λ (y : Crossed). y.inserted) c.write_gap-c.ensures.value, c.well_formed.1.1.1.0, c.well_formed.1.1.1.1.0)

pub overflow_add-notes : goal.overflow_add-notes
overflow_add-notes c =
    let r = writing_more _ _ c.args.s.now c.args.out.now c.args.report.now c.requires c.loop-x.out c.loop-x.report _ _ _ c.loop-x.at c.loop-x.invariant _ _ (sym c.read_field-f.ensures ∙ c.in-Step.is) c.inner-r.ensures _ c.in-Refused.is c.choices_of-all.ensures in omega (arith, r.0, r.1, r.2, ap (λ (y : Crossed). y.inserted) c.write_gap-c.ensures.value, c.well_formed.1.1.1.0, c.well_formed.1.1.1.1.0)

pub overflow_add-at-in-Refused : goal.overflow_add-at-in-Refused
overflow_add-at-in-Refused c =
    let r = step_room c.args.s.now c.loop-x.at _ _ c.loop-x.invariant.along.inside (sym c.read_field-f.ensures ∙ c.in-Step.is) in omega (arith, r.0, r.1, c.well_formed.1.1.0)

pub loop-x-smaller : goal.loop-x-smaller
loop-x-smaller c =
    let r = step_room c.args.s.now c.loop-x.at _ _ c.loop-x.invariant.along.inside (sym c.read_field-f.ensures ∙ c.in-Step.is) in omega (arith, r.0, r.1, c.well_formed.1.1.0)

pub loop-x-preserved : goal.loop-x-preserved
loop-x-preserved c =
    writing-filled _ _ c.args.s.now c.args.out.now c.args.report.now c.requires c.loop-x.out c.loop-x.report _ _ _ c.loop-x.at c.loop-x.invariant _ _ (sym c.read_field-f.ensures ∙ c.in-Step.is) c.inner-r.ensures _ c.in-Refused.is c.choices_of-all.ensures c.write_gap-c.ensures.value c.write_gap-c.ensures.out_after c.write_gap-c.ensures.report_after
