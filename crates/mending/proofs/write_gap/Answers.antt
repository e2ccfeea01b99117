-- `write_gap` meets its contract.
-- Assumes nothing.
use native.Mathlib.Omega.{arith}
use Rattle.mending.proofs.Filling.{gap-room, gap_more, gap-crossed, gap-text, gap-notes}
use Rattle.mending.proofs.write_gap.Goals as goal

pub write_fill-next-requires : goal.write_fill-next-requires
write_fill-next-requires c =
    (c.picks_of-fill.ensures.1, gap-room _ _ _ _ _ _ c.args.out.now c.args.report.now c.requires c.count_of-k.ensures c.rank-passed.ensures.0 c.picks_of-fill.ensures.0 c.picks_of-fill.ensures.1)

pub overflow_add-n : goal.overflow_add-n
overflow_add-n c =
    let r = gap_more _ _ _ _ _ _ c.args.out.now c.args.report.now c.requires c.count_of-k.ensures c.rank-passed.ensures.0 c.picks_of-fill.ensures.0 c.picks_of-fill.ensures.1 in omega (arith, r.0, r.1, c.well_formed.1.1.1.1.0, c.well_formed.1.1.1.1.1.1.0)

pub overflow_mul-n : goal.overflow_mul-n
overflow_mul-n c =
    let r = gap_more _ _ _ _ _ _ c.args.out.now c.args.report.now c.requires c.count_of-k.ensures c.rank-passed.ensures.0 c.picks_of-fill.ensures.0 c.picks_of-fill.ensures.1 in omega (arith, r.0, r.1, c.well_formed.1.1.1.1.0, c.well_formed.1.1.1.1.1.1.0)

pub overflow_add-m : goal.overflow_add-m
overflow_add-m c =
    let r = gap_more _ _ _ _ _ _ c.args.out.now c.args.report.now c.requires c.count_of-k.ensures c.rank-passed.ensures.0 c.picks_of-fill.ensures.0 c.picks_of-fill.ensures.1 in omega (arith, r.0, r.1, c.well_formed.1.1.1.1.0, c.well_formed.1.1.1.1.1.1.0)

pub overflow_mul-m : goal.overflow_mul-m
overflow_mul-m c =
    let r = gap_more _ _ _ _ _ _ c.args.out.now c.args.report.now c.requires c.count_of-k.ensures c.rank-passed.ensures.0 c.picks_of-fill.ensures.0 c.picks_of-fill.ensures.1 in omega (arith, r.0, r.1, c.well_formed.1.1.1.1.0, c.well_formed.1.1.1.1.1.1.0)

pub overflow_add-n-2 : goal.overflow_add-n-2
overflow_add-n-2 c =
    let r = gap_more _ _ _ _ _ _ c.args.out.now c.args.report.now c.requires c.count_of-k.ensures c.rank-passed.ensures.0 c.picks_of-fill.ensures.0 c.picks_of-fill.ensures.1 in omega (arith, r.0, r.1, c.well_formed.1.1.1.1.0, c.well_formed.1.1.1.1.1.1.0)

pub overflow_add-n-3 : goal.overflow_add-n-3
overflow_add-n-3 c =
    let r = gap_more _ _ _ _ _ _ c.args.out.now c.args.report.now c.requires c.count_of-k.ensures c.rank-passed.ensures.0 c.picks_of-fill.ensures.0 c.picks_of-fill.ensures.1 in omega (arith, r.0, r.1, c.well_formed.1.1.1.1.0, c.well_formed.1.1.1.1.1.1.0)

pub returns : goal.returns
returns c =
    record { value = gap-crossed _ _ _ _ _ _ c.args.out.now c.args.report.now c.requires c.count_of-k.ensures c.rank-passed.ensures.0 c.picks_of-fill.ensures.0 c.picks_of-fill.ensures.1 c.write_fill-next.ensures.value c.inner-last.ensures; out_after = gap-text _ _ _ _ _ _ c.args.out.now c.args.report.now c.requires c.count_of-k.ensures c.rank-passed.ensures.0 c.picks_of-fill.ensures.0 c.picks_of-fill.ensures.1 c.write_fill-next.ensures.out_after c.write_step.ensures.buf_after; report_after = gap-notes _ _ _ _ _ _ c.args.out.now c.args.report.now c.requires c.count_of-k.ensures c.rank-passed.ensures.0 c.picks_of-fill.ensures.0 c.picks_of-fill.ensures.1 c.write_fill-next.ensures.report_after c.write_note.ensures }
