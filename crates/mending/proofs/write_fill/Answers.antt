-- `write_fill` meets its contract: so many steps and notes of the fill are put (`Filling`).
-- Assumes nothing.
use mathlib.Core.Path.{sym, ap, ◌∙◌}
use native.Mathlib.Omega.{arith}
use Rattle.searching.specs.Search.{choice_at}
use Rattle.mending.proofs.Ranking.{left-next, left_none, left-long, left-first}
use Rattle.mending.proofs.Filling.{filling-starts, filling-next, filling-over}
use Rattle.mending.proofs.write_fill.Goals as goal

pub loop-k-init : goal.loop-k-init
loop-k-init c = rw left_none (filling-starts _ _ _ _ _ _ _ _ c.requires.0)

pub overflow_add-n : goal.overflow_add-n
overflow_add-n c = omega (arith, c.requires.1.text, c.requires.1.note, c.well_formed.1.1.1.1.0, c.well_formed.1.1.1.1.1.1.0)

pub overflow_mul-n : goal.overflow_mul-n
overflow_mul-n c = omega (arith, c.requires.1.text, c.requires.1.note, c.well_formed.1.1.1.1.0, c.well_formed.1.1.1.1.1.1.0)

pub overflow_add-m : goal.overflow_add-m
overflow_add-m c = omega (arith, c.requires.1.text, c.requires.1.note, c.well_formed.1.1.1.1.0, c.well_formed.1.1.1.1.1.1.0)

pub overflow_mul-m : goal.overflow_mul-m
overflow_mul-m c = omega (arith, c.requires.1.text, c.requires.1.note, c.well_formed.1.1.1.1.0, c.well_formed.1.1.1.1.1.1.0)

pub overflow_add-n-in-loop-k : goal.overflow_add-n-in-loop-k
overflow_add-n-in-loop-k c = omega (arith, c.requires.1.text, c.requires.1.note, c.well_formed.1.1.1.1.0, c.well_formed.1.1.1.1.1.1.0)

pub overflow_add-n-in-loop-k-2 : goal.overflow_add-n-in-loop-k-2
overflow_add-n-in-loop-k-2 c = omega (arith, c.requires.1.text, c.requires.1.note, c.well_formed.1.1.1.1.0, c.well_formed.1.1.1.1.1.1.0)

pub loop-k-preserved : goal.loop-k-preserved
loop-k-preserved c =
    let long = left-long c.loop-k.k c.args.fill in
    let is = c.choice_at-x.ensures ∙ ap (choice_at c.args.all) (c.number.ensures ∙ sym (left-first c.loop-k.k c.args.fill (omega (arith, c.requires.0)))) in
    rw left-next (filling-next _ _ _ _ _ _ _ _ c.requires.1 _ _ _ _ _ c.loop-k.invariant (omega (arith, long)) is c.possible-r.ensures c.claiming-y.ensures c.write_step.ensures.buf_after c.write_note.ensures)

pub shape_of-out : goal.shape_of-out
shape_of-out c = c.loop-k.invariant.out-same

pub shape_of-report : goal.shape_of-report
shape_of-report c = c.loop-k.invariant.report-same

pub returns : goal.returns
returns c =
    let r = filling-over _ _ _ _ _ _ _ _ c.requires.1 _ _ _ _ _ c.loop-k.invariant (omega (arith, left-long c.loop-k.k c.args.fill)) in record { value = r.0; out_after = r.1; report_after = r.2 }
