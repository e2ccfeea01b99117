-- `moving::put_shorts` meets its contract.
-- Assumes nothing.
use mathlib.Core.Path.{sym, ◌∙◌}
use native.Mathlib.Omega.{arith}
use Rattle.recording.proofs.Loops.{step_room}
use Rattle.moving.proofs.Shortening.{no_step, shrinking-starts, shrinking-room, shrinking-over, shrinking-fits, shrinking-next, shrinking-ended}
use Rattle.moving.proofs.Answers.{shortens-each}
use Rattle.moving.proofs.put_shorts.Goals as goal

pub loop-x-init : goal.loop-x-init
loop-x-init c = shrinking-starts c.args.s.now c.args.out.now _ c.requires.s_in_bounds c.write_header.ensures.bytes (shortens-each c.args.s.now _ c.requires.s_value).0

pub shape_of-out-in_default : goal.shape_of-out-in_default
shape_of-out-in_default c = c.write_end.auto.buf ∙ c.loop-x.invariant.put.same ∙ c.write_header.auto.buf

pub returns-in_default : goal.returns-in_default
returns-in_default c =
    shrinking-ended _ _ _ _ _ c.loop-x.invariant (shrinking-room c.args.s.now c.args.out.now _ c.requires.s_in_bounds c.write_header.ensures.bytes) _ (no_step _ _ c.in_default.not-Step c.read_field-f.ensures) _ _ c.write_end.ensures
    ∙ shrinking-over c.args.s.now c.args.out.now _ c.requires.s_in_bounds c.write_header.ensures.bytes

pub overflow_add-to : goal.overflow_add-to
overflow_add-to c =
    let l = shrinking-fits _ _ _ _ _ c.loop-x.invariant _ _ (sym c.read_field-f.ensures ∙ c.in-Step.is) in
    omega (arith, l, c.short_size-to.ensures, c.requires.s_in_bounds, c.well_formed.1)

pub overflow_add-at : goal.overflow_add-at
overflow_add-at c = let r = step_room _ _ _ _ c.loop-x.invariant.inside (sym c.read_field-f.ensures ∙ c.in-Step.is) in omega (arith, r.0, c.well_formed.0)

pub loop-x-smaller : goal.loop-x-smaller
loop-x-smaller c = let r = step_room _ _ _ _ c.loop-x.invariant.inside (sym c.read_field-f.ensures ∙ c.in-Step.is) in omega (arith, r.0, r.1)

pub loop-x-preserved : goal.loop-x-preserved
loop-x-preserved c =
    rw c.short_size-to.ensures (shrinking-next _ _ _ _ _ c.loop-x.invariant _ _ (sym c.read_field-f.ensures ∙ c.in-Step.is) (shrinking-room c.args.s.now c.args.out.now _ c.requires.s_in_bounds c.write_header.ensures.bytes) _ c.write_short.ensures.buf_after)
