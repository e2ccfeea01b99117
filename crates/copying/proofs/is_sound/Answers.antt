-- `copying::is_sound` meets its contract.
-- Assumes nothing.
use native.Mathlib.Omega.{arith}
use mathlib.Core.Path.{sym}
use Rattle.recording.proofs.Loops.{reading-starts, step_room, reading_step, reading-end, reading-refused}
use Rattle.copying.proofs.is_sound.Goals as goal

pub loop-size-init : goal.loop-size-init
loop-size-init c = reading-starts c.args.s.now

pub overflow_add-at : goal.overflow_add-at
overflow_add-at c = let r = step_room c.args.s.now c.loop-size.at _ _ c.loop-size.invariant.inside (sym c.in-Step.ensures) in omega (arith, r.0)

pub loop-size-smaller : goal.loop-size-smaller
loop-size-smaller c = let r = step_room c.args.s.now c.loop-size.at _ _ c.loop-size.invariant.inside (sym c.in-Step.ensures) in omega (arith, r.0, r.1)

pub loop-size-preserved : goal.loop-size-preserved
loop-size-preserved c = reading_step c.args.s.now c.loop-size.at c.loop-size.invariant _ _ (sym c.in-Step.ensures)

pub returns-in-End : goal.returns-in-End
returns-in-End c = reading-end c.args.s.now c.loop-size.at c.loop-size.invariant (sym c.in-End.ensures)

pub returns-in-Refused : goal.returns-in-Refused
returns-in-Refused c = reading-refused c.args.s.now c.loop-size.at c.loop-size.invariant _ _ (sym c.in-Refused.ensures)
