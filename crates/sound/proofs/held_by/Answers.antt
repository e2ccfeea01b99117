-- `sound::held_by` meets its contract.
-- Assumes nothing.
use Rattle.std.proofs.Common.{refl, add-one}
use Rattle.sound.specs.Tally.{held_below}
use Rattle.sound.proofs.held_by.Goals as goal

pub loop-j-init : goal.loop-j-init
unfolding held_below
loop-j-init c = refl

pub loop-j-preserved : goal.loop-j-preserved
unfolding held_below
loop-j-preserved c = rw (c.entered-t.ensures, c.area_at.ensures, c.loop-j.invariant, add-one)
