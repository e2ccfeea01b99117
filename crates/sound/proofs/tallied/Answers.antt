-- `sound::tallied` meets its contract.
-- Assumes nothing.
use Rattle.sound.specs.Tally.{tallied}
use Rattle.sound.proofs.tallied.Goals as goal

pub returns : goal.returns
unfolding tallied
returns c = rw (c.counted.ensures, c.counted-2.ensures, c.held_by.ensures, c.noting.ensures)
