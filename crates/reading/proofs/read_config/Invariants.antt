-- `reading::read_config` meets its contract. The loop knows what was read and what is ahead (`Ahead`); its measure is the bytes that are left.
-- Assumes nothing.
use Rattle.reading.proofs.Ahead.{Ahead}
use lib.ListN.{length}
use Rattle.reading.proofs.read_config.Given as goal

abbrev pub invariant-loop-number : goal.invariant-loop-number
invariant-loop-number l = Ahead l.s l.t l.cfg l.last l.place

abbrev pub decreases-loop-number : goal.decreases-loop-number
decreases-loop-number l = length l.t
