-- `passing::passes` meets its contract.
-- Assumes nothing.
use Rattle.passing.specs.Passing.{passes_of}
use Rattle.passing.proofs.Passing.{min_least}
use Rattle.passing.proofs.passes.Goals as goal

pub returns : goal.returns
unfolding passes_of
returns c = rw (c.min-2.ensures, c.min.ensures, c.operations_pass-a.ensures, c.timers_pass-b.ensures, c.slots_pass-c.ensures, min_least, min_least)
