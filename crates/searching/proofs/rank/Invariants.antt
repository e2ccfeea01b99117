-- `rank` meets its contract: all shorter sequences are passed over (`Ranking`).
-- Assumes nothing.
use Rattle.effects.specs.Step.{inner_of}
use Rattle.gaps.specs.Gaps.{choices_in, fills}
use Rattle.searching.proofs.Ranks.{Ranking}
use Rattle.searching.proofs.rank.Given as goal

abbrev pub invariant-loop-n : goal.invariant-loop-n
invariant-loop-n l = Ranking (fills (inner_of l.cfg) l.cfg l.st l.s) (choices_in l.all) l.n l.passed
