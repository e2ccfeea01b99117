-- `write_fill` meets its contract: so many steps and notes of the fill are put (`Filling`).
-- Assumes nothing.
use Rattle.mending.proofs.Filling.{Filling}
use Rattle.mending.proofs.Ranking.{left_of}
use Rattle.mending.proofs.write_fill.Given as goal

abbrev pub invariant-loop-k : goal.invariant-loop-k
invariant-loop-k l = Filling l.cfg l.all l.initial.out l.n l.initial.report l.m l.initial.reached l.fill l.out l.report l.reached (left_of l.k l.fill) l.k
