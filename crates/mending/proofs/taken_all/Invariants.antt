-- `taken_all` meets its contract. The choices that are left lead from the state reached to where all lead from the first.
-- Assumes nothing.
use mathlib.Core.Path.{◌≡◌}
use Rattle.mending.specs.Going.{picked, taken_all}
use Rattle.mending.proofs.Ranking.{left_of}
use Rattle.mending.proofs.taken_all.Given as goal

abbrev pub invariant-loop-k : goal.invariant-loop-k
invariant-loop-k l = taken_all l.cfg l.initial.reached (picked l.all l.fill) ≡ taken_all l.cfg l.reached (picked l.all (left_of l.k l.fill))
