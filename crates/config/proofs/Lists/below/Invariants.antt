-- `config::Lists::below` meets its contract.
-- Assumes nothing.
use mathlib.Core.Path.{◌≡◌}
use Rattle.config.specs.Lists.{listed_below}
use Rattle.config.proofs.Lists.below.Given as goal

abbrev pub invariant-loop-k : goal.invariant-loop-k
invariant-loop-k l = l.m ≡ listed_below l.self l.r l.k
