-- `config::Lists::first` meets its contract.
-- Assumes nothing.
use Prim.Native.Nat.{ℕ}
use mathlib.Core.Path.{◌≡◌}
use lib.Dec.{eqb}
use Rattle.laws.specs.Loop.{first_below}
use Rattle.config.specs.Tables.{listed_in}
use Rattle.config.proofs.Lists.first.Given as goal

abbrev pub invariant-loop-k : goal.invariant-loop-k
invariant-loop-k l = first_below (λ (j : ℕ). eqb (listed_in l.self j).runnable l.r) l.k ≡ l.k
