-- `config::Lists::place` meets its contract.
-- Assumes nothing.
use Prim.Native.Nat.{ℕ}
use mathlib.Core.Path.{◌≡◌}
use lib.Dec.{eqb}
use Rattle.laws.specs.Choice.{both}
use Rattle.laws.specs.Loop.{first_below}
use Rattle.config.specs.Lists.{lists_at, element_at}
use Rattle.config.proofs.Lists.place.Given as goal

abbrev pub invariant-loop-j : goal.invariant-loop-j
invariant-loop-j l = first_below (λ (k : ℕ). both (lists_at l.self l.r k) (eqb (element_at l.self l.r k) l.q)) l.j ≡ l.j
