-- `config::Lists::below` meets its contract.
-- Assumes nothing.
use Prim.Native.Nat.{ℕ}
use mathlib.Core.Path.{sym}
use native.Mathlib.Omega.{arith}
use lib.Dec.{eqb}
use Rattle.laws.proofs.Choosing.{bit-most}
use Rattle.laws.proofs.Looping.{sum-none, sum_more, count_most}
use Rattle.config.specs.Tables.{listed_in}
use Rattle.config.specs.Lists.{listed_below}
use Rattle.config.proofs.Lists.below.Goals as goal

pub loop-k-init : goal.loop-k-init
unfolding listed_below
loop-k-init c = sym (sum-none _)

pub overflow_add-m : goal.overflow_add-m
unfolding listed_below
overflow_add-m c =
    let a = c.args in
    omega (arith, count_most (λ (j : ℕ). eqb (listed_in a.self j).runnable a.r) c.loop-k.k, bit-most (eqb c.get.result.runnable a.r), c.bit-m.ensures, c.loop-k.invariant)

pub loop-k-preserved : goal.loop-k-preserved
unfolding listed_below
loop-k-preserved c = rw (c.bit-m.ensures, c.get.ensures, c.loop-k.invariant, sum_more)
