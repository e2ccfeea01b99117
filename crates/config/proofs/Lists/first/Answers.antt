-- `config::Lists::first` meets its contract.
-- Assumes nothing.
use mathlib.Core.Path.{◌≡◌, sym}
use native.Mathlib.Omega.{arith}
use borrow.Author.Tests.{eq-eqb, ne_eqb}
use Rattle.laws.proofs.Looping.{first-none, first_more, first-here}
use Rattle.config.specs.Lists.{first_listed}
use Rattle.config.proofs.Lists.first.Goals as goal

pub loop-k-init : goal.loop-k-init
loop-k-init c = first-none _

pub returns-then-get-r : goal.returns-then-get-r
unfolding first_listed
returns-then-get-r c = sym (first-here _ _ c.loop-k.k c.loop-k.invariant (rw (← c.get.ensures) (eq-eqb _ _ c.if-get-r.true)) (omega arith))

pub loop-k-preserved : goal.loop-k-preserved
loop-k-preserved c = first_more _ _ c.loop-k.invariant (rw (← c.get.ensures) (ne_eqb _ _ c.if-get-r.false))

pub returns : goal.returns
unfolding first_listed
returns c =
    let e : c.loop-k.k ≡ c.args.self.n = omega arith in
    sym (rw e at c.loop-k.invariant)
