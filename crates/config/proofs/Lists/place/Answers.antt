-- `config::Lists::place` meets its contract.
-- Assumes nothing.
use mathlib.Core.Path.{◌≡◌, sym, ◌∙◌}
use native.Mathlib.Omega.{arith}
use Rattle.laws.proofs.Looping.{first-none, first_more, first-here}
use Rattle.config.specs.Lists.{place_of}
use Rattle.config.proofs.Lists.place.Goals as goal

pub loop-j-init : goal.loop-j-init
loop-j-init c = first-none _

pub returns-then-has_at : goal.returns-then-has_at
unfolding place_of
returns-then-has_at c = sym (first-here _ _ c.loop-j.j c.loop-j.invariant (sym c.has_at.ensures ∙ c.if-has_at.true) (omega arith))

pub loop-j-preserved : goal.loop-j-preserved
loop-j-preserved c = first_more _ _ c.loop-j.invariant (sym c.has_at.ensures ∙ c.if-has_at.false)

pub returns : goal.returns
unfolding place_of
returns c =
    let e : c.loop-j.j ≡ 4 = omega arith in
    sym (rw e at c.loop-j.invariant)
