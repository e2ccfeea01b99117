-- `moving::pass` meets its contract.
-- Assumes nothing.
use mathlib.Core.Path.{sym, ◌∙◌}
use native.Mathlib.Omega.{arith}
use Rattle.moving.proofs.Lengthening.{no_short, passing-starts, passing-room, passing-inside, passing-next, passing-ended}
use Rattle.moving.proofs.pass.Goals as goal

pub loop-n-init : goal.loop-n-init
loop-n-init c = passing-starts _

pub returns-in_default : goal.returns-in_default
returns-in_default c =
    let w = passing-ended _ _ _ c.loop-n.invariant _ (no_short _ _ c.in_default.not-Step c.read_short-f.ensures) in
    record { count_value = w.0; last_value = w.1 }

pub overflow_add-count : goal.overflow_add-count
overflow_add-count c = omega (arith, passing-room _ _ _ c.loop-n.invariant, c.well_formed.0)

pub overflow_add-at : goal.overflow_add-at
overflow_add-at c = let r = passing-inside _ _ _ c.loop-n.invariant _ _ (sym c.read_short-f.ensures ∙ c.in-Step.is) in omega (arith, r.0, c.well_formed.0)

pub loop-n-smaller : goal.loop-n-smaller
loop-n-smaller c = let r = passing-inside _ _ _ c.loop-n.invariant _ _ (sym c.read_short-f.ensures ∙ c.in-Step.is) in omega (arith, r.0, r.1)

pub loop-n-preserved : goal.loop-n-preserved
loop-n-preserved c = passing-next _ _ _ c.loop-n.invariant (λ i. omega (arith, c.type_inv.s i)) _ _ (sym c.read_short-f.ensures ∙ c.in-Step.is)
