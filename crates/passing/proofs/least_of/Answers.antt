-- `passing::least_of` meets its contract.
-- Assumes nothing.
use mathlib.Core.Path.{◌≡◌, sym}
use native.Mathlib.Omega.{arith}
use Rattle.passing.proofs.Passing.{least-none, least_more, min_least}
use Rattle.passing.proofs.least_of.Goals as goal

pub loop-k-init : goal.loop-k-init
loop-k-init g c = λ h p. sym (least-none _ _)

pub loop-k-preserved : goal.loop-k-preserved
loop-k-preserved g c = λ h p. rw (c.min-u.ensures, p _ _ c.f.ensures, c.loop-k.invariant h p, min_least, least_more)

pub returns : goal.returns
returns g c = λ h p.
    let k : c.loop-k.k ≡ c.args.n = omega arith in
    rw k at c.loop-k.invariant h p
