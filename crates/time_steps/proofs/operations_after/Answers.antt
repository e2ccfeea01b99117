-- `time_steps::operations_after` meets its contract.
-- Assumes nothing.
use mathlib.Core.Path.{◌≡◌}
use native.Mathlib.Omega.{arith}
use Rattle.laws.proofs.Places.{each_more, each_none}
use Rattle.effects.specs.Steps.{operations_after}
use Rattle.state.specs.Places.{place_in, with_place}
use Rattle.time_steps.proofs.operations_after.Goals as goal

pub loop-o-init : goal.loop-o-init
loop-o-init c = rw each_none

pub loop-o-preserved : goal.loop-o-preserved
unfolding with_place place_in
loop-o-preserved c = rw (c.with-u.ensures, c.operation_after.ensures, c.get.ensures, c.loop-o.invariant, each_more)

pub returns : goal.returns
unfolding operations_after
returns c =
    let e : c.loop-o.o ≡ c.args.cfg.operations.n = omega arith in
    rw (c.loop-o.invariant, e)
