-- `time_steps::timers_after` meets its contract.
-- Assumes nothing.
use mathlib.Core.Path.{◌≡◌}
use native.Mathlib.Omega.{arith}
use Rattle.laws.proofs.Places.{each_more, each_none}
use Rattle.effects.specs.Steps.{timers_after}
use Rattle.state.specs.Places.{place_in, with_place}
use Rattle.time_steps.proofs.timers_after.Goals as goal

pub loop-k-init : goal.loop-k-init
loop-k-init c = rw each_none

pub loop-k-preserved : goal.loop-k-preserved
unfolding with_place place_in
loop-k-preserved c = rw (c.with-u.ensures, c.timer_after.ensures, c.get.ensures, c.loop-k.invariant, each_more)

pub returns : goal.returns
unfolding timers_after
returns c =
    let e : c.loop-k.k ≡ c.args.cfg.timers.n = omega arith in
    rw (c.loop-k.invariant, e)
