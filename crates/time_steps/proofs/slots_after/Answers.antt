-- `time_steps::slots_after` meets its contract. The loop has been over the places below its index (`each_below`), and takes one more by `each-put`.
-- Assumes nothing.
use borrow.Author.Rules.{rules}
use lib.ListN.{length}
use mathlib.Core.Path.{◌≡◌}
use native.Mathlib.Omega.{arith}
use Rattle.laws.proofs.Places.{each_none, length-mapped}
use Rattle.effects.specs.Steps.{slots_after}
use Rattle.shared_steps.proofs.Stopping.{each-put}
use Rattle.time_steps.proofs.slots_after.Goals as goal

pub loop-x-init : goal.loop-x-init
loop-x-init c = rw each_none

pub loop-x-preserved : goal.loop-x-preserved
loop-x-preserved c =
    let e : length c.args.ss.at ≡ 32 = search (rules, length-mapped, c.well_formed.0) in
    rw c.slot_after.ensures (each-put _ _ _ _ _ _ e (omega arith) c.loop-x.invariant)

pub returns : goal.returns
unfolding slots_after
returns c =
    let i : c.loop-x.x-index ≡ 32 = omega arith in
    rw (c.loop-x.invariant, i)
