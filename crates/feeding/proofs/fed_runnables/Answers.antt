-- `feeding::fed_runnables` meets its contract. The loop has been over the places below its counter (`each_below`), and takes one more by `each-put`.
-- Assumes nothing.
use borrow.Author.Rules.{rules}
use lib.ListN.{length}
use mathlib.Core.Path.{◌∙◌, ◌≡◌}
use native.Mathlib.Omega.{arith}
use Rattle.config.specs.Table.{part_in}
use Rattle.laws.proofs.Places.{each_none, length-mapped}
use Rattle.shared_steps.proofs.Stopping.{each-put, each_within, runnables-made}
use Rattle.feeding.specs.Rooms.{fed_runnables_by}
use Rattle.feeding.proofs.fed_runnables.Goals as goal

pub loop-r-init : goal.loop-r-init
loop-r-init c = rw each_none

pub loop-r-preserved : goal.loop-r-preserved
unfolding part_in
loop-r-preserved c =
    let e : length c.args.rs.at ≡ 16 = search (rules, length-mapped, c.well_formed.1) in
    rw (c.woken_if.ensures, c.is_fed.ensures) (each-put _ _ _ _ _ _ e (omega (arith, c.within-n.ensures.0)) c.loop-r.invariant)

pub returns : goal.returns
unfolding fed_runnables_by
returns c =
    let a = c.args in
    let e : length a.rs.at ≡ 16 = search (rules, length-mapped, c.well_formed.1) in
    let k : c.loop-r.r ≡ c.within-n.result = omega arith in
    runnables-made (rw (k, c.within-n.ensures.1) at c.loop-r.invariant ∙ each_within 16 _ _ a.cfg.runnables.n _ e)
