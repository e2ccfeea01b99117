-- `feeding::fed_elements` meets its contract. The loop has been over the places below its counter (`each_below`), and takes one more by `each-put`.
-- Assumes nothing.
use borrow.Author.Rules.{rules}
use lib.ListN.{length}
use mathlib.Core.Path.{◌∙◌, ◌≡◌}
use native.Mathlib.Omega.{arith}
use Rattle.laws.proofs.Places.{each_none, length-mapped}
use Rattle.shared_steps.proofs.Stopping.{each-put, each_within, elements-made}
use Rattle.effects.specs.Steps.{fed_elements}
use Rattle.feeding.proofs.fed_elements.Goals as goal

pub loop-q-init : goal.loop-q-init
loop-q-init c = rw each_none

pub loop-q-preserved : goal.loop-q-preserved
loop-q-preserved c =
    let e : length c.args.t.at ≡ 16 = search (rules, length-mapped, c.well_formed.1) in
    rw c.fed_element.ensures (each-put _ _ _ _ _ _ e (omega (arith, c.within-n.ensures.0)) c.loop-q.invariant)

pub returns : goal.returns
unfolding fed_elements
returns c =
    let a = c.args in
    let e : length a.t.at ≡ 16 = search (rules, length-mapped, c.well_formed.1) in
    let k : c.loop-q.q ≡ c.within-n.result = omega arith in
    elements-made (rw (k, c.within-n.ensures.1) at c.loop-q.invariant ∙ each_within 16 _ _ a.cfg.required.n _ e)
