-- `taken_all` meets its contract. The choices that are left lead from the state reached to where all lead from the first.
-- Assumes nothing.
use mathlib.Core.Path.{sym, ap, ◌∙◌}
use native.Mathlib.Omega.{arith}
use Rattle.mending.specs.declared.Picks.{Picks}
use Rattle.mending.specs.Going.{picked, taken_all}
use Rattle.searching.specs.Search.{choice_at}
use Rattle.mending.proofs.Ranking.{left_of, left-next, left_none, left-long, left-first, taken_none, taken_next}
use Rattle.mending.proofs.taken_all.Goals as goal

pub loop-k-init : goal.loop-k-init
loop-k-init c = ap (λ (p : Picks). taken_all c.args.cfg c.args.st (picked c.args.all p)) (sym (left_none c.args.fill))

pub loop-k-preserved : goal.loop-k-preserved
loop-k-preserved c =
    let long = left-long c.loop-k.k c.args.fill in
    let is = c.choice_at-x.ensures ∙ ap (choice_at c.args.all) (c.number.ensures ∙ sym (left-first c.loop-k.k c.args.fill (omega (arith, c.requires)))) in
    c.loop-k.invariant ∙ taken_next _ _ _ (left_of c.loop-k.k c.args.fill) (omega (arith, long)) (omega (arith, long, c.requires)) is c.possible.ensures
    ∙ ap (λ (p : Picks). taken_all c.args.cfg c.possible.result.state (picked c.args.all p)) (sym (left-next c.loop-k.k c.args.fill))

pub returns : goal.returns
returns c = sym (c.loop-k.invariant ∙ taken_none _ _ _ _ (omega (arith, left-long c.loop-k.k c.args.fill)))
