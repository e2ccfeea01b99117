-- `sound::is_no_stack` meets its contract.
-- Assumes nothing.
use Rattle.std.proofs.Common.{◌≡◌, length, ◌∙◌, rules, tests, eq-eqb, ne_eqb}
use Rattle.std.proofs.lemmas.Iterator.{YieldsList-from_slice}
use Rattle.std.proofs.lemmas.Iterator.Search.{all_from_yields_List}
use Rattle.rules.specs.Sound.{is_zero, is_no_stack}
use Rattle.laws.proofs.Ranges.{row_filled}
use Rattle.sound.proofs.is_no_stack.Goals as goal

pub returns-then-s-eq0 : goal.returns-then-s-eq0
unfolding is_no_stack
returns-then-s-eq0 c =
    let a = c.args.s in
    let h : length a.at ≡ 16 = search rules in
    rw (eq-eqb _ _ c.if-s-eq0.true)
    (all_from_yields_List is_zero _ _ _ c.all.ensures.ran (YieldsList-from_slice a.at cc) (λ x b q k. search (rules, tests))
    ∙ row_filled is_zero is_zero 0 16 0 a.at h)

pub returns-else-s-eq0 : goal.returns-else-s-eq0
unfolding is_no_stack
returns-else-s-eq0 c = rw (ne_eqb _ _ c.if-s-eq0.false)
