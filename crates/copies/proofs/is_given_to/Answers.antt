-- `copies::is_given_to` meets its contract.
-- Assumes nothing.
use mathlib.Core.Path.{◌∙◌, refl}
use native.Mathlib.Omega.{arith}
use Rattle.std.proofs.Common.{rules, tests}
use Rattle.std.proofs.lemmas.Iterator.{YieldsList-from_range}
use Rattle.std.proofs.lemmas.Iterator.Search.{any_from_yields_List}
use Rattle.laws.proofs.Ranges.{any-asked}
use Rattle.copies.specs.Given.{gives_by, is_given_by}
use Rattle.copies.proofs.is_given_to.Goals as goal

pub returns : goal.returns
unfolding is_given_by
returns c =
    let a = c.args in
    let p = gives_by a.cfg a.rooms a.r a.c a.k in
    any_from_yields_List p _ _ _ c.any.ensures.ran (YieldsList-from_range 0 4 4 refl (omega arith)) (λ x b q k. search (rules, tests)) ∙ any-asked p 4
