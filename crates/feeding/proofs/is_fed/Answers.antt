-- `feeding::is_fed` meets its contract.
-- Assumes nothing.
use mathlib.Core.Path.{◌∙◌, refl}
use native.Mathlib.Omega.{arith}
use Rattle.std.proofs.Common.{rules, tests}
use Rattle.std.proofs.lemmas.Iterator.{YieldsList-from_range}
use Rattle.std.proofs.lemmas.Iterator.Search.{any_from_yields_List}
use Rattle.feeding.specs.Rooms.{is_fed_by, feeds_by}
use Rattle.laws.proofs.Ranges.{any-asked}
use Rattle.feeding.proofs.is_fed.Goals as goal

pub returns : goal.returns
unfolding is_fed_by
returns c =
    let a = c.args in
    let p = feeds_by a.cfg a.rooms a.p a.r in
    any_from_yields_List p _ _ _ c.any.ensures.ran (YieldsList-from_range 0 a.cfg.devents.n a.cfg.devents.n refl (omega arith)) (λ x b q k. search (rules, tests)) ∙ any-asked p a.cfg.devents.n
