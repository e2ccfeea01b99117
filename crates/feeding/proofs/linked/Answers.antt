-- `feeding::linked` meets its contract.
-- Assumes nothing.
use Prim.Native.Nat.{ℕ}
use mathlib.Core.Path.{◌∙◌, refl}
use native.Mathlib.Omega.{arith}
use Rattle.std.proofs.Common.{rules, tests}
use Rattle.std.proofs.lemmas.Iterator.{YieldsList-from_range}
use Rattle.std.proofs.lemmas.Iterator.Search.{any_from_yields_List}
use Rattle.config.specs.Tables.{link_in}
use Rattle.effects.specs.Steps.{joins}
use Rattle.laws.proofs.Ranges.{any-asked}
use Rattle.feeding.proofs.linked.Goals as goal

pub returns : goal.returns
returns c =
    let a = c.args in
    let p = λ (l : ℕ). joins (link_in a.t l) a.p a.q in
    any_from_yields_List p _ _ _ c.any.ensures.ran (YieldsList-from_range 0 a.t.n a.t.n refl (omega arith)) (λ x b q k. search (rules, tests)) ∙ any-asked p a.t.n
