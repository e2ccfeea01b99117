-- `whys::holds` meets its contract.
-- Assumes nothing.
use Prim.Native.Nat.{ℕ}
use lib.Dec.{eqb}
use lib.ListN.{get_or}
use mathlib.Core.Path.{◌∙◌, refl}
use native.Mathlib.Omega.{arith}
use Rattle.std.proofs.Common.{rules, tests}
use Rattle.std.proofs.lemmas.Iterator.{YieldsList-from_range}
use Rattle.std.proofs.lemmas.Iterator.Search.{any_from_yields_List}
use Rattle.laws.proofs.Ranges.{any-asked}
use Rattle.whys.specs.Whys.{holds_of}
use Rattle.whys.proofs.holds.Goals as goal

pub returns : goal.returns
unfolding holds_of
returns c =
    let s = c.args.s in
    let p = λ (k : ℕ). eqb (get_or s.at k 0) c.args.a in
    any_from_yields_List p _ _ _ c.any.ensures.ran (YieldsList-from_range 0 s.held s.held refl (omega arith)) (λ x b q k. search (rules, tests)) ∙ any-asked p s.held
