-- `whys::holder` meets its contract.
-- Assumes nothing.
use Prim.Native.Nat.{ℕ}
use mathlib.Core.Bool.{true, false}
use mathlib.Core.Path.{◌≡◌, ◌∙◌}
use Rattle.std.proofs.Common.{rules, tests}
use Rattle.std.proofs.lemmas.Iterator.{first_from_Range}
use Rattle.state.specs.Tables.{slot_in}
use Rattle.laws.proofs.Ranges.{found_first}
use Rattle.whys.specs.Whys.{holds_of, holder_of}
use Rattle.whys.proofs.holder.Goals as goal

pub returns : goal.returns
unfolding holder_of
returns c =
    let a = c.args in
    let p = λ (k : ℕ). holds_of a.a (slot_in a.slots k).stack in
    let f = first_from_Range _ _ _ _ (λ k. p k ≡ true) (λ k. p k ≡ false) c.find.ensures.ran (λ x q k. search (rules, tests)) (λ x q k. search (rules, tests)) in
    c.unwrap_or.ensures ∙ found_first p 32 _ f
