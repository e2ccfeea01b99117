-- `passing::slot_stop` meets its contract.
-- Assumes nothing.
use Prim.Native.Nat.{ℕ}
use mathlib.Core.Bool.{true, false}
use mathlib.Core.Path.{◌≡◌, ◌∙◌}
use Rattle.std.proofs.Common.{rules, tests}
use Rattle.std.proofs.lemmas.Iterator.{first_from_Range}
use Rattle.state.specs.Tables.{slot_in}
use Rattle.passing.specs.Passing.{slot_stops, slot_stop}
use Rattle.laws.proofs.Ranges.{found_first}
use Rattle.passing.proofs.slot_stop.Goals as goal

pub returns : goal.returns
unfolding slot_stop
returns c =
    let a = c.args in
    let p = λ (k : ℕ). slot_stops a.t (slot_in a.ss k) in
    let f = first_from_Range _ _ _ _ (λ k. p k ≡ true) (λ k. p k ≡ false) c.find.ensures.ran (λ x q k. search (rules, tests)) (λ x q k. search (rules, tests)) in
    c.unwrap_or.ensures ∙ found_first p 32 _ f
