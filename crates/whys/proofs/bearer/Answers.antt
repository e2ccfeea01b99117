-- `whys::bearer` meets its contract.
-- Assumes nothing.
use Prim.Native.Nat.{ℕ}
use mathlib.Core.Bool.{true, false}
use mathlib.Core.Path.{◌≡◌}
use Rattle.std.proofs.Common.{rules, tests}
use Rattle.std.proofs.lemmas.Iterator.{first_from_Range}
use Rattle.state.specs.Tables.{slot_in}
use Rattle.laws.proofs.Ranges.{first_found}
use Rattle.whys.specs.Whys.{serves_as, bearer_of}
use Rattle.whys.proofs.bearer.Goals as goal

pub returns : goal.returns
unfolding bearer_of
returns c =
    let a = c.args in
    let p = λ (k : ℕ). serves_as a.o a.m (slot_in a.slots k).owed in
    let f = first_from_Range _ _ _ _ (λ k. p k ≡ true) (λ k. p k ≡ false) c.find.ensures.ran (λ x q k. search (rules, tests)) (λ x q k. search (rules, tests)) in
    first_found p 32 _ f
