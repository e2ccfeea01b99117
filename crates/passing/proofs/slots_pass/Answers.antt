-- `passing::slots_pass` meets its contract.
-- Assumes nothing.
use Prim.Native.Nat.{ℕ}
use Rattle.std.proofs.Common.{rules, tests}
use Rattle.state.specs.Tables.{slot_in}
use Rattle.passing.specs.Passing.{slot_left, slots_pass}
use Rattle.passing.proofs.slots_pass.Goals as goal

pub returns : goal.returns
unfolding slots_pass
returns c =
    let a = c.args in
    c.least_of.ensures (λ (k : ℕ). slot_left a.t (slot_in a.ss k)) (λ k y q. search (rules, tests))
