-- `passing::operations_pass` meets its contract.
-- Assumes nothing.
use Prim.Native.Nat.{ℕ}
use Rattle.std.proofs.Common.{rules, tests}
use Rattle.state.specs.Tables.{operation_in}
use Rattle.passing.specs.Passing.{operation_left, operations_pass}
use Rattle.passing.proofs.operations_pass.Goals as goal

pub returns : goal.returns
unfolding operations_pass
returns c =
    let a = c.args in
    c.least_of.ensures (λ (k : ℕ). operation_left a.t (operation_in a.os k)) (λ k y q. search (rules, tests))
