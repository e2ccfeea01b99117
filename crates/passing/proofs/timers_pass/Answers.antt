-- `passing::timers_pass` meets its contract.
-- Assumes nothing.
use Prim.Native.Nat.{ℕ}
use Rattle.std.proofs.Common.{rules, tests}
use Rattle.state.specs.Tables.{timer_in}
use Rattle.passing.specs.Passing.{timers_pass}
use Rattle.passing.proofs.timers_pass.Goals as goal

pub returns : goal.returns
unfolding timers_pass
returns c =
    let a = c.args in
    c.least_of.ensures (λ (k : ℕ). (timer_in a.ts k).count) (λ k y q. search (rules, tests))
