-- `time_steps::timers_let` meets its contract.
-- Assumes nothing.
use Rattle.std.proofs.Common.{ℕ, rules, tests}
use Rattle.effects.specs.Steps.{timer_lets, timers_let}
use Rattle.laws.proofs.Ranges.{all-ran}
use Rattle.state.specs.Tables.{timer_in}
use Rattle.time_steps.proofs.timers_let.Goals as goal

pub returns : goal.returns
unfolding timers_let
returns c = all-ran (λ (k : ℕ). timer_lets c.args.t (timer_in c.args.ts k)) c.all.ensures.ran (λ x b q k. search (rules, tests))
