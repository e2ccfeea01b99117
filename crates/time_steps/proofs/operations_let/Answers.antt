-- `time_steps::operations_let` meets its contract.
-- Assumes nothing.
use Rattle.std.proofs.Common.{ℕ, rules, tests}
use Rattle.effects.specs.Steps.{operation_lets, operations_let}
use Rattle.laws.proofs.Ranges.{all-ran}
use Rattle.state.specs.Tables.{operation_in}
use Rattle.time_steps.proofs.operations_let.Goals as goal

pub returns : goal.returns
unfolding operations_let
returns c = all-ran (λ (o : ℕ). operation_lets c.args.t (operation_in c.args.os o)) c.all.ensures.ran (λ x b q k. search (rules, tests))
