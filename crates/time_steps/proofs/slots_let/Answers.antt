-- `time_steps::slots_let` meets its contract.
-- Assumes nothing.
use Rattle.std.proofs.Common.{ℕ, rules, tests}
use Rattle.effects.specs.Steps.{slot_lets, slots_let}
use Rattle.laws.proofs.Ranges.{all-ran}
use Rattle.state.specs.Tables.{slot_in}
use Rattle.time_steps.proofs.slots_let.Goals as goal

pub returns : goal.returns
unfolding slots_let
returns c = all-ran (λ (i : ℕ). slot_lets c.args.t (slot_in c.args.ss i)) c.all.ensures.ran (λ x b q k. search (rules, tests))
