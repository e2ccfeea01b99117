-- `end_steps::is_returned` meets its contract.
-- Assumes nothing.
use Rattle.std.proofs.Common.{ℕ, eqb, rules, tests}
use Rattle.config.specs.Tables.{return_event_in}
use Rattle.laws.specs.Choice.{both}
use Rattle.laws.proofs.Ranges.{any-ran}
use Rattle.end_steps.proofs.is_returned.Goals as goal

pub returns : goal.returns
returns c =
    let a = c.args in
    any-ran (λ (e : ℕ). both (eqb (return_event_in a.t e).runnable a.r) (eqb (return_event_in a.t e).operation a.o)) c.any.ensures.ran (λ x b q k. search (rules, tests))
