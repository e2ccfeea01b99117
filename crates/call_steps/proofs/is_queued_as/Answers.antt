-- `call_steps::is_queued_as` meets its contract.
-- Assumes nothing.
use Rattle.std.proofs.Common.{ℕ, get_or, ◌∙◌, rules, tests}
use Rattle.state.specs.Parts.{no_client}
use Rattle.rules.specs.Sound.{is_client, queued_as}
use Rattle.laws.proofs.Ranges.{any-ran}
use Rattle.call_steps.proofs.Some.{some-pass}
use Rattle.call_steps.proofs.is_queued_as.Goals as goal

pub returns : goal.returns
unfolding queued_as
returns c = let a = c.args in any-ran (λ (j : ℕ). is_client a.o a.m (get_or a.q.at j no_client)) c.any.ensures.ran (λ x b q k. search (rules, tests)) ∙ some-pass _ _
