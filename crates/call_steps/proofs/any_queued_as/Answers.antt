-- `call_steps::any_queued_as` meets its contract.
-- Assumes nothing.
use Rattle.std.proofs.Common.{ℕ, ltb, ◌∙◌, rules, tests}
use Rattle.state.specs.Tables.{runnable_in}
use Rattle.rules.specs.Sound.{queued_as}
use Rattle.laws.proofs.Ranges.{any-ran}
use Rattle.call_steps.proofs.Some.{some-count}
use Rattle.call_steps.proofs.any_queued_as.Goals as goal

pub returns : goal.returns
returns c = let a = c.args in any-ran (λ (k : ℕ). ltb 0 (queued_as a.o a.m (runnable_in a.t k).requests)) c.any.ensures.ran (λ x b q k. search (rules, tests)) ∙ some-count _ _
