-- `call_steps::is_bound` meets its contract.
-- Assumes nothing.
use Rattle.std.proofs.Common.{ℕ, ◌∙◌, rules, tests}
use Rattle.state.specs.Tables.{slot_in}
use Rattle.rules.specs.Sound.{waits_on, waiters_of}
use Rattle.laws.proofs.Ranges.{any-ran}
use Rattle.call_steps.proofs.Some.{some-pass}
use Rattle.call_steps.proofs.is_bound.Goals as goal

pub returns : goal.returns
unfolding waiters_of
returns c = let a = c.args in any-ran (λ (k : ℕ). waits_on a.o (slot_in a.t k)) c.any.ensures.ran (λ x b q k. search (rules, tests)) ∙ some-pass _ _
