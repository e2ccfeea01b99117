-- `call_steps::any_served_as` meets its contract.
-- Assumes nothing.
use Rattle.std.proofs.Common.{ℕ, ltb, ◌∙◌, rules, tests}
use Rattle.state.specs.Tables.{slot_in}
use Rattle.rules.specs.Sound.{served_as}
use Rattle.laws.proofs.Ranges.{any-ran}
use Rattle.call_steps.proofs.Some.{some-count}
use Rattle.call_steps.proofs.any_served_as.Goals as goal

pub returns : goal.returns
returns c = let a = c.args in any-ran (λ (k : ℕ). ltb 0 (served_as a.o a.m (slot_in a.t k).owed)) c.any.ensures.ran (λ x b q k. search (rules, tests)) ∙ some-count _ _
