-- `sound::queued_as` meets its contract.
-- Assumes nothing.
use Rattle.std.proofs.Common.{ℕ, get_or, rules, tests}
use Rattle.state.specs.Parts.{no_client}
use Rattle.rules.specs.Sound.{is_client, queued_as}
use Rattle.laws.proofs.Ranges.{count_in}
use Rattle.sound.proofs.queued_as.Goals as goal

pub returns : goal.returns
unfolding queued_as
returns c =
    let a = c.args in
    count_in (λ (j : ℕ). is_client a.o a.m (get_or a.q.at j no_client)) a.q.queued c.filter.result _ c.count.ensures.ran (cc) c.filter.ensures.closure (λ x b q k. search (rules, tests))
