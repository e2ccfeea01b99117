-- `sound::noted_as` meets its contract.
-- Assumes nothing.
use Rattle.std.proofs.Common.{ℕ, rules, tests}
use Rattle.rules.specs.Sound.{is_client}
use Rattle.sound.specs.Tally.{noted_at, noted_as}
use Rattle.laws.proofs.Ranges.{count_in}
use Rattle.sound.proofs.noted_as.Goals as goal

pub returns : goal.returns
unfolding noted_as
returns c =
    let a = c.args in
    count_in (λ (j : ℕ). is_client a.o a.m (noted_at a.l j)) a.l.n c.filter.result _ c.count.ensures.ran (cc) c.filter.ensures.closure (λ x b q k. search (rules, tests))
