-- `sound::queue_alone` meets its contract.
-- Assumes nothing.
use Rattle.std.proofs.Common.{ℕ, get_or, rules, tests}
use Rattle.state.specs.Parts.{no_client}
use Rattle.sound.specs.Walk.{client_alone, queue_alone}
use Rattle.laws.proofs.Ranges.{all_in}
use Rattle.sound.proofs.queue_alone.Goals as goal

pub returns : goal.returns
unfolding queue_alone
returns c = all_in (λ (k : ℕ). client_alone c.args.q c.args.l (get_or c.args.q.at k no_client)) c.args.q.queued _ _ _ c.all.ensures.ran (cc) (λ x b q k. search (rules, tests))
