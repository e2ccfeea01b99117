-- `sound::runnables_tallied` meets its contract.
-- Assumes nothing.
use Rattle.std.proofs.Common.{ℕ, get_or, rules, tests}
use Rattle.state.specs.Tables.{runnable_in}
use Rattle.sound.specs.Walk.{runnable_tallied, runnables_tallied}
use Rattle.laws.proofs.Ranges.{all_in}
use Rattle.sound.proofs.runnables_tallied.Goals as goal

pub returns : goal.returns
unfolding runnables_tallied
returns c = all_in (λ (k : ℕ). runnable_tallied c.args.cfg c.args.y.noted (get_or c.args.y.instances k 0) k (runnable_in c.args.t k)) 16 _ _ _ c.all.ensures.ran (cc) (λ x b q k. search (rules, tests))
