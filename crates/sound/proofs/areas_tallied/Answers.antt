-- `sound::areas_tallied` meets its contract.
-- Assumes nothing.
use Rattle.std.proofs.Common.{ℕ, get_or, rules, tests}
use Rattle.state.specs.Tables.{area_in}
use Rattle.sound.specs.Walk.{area_tallied, areas_tallied}
use Rattle.laws.proofs.Ranges.{all_in}
use Rattle.sound.proofs.areas_tallied.Goals as goal

pub returns : goal.returns
unfolding areas_tallied
returns c = all_in (λ (k : ℕ). area_tallied c.args.n (get_or c.args.held.at k 0) k (area_in c.args.t k)) 16 _ _ _ c.all.ensures.ran (cc) (λ x b q k. search (rules, tests))
