-- `sound::noted_alone` meets its contract.
-- Assumes nothing.
use Rattle.std.proofs.Common.{ℕ, rules, tests}
use Rattle.state.specs.Parts.{no_requests}
use Rattle.sound.specs.Tally.{noted_at}
use Rattle.sound.specs.Walk.{client_alone, noted_alone}
use Rattle.laws.proofs.Ranges.{all_in}
use Rattle.sound.proofs.noted_alone.Goals as goal

pub returns : goal.returns
unfolding noted_alone no_requests
returns c = all_in (λ (k : ℕ). client_alone no_requests c.args.l (noted_at c.args.l k)) c.args.l.n _ _ _ c.all.ensures.ran (cc) (λ x b q k. search (rules, tests))
