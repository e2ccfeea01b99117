-- `sound::variables_sound` meets its contract.
-- Assumes nothing.
use Rattle.std.proofs.Common.{ℕ, rules, tests}
use Rattle.state.specs.Tables.{variable_in}
use Rattle.rules.specs.Sound.{variable_sound, variables_sound}
use Rattle.sound.specs.Only.{only_variables}
use Rattle.laws.proofs.Ranges.{all_in}
use Rattle.sound.proofs.variables_sound.Goals as goal

pub returns : goal.returns
unfolding variables_sound
returns c = all_in (λ (k : ℕ). variable_sound (only_variables c.args.confs) k (variable_in c.args.t k)) 16 _ _ _ c.all.ensures.ran (cc) (λ x b q k. search (rules, tests))
