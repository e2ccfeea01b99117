-- `sound::timers_sound` meets its contract.
-- Assumes nothing.
use Rattle.std.proofs.Common.{ℕ, rules, tests}
use Rattle.state.specs.Tables.{timer_in}
use Rattle.rules.specs.Sound.{timer_sound, timers_sound}
use Rattle.sound.specs.Only.{only_timers}
use Rattle.laws.proofs.Ranges.{all_in}
use Rattle.sound.proofs.timers_sound.Goals as goal

pub returns : goal.returns
unfolding timers_sound
returns c = all_in (λ (k : ℕ). timer_sound (only_timers c.args.confs) k (timer_in c.args.t k)) 8 _ _ _ c.all.ensures.ran (cc) (λ x b q k. search (rules, tests))
