-- `sound::elements_sound` meets its contract.
-- Assumes nothing.
use Rattle.std.proofs.Common.{ℕ, rules, tests}
use Rattle.state.specs.Tables.{element_in}
use Rattle.rules.specs.Sound.{element_sound, elements_sound}
use Rattle.sound.specs.Only.{only_required}
use Rattle.laws.proofs.Ranges.{all_in}
use Rattle.sound.proofs.elements_sound.Goals as goal

pub returns : goal.returns
unfolding elements_sound
returns c = all_in (λ (k : ℕ). element_sound (only_required c.args.e c.args.confs) k (element_in c.args.t k)) 16 _ _ _ c.all.ensures.ran (cc) (λ x b q k. search (rules, tests))
