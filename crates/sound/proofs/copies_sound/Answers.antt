-- `sound::copies_sound` meets its contract.
-- Assumes nothing.
use Rattle.std.proofs.Common.{◌≡◌, length, ◌∙◌, rules, tests, eq-eqb}
use Rattle.laws.proofs.Places.{length-mapped}
use Rattle.rules.specs.Sound.{copy_sound, copies_sound}
use Rattle.laws.proofs.Ranges.{all_in}
use Rattle.sound.proofs.copies_sound.Goals as goal

pub returns : goal.returns
unfolding copies_sound
returns c =
    let a = c.args in
    let h : length a.c.at ≡ 4 = search (length-mapped, c.well_formed.1.1.1) in
    all_in (copy_sound a.e a.t a.x a.c) 4 _ _ _ c.all.ensures.ran (cc) (λ x b q k. search (rules, tests)) ∙ rw (eq-eqb _ _ h)
