-- `sound::stack_sound` meets its contract.
-- Assumes nothing.
use Rattle.std.proofs.Common.{◌≡◌, length, ◌∙◌, rules, tests, le-leb}
use borrow.Author.Tests.{lt-leb}
use Rattle.rules.specs.Sound.{is_zero, area_fits, stack_sound}
use Rattle.sound.specs.Only.{only_areas}
use Rattle.sound.proofs.stack_sound.Goals as goal

pub returns-then-s-le-AREAS : goal.returns-then-s-le-AREAS
unfolding stack_sound area_fits only_areas
returns-then-s-le-AREAS c =
    let a = c.args in
    let h : length a.s.at ≡ 16 = search rules in
    rw (le-leb _ _ c.if-s-le-AREAS.true)
    (c.filled.ensures (area_fits (only_areas a.cfg.areas) c.get-component.result.component) is_zero 0 (λ x b k. search (rules, tests)) (λ x b k. search (rules, tests)) ∙ rw (h, c.get-component.ensures))

pub returns-else-s-le-AREAS : goal.returns-else-s-le-AREAS
unfolding stack_sound
returns-else-s-le-AREAS c = rw (lt-leb _ _ c.if-s-le-AREAS.false)
