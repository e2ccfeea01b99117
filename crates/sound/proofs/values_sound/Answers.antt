-- `sound::values_sound` meets its contract.
-- Assumes nothing.
use Rattle.std.proofs.Common.{◌≡◌, length, ◌∙◌, rules, tests, le-leb}
use borrow.Author.Tests.{lt-leb}
use Rattle.laws.proofs.Places.{length-mapped}
use Rattle.values.specs.Values.{void_v, is_void, is_payload}
use Rattle.rules.specs.Sound.{values_sound}
use Rattle.sound.proofs.values_sound.Goals as goal

pub returns-then-q-capacity : goal.returns-then-q-capacity
unfolding values_sound
returns-then-q-capacity c =
    let h : length c.args.q.at ≡ 16 = search (rules, length-mapped) in
    rw (le-leb _ _ c.if-q-capacity.true)
    (c.filled.ensures is_payload is_void void_v (λ x b k. search (rules, tests)) (λ x b k. search (rules, tests)) ∙ rw h)

pub returns-else-q-capacity : goal.returns-else-q-capacity
unfolding values_sound
returns-else-q-capacity c = rw (lt-leb _ _ c.if-q-capacity.false)
