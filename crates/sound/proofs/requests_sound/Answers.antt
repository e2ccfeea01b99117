-- `sound::requests_sound` meets its contract.
-- Assumes nothing.
use Rattle.std.proofs.Common.{◌≡◌, length, ◌∙◌, rules, tests, le-leb}
use borrow.Author.Tests.{lt-leb}
use Rattle.laws.proofs.Places.{length-mapped}
use Rattle.state.specs.Parts.{no_client}
use Rattle.rules.specs.Sound.{is_no_client, client_fits, requests_sound}
use Rattle.sound.specs.Only.{only_operations}
use Rattle.sound.proofs.requests_sound.Goals as goal

pub returns-then-q-get : goal.returns-then-q-get
unfolding requests_sound client_fits only_operations
returns-then-q-get c =
    let a = c.args in
    let h : length a.q.at ≡ 16 = search (rules, length-mapped) in
    rw (← c.get.ensures, le-leb _ _ c.if-q-get.true)
    (c.filled.ensures (client_fits (only_operations a.cfg.operations) a.r) is_no_client no_client (λ x b k. search (rules, tests)) (λ x b k. search (rules, tests)) ∙ rw h)

pub returns-else-q-get : goal.returns-else-q-get
unfolding requests_sound
returns-else-q-get c = rw (← c.get.ensures, lt-leb _ _ c.if-q-get.false)
