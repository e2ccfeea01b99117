-- `sound::clients_with` meets its contract.
-- Assumes nothing.
use Rattle.std.proofs.Common.{◌<◌, ℕ, get_or, arith, rules}
use Rattle.laws.proofs.Looping.{count_most}
use Rattle.state.specs.Parts.{no_client}
use Rattle.rules.specs.Sound.{is_client, queued_as}
use Rattle.sound.specs.Tally.{noted_at, noted_as}
use Rattle.sound.specs.Walk.{clients_with}
use Rattle.sound.proofs.clients_with.Goals as goal

pub overflow_add-result : goal.overflow_add-result
unfolding queued_as noted_as
overflow_add-result c =
    let a = c.args in
    let q : a.q.queued < 256 = search rules in
    let n : a.l.n < 256 = search rules in
    omega (arith, c.queued_as.ensures, c.noted_as.ensures, count_most (λ (j : ℕ). is_client a.o a.m (get_or a.q.at j no_client)) a.q.queued, count_most (λ (j : ℕ). is_client a.o a.m (noted_at a.l j)) a.l.n)

pub returns : goal.returns
unfolding clients_with
returns c = rw (c.queued_as.ensures, c.noted_as.ensures)
