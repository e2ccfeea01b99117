-- `sound::noting` meets its contract.
-- Assumes nothing.
use Rattle.std.proofs.Common.{◌≡◌, true, length, rules, tests}
use Rattle.laws.proofs.Places.{past-set}
use Rattle.sound.specs.Tally.{noting}
use Rattle.sound.proofs.noting.Goals as goal

pub returns-else-k-lt-MAX : goal.returns-else-k-lt-MAX
unfolding noting
returns-else-k-lt-MAX c =
    let a = c.args in
    let e : length a.l.operations ≡ 32 = search rules in
    let h : length a.l.numbers ≡ 32 = search rules in
    let serves : a.w.serving ≡ true = search (rules, tests) in
    rw (c.up_one.ensures, serves, past-set a.l.operations a.l.n 32 a.w.client.operation e c.if-k-lt-MAX.false, past-set a.l.numbers a.l.n 32 a.w.client.number h c.if-k-lt-MAX.false)
