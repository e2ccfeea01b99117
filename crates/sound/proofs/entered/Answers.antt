-- `sound::entered` meets its contract.
-- Assumes nothing.
use Rattle.std.proofs.Common.{◌≡◌, ℕ, List, length, sym, ap, refl, rules}
use Rattle.laws.proofs.Places.{past-set}
use Rattle.sound.specs.Tally.{entered}
use Rattle.sound.proofs.entered.Goals as goal

pub returns-then-k-lt-MAX : goal.returns-then-k-lt-MAX
unfolding entered
returns-then-k-lt-MAX c = refl

pub returns-else-k-lt-MAX : goal.returns-else-k-lt-MAX
unfolding entered
returns-else-k-lt-MAX c =
    let a = c.args in
    let e : length a.l.at ≡ 16 = search rules in
    sym (ap (λ (l : List ℕ). record { at = l }) (past-set a.l.at a.a 16 _ e c.if-k-lt-MAX.false))
