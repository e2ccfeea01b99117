-- `sound::counted` meets its contract.
-- Assumes nothing.
use Rattle.std.proofs.Common.{◌≡◌, length, sym, rules}
use Rattle.laws.proofs.Places.{past-set}
use Rattle.sound.specs.Tally.{counted}
use Rattle.sound.proofs.counted.Goals as goal
use Rattle.sound.proofs.counted.Goals.{else-more-via-then-more+else-k, else-more-via-else-more}

pub returns-then-k : goal.returns-then-k
unfolding counted
returns-then-k g c = rw (c.up_one.ensures, c.if-more.true)

pub returns-else-more : goal.returns-else-more
unfolding counted
returns-else-more g c =
    let a = c.args in
    let e : length a.l ≡ g.row.N = search rules in
    elim c.else-more.branch [
      | else-more-via-then-more+else-k w ↦ rw w.if-more.true (sym (past-set a.l a.i g.row.N _ e w.if-k.false))
      | else-more-via-else-more w ↦ rw w.if-more.false
    ]
