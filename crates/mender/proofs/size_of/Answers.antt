-- `size_of` meets its contract.
-- Assumes nothing.
use native.Mathlib.Omega.{arith}
use borrow.Author.Tests.{lt-ltb, le-ltb}
use Rattle.mender.specs.Told.{text_size}
use Rattle.mender.proofs.size_of.Goals as goal
use Rattle.mender.proofs.size_of.Goals.{then-room-lt-SIZE_END-via-then-room-lt-SIZE_END, then-room-lt-SIZE_END-via-else-room-lt-SIZE_END+then-room-steps}

pub returns-then-room-lt-SIZE_END : goal.returns-then-room-lt-SIZE_END
unfolding text_size
returns-then-room-lt-SIZE_END c =
    elim c.then-room-lt-SIZE_END.branch [
      | then-room-lt-SIZE_END-via-then-room-lt-SIZE_END w ↦ record { value = rw (lt-ltb _ _ w.if-room-lt-SIZE_END.true); upper_bound = omega arith }
      | then-room-lt-SIZE_END-via-else-room-lt-SIZE_END+then-room-steps w ↦ record { value = rw (le-ltb _ _ w.if-room-lt-SIZE_END.false, lt-ltb _ _ w.if-room-steps.true); upper_bound = omega arith }
    ]

pub returns : goal.returns
unfolding text_size
returns c = record { value = rw (le-ltb _ _ c.if-room-lt-SIZE_END.false, le-ltb _ _ c.if-room-steps.false); upper_bound = omega (arith, c.if-room-lt-SIZE_END.false, c.if-room-steps.false) }
