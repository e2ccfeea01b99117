-- `has_room` meets its contract.
-- Assumes nothing.
use Prim.Native.Nat.{◌+◌, ◌*◌}
use mathlib.Core.Bool.{true}
use mathlib.Core.Path.{◌≡◌, sym, ◌∙◌}
use native.Mathlib.Omega.{arith}
use lib.Dec.{leb}
use borrow.Author.Tests.{le-leb, leb-true}
use Rattle.numbers.specs.Tags.{step_size, end_size}
use Rattle.mending.proofs.Putting.{notes-room}
use Rattle.mending.proofs.has_room.Goals as goal
use Rattle.mending.proofs.has_room.Goals.{then-out-ge-SIZE_END, else-out-ge-SIZE_END}

pub returns-then-steps-out : goal.returns-then-steps-out
returns-then-steps-out c =
    let fits : leb (c.args.steps * step_size + end_size) c.args.out ≡ true = elim c.if-out-ge-SIZE_END.branch [
      | then-out-ge-SIZE_END w ↦ le-leb _ _ (omega (arith, w.if-out-ge-SIZE_END.true, leb-true _ _ (sym w.value-is ∙ c.if-steps-out.true)))
      | else-out-ge-SIZE_END w ↦ absurd (omega (arith, w.if-out-ge-SIZE_END.false, leb-true 3 c.args.out (sym w.value-is ∙ c.if-steps-out.true)))
    ] in
    notes-room c.args.notes c.args.report ∙ sym (rw fits)
