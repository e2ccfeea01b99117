-- `merging::has_room` meets its contract.
-- Assumes nothing.
use Rattle.merging.proofs.Waits.{room-left}
use Rattle.merging.proofs.has_room.Goals as goal

pub returns-then-out-ge-SIZE_END : goal.returns-then-out-ge-SIZE_END
returns-then-out-ge-SIZE_END c = room-left c.args.steps c.args.out c.if-out-ge-SIZE_END.true
