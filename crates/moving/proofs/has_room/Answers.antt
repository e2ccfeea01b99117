-- `moving::has_room` meets its contract.
-- Assumes nothing.
use Rattle.moving.proofs.Lengthening.{room-left}
use Rattle.moving.proofs.has_room.Goals as goal

pub returns-then-tail-out : goal.returns-then-tail-out
returns-then-tail-out c = room-left c.args.steps c.args.tail c.args.out c.if-tail-out.true
