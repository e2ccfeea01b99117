-- `writing::write_kind` meets its contract. The loop has put the pieces below its counter, and all of them have room (`Putting`).
-- Assumes nothing.
use Rattle.entries.specs.Entries.{count_of}
use Rattle.writing.specs.Writing.{part_bytes}
use Rattle.wire.proofs.Pieces.{Putting}
use Rattle.writing.proofs.write_kind.Given as goal

abbrev pub invariant-loop-i : goal.invariant-loop-i
invariant-loop-i l = Putting l.initial.buf l.at (part_bytes l.cfg l.tag) (count_of l.cfg l.tag) l.i l.next l.buf
