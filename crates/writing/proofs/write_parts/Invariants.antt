-- `writing::write_parts` meets its contract. The loop has put the pieces below its counter, and all of them have room (`Putting`).
-- Assumes nothing.
use Rattle.writing.specs.Writing.{block_of}
use Rattle.wire.proofs.Pieces.{Putting}
use Rattle.writing.proofs.write_parts.Given as goal

abbrev pub invariant-loop-j : goal.invariant-loop-j
invariant-loop-j l = Putting l.initial.buf l.at (block_of l.cfg) 12 l.j l.next l.buf
