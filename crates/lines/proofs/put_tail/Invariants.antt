-- `lines::put_tail` meets its contract. What is put and what is ahead make up the whole (`Ahead`).
-- Assumes nothing.
use Rattle.lines.proofs.Laws.{Ahead}
use Rattle.lines.proofs.put_tail.Given as goal

abbrev pub invariant-loop-n : goal.invariant-loop-n
invariant-loop-n l = Ahead l.initial.buf l.numbers l.buf l.at l.n-index
