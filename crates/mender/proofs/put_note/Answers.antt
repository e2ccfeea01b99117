-- `put_note` meets its contract.
-- Assumes nothing.
use borrow.Author.Tests.{eq-eqb, ne_eqb}
use Rattle.mender.specs.Told.{note_line}
use Rattle.mender.proofs.put_note.Goals as goal

pub returns-then-note-eq1 : goal.returns-then-note-eq1
unfolding note_line
returns-then-note-eq1 c = rw (eq-eqb _ _ c.if-note-eq1.true) (rw (c.place_of-place.ensures, c.number-number.ensures, c.number-high.ensures, c.number-low.ensures) at c.put_insert.ensures)

pub returns : goal.returns
unfolding note_line
returns c = rw (ne_eqb _ _ c.if-note-eq1.false) (rw (c.place_of-place.ensures, c.number-number.ensures, c.number-high.ensures, c.number-low.ensures) at c.put_gap.ensures)
