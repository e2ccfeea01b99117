-- `board_lines::put_row` meets its contract.
-- Assumes nothing.
use native.Mathlib.Omega.{arith}
use Rattle.wire.proofs.Laws.{written, refused}
use Rattle.board_lines.proofs.put_row.Goals as goal

pub returns-in-To : goal.returns-in-To
returns-in-To c =
    let w = written _ _ _ _ _ c.put_shown.ensures.written c.in-To.is in
    record { buf_after = c.put_shown.ensures.written.bytes; value = w.next; upper_bound = omega (arith, w.next, c.put_shown.ensures.x_len_bound) }

pub returns-in-Refused : goal.returns-in-Refused
returns-in-Refused c =
    let w = refused _ _ _ _ _ c.put_shown.ensures.written c.in-Refused.is in
    absurd (omega (arith, w.short, c.put_shown.ensures.x_len_bound, c.requires))
