-- `print_notes` meets its contract: the lines of k notes are out, and what is ahead is the rest of the report.
-- Assumes nothing.
use Prim.Native.Nat.{◌*◌}
use mathlib.Core.Path.{◌≡◌}
use lib.ListN.{drop}
use Rattle.std.specs.Io.KnownBytes.{Appends}
use Rattle.gaps.specs.Report.{note_size}
use Rattle.mender.specs.Told.{note_lines}
use Rattle.mender.proofs.print_notes.Given as goal

abbrev pub invariant-loop-k : goal.invariant-loop-k
invariant-loop-k g l = (l.rest ≡ drop (l.k * note_size) l.report) × Appends (g.W.Write.contents l.initial.out) (g.W.Write.contents l.out) (note_lines l.report l.k)
