-- `copying::rewrite` meets its contract. The loop has copied the fields before its place (`Copying`).
-- Assumes nothing.
use Prim.Native.Nat.{◌-◌}
use lib.ListN.{length}
use Rattle.recording.proofs.Loops.{Copying}
use Rattle.copying.proofs.rewrite.Given as goal

abbrev pub invariant-loop-step : goal.invariant-loop-step
invariant-loop-step l = Copying l.s l.initial.buf l.buf l.at

abbrev pub decreases-loop-step : goal.decreases-loop-step
decreases-loop-step l = length l.s - l.at
