-- `sound::held_by` meets its contract.
-- Assumes nothing.
use Rattle.std.proofs.Common.{◌≡◌}
use Rattle.sound.specs.Tally.{held_below}
use Rattle.sound.specs.declared.Held.{Held}
use Rattle.sound.proofs.held_by.Given as goal

abbrev pub invariant-loop-j : goal.invariant-loop-j
invariant-loop-j l = ◌≡◌ {A = Held} l.t (held_below l.s l.j l.initial.t)
