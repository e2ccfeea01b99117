-- `sound::walk` meets its contract.
-- Assumes nothing.
use Rattle.std.proofs.Common.{◌≡◌, ℕ, true}
use Rattle.laws.specs.Loop.{all_below}
use Rattle.state.specs.Tables.{slot_in, copies_in}
use Rattle.sound.specs.declared.Tally.{Tally}
use Rattle.sound.specs.Tally.{tally_of}
use Rattle.sound.specs.Walk.{slot_walked}
use Rattle.sound.proofs.walk.Given as goal

abbrev pub invariant-loop-k : goal.invariant-loop-k
invariant-loop-k l = (all_below (λ (i : ℕ). slot_walked l.cfg (slot_in l.slots i) (copies_in l.incoming i) (copies_in l.outgoing i)) l.k ≡ true) × (◌≡◌ {A = Tally} l.t (tally_of l.slots l.k))
