-- `feeding::Rooms::of` meets its contract. The loop has noted the elements below its counter (`each_below`).
-- Assumes nothing.
use Prim.Native.Nat.{ℕ}
use lib.ListN.{replicate}
use mathlib.Core.Bool.{Bool, true}
use mathlib.Core.Path.{◌≡◌}
use Rattle.laws.specs.Row.{each_below}
use Rattle.state.specs.Tables.{element_in}
use Rattle.effects.specs.Steps.{accepts}
use Rattle.feeding.proofs.Rooms.of.Given as goal

abbrev pub invariant-loop-q : goal.invariant-loop-q
invariant-loop-q l = l.u.at ≡ each_below (λ (q : ℕ) (b : Bool). accepts l.cfg q (element_in l.t q)) true l.q (replicate 16 true)
