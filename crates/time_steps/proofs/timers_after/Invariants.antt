-- `time_steps::timers_after` meets its contract.
-- Assumes nothing.
use Prim.Native.Nat.{ℕ}
use mathlib.Core.Path.{◌≡◌}
use Rattle.laws.specs.Row.{each_below}
use Rattle.effects.specs.Steps.{timer_after}
use Rattle.state.specs.Parts.{no_timer}
use Rattle.faces.specs.Types.{Timer, Timers}
use Rattle.time_steps.proofs.timers_after.Given as goal

abbrev pub invariant-loop-k : goal.invariant-loop-k
invariant-loop-k l = ◌≡◌ {A = Timers} l.u (record { at = each_below (λ (j : ℕ) (x : Timer). timer_after l.t x) no_timer l.k l.initial.u.at })
