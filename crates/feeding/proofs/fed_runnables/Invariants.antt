-- `feeding::fed_runnables` meets its contract. The loop has been over the places below its counter (`each_below`), and takes one more by `each-put`.
-- Assumes nothing.
use Prim.Native.Nat.{ℕ}
use mathlib.Core.Path.{◌≡◌}
use Rattle.config.specs.Tables.{runnable_conf_in}
use Rattle.laws.specs.Choice.{pick}
use Rattle.laws.specs.Row.{each_below}
use Rattle.faces.specs.Types.{Runnable}
use Rattle.state.specs.Parts.{no_runnable}
use Rattle.effects.specs.Steps.{woken}
use Rattle.feeding.specs.Rooms.{is_fed_by}
use Rattle.feeding.proofs.fed_runnables.Given as goal

abbrev pub invariant-loop-r : goal.invariant-loop-r
invariant-loop-r l = l.u.at ≡ each_below (λ (r : ℕ) (x : Runnable). pick (is_fed_by l.cfg l.rooms l.p r) (woken (runnable_conf_in l.cfg.runnables r) x) x) no_runnable l.r l.initial.u.at
