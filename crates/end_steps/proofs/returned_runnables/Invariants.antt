-- `end_steps::returned_runnables` meets its contract. The loop has been over the places below its counter (`each_below`), and takes one more by `each-put`.
-- Assumes nothing.
use Rattle.std.proofs.Common.{◌≡◌, ℕ, eqb}
use Rattle.config.specs.Tables.{runnable_conf_in, return_event_in}
use Rattle.laws.specs.Choice.{both, pick}
use Rattle.laws.specs.Loop.{any_below}
use Rattle.laws.specs.Row.{each_below}
use Rattle.effects.specs.Steps.{woken}
use Rattle.state.specs.Parts.{no_runnable}
use Rattle.faces.specs.Types.{Runnable}
use Rattle.end_steps.proofs.returned_runnables.Given as goal

abbrev pub invariant-loop-r : goal.invariant-loop-r
invariant-loop-r l =
    l.u.at ≡ each_below (λ (j : ℕ) (x : Runnable). pick (any_below (λ (e : ℕ). both (eqb (return_event_in l.cfg.revents e).runnable j) (eqb (return_event_in l.cfg.revents e).operation l.o)) l.cfg.revents.n) (woken (runnable_conf_in l.cfg.runnables j) x) x) no_runnable l.r l.initial.u.at
