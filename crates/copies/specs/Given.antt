-- Which runnables data events of the written elements wake, by the note of the elements that take one more value.
-- Assumes nothing.
use Rattle.std.specs.Prelude.{ℕ, Bool}
use Rattle.laws.specs.Choice.{pick, both}
use Rattle.laws.specs.Loop.{any_below}
use Rattle.laws.specs.Row.{each_below}
use Rattle.faces.specs.Types.{Config, Copies, Runnable, Runnables}
use Rattle.config.specs.Tables.{runnable_conf_in, max_listed}
use Rattle.config.specs.Lists.{element_at}
use Rattle.state.specs.Parts.{no_runnable}
use Rattle.effects.specs.Steps.{woken, is_given}
use Rattle.feeding.specs.declared.Rooms.{Rooms}
use Rattle.feeding.specs.Rooms.{is_fed_by}

-- the element at place j of r's list was set, and feeds a data event of the runnable k, by the note (W-211)
unfoldable pub gives_by : Config → Rooms → ℕ → Copies → ℕ → ℕ → Bool
gives_by cfg u r c k j = both (is_given cfg.outgoing r c j) (is_fed_by cfg u (element_at cfg.outgoing r j) k)

-- some element of r's list is such a one (W-211)
unfoldable pub is_given_by : Config → Rooms → ℕ → Copies → ℕ → Bool
is_given_by cfg u r c k = any_below (gives_by cfg u r c k) max_listed

-- all runnables, each woken once that data events of the written elements wake, by the note (W-211, W-212)
unfoldable pub given_runnables_by : Config → Rooms → ℕ → Copies → Runnables → Runnables
given_runnables_by cfg u r c rs =
    record { at = each_below (λ (k : ℕ) (x : Runnable). pick (is_given_by cfg u r c k) (woken (runnable_conf_in cfg.runnables k) x) x) no_runnable cfg.runnables.n rs.at }
