-- Which required elements take one more value, noted once before a value is handed over, so that data events and full queues are found without the elements.
-- Assumes nothing.
use Rattle.std.specs.Prelude.{ℕ, Bool, true, not, eqb, replicate, get_or}
use Rattle.laws.specs.Choice.{pick, both}
use Rattle.laws.specs.Loop.{any_below}
use Rattle.laws.specs.Mask.{mask_below}
use Rattle.laws.specs.Row.{each_below}
use Rattle.faces.specs.Types.{Config, Runnable, Runnables, Elements}
use Rattle.config.specs.Tables.{max_required_confs, runnable_conf_in, data_event_in}
use Rattle.state.specs.Parts.{no_runnable}
use Rattle.state.specs.Tables.{element_in}
use Rattle.effects.specs.Steps.{linked, accepts, woken}
use Rattle.feeding.specs.declared.Rooms.{Rooms}

-- each element that takes one more; past the last place nothing holds a value back ("The eighteen steps", 6 and 10)
unfoldable pub rooms_of : Config → Elements → Rooms
rooms_of cfg t =
    record { at = each_below (λ (q : ℕ) (b : Bool). accepts cfg q (element_in t q)) true max_required_confs (replicate max_required_confs true) }

-- the element q takes one more value, as noted ("The eighteen steps", 6 and 10)
unfoldable pub room_in : Rooms → ℕ → Bool
room_in u q = get_or u.at q true

-- the data event e is one of r, and its element stores what p hands over, and does not drop it (ours), by the note ("The eighteen steps", events)
unfoldable pub feeds_by : Config → Rooms → ℕ → ℕ → ℕ → Bool
feeds_by cfg u p r e =
    both (eqb (data_event_in cfg.devents e).runnable r)
    (both (linked cfg p (data_event_in cfg.devents e).required) (room_in u (data_event_in cfg.devents e).required))

-- some data event of r is one that p feeds, by the note ("The eighteen steps", events)
unfoldable pub is_fed_by : Config → Rooms → ℕ → ℕ → Bool
is_fed_by cfg u p r = any_below (feeds_by cfg u p r) cfg.devents.n

-- all runnables, each woken once that data events wake, by the note ("The eighteen steps", events; W-212)
unfoldable pub fed_runnables_by : Config → Rooms → ℕ → Runnables → Runnables
fed_runnables_by cfg u p rs =
    record { at = each_below (λ (r : ℕ) (x : Runnable). pick (is_fed_by cfg u p r) (woken (runnable_conf_in cfg.runnables r) x) x) no_runnable cfg.runnables.n rs.at }

-- the linked queue q is full, by the note ("The eighteen steps", 10)
unfoldable pub is_full_by : Config → Rooms → ℕ → ℕ → Bool
is_full_by cfg u p q = both (linked cfg p q) (not (room_in u q))

-- the linked queues that are full, as a mask, by the note (W-201)
unfoldable pub full_mask_by : Config → Rooms → ℕ → ℕ
full_mask_by cfg u p = mask_below (is_full_by cfg u p) cfg.required.n
