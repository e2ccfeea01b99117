-- The start state, for any configuration ("The parts, and how many", last paragraph).
-- Assumes nothing.
use Rattle.std.specs.Prelude.{ℕ, false, ◌==◌}
use Rattle.laws.specs.Choice.{pick, bit}
use Rattle.laws.specs.Row.{each_below}
use Rattle.values.specs.Values.{number_v, never_received_v}
use Rattle.config.specs.Table.{part_in}
use Rattle.config.specs.Tables.{RunnableConfs, VariableConfs, RequiredConfs, no_runnable_conf, no_variable_conf, no_required_conf}
use Rattle.config.specs.declared.Table.{Table}
use Rattle.config.specs.declared.Config.{Config}
use Rattle.config.specs.declared.RunnableConf.{RunnableConf}
use Rattle.config.specs.declared.VariableConf.{VariableConf}
use Rattle.config.specs.declared.RequiredConf.{RequiredConf}
use Rattle.state.specs.Parts.{no_requests, no_runnable, no_variable, no_values, no_element}
use Rattle.state.specs.Places.{no_places}
use Rattle.state.specs.Tables.{Runnables, Variables, Elements, no_areas, no_operations, no_timers, no_slots, no_copied}
use Rattle.state.specs.declared.Places.{Places}
use Rattle.state.specs.declared.Runnable.{Runnable}
use Rattle.state.specs.declared.Variable.{Variable}
use Rattle.state.specs.declared.Element.{Element}
use Rattle.state.specs.declared.State.{State}

-- a runnable starts with one activation pending under the init flag, else idle; a server's queue is empty ("The parts, and how many", start state; W-212)
abbrev pub start_runnable : RunnableConf → Runnable
start_runnable c = record { interval = 0; pending = bit c.init; instances = 0; requests = no_requests }

-- a variable starts at its initial Number, or Void ("The parts, and how many", start state)
unfoldable pub start_variable : VariableConf → Variable
start_variable c = pick c.initialed (record { value = number_v c.initial }) no_variable

-- an unqueued element starts NeverReceived with the flag off, a queued one empty ("The parts, and how many", start state)
unfoldable pub start_element : RequiredConf → Element
start_element c = pick (c.capacity == 0) (record { value = never_received_v; updated = false; queue = no_values }) no_element

-- every part of a table as it starts, and blank ones beyond them ("The parts, and how many", start state)
unfoldable pub started : {A B : Type 0} {m : ℕ} → (A → B) → A → B → Table A m → Places B m
started {B = B} {m = m} f a b t = record { at = each_below (λ (k : ℕ) (x : B). f (part_in a t k)) b t.n (no_places {m = m} b).at }

-- every runnable as it starts, and blank beyond them ("The parts, and how many", start state)
abbrev pub start_runnables : RunnableConfs → Runnables
start_runnables t = started start_runnable no_runnable_conf no_runnable t

-- every variable as it starts, and blank beyond them ("The parts, and how many", start state)
abbrev pub start_variables : VariableConfs → Variables
start_variables t = started start_variable no_variable_conf no_variable t

-- every required element as it starts, and blank beyond them ("The parts, and how many", start state)
abbrev pub start_elements : RequiredConfs → Elements
start_elements t = started start_element no_required_conf no_element t

-- all slots empty and without copies, all areas free, intervals and timers at 0, each operation Done(Void) under number 0, and the rest as its kind starts ("The parts, and how many", start state; W-211)
unfoldable pub start_of : Config → State
start_of cfg = record {
  runnables = start_runnables cfg.runnables;
  variables = start_variables cfg.variables;
  areas = no_areas;
  elements = start_elements cfg.required;
  operations = no_operations;
  timers = no_timers;
  slots = no_slots;
  incoming = no_copied;
  outgoing = no_copied;
}
