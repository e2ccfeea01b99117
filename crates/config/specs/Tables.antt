-- The tables of a configuration: how many a table holds, what stands at a place, one part more ("The parts, and how many").
-- Past its end a table gives the blank part, which is what an unused place holds; a part added to a full table changes nothing.
-- Assumes nothing.
use Rattle.std.specs.Prelude.{ℕ, false}
use Rattle.laws.specs.Choice.{pick}
use Rattle.config.specs.declared.Table.{Table}
use Rattle.config.specs.Table.{no_parts, part_in, add_part}
use Rattle.config.specs.Editions.{first_edition}
use Rattle.config.specs.declared.RunnableConf.{RunnableConf}
use Rattle.config.specs.declared.VariableConf.{VariableConf}
use Rattle.config.specs.declared.AreaConf.{AreaConf}
use Rattle.config.specs.declared.RequiredConf.{RequiredConf}
use Rattle.config.specs.declared.ProvidedConf.{ProvidedConf}
use Rattle.config.specs.declared.Link.{Link}
use Rattle.config.specs.declared.OperationConf.{OperationConf}
use Rattle.config.specs.declared.TimerConf.{TimerConf}
use Rattle.config.specs.declared.DataEvent.{DataEvent}
use Rattle.config.specs.declared.ReturnEvent.{ReturnEvent}
use Rattle.config.specs.declared.Listed.{Listed}
use Rattle.config.specs.declared.Config.{Config}

-- the top of a capacity, and so the places of a queue; where it is 0 a runnable is plain, and an element unqueued ("The files", below the table)
abbrev pub max_capacity : ℕ
max_capacity = 16

-- ---- runnables, at most 16

-- the most runnables that a configuration has ("The parts, and how many")
abbrev pub max_runnable_confs : ℕ
max_runnable_confs = 16

-- the runnables ("The parts, and how many")
abbrev pub RunnableConfs : Type 0
RunnableConfs = Table RunnableConf max_runnable_confs

-- the runnable of an unused place ("A sound state", unused places)
abbrev pub no_runnable_conf : RunnableConf
no_runnable_conf = record { component = 0; concurrent = false; init = false; counting = false; interval = 0; capacity = 0 }

-- a table with no runnable ("A sound state", unused places)
abbrev pub no_runnable_confs : RunnableConfs
no_runnable_confs = no_parts no_runnable_conf

-- the runnable at place i ("The parts, and how many")
abbrev pub runnable_conf_in : RunnableConfs → ℕ → RunnableConf
runnable_conf_in t i = part_in no_runnable_conf t i

-- one runnable more, at the first unused place ("The parts, and how many")
abbrev pub add_runnable_conf : RunnableConfs → RunnableConf → RunnableConfs
add_runnable_conf t x = add_part t x

-- the most activations that are pending where they are counted (W-212)
abbrev pub max_pending : ℕ
max_pending = 15

-- the most activations that a runnable has pending: only the counting flag lets there be more than one (W-212)
unfoldable pub top_of : RunnableConf → ℕ
top_of c = pick c.counting max_pending 1

-- ---- variables, at most 16

-- the most variables that a configuration has ("The parts, and how many")
abbrev pub max_variable_confs : ℕ
max_variable_confs = 16

-- the variables ("The parts, and how many")
abbrev pub VariableConfs : Type 0
VariableConfs = Table VariableConf max_variable_confs

-- the variable of an unused place ("A sound state", unused places)
abbrev pub no_variable_conf : VariableConf
no_variable_conf = record { component = 0; initialed = false; initial = 0 }

-- a table with no variable ("A sound state", unused places)
abbrev pub no_variable_confs : VariableConfs
no_variable_confs = no_parts no_variable_conf

-- the variable at place i ("The parts, and how many")
abbrev pub variable_conf_in : VariableConfs → ℕ → VariableConf
variable_conf_in t i = part_in no_variable_conf t i

-- one variable more, at the first unused place ("The parts, and how many")
abbrev pub add_variable_conf : VariableConfs → VariableConf → VariableConfs
add_variable_conf t x = add_part t x

-- ---- exclusive areas, at most 16

-- the most areas that a configuration has ("The parts, and how many")
abbrev pub max_area_confs : ℕ
max_area_confs = 16

-- the areas ("The parts, and how many")
abbrev pub AreaConfs : Type 0
AreaConfs = Table AreaConf max_area_confs

-- the area of an unused place ("A sound state", unused places)
abbrev pub no_area_conf : AreaConf
no_area_conf = record { component = 0 }

-- a table with no area ("A sound state", unused places)
abbrev pub no_area_confs : AreaConfs
no_area_confs = no_parts no_area_conf

-- the area at place i ("The parts, and how many")
abbrev pub area_conf_in : AreaConfs → ℕ → AreaConf
area_conf_in t i = part_in no_area_conf t i

-- one area more, at the first unused place ("The parts, and how many")
abbrev pub add_area_conf : AreaConfs → AreaConf → AreaConfs
add_area_conf t x = add_part t x

-- ---- required elements, at most 16

-- the most required elements that a configuration has ("The parts, and how many")
abbrev pub max_required_confs : ℕ
max_required_confs = 16

-- the required elements ("The parts, and how many")
abbrev pub RequiredConfs : Type 0
RequiredConfs = Table RequiredConf max_required_confs

-- the required element of an unused place ("A sound state", unused places)
abbrev pub no_required_conf : RequiredConf
no_required_conf = record { component = 0; capacity = 0 }

-- a table with no required element ("A sound state", unused places)
abbrev pub no_required_confs : RequiredConfs
no_required_confs = no_parts no_required_conf

-- the required element at place i ("The parts, and how many")
abbrev pub required_conf_in : RequiredConfs → ℕ → RequiredConf
required_conf_in t i = part_in no_required_conf t i

-- one required element more, at the first unused place ("The parts, and how many")
abbrev pub add_required_conf : RequiredConfs → RequiredConf → RequiredConfs
add_required_conf t x = add_part t x

-- ---- provided elements, at most 16

-- the most provided elements that a configuration has ("The parts, and how many")
abbrev pub max_provided_confs : ℕ
max_provided_confs = 16

-- the provided elements ("The parts, and how many")
abbrev pub ProvidedConfs : Type 0
ProvidedConfs = Table ProvidedConf max_provided_confs

-- the provided element of an unused place ("A sound state", unused places)
abbrev pub no_provided_conf : ProvidedConf
no_provided_conf = record { component = 0; queued = false }

-- a table with no provided element ("A sound state", unused places)
abbrev pub no_provided_confs : ProvidedConfs
no_provided_confs = no_parts no_provided_conf

-- the provided element at place i ("The parts, and how many")
abbrev pub provided_conf_in : ProvidedConfs → ℕ → ProvidedConf
provided_conf_in t i = part_in no_provided_conf t i

-- one provided element more, at the first unused place ("The parts, and how many")
abbrev pub add_provided_conf : ProvidedConfs → ProvidedConf → ProvidedConfs
add_provided_conf t x = add_part t x

-- ---- links, at most 32

-- the most links that a configuration has ("The parts, and how many")
abbrev pub max_links : ℕ
max_links = 32

-- the links ("The parts, and how many")
abbrev pub Links : Type 0
Links = Table Link max_links

-- the link of an unused place ("A sound state", unused places)
abbrev pub no_link : Link
no_link = record { provided = 0; required = 0 }

-- a table with no link ("A sound state", unused places)
abbrev pub no_links : Links
no_links = no_parts no_link

-- the link at place i ("The parts, and how many")
abbrev pub link_in : Links → ℕ → Link
link_in t i = part_in no_link t i

-- one link more, at the first unused place ("The parts, and how many")
abbrev pub add_link : Links → Link → Links
add_link t x = add_part t x

-- ---- operations, at most 8

-- the most operations that a configuration has ("The parts, and how many")
abbrev pub max_operation_confs : ℕ
max_operation_confs = 8

-- the operations ("The parts, and how many")
abbrev pub OperationConfs : Type 0
OperationConfs = Table OperationConf max_operation_confs

-- the operation of an unused place ("A sound state", unused places)
abbrev pub no_operation_conf : OperationConf
no_operation_conf = record { component = 0; asynchronous = false; server = 0; timeout = 0 }

-- a table with no operation ("A sound state", unused places)
abbrev pub no_operation_confs : OperationConfs
no_operation_confs = no_parts no_operation_conf

-- the operation at place i ("The parts, and how many")
abbrev pub operation_conf_in : OperationConfs → ℕ → OperationConf
operation_conf_in t i = part_in no_operation_conf t i

-- one operation more, at the first unused place ("The parts, and how many")
abbrev pub add_operation_conf : OperationConfs → OperationConf → OperationConfs
add_operation_conf t x = add_part t x

-- ---- timers, at most 8

-- the most timers that a configuration has ("The parts, and how many")
abbrev pub max_timer_confs : ℕ
max_timer_confs = 8

-- the timers ("The parts, and how many")
abbrev pub TimerConfs : Type 0
TimerConfs = Table TimerConf max_timer_confs

-- the timer of an unused place ("A sound state", unused places)
abbrev pub no_timer_conf : TimerConf
no_timer_conf = record { runnable = 0; period = 0 }

-- a table with no timer ("A sound state", unused places)
abbrev pub no_timer_confs : TimerConfs
no_timer_confs = no_parts no_timer_conf

-- the timer at place i ("The parts, and how many")
abbrev pub timer_conf_in : TimerConfs → ℕ → TimerConf
timer_conf_in t i = part_in no_timer_conf t i

-- one timer more, at the first unused place ("The parts, and how many")
abbrev pub add_timer_conf : TimerConfs → TimerConf → TimerConfs
add_timer_conf t x = add_part t x

-- ---- data events, at most 32

-- the most data events that a configuration has ("The parts, and how many")
abbrev pub max_data_events : ℕ
max_data_events = 32

-- the data events ("The parts, and how many")
abbrev pub DataEvents : Type 0
DataEvents = Table DataEvent max_data_events

-- the data event of an unused place ("A sound state", unused places)
abbrev pub no_data_event : DataEvent
no_data_event = record { runnable = 0; required = 0 }

-- a table with no data event ("A sound state", unused places)
abbrev pub no_data_events : DataEvents
no_data_events = no_parts no_data_event

-- the data event at place i ("The parts, and how many")
abbrev pub data_event_in : DataEvents → ℕ → DataEvent
data_event_in t i = part_in no_data_event t i

-- one data event more, at the first unused place ("The parts, and how many")
abbrev pub add_data_event : DataEvents → DataEvent → DataEvents
add_data_event t x = add_part t x

-- ---- return events, at most 16

-- the most return events that a configuration has ("The parts, and how many")
abbrev pub max_return_events : ℕ
max_return_events = 16

-- the return events ("The parts, and how many")
abbrev pub ReturnEvents : Type 0
ReturnEvents = Table ReturnEvent max_return_events

-- the return event of an unused place ("A sound state", unused places)
abbrev pub no_return_event : ReturnEvent
no_return_event = record { runnable = 0; operation = 0 }

-- a table with no return event ("A sound state", unused places)
abbrev pub no_return_events : ReturnEvents
no_return_events = no_parts no_return_event

-- the return event at place i ("The parts, and how many")
abbrev pub return_event_in : ReturnEvents → ℕ → ReturnEvent
return_event_in t i = part_in no_return_event t i

-- one return event more, at the first unused place ("The parts, and how many")
abbrev pub add_return_event : ReturnEvents → ReturnEvent → ReturnEvents
add_return_event t x = add_part t x

-- ---- listed elements, at most 64 in a list: 4 for each of 16 runnables

-- the most elements that a runnable lists (W-211)
abbrev pub max_listed : ℕ
max_listed = 4

-- the most elements that all runnables list (W-211)
abbrev pub max_lists : ℕ
max_lists = 64

-- the listed elements ("The parts, and how many")
abbrev pub Lists : Type 0
Lists = Table Listed max_lists

-- the listed element of an unused place (W-211)
abbrev pub no_listed : Listed
no_listed = record { runnable = 0; element = 0 }

-- a list with no element (W-211)
abbrev pub no_lists : Lists
no_lists = no_parts no_listed

-- the listed element at place i (W-211)
abbrev pub listed_in : Lists → ℕ → Listed
listed_in t i = part_in no_listed t i

-- one listed element more, at the first unused place (W-211)
abbrev pub add_listed : Lists → Listed → Lists
add_listed t x = add_part t x

-- a configuration with no part, of the first edition ("A sound state", unused places; W-208)
unfoldable pub no_config : Config
no_config = record { edition = first_edition; runnables = no_runnable_confs; variables = no_variable_confs; areas = no_area_confs; required = no_required_confs; provided = no_provided_confs; links = no_links; operations = no_operation_confs; timers = no_timer_confs; devents = no_data_events; revents = no_return_events; incoming = no_lists; outgoing = no_lists }
