-- Every part of a configuration as one shape, an entry, by the tag of its kind ("The files", the table): up to three small numbers and a large one.
-- The reader, the test of soundness and the writer all go by entries.
-- Assumes nothing.
use Rattle.std.specs.Prelude.{ℕ, ◌+◌, ◌*◌, ◌%◌, ltb, eqb, length}
use Rattle.numbers.specs.Tags.{edition_tag, runnable_tag, variable_tag, area_tag, required_tag, provided_tag, link_tag, operation_tag, timer_tag, data_event_tag, return_event_tag, incoming_tag, outgoing_tag}
use Rattle.laws.specs.Choice.{pick, bit}
use Rattle.config.specs.declared.RunnableConf.{RunnableConf}
use Rattle.config.specs.Tables.{RunnableConfs}
use Rattle.config.specs.declared.VariableConf.{VariableConf}
use Rattle.config.specs.Tables.{VariableConfs}
use Rattle.config.specs.declared.AreaConf.{AreaConf}
use Rattle.config.specs.Tables.{AreaConfs}
use Rattle.config.specs.declared.RequiredConf.{RequiredConf}
use Rattle.config.specs.Tables.{RequiredConfs}
use Rattle.config.specs.declared.ProvidedConf.{ProvidedConf}
use Rattle.config.specs.Tables.{ProvidedConfs}
use Rattle.config.specs.declared.Link.{Link}
use Rattle.config.specs.Tables.{Links}
use Rattle.config.specs.declared.OperationConf.{OperationConf}
use Rattle.config.specs.Tables.{OperationConfs}
use Rattle.config.specs.declared.TimerConf.{TimerConf}
use Rattle.config.specs.Tables.{TimerConfs}
use Rattle.config.specs.declared.DataEvent.{DataEvent}
use Rattle.config.specs.Tables.{DataEvents}
use Rattle.config.specs.declared.ReturnEvent.{ReturnEvent}
use Rattle.config.specs.Tables.{ReturnEvents}
use Rattle.config.specs.declared.Listed.{Listed}
use Rattle.config.specs.Tables.{Lists}
use Rattle.config.specs.declared.Config.{Config}
use Rattle.config.specs.Tables.{max_runnable_confs, max_variable_confs, max_area_confs, max_required_confs, max_provided_confs, max_links, max_operation_confs, max_timer_confs, max_data_events, max_return_events, max_lists, runnable_conf_in, variable_conf_in, area_conf_in, required_conf_in, provided_conf_in, link_in, operation_conf_in, timer_conf_in, data_event_in, return_event_in, listed_in, add_runnable_conf, add_variable_conf, add_area_conf, add_required_conf, add_provided_conf, add_link, add_operation_conf, add_timer_conf, add_data_event, add_return_event, add_listed}
use Rattle.entries.specs.declared.Entry.{Entry}

-- the entry of an unused place, and of a tag that names no kind ("A sound state", unused places)
abbrev pub no_entry : Entry
no_entry = record { first = 0; second = 0; third = 0; number = 0 }

-- how many parts of a kind there may be, by its tag ("The parts, and how many")
unfoldable pub max_of : ℕ → ℕ
max_of tag =
    pick (eqb tag runnable_tag) (max_runnable_confs)
    (pick (eqb tag variable_tag) (max_variable_confs)
    (pick (eqb tag area_tag) (max_area_confs)
    (pick (eqb tag required_tag) (max_required_confs)
    (pick (eqb tag provided_tag) (max_provided_confs)
    (pick (eqb tag link_tag) (max_links)
    (pick (eqb tag operation_tag) (max_operation_confs)
    (pick (eqb tag timer_tag) (max_timer_confs)
    (pick (eqb tag data_event_tag) (max_data_events)
    (pick (eqb tag return_event_tag) (max_return_events)
    (pick (eqb tag incoming_tag) (max_lists)
    (pick (eqb tag outgoing_tag) (max_lists)
    0)))))))))))

-- how many parts of a kind there are, by its tag ("The parts, and how many")
unfoldable pub count_of : Config → ℕ → ℕ
count_of cfg tag =
    pick (eqb tag runnable_tag) cfg.runnables.n
    (pick (eqb tag variable_tag) cfg.variables.n
    (pick (eqb tag area_tag) cfg.areas.n
    (pick (eqb tag required_tag) cfg.required.n
    (pick (eqb tag provided_tag) cfg.provided.n
    (pick (eqb tag link_tag) cfg.links.n
    (pick (eqb tag operation_tag) cfg.operations.n
    (pick (eqb tag timer_tag) cfg.timers.n
    (pick (eqb tag data_event_tag) cfg.devents.n
    (pick (eqb tag return_event_tag) cfg.revents.n
    (pick (eqb tag incoming_tag) cfg.incoming.n
    (pick (eqb tag outgoing_tag) cfg.outgoing.n
    0)))))))))))

-- how many places the table of a kind has: in a configuration that code holds, always as many as there may be ("The parts, and how many")
unfoldable pub places_of : Config → ℕ → ℕ
places_of cfg tag =
    pick (eqb tag runnable_tag) (length cfg.runnables.at)
    (pick (eqb tag variable_tag) (length cfg.variables.at)
    (pick (eqb tag area_tag) (length cfg.areas.at)
    (pick (eqb tag required_tag) (length cfg.required.at)
    (pick (eqb tag provided_tag) (length cfg.provided.at)
    (pick (eqb tag link_tag) (length cfg.links.at)
    (pick (eqb tag operation_tag) (length cfg.operations.at)
    (pick (eqb tag timer_tag) (length cfg.timers.at)
    (pick (eqb tag data_event_tag) (length cfg.devents.at)
    (pick (eqb tag return_event_tag) (length cfg.revents.at)
    (pick (eqb tag incoming_tag) (length cfg.incoming.at)
    (pick (eqb tag outgoing_tag) (length cfg.outgoing.at)
    0)))))))))))

-- the flags of a runnable as one number: 1 for concurrent, 2 for init, 4 for counting ("The files", tag 10; W-212)
abbrev pub flags_of : RunnableConf → ℕ
flags_of x = bit x.concurrent + 2 * bit x.init + 4 * bit x.counting

-- the entry of a runnable: component, flags, request capacity; start interval ("The files", tag 10)
abbrev pub runnable_entry : RunnableConf → Entry
runnable_entry x = record { first = x.component; second = flags_of x; third = x.capacity; number = x.interval }

-- the runnable that an entry says ("The files", tag 10; W-212)
abbrev pub runnable_part : Entry → RunnableConf
runnable_part e = record { component = e.first; concurrent = eqb (e.second % 2) 1; init = ltb 1 (e.second % 4); counting = ltb 3 e.second; interval = e.number; capacity = e.third }

-- the entry of a variable: component, mark of an initial; initial ("The files", tag 11)
abbrev pub variable_entry : VariableConf → Entry
variable_entry x = record { first = x.component; second = bit x.initialed; third = 0; number = x.initial }

-- the variable that an entry says ("The files", tag 11)
abbrev pub variable_part : Entry → VariableConf
variable_part e = record { component = e.first; initialed = eqb e.second 1; initial = e.number }

-- the entry of an area: component ("The files", tag 12)
abbrev pub area_entry : AreaConf → Entry
area_entry x = record { first = x.component; second = 0; third = 0; number = 0 }

-- the area that an entry says ("The files", tag 12)
abbrev pub area_part : Entry → AreaConf
area_part e = record { component = e.first }

-- the entry of a required element: component, capacity ("The files", tag 13)
abbrev pub required_entry : RequiredConf → Entry
required_entry x = record { first = x.component; second = x.capacity; third = 0; number = 0 }

-- the required element that an entry says ("The files", tag 13)
abbrev pub required_part : Entry → RequiredConf
required_part e = record { component = e.first; capacity = e.second }

-- the entry of a provided element: component, kind (1 queued) ("The files", tag 14)
abbrev pub provided_entry : ProvidedConf → Entry
provided_entry x = record { first = x.component; second = bit x.queued; third = 0; number = 0 }

-- the provided element that an entry says ("The files", tag 14)
abbrev pub provided_part : Entry → ProvidedConf
provided_part e = record { component = e.first; queued = eqb e.second 1 }

-- the entry of a link: provided, required ("The files", tag 15)
abbrev pub link_entry : Link → Entry
link_entry x = record { first = x.provided; second = x.required; third = 0; number = 0 }

-- the link that an entry says ("The files", tag 15)
abbrev pub link_part : Entry → Link
link_part e = record { provided = e.first; required = e.second }

-- the entry of an operation: component, kind (1 asynchronous), server; timeout ("The files", tag 16)
abbrev pub operation_entry : OperationConf → Entry
operation_entry x = record { first = x.component; second = bit x.asynchronous; third = x.server; number = x.timeout }

-- the operation that an entry says ("The files", tag 16)
abbrev pub operation_part : Entry → OperationConf
operation_part e = record { component = e.first; asynchronous = eqb e.second 1; server = e.third; timeout = e.number }

-- the entry of a timer: runnable; period ("The files", tag 17)
abbrev pub timer_entry : TimerConf → Entry
timer_entry x = record { first = x.runnable; second = 0; third = 0; number = x.period }

-- the timer that an entry says ("The files", tag 17)
abbrev pub timer_part : Entry → TimerConf
timer_part e = record { runnable = e.first; period = e.number }

-- the entry of a data event: runnable, required element ("The files", tag 18)
abbrev pub data_event_entry : DataEvent → Entry
data_event_entry x = record { first = x.runnable; second = x.required; third = 0; number = 0 }

-- the data event that an entry says ("The files", tag 18)
abbrev pub data_event_part : Entry → DataEvent
data_event_part e = record { runnable = e.first; required = e.second }

-- the entry of a return event: runnable, operation ("The files", tag 19)
abbrev pub return_event_entry : ReturnEvent → Entry
return_event_entry x = record { first = x.runnable; second = x.operation; third = 0; number = 0 }

-- the return event that an entry says ("The files", tag 19)
abbrev pub return_event_part : Entry → ReturnEvent
return_event_part e = record { runnable = e.first; operation = e.second }

-- the entry of a listed element: runnable, element (W-211)
abbrev pub listed_entry : Listed → Entry
listed_entry x = record { first = x.runnable; second = x.element; third = 0; number = 0 }

-- the listed element that an entry says (W-211)
abbrev pub listed_part : Entry → Listed
listed_part e = record { runnable = e.first; element = e.second }

-- the entry of the part of a kind at place i ("The files", the table)
unfoldable pub entry_of : Config → ℕ → ℕ → Entry
entry_of cfg tag i =
    pick (eqb tag runnable_tag) (runnable_entry (runnable_conf_in cfg.runnables i))
    (pick (eqb tag variable_tag) (variable_entry (variable_conf_in cfg.variables i))
    (pick (eqb tag area_tag) (area_entry (area_conf_in cfg.areas i))
    (pick (eqb tag required_tag) (required_entry (required_conf_in cfg.required i))
    (pick (eqb tag provided_tag) (provided_entry (provided_conf_in cfg.provided i))
    (pick (eqb tag link_tag) (link_entry (link_in cfg.links i))
    (pick (eqb tag operation_tag) (operation_entry (operation_conf_in cfg.operations i))
    (pick (eqb tag timer_tag) (timer_entry (timer_conf_in cfg.timers i))
    (pick (eqb tag data_event_tag) (data_event_entry (data_event_in cfg.devents i))
    (pick (eqb tag return_event_tag) (return_event_entry (return_event_in cfg.revents i))
    (pick (eqb tag incoming_tag) (listed_entry (listed_in cfg.incoming i))
    (pick (eqb tag outgoing_tag) (listed_entry (listed_in cfg.outgoing i))
    no_entry)))))))))))

-- the configuration with another edition (W-208)
abbrev pub with_edition : Config → ℕ → Config
with_edition cfg e = record { edition = e; runnables = cfg.runnables; variables = cfg.variables; areas = cfg.areas; required = cfg.required; provided = cfg.provided; links = cfg.links; operations = cfg.operations; timers = cfg.timers; devents = cfg.devents; revents = cfg.revents; incoming = cfg.incoming; outgoing = cfg.outgoing }

-- the configuration with another table of runnables ("The parts, and how many")
abbrev pub with_runnable_confs : Config → RunnableConfs → Config
with_runnable_confs cfg t = record { edition = cfg.edition; runnables = t; variables = cfg.variables; areas = cfg.areas; required = cfg.required; provided = cfg.provided; links = cfg.links; operations = cfg.operations; timers = cfg.timers; devents = cfg.devents; revents = cfg.revents; incoming = cfg.incoming; outgoing = cfg.outgoing }

-- the configuration with another table of variables ("The parts, and how many")
abbrev pub with_variable_confs : Config → VariableConfs → Config
with_variable_confs cfg t = record { edition = cfg.edition; runnables = cfg.runnables; variables = t; areas = cfg.areas; required = cfg.required; provided = cfg.provided; links = cfg.links; operations = cfg.operations; timers = cfg.timers; devents = cfg.devents; revents = cfg.revents; incoming = cfg.incoming; outgoing = cfg.outgoing }

-- the configuration with another table of areas ("The parts, and how many")
abbrev pub with_area_confs : Config → AreaConfs → Config
with_area_confs cfg t = record { edition = cfg.edition; runnables = cfg.runnables; variables = cfg.variables; areas = t; required = cfg.required; provided = cfg.provided; links = cfg.links; operations = cfg.operations; timers = cfg.timers; devents = cfg.devents; revents = cfg.revents; incoming = cfg.incoming; outgoing = cfg.outgoing }

-- the configuration with another table of required elements ("The parts, and how many")
abbrev pub with_required_confs : Config → RequiredConfs → Config
with_required_confs cfg t = record { edition = cfg.edition; runnables = cfg.runnables; variables = cfg.variables; areas = cfg.areas; required = t; provided = cfg.provided; links = cfg.links; operations = cfg.operations; timers = cfg.timers; devents = cfg.devents; revents = cfg.revents; incoming = cfg.incoming; outgoing = cfg.outgoing }

-- the configuration with another table of provided elements ("The parts, and how many")
abbrev pub with_provided_confs : Config → ProvidedConfs → Config
with_provided_confs cfg t = record { edition = cfg.edition; runnables = cfg.runnables; variables = cfg.variables; areas = cfg.areas; required = cfg.required; provided = t; links = cfg.links; operations = cfg.operations; timers = cfg.timers; devents = cfg.devents; revents = cfg.revents; incoming = cfg.incoming; outgoing = cfg.outgoing }

-- the configuration with another table of links ("The parts, and how many")
abbrev pub with_links : Config → Links → Config
with_links cfg t = record { edition = cfg.edition; runnables = cfg.runnables; variables = cfg.variables; areas = cfg.areas; required = cfg.required; provided = cfg.provided; links = t; operations = cfg.operations; timers = cfg.timers; devents = cfg.devents; revents = cfg.revents; incoming = cfg.incoming; outgoing = cfg.outgoing }

-- the configuration with another table of operations ("The parts, and how many")
abbrev pub with_operation_confs : Config → OperationConfs → Config
with_operation_confs cfg t = record { edition = cfg.edition; runnables = cfg.runnables; variables = cfg.variables; areas = cfg.areas; required = cfg.required; provided = cfg.provided; links = cfg.links; operations = t; timers = cfg.timers; devents = cfg.devents; revents = cfg.revents; incoming = cfg.incoming; outgoing = cfg.outgoing }

-- the configuration with another table of timers ("The parts, and how many")
abbrev pub with_timer_confs : Config → TimerConfs → Config
with_timer_confs cfg t = record { edition = cfg.edition; runnables = cfg.runnables; variables = cfg.variables; areas = cfg.areas; required = cfg.required; provided = cfg.provided; links = cfg.links; operations = cfg.operations; timers = t; devents = cfg.devents; revents = cfg.revents; incoming = cfg.incoming; outgoing = cfg.outgoing }

-- the configuration with another table of data events ("The parts, and how many")
abbrev pub with_data_events : Config → DataEvents → Config
with_data_events cfg t = record { edition = cfg.edition; runnables = cfg.runnables; variables = cfg.variables; areas = cfg.areas; required = cfg.required; provided = cfg.provided; links = cfg.links; operations = cfg.operations; timers = cfg.timers; devents = t; revents = cfg.revents; incoming = cfg.incoming; outgoing = cfg.outgoing }

-- the configuration with another table of return events ("The parts, and how many")
abbrev pub with_return_events : Config → ReturnEvents → Config
with_return_events cfg t = record { edition = cfg.edition; runnables = cfg.runnables; variables = cfg.variables; areas = cfg.areas; required = cfg.required; provided = cfg.provided; links = cfg.links; operations = cfg.operations; timers = cfg.timers; devents = cfg.devents; revents = t; incoming = cfg.incoming; outgoing = cfg.outgoing }

-- the configuration with another list of elements that are copied at spawn (W-211)
abbrev pub with_incoming_list : Config → Lists → Config
with_incoming_list cfg t = record { edition = cfg.edition; runnables = cfg.runnables; variables = cfg.variables; areas = cfg.areas; required = cfg.required; provided = cfg.provided; links = cfg.links; operations = cfg.operations; timers = cfg.timers; devents = cfg.devents; revents = cfg.revents; incoming = t; outgoing = cfg.outgoing }

-- the configuration with another list of elements that are written at end (W-211)
abbrev pub with_outgoing_list : Config → Lists → Config
with_outgoing_list cfg t = record { edition = cfg.edition; runnables = cfg.runnables; variables = cfg.variables; areas = cfg.areas; required = cfg.required; provided = cfg.provided; links = cfg.links; operations = cfg.operations; timers = cfg.timers; devents = cfg.devents; revents = cfg.revents; incoming = cfg.incoming; outgoing = t }

-- the configuration with one part more of a kind, or its edition, as the entry says ("The files", the table; W-208)
unfoldable pub placed : Config → ℕ → Entry → Config
placed cfg tag e =
    pick (eqb tag runnable_tag) (with_runnable_confs cfg (add_runnable_conf cfg.runnables (runnable_part e)))
    (pick (eqb tag variable_tag) (with_variable_confs cfg (add_variable_conf cfg.variables (variable_part e)))
    (pick (eqb tag area_tag) (with_area_confs cfg (add_area_conf cfg.areas (area_part e)))
    (pick (eqb tag required_tag) (with_required_confs cfg (add_required_conf cfg.required (required_part e)))
    (pick (eqb tag provided_tag) (with_provided_confs cfg (add_provided_conf cfg.provided (provided_part e)))
    (pick (eqb tag link_tag) (with_links cfg (add_link cfg.links (link_part e)))
    (pick (eqb tag operation_tag) (with_operation_confs cfg (add_operation_conf cfg.operations (operation_part e)))
    (pick (eqb tag timer_tag) (with_timer_confs cfg (add_timer_conf cfg.timers (timer_part e)))
    (pick (eqb tag data_event_tag) (with_data_events cfg (add_data_event cfg.devents (data_event_part e)))
    (pick (eqb tag return_event_tag) (with_return_events cfg (add_return_event cfg.revents (return_event_part e)))
    (pick (eqb tag incoming_tag) (with_incoming_list cfg (add_listed cfg.incoming (listed_part e)))
    (pick (eqb tag outgoing_tag) (with_outgoing_list cfg (add_listed cfg.outgoing (listed_part e)))
    (pick (eqb tag edition_tag) (with_edition cfg e.first)
    cfg))))))))))))
