-- A configuration of which one table is given and the rest is blank: in it a function says what it answers that is handed only the table that its test reads.
-- Assumes nothing.
use Rattle.std.specs.Prelude.{ℕ}
use Rattle.faces.specs.Types.{Config, VariableConfs, AreaConfs, RequiredConfs, OperationConfs, TimerConfs}
use Rattle.config.specs.Editions.{first_edition}
use Rattle.config.specs.Tables.{no_runnable_confs, no_variable_confs, no_area_confs, no_required_confs, no_provided_confs, no_links, no_operation_confs, no_timer_confs, no_data_events, no_return_events, no_lists}

-- a configuration with these variables and nothing else
unfoldable pub only_variables : VariableConfs → Config
only_variables t = record { edition = first_edition; runnables = no_runnable_confs; variables = t; areas = no_area_confs; required = no_required_confs; provided = no_provided_confs; links = no_links; operations = no_operation_confs; timers = no_timer_confs; devents = no_data_events; revents = no_return_events; incoming = no_lists; outgoing = no_lists }

-- a configuration with these areas and nothing else
unfoldable pub only_areas : AreaConfs → Config
only_areas t = record { edition = first_edition; runnables = no_runnable_confs; variables = no_variable_confs; areas = t; required = no_required_confs; provided = no_provided_confs; links = no_links; operations = no_operation_confs; timers = no_timer_confs; devents = no_data_events; revents = no_return_events; incoming = no_lists; outgoing = no_lists }

-- a configuration of this edition with these required elements and nothing else
unfoldable pub only_required : ℕ → RequiredConfs → Config
only_required e t = record { edition = e; runnables = no_runnable_confs; variables = no_variable_confs; areas = no_area_confs; required = t; provided = no_provided_confs; links = no_links; operations = no_operation_confs; timers = no_timer_confs; devents = no_data_events; revents = no_return_events; incoming = no_lists; outgoing = no_lists }

-- a configuration with these operations and nothing else
unfoldable pub only_operations : OperationConfs → Config
only_operations t = record { edition = first_edition; runnables = no_runnable_confs; variables = no_variable_confs; areas = no_area_confs; required = no_required_confs; provided = no_provided_confs; links = no_links; operations = t; timers = no_timer_confs; devents = no_data_events; revents = no_return_events; incoming = no_lists; outgoing = no_lists }

-- a configuration with these timers and nothing else
unfoldable pub only_timers : TimerConfs → Config
only_timers t = record { edition = first_edition; runnables = no_runnable_confs; variables = no_variable_confs; areas = no_area_confs; required = no_required_confs; provided = no_provided_confs; links = no_links; operations = no_operation_confs; timers = t; devents = no_data_events; revents = no_return_events; incoming = no_lists; outgoing = no_lists }
