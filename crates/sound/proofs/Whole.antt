-- A test that reads one table says the same of every configuration with that table.
-- Assumes nothing.
use Rattle.std.proofs.Common.{◌≡◌, refl}
use Rattle.faces.specs.Types.{Config, Runnables, Variables, Elements, Operations, Timers}
use Rattle.rules.specs.Sound.{variables_sound, variable_sound, elements_sound, element_sound, operation_sound, calling_sound, done_sound, timers_sound, timer_sound}
use Rattle.sound.specs.declared.Tally.{Tally}
use Rattle.sound.specs.Only.{only_variables, only_required, only_operations, only_timers}
use Rattle.sound.specs.Walk.{queue_of, waiter_tallied, operation_tallied, operations_tallied}

pub variables-only : (cfg : Config) (t : Variables) → variables_sound (only_variables cfg.variables) t ≡ variables_sound cfg t
unfolding variables_sound variable_sound only_variables
variables-only cfg t = refl

pub elements-only : (cfg : Config) (t : Elements) → elements_sound (only_required cfg.edition cfg.required) t ≡ elements_sound cfg t
unfolding elements_sound element_sound only_required
elements-only cfg t = refl

pub operations-only : (cfg : Config) (rs : Runnables) (y : Tally) (t : Operations) → operations_tallied (only_operations cfg.operations) rs y t ≡ operations_tallied cfg rs y t
unfolding operations_tallied operation_tallied waiter_tallied operation_sound calling_sound done_sound queue_of only_operations
operations-only cfg rs y t = refl

pub timers-only : (cfg : Config) (t : Timers) → timers_sound (only_timers cfg.timers) t ≡ timers_sound cfg t
unfolding timers_sound timer_sound only_timers
timers-only cfg t = refl

pub ruleset only = (variables-only, elements-only, operations-only, timers-only)
