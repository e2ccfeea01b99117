-- One state that is sound and not trivial, near ones that are unsound, each for one clause alone, and near ones that are sound: the test of soundness neither lets all pass nor bars what it should not.
-- Assumes nothing.
use Prim.Native.Nat.{ℕ}
use mathlib.Core.Bool.{Bool, true, false}
use mathlib.Core.List.{List, [], ◌∷◌, map}
use mathlib.Core.Path.{◌≡◌, refl}
use lib.ListN.{replicate, set}
use Rattle.config.specs.Lists.{first_listed, listed_below, lists_at}
use Rattle.laws.specs.Choice.{all_of}
use Rattle.laws.specs.Loop.{all_below, any_below, sum_below, first_below}
use Rattle.laws.specs.Row.{each_below, shifted, place_filled, filled}
use Rattle.values.specs.Values.{is_void, is_payload, is_kind, is_mask, is_good, same_value, void_v, number_v, ok_v, timeout_v, never_received_v, invalid_v, server_err_v}
use Rattle.config.specs.Editions.{first_edition, is_edition, marks_invalid, has_field, lists_elements}
use Rattle.config.specs.Tables.{no_config, no_runnable_conf, no_area_conf, no_required_conf, no_operation_conf, no_variable_confs, no_provided_confs, no_links, no_timer_confs, no_data_events, no_return_events, no_lists, top_of, no_listed}
use Rattle.state.specs.Parts.{no_requests, no_runnable, no_values, no_element, no_stack, no_slot, no_client, no_owed, no_variable, no_area, no_operation, no_timer, no_awaited, no_copies}
use Rattle.state.specs.Tables.{with_runnables, with_variables, with_areas, with_elements, with_operations, with_timers, with_slots, runnable_in, with_runnable, no_variables, with_element, with_operation, no_timers, copy_in, no_copied, with_copies, with_copy, with_incoming, with_outgoing}
use Rattle.state.specs.Fields.{with_pending}
use Rattle.state.specs.Queues.{push_area, top_area, pop_area, oldest, pushed, without_oldest}
use Rattle.state.specs.Start.{start_variable, start_element, start_of, started}
use Rattle.entries.specs.Entries.{max_of, count_of, places_of, entry_of, placed, with_edition, with_required_confs, with_incoming_list}
use Rattle.entries.specs.Faults.{in_range, names_there, is_server, is_queued, rises, rises_at, pairs_well, entry_fault, is_no_entry, place_sound, kind_sound, config_sound, parts_sound, has_room, lists_well}
use Rattle.rules.specs.Sound.{is_no_client, client_fits, requests_sound, values_sound, runnable_sound, variable_sound, is_stored, element_sound, is_outcome, calling_sound, done_sound, operation_sound, timer_sound, waits_well, life_sound, owed_sound, area_fits, stack_sound, is_no_slot, slot_sound, of_runnable, slots_of, count_sound, times_in, holders, area_sound, is_client, queued_as, served_as, clients_as, client_sound, queued_sound, served_sound, called_sound, waits_on, waiters_of, waiter_sound, runnables_sound, variables_sound, elements_sound, operations_sound, timers_sound, slots_sound, counts_sound, areas_sound, clients_sound, waiters_sound, shaped, sound_of, most_pending, is_no_awaited, awaits_well, is_no_life, is_no_owed, is_no_stack, held_well, copied_sound, copies_sound, copy_sound, has_copy, is_no_copy}
use Rattle.effects.specs.Steps.{failing, on_operation, awaiting, on_element}
use Rattle.faces.specs.Types.{Value, Config, Client, Requests, Runnables, Elements, Operations, Life, Stack, Slot, Slots, State, Awaited, Copied}
use Rattle.config.specs.Table.{add_part, part_in}
use Rattle.state.specs.Places.{no_places, place_in, with_place}
use Rattle.state.specs.Fields.{with_left}

-- ---- the configuration: a client and a server component with two runnables each, of which one counts its activations, a synchronous and two asynchronous operations of the one on the other, two areas, a queued element

-- with a timeout for the last operation
pub config_with : ℕ → Config
config_with timeout = record {
  runnables =
      record {
        n = 4;
        at = set (set (set (set (replicate 16 no_runnable_conf)
            0 (record { component = 0; concurrent = false; init = true; counting = false; interval = 5; capacity = 0 }))
            1 (record { component = 1; concurrent = true; init = false; counting = false; interval = 0; capacity = 3 }))
            2 (record { component = 0; concurrent = true; init = false; counting = true; interval = 0; capacity = 0 }))
            3 (record { component = 1; concurrent = false; init = false; counting = false; interval = 0; capacity = 1 });
      };
  variables = no_variable_confs;
  areas = record { n = 2; at = replicate 16 no_area_conf };
  required = record { n = 1; at = set (replicate 16 no_required_conf) 0 (record { component = 0; capacity = 2 }) };
  provided = no_provided_confs;
  links = no_links;
  operations =
      record {
        n = 3;
        at = set (set (set (replicate 8 no_operation_conf)
            0 (record { component = 0; asynchronous = false; server = 1; timeout = 50 }))
            1 (record { component = 0; asynchronous = true; server = 1; timeout = 70 }))
            2 (record { component = 0; asynchronous = true; server = 3; timeout = timeout });
      };
  timers = no_timer_confs;
  devents = no_data_events;
  revents = no_return_events;
  incoming = no_lists;
  outgoing = no_lists;
  edition = first_edition;
}

pub config : Config
config = config_with 10

-- ---- the state: the client waits on the first operation and holds both areas, one inside the other; the server serves its call; a call of the second waits; a value waits

-- an instance of the client, with the operation that it waits on, whether it is finished, and its stack
pub caller : ℕ → Bool → Stack → Slot
caller on finished stack = record { used = true; life = record { runnable = 0; awaited = on_operation on; finished = finished; failed = false }; owed = no_owed; stack = stack }

-- both areas, the second at the bottom
pub nested : Stack
nested = record { held = 2; at = set (set (replicate 16 0) 0 1) 1 0 }

-- one area alone
pub one : ℕ → Stack
one a = record { held = 1; at = set (replicate 16 0) 0 a }

-- an instance of the server, with its client's operation and number, its life and its stack
pub served : ℕ → ℕ → Life → Stack → Slot
served o m life stack = record { used = true; life = life; owed = record { serving = true; client = record { operation = o; number = m; argument = number_v 7 } }; stack = stack }

-- the life of a server's instance: at work, or finished, or waiting
pub life : Awaited → Bool → Life
life awaited finished = record { runnable = 1; awaited = awaited; finished = finished; failed = false }

-- an instance of the runnable r that neither waits nor serves
pub idle : ℕ → Stack → Slot
idle r stack = record { used = true; life = record { runnable = r; awaited = no_awaited; finished = false; failed = false }; owed = no_owed; stack = stack }

-- an instance of the third runnable, with what it waits for; and one that waits on the first operation
pub awaiter : Awaited → Slot
awaiter a = record { used = true; life = record { runnable = 2; awaited = a; finished = false; failed = false }; owed = no_owed; stack = no_stack }

pub waiter : Slot
waiter = awaiter (on_operation 0)

pub first : Slot
first = caller 0 false nested

pub second : Slot
second = served 0 4 (life no_awaited false) no_stack

-- three slots, all others empty
pub slots_with : Slot → Slot → Slot → Slots
slots_with x y z = record { at = set (set (set (replicate 32 no_slot) 0 x) 1 y) 2 z }

-- the runnables, with the instances of the client, the server's pending activations and requests, and the instances of the third runnable
pub runnables_with : ℕ → ℕ → Requests → ℕ → Runnables
runnables_with clients pending requests others = record {
  at = set (set (set (replicate 16 no_runnable)
      0 (record { interval = 2; pending = 1; instances = clients; requests = no_requests }))
      1 (record { interval = 0; pending = pending; instances = 1; requests = requests }))
      2 (record { interval = 0; pending = 0; instances = others; requests = no_requests });
}

-- a client of the second operation
pub asked : ℕ → Client
asked m = record { operation = 1; number = m; argument = void_v }

-- one request in the server's queue, or two
pub queue_one : Client → Requests
queue_one c = record { queued = 1; at = set (replicate 16 no_client) 0 c }

pub queue_two : Client → Client → Requests
queue_two c d = record { queued = 2; at = set (set (replicate 16 no_client) 0 c) 1 d }

-- the runnables of the state, with so many activations pending of the runnable r
pub pending_with : ℕ → ℕ → Runnables
pending_with r pending = with_runnable (runnables_with 1 0 (queue_one (asked 3)) 0) r (with_pending (runnable_in (runnables_with 1 0 (queue_one (asked 3)) 0) r) pending)

-- the operations: the count of the first call, the number of the second, and the number of the third, which is Done
pub operations_with : ℕ → ℕ → ℕ → Operations
operations_with count number past = record {
  at = set (set (set (replicate 8 no_operation)
      0 (record { number = 4; calling = true; count = count; done = void_v }))
      1 (record { number = number; calling = true; count = 1; done = void_v }))
      2 (record { number = past; calling = false; count = 0; done = void_v });
}

-- the same with what the third is Done with
pub done_with : Value → Operations
done_with v = with_operation (operations_with 50 3 0) 2 (record { number = 0; calling = false; count = 0; done = v })

-- the same with the second Done, at a number; and with the first Done too
pub shut_with : ℕ → Operations
shut_with m = with_operation (operations_with 50 3 0) 1 (record { number = m; calling = false; count = 0; done = void_v })

pub free_with : ℕ → Operations
free_with m = with_operation (shut_with m) 0 (record { number = 4; calling = false; count = 0; done = void_v })

-- one element, with a queue of values
pub elements_with : ℕ → List Value → Elements
elements_with queued at = record { at = set (replicate 16 no_element) 0 (record { value = void_v; updated = false; queue = record { queued = queued; at = at } }) }

pub state : State
state = record {
  runnables = runnables_with 1 0 (queue_one (asked 3)) 0;
  variables = no_variables;
  areas = record { at = set (set (replicate 16 no_area) 0 (record { taken = true })) 1 (record { taken = true }) };
  elements = elements_with 1 (set (replicate 16 void_v) 0 (number_v 9));
  operations = operations_with 50 3 0;
  timers = no_timers;
  slots = slots_with first second no_slot;
  incoming = no_copied;
  outgoing = no_copied;
}

-- the clauses of soundness, one beside the other
pub clauses : Config → State → List Bool
clauses cfg st =
    config_sound cfg
    ∷ shaped st
    ∷ runnables_sound cfg st.runnables
    ∷ variables_sound cfg st.variables
    ∷ elements_sound cfg st.elements
    ∷ operations_sound cfg st.operations
    ∷ timers_sound cfg st.timers
    ∷ slots_sound cfg st.slots
    ∷ counts_sound st.runnables st.slots
    ∷ areas_sound cfg st.areas st.slots
    ∷ clients_sound st.operations st.runnables st.slots
    ∷ waiters_sound cfg st.operations st.slots
    ∷ copied_sound cfg.edition cfg.incoming st.slots st.incoming
    ∷ copied_sound cfg.edition cfg.outgoing st.slots st.outgoing
    ∷ []

-- they are all there are
pub clauses-are : (cfg : Config) (st : State) → sound_of cfg st ≡ all_of (clauses cfg st)
unfolding sound_of clauses
clauses-are cfg st = refl

pub state-sound : sound_of config state ≡ true
unfolding all_of all_below any_below sum_below first_below each_below shifted place_filled filled is_void is_payload is_kind is_mask is_good same_value part_in add_part no_config no_requests no_runnable no_values no_element no_stack no_slot no_places place_in with_place pushed oldest without_oldest push_area top_area pop_area start_variable start_element started start_of max_of count_of places_of entry_of placed in_range names_there is_server is_queued rises rises_at pairs_well entry_fault is_no_entry place_sound kind_sound config_sound is_no_client client_fits requests_sound values_sound runnable_sound variable_sound is_stored element_sound is_outcome calling_sound done_sound operation_sound timer_sound waits_well life_sound owed_sound area_fits stack_sound is_no_slot slot_sound of_runnable slots_of count_sound times_in holders area_sound is_client queued_as served_as clients_as client_sound queued_sound served_sound called_sound waits_on waiters_of waiter_sound runnables_sound variables_sound elements_sound operations_sound timers_sound slots_sound counts_sound areas_sound clients_sound waiters_sound shaped sound_of config_with config caller nested one served life idle waiter first second slots_with runnables_with asked queue_one queue_two operations_with done_with shut_with free_with elements_with state is_edition parts_sound marks_invalid top_of most_pending is_no_awaited awaits_well is_no_life is_no_owed is_no_stack held_well awaiter has_room lists_well has_field lists_elements listed_below copied_sound copies_sound copy_sound has_copy is_no_copy copy_in lists_at first_listed no_copies with_copy
state-sound = refl

-- ---- near it, and unsound for one clause alone

-- a configuration and a state, and the one clause that fails, counted from 0
pub record Near : Type 0 where
  pub config : Config
  pub state : State
  pub fails : ℕ

-- all fourteen hold but one
pub all_but : ℕ → List Bool
all_but k = set (replicate 14 true) k false

-- an operation has no time: the configuration is at fault
unconfigured : Near
unconfigured = record { config = config_with 0; state = state; fails = 0 }

-- the configuration of an edition, with an unqueued element more, and the state with a value in it
pub editioned : ℕ → Config
editioned e = with_edition (with_required_confs config (record { n = 2; at = set config.required.at 1 no_required_conf })) e

pub holding : Value → State
holding v = with_elements state (with_element state.elements 1 (record { value = v; updated = false; queue = no_values }))

-- there is no edition 3
edition_three : Near
edition_three = record { config = editioned 3; state = holding never_received_v; fails = 0 }

-- an element is marked invalid under edition 2
marked_second : Near
marked_second = record { config = editioned 2; state = holding invalid_v; fails = 4 }

-- the same configuration with a list: the runnable 0 copies the unqueued element; and the state with a copy in a slot
pub listing : ℕ → Config
listing e = with_incoming_list (editioned e) (record { n = 1; at = set (replicate 64 no_listed) 0 (record { runnable = 0; element = 1 }) })

pub copied : ℕ → Value → Copied
copied i v = with_copies no_copied i (with_copy no_copies 0 v)

-- a list under edition 1
listed_first : Near
listed_first = record { config = listing 1; state = holding never_received_v; fails = 0 }

-- a copy in an empty slot, one to be written where nothing is listed, and one that holds what no element may
copy_empty : Near
copy_empty = record { config = listing 2; state = with_incoming (holding never_received_v) (copied 5 (number_v 1)); fails = 12 }

copy_unlisted : Near
copy_unlisted = record { config = listing 2; state = with_outgoing (holding never_received_v) (copied 0 void_v); fails = 13 }

copy_ok : Near
copy_ok = record { config = listing 2; state = with_incoming (holding never_received_v) (copied 0 ok_v); fails = 12 }

-- there is a slot too many
slots_more : Near
slots_more = record { config = config; state = with_slots state (record { at = set (set (replicate 33 no_slot) 0 first) 1 second }); fails = 1 }

-- a server has an activation pending
server_pending : Near
server_pending = record { config = config; state = with_runnables state (runnables_with 1 1 (queue_one (asked 3)) 0); fails = 2 }

-- two activations pending without the counting flag
twice_pending : Near
twice_pending = record { config = config; state = with_runnables state (pending_with 0 2); fails = 2 }

-- one activation pending past the top
past_top : Near
past_top = record { config = config; state = with_runnables state (pending_with 2 16); fails = 2 }

-- two instances of a runnable without the flag
twice_without : Near
twice_without = record { config = config; state = with_slots (with_runnables state (runnables_with 2 0 (queue_one (asked 3)) 0)) (slots_with first second (idle 0 no_stack)); fails = 2 }

-- a request is for another server
other_server : Near
other_server = record { config = config; state = with_operations (with_runnables state (runnables_with 1 0 (queue_two (asked 3) (record { operation = 2; number = 0; argument = void_v })) 0)) (operations_with 50 3 1); fails = 2 }

-- a variable that is not there holds a value
variable_unused : Near
variable_unused = record { config = config; state = with_variables state (record { at = set (replicate 16 no_variable) 3 (record { value = number_v 0 }) }); fails = 3 }

-- a queue is longer than its capacity
queue_long : Near
queue_long = record { config = config; state = with_elements state (elements_with 3 (replicate 16 void_v)); fails = 4 }

-- a queue holds what is no payload
queue_ok : Near
queue_ok = record { config = config; state = with_elements state (elements_with 1 (set (replicate 16 void_v) 0 ok_v)); fails = 4 }

-- a place behind a queue is not blank
behind_queue : Near
behind_queue = record { config = config; state = with_elements state (elements_with 1 (set (replicate 16 void_v) 1 (number_v 9))); fails = 4 }

-- a count is above the timeout
count_above : Near
count_above = record { config = config; state = with_operations state (operations_with 51 3 0); fails = 5 }

-- ServerErr with a number beside it
err_numbered : Near
err_numbered = record { config = config; state = with_operations state (done_with (record { kind = 9; number = 1 })); fails = 5 }

-- a timer that is not there runs
timer_unused : Near
timer_unused = record { config = config; state = with_timers state (record { at = set (replicate 8 no_timer) 0 (record { count = 1 }) }); fails = 6 }

-- an instance waits on an asynchronous operation; another waits on the synchronous one
waits_async : Near
waits_async = record { config = config; state = with_slots (with_runnables state (runnables_with 1 0 (queue_one (asked 3)) 1)) (slots_with (caller 1 false nested) second waiter); fails = 7 }

-- an instance waits on an operation of another component, and nobody else does
waits_foreign : Near
waits_foreign = record { config = config; state = with_slots state (slots_with (idle 0 nested) (served 0 4 (life (on_operation 0) false) no_stack) no_slot); fails = 7 }

-- the state with one instance more, of the third runnable
pub besides : Awaited → State
besides a = with_slots (with_runnables state (runnables_with 1 0 (queue_one (asked 3)) 1)) (slots_with first second (awaiter a))

-- an instance is held on an element that is not there
held_nowhere : Near
held_nowhere = record { config = config; state = besides (on_element 1 5); fails = 7 }

-- an instance is held on an element of another component
held_foreign : Near
held_foreign = record { config = config; state = with_slots state (slots_with first (served 0 4 (life (on_element 0 5) false) no_stack) no_slot); fails = 7 }

-- an instance is held for more than an hour
held_long : Near
held_long = record { config = config; state = besides (on_element 0 3600001); fails = 7 }

-- an instance that is not held has a count, and so has one that waits on an operation
idle_counts : Near
idle_counts = record { config = config; state = besides (with_left no_awaited 5); fails = 7 }

caller_counts : Near
caller_counts = record { config = config; state = with_slots state (slots_with (awaiting first (with_left (on_operation 0) 5)) second no_slot); fails = 7 }

-- a finished instance still has its client
owes_finished : Near
owes_finished = record { config = config; state = with_slots state (slots_with first (served 0 4 (life no_awaited true) no_stack) no_slot); fails = 7 }

-- a plain instance is finished
finished_plain : Near
finished_plain = record { config = config; state = with_slots state (slots_with (caller 0 true nested) second no_slot); fails = 7 }

-- an area lies on the stack of another component
foreign_area : Near
foreign_area = record { config = config; state = with_slots state (slots_with (caller 0 false (one 0)) (served 0 4 (life no_awaited false) (one 1)) no_slot); fails = 7 }

-- a place of an empty slot is not blank
empty_used : Near
empty_used = record { config = config; state = with_slots state (slots_with first second (record { used = false; life = life no_awaited false; owed = no_owed; stack = no_stack })); fails = 7 }

-- an empty slot has failed
empty_failed : Near
empty_failed = record { config = config; state = with_slots state (slots_with first second (failing no_slot)); fails = 7 }

-- a runnable counts fewer instances than it has
no_instance : Near
no_instance = record { config = config; state = with_runnables state (runnables_with 0 0 (queue_one (asked 3)) 0); fails = 8 }

-- an area that lies in a stack is free
held_free : Near
held_free = record { config = config; state = with_areas state (record { at = set (replicate 16 no_area) 0 (record { taken = true }) }); fails = 9 }

-- an area lies in two stacks
held_twice : Near
held_twice = record { config = config; state = with_slots (with_runnables state (runnables_with 1 0 (queue_one (asked 3)) 1)) (slots_with first second (idle 2 (one 0))); fails = 9 }

-- an open call has no client with its number, but one with the number before it
call_alone : Near
call_alone = record { config = config; state = with_slots state (slots_with first (served 0 3 (life no_awaited false) no_stack) no_slot); fails = 10 }

-- an open call has no client with its number, but one with the number behind it
call_ahead : Near
call_ahead = record { config = config; state = with_slots state (slots_with first (served 0 5 (life no_awaited false) no_stack) no_slot); fails = 10 }

-- two clients share operation and number
client_twice : Near
client_twice = record { config = config; state = with_runnables state (runnables_with 1 0 (queue_two (asked 3) (asked 3)) 0); fails = 10 }

-- nobody waits on a synchronous operation whose call is open
call_unbound : Near
call_unbound = record { config = config; state = with_slots state (slots_with (idle 0 nested) second no_slot); fails = 11 }

-- two instances wait on one operation
waiters_two : Near
waiters_two = record { config = config; state = with_slots (with_runnables state (runnables_with 1 0 (queue_one (asked 3)) 1)) (slots_with first second waiter); fails = 11 }

-- two clients of past calls do
past_twice : Near
past_twice = record { config = config; state = with_operations (with_runnables state (runnables_with 1 0 (queue_two (asked 9) (asked 9)) 0)) (shut_with 3); fails = 10 }

-- one waits and one is served
apart_twice : Near
apart_twice = record { config = config; state = with_slots (with_operations (with_runnables state (runnables_with 1 0 (queue_one (asked 9)) 0)) (free_with 3)) (slots_with (idle 0 nested) (served 1 9 (life no_awaited false) no_stack) no_slot); fails = 10 }

pub near : List Near
near =
    unconfigured
    ∷ edition_three
    ∷ marked_second
    ∷ slots_more
    ∷ server_pending
    ∷ twice_pending
    ∷ past_top
    ∷ twice_without
    ∷ other_server
    ∷ variable_unused
    ∷ queue_long
    ∷ queue_ok
    ∷ behind_queue
    ∷ count_above
    ∷ err_numbered
    ∷ timer_unused
    ∷ waits_async
    ∷ waits_foreign
    ∷ held_nowhere
    ∷ held_foreign
    ∷ held_long
    ∷ idle_counts
    ∷ caller_counts
    ∷ owes_finished
    ∷ finished_plain
    ∷ foreign_area
    ∷ empty_used
    ∷ empty_failed
    ∷ no_instance
    ∷ held_free
    ∷ held_twice
    ∷ call_alone
    ∷ call_ahead
    ∷ client_twice
    ∷ call_unbound
    ∷ waiters_two
    ∷ past_twice
    ∷ apart_twice
    ∷ listed_first
    ∷ copy_empty
    ∷ copy_unlisted
    ∷ copy_ok
    ∷ []

-- of each, the clauses hold as it says: all but one
pub near-unsound : map (λ (x : Near). clauses x.config x.state) near ≡ map (λ (x : Near). all_but x.fails) near
unfolding all_of all_below any_below sum_below first_below each_below shifted place_filled filled is_void is_payload is_kind is_mask is_good same_value part_in add_part no_config no_requests no_runnable no_values no_element no_stack no_slot no_places place_in with_place pushed oldest without_oldest push_area top_area pop_area start_variable start_element started start_of max_of count_of places_of entry_of placed in_range names_there is_server is_queued rises rises_at pairs_well entry_fault is_no_entry place_sound kind_sound config_sound is_no_client client_fits requests_sound values_sound runnable_sound variable_sound is_stored element_sound is_outcome calling_sound done_sound operation_sound timer_sound waits_well life_sound owed_sound area_fits stack_sound is_no_slot slot_sound of_runnable slots_of count_sound times_in holders area_sound is_client queued_as served_as clients_as client_sound queued_sound served_sound called_sound waits_on waiters_of waiter_sound runnables_sound variables_sound elements_sound operations_sound timers_sound slots_sound counts_sound areas_sound clients_sound waiters_sound shaped sound_of config_with config caller nested one served life idle waiter first second slots_with runnables_with asked queue_one queue_two operations_with done_with shut_with free_with elements_with state clauses near all_but unconfigured slots_more server_pending twice_without other_server variable_unused queue_long queue_ok behind_queue count_above err_numbered timer_unused waits_async waits_foreign owes_finished finished_plain foreign_area empty_used empty_failed no_instance held_free held_twice call_alone call_ahead client_twice past_twice apart_twice call_unbound waiters_two is_edition parts_sound marks_invalid editioned holding edition_three marked_second top_of most_pending pending_with twice_pending past_top is_no_awaited awaits_well is_no_life is_no_owed is_no_stack held_well awaiter besides held_nowhere held_foreign held_long idle_counts caller_counts has_room lists_well has_field lists_elements listed_below copied_sound copies_sound copy_sound has_copy is_no_copy copy_in lists_at first_listed no_copies with_copy listing copied listed_first copy_empty copy_unlisted copy_ok
near-unsound = refl

-- ---- near it, and sound

-- an operation is Done with ServerErr; an instance that waits has failed; a server's instance has failed and has its client; the call that an instance waits for has timed out; an instance waits where
-- no call was ever made; a call is open with the number 65,535; beside the client of an open call waits one with a number above it; a client bears the number of its operation, which is Done; fifteen activations of a counting runnable are pending;
-- an instance is held for an hour, though there is data; one whose time is up
pub sound_too : List State
sound_too =
    with_operations state (done_with server_err_v)
    ∷ with_slots state (slots_with (failing first) second no_slot)
    ∷ with_slots state (slots_with first (failing second) no_slot)
    ∷ with_operations state (with_operation (operations_with 50 3 0) 0 (record { number = 5; calling = false; count = 0; done = timeout_v }))
    ∷ with_operations (with_slots (with_runnables state (runnables_with 1 0 no_requests 0)) (slots_with first (served 1 3 (life no_awaited false) no_stack) no_slot)) (with_operation (operations_with 50 3 0) 0 no_operation)
    ∷ with_operations (with_runnables state (runnables_with 1 0 (queue_one (asked 65535)) 0)) (operations_with 50 65535 0)
    ∷ with_runnables state (runnables_with 1 0 (queue_two (asked 9) (asked 3)) 0)
    ∷ with_operations state (shut_with 3)
    ∷ with_runnables state (pending_with 2 15)
    ∷ besides (on_element 0 3600000)
    ∷ besides (on_element 0 0)
    ∷ []

pub near-sound : map (λ (x : State). sound_of config x) sound_too ≡ true ∷ true ∷ true ∷ true ∷ true ∷ true ∷ true ∷ true ∷ true ∷ true ∷ true ∷ []
unfolding all_of all_below any_below sum_below first_below each_below shifted place_filled filled is_void is_payload is_kind is_mask is_good same_value part_in add_part no_config no_requests no_runnable no_values no_element no_stack no_slot no_places place_in with_place pushed oldest without_oldest push_area top_area pop_area start_variable start_element started start_of max_of count_of places_of entry_of placed in_range names_there is_server is_queued rises rises_at pairs_well entry_fault is_no_entry place_sound kind_sound config_sound is_no_client client_fits requests_sound values_sound runnable_sound variable_sound is_stored element_sound is_outcome calling_sound done_sound operation_sound timer_sound waits_well life_sound owed_sound area_fits stack_sound is_no_slot slot_sound of_runnable slots_of count_sound times_in holders area_sound is_client queued_as served_as clients_as client_sound queued_sound served_sound called_sound waits_on waiters_of waiter_sound runnables_sound variables_sound elements_sound operations_sound timers_sound slots_sound counts_sound areas_sound clients_sound waiters_sound shaped sound_of config_with config caller nested one served life idle waiter first second slots_with runnables_with asked queue_one queue_two operations_with done_with shut_with free_with elements_with state sound_too is_edition parts_sound marks_invalid top_of most_pending pending_with is_no_awaited awaits_well is_no_life is_no_owed is_no_stack held_well awaiter besides has_room lists_well has_field lists_elements listed_below copied_sound copies_sound copy_sound has_copy is_no_copy copy_in lists_at first_listed no_copies with_copy
near-sound = refl

-- Invalid is kept soundly under edition 1, NeverReceived under both
pub editions-sound : sound_of (editioned 1) (holding invalid_v) ∷ sound_of (editioned 1) (holding never_received_v) ∷ sound_of (editioned 2) (holding never_received_v) ∷ [] ≡ true ∷ true ∷ true ∷ []
unfolding all_of all_below any_below sum_below first_below each_below shifted place_filled filled is_void is_payload is_kind is_mask is_good same_value part_in add_part no_config no_requests no_runnable no_values no_element no_stack no_slot no_places place_in with_place pushed oldest without_oldest push_area top_area pop_area start_variable start_element started start_of max_of count_of places_of entry_of placed in_range names_there is_server is_queued rises rises_at pairs_well entry_fault is_no_entry place_sound kind_sound config_sound is_no_client client_fits requests_sound values_sound runnable_sound variable_sound is_stored element_sound is_outcome calling_sound done_sound operation_sound timer_sound waits_well life_sound owed_sound area_fits stack_sound is_no_slot slot_sound of_runnable slots_of count_sound times_in holders area_sound is_client queued_as served_as clients_as client_sound queued_sound served_sound called_sound waits_on waiters_of waiter_sound runnables_sound variables_sound elements_sound operations_sound timers_sound slots_sound counts_sound areas_sound clients_sound waiters_sound shaped sound_of config_with config caller nested one served life idle waiter first second slots_with runnables_with asked queue_one queue_two operations_with done_with shut_with free_with elements_with state sound_too is_edition parts_sound marks_invalid editioned holding top_of most_pending is_no_awaited awaits_well is_no_life is_no_owed is_no_stack held_well has_room lists_well has_field lists_elements listed_below copied_sound copies_sound copy_sound has_copy is_no_copy copy_in lists_at first_listed no_copies with_copy listing copied
editions-sound = refl

-- an instance has copied a Number, or nothing yet
pub copies-sound : sound_of (listing 2) (with_incoming (holding never_received_v) (copied 0 (number_v 5))) ∷ sound_of (listing 2) (holding never_received_v) ∷ [] ≡ true ∷ true ∷ []
unfolding all_of all_below any_below sum_below first_below each_below shifted place_filled filled is_void is_payload is_kind is_mask is_good same_value part_in add_part no_config no_requests no_runnable no_values no_element no_stack no_slot no_places place_in with_place pushed oldest without_oldest push_area top_area pop_area start_variable start_element started start_of max_of count_of places_of entry_of placed in_range names_there is_server is_queued rises rises_at pairs_well entry_fault is_no_entry place_sound kind_sound config_sound is_no_client client_fits requests_sound values_sound runnable_sound variable_sound is_stored element_sound is_outcome calling_sound done_sound operation_sound timer_sound waits_well life_sound owed_sound area_fits stack_sound is_no_slot slot_sound of_runnable slots_of count_sound times_in holders area_sound is_client queued_as served_as clients_as client_sound queued_sound served_sound called_sound waits_on waiters_of waiter_sound runnables_sound variables_sound elements_sound operations_sound timers_sound slots_sound counts_sound areas_sound clients_sound waiters_sound shaped sound_of config_with config caller nested one served life idle waiter first second slots_with runnables_with asked queue_one queue_two operations_with done_with shut_with free_with elements_with state sound_too is_edition parts_sound marks_invalid editioned holding top_of most_pending is_no_awaited awaits_well is_no_life is_no_owed is_no_stack held_well has_room lists_well has_field lists_elements listed_below copied_sound copies_sound copy_sound has_copy is_no_copy copy_in lists_at first_listed no_copies with_copy listing copied
copies-sound = refl
