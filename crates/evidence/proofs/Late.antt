-- The late plan's table: eight pairs of files, from their bytes to the line that is printed, in one claim over the definition that the program's contract cites;
-- and the history of two of them, in which the call is followed to its end. The same of a crane that fails inside two areas, in time and after the timeout, and of two steps that it may not take then (`failing-cranes`). And of sends to full queues, with every claim that they may and may not have (`full-queues`). And of two sends that trigger a runnable, in two orders of spawn and send, with and without counting (`counted-activations`).
-- Assumes nothing.
use Prim.Native.Nat.{ℕ}
use mathlib.Core.Bool.{false}
use mathlib.Core.List.{List, [], ◌∷◌, ◌++◌, map}
use mathlib.Core.Path.{◌≡◌, refl}
use lib.ListN.{take, set, replicate}
use Rattle.config.specs.Lists.{first_listed, listed_below, lists_at}
use Rattle.laws.specs.Choice.{all_of}
use Rattle.laws.specs.Loop.{all_below, any_below, sum_below, first_below}
use Rattle.laws.specs.Mask.{mask_below}
use Rattle.laws.specs.Row.{each_below, shifted, place_filled, filled}
use Rattle.values.specs.Values.{is_void, is_payload, is_kind, is_mask, is_good, same_value, number_v}
use Rattle.config.specs.Editions.{is_edition, marks_invalid, has_step, has_field, lists_elements}
use Rattle.config.specs.Tables.{no_config, top_of}
use Rattle.state.specs.Parts.{no_requests, no_runnable, no_values, no_element, no_stack, no_slot, no_copies}
use Rattle.state.specs.Tables.{copy_in}
use Rattle.state.specs.Queues.{push_area, top_area, pop_area, oldest, pushed, without_oldest}
use Rattle.state.specs.Start.{start_variable, start_element, start_of, started}
use Rattle.entries.specs.Entries.{max_of, count_of, places_of, entry_of, placed}
use Rattle.entries.specs.Faults.{in_range, names_there, is_server, is_queued, rises, rises_at, pairs_well, entry_fault, is_no_entry, place_sound, kind_sound, config_sound, parts_sound, has_room, lists_well}
use Rattle.rules.specs.Sound.{is_no_client, client_fits, requests_sound, values_sound, runnable_sound, variable_sound, is_stored, element_sound, is_outcome, calling_sound, done_sound, operation_sound, timer_sound, waits_well, life_sound, owed_sound, area_fits, stack_sound, is_no_slot, slot_sound, of_runnable, slots_of, count_sound, times_in, holders, area_sound, is_client, queued_as, served_as, clients_as, client_sound, queued_sound, served_sound, called_sound, waits_on, waiters_of, waiter_sound, runnables_sound, variables_sound, elements_sound, operations_sound, timers_sound, slots_sound, counts_sound, areas_sound, clients_sound, waiters_sound, shaped, sound_of, most_pending, is_no_awaited, awaits_well, is_no_life, is_no_owed, is_no_stack, held_well, copied_sound, copies_sound, copy_sound, has_copy, is_no_copy}
use Rattle.rules.specs.Rows.{rows, row_of}
use Rattle.rules.specs.Refusals.{argues, formed, part_there, queues_as, part_own, asks_synchronous, finished_lets, failed_lets, life_lets, owned_refusal, instance_refusal, scheduler_refusal, refusal_by, refusal_of, ends_waiting, waiting_lets, asks_waiting, listed_there, lists_of, named_there}
use Rattle.effects.specs.Steps.{one_more, read_variable_of, write_variable_of, enter_of, on_top, exit_of, read_of, updated_of, linked, accepts, fed_element, fed_elements, feeds, is_fed, fed_runnables, fed, write_of, invalidate_of, is_full, full_mask, sent_of, send_of, receive_of, requests_full, caller_after, called, call_of, poll_of, collect_of, result_of, closing, returns, is_returned, returned_runnables, closed, answers, hand_back_of, timeout_of, end_of, is_due, may_spawn, starting, instance_of, is_empty_at, lowest_empty, found_empty, spawned, spawn_of, tick_of, operation_lets, timer_lets, operations_let, timers_let, operation_after, operations_after, timers_after, runnables_after, all_let, waited, wait_of, fail_of, slot_lets, slots_let, slots_after, hold_of, give_up_of, cleared, copied_elements, copied_into, handed_elements, handed_runnables}
use Rattle.effects.specs.Step.{act_of, possible_of, agrees, claimed_of, inner_of, step_of}
use Rattle.recording.specs.Whole.{whole_from, whole_of, steps_in}
use Rattle.recording.specs.Recording.{values_good, tested, step_in, end_in, field_of}
use Rattle.reading.specs.Reading.{size_of, entry_read, in_order, head_of, body_fault, refused_at, read_from, config_of, size_in}
use Rattle.judging.specs.Judging.{judge_from, judge_of, rest_of}
use Rattle.judging.specs.Line.{judged_line, read_line, line_of}
use Rattle.judging.specs.declared.Line.{Line}
use Rattle.judging.specs.declared.Line.TheVariants.{Accepted, Refused, Configuration}
use Rattle.config.specs.Table.{add_part, part_in}
use Rattle.state.specs.Places.{no_places, place_in, with_place}
use Rattle.history.specs.History.{no_request, by_timeout, by_instance, by_failure, History, nothing, observe, history_from, history_of, time_of, time_in, time_since}

-- ---- the fields, byte by byte

-- edition 1
first_field : List ℕ
first_field = 0x01 ∷ 0x00 ∷ 0x01 ∷ 0x01 ∷ []

-- the end field of either file
last_field : List ℕ
last_field = 0x7f ∷ 0x00 ∷ 0x00 ∷ []

-- a plain runnable of component 0 with the init flag
client : List ℕ
client = 0x10 ∷ 0x00 ∷ 0x07 ∷ 0x00 ∷ 0x02 ∷ 0x00 ∷ 0x00 ∷ 0x00 ∷ 0x00 ∷ 0x00 ∷ []

-- a server of component 1 with room for two requests
server : List ℕ
server = 0x10 ∷ 0x00 ∷ 0x07 ∷ 0x01 ∷ 0x00 ∷ 0x00 ∷ 0x00 ∷ 0x00 ∷ 0x00 ∷ 0x02 ∷ []

-- an asynchronous operation of component 0 on runnable 1, with a timeout of 50
operation : List ℕ
operation = 0x16 ∷ 0x00 ∷ 0x07 ∷ 0x00 ∷ 0x01 ∷ 0x01 ∷ 0x00 ∷ 0x00 ∷ 0x00 ∷ 0x32 ∷ []

-- an area of component 0
area : List ℕ
area = 0x12 ∷ 0x00 ∷ 0x01 ∷ 0x00 ∷ []

-- a required element of component 0, capacity 2
queue : List ℕ
queue = 0x13 ∷ 0x00 ∷ 0x02 ∷ 0x00 ∷ 0x02 ∷ []

-- a provided element of component 0, queued
sender : List ℕ
sender = 0x14 ∷ 0x00 ∷ 0x02 ∷ 0x00 ∷ 0x01 ∷ []

-- a link from the one to the other
link : List ℕ
link = 0x15 ∷ 0x00 ∷ 0x02 ∷ 0x00 ∷ 0x00 ∷ []

-- a required element of component 0, capacity 1
scale : List ℕ
scale = 0x13 ∷ 0x00 ∷ 0x02 ∷ 0x00 ∷ 0x01 ∷ []

-- a link to element 1, one to element 3, and one of the second provided element to element 2
link_second : List ℕ
link_second = 0x15 ∷ 0x00 ∷ 0x02 ∷ 0x00 ∷ 0x01 ∷ []

link_fourth : List ℕ
link_fourth = 0x15 ∷ 0x00 ∷ 0x02 ∷ 0x00 ∷ 0x03 ∷ []

link_third : List ℕ
link_third = 0x15 ∷ 0x00 ∷ 0x02 ∷ 0x01 ∷ 0x02 ∷ []

-- spawn 0, in slot 0
spawn_client : List ℕ
spawn_client = 0x40 ∷ 0x00 ∷ 0x0d ∷ 0x0f ∷ 0x00 ∷ 0x00 ∷ 0x00 ∷ 0x00 ∷ 0x00 ∷ 0x00 ∷ 0x00 ∷ 0x01 ∷ 0x00 ∷ 0x00 ∷ 0x00 ∷ 0x00 ∷ []

-- spawn 1, in slot 1
spawn_server : List ℕ
spawn_server = 0x40 ∷ 0x00 ∷ 0x0d ∷ 0x0f ∷ 0x00 ∷ 0x01 ∷ 0x00 ∷ 0x00 ∷ 0x00 ∷ 0x00 ∷ 0x00 ∷ 0x01 ∷ 0x00 ∷ 0x00 ∷ 0x00 ∷ 0x01 ∷ []

-- the instance in slot 0 calls the operation, argument 7: Ok
call_seven : List ℕ
call_seven = 0x40 ∷ 0x00 ∷ 0x0d ∷ 0x0b ∷ 0x00 ∷ 0x00 ∷ 0x01 ∷ 0x00 ∷ 0x00 ∷ 0x00 ∷ 0x07 ∷ 0x02 ∷ 0x00 ∷ 0x00 ∷ 0x00 ∷ 0x00 ∷ []

-- slot 0 calls it again, Limit
call_again : List ℕ
call_again = 0x40 ∷ 0x00 ∷ 0x0d ∷ 0x0b ∷ 0x00 ∷ 0x00 ∷ 0x01 ∷ 0x00 ∷ 0x00 ∷ 0x00 ∷ 0x08 ∷ 0x03 ∷ 0x00 ∷ 0x00 ∷ 0x00 ∷ 0x00 ∷ []

-- slot 0 calls it again, Full: element 0
call_full : List ℕ
call_full = 0x40 ∷ 0x00 ∷ 0x0d ∷ 0x0b ∷ 0x00 ∷ 0x00 ∷ 0x01 ∷ 0x00 ∷ 0x00 ∷ 0x00 ∷ 0x08 ∷ 0x08 ∷ 0x00 ∷ 0x00 ∷ 0x00 ∷ 0x01 ∷ []

-- wait 50
wait_fifty : List ℕ
wait_fifty = 0x40 ∷ 0x00 ∷ 0x0d ∷ 0x12 ∷ 0x00 ∷ 0x00 ∷ 0x01 ∷ 0x00 ∷ 0x00 ∷ 0x00 ∷ 0x32 ∷ 0x00 ∷ 0x00 ∷ 0x00 ∷ 0x00 ∷ 0x00 ∷ []

-- wait 51
wait_longer : List ℕ
wait_longer = 0x40 ∷ 0x00 ∷ 0x0d ∷ 0x12 ∷ 0x00 ∷ 0x00 ∷ 0x01 ∷ 0x00 ∷ 0x00 ∷ 0x00 ∷ 0x33 ∷ 0x00 ∷ 0x00 ∷ 0x00 ∷ 0x00 ∷ 0x00 ∷ []

-- the timeout of operation 0
times_out : List ℕ
times_out = 0x40 ∷ 0x00 ∷ 0x0d ∷ 0x10 ∷ 0x00 ∷ 0x00 ∷ 0x00 ∷ 0x00 ∷ 0x00 ∷ 0x00 ∷ 0x00 ∷ 0x00 ∷ 0x00 ∷ 0x00 ∷ 0x00 ∷ 0x00 ∷ []

-- the server in slot 1 hands 9 back too late: Number 0
back_late : List ℕ
back_late = 0x40 ∷ 0x00 ∷ 0x0d ∷ 0x0d ∷ 0x01 ∷ 0x00 ∷ 0x01 ∷ 0x00 ∷ 0x00 ∷ 0x00 ∷ 0x09 ∷ 0x01 ∷ 0x00 ∷ 0x00 ∷ 0x00 ∷ 0x00 ∷ []

-- the server in slot 1 hands 9 back in time: Number 1
back_in_time : List ℕ
back_in_time = 0x40 ∷ 0x00 ∷ 0x0d ∷ 0x0d ∷ 0x01 ∷ 0x00 ∷ 0x01 ∷ 0x00 ∷ 0x00 ∷ 0x00 ∷ 0x09 ∷ 0x01 ∷ 0x00 ∷ 0x00 ∷ 0x00 ∷ 0x01 ∷ []

-- slot 0 asks for the result, Timeout
ask_timeout : List ℕ
ask_timeout = 0x40 ∷ 0x00 ∷ 0x0d ∷ 0x0c ∷ 0x00 ∷ 0x00 ∷ 0x00 ∷ 0x00 ∷ 0x00 ∷ 0x00 ∷ 0x00 ∷ 0x05 ∷ 0x00 ∷ 0x00 ∷ 0x00 ∷ 0x00 ∷ []

-- slot 0 asks for the result, Number 9
ask_nine : List ℕ
ask_nine = 0x40 ∷ 0x00 ∷ 0x0d ∷ 0x0c ∷ 0x00 ∷ 0x00 ∷ 0x00 ∷ 0x00 ∷ 0x00 ∷ 0x00 ∷ 0x00 ∷ 0x01 ∷ 0x00 ∷ 0x00 ∷ 0x00 ∷ 0x09 ∷ []

-- slot 0 asks for the result, Void
ask_void : List ℕ
ask_void = 0x40 ∷ 0x00 ∷ 0x0d ∷ 0x0c ∷ 0x00 ∷ 0x00 ∷ 0x00 ∷ 0x00 ∷ 0x00 ∷ 0x00 ∷ 0x00 ∷ 0x00 ∷ 0x00 ∷ 0x00 ∷ 0x00 ∷ 0x00 ∷ []

-- slot 0 enters area 0
enter_first : List ℕ
enter_first = 0x40 ∷ 0x00 ∷ 0x0d ∷ 0x03 ∷ 0x00 ∷ 0x00 ∷ 0x00 ∷ 0x00 ∷ 0x00 ∷ 0x00 ∷ 0x00 ∷ 0x00 ∷ 0x00 ∷ 0x00 ∷ 0x00 ∷ 0x00 ∷ []

-- slot 0 enters area 1
enter_second : List ℕ
enter_second = 0x40 ∷ 0x00 ∷ 0x0d ∷ 0x03 ∷ 0x00 ∷ 0x01 ∷ 0x00 ∷ 0x00 ∷ 0x00 ∷ 0x00 ∷ 0x00 ∷ 0x00 ∷ 0x00 ∷ 0x00 ∷ 0x00 ∷ 0x00 ∷ []

-- slot 0 exits area 0
exit_first : List ℕ
exit_first = 0x40 ∷ 0x00 ∷ 0x0d ∷ 0x04 ∷ 0x00 ∷ 0x00 ∷ 0x00 ∷ 0x00 ∷ 0x00 ∷ 0x00 ∷ 0x00 ∷ 0x00 ∷ 0x00 ∷ 0x00 ∷ 0x00 ∷ 0x00 ∷ []

-- slot 0 sends 1, Ok
send_one : List ℕ
send_one = 0x40 ∷ 0x00 ∷ 0x0d ∷ 0x0a ∷ 0x00 ∷ 0x00 ∷ 0x01 ∷ 0x00 ∷ 0x00 ∷ 0x00 ∷ 0x01 ∷ 0x02 ∷ 0x00 ∷ 0x00 ∷ 0x00 ∷ 0x00 ∷ []

-- slot 0 sends 2, Ok
send_two : List ℕ
send_two = 0x40 ∷ 0x00 ∷ 0x0d ∷ 0x0a ∷ 0x00 ∷ 0x00 ∷ 0x01 ∷ 0x00 ∷ 0x00 ∷ 0x00 ∷ 0x02 ∷ 0x02 ∷ 0x00 ∷ 0x00 ∷ 0x00 ∷ 0x00 ∷ []

-- slot 0 sends 3, Full: element 0
send_three : List ℕ
send_three = 0x40 ∷ 0x00 ∷ 0x0d ∷ 0x0a ∷ 0x00 ∷ 0x00 ∷ 0x01 ∷ 0x00 ∷ 0x00 ∷ 0x00 ∷ 0x03 ∷ 0x08 ∷ 0x00 ∷ 0x00 ∷ 0x00 ∷ 0x01 ∷ []

-- slot 0 sends 3, Limit, as older units have it
send_limit : List ℕ
send_limit = 0x40 ∷ 0x00 ∷ 0x0d ∷ 0x0a ∷ 0x00 ∷ 0x00 ∷ 0x01 ∷ 0x00 ∷ 0x00 ∷ 0x00 ∷ 0x03 ∷ 0x03 ∷ 0x00 ∷ 0x00 ∷ 0x00 ∷ 0x00 ∷ []

-- slot 0 sends 3, Full: element 1
send_other : List ℕ
send_other = 0x40 ∷ 0x00 ∷ 0x0d ∷ 0x0a ∷ 0x00 ∷ 0x00 ∷ 0x01 ∷ 0x00 ∷ 0x00 ∷ 0x00 ∷ 0x03 ∷ 0x08 ∷ 0x00 ∷ 0x00 ∷ 0x00 ∷ 0x02 ∷ []

-- slot 0 sends 3, Full without an element
send_nothing : List ℕ
send_nothing = 0x40 ∷ 0x00 ∷ 0x0d ∷ 0x0a ∷ 0x00 ∷ 0x00 ∷ 0x01 ∷ 0x00 ∷ 0x00 ∷ 0x00 ∷ 0x03 ∷ 0x08 ∷ 0x00 ∷ 0x00 ∷ 0x00 ∷ 0x00 ∷ []

-- slot 0 sends 3, Full: element 16
send_beyond : List ℕ
send_beyond = 0x40 ∷ 0x00 ∷ 0x0d ∷ 0x0a ∷ 0x00 ∷ 0x00 ∷ 0x01 ∷ 0x00 ∷ 0x00 ∷ 0x00 ∷ 0x03 ∷ 0x08 ∷ 0x00 ∷ 0x01 ∷ 0x00 ∷ 0x00 ∷ []

-- slot 0 sends 1, Limit
send_early : List ℕ
send_early = 0x40 ∷ 0x00 ∷ 0x0d ∷ 0x0a ∷ 0x00 ∷ 0x00 ∷ 0x01 ∷ 0x00 ∷ 0x00 ∷ 0x00 ∷ 0x01 ∷ 0x03 ∷ 0x00 ∷ 0x00 ∷ 0x00 ∷ 0x00 ∷ []

-- slot 0 sends 2 to the third scale, Ok
send_aside : List ℕ
send_aside = 0x40 ∷ 0x00 ∷ 0x0d ∷ 0x0a ∷ 0x00 ∷ 0x01 ∷ 0x01 ∷ 0x00 ∷ 0x00 ∷ 0x00 ∷ 0x02 ∷ 0x02 ∷ 0x00 ∷ 0x00 ∷ 0x00 ∷ 0x00 ∷ []

-- slot 0 sends 1 to the three others, Ok
send_all : List ℕ
send_all = 0x40 ∷ 0x00 ∷ 0x0d ∷ 0x0a ∷ 0x00 ∷ 0x00 ∷ 0x01 ∷ 0x00 ∷ 0x00 ∷ 0x00 ∷ 0x01 ∷ 0x02 ∷ 0x00 ∷ 0x00 ∷ 0x00 ∷ 0x00 ∷ []

-- slot 0 receives 1 from the second
take_second : List ℕ
take_second = 0x40 ∷ 0x00 ∷ 0x0d ∷ 0x09 ∷ 0x00 ∷ 0x01 ∷ 0x00 ∷ 0x00 ∷ 0x00 ∷ 0x00 ∷ 0x00 ∷ 0x01 ∷ 0x00 ∷ 0x00 ∷ 0x00 ∷ 0x01 ∷ []

-- slot 0 sends 3 to them, Full: elements 0 and 3
send_again : List ℕ
send_again = 0x40 ∷ 0x00 ∷ 0x0d ∷ 0x0a ∷ 0x00 ∷ 0x00 ∷ 0x01 ∷ 0x00 ∷ 0x00 ∷ 0x00 ∷ 0x03 ∷ 0x08 ∷ 0x00 ∷ 0x00 ∷ 0x00 ∷ 0x09 ∷ []

-- slot 0 receives 3 from the second
take_again : List ℕ
take_again = 0x40 ∷ 0x00 ∷ 0x0d ∷ 0x09 ∷ 0x00 ∷ 0x01 ∷ 0x00 ∷ 0x00 ∷ 0x00 ∷ 0x00 ∷ 0x00 ∷ 0x01 ∷ 0x00 ∷ 0x00 ∷ 0x00 ∷ 0x03 ∷ []

-- slot 0 receives 1
receive_one : List ℕ
receive_one = 0x40 ∷ 0x00 ∷ 0x0d ∷ 0x09 ∷ 0x00 ∷ 0x00 ∷ 0x00 ∷ 0x00 ∷ 0x00 ∷ 0x00 ∷ 0x00 ∷ 0x01 ∷ 0x00 ∷ 0x00 ∷ 0x00 ∷ 0x01 ∷ []

-- slot 0 receives 2
receive_two : List ℕ
receive_two = 0x40 ∷ 0x00 ∷ 0x0d ∷ 0x09 ∷ 0x00 ∷ 0x00 ∷ 0x00 ∷ 0x00 ∷ 0x00 ∷ 0x00 ∷ 0x00 ∷ 0x01 ∷ 0x00 ∷ 0x00 ∷ 0x00 ∷ 0x02 ∷ []

-- slot 0 receives NoData
receive_none : List ℕ
receive_none = 0x40 ∷ 0x00 ∷ 0x0d ∷ 0x09 ∷ 0x00 ∷ 0x00 ∷ 0x00 ∷ 0x00 ∷ 0x00 ∷ 0x00 ∷ 0x00 ∷ 0x04 ∷ 0x00 ∷ 0x00 ∷ 0x00 ∷ 0x00 ∷ []

-- an area of component 1
crane_area : List ℕ
crane_area = 0x12 ∷ 0x00 ∷ 0x01 ∷ 0x01 ∷ []

-- slot 1 enters area 0
crane_enters_first : List ℕ
crane_enters_first = 0x40 ∷ 0x00 ∷ 0x0d ∷ 0x03 ∷ 0x01 ∷ 0x00 ∷ 0x00 ∷ 0x00 ∷ 0x00 ∷ 0x00 ∷ 0x00 ∷ 0x00 ∷ 0x00 ∷ 0x00 ∷ 0x00 ∷ 0x00 ∷ []

-- slot 1 enters area 1
crane_enters_second : List ℕ
crane_enters_second = 0x40 ∷ 0x00 ∷ 0x0d ∷ 0x03 ∷ 0x01 ∷ 0x01 ∷ 0x00 ∷ 0x00 ∷ 0x00 ∷ 0x00 ∷ 0x00 ∷ 0x00 ∷ 0x00 ∷ 0x00 ∷ 0x00 ∷ 0x00 ∷ []

-- the instance in slot 1 fails
crane_fails : List ℕ
crane_fails = 0x40 ∷ 0x00 ∷ 0x0d ∷ 0x13 ∷ 0x01 ∷ 0x00 ∷ 0x00 ∷ 0x00 ∷ 0x00 ∷ 0x00 ∷ 0x00 ∷ 0x00 ∷ 0x00 ∷ 0x00 ∷ 0x00 ∷ 0x00 ∷ []

-- slot 1 hands back Void in time: Number 1
crane_back : List ℕ
crane_back = 0x40 ∷ 0x00 ∷ 0x0d ∷ 0x0d ∷ 0x01 ∷ 0x00 ∷ 0x00 ∷ 0x00 ∷ 0x00 ∷ 0x00 ∷ 0x00 ∷ 0x01 ∷ 0x00 ∷ 0x00 ∷ 0x00 ∷ 0x01 ∷ []

-- slot 1 hands back Void too late: Number 0
crane_back_late : List ℕ
crane_back_late = 0x40 ∷ 0x00 ∷ 0x0d ∷ 0x0d ∷ 0x01 ∷ 0x00 ∷ 0x00 ∷ 0x00 ∷ 0x00 ∷ 0x00 ∷ 0x00 ∷ 0x01 ∷ 0x00 ∷ 0x00 ∷ 0x00 ∷ 0x00 ∷ []

-- slot 1 exits area 1
crane_exits_second : List ℕ
crane_exits_second = 0x40 ∷ 0x00 ∷ 0x0d ∷ 0x04 ∷ 0x01 ∷ 0x01 ∷ 0x00 ∷ 0x00 ∷ 0x00 ∷ 0x00 ∷ 0x00 ∷ 0x00 ∷ 0x00 ∷ 0x00 ∷ 0x00 ∷ 0x00 ∷ []

-- slot 1 exits area 0
crane_exits_first : List ℕ
crane_exits_first = 0x40 ∷ 0x00 ∷ 0x0d ∷ 0x04 ∷ 0x01 ∷ 0x00 ∷ 0x00 ∷ 0x00 ∷ 0x00 ∷ 0x00 ∷ 0x00 ∷ 0x00 ∷ 0x00 ∷ 0x00 ∷ 0x00 ∷ 0x00 ∷ []

-- slot 1 ends
crane_ends : List ℕ
crane_ends = 0x40 ∷ 0x00 ∷ 0x0d ∷ 0x0e ∷ 0x01 ∷ 0x00 ∷ 0x00 ∷ 0x00 ∷ 0x00 ∷ 0x00 ∷ 0x00 ∷ 0x00 ∷ 0x00 ∷ 0x00 ∷ 0x00 ∷ 0x00 ∷ []

-- slot 0 asks for the result, ServerErr
ask_server_err : List ℕ
ask_server_err = 0x40 ∷ 0x00 ∷ 0x0d ∷ 0x0c ∷ 0x00 ∷ 0x00 ∷ 0x00 ∷ 0x00 ∷ 0x00 ∷ 0x00 ∷ 0x00 ∷ 0x09 ∷ 0x00 ∷ 0x00 ∷ 0x00 ∷ 0x00 ∷ []

-- ---- the files

joined : List (List ℕ) → List ℕ
joined [] = []
joined (x ∷ xs) = x ++ joined xs

file : List (List ℕ) → List ℕ
file xs = joined xs ++ last_field

-- 37 bytes
late_config : List ℕ
late_config = file (first_field ∷ client ∷ server ∷ operation ∷ [])

areas_config : List ℕ
areas_config = file (first_field ∷ client ∷ area ∷ area ∷ [])

queue_config : List ℕ
queue_config = file (first_field ∷ client ∷ queue ∷ sender ∷ link ∷ [])

-- a server with two areas
crane_config : List ℕ
crane_config = file (first_field ∷ client ∷ server ∷ crane_area ∷ crane_area ∷ operation ∷ [])

-- ---- the table

-- two files, and the line that they give
pub record Row : Type 0 where
  pub config : List ℕ
  pub recording : List ℕ
  pub line : Line

-- (a) the late plan
pub late : Row
late = record { config = late_config; recording = file (spawn_client ∷ call_seven ∷ spawn_server ∷ wait_fifty ∷ times_out ∷ back_late ∷ ask_timeout ∷ []); line = Accepted 7 }

-- (b) the same recording with a lie in it: the client says that it got the plan
false_claim : Row
false_claim = record { config = late_config; recording = file (spawn_client ∷ call_seven ∷ spawn_server ∷ wait_fifty ∷ times_out ∷ back_late ∷ ask_nine ∷ []); line = Refused 7 17 }

-- (c) a wait of 51 there
wait_too_long : Row
wait_too_long = record { config = late_config; recording = file (spawn_client ∷ call_seven ∷ spawn_server ∷ wait_longer ∷ []); line = Refused 4 13 }

-- (d) the plan in time, before its timeout: the hand back answers 1, and the client gets 9
pub in_time : Row
in_time = record { config = late_config; recording = file (spawn_client ∷ call_seven ∷ spawn_server ∷ back_in_time ∷ ask_nine ∷ []); line = Accepted 5 }

-- (e) where nothing was called yet, a result is Void
no_call : Row
no_call = record { config = late_config; recording = file (spawn_client ∷ ask_void ∷ []); line = Accepted 2 }

-- (f) a second call while one is open is Limit
call_twice : Row
call_twice = record { config = late_config; recording = file (spawn_client ∷ call_seven ∷ call_again ∷ []); line = Accepted 3 }

-- (g) an exit from an area under the top one is 7
exit_below : Row
exit_below = record { config = areas_config; recording = file (spawn_client ∷ enter_first ∷ enter_second ∷ exit_first ∷ []); line = Refused 4 7 }

-- (h) capacity 2: the third send is Full with that queue's bit, and the queue is kept
send_third : Row
send_third = record { config = queue_config; recording = file (spawn_client ∷ send_one ∷ send_two ∷ send_three ∷ receive_one ∷ receive_two ∷ receive_none ∷ []); line = Accepted 7 }

pub table : List Row
table = late ∷ false_claim ∷ wait_too_long ∷ in_time ∷ no_call ∷ call_twice ∷ exit_below ∷ send_third ∷ []

pub late-plans : map (λ (x : Row). line_of x.config x.recording) table ≡ map (λ (x : Row). x.line) table
unfolding all_of all_below any_below sum_below mask_below first_below each_below shifted place_filled filled is_void is_payload is_kind is_mask is_good same_value part_in add_part no_config no_requests no_runnable no_values no_element no_stack no_slot no_places place_in with_place pushed oldest without_oldest push_area top_area pop_area start_variable start_element started start_of max_of count_of places_of entry_of placed in_range names_there is_server is_queued rises rises_at pairs_well entry_fault is_no_entry place_sound kind_sound config_sound is_no_client client_fits requests_sound values_sound runnable_sound variable_sound is_stored element_sound is_outcome calling_sound done_sound operation_sound timer_sound waits_well life_sound owed_sound area_fits stack_sound is_no_slot slot_sound of_runnable slots_of count_sound times_in holders area_sound is_client queued_as served_as clients_as client_sound queued_sound served_sound called_sound waits_on waiters_of waiter_sound runnables_sound variables_sound elements_sound operations_sound timers_sound slots_sound counts_sound areas_sound clients_sound waiters_sound shaped sound_of rows row_of argues formed part_there queues_as part_own asks_synchronous finished_lets failed_lets life_lets owned_refusal instance_refusal scheduler_refusal refusal_by refusal_of read_variable_of write_variable_of enter_of on_top exit_of read_of updated_of linked accepts fed_element fed_elements feeds is_fed fed_runnables fed write_of invalidate_of is_full full_mask sent_of send_of receive_of requests_full caller_after called call_of poll_of collect_of result_of closing returns is_returned returned_runnables closed answers hand_back_of timeout_of end_of is_due may_spawn starting instance_of is_empty_at lowest_empty found_empty spawned spawn_of tick_of operation_lets timer_lets operations_let timers_let operation_after operations_after timers_after runnables_after all_let waited wait_of fail_of act_of possible_of agrees claimed_of inner_of step_of values_good tested step_in end_in field_of size_of entry_read in_order head_of body_fault refused_at read_from config_of judge_from judge_of rest_of judged_line read_line line_of first_field last_field client server operation area queue sender link spawn_client spawn_server call_seven call_again wait_fifty wait_longer times_out back_late back_in_time ask_timeout ask_nine ask_void enter_first enter_second exit_first send_one send_two send_three receive_one receive_two receive_none joined file late_config areas_config queue_config late false_claim wait_too_long in_time no_call call_twice exit_below send_third table is_edition parts_sound has_step marks_invalid top_of most_pending one_more is_no_awaited awaits_well is_no_life is_no_owed is_no_stack ends_waiting waiting_lets held_well asks_waiting slot_lets slots_let slots_after hold_of give_up_of whole_from whole_of nothing observe history_from history_of time_of time_in named_there listed_there lists_of has_room lists_well has_field lists_elements listed_below size_in copied_sound copies_sound copy_sound has_copy is_no_copy copy_in lists_at first_listed handed_elements handed_runnables cleared copied_elements copied_into no_copies
late-plans = refl

-- ---- the calls of two rows, followed

-- the history of a row's recording, under its configuration
pub followed : Row → History
followed x = history_of (config_of x.config).config (steps_in x.recording)

-- (a) the call at place 2 was ended by the timeout at place 5; the instance in slot 1 had been spawned for it. (d) the same call was ended at place 4, by that instance, with 9
pub histories : map followed (late ∷ in_time ∷ []) ≡
    record {
      place = 7;
      queued = replicate 16 [];
      taken = set (replicate 32 no_request) 1 (record { at = 2; on = 0; argument = number_v 7 });
      failed = replicate 32 false;
      latest = set (replicate 8 0) 0 2;
      endings = record { on = 0; call = 2; at = 5; how = by_timeout } ∷ [];
    }
    ∷ record {
      place = 5;
      queued = replicate 16 [];
      taken = set (replicate 32 no_request) 1 (record { at = 2; on = 0; argument = number_v 7 });
      failed = replicate 32 false;
      latest = set (replicate 8 0) 0 2;
      endings = record { on = 0; call = 2; at = 4; how = by_instance 2 (number_v 9) } ∷ [];
    }
    ∷ []
unfolding all_of all_below any_below sum_below mask_below first_below each_below shifted place_filled filled is_void is_payload is_kind is_mask is_good same_value part_in add_part no_config no_requests no_runnable no_values no_element no_stack no_slot no_places place_in with_place pushed oldest without_oldest push_area top_area pop_area start_variable start_element started start_of max_of count_of places_of entry_of placed in_range names_there is_server is_queued rises rises_at pairs_well entry_fault is_no_entry place_sound kind_sound config_sound is_no_client client_fits requests_sound values_sound runnable_sound variable_sound is_stored element_sound is_outcome calling_sound done_sound operation_sound timer_sound waits_well life_sound owed_sound area_fits stack_sound is_no_slot slot_sound of_runnable slots_of count_sound times_in holders area_sound is_client queued_as served_as clients_as client_sound queued_sound served_sound called_sound waits_on waiters_of waiter_sound runnables_sound variables_sound elements_sound operations_sound timers_sound slots_sound counts_sound areas_sound clients_sound waiters_sound shaped sound_of rows row_of argues formed part_there queues_as part_own asks_synchronous finished_lets failed_lets life_lets owned_refusal instance_refusal scheduler_refusal refusal_by refusal_of read_variable_of write_variable_of enter_of on_top exit_of read_of updated_of linked accepts fed_element fed_elements feeds is_fed fed_runnables fed write_of invalidate_of is_full full_mask sent_of send_of receive_of requests_full caller_after called call_of poll_of collect_of result_of closing returns is_returned returned_runnables closed answers hand_back_of timeout_of end_of is_due may_spawn starting instance_of is_empty_at lowest_empty found_empty spawned spawn_of tick_of operation_lets timer_lets operations_let timers_let operation_after operations_after timers_after runnables_after all_let waited wait_of fail_of act_of possible_of agrees claimed_of inner_of step_of values_good tested step_in end_in field_of size_of entry_read in_order head_of body_fault refused_at read_from config_of judge_from judge_of rest_of judged_line read_line line_of first_field last_field client server operation area queue sender link spawn_client spawn_server call_seven call_again wait_fifty wait_longer times_out back_late back_in_time ask_timeout ask_nine ask_void enter_first enter_second exit_first send_one send_two send_three receive_one receive_two receive_none joined file late_config areas_config queue_config late false_claim wait_too_long in_time no_call call_twice exit_below send_third table whole_from whole_of nothing observe history_from history_of followed is_edition parts_sound has_step marks_invalid top_of most_pending one_more is_no_awaited awaits_well is_no_life is_no_owed is_no_stack ends_waiting waiting_lets held_well asks_waiting slot_lets slots_let slots_after hold_of give_up_of time_of time_in named_there listed_there lists_of has_room lists_well has_field lists_elements listed_below size_in copied_sound copies_sound copy_sound has_copy is_no_copy copy_in lists_at first_listed handed_elements handed_runnables cleared copied_elements copied_into no_copies
histories = refl

-- (a) the waits from the call at place 2 to the timeout add up to 50
pub fifty-waited : time_since 2 (take 4 (steps_in late.recording)) ≡ 50
unfolding all_of all_below any_below sum_below mask_below first_below each_below shifted place_filled filled is_void is_payload is_kind is_mask is_good same_value part_in add_part no_config no_requests no_runnable no_values no_element no_stack no_slot no_places place_in with_place pushed oldest without_oldest push_area top_area pop_area start_variable start_element started start_of max_of count_of places_of entry_of placed in_range names_there is_server is_queued rises rises_at pairs_well entry_fault is_no_entry place_sound kind_sound config_sound is_no_client client_fits requests_sound values_sound runnable_sound variable_sound is_stored element_sound is_outcome calling_sound done_sound operation_sound timer_sound waits_well life_sound owed_sound area_fits stack_sound is_no_slot slot_sound of_runnable slots_of count_sound times_in holders area_sound is_client queued_as served_as clients_as client_sound queued_sound served_sound called_sound waits_on waiters_of waiter_sound runnables_sound variables_sound elements_sound operations_sound timers_sound slots_sound counts_sound areas_sound clients_sound waiters_sound shaped sound_of rows row_of argues formed part_there queues_as part_own asks_synchronous finished_lets failed_lets life_lets owned_refusal instance_refusal scheduler_refusal refusal_by refusal_of read_variable_of write_variable_of enter_of on_top exit_of read_of updated_of linked accepts fed_element fed_elements feeds is_fed fed_runnables fed write_of invalidate_of is_full full_mask sent_of send_of receive_of requests_full caller_after called call_of poll_of collect_of result_of closing returns is_returned returned_runnables closed answers hand_back_of timeout_of end_of is_due may_spawn starting instance_of is_empty_at lowest_empty found_empty spawned spawn_of tick_of operation_lets timer_lets operations_let timers_let operation_after operations_after timers_after runnables_after all_let waited wait_of fail_of act_of possible_of agrees claimed_of inner_of step_of values_good tested step_in end_in field_of size_of entry_read in_order head_of body_fault refused_at read_from config_of judge_from judge_of rest_of judged_line read_line line_of first_field last_field client server operation area queue sender link spawn_client spawn_server call_seven call_again wait_fifty wait_longer times_out back_late back_in_time ask_timeout ask_nine ask_void enter_first enter_second exit_first send_one send_two send_three receive_one receive_two receive_none joined file late_config areas_config queue_config late false_claim wait_too_long in_time no_call call_twice exit_below send_third table whole_from whole_of time_of time_in is_edition parts_sound has_step marks_invalid top_of most_pending one_more is_no_awaited awaits_well is_no_life is_no_owed is_no_stack ends_waiting waiting_lets held_well asks_waiting slot_lets slots_let slots_after hold_of give_up_of nothing observe history_from history_of named_there listed_there lists_of has_room lists_well has_field lists_elements listed_below size_in copied_sound copies_sound copy_sound has_copy is_no_copy copy_in lists_at first_listed handed_elements handed_runnables cleared copied_elements copied_into no_copies
fifty-waited = refl

-- ---- full queues (W-201)

-- four scales with room for one: the first provided element is linked to all but the third, the second to that
scales_config : List ℕ
scales_config = file (first_field ∷ client ∷ scale ∷ scale ∷ scale ∷ scale ∷ sender ∷ sender ∷ link ∷ link_second ∷ link_fourth ∷ link_third ∷ [])

-- (h) as an older unit has it: a claim of Limit agrees with Full
send_older : Row
send_older = record { config = queue_config; recording = file (spawn_client ∷ send_one ∷ send_two ∷ send_limit ∷ receive_one ∷ receive_two ∷ receive_none ∷ []); line = Accepted 7 }

-- Full of another element does not
send_wrong : Row
send_wrong = record { config = queue_config; recording = file (spawn_client ∷ send_one ∷ send_two ∷ send_other ∷ []); line = Refused 4 17 }

-- a Full that names no element, or one that cannot be, is 18
send_bare : Row
send_bare = record { config = queue_config; recording = file (spawn_client ∷ send_one ∷ send_two ∷ send_nothing ∷ []); line = Refused 4 18 }

send_high : Row
send_high = record { config = queue_config; recording = file (spawn_client ∷ send_one ∷ send_two ∷ send_beyond ∷ []); line = Refused 4 18 }

-- a claim of Limit agrees with nothing but Full
send_soon : Row
send_soon = record { config = queue_config; recording = file (spawn_client ∷ send_early ∷ []); line = Refused 2 17 }

-- and a call that is Limit is not Full
call_wrong : Row
call_wrong = record { config = late_config; recording = file (spawn_client ∷ call_seven ∷ call_full ∷ []); line = Refused 3 17 }

-- four scales: those that were full are named by their own numbers, the third, which is full and not linked, is not, and the second gets the value
send_four : Row
send_four = record { config = scales_config; recording = file (spawn_client ∷ send_aside ∷ send_all ∷ take_second ∷ send_again ∷ take_again ∷ []); line = Accepted 6 }

pub full_table : List Row
full_table = send_third ∷ send_older ∷ send_wrong ∷ send_bare ∷ send_high ∷ send_soon ∷ call_wrong ∷ send_four ∷ []

pub full-queues : map (λ (x : Row). line_of x.config x.recording) full_table ≡ map (λ (x : Row). x.line) full_table
unfolding all_of all_below any_below sum_below mask_below first_below each_below shifted place_filled filled is_void is_payload is_kind is_mask is_good same_value part_in add_part no_config no_requests no_runnable no_values no_element no_stack no_slot no_places place_in with_place pushed oldest without_oldest push_area top_area pop_area start_variable start_element started start_of max_of count_of places_of entry_of placed in_range names_there is_server is_queued rises rises_at pairs_well entry_fault is_no_entry place_sound kind_sound config_sound is_no_client client_fits requests_sound values_sound runnable_sound variable_sound is_stored element_sound is_outcome calling_sound done_sound operation_sound timer_sound waits_well life_sound owed_sound area_fits stack_sound is_no_slot slot_sound of_runnable slots_of count_sound times_in holders area_sound is_client queued_as served_as clients_as client_sound queued_sound served_sound called_sound waits_on waiters_of waiter_sound runnables_sound variables_sound elements_sound operations_sound timers_sound slots_sound counts_sound areas_sound clients_sound waiters_sound shaped sound_of rows row_of argues formed part_there queues_as part_own asks_synchronous finished_lets failed_lets life_lets owned_refusal instance_refusal scheduler_refusal refusal_by refusal_of read_variable_of write_variable_of enter_of on_top exit_of read_of updated_of linked accepts fed_element fed_elements feeds is_fed fed_runnables fed write_of invalidate_of is_full full_mask sent_of send_of receive_of requests_full caller_after called call_of poll_of collect_of result_of closing returns is_returned returned_runnables closed answers hand_back_of timeout_of end_of is_due may_spawn starting instance_of is_empty_at lowest_empty found_empty spawned spawn_of tick_of operation_lets timer_lets operations_let timers_let operation_after operations_after timers_after runnables_after all_let waited wait_of fail_of act_of possible_of agrees claimed_of inner_of step_of values_good tested step_in end_in field_of size_of entry_read in_order head_of body_fault refused_at read_from config_of judge_from judge_of rest_of judged_line read_line line_of first_field last_field client server operation queue sender link scale link_second link_fourth link_third spawn_client call_seven call_full send_one send_two send_three send_limit send_other send_nothing send_beyond send_early send_aside send_all take_second send_again take_again receive_one receive_two receive_none joined file late_config queue_config scales_config send_third send_older send_wrong send_bare send_high send_soon call_wrong send_four full_table is_edition parts_sound has_step marks_invalid top_of most_pending one_more is_no_awaited awaits_well is_no_life is_no_owed is_no_stack ends_waiting waiting_lets held_well asks_waiting slot_lets slots_let slots_after hold_of give_up_of whole_from whole_of nothing observe history_from history_of time_of time_in named_there listed_there lists_of has_room lists_well has_field lists_elements listed_below size_in copied_sound copies_sound copy_sound has_copy is_no_copy copy_in lists_at first_listed handed_elements handed_runnables cleared copied_elements copied_into no_copies
full-queues = refl

-- ---- the two editions

-- an unqueued required element of component 0, an unqueued provided one, and a link between them
board : List ℕ
board = 0x13 ∷ 0x00 ∷ 0x02 ∷ 0x00 ∷ 0x00 ∷ []

painter : List ℕ
painter = 0x14 ∷ 0x00 ∷ 0x02 ∷ 0x00 ∷ 0x00 ∷ []

-- the configuration of the client with these, of an edition
edition_config : ℕ → List ℕ
edition_config e = (0x01 ∷ 0x00 ∷ 0x01 ∷ e ∷ []) ++ (client ++ (board ++ (painter ++ (link ++ last_field))))

-- slot 0 invalidates the provided element 0; reads the required element 0, and claims Invalid; names the provided element 1, which is not there; hands over a Number
marks : List ℕ
marks = 0x40 ∷ 0x00 ∷ 0x0d ∷ 0x08 ∷ 0x00 ∷ 0x00 ∷ 0x00 ∷ 0x00 ∷ 0x00 ∷ 0x00 ∷ 0x00 ∷ 0x00 ∷ 0x00 ∷ 0x00 ∷ 0x00 ∷ 0x00 ∷ []

reads_invalid : List ℕ
reads_invalid = 0x40 ∷ 0x00 ∷ 0x0d ∷ 0x05 ∷ 0x00 ∷ 0x00 ∷ 0x00 ∷ 0x00 ∷ 0x00 ∷ 0x00 ∷ 0x00 ∷ 0x07 ∷ 0x00 ∷ 0x00 ∷ 0x00 ∷ 0x00 ∷ []

marks_nothing : List ℕ
marks_nothing = 0x40 ∷ 0x00 ∷ 0x0d ∷ 0x08 ∷ 0x00 ∷ 0x01 ∷ 0x00 ∷ 0x00 ∷ 0x00 ∷ 0x00 ∷ 0x00 ∷ 0x00 ∷ 0x00 ∷ 0x00 ∷ 0x00 ∷ 0x00 ∷ []

marks_with : List ℕ
marks_with = 0x40 ∷ 0x00 ∷ 0x0d ∷ 0x08 ∷ 0x00 ∷ 0x00 ∷ 0x01 ∷ 0x00 ∷ 0x00 ∷ 0x00 ∷ 0x00 ∷ 0x00 ∷ 0x00 ∷ 0x00 ∷ 0x00 ∷ 0x00 ∷ []

-- under edition 1 an element is marked, and reads Invalid; under edition 2 there is no such step, 30, behind 2 and before 3; a claim of Invalid is still read, and another answer; and there is no edition 3
pub edition_table : List Row
edition_table =
    record { config = edition_config 1; recording = file (spawn_client ∷ marks ∷ reads_invalid ∷ []); line = Accepted 3 }
    ∷ record { config = edition_config 2; recording = file (spawn_client ∷ marks ∷ reads_invalid ∷ []); line = Refused 2 30 }
    ∷ record { config = edition_config 2; recording = file (spawn_client ∷ marks_with ∷ []); line = Refused 2 2 }
    ∷ record { config = edition_config 2; recording = file (spawn_client ∷ marks_nothing ∷ []); line = Refused 2 30 }
    ∷ record { config = edition_config 1; recording = file (spawn_client ∷ marks_nothing ∷ []); line = Refused 2 3 }
    ∷ record { config = edition_config 2; recording = file (spawn_client ∷ reads_invalid ∷ []); line = Refused 2 17 }
    ∷ record { config = edition_config 0; recording = file (spawn_client ∷ []); line = Configuration 1 24 }
    ∷ record { config = edition_config 3; recording = file (spawn_client ∷ []); line = Configuration 1 24 }
    ∷ []

pub both-editions : map (λ (x : Row). line_of x.config x.recording) edition_table ≡ map (λ (x : Row). x.line) edition_table
unfolding all_of all_below any_below sum_below mask_below first_below each_below shifted place_filled filled is_void is_payload is_kind is_mask is_good same_value part_in add_part no_config no_requests no_runnable no_values no_element no_stack no_slot no_places place_in with_place pushed oldest without_oldest push_area top_area pop_area start_variable start_element started start_of max_of count_of places_of entry_of placed in_range names_there is_server is_queued rises rises_at pairs_well entry_fault is_no_entry place_sound kind_sound config_sound is_no_client client_fits requests_sound values_sound runnable_sound variable_sound is_stored element_sound is_outcome calling_sound done_sound operation_sound timer_sound waits_well life_sound owed_sound area_fits stack_sound is_no_slot slot_sound of_runnable slots_of count_sound times_in holders area_sound is_client queued_as served_as clients_as client_sound queued_sound served_sound called_sound waits_on waiters_of waiter_sound runnables_sound variables_sound elements_sound operations_sound timers_sound slots_sound counts_sound areas_sound clients_sound waiters_sound shaped sound_of rows row_of argues formed part_there queues_as part_own asks_synchronous finished_lets failed_lets life_lets owned_refusal instance_refusal scheduler_refusal refusal_by refusal_of read_variable_of write_variable_of enter_of on_top exit_of read_of updated_of linked accepts fed_element fed_elements feeds is_fed fed_runnables fed write_of invalidate_of is_full full_mask sent_of send_of receive_of requests_full caller_after called call_of poll_of collect_of result_of closing returns is_returned returned_runnables closed answers hand_back_of timeout_of end_of is_due may_spawn starting instance_of is_empty_at lowest_empty found_empty spawned spawn_of tick_of operation_lets timer_lets operations_let timers_let operation_after operations_after timers_after runnables_after all_let waited wait_of fail_of act_of possible_of agrees claimed_of inner_of step_of values_good tested step_in end_in field_of size_of entry_read in_order head_of body_fault refused_at read_from config_of judge_from judge_of rest_of judged_line read_line line_of first_field last_field client server operation queue sender link scale link_second link_fourth link_third spawn_client call_seven call_full send_one send_two send_three send_limit send_other send_nothing send_beyond send_early send_aside send_all take_second send_again take_again receive_one receive_two receive_none joined file late_config queue_config scales_config send_third send_older send_wrong send_bare send_high send_soon call_wrong send_four full_table is_edition parts_sound has_step marks_invalid board painter edition_config marks reads_invalid marks_nothing marks_with edition_table top_of most_pending one_more is_no_awaited awaits_well is_no_life is_no_owed is_no_stack ends_waiting waiting_lets held_well asks_waiting slot_lets slots_let slots_after hold_of give_up_of whole_from whole_of nothing observe history_from history_of time_of time_in named_there listed_there lists_of has_room lists_well has_field lists_elements listed_below size_in copied_sound copies_sound copy_sound has_copy is_no_copy copy_in lists_at first_listed handed_elements handed_runnables cleared copied_elements copied_into no_copies
both-editions = refl

-- ---- pending activations (W-212): the two traces of the source's section V, without the counting flag and with it

-- a concurrent runnable of component 0, which triggers on the queue
receiver : List ℕ
receiver = 0x10 ∷ 0x00 ∷ 0x07 ∷ 0x00 ∷ 0x01 ∷ 0x00 ∷ 0x00 ∷ 0x00 ∷ 0x00 ∷ 0x00 ∷ []

-- the same, counting
counter : List ℕ
counter = 0x10 ∷ 0x00 ∷ 0x07 ∷ 0x00 ∷ 0x05 ∷ 0x00 ∷ 0x00 ∷ 0x00 ∷ 0x00 ∷ 0x00 ∷ []

-- runnable 1 on element 0
event : List ℕ
event = 0x18 ∷ 0x00 ∷ 0x02 ∷ 0x01 ∷ 0x00 ∷ []

-- spawn 1, in slot 2
spawn_next : List ℕ
spawn_next = 0x40 ∷ 0x00 ∷ 0x0d ∷ 0x0f ∷ 0x00 ∷ 0x01 ∷ 0x00 ∷ 0x00 ∷ 0x00 ∷ 0x00 ∷ 0x00 ∷ 0x01 ∷ 0x00 ∷ 0x00 ∷ 0x00 ∷ 0x02 ∷ []

-- spawn 1, in slot 3
spawn_third : List ℕ
spawn_third = 0x40 ∷ 0x00 ∷ 0x0d ∷ 0x0f ∷ 0x00 ∷ 0x01 ∷ 0x00 ∷ 0x00 ∷ 0x00 ∷ 0x00 ∷ 0x00 ∷ 0x01 ∷ 0x00 ∷ 0x00 ∷ 0x00 ∷ 0x03 ∷ []

-- with either of the two
triggered_config : List ℕ → List ℕ
triggered_config r = file (first_field ∷ client ∷ r ∷ queue ∷ sender ∷ link ∷ event ∷ [])

-- the first trace: an instance for each send, as each is spawned before the next
in_turn : List ℕ → Row
in_turn r = record { config = triggered_config r; recording = file (spawn_client ∷ send_one ∷ spawn_server ∷ send_two ∷ spawn_next ∷ []); line = Accepted 5 }

-- the second trace: both sends come first, and one instance is spawned
together : List ℕ → Row
together r = record { config = triggered_config r; recording = file (spawn_client ∷ send_one ∷ send_two ∷ spawn_server ∷ []); line = Accepted 4 }

-- a second one behind it is 11 without the flag
lost_one : Row
lost_one = record { config = triggered_config receiver; recording = file (spawn_client ∷ send_one ∷ send_two ∷ spawn_server ∷ spawn_next ∷ []); line = Refused 5 11 }

-- with it there is one for each send, and a third is 11
counts_both : Row
counts_both = record { config = triggered_config counter; recording = file (spawn_client ∷ send_one ∷ send_two ∷ spawn_server ∷ spawn_next ∷ []); line = Accepted 5 }

counts_no_more : Row
counts_no_more = record { config = triggered_config counter; recording = file (spawn_client ∷ send_one ∷ send_two ∷ spawn_server ∷ spawn_next ∷ spawn_third ∷ []); line = Refused 6 11 }

-- a counting server is 26, and a flag beyond these three is 24
counter_serves : Row
counter_serves = record { config = file (first_field ∷ (0x10 ∷ 0x00 ∷ 0x07 ∷ 0x01 ∷ 0x04 ∷ 0x00 ∷ 0x00 ∷ 0x00 ∷ 0x00 ∷ 0x02 ∷ []) ∷ []); recording = last_field; line = Configuration 2 26 }

flag_beyond : Row
flag_beyond = record { config = file (first_field ∷ (0x10 ∷ 0x00 ∷ 0x07 ∷ 0x01 ∷ 0x08 ∷ 0x00 ∷ 0x00 ∷ 0x00 ∷ 0x00 ∷ 0x00 ∷ []) ∷ []); recording = last_field; line = Configuration 2 24 }

pub triggered_table : List Row
triggered_table = in_turn receiver ∷ in_turn counter ∷ together receiver ∷ together counter ∷ lost_one ∷ counts_both ∷ counts_no_more ∷ counter_serves ∷ flag_beyond ∷ []

pub counted-activations : map (λ (x : Row). line_of x.config x.recording) triggered_table ≡ map (λ (x : Row). x.line) triggered_table
unfolding all_of all_below any_below sum_below mask_below first_below each_below shifted place_filled filled is_void is_payload is_kind is_mask is_good same_value part_in add_part no_config no_requests no_runnable no_values no_element no_stack no_slot no_places place_in with_place pushed oldest without_oldest push_area top_area pop_area start_variable start_element started start_of max_of count_of places_of entry_of placed in_range names_there is_server is_queued rises rises_at pairs_well entry_fault is_no_entry place_sound kind_sound config_sound is_no_client client_fits requests_sound values_sound top_of most_pending runnable_sound variable_sound is_stored element_sound is_outcome calling_sound done_sound operation_sound timer_sound waits_well life_sound owed_sound area_fits stack_sound is_no_slot slot_sound of_runnable slots_of count_sound times_in holders area_sound is_client queued_as served_as clients_as client_sound queued_sound served_sound called_sound waits_on waiters_of waiter_sound runnables_sound variables_sound elements_sound operations_sound timers_sound slots_sound counts_sound areas_sound clients_sound waiters_sound shaped sound_of rows row_of argues formed part_there queues_as part_own asks_synchronous finished_lets failed_lets life_lets owned_refusal instance_refusal scheduler_refusal refusal_by refusal_of read_variable_of write_variable_of enter_of on_top exit_of read_of updated_of linked accepts fed_element fed_elements one_more feeds is_fed fed_runnables fed write_of invalidate_of is_full full_mask sent_of send_of receive_of requests_full caller_after called call_of poll_of collect_of result_of closing returns is_returned returned_runnables closed answers hand_back_of timeout_of end_of is_due may_spawn starting instance_of is_empty_at lowest_empty found_empty spawned spawn_of tick_of operation_lets timer_lets operations_let timers_let operation_after operations_after timers_after runnables_after all_let waited wait_of fail_of act_of possible_of agrees claimed_of inner_of step_of values_good tested step_in end_in field_of size_of entry_read in_order head_of body_fault refused_at read_from config_of judge_from judge_of rest_of judged_line read_line line_of first_field last_field client queue sender link spawn_client spawn_server send_one send_two receiver counter event spawn_next spawn_third joined file triggered_config in_turn together lost_one counts_both counts_no_more counter_serves flag_beyond triggered_table is_edition parts_sound has_step marks_invalid is_no_awaited awaits_well is_no_life is_no_owed is_no_stack ends_waiting waiting_lets held_well asks_waiting slot_lets slots_let slots_after hold_of give_up_of whole_from whole_of nothing observe history_from history_of time_of time_in named_there listed_there lists_of has_room lists_well has_field lists_elements listed_below size_in copied_sound copies_sound copy_sound has_copy is_no_copy copy_in lists_at first_listed handed_elements handed_runnables cleared copied_elements copied_into no_copies
counted-activations = refl

-- ---- a crane that fails

-- (i) in time: the crane fails inside two areas, hands back Void, answered 1, exits both from the top and ends; the client gets ServerErr
pub crane_in_time : Row
crane_in_time = record {
  config = crane_config;
  recording = file (spawn_client ∷ call_seven ∷ spawn_server ∷ crane_enters_first ∷ crane_enters_second ∷ crane_fails ∷ crane_back ∷ crane_exits_second ∷ crane_exits_first ∷ crane_ends ∷ ask_server_err ∷ []);
  line = Accepted 11;
}

-- (j) the same after the timeout: its hand back is answered 0, and the client gets Timeout
pub crane_too_late : Row
crane_too_late = record {
  config = crane_config;
  recording = file (spawn_client ∷ call_seven ∷ spawn_server ∷ crane_enters_first ∷ crane_enters_second ∷ crane_fails ∷ wait_fifty ∷ times_out ∷ crane_back_late ∷ crane_exits_second ∷ crane_exits_first ∷ crane_ends ∷ ask_timeout ∷ []);
  line = Accepted 13;
}

-- (k) a crane that has failed hands no Number back: 2
crane_number : Row
crane_number = record { config = crane_config; recording = file (spawn_client ∷ call_seven ∷ spawn_server ∷ crane_fails ∷ back_in_time ∷ []); line = Refused 5 2 }

-- (l) and enters no area: 5
crane_enters_failed : Row
crane_enters_failed = record { config = crane_config; recording = file (spawn_client ∷ call_seven ∷ spawn_server ∷ crane_enters_first ∷ crane_fails ∷ crane_enters_second ∷ []); line = Refused 6 5 }

pub crane_table : List Row
crane_table = crane_in_time ∷ crane_too_late ∷ crane_number ∷ crane_enters_failed ∷ []

pub failing-cranes : map (λ (x : Row). line_of x.config x.recording) crane_table ≡ map (λ (x : Row). x.line) crane_table
unfolding all_of all_below any_below sum_below mask_below first_below each_below shifted place_filled filled is_void is_payload is_kind is_mask is_good same_value part_in add_part no_config no_requests no_runnable no_values no_element no_stack no_slot no_places place_in with_place pushed oldest without_oldest push_area top_area pop_area start_variable start_element started start_of max_of count_of places_of entry_of placed in_range names_there is_server is_queued rises rises_at pairs_well entry_fault is_no_entry place_sound kind_sound config_sound is_no_client client_fits requests_sound values_sound runnable_sound variable_sound is_stored element_sound is_outcome calling_sound done_sound operation_sound timer_sound waits_well life_sound owed_sound area_fits stack_sound is_no_slot slot_sound of_runnable slots_of count_sound times_in holders area_sound is_client queued_as served_as clients_as client_sound queued_sound served_sound called_sound waits_on waiters_of waiter_sound runnables_sound variables_sound elements_sound operations_sound timers_sound slots_sound counts_sound areas_sound clients_sound waiters_sound shaped sound_of rows row_of argues formed part_there queues_as part_own asks_synchronous finished_lets failed_lets life_lets owned_refusal instance_refusal scheduler_refusal refusal_by refusal_of read_variable_of write_variable_of enter_of on_top exit_of read_of updated_of linked accepts fed_element fed_elements feeds is_fed fed_runnables fed write_of invalidate_of is_full full_mask sent_of send_of receive_of requests_full caller_after called call_of poll_of collect_of result_of closing returns is_returned returned_runnables closed answers hand_back_of timeout_of end_of is_due may_spawn starting instance_of is_empty_at lowest_empty found_empty spawned spawn_of tick_of operation_lets timer_lets operations_let timers_let operation_after operations_after timers_after runnables_after all_let waited wait_of fail_of act_of possible_of agrees claimed_of inner_of step_of values_good tested step_in end_in field_of size_of entry_read in_order head_of body_fault refused_at read_from config_of judge_from judge_of rest_of judged_line read_line line_of first_field last_field client server operation area queue sender link spawn_client spawn_server call_seven call_again wait_fifty wait_longer times_out back_late back_in_time ask_timeout ask_nine ask_void enter_first enter_second exit_first send_one send_two send_three receive_one receive_two receive_none crane_area crane_enters_first crane_enters_second crane_fails crane_back crane_back_late crane_exits_second crane_exits_first crane_ends ask_server_err joined file late_config areas_config queue_config crane_config crane_in_time crane_too_late crane_number crane_enters_failed crane_table is_edition parts_sound has_step marks_invalid top_of most_pending one_more is_no_awaited awaits_well is_no_life is_no_owed is_no_stack ends_waiting waiting_lets held_well asks_waiting slot_lets slots_let slots_after hold_of give_up_of whole_from whole_of nothing observe history_from history_of time_of time_in named_there listed_there lists_of has_room lists_well has_field lists_elements listed_below size_in copied_sound copies_sound copy_sound has_copy is_no_copy copy_in lists_at first_listed handed_elements handed_runnables cleared copied_elements copied_into no_copies
failing-cranes = refl

-- (i) the call at place 2 was ended at place 7 by the failure of the instance spawned for it. (j) it was ended by the timeout at place 8, and by nothing else
pub failing-histories : map followed (crane_in_time ∷ crane_too_late ∷ []) ≡
    record {
      place = 11;
      queued = replicate 16 [];
      taken = replicate 32 no_request;
      failed = replicate 32 false;
      latest = set (replicate 8 0) 0 2;
      endings = record { on = 0; call = 2; at = 7; how = by_failure 2 } ∷ [];
    }
    ∷ record {
      place = 13;
      queued = replicate 16 [];
      taken = replicate 32 no_request;
      failed = replicate 32 false;
      latest = set (replicate 8 0) 0 2;
      endings = record { on = 0; call = 2; at = 8; how = by_timeout } ∷ [];
    }
    ∷ []
unfolding all_of all_below any_below sum_below mask_below first_below each_below shifted place_filled filled is_void is_payload is_kind is_mask is_good same_value part_in add_part no_config no_requests no_runnable no_values no_element no_stack no_slot no_places place_in with_place pushed oldest without_oldest push_area top_area pop_area start_variable start_element started start_of max_of count_of places_of entry_of placed in_range names_there is_server is_queued rises rises_at pairs_well entry_fault is_no_entry place_sound kind_sound config_sound is_no_client client_fits requests_sound values_sound runnable_sound variable_sound is_stored element_sound is_outcome calling_sound done_sound operation_sound timer_sound waits_well life_sound owed_sound area_fits stack_sound is_no_slot slot_sound of_runnable slots_of count_sound times_in holders area_sound is_client queued_as served_as clients_as client_sound queued_sound served_sound called_sound waits_on waiters_of waiter_sound runnables_sound variables_sound elements_sound operations_sound timers_sound slots_sound counts_sound areas_sound clients_sound waiters_sound shaped sound_of rows row_of argues formed part_there queues_as part_own asks_synchronous finished_lets failed_lets life_lets owned_refusal instance_refusal scheduler_refusal refusal_by refusal_of read_variable_of write_variable_of enter_of on_top exit_of read_of updated_of linked accepts fed_element fed_elements feeds is_fed fed_runnables fed write_of invalidate_of is_full full_mask sent_of send_of receive_of requests_full caller_after called call_of poll_of collect_of result_of closing returns is_returned returned_runnables closed answers hand_back_of timeout_of end_of is_due may_spawn starting instance_of is_empty_at lowest_empty found_empty spawned spawn_of tick_of operation_lets timer_lets operations_let timers_let operation_after operations_after timers_after runnables_after all_let waited wait_of fail_of act_of possible_of agrees claimed_of inner_of step_of values_good tested step_in end_in field_of size_of entry_read in_order head_of body_fault refused_at read_from config_of judge_from judge_of rest_of judged_line read_line line_of first_field last_field client server operation area queue sender link spawn_client spawn_server call_seven call_again wait_fifty wait_longer times_out back_late back_in_time ask_timeout ask_nine ask_void enter_first enter_second exit_first send_one send_two send_three receive_one receive_two receive_none crane_area crane_enters_first crane_enters_second crane_fails crane_back crane_back_late crane_exits_second crane_exits_first crane_ends ask_server_err joined file late_config areas_config queue_config crane_config crane_in_time crane_too_late crane_number crane_enters_failed crane_table whole_from whole_of nothing observe history_from history_of followed is_edition parts_sound has_step marks_invalid top_of most_pending one_more is_no_awaited awaits_well is_no_life is_no_owed is_no_stack ends_waiting waiting_lets held_well asks_waiting slot_lets slots_let slots_after hold_of give_up_of time_of time_in named_there listed_there lists_of has_room lists_well has_field lists_elements listed_below size_in copied_sound copies_sound copy_sound has_copy is_no_copy copy_in lists_at first_listed handed_elements handed_runnables cleared copied_elements copied_into no_copies
failing-histories = refl
