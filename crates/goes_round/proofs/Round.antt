-- An operation's number goes round (W-206): states by hand, one call before the number 65,535 is used and with a client left over that bears 0, and what the machine, the board and the
-- mender do from there on, by computation. No recording that the program takes reaches such a state.
-- Assumes nothing.
use Prim.Native.Nat.{ℕ}
use mathlib.Core.Bool.{true, false}
use mathlib.Core.List.{List, [], ◌∷◌, map}
use mathlib.Core.Path.{◌≡◌, refl, ◌∙◌, ap}
use lib.ListN.{replicate, set}
use Rattle.config.specs.Lists.{first_listed, listed_below, lists_at}
use Rattle.laws.specs.Choice.{all_of}
use Rattle.laws.specs.Loop.{all_below, any_below, sum_below, first_below}
use Rattle.laws.specs.Mask.{mask_below}
use Rattle.laws.specs.Row.{each_below, shifted, place_filled, filled}
use Rattle.values.specs.Values.{is_void, is_payload, is_kind, is_mask, is_good, same_value, void_v, number_v, ok_v, timeout_v}
use Rattle.config.specs.Editions.{first_edition, is_edition, marks_invalid, has_step, has_field, lists_elements}
use Rattle.config.specs.Tables.{no_runnable_conf, no_variable_confs, no_area_confs, no_required_confs, no_provided_confs, no_links, no_operation_conf, no_timer_confs, no_data_events, no_return_events, no_lists, top_of}
use Rattle.state.specs.Parts.{no_requests, no_runnable, no_values, no_element, no_stack, no_slot, no_client, no_owed, no_operation, no_awaited, no_copies}
use Rattle.state.specs.Tables.{no_variables, no_areas, no_elements, operation_in, no_timers, copy_in, no_copied}
use Rattle.state.specs.Queues.{push_area, top_area, pop_area, oldest, pushed, without_oldest}
use Rattle.entries.specs.Entries.{max_of, count_of, places_of, entry_of}
use Rattle.entries.specs.Faults.{in_range, names_there, is_server, is_queued, rises, rises_at, pairs_well, entry_fault, is_no_entry, place_sound, kind_sound, config_sound, parts_sound, has_room, lists_well}
use Rattle.rules.specs.Sound.{is_no_client, client_fits, requests_sound, values_sound, runnable_sound, variable_sound, is_stored, element_sound, is_outcome, calling_sound, done_sound, operation_sound, timer_sound, waits_well, life_sound, owed_sound, area_fits, stack_sound, is_no_slot, slot_sound, of_runnable, slots_of, count_sound, times_in, holders, area_sound, is_client, queued_as, served_as, clients_as, client_sound, queued_sound, served_sound, called_sound, runnables_sound, variables_sound, elements_sound, operations_sound, timers_sound, slots_sound, counts_sound, areas_sound, clients_sound, shaped, waits_on, waiters_of, waiter_sound, waiters_sound, sound_of, most_pending, is_no_awaited, awaits_well, is_no_life, is_no_owed, is_no_stack, held_well, copied_sound, copies_sound, copy_sound, has_copy, is_no_copy}
use Rattle.rules.specs.Rows.{rows, row_of}
use Rattle.rules.specs.Refusals.{argues, formed, part_there, queues_as, part_own, asks_synchronous, finished_lets, failed_lets, life_lets, owned_refusal, instance_refusal, scheduler_refusal, refusal_by, refusal_of, ends_waiting, waiting_lets, asks_waiting, listed_there, lists_of, named_there}
use Rattle.effects.specs.Steps.{one_more, read_variable_of, write_variable_of, enter_of, on_top, exit_of, read_of, updated_of, linked, accepts, fed_element, fed_elements, feeds, is_fed, fed_runnables, fed, write_of, invalidate_of, is_full, full_mask, sent_of, send_of, receive_of, requests_full, caller_after, called, call_of, poll_of, collect_of, result_of, closing, returns, is_returned, returned_runnables, closed, answers, hand_back_of, timeout_of, end_of, is_due, may_spawn, starting, instance_of, is_empty_at, lowest_empty, found_empty, spawned, spawn_of, tick_of, operation_lets, timer_lets, operations_let, timers_let, operation_after, operations_after, timers_after, runnables_after, all_let, waited, wait_of, fail_of, slot_lets, slots_let, slots_after, hold_of, give_up_of, cleared, copied_elements, copied_into, handed_elements, handed_runnables}
use Rattle.effects.specs.Step.{act_of, possible_of, agrees, claimed_of, inner_of, step_of}
use Rattle.recording.specs.Recording.{values_good, tested, step_in, end_in, field_of}
use Rattle.recording.specs.Whole.{whole_from, whole_of, text_of}
use Rattle.gaps.specs.Orders.{each, passed_over, behind, sequences, up_to_three}
use Rattle.gaps.specs.Gaps.{choices_in, sequences_of, fills, rank_of, answered_all, state_after, turns_of, Turn, mended_steps}
use Rattle.faces.specs.Types.{Value, Step, Answer, Taken, Refused, Config, Client, Requests, Operation, Owed, Slot, State}
use Rattle.judging.specs.Judging.{judge_from, judge_of}
use Rattle.gaps.specs.declared.Mended.TheVariants.{Whole, Refused as NotMended}
use Rattle.gaps.specs.Report.{fitted, step_notes, turn_notes, note_count, survey_of, mend_to}
use Rattle.gaps.proofs.Same.{turns-once, survey-once}
use Rattle.posting.specs.declared.Shown.TheVariants.{Final, Wait, Unjudged}
use Rattle.posting.specs.Posting.{is_unplanned, done_shown, operation_shown}
use Rattle.config.specs.Table.{part_in}
use Rattle.state.specs.Places.{no_places, place_in, with_place}
use Rattle.showing.specs.Showing.{judged_shown}

-- ---- the configuration: a client, a server of which several instances may run, and an asynchronous operation of the one on the other

pub config : Config
config = record {
  runnables =
      record {
        n = 2;
        at = set (set (replicate 16 no_runnable_conf)
            0 (record { component = 0; concurrent = false; init = true; counting = false; interval = 0; capacity = 0 }))
            1 (record { component = 1; concurrent = true; init = false; counting = false; interval = 0; capacity = 2 });
      };
  variables = no_variable_confs;
  areas = no_area_confs;
  required = no_required_confs;
  provided = no_provided_confs;
  links = no_links;
  operations = record { n = 1; at = set (replicate 8 no_operation_conf) 0 (record { component = 0; asynchronous = true; server = 1; timeout = 50 }) };
  timers = no_timer_confs;
  devents = no_data_events;
  revents = no_return_events;
  incoming = no_lists;
  outgoing = no_lists;
  edition = first_edition;
}

-- ---- the states: one call before the number goes round, with a client of the round before that still bears 0

-- an operation that is Done with a value, and one that is Calling
pub done : ℕ → Value → Operation
done m v = record { number = m; calling = false; count = 0; done = v }

pub calling : ℕ → ℕ → Operation
calling m t = record { number = m; calling = true; count = t; done = void_v }

-- a client of the operation with the number m
pub bearing : ℕ → Client
bearing m = record { operation = 0; number = m; argument = number_v 7 }

-- an instance of the runnable r, and what it owes
pub running : ℕ → Owed → Slot
running r w = record { used = true; life = record { runnable = r; awaited = no_awaited; finished = false; failed = false }; owed = w; stack = no_stack }

-- the client runs in slot 0; the server has so many instances, one of them perhaps in slot 1, and these requests; the operation is as given
pub state_with : Operation → ℕ → Requests → Slot → State
state_with x n q y = record {
  runnables = record {
    at = set (set (replicate 16 no_runnable)
        0 (record { interval = 0; pending = 0; instances = 1; requests = no_requests }))
        1 (record { interval = 0; pending = 0; instances = n; requests = q });
  };
  variables = no_variables;
  areas = no_areas;
  elements = no_elements;
  operations = record { at = set (replicate 8 no_operation) 0 x };
  timers = no_timers;
  slots = record { at = set (set (replicate 32 no_slot) 0 (running 0 no_owed)) 1 y };
  incoming = no_copied;
  outgoing = no_copied;
}

-- the old client is served, in slot 1
pub served : Operation → State
served x = state_with x 1 no_requests (running 1 (record { serving = true; client = bearing 0 }))

-- the old client waits in the queue, which has room for one more
pub queued : Operation → State
queued x = state_with x 0 (record { queued = 1; at = set (replicate 16 no_client) 0 (bearing 0) }) no_slot

-- one call before the number goes round
pub last : Operation
last = done 65535 (number_v 8)

pub served_last : State
served_last = served last

pub queued_last : State
queued_last = queued last

-- ---- the steps

pub step : ℕ → ℕ → ℕ → Value → Value → Step
step code who what argument claim = record { code = code; who = who; what = what; argument = argument; claim = claim }

-- slot 0 calls with a number, and is answered Ok
pub call : ℕ → Step
call n = step 11 0 0 (number_v n) ok_v

-- the server is spawned, in the slot i
pub spawn : ℕ → Step
spawn i = step 15 0 1 void_v (number_v i)

-- the slot i hands back a number, and is answered 1 or 0
pub back : ℕ → ℕ → ℕ → Step
back i n a = step 13 i 0 (number_v n) (number_v a)

-- slot 0 asks for the result, and gets this
pub ask : Value → Step
ask v = step 12 0 0 void_v v

-- time passes up to the timeout
pub wait_fifty : Step
wait_fifty = step 18 0 0 (number_v 50) void_v

pub times_out : Step
times_out = step 16 0 0 void_v void_v

-- ---- what the machine does

-- the answer of a step, and the operation after it
pub record Seen : Type 0 where
  pub answer : Answer
  pub operation : Operation

pub seen : Answer → Operation → Seen
seen a x = record { answer = a; operation = x }

-- of step after step, each with the test of soundness; a refused one leaves the state
pub seen_from : State → List Step → List Seen
seen_from st [] = []
seen_from st (s ∷ rs) = seen (step_of config st s).answer (operation_in (step_of config st s).state.operations 0) ∷ seen_from (step_of config st s).state rs

-- an old client still served: a call is open with the number 65,535, and its end brings the number 0; the next call is 28, whoever asks still gets what was handed back; the old client's hand back is answered 0 and delivers nothing, and then a call is accepted, with the number 0
pub served-goes-round : seen_from served_last (call 5 ∷ spawn 2 ∷ back 2 6 1 ∷ call 4 ∷ back 1 9 0 ∷ ask (number_v 6) ∷ call 4 ∷ []) ≡
    seen (Taken ok_v) (calling 65535 50)
    ∷ seen (Taken (number_v 2)) (calling 65535 50)
    ∷ seen (Taken (number_v 1)) (done 0 (number_v 6))
    ∷ seen (Refused 28) (done 0 (number_v 6))
    ∷ seen (Taken (number_v 0)) (done 0 (number_v 6))
    ∷ seen (Taken (number_v 6)) (done 0 (number_v 6))
    ∷ seen (Taken ok_v) (calling 0 50)
    ∷ []
unfolding all_of all_below any_below sum_below mask_below first_below each_below shifted place_filled filled is_void is_payload is_kind is_mask is_good same_value part_in no_requests no_runnable no_values no_element no_stack no_slot no_places place_in with_place pushed oldest without_oldest push_area top_area pop_area max_of count_of places_of entry_of in_range names_there is_server is_queued rises rises_at pairs_well entry_fault is_no_entry place_sound kind_sound config_sound is_no_client client_fits requests_sound values_sound runnable_sound variable_sound is_stored element_sound is_outcome calling_sound done_sound operation_sound timer_sound waits_well life_sound owed_sound area_fits stack_sound is_no_slot slot_sound of_runnable slots_of count_sound times_in holders area_sound is_client queued_as served_as clients_as client_sound queued_sound served_sound called_sound runnables_sound variables_sound elements_sound operations_sound timers_sound slots_sound counts_sound areas_sound clients_sound shaped sound_of rows row_of argues formed part_there queues_as part_own asks_synchronous finished_lets failed_lets life_lets owned_refusal instance_refusal scheduler_refusal refusal_by refusal_of read_variable_of write_variable_of enter_of on_top exit_of read_of updated_of linked accepts fed_element fed_elements feeds is_fed fed_runnables fed write_of invalidate_of is_full full_mask sent_of send_of receive_of requests_full caller_after called call_of poll_of collect_of result_of closing returns is_returned returned_runnables closed answers hand_back_of timeout_of end_of is_due may_spawn starting instance_of is_empty_at lowest_empty found_empty spawned spawn_of tick_of operation_lets timer_lets operations_let timers_let operation_after operations_after timers_after runnables_after all_let waited wait_of fail_of act_of possible_of agrees claimed_of inner_of step_of config done calling bearing running state_with served last served_last step call spawn back ask seen seen_from waits_on waiters_of waiter_sound waiters_sound is_edition parts_sound has_step marks_invalid top_of most_pending one_more is_no_awaited awaits_well is_no_life is_no_owed is_no_stack ends_waiting waiting_lets held_well asks_waiting slot_lets slots_let slots_after hold_of give_up_of values_good tested step_in end_in field_of text_of judge_from judge_of is_unplanned done_shown operation_shown judged_shown each passed_over behind sequences up_to_three choices_in sequences_of fills rank_of answered_all state_after turns_of whole_from whole_of mended_steps note_count turn_notes step_notes survey_of named_there listed_there lists_of has_room lists_well has_field lists_elements listed_below copied_sound copies_sound copy_sound has_copy is_no_copy copy_in lists_at first_listed handed_elements handed_runnables cleared copied_elements copied_into no_copies
served-goes-round = refl

-- an old client still queued: the call times out, and the number is 0; a call is 28, though the queue is full, and 28 again when a spawn has put the old client on an instance; behind its hand back, which is answered 0, a call is accepted
pub queued-goes-round : seen_from queued_last (call 5 ∷ wait_fifty ∷ times_out ∷ call 4 ∷ spawn 1 ∷ call 4 ∷ back 1 9 0 ∷ ask timeout_v ∷ call 4 ∷ []) ≡
    seen (Taken ok_v) (calling 65535 50)
    ∷ seen (Taken void_v) (calling 65535 0)
    ∷ seen (Taken void_v) (done 0 timeout_v)
    ∷ seen (Refused 28) (done 0 timeout_v)
    ∷ seen (Taken (number_v 1)) (done 0 timeout_v)
    ∷ seen (Refused 28) (done 0 timeout_v)
    ∷ seen (Taken (number_v 0)) (done 0 timeout_v)
    ∷ seen (Taken timeout_v) (done 0 timeout_v)
    ∷ seen (Taken ok_v) (calling 0 50)
    ∷ []
unfolding all_of all_below any_below sum_below mask_below first_below each_below shifted place_filled filled is_void is_payload is_kind is_mask is_good same_value part_in no_requests no_runnable no_values no_element no_stack no_slot no_places place_in with_place pushed oldest without_oldest push_area top_area pop_area max_of count_of places_of entry_of in_range names_there is_server is_queued rises rises_at pairs_well entry_fault is_no_entry place_sound kind_sound config_sound is_no_client client_fits requests_sound values_sound runnable_sound variable_sound is_stored element_sound is_outcome calling_sound done_sound operation_sound timer_sound waits_well life_sound owed_sound area_fits stack_sound is_no_slot slot_sound of_runnable slots_of count_sound times_in holders area_sound is_client queued_as served_as clients_as client_sound queued_sound served_sound called_sound runnables_sound variables_sound elements_sound operations_sound timers_sound slots_sound counts_sound areas_sound clients_sound shaped sound_of rows row_of argues formed part_there queues_as part_own asks_synchronous finished_lets failed_lets life_lets owned_refusal instance_refusal scheduler_refusal refusal_by refusal_of read_variable_of write_variable_of enter_of on_top exit_of read_of updated_of linked accepts fed_element fed_elements feeds is_fed fed_runnables fed write_of invalidate_of is_full full_mask sent_of send_of receive_of requests_full caller_after called call_of poll_of collect_of result_of closing returns is_returned returned_runnables closed answers hand_back_of timeout_of end_of is_due may_spawn starting instance_of is_empty_at lowest_empty found_empty spawned spawn_of tick_of operation_lets timer_lets operations_let timers_let operation_after operations_after timers_after runnables_after all_let waited wait_of fail_of act_of possible_of agrees claimed_of inner_of step_of config done calling bearing running state_with queued last queued_last step call spawn back ask wait_fifty times_out seen seen_from waits_on waiters_of waiter_sound waiters_sound is_edition parts_sound has_step marks_invalid top_of most_pending one_more is_no_awaited awaits_well is_no_life is_no_owed is_no_stack ends_waiting waiting_lets held_well asks_waiting slot_lets slots_let slots_after hold_of give_up_of values_good tested step_in end_in field_of text_of judge_from judge_of is_unplanned done_shown operation_shown judged_shown each passed_over behind sequences up_to_three choices_in sequences_of fills rank_of answered_all state_after turns_of whole_from whole_of mended_steps note_count turn_notes step_notes survey_of named_there listed_there lists_of has_room lists_well has_field lists_elements listed_below copied_sound copies_sound copy_sound has_copy is_no_copy copy_in lists_at first_listed handed_elements handed_runnables cleared copied_elements copied_into no_copies
queued-goes-round = refl

-- both first states are sound, and so is one in which the last number is open
pub sound-there : map (sound_of config) (served_last ∷ queued_last ∷ state_with (calling 65535 7) 0 (record { queued = 2; at = set (set (replicate 16 no_client) 0 (bearing 0)) 1 (bearing 65535) }) no_slot ∷ []) ≡ true ∷ true ∷ true ∷ []
unfolding all_of all_below any_below sum_below mask_below first_below each_below shifted place_filled filled is_void is_payload is_kind is_mask is_good same_value part_in no_requests no_runnable no_values no_element no_stack no_slot no_places place_in with_place pushed oldest without_oldest push_area top_area pop_area max_of count_of places_of entry_of in_range names_there is_server is_queued rises rises_at pairs_well entry_fault is_no_entry place_sound kind_sound config_sound is_no_client client_fits requests_sound values_sound runnable_sound variable_sound is_stored element_sound is_outcome calling_sound done_sound operation_sound timer_sound waits_well life_sound owed_sound area_fits stack_sound is_no_slot slot_sound of_runnable slots_of count_sound times_in holders area_sound is_client queued_as served_as clients_as client_sound queued_sound served_sound called_sound runnables_sound variables_sound elements_sound operations_sound timers_sound slots_sound counts_sound areas_sound clients_sound shaped sound_of rows row_of argues formed part_there queues_as part_own asks_synchronous finished_lets failed_lets life_lets owned_refusal instance_refusal scheduler_refusal refusal_by refusal_of read_variable_of write_variable_of enter_of on_top exit_of read_of updated_of linked accepts fed_element fed_elements feeds is_fed fed_runnables fed write_of invalidate_of is_full full_mask sent_of send_of receive_of requests_full caller_after called call_of poll_of collect_of result_of closing returns is_returned returned_runnables closed answers hand_back_of timeout_of end_of is_due may_spawn starting instance_of is_empty_at lowest_empty found_empty spawned spawn_of tick_of operation_lets timer_lets operations_let timers_let operation_after operations_after timers_after runnables_after all_let waited wait_of fail_of act_of possible_of agrees claimed_of inner_of step_of config done calling bearing running state_with served queued last served_last queued_last waits_on waiters_of waiter_sound waiters_sound is_edition parts_sound has_step marks_invalid top_of most_pending one_more is_no_awaited awaits_well is_no_life is_no_owed is_no_stack ends_waiting waiting_lets held_well asks_waiting slot_lets slots_let slots_after hold_of give_up_of values_good tested step_in end_in field_of text_of judge_from judge_of is_unplanned done_shown operation_shown judged_shown each passed_over behind sequences up_to_three choices_in sequences_of fills rank_of answered_all state_after turns_of whole_from whole_of mended_steps note_count turn_notes step_notes survey_of named_there listed_there lists_of has_room lists_well has_field lists_elements listed_below copied_sound copies_sound copy_sound has_copy is_no_copy copy_in lists_at first_listed handed_elements handed_runnables cleared copied_elements copied_into no_copies
sound-there = refl

-- ---- what the board shows, judged from such a state on

-- the lines for the recordings of the first steps, one step more each time
pub plans : List (List Step)
plans =
    []
    ∷ (call 5 ∷ [])
    ∷ (call 5 ∷ spawn 2 ∷ back 2 6 1 ∷ [])
    ∷ (call 5 ∷ spawn 2 ∷ back 2 6 1 ∷ call 4 ∷ [])
    ∷ (call 5 ∷ spawn 2 ∷ back 2 6 1 ∷ back 1 9 0 ∷ [])
    ∷ (call 5 ∷ spawn 2 ∷ back 2 6 1 ∷ back 1 9 0 ∷ call 4 ∷ [])
    ∷ []

-- the plan of the call before; the call is open; its plan is final; a call with 28 is not judged; the old client's number 9 is never shown; the next call is open
pub board-goes-round : map (λ (rs : List Step). judged_shown 0 (judge_of config served_last (text_of rs) 9)) plans ≡ Final 8 ∷ Wait ∷ Final 6 ∷ Unjudged ∷ Final 6 ∷ Wait ∷ []
unfolding all_of all_below any_below sum_below mask_below first_below each_below shifted place_filled filled is_void is_payload is_kind is_mask is_good same_value part_in no_requests no_runnable no_values no_element no_stack no_slot no_places place_in with_place pushed oldest without_oldest push_area top_area pop_area max_of count_of places_of entry_of in_range names_there is_server is_queued rises rises_at pairs_well entry_fault is_no_entry place_sound kind_sound config_sound is_no_client client_fits requests_sound values_sound runnable_sound variable_sound is_stored element_sound is_outcome calling_sound done_sound operation_sound timer_sound waits_well life_sound owed_sound area_fits stack_sound is_no_slot slot_sound of_runnable slots_of count_sound times_in holders area_sound is_client queued_as served_as clients_as client_sound queued_sound served_sound called_sound runnables_sound variables_sound elements_sound operations_sound timers_sound slots_sound counts_sound areas_sound clients_sound shaped sound_of rows row_of argues formed part_there queues_as part_own asks_synchronous finished_lets failed_lets life_lets owned_refusal instance_refusal scheduler_refusal refusal_by refusal_of read_variable_of write_variable_of enter_of on_top exit_of read_of updated_of linked accepts fed_element fed_elements feeds is_fed fed_runnables fed write_of invalidate_of is_full full_mask sent_of send_of receive_of requests_full caller_after called call_of poll_of collect_of result_of closing returns is_returned returned_runnables closed answers hand_back_of timeout_of end_of is_due may_spawn starting instance_of is_empty_at lowest_empty found_empty spawned spawn_of tick_of operation_lets timer_lets operations_let timers_let operation_after operations_after timers_after runnables_after all_let waited wait_of fail_of act_of possible_of agrees claimed_of inner_of step_of values_good tested step_in end_in field_of text_of judge_from judge_of is_unplanned done_shown operation_shown judged_shown config done calling bearing running state_with served last served_last step call spawn back ask plans waits_on waiters_of waiter_sound waiters_sound is_edition parts_sound has_step marks_invalid top_of most_pending one_more is_no_awaited awaits_well is_no_life is_no_owed is_no_stack ends_waiting waiting_lets held_well asks_waiting slot_lets slots_let slots_after hold_of give_up_of each passed_over behind sequences up_to_three choices_in sequences_of fills rank_of answered_all state_after turns_of whole_from whole_of mended_steps note_count turn_notes step_notes survey_of named_there listed_there lists_of has_room lists_well has_field lists_elements listed_below copied_sound copies_sound copy_sound has_copy is_no_copy copy_in lists_at first_listed handed_elements handed_runnables cleared copied_elements copied_into no_copies
board-goes-round = refl

-- ---- what the mender does, from such a state on

-- the spawn is lost: it is found, third of all sequences, and the number goes round behind it
pub lost : List Step
lost = call 5 ∷ back 2 6 1 ∷ back 1 9 0 ∷ call 4 ∷ []

pub turn : ℕ → List Step → Step → Turn
turn n xs s = record { passed = n; inserted = xs; kept = s }

pub found : List Turn
found = turn 0 [] (call 5) ∷ turn 2 (spawn 2 ∷ []) (back 2 6 1) ∷ turn 0 [] (back 1 9 0) ∷ turn 0 [] (call 4) ∷ []

lost-turns : turns_of (inner_of config) config served_last lost ≡ found
unfolding all_of all_below any_below sum_below mask_below first_below each_below shifted place_filled filled is_void is_payload is_kind is_mask is_good same_value part_in no_requests no_runnable no_values no_element no_stack no_slot no_places place_in with_place pushed oldest without_oldest push_area top_area pop_area max_of count_of places_of entry_of in_range names_there is_server is_queued rises rises_at pairs_well entry_fault is_no_entry place_sound kind_sound config_sound is_no_client client_fits requests_sound values_sound runnable_sound variable_sound is_stored element_sound is_outcome calling_sound done_sound operation_sound timer_sound waits_well life_sound owed_sound area_fits stack_sound is_no_slot slot_sound of_runnable slots_of count_sound times_in holders area_sound is_client queued_as served_as clients_as client_sound queued_sound served_sound called_sound runnables_sound variables_sound elements_sound operations_sound timers_sound slots_sound counts_sound areas_sound clients_sound shaped sound_of rows row_of argues formed part_there queues_as part_own asks_synchronous finished_lets failed_lets life_lets owned_refusal instance_refusal scheduler_refusal refusal_by refusal_of read_variable_of write_variable_of enter_of on_top exit_of read_of updated_of linked accepts fed_element fed_elements feeds is_fed fed_runnables fed write_of invalidate_of is_full full_mask sent_of send_of receive_of requests_full caller_after called call_of poll_of collect_of result_of closing returns is_returned returned_runnables closed answers hand_back_of timeout_of end_of is_due may_spawn starting instance_of is_empty_at lowest_empty found_empty spawned spawn_of tick_of operation_lets timer_lets operations_let timers_let operation_after operations_after timers_after runnables_after all_let waited wait_of fail_of act_of possible_of agrees claimed_of inner_of step_of each passed_over behind sequences up_to_three choices_in sequences_of fills rank_of answered_all state_after turns_of config done calling bearing running state_with served last served_last step call spawn back lost turn found waits_on waiters_of waiter_sound waiters_sound is_edition parts_sound has_step marks_invalid top_of most_pending one_more is_no_awaited awaits_well is_no_life is_no_owed is_no_stack ends_waiting waiting_lets held_well asks_waiting slot_lets slots_let slots_after hold_of give_up_of values_good tested step_in end_in field_of text_of judge_from judge_of is_unplanned done_shown operation_shown judged_shown whole_from whole_of mended_steps note_count turn_notes step_notes survey_of named_there listed_there lists_of has_room lists_well has_field lists_elements listed_below copied_sound copies_sound copy_sound has_copy is_no_copy copy_in lists_at first_listed handed_elements handed_runnables cleared copied_elements copied_into no_copies
lost-turns = refl

-- a call under a number that is still borne can't be mended: no step of the scheduler takes a client away
pub stuck : List Step
stuck = call 5 ∷ spawn 2 ∷ back 2 6 1 ∷ call 4 ∷ []

stuck-turns : turns_of (inner_of config) config served_last stuck ≡ turn 0 [] (call 5) ∷ turn 0 [] (spawn 2) ∷ turn 0 [] (back 2 6 1) ∷ []
unfolding all_of all_below any_below sum_below mask_below first_below each_below shifted place_filled filled is_void is_payload is_kind is_mask is_good same_value part_in no_requests no_runnable no_values no_element no_stack no_slot no_places place_in with_place pushed oldest without_oldest push_area top_area pop_area max_of count_of places_of entry_of in_range names_there is_server is_queued rises rises_at pairs_well entry_fault is_no_entry place_sound kind_sound config_sound is_no_client client_fits requests_sound values_sound runnable_sound variable_sound is_stored element_sound is_outcome calling_sound done_sound operation_sound timer_sound waits_well life_sound owed_sound area_fits stack_sound is_no_slot slot_sound of_runnable slots_of count_sound times_in holders area_sound is_client queued_as served_as clients_as client_sound queued_sound served_sound called_sound runnables_sound variables_sound elements_sound operations_sound timers_sound slots_sound counts_sound areas_sound clients_sound shaped sound_of rows row_of argues formed part_there queues_as part_own asks_synchronous finished_lets failed_lets life_lets owned_refusal instance_refusal scheduler_refusal refusal_by refusal_of read_variable_of write_variable_of enter_of on_top exit_of read_of updated_of linked accepts fed_element fed_elements feeds is_fed fed_runnables fed write_of invalidate_of is_full full_mask sent_of send_of receive_of requests_full caller_after called call_of poll_of collect_of result_of closing returns is_returned returned_runnables closed answers hand_back_of timeout_of end_of is_due may_spawn starting instance_of is_empty_at lowest_empty found_empty spawned spawn_of tick_of operation_lets timer_lets operations_let timers_let operation_after operations_after timers_after runnables_after all_let waited wait_of fail_of act_of possible_of agrees claimed_of inner_of step_of each passed_over behind sequences up_to_three choices_in sequences_of fills rank_of answered_all state_after turns_of config done calling bearing running state_with served last served_last step call spawn back stuck turn waits_on waiters_of waiter_sound waiters_sound is_edition parts_sound has_step marks_invalid top_of most_pending one_more is_no_awaited awaits_well is_no_life is_no_owed is_no_stack ends_waiting waiting_lets held_well asks_waiting slot_lets slots_let slots_after hold_of give_up_of values_good tested step_in end_in field_of text_of judge_from judge_of is_unplanned done_shown operation_shown judged_shown whole_from whole_of mended_steps note_count turn_notes step_notes survey_of named_there listed_there lists_of has_room lists_well has_field lists_elements listed_below copied_sound copies_sound copy_sound has_copy is_no_copy copy_in lists_at first_listed handed_elements handed_runnables cleared copied_elements copied_into no_copies
stuck-turns = refl

first-sound : sound_of config served_last ≡ true
unfolding all_of all_below any_below sum_below mask_below first_below each_below shifted place_filled filled is_void is_payload is_kind is_mask is_good same_value part_in no_requests no_runnable no_values no_element no_stack no_slot no_places place_in with_place pushed oldest without_oldest push_area top_area pop_area max_of count_of places_of entry_of in_range names_there is_server is_queued rises rises_at pairs_well entry_fault is_no_entry place_sound kind_sound config_sound is_no_client client_fits requests_sound values_sound runnable_sound variable_sound is_stored element_sound is_outcome calling_sound done_sound operation_sound timer_sound waits_well life_sound owed_sound area_fits stack_sound is_no_slot slot_sound of_runnable slots_of count_sound times_in holders area_sound is_client queued_as served_as clients_as client_sound queued_sound served_sound called_sound runnables_sound variables_sound elements_sound operations_sound timers_sound slots_sound counts_sound areas_sound clients_sound shaped sound_of rows row_of argues formed part_there queues_as part_own asks_synchronous finished_lets failed_lets life_lets owned_refusal instance_refusal scheduler_refusal refusal_by refusal_of read_variable_of write_variable_of enter_of on_top exit_of read_of updated_of linked accepts fed_element fed_elements feeds is_fed fed_runnables fed write_of invalidate_of is_full full_mask sent_of send_of receive_of requests_full caller_after called call_of poll_of collect_of result_of closing returns is_returned returned_runnables closed answers hand_back_of timeout_of end_of is_due may_spawn starting instance_of is_empty_at lowest_empty found_empty spawned spawn_of tick_of operation_lets timer_lets operations_let timers_let operation_after operations_after timers_after runnables_after all_let waited wait_of fail_of act_of possible_of agrees claimed_of inner_of step_of config done bearing running state_with served last served_last waits_on waiters_of waiter_sound waiters_sound is_edition parts_sound has_step marks_invalid top_of most_pending one_more is_no_awaited awaits_well is_no_life is_no_owed is_no_stack ends_waiting waiting_lets held_well asks_waiting slot_lets slots_let slots_after hold_of give_up_of values_good tested step_in end_in field_of text_of judge_from judge_of is_unplanned done_shown operation_shown judged_shown each passed_over behind sequences up_to_three choices_in sequences_of fills rank_of answered_all state_after turns_of whole_from whole_of mended_steps note_count turn_notes step_notes survey_of named_there listed_there lists_of has_room lists_well has_field lists_elements listed_below copied_sound copies_sound copy_sound has_copy is_no_copy copy_in lists_at first_listed handed_elements handed_runnables cleared copied_elements copied_into no_copies
first-sound = refl

-- the mended steps, and where there is no mending
pub mender-goes-round : (turns_of (step_of config) config served_last lost ≡ found) × (turns_of (step_of config) config served_last stuck ≡ turn 0 [] (call 5) ∷ turn 0 [] (spawn 2) ∷ turn 0 [] (back 2 6 1) ∷ [])
mender-goes-round = (turns-once config served_last first-sound lost ∙ lost-turns, turns-once config served_last first-sound stuck ∙ stuck-turns)

lost-surveyed : survey_of (inner_of config) config served_last (text_of lost) ≡ Whole 5 2
unfolding all_of all_below any_below sum_below mask_below first_below each_below shifted place_filled filled is_void is_payload is_kind is_mask is_good same_value part_in no_requests no_runnable no_values no_element no_stack no_slot no_places place_in with_place pushed oldest without_oldest push_area top_area pop_area max_of count_of places_of entry_of in_range names_there is_server is_queued rises rises_at pairs_well entry_fault is_no_entry place_sound kind_sound config_sound is_no_client client_fits requests_sound values_sound runnable_sound variable_sound is_stored element_sound is_outcome calling_sound done_sound operation_sound timer_sound waits_well life_sound owed_sound area_fits stack_sound is_no_slot slot_sound of_runnable slots_of count_sound times_in holders area_sound is_client queued_as served_as clients_as client_sound queued_sound served_sound called_sound runnables_sound variables_sound elements_sound operations_sound timers_sound slots_sound counts_sound areas_sound clients_sound shaped sound_of rows row_of argues formed part_there queues_as part_own asks_synchronous finished_lets failed_lets life_lets owned_refusal instance_refusal scheduler_refusal refusal_by refusal_of read_variable_of write_variable_of enter_of on_top exit_of read_of updated_of linked accepts fed_element fed_elements feeds is_fed fed_runnables fed write_of invalidate_of is_full full_mask sent_of send_of receive_of requests_full caller_after called call_of poll_of collect_of result_of closing returns is_returned returned_runnables closed answers hand_back_of timeout_of end_of is_due may_spawn starting instance_of is_empty_at lowest_empty found_empty spawned spawn_of tick_of operation_lets timer_lets operations_let timers_let operation_after operations_after timers_after runnables_after all_let waited wait_of fail_of act_of possible_of agrees claimed_of inner_of step_of each passed_over behind sequences up_to_three choices_in sequences_of fills rank_of answered_all state_after turns_of values_good tested step_in end_in field_of text_of whole_from whole_of mended_steps note_count turn_notes step_notes survey_of config done calling bearing running state_with served last served_last step call spawn back lost waits_on waiters_of waiter_sound waiters_sound is_edition parts_sound has_step marks_invalid top_of most_pending one_more is_no_awaited awaits_well is_no_life is_no_owed is_no_stack ends_waiting waiting_lets held_well asks_waiting slot_lets slots_let slots_after hold_of give_up_of judge_from judge_of is_unplanned done_shown operation_shown judged_shown named_there listed_there lists_of has_room lists_well has_field lists_elements listed_below copied_sound copies_sound copy_sound has_copy is_no_copy copy_in lists_at first_listed handed_elements handed_runnables cleared copied_elements copied_into no_copies
lost-surveyed = refl

stuck-surveyed : survey_of (inner_of config) config served_last (text_of stuck) ≡ NotMended 4 31
unfolding all_of all_below any_below sum_below mask_below first_below each_below shifted place_filled filled is_void is_payload is_kind is_mask is_good same_value part_in no_requests no_runnable no_values no_element no_stack no_slot no_places place_in with_place pushed oldest without_oldest push_area top_area pop_area max_of count_of places_of entry_of in_range names_there is_server is_queued rises rises_at pairs_well entry_fault is_no_entry place_sound kind_sound config_sound is_no_client client_fits requests_sound values_sound runnable_sound variable_sound is_stored element_sound is_outcome calling_sound done_sound operation_sound timer_sound waits_well life_sound owed_sound area_fits stack_sound is_no_slot slot_sound of_runnable slots_of count_sound times_in holders area_sound is_client queued_as served_as clients_as client_sound queued_sound served_sound called_sound runnables_sound variables_sound elements_sound operations_sound timers_sound slots_sound counts_sound areas_sound clients_sound shaped sound_of rows row_of argues formed part_there queues_as part_own asks_synchronous finished_lets failed_lets life_lets owned_refusal instance_refusal scheduler_refusal refusal_by refusal_of read_variable_of write_variable_of enter_of on_top exit_of read_of updated_of linked accepts fed_element fed_elements feeds is_fed fed_runnables fed write_of invalidate_of is_full full_mask sent_of send_of receive_of requests_full caller_after called call_of poll_of collect_of result_of closing returns is_returned returned_runnables closed answers hand_back_of timeout_of end_of is_due may_spawn starting instance_of is_empty_at lowest_empty found_empty spawned spawn_of tick_of operation_lets timer_lets operations_let timers_let operation_after operations_after timers_after runnables_after all_let waited wait_of fail_of act_of possible_of agrees claimed_of inner_of step_of each passed_over behind sequences up_to_three choices_in sequences_of fills rank_of answered_all state_after turns_of values_good tested step_in end_in field_of text_of whole_from whole_of mended_steps note_count turn_notes step_notes survey_of config done calling bearing running state_with served last served_last step call spawn back stuck waits_on waiters_of waiter_sound waiters_sound is_edition parts_sound has_step marks_invalid top_of most_pending one_more is_no_awaited awaits_well is_no_life is_no_owed is_no_stack ends_waiting waiting_lets held_well asks_waiting slot_lets slots_let slots_after hold_of give_up_of judge_from judge_of is_unplanned done_shown operation_shown judged_shown named_there listed_there lists_of has_room lists_well has_field lists_elements listed_below copied_sound copies_sound copy_sound has_copy is_no_copy copy_in lists_at first_listed handed_elements handed_runnables cleared copied_elements copied_into no_copies
stuck-surveyed = refl

-- what the mender answers to both as texts: five steps and two notes; and 31 at the fourth step
pub mender-answers : (mend_to config served_last (text_of lost) (replicate 83 0) (replicate 32 0) ≡ Whole 5 2) × (mend_to config served_last (text_of stuck) (replicate 83 0) (replicate 32 0) ≡ NotMended 4 31)
unfolding mend_to
mender-answers = (
  rw first-sound (ap (fitted (replicate 83 0) (replicate 32 0)) (survey-once config served_last first-sound (text_of lost) ∙ lost-surveyed)),
  rw first-sound (ap (fitted (replicate 83 0) (replicate 32 0)) (survey-once config served_last first-sound (text_of stuck) ∙ stuck-surveyed)),
)
