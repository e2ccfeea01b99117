-- The late plan with steps of the scheduler lost: from the bytes to the answer, the mended text and the report, by computation.
-- Assumes nothing.
use Prim.Native.Nat.{ℕ, ◌+◌}
use mathlib.Core.Bool.{true}
use mathlib.Core.List.{List, [], ◌∷◌, ◌++◌, map, Memᴰ}
use mathlib.Core.Path.{◌≡◌, refl, sym, ap, ◌∙◌}
use lib.Dec.{eqb}
use lib.ListN.{length, replicate}
use Rattle.config.specs.Lists.{first_listed, listed_below, lists_at}
use Rattle.laws.specs.Choice.{pick, all_of}
use Rattle.laws.specs.Loop.{all_below, any_below, sum_below, first_below}
use Rattle.laws.specs.Mask.{mask_below}
use Rattle.laws.specs.Row.{each_below, shifted, place_filled, filled}
use Rattle.values.specs.Values.{is_void, is_payload, is_kind, is_mask, is_good, same_value}
use Rattle.config.specs.Editions.{is_edition, marks_invalid, has_step, has_field, lists_elements}
use Rattle.config.specs.Tables.{no_config, top_of}
use Rattle.state.specs.Parts.{no_requests, no_runnable, no_values, no_element, no_stack, no_slot, no_copies}
use Rattle.state.specs.Tables.{copy_in}
use Rattle.state.specs.Queues.{push_area, top_area, pop_area, oldest, pushed, without_oldest}
use Rattle.state.specs.Start.{start_variable, start_element, start_of, started}
use Rattle.entries.specs.Entries.{max_of, count_of, places_of, entry_of, placed}
use Rattle.entries.specs.Faults.{in_range, names_there, is_server, is_queued, rises, rises_at, pairs_well, entry_fault, is_no_entry, place_sound, kind_sound, config_sound, parts_sound, has_room, lists_well}
use Rattle.rules.specs.Sound.{is_no_client, client_fits, requests_sound, values_sound, runnable_sound, variable_sound, is_stored, element_sound, is_outcome, calling_sound, done_sound, operation_sound, timer_sound, waits_well, life_sound, owed_sound, area_fits, stack_sound, is_no_slot, slot_sound, of_runnable, slots_of, count_sound, times_in, holders, area_sound, is_client, queued_as, served_as, clients_as, client_sound, queued_sound, served_sound, called_sound, waits_on, waiters_of, waiter_sound, runnables_sound, variables_sound, elements_sound, operations_sound, timers_sound, slots_sound, counts_sound, areas_sound, clients_sound, waiters_sound, shaped, sound_of, most_pending, is_no_awaited, awaits_well, is_no_life, is_no_owed, is_no_stack, held_well, copied_sound, copies_sound, copy_sound, has_copy, is_no_copy}
use Rattle.rules.specs.Rows.{rows, row_of}
use Rattle.rules.specs.Refusals.{argues, formed, part_there, queues_as, part_own, asks_synchronous, finished_lets, failed_lets, life_lets, owned_refusal, instance_refusal, scheduler_refusal, refusal_by, refusal_of, ends_waiting, waiting_lets, asks_waiting, listed_there, lists_of, named_there}
use Rattle.effects.specs.Steps.{one_more, read_variable_of, write_variable_of, enter_of, on_top, exit_of, read_of, updated_of, linked, accepts, fed_element, fed_elements, feeds, is_fed, fed_runnables, fed, write_of, invalidate_of, is_full, full_mask, sent_of, send_of, receive_of, requests_full, caller_after, called, call_of, poll_of, collect_of, result_of, closing, returns, is_returned, returned_runnables, closed, answers, hand_back_of, timeout_of, end_of, is_due, may_spawn, starting, instance_of, is_empty_at, lowest_empty, found_empty, spawned, spawn_of, tick_of, operation_lets, timer_lets, operations_let, timers_let, operation_after, operations_after, timers_after, runnables_after, all_let, waited, wait_of, fail_of, slot_lets, slots_let, slots_after, hold_of, give_up_of, cleared, copied_elements, copied_into, handed_elements, handed_runnables}
use Rattle.effects.specs.Step.{act_of, possible_of, agrees, claimed_of, inner_of, step_of}
use Rattle.recording.specs.Recording.{values_good, tested, step_at, step_in, end_in, field_of}
use Rattle.reading.specs.Reading.{size_of, entry_read, in_order, head_of, body_fault, refused_at, read_from, config_of, size_in}
use Rattle.wire.specs.Bytes.{put_at}
use Rattle.recording.specs.Whole.{whole_from, whole_of, steps_in, text_of}
use Rattle.reading.specs.declared.Outcome.TheVariants.{Whole as Read}
use Rattle.faces.specs.Types.{Config}
use Rattle.gaps.specs.declared.Mended.{Mended}
use Rattle.gaps.specs.declared.Mended.TheVariants.{Whole, Refused}
use Rattle.gaps.specs.Orders.{each, passed_over, behind, sequences, up_to_three}
use Rattle.gaps.specs.Gaps.{Turn, choices_in, sequences_of, fills, rank_of, answered_all, state_after, turns_of, mended_steps}
use Rattle.gaps.proofs.Same.{turns-once}
use Rattle.config.specs.Table.{add_part, part_in}
use Rattle.state.specs.Places.{no_places, place_in, with_place}
use Rattle.gaps.specs.Report.{on_mended, on_last, fitted, step_notes, turn_notes, report_from, note_count, survey_of, mend_to, mend_written, mend_reported}

-- ---- the fields, byte by byte

-- two runnables, a client that may start and a server, and an operation with a timeout of 50
pub config_bytes : List ℕ
config_bytes = 0x01 ∷ 0x00 ∷ 0x01 ∷ 0x01 ∷ 0x10 ∷ 0x00 ∷ 0x07 ∷ 0x00 ∷ 0x02 ∷ 0x00 ∷ 0x00 ∷ 0x00 ∷ 0x00 ∷ 0x00 ∷ 0x10 ∷ 0x00 ∷ 0x07 ∷ 0x01 ∷ 0x00 ∷ 0x00 ∷ 0x00 ∷ 0x00 ∷ 0x00 ∷ 0x02 ∷ 0x16 ∷ 0x00 ∷ 0x07 ∷ 0x00 ∷ 0x01 ∷ 0x01 ∷ 0x00 ∷ 0x00 ∷ 0x00 ∷ 0x32 ∷ 0x7f ∷ 0x00 ∷ 0x00 ∷ []

-- spawn 0, in slot 0
spawn_client : List ℕ
spawn_client = 0x40 ∷ 0x00 ∷ 0x0d ∷ 0x0f ∷ 0x00 ∷ 0x00 ∷ 0x00 ∷ 0x00 ∷ 0x00 ∷ 0x00 ∷ 0x00 ∷ 0x01 ∷ 0x00 ∷ 0x00 ∷ 0x00 ∷ 0x00 ∷ []

-- slot 0 calls the operation with 7, Ok
call_seven : List ℕ
call_seven = 0x40 ∷ 0x00 ∷ 0x0d ∷ 0x0b ∷ 0x00 ∷ 0x00 ∷ 0x01 ∷ 0x00 ∷ 0x00 ∷ 0x00 ∷ 0x07 ∷ 0x02 ∷ 0x00 ∷ 0x00 ∷ 0x00 ∷ 0x00 ∷ []

-- spawn 1, in slot 1
spawn_server : List ℕ
spawn_server = 0x40 ∷ 0x00 ∷ 0x0d ∷ 0x0f ∷ 0x00 ∷ 0x01 ∷ 0x00 ∷ 0x00 ∷ 0x00 ∷ 0x00 ∷ 0x00 ∷ 0x01 ∷ 0x00 ∷ 0x00 ∷ 0x00 ∷ 0x01 ∷ []

-- wait 50
wait_fifty : List ℕ
wait_fifty = 0x40 ∷ 0x00 ∷ 0x0d ∷ 0x12 ∷ 0x00 ∷ 0x00 ∷ 0x01 ∷ 0x00 ∷ 0x00 ∷ 0x00 ∷ 0x32 ∷ 0x00 ∷ 0x00 ∷ 0x00 ∷ 0x00 ∷ 0x00 ∷ []

-- the timeout of operation 0
times_out : List ℕ
times_out = 0x40 ∷ 0x00 ∷ 0x0d ∷ 0x10 ∷ 0x00 ∷ 0x00 ∷ 0x00 ∷ 0x00 ∷ 0x00 ∷ 0x00 ∷ 0x00 ∷ 0x00 ∷ 0x00 ∷ 0x00 ∷ 0x00 ∷ 0x00 ∷ []

-- slot 1 hands back 9 too late, Number 0
back_late : List ℕ
back_late = 0x40 ∷ 0x00 ∷ 0x0d ∷ 0x0d ∷ 0x01 ∷ 0x00 ∷ 0x01 ∷ 0x00 ∷ 0x00 ∷ 0x00 ∷ 0x09 ∷ 0x01 ∷ 0x00 ∷ 0x00 ∷ 0x00 ∷ 0x00 ∷ []

-- slot 0 asks for the result, Timeout
ask_timeout : List ℕ
ask_timeout = 0x40 ∷ 0x00 ∷ 0x0d ∷ 0x0c ∷ 0x00 ∷ 0x00 ∷ 0x00 ∷ 0x00 ∷ 0x00 ∷ 0x00 ∷ 0x00 ∷ 0x05 ∷ 0x00 ∷ 0x00 ∷ 0x00 ∷ 0x00 ∷ []

-- slot 0 asks for the result, Number 9
ask_nine : List ℕ
ask_nine = 0x40 ∷ 0x00 ∷ 0x0d ∷ 0x0c ∷ 0x00 ∷ 0x00 ∷ 0x00 ∷ 0x00 ∷ 0x00 ∷ 0x00 ∷ 0x00 ∷ 0x01 ∷ 0x00 ∷ 0x00 ∷ 0x00 ∷ 0x09 ∷ []

last_field : List ℕ
last_field = 0x7f ∷ 0x00 ∷ 0x00 ∷ []

joined : List (List ℕ) → List ℕ
joined [] = last_field
joined (x ∷ xs) = x ++ joined xs

-- ---- notes, byte by byte

pub zeros : ℕ → List ℕ
zeros n = replicate n 0

-- a note of a step at a place below 256: its code, part, and answer's kind and number
note_of_step : ℕ → ℕ → ℕ → ℕ → ℕ → List ℕ
note_of_step place code part kind number = 1 ∷ code ∷ part ∷ kind ∷ (zeros 3 ++ (number ∷ (zeros 7 ++ (place ∷ []))))

-- a note of a gap, with fewer than 256 sequences passed over
note_of_gap : ℕ → ℕ → List ℕ
note_of_gap place passed = 2 ∷ (zeros 6 ++ (passed ∷ (zeros 7 ++ (place ∷ []))))

-- ---- the table

-- the answer, and what buffers of 115 and 48 bytes hold then, which were empty before
pub record Seen : Type 0 where
  pub answer : Mended
  pub text : List ℕ
  pub report : List ℕ

-- a recording, its turns, and what mending it comes to
pub record Row : Type 0 where
  pub recording : List ℕ
  pub turns : List Turn
  pub seen : Seen

turn : ℕ → List (List ℕ) → List ℕ → Turn
turn n xs x = record { passed = n; inserted = map step_at xs; kept = step_at x }

-- the late plan's own text
late_plan : List ℕ
late_plan = joined (spawn_client ∷ call_seven ∷ spawn_server ∷ wait_fifty ∷ times_out ∷ back_late ∷ ask_timeout ∷ [])

-- the late plan as it is: nothing to mend
whole : Row
whole = record {
  recording = late_plan;
  turns = turn 0 [] spawn_client ∷ turn 0 [] call_seven ∷ turn 0 [] spawn_server ∷ turn 0 [] wait_fifty ∷ turn 0 [] times_out ∷ turn 0 [] back_late ∷ turn 0 [] ask_timeout ∷ [];
  seen = record { answer = Whole 7 0; text = late_plan; report = zeros 48 };
}

-- without its timeout: the hand back that came too late is the first step refused, and the plan is back as it was
no_timeout : Row
no_timeout = record {
  recording = joined (spawn_client ∷ call_seven ∷ spawn_server ∷ wait_fifty ∷ back_late ∷ ask_timeout ∷ []);
  turns = turn 0 [] spawn_client ∷ turn 0 [] call_seven ∷ turn 0 [] spawn_server ∷ turn 0 [] wait_fifty ∷ turn 3 (times_out ∷ []) back_late ∷ turn 0 [] ask_timeout ∷ [];
  seen = record { answer = Whole 7 2; text = late_plan; report = note_of_step 5 16 0 0 0 ++ (note_of_gap 6 3 ++ zeros 16) };
}

-- without its second spawn: that is missed only where the server hands back, so it is put in there, behind the timeout
no_spawn : Row
no_spawn = record {
  recording = joined (spawn_client ∷ call_seven ∷ wait_fifty ∷ times_out ∷ back_late ∷ ask_timeout ∷ []);
  turns = turn 0 [] spawn_client ∷ turn 0 [] call_seven ∷ turn 0 [] wait_fifty ∷ turn 0 [] times_out ∷ turn 2 (spawn_server ∷ []) back_late ∷ turn 0 [] ask_timeout ∷ [];
  seen = record {
    answer = Whole 7 2;
    text = joined (spawn_client ∷ call_seven ∷ wait_fifty ∷ times_out ∷ spawn_server ∷ back_late ∷ ask_timeout ∷ []);
    report = note_of_step 5 15 1 1 1 ++ (note_of_gap 6 2 ++ zeros 16);
  };
}

-- without both: two steps in one gap
no_both : Row
no_both = record {
  recording = joined (spawn_client ∷ call_seven ∷ wait_fifty ∷ back_late ∷ ask_timeout ∷ []);
  turns = turn 0 [] spawn_client ∷ turn 0 [] call_seven ∷ turn 0 [] wait_fifty ∷ turn 9 (spawn_server ∷ times_out ∷ []) back_late ∷ turn 0 [] ask_timeout ∷ [];
  seen = record {
    answer = Whole 7 3;
    text = joined (spawn_client ∷ call_seven ∷ wait_fifty ∷ spawn_server ∷ times_out ∷ back_late ∷ ask_timeout ∷ []);
    report = note_of_step 4 15 1 1 1 ++ (note_of_step 5 16 0 0 0 ++ note_of_gap 6 9);
  };
}

-- the false claim of a plan that came too late: no lost step makes it true
false_claim : Row
false_claim = record {
  recording = joined (spawn_client ∷ call_seven ∷ spawn_server ∷ wait_fifty ∷ times_out ∷ back_late ∷ ask_nine ∷ []);
  turns = turn 0 [] spawn_client ∷ turn 0 [] call_seven ∷ turn 0 [] spawn_server ∷ turn 0 [] wait_fifty ∷ turn 0 [] times_out ∷ turn 0 [] back_late ∷ [];
  seen = record { answer = Refused 7 31; text = zeros 115; report = zeros 48 };
}

pub table : List Row
table = whole ∷ no_timeout ∷ no_spawn ∷ no_both ∷ false_claim ∷ []

-- ---- computed

turns_for : Config → List ℕ → List Turn
turns_for cfg t = turns_of (inner_of cfg) cfg (start_of cfg) (steps_in t)

-- the turns of each
late-turns : map (λ (x : Row). turns_for (config_of config_bytes).config x.recording) table ≡ map (λ (x : Row). x.turns) table
unfolding all_of all_below any_below sum_below mask_below first_below each_below shifted place_filled filled is_void is_payload is_kind is_mask is_good same_value part_in add_part no_config no_requests no_runnable no_values no_element no_stack no_slot no_places place_in with_place pushed oldest without_oldest push_area top_area pop_area start_variable start_element started start_of max_of count_of places_of entry_of placed in_range names_there is_server is_queued rises rises_at pairs_well entry_fault is_no_entry place_sound kind_sound config_sound is_no_client client_fits requests_sound values_sound runnable_sound variable_sound is_stored element_sound is_outcome calling_sound done_sound operation_sound timer_sound waits_well life_sound owed_sound area_fits stack_sound is_no_slot slot_sound of_runnable slots_of count_sound times_in holders area_sound is_client queued_as served_as clients_as client_sound queued_sound served_sound called_sound waits_on waiters_of waiter_sound runnables_sound variables_sound elements_sound operations_sound timers_sound slots_sound counts_sound areas_sound clients_sound waiters_sound shaped sound_of rows row_of argues formed part_there queues_as part_own asks_synchronous finished_lets failed_lets life_lets owned_refusal instance_refusal scheduler_refusal refusal_by refusal_of read_variable_of write_variable_of enter_of on_top exit_of read_of updated_of linked accepts fed_element fed_elements feeds is_fed fed_runnables fed write_of invalidate_of is_full full_mask sent_of send_of receive_of requests_full caller_after called call_of poll_of collect_of result_of closing returns is_returned returned_runnables closed answers hand_back_of timeout_of end_of is_due may_spawn starting instance_of is_empty_at lowest_empty found_empty spawned spawn_of tick_of operation_lets timer_lets operations_let timers_let operation_after operations_after timers_after runnables_after all_let waited wait_of fail_of act_of possible_of agrees claimed_of inner_of step_of values_good tested step_in end_in field_of size_of entry_read in_order head_of body_fault refused_at read_from config_of whole_from whole_of each passed_over behind sequences up_to_three choices_in sequences_of fills rank_of answered_all state_after turns_of config_bytes spawn_client call_seven spawn_server wait_fifty times_out back_late ask_timeout ask_nine last_field joined zeros note_of_step note_of_gap turn late_plan whole no_timeout no_spawn no_both false_claim table turns_for is_edition parts_sound has_step marks_invalid top_of most_pending one_more is_no_awaited awaits_well is_no_life is_no_owed is_no_stack ends_waiting waiting_lets held_well asks_waiting slot_lets slots_let slots_after hold_of give_up_of named_there listed_there lists_of has_room lists_well has_field lists_elements listed_below size_in copied_sound copies_sound copy_sound has_copy is_no_copy copy_in lists_at first_listed handed_elements handed_runnables cleared copied_elements copied_into no_copies
late-turns = refl

-- the configuration is read, and its start state is sound
late-read : (config_of config_bytes).outcome ≡ Read
unfolding all_of all_below any_below sum_below mask_below first_below each_below shifted place_filled filled is_void is_payload is_kind is_mask is_good same_value part_in add_part no_config no_requests no_runnable no_values no_element no_stack no_slot no_places place_in with_place pushed oldest without_oldest push_area top_area pop_area start_variable start_element started start_of max_of count_of places_of entry_of placed in_range names_there is_server is_queued rises rises_at pairs_well entry_fault is_no_entry place_sound kind_sound config_sound is_no_client client_fits requests_sound values_sound runnable_sound variable_sound is_stored element_sound is_outcome calling_sound done_sound operation_sound timer_sound waits_well life_sound owed_sound area_fits stack_sound is_no_slot slot_sound of_runnable slots_of count_sound times_in holders area_sound is_client queued_as served_as clients_as client_sound queued_sound served_sound called_sound waits_on waiters_of waiter_sound runnables_sound variables_sound elements_sound operations_sound timers_sound slots_sound counts_sound areas_sound clients_sound waiters_sound shaped sound_of rows row_of argues formed part_there queues_as part_own asks_synchronous finished_lets failed_lets life_lets owned_refusal instance_refusal scheduler_refusal refusal_by refusal_of read_variable_of write_variable_of enter_of on_top exit_of read_of updated_of linked accepts fed_element fed_elements feeds is_fed fed_runnables fed write_of invalidate_of is_full full_mask sent_of send_of receive_of requests_full caller_after called call_of poll_of collect_of result_of closing returns is_returned returned_runnables closed answers hand_back_of timeout_of end_of is_due may_spawn starting instance_of is_empty_at lowest_empty found_empty spawned spawn_of tick_of operation_lets timer_lets operations_let timers_let operation_after operations_after timers_after runnables_after all_let waited wait_of fail_of act_of possible_of agrees claimed_of inner_of step_of values_good tested step_in end_in field_of size_of entry_read in_order head_of body_fault refused_at read_from config_of config_bytes is_edition parts_sound has_step marks_invalid top_of most_pending one_more is_no_awaited awaits_well is_no_life is_no_owed is_no_stack ends_waiting waiting_lets held_well asks_waiting slot_lets slots_let slots_after hold_of give_up_of whole_from whole_of each passed_over behind sequences up_to_three choices_in sequences_of fills rank_of answered_all state_after turns_of named_there listed_there lists_of has_room lists_well has_field lists_elements listed_below size_in copied_sound copies_sound copy_sound has_copy is_no_copy copy_in lists_at first_listed handed_elements handed_runnables cleared copied_elements copied_into no_copies
late-read = refl

late-sound : sound_of (config_of config_bytes).config (start_of (config_of config_bytes).config) ≡ true
unfolding all_of all_below any_below sum_below mask_below first_below each_below shifted place_filled filled is_void is_payload is_kind is_mask is_good same_value part_in add_part no_config no_requests no_runnable no_values no_element no_stack no_slot no_places place_in with_place pushed oldest without_oldest push_area top_area pop_area start_variable start_element started start_of max_of count_of places_of entry_of placed in_range names_there is_server is_queued rises rises_at pairs_well entry_fault is_no_entry place_sound kind_sound config_sound is_no_client client_fits requests_sound values_sound runnable_sound variable_sound is_stored element_sound is_outcome calling_sound done_sound operation_sound timer_sound waits_well life_sound owed_sound area_fits stack_sound is_no_slot slot_sound of_runnable slots_of count_sound times_in holders area_sound is_client queued_as served_as clients_as client_sound queued_sound served_sound called_sound waits_on waiters_of waiter_sound runnables_sound variables_sound elements_sound operations_sound timers_sound slots_sound counts_sound areas_sound clients_sound waiters_sound shaped sound_of rows row_of argues formed part_there queues_as part_own asks_synchronous finished_lets failed_lets life_lets owned_refusal instance_refusal scheduler_refusal refusal_by refusal_of read_variable_of write_variable_of enter_of on_top exit_of read_of updated_of linked accepts fed_element fed_elements feeds is_fed fed_runnables fed write_of invalidate_of is_full full_mask sent_of send_of receive_of requests_full caller_after called call_of poll_of collect_of result_of closing returns is_returned returned_runnables closed answers hand_back_of timeout_of end_of is_due may_spawn starting instance_of is_empty_at lowest_empty found_empty spawned spawn_of tick_of operation_lets timer_lets operations_let timers_let operation_after operations_after timers_after runnables_after all_let waited wait_of fail_of act_of possible_of agrees claimed_of inner_of step_of values_good tested step_in end_in field_of size_of entry_read in_order head_of body_fault refused_at read_from config_of config_bytes is_edition parts_sound has_step marks_invalid top_of most_pending one_more is_no_awaited awaits_well is_no_life is_no_owed is_no_stack ends_waiting waiting_lets held_well asks_waiting slot_lets slots_let slots_after hold_of give_up_of whole_from whole_of each passed_over behind sequences up_to_three choices_in sequences_of fills rank_of answered_all state_after turns_of named_there listed_there lists_of has_room lists_well has_field lists_elements listed_below size_in copied_sound copies_sound copy_sound has_copy is_no_copy copy_in lists_at first_listed handed_elements handed_runnables cleared copied_elements copied_into no_copies
late-sound = refl

-- what turns come to
answer_by : List Turn → List ℕ → Mended
answer_by ts t =
    fitted (zeros 115) (zeros 48)
    (pick (eqb (length ts) (length (steps_in t))) (on_last (whole_of t).last (length (steps_in t)) (Whole (length (mended_steps ts)) (note_count ts))) (Refused (length ts + 1) 31))

seen_by : List Turn → List ℕ → Seen
seen_by ts t = record {
  answer = answer_by ts t;
  text = on_mended (answer_by ts t) (put_at (zeros 115) 0 (text_of (mended_steps ts))) (zeros 115);
  report = on_mended (answer_by ts t) (put_at (zeros 48) 0 (report_from 0 ts)) (zeros 48);
}

turns-seen : map (λ (x : Row). seen_by x.turns x.recording) table ≡ map (λ (x : Row). x.seen) table
unfolding is_void is_kind is_mask is_good same_value values_good tested step_in end_in field_of whole_from whole_of text_of mended_steps step_notes turn_notes report_from note_count answer_by seen_by spawn_client call_seven spawn_server wait_fifty times_out back_late ask_timeout ask_nine last_field joined zeros note_of_step note_of_gap turn late_plan whole no_timeout no_spawn no_both false_claim table
turns-seen = refl

-- ---- mended

-- what the public function's contract says of a recording, from the start state
pub mend_seen : Config → List ℕ → Seen
mend_seen cfg t = record {
  answer = mend_to cfg (start_of cfg) t (zeros 115) (zeros 48);
  text = mend_written cfg (start_of cfg) t (zeros 115) (zeros 48);
  report = mend_reported cfg (start_of cfg) t (zeros 115) (zeros 48);
}

seen-by : (cfg : Config) (t : List ℕ) → sound_of cfg (start_of cfg) ≡ true → mend_seen cfg t ≡ seen_by (turns_for cfg t) t
unfolding mend_seen seen_by answer_by turns_for mend_to survey_of
seen-by cfg t h = rw (h, turns-once cfg (start_of cfg) h (steps_in t))

module _ {A B : Type 0} (f g : A → B) where
  same_at : (l : List A) → map f l ≡ map g l → (x : A) → Memᴰ x l → f x ≡ g x
  same_at [] e x m = absurd (mathlib.Core.List.Memᴰ.not-nil m)
  same_at (y ∷ l) e x (Memᴰ.head q) = let z : f y ≡ g y = cc in ap f q ∙ z ∙ sym (ap g q)
  same_at (y ∷ l) e x (Memᴰ.tail m) = same_at l (let z : map f l ≡ map g l = cc in z) x m

-- every row of the table: read, mended and written
pub late-mended : (x : Row) → Memᴰ x table → mend_seen (config_of config_bytes).config x.recording ≡ x.seen
late-mended x m =
    seen-by (config_of config_bytes).config x.recording late-sound
    ∙ ap (λ (ts : List Turn). seen_by ts x.recording) (same_at (λ (y : Row). turns_for (config_of config_bytes).config y.recording) (λ (y : Row). y.turns) table late-turns x m)
    ∙ same_at (λ (y : Row). seen_by y.turns y.recording) (λ (y : Row). y.seen) table turns-seen x m
