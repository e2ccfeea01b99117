-- The eighteen steps, fail, hold, give up, read copy and write copy, once refusals 2 to 5 have let them through: each with its own refusals, its answer and the state after it ("The eighteen steps" and the paragraphs below its table; W-201; W-205; W-210; W-211).
-- Assumes nothing.
use Rattle.std.specs.Prelude.{ℕ, zero, suc, ◌+◌, ◌-◌, ◌%◌, Bool, true, false, not, ltb, leb, eqb, Option, Some, None}
use Rattle.numbers.specs.Tags.{operation_tag, required_tag}
use Rattle.numbers.specs.Refusals.{malformed, area_taken, not_on_top, queue_full, number_borne, still_waits, not_due, no_slot_free, too_far, not_over, areas_held, wrong_client}
use Rattle.laws.specs.Choice.{pick, both, either, bit}
use Rattle.laws.specs.Loop.{all_below, any_below, first_below}
use Rattle.laws.specs.Mask.{mask_below}
use Rattle.laws.specs.Row.{each_below}
use Rattle.values.specs.Values.{void_v, number_v, ok_v, limit_v, no_data_v, timeout_v, invalid_v, full_v, server_err_v, never_received_v, is_number, is_payload}
use Rattle.faces.specs.Types.{Value, Taken, Refused, Lists, Config, RunnableConf, Link, Client, Runnable, Runnables, Element, Elements, Operation, Operations, Timer, Timers, Owed, Slot, Slots, Copies, Copied, State, Stepped, Awaited}
use Rattle.config.specs.Tables.{runnable_conf_in, required_conf_in, link_in, operation_conf_in, timer_conf_in, data_event_in, return_event_in, top_of, max_listed}
use Rattle.config.specs.Lists.{lists_at, element_at, place_of, is_listed}
use Rattle.entries.specs.Faults.{is_queued}
use Rattle.state.specs.Parts.{last_number, no_awaited, no_owed, no_stack, no_slot, no_runnable, no_element, no_operation, no_timer, no_copies}
use Rattle.state.specs.Fields.{with_interval, with_pending, with_instances, with_requests, with_value, with_updated, with_queue, with_count, with_left, life_awaiting, life_finished, life_failed, life_of, with_life, with_owed, with_stack}
use Rattle.state.specs.Tables.{max_slots, runnable_in, variable_in, area_in, element_in, operation_in, timer_in, slot_in, copy_in, copies_in, with_runnable, with_variable, with_area, with_element, with_operation, with_timer, with_slot, with_runnables, with_variables, with_areas, with_elements, with_operations, with_timers, with_slots, with_copy, with_copies, with_incoming, with_outgoing}
use Rattle.state.specs.Queues.{up_one, push_request, first_request, rest_requests, push_value, first_value, rest_values, push_area, top_area, pop_area}
use Rattle.rules.specs.Sound.{is_waiting, is_held, clients_as, is_bound}

-- a refusal leaves the state as it was ("Numbers of refusal")
abbrev pub refused : ℕ → State → Stepped
refused n st = record { answer = Refused n; state = st }

-- a step taken, its answer and the state after it ("The eighteen steps")
abbrev pub took : Value → State → Stepped
took v st = record { answer = Taken v; state = st }

-- ---- 1, 2: variables

-- the answer is what the variable holds, and the state is kept ("The eighteen steps", 1)
unfoldable pub read_variable_of : State → ℕ → Stepped
read_variable_of st v = took (variable_in st.variables v).value st

-- the state after a variable is written: it holds the payload ("The eighteen steps", 2)
abbrev pub stored : State → ℕ → Value → State
stored st v x = with_variables st (with_variable st.variables v (record { value = x }))

-- the variable holds the payload ("The eighteen steps", 2)
unfoldable pub write_variable_of : State → ℕ → Value → Stepped
write_variable_of st v x = took void_v (stored st v x)

-- ---- 3, 4: areas

-- the same slot with the area put on its stack ("The eighteen steps", 3)
abbrev pub entering : Slot → ℕ → Slot
entering x a = with_stack x (push_area x.stack a)

-- the same slot with the top of its stack taken off ("The eighteen steps", 4)
abbrev pub exiting : Slot → Slot
exiting x = with_stack x (pop_area x.stack)

-- the area is taken ("The eighteen steps", 3)
abbrev pub is_taken : State → ℕ → Bool
is_taken st a = (area_in st.areas a).taken

-- the state after the instance i has entered: the area is taken, and lies on top of its stack ("The eighteen steps", 3)
abbrev pub entered : State → ℕ → ℕ → State
entered st i a = with_slots (with_areas st (with_area st.areas a (record { taken = true }))) (with_slot st.slots i (entering (slot_in st.slots i) a))

-- an area that is free is entered; 6 if it is taken already ("The eighteen steps", 3)
unfoldable pub enter_of : State → ℕ → ℕ → Stepped
enter_of st i a = pick (is_taken st a) (refused area_taken st) (took void_v (entered st i a))

-- the area is on top ("The eighteen steps", 4)
unfoldable pub on_top : Slot → ℕ → Bool
on_top x a = both (ltb 0 x.stack.held) (eqb (top_area x.stack) a)

-- the state after the instance i has left: the area is off its stack, and free again ("The eighteen steps", 4)
abbrev pub exited : State → ℕ → ℕ → State
exited st i a = with_slots (with_areas st (with_area st.areas a (record { taken = false }))) (with_slot st.slots i (exiting (slot_in st.slots i)))

-- an area on top is left; no other may be ("The eighteen steps", 4)
unfoldable pub exit_of : State → ℕ → ℕ → Stepped
exit_of st i a = pick (on_top (slot_in st.slots i) a) (took void_v (exited st i a)) (refused not_on_top st)

-- ---- 5, 7: an unqueued element read, and its flag asked

-- the same element with its flag off ("The eighteen steps", 5)
abbrev pub seen : Element → Element
seen x = with_updated x false

-- the state after the element was read: its flag is off ("The eighteen steps", 5)
abbrev pub looked : State → ℕ → State
looked st q = with_elements st (with_element st.elements q (seen (element_in st.elements q)))

-- the answer is what the element holds, and its flag goes off ("The eighteen steps", 5)
unfoldable pub read_of : State → ℕ → Stepped
read_of st q = took (element_in st.elements q).value (looked st q)

-- the answer is 1 if the flag is on, else 0, and the flag is kept ("The eighteen steps", 7)
unfoldable pub updated_of : State → ℕ → Stepped
updated_of st q = took (number_v (bit (element_in st.elements q).updated)) st

-- ---- 6, 8, 10: a value goes to every linked element

-- the link goes from the provided element p to the required element q ("The files", tag 15)
abbrev pub joins : Link → ℕ → ℕ → Bool
joins k p q = both (eqb k.provided p) (eqb k.required q)

-- the provided element p is linked to the required element q ("The eighteen steps", 6, 8 and 10)
unfoldable pub linked : Config → ℕ → ℕ → Bool
linked cfg p q = any_below (λ (l : ℕ). joins (link_in cfg.links l) p q) cfg.links.n

-- an unqueued element takes any value, a queued one while it has room ("The eighteen steps", 6 and 10)
unfoldable pub accepts : Config → ℕ → Element → Bool
accepts cfg q x = either (not (is_queued cfg q)) (ltb x.queue.queued (required_conf_in cfg.required q).capacity)

-- the element with the value in place and the flag on ("The eighteen steps", 6 and 8)
abbrev pub storing : Value → Element → Element
storing v x = with_updated (with_value x v) true

-- the element with the value last in its queue ("The eighteen steps", 10)
abbrev pub queueing : Value → Element → Element
queueing v x = with_queue x (push_value x.queue v)

-- the element q after p has handed over v: a full queue drops it, and stops no other ("The eighteen steps", 6, 8 and 10)
unfoldable pub fed_element : Config → ℕ → Value → ℕ → Element → Element
fed_element cfg p v q x =
    pick (both (linked cfg p q) (accepts cfg q x)) (pick (is_queued cfg q) (queueing v x) (storing v x)) x

-- every required element after p has handed over v ("The eighteen steps", 6, 8 and 10)
unfoldable pub fed_elements : Config → ℕ → Value → Elements → Elements
fed_elements cfg p v t = record { at = each_below (fed_element cfg p v) no_element cfg.required.n t.at }

-- one more, but never past the top (W-212)
unfoldable pub one_more : ℕ → ℕ → ℕ
one_more top n = pick (ltb n top) (n + 1) n

-- a runnable has one more activation pending, up to its top ("The eighteen steps", events; W-212)
abbrev pub woken : RunnableConf → Runnable → Runnable
woken c x = with_pending x (one_more (top_of c) x.pending)

-- the data event e is one of r, and its element stores what p hands over, and does not drop it (ours) ("The eighteen steps", events)
unfoldable pub feeds : Config → Elements → ℕ → ℕ → ℕ → Bool
feeds cfg t p r e =
    both (eqb (data_event_in cfg.devents e).runnable r)
    (both (linked cfg p (data_event_in cfg.devents e).required) (accepts cfg (data_event_in cfg.devents e).required (element_in t (data_event_in cfg.devents e).required)))

-- some data event of r is one that p feeds ("The eighteen steps", events)
unfoldable pub is_fed : Config → Elements → ℕ → ℕ → Bool
is_fed cfg t p r = any_below (feeds cfg t p r) cfg.devents.n

-- all runnables, each woken once that data events wake ("The eighteen steps", events; W-212)
unfoldable pub fed_runnables : Config → Elements → ℕ → Runnables → Runnables
fed_runnables cfg t p rs =
    record { at = each_below (λ (r : ℕ) (x : Runnable). pick (is_fed cfg t p r) (woken (runnable_conf_in cfg.runnables r) x) x) no_runnable cfg.runnables.n rs.at }

-- the state after p has handed over v, data events included ("The eighteen steps", 6 and 10)
unfoldable pub fed : Config → State → ℕ → Value → State
fed cfg st p v =
    with_runnables (with_elements st (fed_elements cfg p v st.elements)) (fed_runnables cfg st.elements p st.runnables)

-- every linked element holds the value, and data events follow ("The eighteen steps", 6)
unfoldable pub write_of : Config → State → ℕ → Value → Stepped
write_of cfg st p v = took void_v (fed cfg st p v)

-- the state after p is invalidated: every linked element is Invalid, and no data event follows (ours) ("The eighteen steps", 8)
abbrev pub invalidated : Config → State → ℕ → State
invalidated cfg st p = with_elements st (fed_elements cfg p invalid_v st.elements)

-- every linked element is Invalid ("The eighteen steps", 8)
unfoldable pub invalidate_of : Config → State → ℕ → Stepped
invalidate_of cfg st p = took void_v (invalidated cfg st p)

-- the linked queue q is full ("The eighteen steps", 10)
unfoldable pub is_full : Config → Elements → ℕ → ℕ → Bool
is_full cfg t p q = both (linked cfg p q) (not (accepts cfg q (element_in t q)))

-- the linked queues that are full, as a mask: bit q for the required element q (W-201)
unfoldable pub full_mask : Config → Elements → ℕ → ℕ
full_mask cfg t p = mask_below (is_full cfg t p) cfg.required.n

-- what a send answers: Ok if no linked queue was full, else Full with the mask of those that were ("The eighteen steps", 10; W-201)
unfoldable pub sent_of : ℕ → Value
sent_of mask = pick (eqb mask 0) ok_v (full_v mask)

-- the value goes to each linked queue that has a place left, and the answer names those that had none ("The eighteen steps", 10; W-201)
unfoldable pub send_of : Config → State → ℕ → Value → Stepped
send_of cfg st p v = took (sent_of (full_mask cfg st.elements p)) (fed cfg st p v)

-- ---- waiting: on an operation, or for data

-- the slot with what its instance waits for ("The eighteen steps", Call and Result; W-210)
abbrev pub awaiting : Slot → Awaited → Slot
awaiting x a = with_life x (life_awaiting x.life a)

-- the slot with its instance no longer waiting ("The eighteen steps", Result; W-210)
abbrev pub running_on : Slot → Slot
running_on x = awaiting x no_awaited

-- the state with what the instance i waits for ("The eighteen steps", Call and Result; W-210)
abbrev pub awaited : State → ℕ → Awaited → State
awaited st i a = with_slots st (with_slot st.slots i (awaiting (slot_in st.slots i) a))

-- the state after the instance i has gone on: it waits no longer ("The eighteen steps", Result; W-210)
abbrev pub gone_on : State → ℕ → State
gone_on st i = awaited st i no_awaited

-- the instance i waits ("Numbers of refusal", 5)
abbrev pub waits : State → ℕ → Bool
waits st i = is_waiting (slot_in st.slots i).life

-- ---- 9: receive

-- the element without the oldest value of its queue ("The eighteen steps", 9)
abbrev pub receiving : Element → Element
receiving x = with_queue x (rest_values x.queue)

-- the queue of the element q is empty ("The eighteen steps", 9)
abbrev pub is_bare : State → ℕ → Bool
is_bare st q = eqb (element_in st.elements q).queue.queued 0

-- the state with the oldest value gone from the queue of the element q ("The eighteen steps", 9)
abbrev pub dequeued : State → ℕ → State
dequeued st q = with_elements st (with_element st.elements q (receiving (element_in st.elements q)))

-- the state after a receive: the oldest value has left the queue, and the instance i goes on if it was held ("The eighteen steps", 9; W-210)
abbrev pub received : State → ℕ → ℕ → State
received st i q = gone_on (dequeued st q) i

-- the oldest value leaves the queue and is the answer; if there is none, NoData, and 10 for one that is held ("The eighteen steps", 9; W-210)
unfoldable pub receive_of : State → ℕ → ℕ → Stepped
receive_of st i q =
    pick (is_bare st q) (pick (waits st i) (refused still_waits st) (took no_data_v st))
    (took (first_value (element_in st.elements q).queue) (received st i q))

-- ---- 11: call

-- the call of an operation is open ("The eighteen steps", Call)
abbrev pub is_open : State → ℕ → Bool
is_open st o = (operation_in st.operations o).calling

-- a call on the operation finds it open or bound (W-202)
abbrev pub is_busy : State → ℕ → Bool
is_busy st o = either (is_open st o) (is_bound st.slots o)

-- a client of the operation, queued or on an instance, still bears its number (W-206)
abbrev pub is_borne : State → ℕ → Bool
is_borne st o = ltb 0 (clients_as st.runnables st.slots o (operation_in st.operations o).number)

-- the operation is Calling, with its timeout as the count and its number kept ("The eighteen steps", Call)
abbrev pub opening : ℕ → Operation → Operation
opening timeout x = record { number = x.number; calling = true; count = timeout; done = void_v }

-- the server's queue has no room ("Numbers of refusal", 8)
unfoldable pub requests_full : Config → Runnables → ℕ → Bool
requests_full cfg rs r = leb (runnable_conf_in cfg.runnables r).capacity (runnable_in rs r).requests.queued

-- the runnable with a client last in its requests ("The eighteen steps", Call)
abbrev pub asking : Runnable → Client → Runnable
asking x c = with_requests x (push_request x.requests c)

-- the operation o to wait on ("The eighteen steps", Call)
abbrev pub on_operation : ℕ → Awaited
on_operation o = record { part = operation_tag; on = o; left = 0 }

-- the slot with its instance waiting on the operation o ("The eighteen steps", Call)
abbrev pub waiting_on : Slot → ℕ → Slot
waiting_on x o = awaiting x (on_operation o)

-- the caller after a started call: on a synchronous operation it waits ("The eighteen steps", Call)
unfoldable pub caller_after : Config → ℕ → Slot → Slot
caller_after cfg o x = pick (operation_conf_in cfg.operations o).asynchronous x (waiting_on x o)

-- the state after a started call: its operation, number and argument stand last in the server's queue ("The eighteen steps", Call)
unfoldable pub called : Config → State → ℕ → ℕ → Value → State
called cfg st i o v =
    with_slots
    (with_runnables
    (with_operations st (with_operation st.operations o (opening (operation_conf_in cfg.operations o).timeout (operation_in st.operations o))))
    (with_runnable st.runnables (operation_conf_in cfg.operations o).server
    (asking (runnable_in st.runnables (operation_conf_in cfg.operations o).server) (record { operation = o; number = (operation_in st.operations o).number; argument = v }))))
    (with_slot st.slots i (caller_after cfg o (slot_in st.slots i)))

-- Limit while the operation is open or bound, and nothing changes; else 28, 8, or a call is started ("The eighteen steps", Call; "Numbers of refusal", 8; W-202, W-206)
unfoldable pub call_of : Config → State → ℕ → ℕ → Value → Stepped
call_of cfg st i o v =
    pick (is_busy st o) (took limit_v st)
    (pick (is_borne st o) (refused number_borne st)
    (pick (requests_full cfg st.runnables (operation_conf_in cfg.operations o).server) (refused queue_full st)
    (took ok_v (called cfg st i o v))))

-- ---- 12: result

-- asynchronous: NoData as long as the call has not ended, then what the operation is Done with, which it keeps ("The eighteen steps", Result)
unfoldable pub poll_of : State → ℕ → Stepped
poll_of st o = pick (is_open st o) (took no_data_v st) (took (operation_in st.operations o).done st)

-- synchronous: as soon as the call has ended, what the operation is Done with, which it keeps, and the caller waits no longer ("The eighteen steps", Result; "Numbers of refusal", 10)
unfoldable pub collect_of : State → ℕ → ℕ → Stepped
collect_of st i o = pick (is_open st o) (refused still_waits st) (took (operation_in st.operations o).done (gone_on st i))

-- a result, by the kind of the operation ("The eighteen steps", Result)
unfoldable pub result_of : Config → State → ℕ → ℕ → Stepped
result_of cfg st i o = pick (operation_conf_in cfg.operations o).asynchronous (poll_of st o) (collect_of st i o)

-- ---- 13, 16: a call ends

-- the operation is Done with a value, at the next number; behind the last one comes 0 ("The eighteen steps", 13 and 16; W-206)
unfoldable pub closing : Value → Operation → Operation
closing v x = record { number = (x.number + 1) % (last_number + 1); calling = false; count = 0; done = v }

-- the return event e is one of r on the operation o ("The eighteen steps", events)
unfoldable pub returns : Config → ℕ → ℕ → ℕ → Bool
returns cfg o r e = both (eqb (return_event_in cfg.revents e).runnable r) (eqb (return_event_in cfg.revents e).operation o)

-- some return event of r is on the operation o ("The eighteen steps", events)
unfoldable pub is_returned : Config → ℕ → ℕ → Bool
is_returned cfg o r = any_below (returns cfg o r) cfg.revents.n

-- all runnables, each woken once that return events wake ("The eighteen steps", events; W-212)
unfoldable pub returned_runnables : Config → ℕ → Runnables → Runnables
returned_runnables cfg o rs =
    record { at = each_below (λ (r : ℕ) (x : Runnable). pick (is_returned cfg o r) (woken (runnable_conf_in cfg.runnables r) x) x) no_runnable cfg.runnables.n rs.at }

-- the state after the call of o has ended with v, return events included ("The eighteen steps", 13 and 16)
unfoldable pub closed : Config → State → ℕ → Value → State
closed cfg st o v =
    with_runnables (with_operations st (with_operation st.operations o (closing v (operation_in st.operations o)))) (returned_runnables cfg o st.runnables)

-- the operation is Calling with the client's number ("The eighteen steps", Hand back)
unfoldable pub answers : Operations → Client → Bool
answers os c = both (operation_in os c.operation).calling (eqb (operation_in os c.operation).number c.number)

-- a slot that has handed back: it owes nobody, and its instance counts as finished ("The eighteen steps", Hand back)
abbrev pub finishing : Slot → Slot
finishing x = with_owed (with_life x (life_finished x.life)) no_owed

-- the instance i owes an answer to a client ("The eighteen steps", Hand back)
abbrev pub serves : State → ℕ → Bool
serves st i = (slot_in st.slots i).owed.serving

-- the client of the instance i ("The eighteen steps", Hand back)
abbrev pub client_of : State → ℕ → Client
client_of st i = (slot_in st.slots i).owed.client

-- the state next, in which the slot i of st has handed back ("The eighteen steps", Hand back)
abbrev pub finished : State → State → ℕ → State
finished st next i = with_slots next (with_slot st.slots i (finishing (slot_in st.slots i)))

-- the state after a hand back in time: the client's call has ended with v, and the instance is finished ("The eighteen steps", Hand back)
abbrev pub answered : Config → State → ℕ → Value → State
answered cfg st i v = finished st (closed cfg st (client_of st i).operation v) i

-- the instance i has failed (W-205)
abbrev pub has_failed : State → ℕ → Bool
has_failed st i = (slot_in st.slots i).life.failed

-- an instance that has failed hands back a Number, where it may hand back Void alone (W-205)
abbrev pub hands_number : State → ℕ → Value → Bool
hands_number st i v = both (has_failed st i) (is_number v)

-- what a hand back delivers: ServerErr for an instance that has failed, its argument for any other ("The eighteen steps", Hand back; W-205)
abbrev pub handed_back : State → ℕ → Value → Value
handed_back st i v = pick (has_failed st i) server_err_v v

-- Number 1 if that ends the client's call, else Number 0 and the operation as it was; 2 for a Number from an instance that has failed, then 16 without a client ("The eighteen steps", Hand back; W-205)
unfoldable pub hand_back_of : Config → State → ℕ → Value → Stepped
hand_back_of cfg st i v =
    pick (hands_number st i v) (refused malformed st)
    (pick (serves st i)
    (pick (answers st.operations (client_of st i)) (took (number_v 1) (answered cfg st i (handed_back st i v))) (took (number_v 0) (finished st st i)))
    (refused wrong_client st))

-- a call is open, and its count has run out ("The eighteen steps", 16)
abbrev pub is_over : State → ℕ → Bool
is_over st o = both (is_open st o) (eqb (operation_in st.operations o).count 0)

-- a call that is over ends with Timeout ("The eighteen steps", 16)
unfoldable pub timeout_of : Config → State → ℕ → Stepped
timeout_of cfg st o = pick (is_over st o) (took void_v (closed cfg st o timeout_v)) (refused not_over st)

-- ---- 14: end

-- the runnable with one instance less ("The eighteen steps", 14)
abbrev pub leaving : Runnable → Runnable
leaving x = with_instances x (x.instances - 1)

-- the instance i holds areas ("Numbers of refusal", 15)
abbrev pub holds : State → ℕ → Bool
holds st i = ltb 0 (slot_in st.slots i).stack.held

-- the state after the instance i has ended: its slot is empty, and its runnable has one instance less ("The eighteen steps", 14)
abbrev pub emptied : State → ℕ → State
emptied st i =
    with_slots
    (with_runnables st (with_runnable st.runnables (slot_in st.slots i).life.runnable (leaving (runnable_in st.runnables (slot_in st.slots i).life.runnable))))
    (with_slot st.slots i no_slot)

-- the runnable of the instance i (W-211)
abbrev pub runnable_of : State → ℕ → ℕ
runnable_of st i = (slot_in st.slots i).life.runnable

-- the provided element at place j of r's list is written at the end of an instance with the copies c: it was set, which a copy is from its first payload on (W-211)
unfoldable pub is_given : Lists → ℕ → Copies → ℕ → Bool
is_given t r c j = both (lists_at t r j) (is_payload (copy_in c j))

-- every required element after the first n of r's list that were set are written, one after the other (W-211)
unfoldable pub given_elements : Config → ℕ → Copies → ℕ → Elements → Elements
given_elements cfg r c zero t = t
given_elements cfg r c (suc n) t =
    pick (is_given cfg.outgoing r c n) (fed_elements cfg (element_at cfg.outgoing r n) (copy_in c n) (given_elements cfg r c n t)) (given_elements cfg r c n t)

-- some element of r's list that was set feeds a data event of the runnable k (W-211)
unfoldable pub is_given_to : Config → Elements → ℕ → Copies → ℕ → Bool
is_given_to cfg t r c k = any_below (λ (j : ℕ). both (is_given cfg.outgoing r c j) (is_fed cfg t (element_at cfg.outgoing r j) k)) max_listed

-- all runnables, each woken once that data events of the written elements wake (W-211, W-212)
unfoldable pub given_runnables : Config → Elements → ℕ → Copies → Runnables → Runnables
given_runnables cfg t r c rs =
    record { at = each_below (λ (k : ℕ) (x : Runnable). pick (is_given_to cfg t r c k) (woken (runnable_conf_in cfg.runnables k) x) x) no_runnable cfg.runnables.n rs.at }

-- the runnable r lists elements (W-211)
abbrev pub lists_some : Lists → ℕ → Bool
lists_some t r = lists_at t r 0

-- what the instance i has set is written at its end: it lists elements, and has not failed (W-211)
abbrev pub hands_on : Config → State → ℕ → Bool
hands_on cfg st i = both (lists_some cfg.outgoing (runnable_of st i)) (not (has_failed st i))

-- every required element after what the instance i has set is written (W-211)
unfoldable pub handed_elements : Config → State → ℕ → Elements
handed_elements cfg st i = pick (hands_on cfg st i) (given_elements cfg (runnable_of st i) (copies_in st.outgoing i) max_listed st.elements) st.elements

-- all runnables after that, data events included (W-211)
unfoldable pub handed_runnables : Config → State → ℕ → Runnables
handed_runnables cfg st i = pick (hands_on cfg st i) (given_runnables cfg st.elements (runnable_of st i) (copies_in st.outgoing i) st.runnables) st.runnables

-- the state after what the instance i has set is written (W-211)
abbrev pub handed_on : Config → State → ℕ → State
handed_on cfg st i = with_runnables (with_elements st (handed_elements cfg st i)) (handed_runnables cfg st i)

-- no copies in the slot i, which had some only if its runnable r lists elements (W-211)
unfoldable pub cleared : Lists → ℕ → Copied → ℕ → Copied
cleared t r cs i = pick (lists_some t r) (with_copies cs i no_copies) cs

-- the state with no copies in the slot i of the runnable r (W-211)
abbrev pub uncopied : Config → State → ℕ → ℕ → State
uncopied cfg st r i = with_outgoing (with_incoming st (cleared cfg.incoming r st.incoming i)) (cleared cfg.outgoing r st.outgoing i)

-- the state after the instance i has ended: what it has set is written first, then its slot is empty ("The eighteen steps", 14; W-211)
abbrev pub ended : Config → State → ℕ → State
ended cfg st i = uncopied cfg (emptied (handed_on cfg st i) i) (runnable_of st i) i

-- 16 with a client, 15 with areas held; else the instance ends ("The eighteen steps", 14; W-211)
unfoldable pub end_of : Config → State → ℕ → Stepped
end_of cfg st i = pick (serves st i) (refused wrong_client st) (pick (holds st i) (refused areas_held st) (took void_v (ended cfg st i)))

-- ---- 15: spawn

-- a plain runnable has an activation pending, or a server a request ("The eighteen steps", Spawn; W-212)
unfoldable pub is_due : RunnableConf → Runnable → Bool
is_due c x = pick (eqb c.capacity 0) (ltb 0 x.pending) (ltb 0 x.requests.queued)

-- the three needs: the start interval has run out; it is concurrent or has no instance; it is due ("The eighteen steps", Spawn)
unfoldable pub may_spawn : RunnableConf → Runnable → Bool
may_spawn c x = both (eqb x.interval 0) (both (either (eqb x.instances 0) c.concurrent) (is_due c x))

-- a runnable with its interval started again and one instance more ("The eighteen steps", Spawn)
abbrev pub begun : RunnableConf → Runnable → Runnable
begun c x = with_instances (with_interval x c.interval) (up_one x.instances)

-- a runnable after its spawn: the interval starts again, there is one instance more, and a plain one has one activation less pending, a server not its oldest request ("The eighteen steps", Spawn; W-212)
unfoldable pub starting : RunnableConf → Runnable → Runnable
starting c x =
    pick (eqb c.capacity 0)
    (with_pending (begun c x) (x.pending - 1))
    (with_requests (begun c x) (rest_requests x.requests))

-- a new instance of r, with what it owes ("The eighteen steps", Spawn)
abbrev pub fresh : ℕ → Owed → Slot
fresh r w = record { used = true; life = life_of r; owed = w; stack = no_stack }

-- a plain runnable's instance has no client, a server's takes the oldest request ("The eighteen steps", Spawn)
unfoldable pub instance_of : RunnableConf → ℕ → Runnable → Slot
instance_of c r x = pick (eqb c.capacity 0) (fresh r no_owed) (fresh r (record { serving = true; client = first_request x.requests }))

-- the slot k is empty ("The eighteen steps", Spawn)
unfoldable pub is_empty_at : Slots → ℕ → Bool
is_empty_at t k = not (slot_in t k).used

-- the number of the lowest empty slot, or how many slots there are ("The eighteen steps", Spawn)
unfoldable pub lowest_empty : Slots → ℕ
lowest_empty t = first_below (is_empty_at t) max_slots

-- the lowest empty slot as an answer: its number, or nothing ("The eighteen steps", Spawn)
unfoldable pub found_empty : Slots → Option ℕ
found_empty t = pick (ltb (lowest_empty t) max_slots) (Some (lowest_empty t)) None

-- the state after r is spawned into the slot k ("The eighteen steps", Spawn)
unfoldable pub spawned : Config → State → ℕ → ℕ → State
spawned cfg st r k =
    with_slots
    (with_runnables st (with_runnable st.runnables r (starting (runnable_conf_in cfg.runnables r) (runnable_in st.runnables r))))
    (with_slot st.slots k (instance_of (runnable_conf_in cfg.runnables r) r (runnable_in st.runnables r)))

-- the copy at place j of a new instance of r: what the element that r lists there holds, if it lists one (W-211)
unfoldable pub copy_of : Lists → ℕ → Elements → ℕ → Value
copy_of t r es j = pick (lists_at t r j) (element_in es (element_at t r j)).value never_received_v

-- the copies of a new instance of r (W-211)
unfoldable pub copies_of : Lists → ℕ → Elements → Copies
copies_of t r es = record { at = each_below (λ (j : ℕ) (v : Value). copy_of t r es j) never_received_v max_listed no_copies.at }

-- every required element, those that r lists with their flag off (W-211)
unfoldable pub seen_elements : Config → ℕ → Elements → Elements
seen_elements cfg r es = record { at = each_below (λ (q : ℕ) (x : Element). pick (is_listed cfg.incoming r q) (seen x) x) no_element cfg.required.n es.at }

-- every required element after r is spawned (W-211)
unfoldable pub copied_elements : Config → ℕ → Elements → Elements
copied_elements cfg r es = pick (lists_some cfg.incoming r) (seen_elements cfg r es) es

-- all copies after that, with those of the new instance in the slot k, if it lists elements (W-211)
unfoldable pub copied_into : Config → ℕ → Elements → Copied → ℕ → Copied
copied_into cfg r es cs k = pick (lists_some cfg.incoming r) (with_copies cs k (copies_of cfg.incoming r es)) cs

-- the state after an instance of r in the slot k has copied the elements that r lists (W-211)
abbrev pub copied_to : Config → State → ℕ → ℕ → State
copied_to cfg st r k =
    with_incoming (with_elements st (copied_elements cfg r st.elements)) (copied_into cfg r st.elements st.incoming k)

-- the state after r is spawned into the slot k, copies included ("The eighteen steps", Spawn; W-211)
abbrev pub begun_in : Config → State → ℕ → ℕ → State
begun_in cfg st r k = copied_to cfg (spawned cfg st r k) r k

-- 11 if a need is not met, 12 if all slots are in use; else the answer is the Number of the new slot ("The eighteen steps", Spawn)
unfoldable pub spawn_of : Config → State → ℕ → Stepped
spawn_of cfg st r =
    pick (may_spawn (runnable_conf_in cfg.runnables r) (runnable_in st.runnables r))
    (pick (ltb (lowest_empty st.slots) max_slots) (took (number_v (lowest_empty st.slots)) (begun_in cfg st r (lowest_empty st.slots))) (refused no_slot_free st))
    (refused not_due st)

-- ---- 17: tick

-- the timer's count has run out ("The eighteen steps", 17)
abbrev pub is_up : State → ℕ → Bool
is_up st t = eqb (timer_in st.timers t).count 0

-- the state after a tick: the timer starts its period again, and its runnable is woken ("The eighteen steps", 17; W-212)
abbrev pub ticked : Config → State → ℕ → State
ticked cfg st t =
    with_runnables (with_timers st (with_timer st.timers t (record { count = (timer_conf_in cfg.timers t).period })))
    (with_runnable st.runnables (timer_conf_in cfg.timers t).runnable (woken (runnable_conf_in cfg.runnables (timer_conf_in cfg.timers t).runnable) (runnable_in st.runnables (timer_conf_in cfg.timers t).runnable)))

-- a timer that has run out ticks; any other is 14 ("The eighteen steps", 17)
unfoldable pub tick_of : Config → State → ℕ → Stepped
tick_of cfg st t = pick (is_up st t) (took void_v (ticked cfg st t)) (refused not_over st)

-- ---- 18: wait

-- an operation lets t pass: it is not in a call, or has t or more left ("The eighteen steps", Wait)
unfoldable pub operation_lets : ℕ → Operation → Bool
operation_lets t x = either (not x.calling) (leb t x.count)

-- a timer lets t pass: it has t or more left ("The eighteen steps", Wait)
unfoldable pub timer_lets : ℕ → Timer → Bool
timer_lets t x = leb t x.count

-- a slot lets t pass: its instance is not held, or has t or more left (W-210)
unfoldable pub slot_lets : ℕ → Slot → Bool
slot_lets t x = either (not (is_held x.life)) (leb t x.life.awaited.left)

-- every operation lets t pass ("The eighteen steps", Wait)
unfoldable pub operations_let : Config → Operations → ℕ → Bool
operations_let cfg os t = all_below (λ (o : ℕ). operation_lets t (operation_in os o)) cfg.operations.n

-- every timer lets t pass ("The eighteen steps", Wait)
unfoldable pub timers_let : Config → Timers → ℕ → Bool
timers_let cfg ts t = all_below (λ (k : ℕ). timer_lets t (timer_in ts k)) cfg.timers.n

-- every slot lets t pass (W-210)
unfoldable pub slots_let : Slots → ℕ → Bool
slots_let ss t = all_below (λ (i : ℕ). slot_lets t (slot_in ss i)) max_slots

-- an operation in a call has t less on its count, any other is the same ("The eighteen steps", Wait)
unfoldable pub operation_after : ℕ → Operation → Operation
operation_after t x = pick x.calling (with_count x (x.count - t)) x

-- a timer has t less on its count ("The eighteen steps", Wait)
abbrev pub timer_after : ℕ → Timer → Timer
timer_after t x = record { count = x.count - t }

-- a runnable has t less on its start interval, which stops at 0 ("The eighteen steps", Wait; W-203)
abbrev pub runnable_after : ℕ → Runnable → Runnable
runnable_after t x = with_interval x (x.interval - t)

-- a slot's instance has t less to be held, which is 0 for one that is not (W-210)
abbrev pub slot_after : ℕ → Slot → Slot
slot_after t x = awaiting x (with_left x.life.awaited (x.life.awaited.left - t))

-- every operation after t ("The eighteen steps", Wait)
unfoldable pub operations_after : Config → Operations → ℕ → Operations
operations_after cfg os t = record { at = each_below (λ (o : ℕ) (x : Operation). operation_after t x) no_operation cfg.operations.n os.at }

-- every timer after t ("The eighteen steps", Wait)
unfoldable pub timers_after : Config → Timers → ℕ → Timers
timers_after cfg ts t = record { at = each_below (λ (k : ℕ) (x : Timer). timer_after t x) no_timer cfg.timers.n ts.at }

-- every runnable after t ("The eighteen steps", Wait)
unfoldable pub runnables_after : Config → Runnables → ℕ → Runnables
runnables_after cfg rs t = record { at = each_below (λ (r : ℕ) (x : Runnable). runnable_after t x) no_runnable cfg.runnables.n rs.at }

-- every slot after t (W-210)
unfoldable pub slots_after : Slots → ℕ → Slots
slots_after ss t = record { at = each_below (λ (i : ℕ) (x : Slot). slot_after t x) no_slot max_slots ss.at }

-- every open call, every timer and every held instance lets t pass; no start interval holds it back ("The eighteen steps", Wait; W-203, W-210)
unfoldable pub all_let : Config → State → ℕ → Bool
all_let cfg st t = both (operations_let cfg st.operations t) (both (timers_let cfg st.timers t) (slots_let st.slots t))

-- the state after t has passed ("The eighteen steps", Wait)
unfoldable pub waited : Config → State → ℕ → State
waited cfg st t =
    with_slots
    (with_runnables (with_timers (with_operations st (operations_after cfg st.operations t)) (timers_after cfg st.timers t)) (runnables_after cfg st.runnables t))
    (slots_after st.slots t)

-- t passes if every open call, every timer and every held instance lets it, else 13 ("The eighteen steps", Wait; W-203, W-210)
unfoldable pub wait_of : Config → State → ℕ → Stepped
wait_of cfg st t = pick (all_let cfg st t) (took void_v (waited cfg st t)) (refused too_far st)

-- ---- 19: fail

-- a slot whose instance has failed; what it owes and holds stays with it (W-205)
abbrev pub failing : Slot → Slot
failing x = with_life x (life_failed x.life)

-- the state after the instance i has failed (W-205)
abbrev pub failed : State → ℕ → State
failed st i = with_slots st (with_slot st.slots i (failing (slot_in st.slots i)))

-- an instance fails; 5 has stopped one that waits, is finished or has failed before (W-205)
unfoldable pub fail_of : State → ℕ → Stepped
fail_of st i = took void_v (failed st i)

-- ---- 20, 21: hold and give up

-- the element q to wait for data on, for t milliseconds at most (W-210)
abbrev pub on_element : ℕ → ℕ → Awaited
on_element q t = record { part = required_tag; on = q; left = t }

-- the state after the instance i is held on the element q, for t milliseconds at most (W-210)
abbrev pub held : State → ℕ → ℕ → ℕ → State
held st i q t = awaited st i (on_element q t)

-- an instance is held, whether or not there is data already (W-210)
unfoldable pub hold_of : State → ℕ → ℕ → ℕ → Stepped
hold_of st i q t = took void_v (held st i q t)

-- the instance i has been held as long as it may be (W-210)
abbrev pub is_spent : State → ℕ → Bool
is_spent st i = eqb (slot_in st.slots i).life.awaited.left 0

-- a held instance whose time is up goes on, with Timeout; any other is 14 (W-210)
unfoldable pub give_up_of : State → ℕ → Stepped
give_up_of st i = pick (is_spent st i) (took timeout_v (gone_on st i)) (refused not_over st)

-- ---- 22, 23: copies

-- the answer is what the instance's copy of the required element q holds (W-211)
unfoldable pub read_copy_of : Config → State → ℕ → ℕ → Stepped
read_copy_of cfg st i q = took (copy_in (copies_in st.incoming i) (place_of cfg.incoming (runnable_of st i) q)) st

-- the copies of the instance i with v for the provided element p (W-211)
abbrev pub setting : Config → State → ℕ → ℕ → Value → Copies
setting cfg st i p v = with_copy (copies_in st.outgoing i) (place_of cfg.outgoing (runnable_of st i) p) v

-- the instance's copy of the provided element p holds the payload (W-211)
unfoldable pub write_copy_of : Config → State → ℕ → ℕ → Value → Stepped
write_copy_of cfg st i p v = took void_v (with_outgoing st (with_copies st.outgoing i (setting cfg st i p v)))
