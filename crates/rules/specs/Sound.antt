-- When a state is sound, as a test that computes ("A sound state"). Each clause is named, and goes over the tables that it reads; what is said of all stored values, or of all parts named, stands in the clauses of the tables that hold them.
-- A state that code holds has tables of the right lengths; as a definition ranges over any lists, the lengths are tested too.
-- Assumes nothing.
use Rattle.std.specs.Prelude.{ℕ, ◌+◌, Bool, not, List, [], ◌∷◌, ltb, leb, eqb, length, get_or}
use Rattle.numbers.specs.Tags.{operation_tag, required_tag}
use Rattle.laws.specs.Choice.{pick, both, either, alike, bit, all_of}
use Rattle.laws.specs.Loop.{all_below, sum_below, count_below}
use Rattle.laws.specs.Row.{filled}
use Rattle.values.specs.Values.{void_v, timeout_v, server_err_v, never_received_v, invalid_v, is_void, is_payload}
use Rattle.faces.specs.Types.{Value, Lists, Config, Client, Requests, Runnable, Runnables, Variable, Variables, Areas, Element, Elements, Operation, Operations, Timer, Timers, Life, Owed, Stack, Slot, Slots, Copies, Copied, State, Awaited}
use Rattle.config.specs.Editions.{marks_invalid}
use Rattle.config.specs.Tables.{max_runnable_confs, max_variable_confs, max_area_confs, max_required_confs, max_operation_confs, max_timer_confs, max_listed, runnable_conf_in, area_conf_in, required_conf_in, operation_conf_in, timer_conf_in, top_of}
use Rattle.config.specs.Lists.{lists_at}
use Rattle.entries.specs.Faults.{is_server, config_sound, max_time, is_queued}
use Rattle.state.specs.Parts.{last_number, no_client, max_requests, max_values}
use Rattle.state.specs.Tables.{max_slots, runnable_in, variable_in, area_in, element_in, operation_in, timer_in, slot_in, copy_in, copies_in}
use Rattle.rules.specs.Rows.{no_part}

-- the component of a runnable ("The parts, and how many")
abbrev pub component_of : Config → ℕ → ℕ
component_of cfg r = (runnable_conf_in cfg.runnables r).component

-- ---- clients and queues

-- the client that stands where there is none ("A sound state", unused places)
unfoldable pub is_no_client : Client → Bool
is_no_client c = both (eqb c.operation 0) (both (eqb c.number 0) (is_void c.argument))

-- a client of the server r: its operation is there and r serves it, and its argument is a payload ("A sound state", clients)
unfoldable pub client_fits : Config → ℕ → Client → Bool
client_fits cfg r c =
    both (ltb c.operation cfg.operations.n)
    (both (eqb (operation_conf_in cfg.operations c.operation).server r) (is_payload c.argument))

-- requests keep to the capacity, each is a client of that server, and the places behind them are blank ("A sound state", queue lengths)
unfoldable pub requests_sound : Config → ℕ → Requests → Bool
requests_sound cfg r q =
    both (leb q.queued (runnable_conf_in cfg.runnables r).capacity) (filled (client_fits cfg r) is_no_client no_client max_requests q.queued q.at)

-- queued values keep to the capacity, each is a payload, and the places behind them are blank ("A sound state", queue lengths)
unfoldable pub values_sound : ℕ → ℕ → List Value → Bool
values_sound capacity n l = both (leb n capacity) (filled is_payload is_void void_v max_values n l)

-- ---- one part at a time

-- the most activations that the runnable r may have pending: its top, and none for a server or for one that isn't there ("A sound state", counts and unused places; W-212)
unfoldable pub most_pending : Config → ℕ → ℕ
most_pending cfg r = pick (both (ltb r cfg.runnables.n) (not (is_server cfg r))) (top_of (runnable_conf_in cfg.runnables r)) 0

-- a runnable: its interval is at most the configured one, it has at most one instance without the concurrent flag, no more activations are pending than may be, and its requests are sound ("A sound state", counts and unused places; W-212)
unfoldable pub runnable_sound : Config → ℕ → Runnable → Bool
runnable_sound cfg r x =
    all_of
    (leb x.interval (runnable_conf_in cfg.runnables r).interval
    ∷ either (runnable_conf_in cfg.runnables r).concurrent (leb x.instances 1)
    ∷ leb x.pending (most_pending cfg r)
    ∷ requests_sound cfg r x.requests
    ∷ [])

-- a variable holds a payload, an unused one Void ("A sound state", stored values)
unfoldable pub variable_sound : Config → ℕ → Variable → Bool
variable_sound cfg v x = pick (ltb v cfg.variables.n) (is_payload x.value) (is_void x.value)

-- what an unqueued element may hold: a payload, NeverReceived, or Invalid in an edition that marks so ("A sound state", stored values; W-208)
unfoldable pub is_stored : ℕ → Value → Bool
is_stored e v =
    either (is_payload v) (both (either (eqb v.kind never_received_v.kind) (both (marks_invalid e) (eqb v.kind invalid_v.kind))) (eqb v.number 0))

-- an element: an unqueued one holds what it may and has no queue; a queued one, or one that isn't there, holds no value and has its flag off ("A sound state", stored values and unused places)
unfoldable pub element_sound : Config → ℕ → Element → Bool
element_sound cfg q x =
    both
    (pick (both (ltb q cfg.required.n) (eqb (required_conf_in cfg.required q).capacity 0))
    (is_stored cfg.edition x.value)
    (both (is_void x.value) (not x.updated)))
    (values_sound (required_conf_in cfg.required q).capacity x.queue.queued x.queue.at)

-- what Done may hold: a payload, Timeout or ServerErr ("A sound state", stored values; W-205)
unfoldable pub is_outcome : Value → Bool
is_outcome v = either (is_payload v) (both (either (eqb v.kind timeout_v.kind) (eqb v.kind server_err_v.kind)) (eqb v.number 0))

-- a Calling operation is there, its count is at most the timeout, and it holds no value ("A sound state", Calling; W-206)
unfoldable pub calling_sound : Config → ℕ → Operation → Bool
calling_sound cfg o x =
    all_of
    (ltb o cfg.operations.n
    ∷ leb x.count (operation_conf_in cfg.operations o).timeout
    ∷ is_void x.done
    ∷ [])

-- a Done operation has count 0; one that isn't there is at number 0, Done(Void) ("A sound state", stored values and unused places)
unfoldable pub done_sound : Config → ℕ → Operation → Bool
done_sound cfg o x = both (eqb x.count 0) (pick (ltb o cfg.operations.n) (is_outcome x.done) (both (eqb x.number 0) (is_void x.done)))

-- an operation: its number fits, and it is soundly Calling or Done ("A sound state", Calling and Done)
unfoldable pub operation_sound : Config → ℕ → Operation → Bool
operation_sound cfg o x = both (leb x.number last_number) (pick x.calling (calling_sound cfg o x) (done_sound cfg o x))

-- a timer's count is at most its period ("A sound state", counts)
unfoldable pub timer_sound : Config → ℕ → Timer → Bool
timer_sound cfg t x = leb x.count (timer_conf_in cfg.timers t).period

-- ---- one slot at a time

-- an instance waits: it names a kind of part to wait for ("A sound state", waiting)
abbrev pub is_waiting : Life → Bool
is_waiting l = ltb no_part l.awaited.part

-- it waits on an operation ("A sound state", waiting)
abbrev pub is_caller : Life → Bool
is_caller l = eqb l.awaited.part operation_tag

-- it is held: it waits for data on a required element (W-210)
abbrev pub is_held : Life → Bool
is_held l = eqb l.awaited.part required_tag

-- nothing to wait for ("A sound state", unused places)
unfoldable pub is_no_awaited : Awaited → Bool
is_no_awaited a = all_of (eqb a.part no_part ∷ eqb a.on 0 ∷ eqb a.left 0 ∷ [])

-- a waiter's operation is there, is synchronous, and belongs to the waiter's component; its count is the call's, and none is here ("A sound state", waiting; W-210)
unfoldable pub waits_well : Config → Life → Bool
waits_well cfg l =
    all_of
    (ltb l.awaited.on cfg.operations.n
    ∷ not (operation_conf_in cfg.operations l.awaited.on).asynchronous
    ∷ eqb (operation_conf_in cfg.operations l.awaited.on).component (component_of cfg l.runnable)
    ∷ eqb l.awaited.left 0
    ∷ [])

-- the element that holds an instance is there, is queued, and belongs to its component; its count is an hour at most (W-210)
unfoldable pub held_well : Config → Life → Bool
held_well cfg l =
    all_of
    (ltb l.awaited.on cfg.required.n
    ∷ is_queued cfg l.awaited.on
    ∷ eqb (required_conf_in cfg.required l.awaited.on).component (component_of cfg l.runnable)
    ∷ leb l.awaited.left max_time
    ∷ [])

-- an instance waits well on an operation, or is held well on an element, or waits for nothing; as it names one kind of part, it never waits in both ways ("A sound state", waiting; W-210)
unfoldable pub awaits_well : Config → Life → Bool
awaits_well cfg l = pick (is_caller l) (waits_well cfg l) (pick (is_held l) (held_well cfg l) (is_no_awaited l.awaited))

-- an instance is of a runnable that is there; a plain one is never finished; what it waits for is as it should be ("A sound state", instances)
unfoldable pub life_sound : Config → Life → Bool
life_sound cfg l =
    all_of
    (ltb l.runnable cfg.runnables.n
    ∷ either (not l.finished) (is_server cfg l.runnable)
    ∷ awaits_well cfg l
    ∷ [])

-- who owes an answer: every unfinished instance of a server and no other; its client is one of that server, and where nobody is owed the place is blank ("A sound state", clients of instances)
unfoldable pub owed_sound : Config → Life → Owed → Bool
owed_sound cfg l w =
    both (alike w.serving (both (is_server cfg l.runnable) (not l.finished)))
    (pick w.serving (client_fits cfg l.runnable w.client) (is_no_client w.client))

-- an area in a stack is there and of the instance's component ("A sound state", areas)
unfoldable pub area_fits : Config → ℕ → ℕ → Bool
area_fits cfg component a = both (ltb a cfg.areas.n) (eqb (area_conf_in cfg.areas a).component component)

-- a place of a stack that holds the number 0, as a blank one does ("A sound state", unused places)
abbrev pub is_zero : ℕ → Bool
is_zero n = eqb n 0

-- a stack holds areas that fit, and the places above its top are blank ("A sound state", areas)
unfoldable pub stack_sound : Config → Life → Stack → Bool
stack_sound cfg l s =
    both (leb s.held max_area_confs) (filled (area_fits cfg (component_of cfg l.runnable)) is_zero 0 max_area_confs s.held s.at)

-- the life of no instance ("A sound state", unused places)
unfoldable pub is_no_life : Life → Bool
is_no_life l = all_of (eqb l.runnable 0 ∷ is_no_awaited l.awaited ∷ not l.finished ∷ not l.failed ∷ [])

-- nobody is owed ("A sound state", unused places)
unfoldable pub is_no_owed : Owed → Bool
is_no_owed w = both (not w.serving) (is_no_client w.client)

-- no area is held ("A sound state", unused places)
unfoldable pub is_no_stack : Stack → Bool
is_no_stack s = both (eqb s.held 0) (filled is_zero is_zero 0 max_area_confs 0 s.at)

-- an empty slot is blank ("A sound state", unused places)
unfoldable pub is_no_slot : Slot → Bool
is_no_slot x = all_of (is_no_life x.life ∷ is_no_owed x.owed ∷ is_no_stack x.stack ∷ [])

-- a slot: empty, or with a sound instance in it ("A sound state", instances)
unfoldable pub slot_sound : Config → Slot → Bool
slot_sound cfg x =
    pick x.used (all_of (life_sound cfg x.life ∷ owed_sound cfg x.life x.owed ∷ stack_sound cfg x.life x.stack ∷ [])) (is_no_slot x)

-- ---- copies: an instance has one of each element that its runnable lists

-- the instance of a slot has a copy at place j: its runnable lists an element there (W-211)
unfoldable pub has_copy : Lists → Slot → ℕ → Bool
has_copy t x j = both x.used (lists_at t x.life.runnable j)

-- nothing came, and nothing was set (W-211)
unfoldable pub is_no_copy : Value → Bool
is_no_copy v = both (eqb v.kind never_received_v.kind) (eqb v.number 0)

-- a place for a copy: it holds what an unqueued element may hold if the instance has one there, else it is blank (W-211)
unfoldable pub copy_sound : ℕ → Lists → Slot → Copies → ℕ → Bool
copy_sound e t x c j = pick (has_copy t x j) (is_stored e (copy_in c j)) (is_no_copy (copy_in c j))

-- the copies of a slot: four places, each sound (W-211)
unfoldable pub copies_sound : ℕ → Lists → Slot → Copies → Bool
copies_sound e t x c = both (eqb (length c.at) max_listed) (all_below (copy_sound e t x c) max_listed)

-- ---- counts: each runnable counts as many instances as slots are in use by it

-- the slot is in use by an instance of the runnable r ("A sound state", counts)
unfoldable pub of_runnable : ℕ → Slot → Bool
of_runnable r x = both x.used (eqb x.life.runnable r)

-- how many slots are of the runnable r ("A sound state", counts)
unfoldable pub slots_of : Slots → ℕ → ℕ
slots_of t r = count_below (λ (k : ℕ). of_runnable r (slot_in t k)) max_slots

-- the runnable r counts as many instances as it has slots ("A sound state", counts)
unfoldable pub count_sound : Runnables → Slots → ℕ → Bool
count_sound rs ss r = eqb (runnable_in rs r).instances (slots_of ss r)

-- ---- areas: a taken one lies in all the stacks together once, a free one not at all

-- how often the area a stands in a stack ("A sound state", areas)
unfoldable pub times_in : ℕ → Stack → ℕ
times_in a s = count_below (λ (j : ℕ). eqb (get_or s.at j 0) a) s.held

-- how often the area a stands in all stacks together ("A sound state", areas)
unfoldable pub holders : Slots → ℕ → ℕ
holders t a = sum_below (λ (k : ℕ). times_in a (slot_in t k).stack) max_slots

-- a taken area is there and stands in all stacks together once, a free one not at all ("A sound state", areas)
unfoldable pub area_sound : Config → Areas → Slots → ℕ → Bool
area_sound cfg t ss a = both (either (not (area_in t a).taken) (ltb a cfg.areas.n)) (eqb (holders ss a) (bit (area_in t a).taken))

-- ---- clients: a pair of operation and number belongs to one client at most

-- the client has the operation o and the number m ("A sound state", clients)
unfoldable pub is_client : ℕ → ℕ → Client → Bool
is_client o m c = both (eqb c.operation o) (eqb c.number m)

-- how many requests of a queue have the operation o and the number m ("A sound state", clients)
unfoldable pub queued_as : ℕ → ℕ → Requests → ℕ
queued_as o m q = count_below (λ (j : ℕ). is_client o m (get_or q.at j no_client)) q.queued

-- one if an instance has a client with the operation o and the number m, else none ("A sound state", clients)
unfoldable pub served_as : ℕ → ℕ → Owed → ℕ
served_as o m w = bit (both w.serving (is_client o m w.client))

-- how many clients have them, in all queues and on all instances ("A sound state", clients)
unfoldable pub clients_as : Runnables → Slots → ℕ → ℕ → ℕ
clients_as rs ss o m =
    sum_below (λ (r : ℕ). queued_as o m (runnable_in rs r).requests) max_runnable_confs
    + sum_below (λ (k : ℕ). served_as o m (slot_in ss k).owed) max_slots

-- a client shares operation and number with no other, whatever its number is ("A sound state", clients; W-206)
unfoldable pub client_sound : Runnables → Slots → Client → Bool
client_sound rs ss c = eqb (clients_as rs ss c.operation c.number) 1

-- every queued client of the runnable r is sound ("A sound state", clients)
unfoldable pub queued_sound : Runnables → Slots → ℕ → Bool
queued_sound rs ss r =
    all_below (λ (j : ℕ). client_sound rs ss (get_or (runnable_in rs r).requests.at j no_client)) (runnable_in rs r).requests.queued

-- the client on the instance k, if it has one, is sound ("A sound state", clients)
unfoldable pub served_sound : Runnables → Slots → ℕ → Bool
served_sound rs ss k = either (not (slot_in ss k).owed.serving) (client_sound rs ss (slot_in ss k).owed.client)

-- while an operation is Calling there is one client under its number, neither more nor fewer ("A sound state", Calling)
unfoldable pub called_sound : Operations → Runnables → Slots → ℕ → Bool
called_sound os rs ss o = either (not (operation_in os o).calling) (eqb (clients_as rs ss o (operation_in os o).number) 1)

-- ---- waiters: an operation has one at most, and while a synchronous call is open it has one

-- the instance of a slot waits on the operation o (W-202)
unfoldable pub waits_on : ℕ → Slot → Bool
waits_on o x = both (is_caller x.life) (eqb x.life.awaited.on o)

-- how many instances wait on the operation o (W-202)
unfoldable pub waiters_of : Slots → ℕ → ℕ
waiters_of t o = count_below (λ (k : ℕ). waits_on o (slot_in t k)) max_slots

-- an operation is bound exactly while an instance waits on it (W-202)
abbrev pub is_bound : Slots → ℕ → Bool
is_bound t o = ltb 0 (waiters_of t o)

-- an operation has at most one waiter, and an open synchronous call is always bound (W-202)
unfoldable pub waiter_sound : Config → Operations → Slots → ℕ → Bool
waiter_sound cfg os ss o =
    both (leb (waiters_of ss o) 1)
    (either (not (operation_in os o).calling) (either (operation_conf_in cfg.operations o).asynchronous (is_bound ss o)))

-- ---- the clauses over whole tables

-- every runnable is sound, each unused place too ("A sound state")
unfoldable pub runnables_sound : Config → Runnables → Bool
runnables_sound cfg t = all_below (λ (r : ℕ). runnable_sound cfg r (runnable_in t r)) max_runnable_confs

-- every variable is sound, each unused place too ("A sound state")
unfoldable pub variables_sound : Config → Variables → Bool
variables_sound cfg t = all_below (λ (v : ℕ). variable_sound cfg v (variable_in t v)) max_variable_confs

-- every required element is sound, each unused place too ("A sound state")
unfoldable pub elements_sound : Config → Elements → Bool
elements_sound cfg t = all_below (λ (q : ℕ). element_sound cfg q (element_in t q)) max_required_confs

-- every operation is sound, each unused place too ("A sound state")
unfoldable pub operations_sound : Config → Operations → Bool
operations_sound cfg t = all_below (λ (o : ℕ). operation_sound cfg o (operation_in t o)) max_operation_confs

-- every timer is sound, each unused place too ("A sound state")
unfoldable pub timers_sound : Config → Timers → Bool
timers_sound cfg t = all_below (λ (k : ℕ). timer_sound cfg k (timer_in t k)) max_timer_confs

-- every instance slot is sound ("A sound state")
unfoldable pub slots_sound : Config → Slots → Bool
slots_sound cfg t = all_below (λ (k : ℕ). slot_sound cfg (slot_in t k)) max_slots

-- the count of every runnable is right ("A sound state", counts)
unfoldable pub counts_sound : Runnables → Slots → Bool
counts_sound rs ss = all_below (count_sound rs ss) max_runnable_confs

-- every area lies as it should ("A sound state", areas)
unfoldable pub areas_sound : Config → Areas → Slots → Bool
areas_sound cfg t ss = all_below (area_sound cfg t ss) max_area_confs

-- every client is sound, queued or on an instance, and every open call has its one client ("A sound state", clients)
unfoldable pub clients_sound : Operations → Runnables → Slots → Bool
clients_sound os rs ss =
    both (all_below (queued_sound rs ss) max_runnable_confs)
    (both (all_below (served_sound rs ss) max_slots) (all_below (called_sound os rs ss) max_operation_confs))

-- every operation has the waiters that it may have ("A sound state"; W-202)
unfoldable pub waiters_sound : Config → Operations → Slots → Bool
waiters_sound cfg os ss = all_below (waiter_sound cfg os ss) max_operation_confs

-- the copies of every slot are sound, by one list (W-211)
unfoldable pub copied_sound : ℕ → Lists → Slots → Copied → Bool
copied_sound e t ss cs = all_below (λ (k : ℕ). copies_sound e t (slot_in ss k) (copies_in cs k)) max_slots

-- the nine tables have their lengths ("The parts, and how many")
unfoldable pub shaped : State → Bool
shaped st =
    all_of
    (eqb (length st.runnables.at) max_runnable_confs
    ∷ eqb (length st.variables.at) max_variable_confs
    ∷ eqb (length st.areas.at) max_area_confs
    ∷ eqb (length st.elements.at) max_required_confs
    ∷ eqb (length st.operations.at) max_operation_confs
    ∷ eqb (length st.timers.at) max_timer_confs
    ∷ eqb (length st.slots.at) max_slots
    ∷ eqb (length st.incoming.at) max_slots
    ∷ eqb (length st.outgoing.at) max_slots
    ∷ [])

-- a sound state of a sound configuration ("A sound state")
unfoldable pub sound_of : Config → State → Bool
sound_of cfg st =
    all_of
    (config_sound cfg
    ∷ shaped st
    ∷ runnables_sound cfg st.runnables
    ∷ variables_sound cfg st.variables
    ∷ elements_sound cfg st.elements
    ∷ operations_sound cfg st.operations
    ∷ timers_sound cfg st.timers
    ∷ slots_sound cfg st.slots
    ∷ counts_sound st.runnables st.slots
    ∷ areas_sound cfg st.areas st.slots
    ∷ clients_sound st.operations st.runnables st.slots
    ∷ waiters_sound cfg st.operations st.slots
    ∷ copied_sound cfg.edition cfg.incoming st.slots st.incoming
    ∷ copied_sound cfg.edition cfg.outgoing st.slots st.outgoing
    ∷ [])
