-- A sound state as facts, one field a clause, each over only the tables that it reads; and, for each step, what it may rely on once it is not refused.
-- Assumes nothing.
use Rattle.std.specs.Prelude.{ℕ, ◌≤◌, ◌<◌, true, false, ◌≡◌, eqb}
use Rattle.laws.specs.Choice.{either, bit}
use Rattle.values.specs.Values.{is_payload}
use Rattle.faces.specs.Types.{Value, Lists, Config, Runnables, Areas, Operations, Slots, Copied, State}
use Rattle.config.specs.Editions.{marks_invalid}
use Rattle.config.specs.Tables.{max_runnable_confs, max_area_confs, max_operation_confs, runnable_conf_in, area_conf_in, provided_conf_in, operation_conf_in, required_conf_in}
use Rattle.config.specs.Lists.{is_listed}
use Rattle.entries.specs.Faults.{is_queued, config_sound, max_time}
use Rattle.state.specs.Tables.{max_slots, runnable_in, area_in, element_in, operation_in, timer_in, slot_in}
use Rattle.state.specs.Queues.{top_area}
use Rattle.rules.specs.Rows.{no_part}
use Rattle.rules.specs.Sound.{component_of, is_waiting, is_caller, slots_of, holders, clients_as, waiters_of, shaped, runnables_sound, variables_sound, elements_sound, operations_sound, timers_sound, slots_sound, copied_sound}
use Rattle.effects.specs.Steps.{is_taken, is_open, serves, has_failed, hands_number, is_due, lowest_empty, operations_let, timers_let, slots_let, is_spent, runnable_of}

-- ---- the clauses over two tables and more, at every place

-- each runnable counts as many instances as slots are in use by it
pub record Counted (rs : Runnables) (ss : Slots) : Type 0 where
  pub counted : (r : ℕ) → r < max_runnable_confs → (runnable_in rs r).instances ≡ slots_of ss r

-- a taken area is there; in all the stacks together it lies once, and a free one not at all
pub record Held (cfg : Config) (t : Areas) (ss : Slots) : Type 0 where
  pub there : (a : ℕ) → a < max_area_confs → (area_in t a).taken ≡ true → a < cfg.areas.n
  pub once : (a : ℕ) → a < max_area_confs → holders ss a ≡ bit (area_in t a).taken

-- n gives how many clients have an operation and a number: a pair belongs to one client at most, and while an operation is Calling there is one client under its number
pub record Tallied (os : Operations) (n : ℕ → ℕ → ℕ) : Type 0 where
  pub single : (o m : ℕ) → n o m ≤ 1
  pub called : (o : ℕ) → o < max_operation_confs → (operation_in os o).calling ≡ true → n o (operation_in os o).number ≡ 1

-- the clients of all queues and instances are so
abbrev pub Clients : Operations → Runnables → Slots → Type 0
Clients os rs ss = Tallied os (clients_as rs ss)

-- an operation has one waiter at most, and while a synchronous call is open there it has one
pub record Waiters (cfg : Config) (os : Operations) (ss : Slots) : Type 0 where
  pub most : (o : ℕ) → o < max_operation_confs → waiters_of ss o ≤ 1
  pub bound : (o : ℕ) → o < max_operation_confs → (operation_in os o).calling ≡ true → (operation_conf_in cfg.operations o).asynchronous ≡ false → 0 < waiters_of ss o

-- the copies of every slot are sound, those that came at spawn and those to be written at end
pub record Copying (e : ℕ) (a b : Lists) (ss : Slots) (i o : Copied) : Type 0 where
  pub incoming : copied_sound e a ss i ≡ true
  pub outgoing : copied_sound e b ss o ≡ true

-- ---- the same of a state

abbrev pub CountedIn : State → Type 0
CountedIn st = Counted st.runnables st.slots

abbrev pub HeldIn : Config → State → Type 0
HeldIn cfg st = Held cfg st.areas st.slots

abbrev pub ClientsIn : State → Type 0
ClientsIn st = Clients st.operations st.runnables st.slots

abbrev pub WaitersIn : Config → State → Type 0
WaitersIn cfg st = Waiters cfg st.operations st.slots

abbrev pub CopiesIn : Config → State → Type 0
CopiesIn cfg st = Copying cfg.edition cfg.incoming cfg.outgoing st.slots st.incoming st.outgoing

-- ---- a sound state

-- all clauses, one a field
pub record Sound (cfg : Config) (st : State) : Type 0 where
  pub config : config_sound cfg ≡ true
  pub shape : shaped st ≡ true
  pub runnables : runnables_sound cfg st.runnables ≡ true
  pub variables : variables_sound cfg st.variables ≡ true
  pub elements : elements_sound cfg st.elements ≡ true
  pub operations : operations_sound cfg st.operations ≡ true
  pub timers : timers_sound cfg st.timers ≡ true
  pub slots : slots_sound cfg st.slots ≡ true
  pub counts : CountedIn st
  pub areas : HeldIn cfg st
  pub clients : ClientsIn st
  pub waiters : WaitersIn cfg st
  pub copies : CopiesIn cfg st

-- ---- what a step may rely on

-- an instance is in the slot i
pub record There (st : State) (i : ℕ) : Type 0 where
  pub used : (slot_in st.slots i).used ≡ true

-- it neither waits nor is finished
pub record Acts (st : State) (i : ℕ) : Type 0 where
  pub there : There st i
  pub running : (slot_in st.slots i).life.awaited.part ≡ no_part
  pub unfinished : (slot_in st.slots i).life.finished ≡ false

-- a payload for a variable that is there
pub record CanWriteVariable (cfg : Config) (st : State) (i v : ℕ) (x : Value) : Type 0 where
  pub who : Acts st i
  pub inside : v < cfg.variables.n
  pub payload : is_payload x ≡ true

-- a free area of the own component
pub record CanEnter (cfg : Config) (st : State) (i a : ℕ) : Type 0 where
  pub who : Acts st i
  pub inside : a < cfg.areas.n
  pub own : (area_conf_in cfg.areas a).component ≡ component_of cfg (slot_in st.slots i).life.runnable
  pub free : is_taken st a ≡ false

-- the area on top of the own stack
pub record CanExit (cfg : Config) (st : State) (i a : ℕ) : Type 0 where
  pub there : There st i
  pub inside : a < cfg.areas.n
  pub some : 0 < (slot_in st.slots i).stack.held
  pub top : top_area (slot_in st.slots i).stack ≡ a

-- read, and updated: an unqueued required element
pub record CanRead (cfg : Config) (st : State) (i q : ℕ) : Type 0 where
  pub who : Acts st i
  pub inside : q < cfg.required.n
  pub unqueued : is_queued cfg q ≡ false

-- write and send: a payload from a provided element, queued or not
pub record CanFeed (cfg : Config) (st : State) (i p : ℕ) (v : Value) : Type 0 where
  pub who : Acts st i
  pub inside : p < cfg.provided.n
  pub payload : is_payload v ≡ true

-- a provided element that is unqueued, in an edition that marks elements invalid
pub record CanInvalidate (cfg : Config) (st : State) (i p : ℕ) : Type 0 where
  pub who : Acts st i
  pub marks : marks_invalid cfg.edition ≡ true
  pub inside : p < cfg.provided.n
  pub unqueued : (provided_conf_in cfg.provided p).queued ≡ false

-- receive from a queue that is not empty, by an instance that is held there or does not wait
pub record CanReceive (cfg : Config) (st : State) (i q : ℕ) : Type 0 where
  pub there : There st i
  pub free : is_caller (slot_in st.slots i).life ≡ false
  pub on : is_waiting (slot_in st.slots i).life ≡ true → (slot_in st.slots i).life.awaited.on ≡ q
  pub inside : q < cfg.required.n
  pub queued : is_queued cfg q ≡ true
  pub some : 0 < (element_in st.elements q).queue.queued

-- a call that is answered Ok
pub record CanCall (cfg : Config) (st : State) (i o : ℕ) (v : Value) : Type 0 where
  pub who : Acts st i
  pub fine : has_failed st i ≡ false
  pub inside : o < cfg.operations.n
  pub own : (operation_conf_in cfg.operations o).component ≡ component_of cfg (slot_in st.slots i).life.runnable
  pub payload : is_payload v ≡ true
  pub shut : is_open st o ≡ false
  pub free : waiters_of st.slots o ≡ 0
  pub fresh : clients_as st.runnables st.slots o (operation_in st.operations o).number ≡ 0
  pub room : (runnable_in st.runnables (operation_conf_in cfg.operations o).server).requests.queued < (runnable_conf_in cfg.runnables (operation_conf_in cfg.operations o).server).capacity

-- a synchronous result that is given
pub record CanCollect (cfg : Config) (st : State) (i o : ℕ) : Type 0 where
  pub there : There st i
  pub inside : o < cfg.operations.n
  pub synchronous : (operation_conf_in cfg.operations o).asynchronous ≡ false
  pub waiting : is_caller (slot_in st.slots i).life ≡ true
  pub on : (slot_in st.slots i).life.awaited.on ≡ o
  pub shut : is_open st o ≡ false

-- a payload for the client that is served, and no Number from an instance that has failed
pub record CanHandBack (cfg : Config) (st : State) (i : ℕ) (v : Value) : Type 0 where
  pub who : Acts st i
  pub payload : is_payload v ≡ true
  pub honest : hands_number st i v ≡ false
  pub serving : serves st i ≡ true

-- it does not wait, and neither a client nor an area is left
pub record CanEnd (st : State) (i : ℕ) : Type 0 where
  pub there : There st i
  pub running : (slot_in st.slots i).life.awaited.part ≡ no_part
  pub none : serves st i ≡ false
  pub flat : (slot_in st.slots i).stack.held ≡ 0

-- the three needs of a spawn, and an empty slot
pub record CanSpawn (cfg : Config) (st : State) (r : ℕ) : Type 0 where
  pub inside : r < cfg.runnables.n
  pub rested : (runnable_in st.runnables r).interval ≡ 0
  pub alone : either (eqb (runnable_in st.runnables r).instances 0) (runnable_conf_in cfg.runnables r).concurrent ≡ true
  pub due : is_due (runnable_conf_in cfg.runnables r) (runnable_in st.runnables r) ≡ true
  pub slot : lowest_empty st.slots < max_slots

-- an open call whose time is up
pub record CanTimeout (cfg : Config) (st : State) (o : ℕ) : Type 0 where
  pub inside : o < cfg.operations.n
  pub calling : is_open st o ≡ true
  pub zero : (operation_in st.operations o).count ≡ 0

-- a timer that has run down
pub record CanTick (cfg : Config) (st : State) (t : ℕ) : Type 0 where
  pub inside : t < cfg.timers.n
  pub zero : (timer_in st.timers t).count ≡ 0

-- every open call, every timer and every held instance lets the time pass
pub record CanWait (cfg : Config) (st : State) (t : ℕ) : Type 0 where
  pub operations : operations_let cfg st.operations t ≡ true
  pub timers : timers_let cfg st.timers t ≡ true
  pub slots : slots_let st.slots t ≡ true

-- an instance that acts, and has not failed before
pub record CanFail (st : State) (i : ℕ) : Type 0 where
  pub who : Acts st i
  pub fine : has_failed st i ≡ false

-- an instance that acts, and has not failed, on a queued element of its own component, for an hour at most
pub record CanHold (cfg : Config) (st : State) (i q t : ℕ) : Type 0 where
  pub who : Acts st i
  pub fine : has_failed st i ≡ false
  pub inside : q < cfg.required.n
  pub own : (required_conf_in cfg.required q).component ≡ component_of cfg (slot_in st.slots i).life.runnable
  pub queued : is_queued cfg q ≡ true
  pub time : t ≤ max_time

-- an instance that waits, on no operation, and whose time is up
pub record CanGiveUp (st : State) (i : ℕ) : Type 0 where
  pub there : There st i
  pub waiting : is_waiting (slot_in st.slots i).life ≡ true
  pub free : is_caller (slot_in st.slots i).life ≡ false
  pub spent : is_spent st i ≡ true

-- an instance that acts, on a required element that its runnable lists
pub record CanReadCopy (cfg : Config) (st : State) (i q : ℕ) : Type 0 where
  pub who : Acts st i
  pub fine : has_failed st i ≡ false
  pub listed : is_listed cfg.incoming (runnable_of st i) q ≡ true

-- an instance that acts, and has not failed, with a payload for a provided element that its runnable lists
pub record CanWriteCopy (cfg : Config) (st : State) (i p : ℕ) (v : Value) : Type 0 where
  pub who : Acts st i
  pub fine : has_failed st i ≡ false
  pub listed : is_listed cfg.outgoing (runnable_of st i) p ≡ true
  pub payload : is_payload v ≡ true
