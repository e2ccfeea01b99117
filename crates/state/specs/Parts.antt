-- The blank parts of a state: what an unused place holds ("A sound state", its last sentence).
-- Assumes nothing.
use Rattle.std.specs.Prelude.{ℕ, false, replicate}
use Rattle.config.specs.Tables.{max_area_confs, max_capacity, max_listed}
use Rattle.values.specs.Values.{void_v, never_received_v}
use Rattle.state.specs.declared.Client.{Client}
use Rattle.state.specs.declared.Queue.{Queue}
use Rattle.state.specs.declared.Runnable.{Runnable}
use Rattle.state.specs.declared.Variable.{Variable}
use Rattle.state.specs.declared.Area.{Area}
use Rattle.values.specs.declared.Value.{Value}
use Rattle.state.specs.declared.Element.{Element}
use Rattle.state.specs.declared.Operation.{Operation}
use Rattle.state.specs.declared.Timer.{Timer}
use Rattle.state.specs.declared.Awaited.{Awaited}
use Rattle.state.specs.declared.Life.{Life}
use Rattle.state.specs.declared.Owed.{Owed}
use Rattle.state.specs.declared.Stack.{Stack}
use Rattle.state.specs.declared.Slot.{Slot}
use Rattle.state.specs.declared.Copies.{Copies}

-- the client that stands where there is none ("A sound state", unused places)
abbrev pub no_client : Client
no_client = record { operation = 0; number = 0; argument = void_v }

-- a queue of requests has as many places as a capacity may be ("The files", below the table)
abbrev pub max_requests : ℕ
max_requests = max_capacity

-- the requests that wait at a server, oldest first ("The parts, and how many")
abbrev pub Requests : Type 0
Requests = Queue Client

-- an empty queue of requests ("A sound state", unused places)
unfoldable pub no_requests : Requests
no_requests = record { queued = 0; at = replicate max_requests no_client }

-- the blank runnable: idle, with no instance and no request ("A sound state", unused places)
unfoldable pub no_runnable : Runnable
no_runnable = record { interval = 0; pending = 0; instances = 0; requests = no_requests }

-- the blank variable holds Void ("A sound state", unused places)
abbrev pub no_variable : Variable
no_variable = record { value = void_v }

-- the blank area is free ("A sound state", unused places)
abbrev pub no_area : Area
no_area = record { taken = false }

-- a queue of values has as many places as a capacity may be ("The files", below the table)
abbrev pub max_values : ℕ
max_values = max_capacity

-- the values that wait in a queued element, oldest first ("The parts, and how many")
abbrev pub Values : Type 0
Values = Queue Value

-- an empty queue of values ("A sound state", unused places)
unfoldable pub no_values : Values
no_values = record { queued = 0; at = replicate max_values void_v }

-- the blank element: Void, its flag off, its queue empty ("A sound state", unused places)
unfoldable pub no_element : Element
no_element = record { value = void_v; updated = false; queue = no_values }

-- the blank operation is Done(Void) at number 0 ("A sound state", unused places)
abbrev pub no_operation : Operation
no_operation = record { number = 0; calling = false; count = 0; done = void_v }

-- the blank timer has count 0 ("A sound state", unused places)
abbrev pub no_timer : Timer
no_timer = record { count = 0 }

-- the highest number of an operation ("The parts, and how many")
abbrev pub last_number : ℕ
last_number = 65535

-- nothing to wait for ("A sound state", unused places)
abbrev pub no_awaited : Awaited
no_awaited = record { part = 0; on = 0; left = 0 }

-- the life of no instance ("A sound state", unused places)
abbrev pub no_life : Life
no_life = record { runnable = 0; awaited = no_awaited; finished = false; failed = false }

-- no client that an answer is owed to ("A sound state", unused places)
abbrev pub no_owed : Owed
no_owed = record { serving = false; client = no_client }

-- no area held; a stack has a place for every area ("A sound state", unused places)
unfoldable pub no_stack : Stack
no_stack = record { held = 0; at = replicate max_area_confs 0 }

-- the blank slot has no instance ("A sound state", unused places)
unfoldable pub no_slot : Slot
no_slot = record { used = false; life = no_life; owed = no_owed; stack = no_stack }

-- the copies of no instance: nothing came, and nothing was set (W-211)
unfoldable pub no_copies : Copies
no_copies = record { at = replicate max_listed never_received_v }
