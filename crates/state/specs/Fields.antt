-- A part with something changed and its other fields as they were, by name, for the rules that change no more: a field that is added to such a part is added here.
-- Assumes nothing.
use Rattle.std.specs.Prelude.{ℕ, Bool, true, false}
use Rattle.values.specs.declared.Value.{Value}
use Rattle.state.specs.declared.Runnable.{Runnable}
use Rattle.state.specs.declared.Element.{Element}
use Rattle.state.specs.declared.Operation.{Operation}
use Rattle.state.specs.declared.Awaited.{Awaited}
use Rattle.state.specs.declared.Life.{Life}
use Rattle.state.specs.declared.Owed.{Owed}
use Rattle.state.specs.declared.Stack.{Stack}
use Rattle.state.specs.declared.Slot.{Slot}
use Rattle.state.specs.Parts.{Requests, Values, no_awaited}

-- ---- of a runnable

-- its start interval (ours)
abbrev pub with_interval : Runnable → ℕ → Runnable
with_interval x n = record { interval = n; pending = x.pending; instances = x.instances; requests = x.requests }

-- how many activations it has pending (W-212)
abbrev pub with_pending : Runnable → ℕ → Runnable
with_pending x n = record { interval = x.interval; pending = n; instances = x.instances; requests = x.requests }

-- how many instances it has (ours)
abbrev pub with_instances : Runnable → ℕ → Runnable
with_instances x n = record { interval = x.interval; pending = x.pending; instances = n; requests = x.requests }

-- its requests (ours)
abbrev pub with_requests : Runnable → Requests → Runnable
with_requests x q = record { interval = x.interval; pending = x.pending; instances = x.instances; requests = q }

-- ---- of an element

-- the value that it holds (ours)
abbrev pub with_value : Element → Value → Element
with_value x v = record { value = v; updated = x.updated; queue = x.queue }

-- its update flag (ours)
abbrev pub with_updated : Element → Bool → Element
with_updated x b = record { value = x.value; updated = b; queue = x.queue }

-- its queue (ours)
abbrev pub with_queue : Element → Values → Element
with_queue x q = record { value = x.value; updated = x.updated; queue = q }

-- ---- of an operation

-- its count (ours)
abbrev pub with_count : Operation → ℕ → Operation
with_count x n = record { number = x.number; calling = x.calling; count = n; done = x.done }

-- ---- of what is waited for

-- how long at most (W-210)
abbrev pub with_left : Awaited → ℕ → Awaited
with_left x n = record { part = x.part; on = x.on; left = n }

-- ---- of a life

-- the life of a new instance of the runnable r: it neither waits nor is finished, and has not failed (ours)
abbrev pub life_of : ℕ → Life
life_of r = record { runnable = r; awaited = no_awaited; finished = false; failed = false }

-- it waits for this, or for nothing (ours)
abbrev pub life_awaiting : Life → Awaited → Life
life_awaiting x a = record { runnable = x.runnable; awaited = a; finished = x.finished; failed = x.failed }

-- it is finished (ours)
abbrev pub life_finished : Life → Life
life_finished x = record { runnable = x.runnable; awaited = x.awaited; finished = true; failed = x.failed }

-- it has failed (W-205)
abbrev pub life_failed : Life → Life
life_failed x = record { runnable = x.runnable; awaited = x.awaited; finished = x.finished; failed = true }

-- ---- of a slot

-- the life of its instance (ours)
abbrev pub with_life : Slot → Life → Slot
with_life x l = record { used = x.used; life = l; owed = x.owed; stack = x.stack }

-- what its instance owes (ours)
abbrev pub with_owed : Slot → Owed → Slot
with_owed x w = record { used = x.used; life = x.life; owed = w; stack = x.stack }

-- its areas (ours)
abbrev pub with_stack : Slot → Stack → Slot
with_stack x s = record { used = x.used; life = x.life; owed = x.owed; stack = s }
