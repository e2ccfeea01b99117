-- Why a step is refused, finer than its number: for each number the cases that it stands for, and what tells them apart ("Numbers of refusal").
-- Assumes nothing.
use Rattle.std.specs.Prelude.{ℕ, Bool, ltb, leb, eqb, get_or}
use Rattle.laws.specs.Choice.{pick, both}
use Rattle.laws.specs.Loop.{any_below, first_below}
use Rattle.numbers.specs.Refusals.{malformed, step_gone, not_there, not_own, barred, area_taken, not_on_top, queue_full, number_borne, not_due, no_slot_free, too_far, not_over, areas_held, wrong_client, other_answer, still_waits}
use Rattle.numbers.specs.Codes.{timeout_code, receive_code, give_up_code}
use Rattle.numbers.specs.Tags.{operation_tag, timer_tag}
use Rattle.faces.specs.Types.{Step, Config, RunnableConf, Life, Owed, Stack, Runnable, Slots, State}
use Rattle.config.specs.Tables.{runnable_conf_in, operation_conf_in}
use Rattle.entries.specs.Entries.{count_of, entry_of}
use Rattle.state.specs.Tables.{max_slots, runnable_in, operation_in, timer_in, slot_in}
use Rattle.state.specs.Queues.{top_area}
use Rattle.rules.specs.declared.Row.{Row}
use Rattle.rules.specs.Sound.{component_of, is_caller, is_client}
use Rattle.rules.specs.Rows.{a_slot, scheduler, no_part, row_of}
use Rattle.rules.specs.Refusals.{formed, waiting_lets}
use Rattle.whys.specs.declared.Cause.{Cause}
use Rattle.whys.specs.declared.Cause.TheVariants.{NoCause, NoCode, HasWho, HasWhat, BadArgument, HandsNumber, StepGone, NoSlot, EmptySlot, NoPart, NotListed, Foreign, IsQueued, NotQueued, WaitsOn, IsFinished, HasFailed, FailedBack, NotWaiting, HeldBy, NoneHeld, OnTop, QueueFull, StillServed, StillQueued, CallOpen, InInterval, Runs, NotPending, NoRequest, NoRoom, Stops, NotOpen, CallRuns, TimerRuns, StillHeld, NoClient, HasClient, Differs, HeldOn, QueueEmpty, HoldStops, HoldRuns}
use Rattle.passing.specs.Passing.{passes_of, operation_stop, timer_stop, slot_stop}

-- the number of refusal that a cause stands for; 0 for none ("Numbers of refusal")
abbrev pub cause_refusal : Cause → ℕ
cause_refusal NoCause = 0
cause_refusal NoCode = malformed
cause_refusal HasWho = malformed
cause_refusal HasWhat = malformed
cause_refusal (BadArgument k) = malformed
cause_refusal HandsNumber = malformed
cause_refusal (StepGone e) = step_gone
cause_refusal NoSlot = not_there
cause_refusal EmptySlot = not_there
cause_refusal (NoPart n) = not_there
cause_refusal (NotListed r tag k) = not_there
cause_refusal (Foreign a b) = not_own
cause_refusal IsQueued = not_own
cause_refusal NotQueued = not_own
cause_refusal (WaitsOn o) = barred
cause_refusal (HeldOn q) = barred
cause_refusal IsFinished = barred
cause_refusal HasFailed = barred
cause_refusal FailedBack = barred
cause_refusal NotWaiting = barred
cause_refusal (HeldBy i) = area_taken
cause_refusal NoneHeld = not_on_top
cause_refusal (OnTop a) = not_on_top
cause_refusal (QueueFull r n) = queue_full
cause_refusal (StillServed i) = number_borne
cause_refusal (StillQueued r) = number_borne
cause_refusal (CallOpen t) = still_waits
cause_refusal (QueueEmpty t) = still_waits
cause_refusal (InInterval t) = not_due
cause_refusal (Runs n) = not_due
cause_refusal NotPending = not_due
cause_refusal NoRequest = not_due
cause_refusal NoRoom = no_slot_free
cause_refusal (Stops tag k t) = too_far
cause_refusal (HoldStops i t) = too_far
cause_refusal NotOpen = not_over
cause_refusal (CallRuns t) = not_over
cause_refusal (TimerRuns t) = not_over
cause_refusal (HoldRuns t) = not_over
cause_refusal (StillHeld a) = areas_held
cause_refusal NoClient = wrong_client
cause_refusal (HasClient o) = wrong_client
cause_refusal (Differs v) = other_answer

-- ---- 2

-- a part is named where the row names none; else it is the argument ("Numbers of refusal", 2)
unfoldable pub form_cause : Row → Step → Cause
form_cause r s =
    pick (ltb no_part r.part) (BadArgument r.argument)
    (pick (ltb 0 s.what) HasWhat
    (BadArgument r.argument))

-- a slot's step whose entries are as they should be is refused with 2 for one thing alone: an instance that has failed hands back a Number; else it is its entries ("Numbers of refusal", 2; W-205)
unfoldable pub slot_cause : Row → Step → Cause
slot_cause r s = pick (formed r s.what s.argument) HandsNumber (form_cause r s)

-- no such code; a slot named in a step of the scheduler; else the entries ("Numbers of refusal", 2)
unfoldable pub code_cause : Row → Step → Cause
code_cause r s =
    pick (eqb r.who a_slot) (slot_cause r s)
    (pick (eqb r.who scheduler) (pick (eqb s.who 0) (form_cause r s) HasWho)
    NoCode)

-- ---- 3

-- by an instance of the runnable w: the part n is there, and so w does not list it; else there are only so many parts ("Numbers of refusal", 3; W-211)
unfoldable pub part_cause : Config → ℕ → Row → ℕ → Cause
part_cause cfg w r n = pick (ltb n (count_of cfg r.part)) (NotListed w r.part n) (NoPart (count_of cfg r.part))

-- of a slot's step: no such slot, or nothing in it, or its part; else there are only so many parts ("Numbers of refusal", 3)
unfoldable pub there_cause : Config → Slots → Row → Step → Cause
there_cause cfg ss r s =
    pick (eqb r.who a_slot)
    (pick (leb max_slots s.who) NoSlot
    (pick (slot_in ss s.who).used (part_cause cfg (slot_in ss s.who).life.runnable r s.what)
    EmptySlot))
    (NoPart (count_of cfg r.part))

-- ---- 4

-- the part is of its own component: then it is queued or not, as it should not be; else it is another's ("Numbers of refusal", 4)
unfoldable pub own_cause : Config → Slots → Row → Step → Cause
own_cause cfg ss r s =
    pick (eqb (entry_of cfg r.part s.what).first (component_of cfg (slot_in ss s.who).life.runnable))
    (pick (ltb 0 (entry_of cfg r.part s.what).second) IsQueued NotQueued)
    (Foreign (entry_of cfg r.part s.what).first (component_of cfg (slot_in ss s.who).life.runnable))

-- ---- 5

-- it waits or is held, and for something else; it has failed, and handed back or not yet; it is finished; or it asks without waiting ("Numbers of refusal", 5; W-205)
unfoldable pub life_cause : Life → Step → Cause
life_cause l s =
    pick (waiting_lets l s.code s.what)
    (pick l.failed (pick l.finished FailedBack HasFailed)
    (pick l.finished IsFinished NotWaiting))
    (pick (is_caller l) (WaitsOn l.awaited.on) (HeldOn l.awaited.on))

-- ---- 6, 7, 15: areas

-- the area a is in a stack ("A sound state", areas)
unfoldable pub holds_of : ℕ → Stack → Bool
holds_of a s = any_below (λ (j : ℕ). eqb (get_or s.at j 0) a) s.held

-- the first slot that holds the area a, or how many slots there are ("A sound state", areas)
unfoldable pub holder_of : Slots → ℕ → ℕ
holder_of ss a = first_below (λ (i : ℕ). holds_of a (slot_in ss i).stack) max_slots

-- another area is on top, or none is held ("Numbers of refusal", 7)
unfoldable pub top_cause : Slots → ℕ → Cause
top_cause ss i = pick (ltb 0 (slot_in ss i).stack.held) (OnTop (top_area (slot_in ss i).stack)) NoneHeld

-- the last of those that are still held ("Numbers of refusal", 15)
unfoldable pub still_cause : Slots → ℕ → Cause
still_cause ss i = StillHeld (top_area (slot_in ss i).stack)

-- ---- 8, 10, 28: calls

-- which queue, and its room ("Numbers of refusal", 8)
unfoldable pub full_cause : Config → ℕ → Cause
full_cause cfg o = QueueFull (operation_conf_in cfg.operations o).server (runnable_conf_in cfg.runnables (operation_conf_in cfg.operations o).server).capacity

-- an instance has a client of the operation o with the number m (W-206)
unfoldable pub serves_as : ℕ → ℕ → Owed → Bool
serves_as o m w = both w.serving (is_client o m w.client)

-- the first slot whose instance has such a client, or how many slots there are (W-206)
unfoldable pub bearer_of : Slots → ℕ → ℕ → ℕ
bearer_of ss o m = first_below (λ (i : ℕ). serves_as o m (slot_in ss i).owed) max_slots

-- who still bears the number: an instance's client, or else one in the server's queue (W-206)
unfoldable pub borne_cause : Config → State → ℕ → Cause
borne_cause cfg st o =
    pick (ltb (bearer_of st.slots o (operation_in st.operations o).number) max_slots)
    (StillServed (bearer_of st.slots o (operation_in st.operations o).number))
    (StillQueued (operation_conf_in cfg.operations o).server)

-- how long the call may still last, or the instance is held still ("Numbers of refusal", 10; W-210)
unfoldable pub open_cause : State → Step → Cause
open_cause st s =
    pick (eqb s.code receive_code) (QueueEmpty (slot_in st.slots s.who).life.awaited.left)
    (CallOpen (operation_in st.operations s.what).count)

-- ---- 11: the first need that is missing

-- nothing to do for a plain runnable, or for a server ("Numbers of refusal", 11)
unfoldable pub due_cause : ℕ → Cause
due_cause capacity = pick (eqb capacity 0) NotPending NoRequest

-- the start interval, the instance that runs, or what there is to do ("Numbers of refusal", 11)
unfoldable pub spawn_cause : RunnableConf → Runnable → Cause
spawn_cause c x =
    pick (ltb 0 x.interval) (InInterval x.interval)
    (pick c.concurrent (due_cause c.capacity)
    (pick (ltb 0 x.instances) (Runs x.instances)
    (due_cause c.capacity)))

-- ---- 13, 14: time

-- the first count that lets no more than t pass, of operations, then timers, then held instances ("Numbers of refusal", 13; W-203, W-210)
unfoldable pub stop_cause : Config → State → ℕ → Cause
stop_cause cfg st t =
    pick (ltb (operation_stop cfg st.operations t) cfg.operations.n) (Stops operation_tag (operation_stop cfg st.operations t) t)
    (pick (ltb (timer_stop cfg st.timers t) cfg.timers.n) (Stops timer_tag (timer_stop cfg st.timers t) t)
    (HoldStops (slot_stop st.slots t) t))

-- a timeout without a call, or before its time; a tick, or giving up, before its time ("Numbers of refusal", 14; W-210)
unfoldable pub early_cause : State → Step → Cause
early_cause st s =
    pick (eqb s.code timeout_code)
    (pick (operation_in st.operations s.what).calling (CallRuns (operation_in st.operations s.what).count) NotOpen)
    (pick (eqb s.code give_up_code) (HoldRuns (slot_in st.slots s.who).life.awaited.left)
    (TimerRuns (timer_in st.timers s.what).count))

-- ---- 16

-- a client is owed its answer, or there is none ("Numbers of refusal", 16)
unfoldable pub owed_cause : Slots → ℕ → Cause
owed_cause ss i = pick (slot_in ss i).owed.serving (HasClient (slot_in ss i).owed.client.operation) NoClient

-- ---- all of them

-- the cause of a refusal with the number n ("Numbers of refusal", 2 to 16; W-206; W-208)
unfoldable pub why_of : Config → State → Step → ℕ → Cause
why_of cfg st s n =
    pick (eqb n malformed) (code_cause (row_of s.code) s)
    (pick (eqb n not_there) (there_cause cfg st.slots (row_of s.code) s)
    (pick (eqb n not_own) (own_cause cfg st.slots (row_of s.code) s)
    (pick (eqb n barred) (life_cause (slot_in st.slots s.who).life s)
    (pick (eqb n area_taken) (HeldBy (holder_of st.slots s.what))
    (pick (eqb n not_on_top) (top_cause st.slots s.who)
    (pick (eqb n queue_full) (full_cause cfg s.what)
    (pick (eqb n number_borne) (borne_cause cfg st s.what)
    (pick (eqb n still_waits) (open_cause st s)
    (pick (eqb n not_due) (spawn_cause (runnable_conf_in cfg.runnables s.what) (runnable_in st.runnables s.what))
    (pick (eqb n no_slot_free) NoRoom
    (pick (eqb n too_far) (stop_cause cfg st (passes_of cfg st s.argument.number))
    (pick (eqb n not_over) (early_cause st s)
    (pick (eqb n areas_held) (still_cause st.slots s.who)
    (pick (eqb n step_gone) (StepGone cfg.edition)
    (owed_cause st.slots s.who)))))))))))))))
