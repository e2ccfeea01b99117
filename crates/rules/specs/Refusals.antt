-- Refusals 2 to 5, in their order, and 30 behind 2, by the row of a step's code; a slot's steps have all four, the scheduler's 2 and 3 only. The 2 that comes after 5 stands with hand back, in crate effects ("Numbers of refusal"; W-205; W-208).
-- Assumes nothing.
use Rattle.std.specs.Prelude.{ℕ, Bool, not, [], ◌∷◌, ltb, eqb}
use Rattle.numbers.specs.Refusals.{malformed, not_there, not_own, barred, step_gone}
use Rattle.numbers.specs.Codes.{exit_code, result_code, hand_back_code, end_code, receive_code, give_up_code}
use Rattle.numbers.specs.Tags.{required_tag}
use Rattle.laws.specs.Choice.{pick, both, either, alike, all_of}
use Rattle.values.specs.Values.{is_void, is_number, is_payload}
use Rattle.faces.specs.Types.{Value, Step, Lists, Config, Life, Slots}
use Rattle.config.specs.Editions.{has_step}
use Rattle.config.specs.Tables.{operation_conf_in}
use Rattle.config.specs.Lists.{is_listed}
use Rattle.entries.specs.Entries.{count_of, entry_of}
use Rattle.entries.specs.Faults.{is_time}
use Rattle.state.specs.Tables.{slot_in}
use Rattle.rules.specs.declared.Row.{Row}
use Rattle.rules.specs.Sound.{component_of, is_waiting, is_caller}
use Rattle.rules.specs.Rows.{a_slot, scheduler, no_part, anyhow, queued, copied, nothing, a_payload, a_time, row_of}

-- ---- 2: an entry that the code leaves empty is filled, or the argument is of a kind that it does not take, as every bad value is

-- a value is the argument asked for; none is Void, and a time is a Number of 1 to 3,600,000 ("Numbers of refusal", 2; W-210)
unfoldable pub argues : ℕ → Value → Bool
argues k v =
    pick (eqb k nothing) (is_void v)
    (pick (eqb k a_payload) (is_payload v)
    (pick (eqb k a_time) (both (is_number v) (is_time v.number))
    (is_number v)))

-- what and argument are as the row of the code has them ("Numbers of refusal", 2)
unfoldable pub formed : Row → ℕ → Value → Bool
formed r what v = both (either (ltb no_part r.part) (eqb what 0)) (argues r.argument v)

-- ---- 3: no such part

-- the part that is named is there, if one is ("Numbers of refusal", 3)
unfoldable pub part_there : Config → ℕ → ℕ → Bool
part_there cfg tag n = either (eqb tag no_part) (ltb n (count_of cfg tag))

-- the list in which elements of a kind are named: required ones to be copied, provided ones to be written (W-211)
unfoldable pub lists_of : Config → ℕ → Lists
lists_of cfg tag = pick (eqb tag required_tag) cfg.incoming cfg.outgoing

-- an element of which the row asks that the runnable r lists it is listed by it (W-211)
unfoldable pub listed_there : Config → ℕ → Row → ℕ → Bool
listed_there cfg r w n = either (not (eqb w.queueing copied)) (is_listed (lists_of cfg w.part) r n)

-- what a step by an instance of the runnable r names is there: the part, if one is named, and in the runnable's list, if the row asks that ("Numbers of refusal", 3; W-211)
unfoldable pub named_there : Config → ℕ → Row → ℕ → Bool
named_there cfg r w n = both (part_there cfg w.part n) (listed_there cfg r w n)

-- ---- 4: the part is another component's, or an element is queued that should not be, or the other way round

-- a required or provided element has the queueing asked for, if one is: it is queued where its second number, its capacity or its kind, is not 0 ("Numbers of refusal", 4)
unfoldable pub queues_as : Config → ℕ → ℕ → ℕ → Bool
queues_as cfg tag queueing n = either (eqb queueing anyhow) (alike (ltb 0 (entry_of cfg tag n).second) (eqb queueing queued))

-- the part that a slot's step names, if one is, is of the instance's component, its first number, and has the queueing that the row asks for ("Numbers of refusal", 4)
unfoldable pub part_own : Config → ℕ → Row → ℕ → Bool
part_own cfg component r n =
    either (eqb r.part no_part) (both (eqb (entry_of cfg r.part n).first component) (queues_as cfg r.part r.queueing n))

-- ---- 5: which steps an instance may take as it lives

-- a result on a synchronous operation ("Numbers of refusal", 5)
unfoldable pub asks_synchronous : Config → ℕ → ℕ → Bool
asks_synchronous cfg code what = both (eqb code result_code) (not (operation_conf_in cfg.operations what).asynchronous)

-- a step for one that waits alone: a synchronous result, and giving up ("Numbers of refusal", 5; W-210)
unfoldable pub asks_waiting : Config → ℕ → ℕ → Bool
asks_waiting cfg code what = either (eqb code give_up_code) (asks_synchronous cfg code what)

-- a finished instance may end alone, and exit too if it has failed ("Numbers of refusal", 5; W-205)
unfoldable pub finished_lets : Life → ℕ → Bool
finished_lets l code = either (not l.finished) (either (eqb code end_code) (both l.failed (eqb code exit_code)))

-- one that has failed may hand back, exit and end alone (W-205)
unfoldable pub failed_lets : Life → ℕ → Bool
failed_lets l code = either (not l.failed) (either (eqb code hand_back_code) (either (eqb code exit_code) (eqb code end_code)))

-- what ends the waiting of an instance: the result on its operation; or a receive on the element that holds it, or giving up ("Numbers of refusal", 5; W-210)
unfoldable pub ends_waiting : Life → ℕ → ℕ → Bool
ends_waiting l code what =
    pick (is_caller l) (both (eqb code result_code) (eqb l.awaited.on what))
    (either (eqb code give_up_code) (both (eqb code receive_code) (eqb l.awaited.on what)))

-- a waiting instance may take only what ends its waiting ("Numbers of refusal", 5)
unfoldable pub waiting_lets : Life → ℕ → ℕ → Bool
waiting_lets l code what = either (not (is_waiting l)) (ends_waiting l code what)

-- a waiting instance, a finished one and one that has failed may do only what is left to them, and some steps are for one that waits ("Numbers of refusal", 5; W-205, W-210)
unfoldable pub life_lets : Config → Life → ℕ → ℕ → Bool
life_lets cfg l code what =
    all_of
    (waiting_lets l code what
    ∷ finished_lets l code
    ∷ failed_lets l code
    ∷ either (not (asks_waiting cfg code what)) (is_waiting l)
    ∷ [])

-- ---- the first that holds, or 0: for steps of a slot, and for the scheduler's, in which who is unused

-- the first of 4 and 5 that a slot's step falls under, or 0 ("Numbers of refusal", 4 and 5)
unfoldable pub owned_refusal : Config → Life → Row → ℕ → ℕ → ℕ
owned_refusal cfg l r code what =
    pick (part_own cfg (component_of cfg l.runnable) r what) (pick (life_lets cfg l code what) 0 barred) not_own

-- the first of the five that a slot's step falls under, or 0 ("Numbers of refusal", 2 to 5; 30 of W-208)
unfoldable pub instance_refusal : Config → Slots → Row → Step → ℕ
instance_refusal cfg ss r s =
    pick (formed r s.what s.argument)
    (pick (has_step cfg.edition s.code)
    (pick (both (slot_in ss s.who).used (named_there cfg (slot_in ss s.who).life.runnable r s.what))
    (owned_refusal cfg (slot_in ss s.who).life r s.code s.what)
    not_there)
    step_gone)
    malformed

-- the first of the two that a step of the scheduler falls under, or 0; its who is unused ("Numbers of refusal", 2 and 3)
unfoldable pub scheduler_refusal : Config → Row → Step → ℕ
scheduler_refusal cfg r s =
    pick (both (eqb s.who 0) (formed r s.what s.argument))
    (pick (part_there cfg r.part s.what)
    0
    not_there)
    malformed

-- the first of 2, 30 and 3 to 5 that a step falls under by its row, or 0; 2 for a code without one ("Numbers of refusal", 2 to 5; W-208)
unfoldable pub refusal_by : Config → Slots → Row → Step → ℕ
refusal_by cfg ss r s =
    pick (eqb r.who a_slot) (instance_refusal cfg ss r s)
    (pick (eqb r.who scheduler) (scheduler_refusal cfg r s)
    malformed)

-- the same by its code ("Numbers of refusal", 2 to 5; W-208)
unfoldable pub refusal_of : Config → Slots → Step → ℕ
refusal_of cfg ss s = refusal_by cfg ss (row_of s.code) s
