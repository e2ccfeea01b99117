-- The promises, as types, in the order of demand 3: of accepted steps and the state that they reach (`OfRuns`), or of a step with the steps before and after it
-- (`OfSteps`); and at the end all of them in one record (`Demand3`). They are proved in proofs/, by citing; nothing else stands here.
-- A promise that needs no state to be said names none; crate crew says these of the two files alone.
-- `Run cfg rs st` says that every step of rs, in turn from the start state, is accepted, with an answer that agrees with what it claims, and that st is the state reached.
-- Assumes nothing.
use Rattle.std.specs.Prelude.{ℕ, ◌+◌, ◌-◌, ◌%◌, ◌≤◌, ◌<◌, true, false, ◌⊎◌, ◌≡◌, ltb, eqb, length, get_or, take, drop}
use mathlib.Core.List.{List, [], ◌∷◌, ◌++◌, Memᴰ}
use Rattle.std.proofs.Math.Option.{Option, none, some}
use Rattle.numbers.specs.Codes.{enter_code, exit_code, receive_code, call_code, result_code, hand_back_code, end_code, spawn_code, timeout_code, tick_code, give_up_code, read_copy_code, write_copy_code}
use Rattle.laws.specs.Choice.{pick, both, either, bit}
use Rattle.faces.specs.Types.{Value, Step, Answer, Config, Client, State}
use Rattle.values.specs.Values.{void_v, number_v, ok_v, limit_v, no_data_v, timeout_v, server_err_v, is_payload, answer_refusal, answer_value}
use Rattle.config.specs.Tables.{max_runnable_confs, max_area_confs, max_required_confs, max_operation_confs, runnable_conf_in, required_conf_in, operation_conf_in, timer_conf_in}
use Rattle.entries.specs.Faults.{config_sound}
use Rattle.state.specs.Parts.{last_number, no_client}
use Rattle.state.specs.Queues.{first_value, top_area}
use Rattle.state.specs.Tables.{max_slots, runnable_in, area_in, element_in, operation_in, slot_in}
use Rattle.state.specs.Start.{start_of}
use Rattle.rules.specs.Rows.{a_slot, row_of}
use Rattle.rules.specs.Sound.{is_caller, is_held, times_in, is_bound, sound_of}
use Rattle.effects.specs.Step.{agrees, possible_of, step_of}
use Rattle.history.specs.History.{Request, no_request, by_instance, by_failure, Ending, history_of, queued_at, taken_by, failed_by, latest_on, ends_of, ended_on, last_on, is_unended, given, delivered, ended_call, Started, EndedBy, time_since, last_tick, InTime, lives_in, arguing, hands_on_in, back_in, bound_in, awaits_in, held_in, HeldFor, holder_of, all_queued, all_spawns}

-- an answer says that the step was taken, with a value that agrees with what it claims: by the number and the value that stand for it; no refusal has the number 0 (`never-zero` in crate stays_sound) ("Numbers of refusal"; W-201)
abbrev pub Answers : Answer → Step → Type 0
Answers a s = (answer_refusal a ≡ 0) × (agrees s.code (answer_value a) s.claim ≡ true)

-- every step of rs is accepted, from st to st' ("Judging")
unfoldable pub Accepted : Config → State → List Step → State → Type 0
Accepted cfg st [] st' = st ≡ st'
Accepted cfg st (s ∷ rs) st' = Answers (step_of cfg st s).answer s × Accepted cfg (step_of cfg st s).state rs st'

-- the steps are accepted one after another, from the start state to st ("Judging")
abbrev pub Run : Config → List Step → State → Type 0
Run cfg rs st = Accepted cfg (start_of cfg) rs st

-- a promise of accepted steps and the state that they reach: it holds of every run from the start state of a sound configuration ("Judging")
abbrev pub OfRuns : (Config → List Step → State → Type 0) → Type 0
OfRuns P = (cfg : Config) (rs : List Step) (st : State) → config_sound cfg ≡ true → Run cfg rs st → P cfg rs st

-- a promise of a step with the steps before and after it: it holds wherever the step stands in such a run ("Judging")
abbrev pub OfSteps : (Config → List Step → Step → List Step → Type 0) → Type 0
OfSteps P = (cfg : Config) (before after : List Step) (s : Step) (st : State) → config_sound cfg ≡ true → Run cfg (before ++ (s ∷ after)) st → P cfg before s after

-- ---- the promises

-- every state that accepted steps reach is sound: no step was refused because an earlier one had spoilt the state ("A sound state")
abbrev pub StaysSound : Config → List Step → State → Type 0
StaysSound cfg rs st = sound_of cfg st ≡ true

-- an area in a state: free and on no stack, or taken and held by the instance in the slot i, once, and by no other ("A sound state", areas)
abbrev pub HeldBy : State → ℕ → Option ℕ → Type 0
HeldBy st a none = ((area_in st.areas a).taken ≡ false) × ((i : ℕ) → i < max_slots → times_in a (slot_in st.slots i).stack ≡ 0)
HeldBy st a (some i) =
    ((area_in st.areas a).taken ≡ true) × (i < max_slots) × ((slot_in st.slots i).used ≡ true) × (times_in a (slot_in st.slots i).stack ≡ 1)
    × ((j : ℕ) → j < max_slots → (j ≡ i → ⊥) → times_in a (slot_in st.slots j).stack ≡ 0)

-- an area has exactly one holder, the instance that entered it and has not exited it since; if there is none, it is free ("A sound state", areas)
abbrev pub AreasHeld : Config → List Step → State → Type 0
AreasHeld cfg rs st = (a : ℕ) → a < max_area_confs → HeldBy st a (holder_of a rs)

-- an area is entered only while nobody holds it ("The eighteen steps", 3)
abbrev pub EntersFree : Config → List Step → Step → List Step → Type 0
EntersFree cfg before s after = s.code ≡ enter_code → holder_of s.what before ≡ none

-- and exited by its holder alone ("The eighteen steps", 4)
abbrev pub ExitsHeld : Config → List Step → Step → List Step → Type 0
ExitsHeld cfg before s after = s.code ≡ exit_code → holder_of s.what before ≡ some s.who

-- who ends holds none ("Numbers of refusal", 15)
abbrev pub EndsEmpty : Config → List Step → Step → List Step → Type 0
EndsEmpty cfg before s after = s.code ≡ end_code → (a : ℕ) → a < max_area_confs → holder_of a before ≡ some s.who → ⊥

-- a spawn goes into a slot where nobody lives ("The eighteen steps", Spawn)
abbrev pub SpawnsEmpty : Config → List Step → Step → List Step → Type 0
SpawnsEmpty cfg before s after = s.code ≡ spawn_code → (s.claim.number < max_slots) × (lives_in s.claim.number before ≡ 0)

-- and who takes a step as an instance lives in its slot ("The eighteen steps", above the table)
abbrev pub ActsAlive : Config → List Step → Step → List Step → Type 0
ActsAlive cfg before s after = (row_of s.code).who ≡ a_slot → 0 < lives_in s.who before

-- and so the holder of an area is always the instance that entered: one lives in its slot, and no step makes it another ("How tight the contracts are", demand 3)
abbrev pub HolderStays : Config → List Step → Step → List Step → Type 0
HolderStays cfg before s after =
    (a i : ℕ) → a < max_area_confs → holder_of a before ≡ some i → (0 < lives_in i before) × (lives_in i (before ++ (s ∷ [])) ≡ lives_in i before)

-- an instance that has failed takes no steps but these: it hands back, Void alone, it exits and it ends (W-205)
abbrev pub FailedStops : Config → List Step → Step → List Step → Type 0
FailedStops cfg before s after =
    (row_of s.code).who ≡ a_slot → failed_by (history_of cfg before) s.who ≡ true
    → (either (eqb s.code hand_back_code) (either (eqb s.code exit_code) (eqb s.code end_code)) ≡ true) × (s.code ≡ hand_back_code → s.argument ≡ void_v)

-- who has handed back ends, and may exit before that if it has failed; it does no more ("Numbers of refusal", 5; W-205)
abbrev pub BackIsLast : Config → List Step → Step → List Step → Type 0
BackIsLast cfg before s after =
    (row_of s.code).who ≡ a_slot → back_in s.who before ≡ true → either (eqb s.code end_code) (both (failed_by (history_of cfg before) s.who) (eqb s.code exit_code)) ≡ true

-- who was spawned for a call ends only after handing back ("Numbers of refusal", 16)
abbrev pub EndsPaid : Config → List Step → Step → List Step → Type 0
EndsPaid cfg before s after = s.code ≡ end_code → 0 < (taken_by (history_of cfg before) s.who).at → back_in s.who before ≡ true

-- a step of the instance i, of this code, on the part k and with Void handed over, is possible ("Numbers of refusal", 2 to 16)
abbrev pub Possible : Config → State → ℕ → ℕ → ℕ → Type 0
Possible cfg st code i k = answer_refusal (possible_of cfg st (record { code = code; who = i; what = k; argument = void_v; claim = void_v })).answer ≡ 0

-- who has failed can always come to its end: while it owes an answer it may hand back, while it holds areas exit the one on top, and with neither end (W-205)
abbrev pub FailedGoesOn : Config → List Step → State → Type 0
FailedGoesOn cfg rs st =
    (i : ℕ) → i < max_slots → failed_by (history_of cfg rs) i ≡ true
    → ((slot_in st.slots i).owed.serving ≡ true → Possible cfg st hand_back_code i 0)
    × (0 < (slot_in st.slots i).stack.held → Possible cfg st exit_code i (top_area (slot_in st.slots i).stack))
    × ((slot_in st.slots i).owed.serving ≡ false → (slot_in st.slots i).stack.held ≡ 0 → Possible cfg st end_code i 0)

-- no queue of requests passes its capacity ("A sound state", queue lengths)
abbrev pub RequestsFit : Config → List Step → State → Type 0
RequestsFit cfg rs st = (r : ℕ) → r < max_runnable_confs → (runnable_in st.runnables r).requests.queued ≤ (runnable_conf_in cfg.runnables r).capacity

-- no queue of values passes its capacity ("A sound state", queue lengths)
abbrev pub ValuesFit : Config → List Step → State → Type 0
ValuesFit cfg rs st = (q : ℕ) → q < max_required_confs → (element_in st.elements q).queue.queued ≤ (required_conf_in cfg.required q).capacity

-- a call is answered Limit while a call is open there or its caller has not collected, and Ok at any other time ("The eighteen steps", Call; W-202)
abbrev pub CallsOneByOne : Config → List Step → Step → List Step → Type 0
CallsOneByOne cfg before s after = s.code ≡ call_code → s.claim ≡ pick (either (is_unended (history_of cfg before) s.what) (bound_in cfg s.what before)) limit_v ok_v

-- who waits for a call takes no step but one: it asks for the result on that call's operation ("Numbers of refusal", 5; W-202)
abbrev pub WaiterWaits : Config → List Step → Step → List Step → Type 0
WaiterWaits cfg before s after =
    (row_of s.code).who ≡ a_slot → 0 < awaits_in cfg s.who before → (s.code ≡ result_code) × Started before (awaits_in cfg s.who before) s.what

-- a held instance goes on by the step s, when q held it for t: a receive there gives it the oldest value that is queued; or it gives up, with Timeout, when exactly its time has passed (W-210)
abbrev pub GoesOn : Config → List Step → Step → ℕ → ℕ → Type 0
GoesOn cfg before s q t =
    ((s.code ≡ receive_code) × (s.what ≡ q)
    × ((m : State) × Run cfg before m × (0 < (element_in m.elements q).queue.queued) × (s.claim ≡ first_value (element_in m.elements q).queue)))
    ⊎ ((s.code ≡ give_up_code) × (s.claim ≡ timeout_v) × (time_since (held_in s.who before) before ≡ t))

-- who is held takes no step but the one by which it goes on; its own hold is where the recording says (W-210)
abbrev pub HeldGoesOn : Config → List Step → Step → List Step → Type 0
HeldGoesOn cfg before s after =
    (row_of s.code).who ≡ a_slot → 0 < held_in s.who before → (q t : ℕ) × HeldFor before (held_in s.who before) s.who q t × GoesOn cfg before s q t

-- and who gives up was held (W-210)
abbrev pub GivesUpHeld : Config → List Step → Step → List Step → Type 0
GivesUpHeld cfg before s after = s.code ≡ give_up_code → 0 < held_in s.who before

-- who reads a copy is answered what the element held when its instance was spawned: m is the state before that spawn (W-211)
abbrev pub ReadsItsSpawn : Config → List Step → Step → List Step → Type 0
ReadsItsSpawn cfg before s after =
    s.code ≡ read_copy_code
    → (m : State) × Run cfg (take (lives_in s.who before - 1) before) m × (s.claim ≡ (element_in m.elements s.what).value)

-- and so is answered the same each time, from its spawn to its end: x is an earlier step, of the same instance on the same element (W-211)
abbrev pub ReadsAlike : Config → List Step → Step → List Step → Type 0
ReadsAlike cfg before s after =
    s.code ≡ read_copy_code → (x : Step) (earlier between : List Step) → before ≡ earlier ++ (x ∷ between)
    → x.code ≡ read_copy_code → x.who ≡ s.who → x.what ≡ s.what → lives_in s.who earlier ≡ lives_in s.who before → x.claim ≡ s.claim

-- what an instance sets is seen by nobody before it ends, and never if it fails or does not end: any other payload in its place, and the same recording is accepted with the same answers (W-211)
abbrev pub SetIsUnseen : Config → List Step → Step → List Step → Type 0
SetIsUnseen cfg before s after =
    s.code ≡ write_copy_code → hands_on_in s.who false after ≡ false
    → (v : Value) → is_payload v ≡ true → (st : State) × Run cfg (before ++ (arguing s v ∷ after)) st

-- a hand back is answered 1, and so ends the call that its instance was spawned for, exactly if that call has no ending yet ("The eighteen steps", Hand back)
abbrev pub BackIsAnswered : Config → List Step → Step → List Step → Type 0
BackIsAnswered cfg before s after =
    s.code ≡ hand_back_code → s.claim ≡ number_v (bit (eqb (ends_of (taken_by (history_of cfg before) s.who).at (history_of cfg before).endings) 0))

-- each started call ends at most once ("How tight the contracts are", demand 3)
abbrev pub EndsOnce : Config → List Step → Type 0
EndsOnce cfg rs = (k : ℕ) → ends_of k (history_of cfg rs).endings ≤ 1

-- an ending of a recording: at its place stands the step that ended the call, behind the call's own step; and how long the call lasted ("How tight the contracts are", demand 3)
pub record Ended (cfg : Config) (rs : List Step) (e : Ending) : Type 0 where
  pub before : List Step
  pub step : Step
  pub after : List Step
  pub whole : rs ≡ before ++ (step ∷ after)
  pub place : e.at ≡ length before + 1
  pub call : Started before e.call e.on
  pub by : EndedBy (history_of cfg before) step e.on e.call e.how
  pub time : InTime (time_since e.call before) (operation_conf_in cfg.operations e.on).timeout e.how

-- every ending is one: of a call started on its operation, by a timeout there or by a hand back of the instance spawned for this very call, which may have failed ("How tight the contracts are", demand 3; W-205)
abbrev pub EndsProperly : Config → List Step → Type 0
EndsProperly cfg rs = (e : Ending) → Memᴰ e (history_of cfg rs).endings → Ended cfg rs e

-- a timeout is taken at count zero of an open operation ("How tight the contracts are", demand 3)
abbrev pub TimeoutAtZero : Config → List Step → Step → List Step → Type 0
TimeoutAtZero cfg before s after =
    s.code ≡ timeout_code → (m : State) × Run cfg before m × ((operation_in m.operations s.what).calling ≡ true) × ((operation_in m.operations s.what).count ≡ 0)

-- and it ends the latest call there, which was started and has not ended ("How tight the contracts are", demand 3)
abbrev pub TimeoutEndsOpen : Config → List Step → Step → List Step → Type 0
TimeoutEndsOpen cfg before s after =
    s.code ≡ timeout_code → Started before (latest_on (history_of cfg before) s.what) s.what × (ends_of (latest_on (history_of cfg before) s.what) (history_of cfg before).endings ≡ 0)

-- and when exactly its timeout has passed since that call ("The eighteen steps", 16 and Wait)
abbrev pub TimeoutInTime : Config → List Step → Step → List Step → Type 0
TimeoutInTime cfg before s after =
    s.code ≡ timeout_code → time_since (latest_on (history_of cfg before) s.what) before ≡ (operation_conf_in cfg.operations s.what).timeout

-- a hand back that ends a call comes while no more than its timeout has passed since that call ("The eighteen steps", Hand back and Wait)
abbrev pub BackInTime : Config → List Step → Step → List Step → Type 0
BackInTime cfg before s after =
    s.code ≡ hand_back_code → s.claim ≡ number_v 1
    → time_since (taken_by (history_of cfg before) s.who).at before ≤ (operation_conf_in cfg.operations (taken_by (history_of cfg before) s.who).on).timeout

-- at every moment no more than its timeout has passed since any call that has no ending yet ("The eighteen steps", Wait)
abbrev pub OpenInTime : Config → List Step → Type 0
OpenInTime cfg rs = (k o : ℕ) → Started rs k o → ends_of k (history_of cfg rs).endings ≡ 0 → time_since k rs ≤ (operation_conf_in cfg.operations o).timeout

-- at every moment no more than its Number of milliseconds has passed since a held instance was held (W-210)
abbrev pub HeldInTime : Config → List Step → Type 0
HeldInTime cfg rs = (i : ℕ) → i < max_slots → 0 < held_in i rs → (q t : ℕ) × HeldFor rs (held_in i rs) i q t × (time_since (held_in i rs) rs ≤ t)

-- from one tick of a timer to its next exactly its period passes, and before its first tick no time at all ("The eighteen steps", 17 and Wait)
abbrev pub TicksInTime : Config → List Step → Step → List Step → Type 0
TicksInTime cfg before s after =
    s.code ≡ tick_code → time_since (last_tick s.what before) before ≡ pick (eqb (last_tick s.what before) 0) 0 (timer_conf_in cfg.timers s.what).period

-- at every moment no more than its period has passed since a timer's last tick, and before its first no time at all ("The eighteen steps", 17 and Wait)
abbrev pub TimersInTime : Config → List Step → Type 0
TimersInTime cfg rs = (k : ℕ) → k < cfg.timers.n → time_since (last_tick k rs) rs ≤ pick (eqb (last_tick k rs) 0) 0 (timer_conf_in cfg.timers k).period

-- a result is NoData while a call is open there, and else exactly what the latest ending there gave, however often it is asked for; a synchronous one is only given then ("The eighteen steps", Result)
abbrev pub ResultIsDelivered : Config → List Step → Step → List Step → Type 0
ResultIsDelivered cfg before s after =
    s.code ≡ result_code
    → (s.claim ≡ pick (is_unended (history_of cfg before) s.what) no_data_v (delivered (last_on s.what (history_of cfg before).endings)))
    × ((operation_conf_in cfg.operations s.what).asynchronous ≡ false → is_unended (history_of cfg before) s.what ≡ false)

-- what the step s collects, the ending e, is of its own call: that call was made by the instance that asks, which lives where it lived then and has waited for it since, and no other was started there behind it (W-202)
pub record Own (cfg : Config) (before : List Step) (s : Step) (e : Ending) : Type 0 where
  pub earlier : List Step
  pub call : Step
  pub between : List Step
  pub whole : before ≡ earlier ++ (call ∷ between)
  pub place : e.call ≡ length earlier + 1
  pub started : (call.code ≡ call_code) × (call.what ≡ s.what) × (call.claim ≡ ok_v)
  pub caller : call.who ≡ s.who
  pub lives : (0 < lives_in s.who earlier) × (lives_in s.who before ≡ lives_in s.who earlier)
  pub waits : awaits_in cfg s.who before ≡ e.call
  pub alone : (k : ℕ) → Started between k s.what → ⊥

-- a synchronous result is that of the caller's own call: the latest ending there is of that very call, and gave it (W-202)
abbrev pub ResultIsOwn : Config → List Step → Step → List Step → Type 0
ResultIsOwn cfg before s after =
    s.code ≡ result_code → (operation_conf_in cfg.operations s.what).asynchronous ≡ false
    → (e : Ending) × (last_on s.what (history_of cfg before).endings ≡ some e) × (s.claim ≡ given e.how) × Own cfg before s e

-- an operation in no call holds exactly what the latest ending there gave, Void before any, and that ending was its latest call's ("The eighteen steps", 13 and 16)
abbrev pub DoneIsDelivered : Config → List Step → State → Type 0
DoneIsDelivered cfg rs st =
    (o : ℕ) → o < max_operation_confs → (operation_in st.operations o).calling ≡ false
    → ((operation_in st.operations o).done ≡ delivered (last_on o (history_of cfg rs).endings)) × (ended_call (last_on o (history_of cfg rs).endings) ≡ latest_on (history_of cfg rs) o)

-- who gets a Number as a result gets what an instance handed back that was spawned for the latest call that ended there; and nowhere in the whole recording, before or after, does that call end again, by a timeout or otherwise ("How tight the contracts are", demand 3)
abbrev pub NumberIsFinal : Config → List Step → Step → List Step → Type 0
NumberIsFinal cfg before s after =
    (n : ℕ) → s.code ≡ result_code → s.claim ≡ number_v n
    → (e : Ending) × (last_on s.what (history_of cfg before).endings ≡ some e) × (e.how ≡ by_instance e.call (number_v n)) × (ends_of e.call (history_of cfg (before ++ (s ∷ after))).endings ≡ 1)

-- the same of the state reached: an operation Done with a Number ("How tight the contracts are", demand 3)
abbrev pub DoneIsFinal : Config → List Step → State → Type 0
DoneIsFinal cfg rs st =
    (o n : ℕ) → o < max_operation_confs → (operation_in st.operations o).calling ≡ false → (operation_in st.operations o).done ≡ number_v n
    → (e : Ending) × (last_on o (history_of cfg rs).endings ≡ some e) × (e.how ≡ by_instance e.call (number_v n)) × (ends_of e.call (history_of cfg rs).endings ≡ 1)

-- who gets ServerErr as a result gets it because an instance that was spawned for the latest call that ended there had failed; and nowhere in the whole recording does that call end again (W-205)
abbrev pub FailureIsFinal : Config → List Step → Step → List Step → Type 0
FailureIsFinal cfg before s after =
    s.code ≡ result_code → s.claim ≡ server_err_v
    → (e : Ending) × (last_on s.what (history_of cfg before).endings ≡ some e) × (e.how ≡ by_failure e.call) × (ends_of e.call (history_of cfg (before ++ (s ∷ after))).endings ≡ 1)

-- the same of the state reached: an operation Done with ServerErr (W-205)
abbrev pub DoneIsFailure : Config → List Step → State → Type 0
DoneIsFailure cfg rs st =
    (o : ℕ) → o < max_operation_confs → (operation_in st.operations o).calling ≡ false → (operation_in st.operations o).done ≡ server_err_v
    → (e : Ending) × (last_on o (history_of cfg rs).endings ≡ some e) × (e.how ≡ by_failure e.call) × (ends_of e.call (history_of cfg rs).endings ≡ 1)

-- ---- that the history misses and invents nothing

-- a slot is in use exactly while an instance lives there ("A sound state")
abbrev pub UsedIsLived : Config → List Step → State → Type 0
UsedIsLived cfg rs st = (i : ℕ) → i < max_slots → (slot_in st.slots i).used ≡ ltb 0 (lives_in i rs)

-- an instance has failed exactly if the history says so (W-205)
abbrev pub FailedFollowed : Config → List Step → State → Type 0
FailedFollowed cfg rs st = (i : ℕ) → i < max_slots → (slot_in st.slots i).life.failed ≡ failed_by (history_of cfg rs) i

-- an instance is finished exactly if it has handed back ("The eighteen steps", Hand back)
abbrev pub FinishedFollowed : Config → List Step → State → Type 0
FinishedFollowed cfg rs st = (i : ℕ) → i < max_slots → (slot_in st.slots i).life.finished ≡ back_in i rs

-- an instance waits exactly if it has a call that it has not collected (W-202)
abbrev pub WaitingFollowed : Config → List Step → State → Type 0
WaitingFollowed cfg rs st = (i : ℕ) → i < max_slots → is_caller (slot_in st.slots i).life ≡ ltb 0 (awaits_in cfg i rs)

-- an instance is held exactly if the recording says so (W-210)
abbrev pub HeldFollowed : Config → List Step → State → Type 0
HeldFollowed cfg rs st = (i : ℕ) → i < max_slots → is_held (slot_in st.slots i).life ≡ ltb 0 (held_in i rs)

-- an operation is bound, by an instance that waits on it, exactly if the recording says so; and so is every synchronous one whose latest call has no ending yet (W-202)
abbrev pub BoundFollowed : Config → List Step → State → Type 0
BoundFollowed cfg rs st =
    (o : ℕ) → o < max_operation_confs
    → (is_bound st.slots o ≡ bound_in cfg o rs)
    × ((operation_conf_in cfg.operations o).asynchronous ≡ false → is_unended (history_of cfg rs) o ≡ true → bound_in cfg o rs ≡ true)

-- the number of an operation says how many calls ended there, and goes round behind 65,535, however many they are (W-206)
abbrev pub NumberGoesRound : Config → List Step → State → Type 0
NumberGoesRound cfg rs st = (o : ℕ) → o < max_operation_confs → (operation_in st.operations o).number ≡ ended_on o (history_of cfg rs).endings % (last_number + 1)

-- an operation is open exactly if its latest call has no ending yet ("How tight the contracts are", demand 3)
abbrev pub OpenIsUnended : Config → List Step → State → Type 0
OpenIsUnended cfg rs st = (o : ℕ) → o < max_operation_confs → (operation_in st.operations o).calling ≡ is_unended (history_of cfg rs) o

-- any call that has no ending is the latest of its operation, which so has one open call at most ("The eighteen steps", Call)
abbrev pub UnendedIsLatest : Config → List Step → Type 0
UnendedIsLatest cfg rs = (k o : ℕ) → Started rs k o → ends_of k (history_of cfg rs).endings ≡ 0 → k ≡ latest_on (history_of cfg rs) o

-- the latest call of an operation, where it has one, was started on it ("How tight the contracts are", demand 3)
abbrev pub LatestStarted : Config → List Step → Type 0
LatestStarted cfg rs = (o : ℕ) → o < max_operation_confs → 0 < latest_on (history_of cfg rs) o → Started rs (latest_on (history_of cfg rs) o) o

-- the count of an open operation is what is left of its timeout, by the waits since its latest call ("The eighteen steps", Call and Wait)
abbrev pub CountIsRest : Config → List Step → State → Type 0
CountIsRest cfg rs st =
    (o : ℕ) → (operation_in st.operations o).calling ≡ true
    → time_since (latest_on (history_of cfg rs) o) rs + (operation_in st.operations o).count ≡ (operation_conf_in cfg.operations o).timeout

-- a client of the machine asks what the request asks: the same operation, with the same argument ("How tight the contracts are", demand 3)
abbrev pub Asks : Client → Request → Type 0
Asks c q = (c.operation ≡ q.on) × (c.argument ≡ q.argument)

-- the followed queues are the machine's: as long, and with the same requests in the same order ("How tight the contracts are", demand 3)
abbrev pub QueuesFollowed : Config → List Step → State → Type 0
QueuesFollowed cfg rs st =
    (r : ℕ) → r < max_runnable_confs
    → (length (queued_at (history_of cfg rs) r) ≡ (runnable_in st.runnables r).requests.queued)
    × ((j : ℕ) → j < (runnable_in st.runnables r).requests.queued → Asks (get_or (runnable_in st.runnables r).requests.at j no_client) (get_or (queued_at (history_of cfg rs) r) j no_request))

-- and an instance that serves a client serves the request that its spawn took ("How tight the contracts are", demand 3)
abbrev pub ServedFollowed : Config → List Step → State → Type 0
ServedFollowed cfg rs st = (i : ℕ) → i < max_slots → (slot_in st.slots i).owed.serving ≡ true → Asks (slot_in st.slots i).owed.client (taken_by (history_of cfg rs) i)

-- what waits at a server is all that was ever queued there, less the oldest, one for each spawn ("How tight the contracts are", demand 3)
abbrev pub FirstInFirstOut : Config → List Step → Type 0
FirstInFirstOut cfg rs =
    (r : ℕ) → r < cfg.runnables.n → 0 < (runnable_conf_in cfg.runnables r).capacity → queued_at (history_of cfg rs) r ≡ drop (all_spawns r rs) (all_queued cfg r 0 rs)

-- and so a spawn finds a request there, and the n-th one takes the n-th that was queued ("How tight the contracts are", demand 3)
abbrev pub SpawnTakesNext : Config → List Step → Step → List Step → Type 0
SpawnTakesNext cfg before s after =
    s.code ≡ spawn_code → 0 < (runnable_conf_in cfg.runnables s.what).capacity
    → (all_spawns s.what before < length (all_queued cfg s.what 0 before))
    × (taken_by (history_of cfg (before ++ (s ∷ []))) s.claim.number ≡ get_or (all_queued cfg s.what 0 before) (all_spawns s.what before) no_request)

-- ---- all together

-- that the history of the steps so far misses and invents nothing ("How tight the contracts are", demand 3)
pub record Followed (cfg : Config) (rs : List Step) (st : State) : Type 0 where
  pub used : UsedIsLived cfg rs st
  pub failed : FailedFollowed cfg rs st
  pub finished : FinishedFollowed cfg rs st
  pub waiting : WaitingFollowed cfg rs st
  pub held : HeldFollowed cfg rs st
  pub bound : BoundFollowed cfg rs st
  pub number : NumberGoesRound cfg rs st
  pub unended : OpenIsUnended cfg rs st
  pub newest : UnendedIsLatest cfg rs
  pub latest : LatestStarted cfg rs
  pub rest : CountIsRest cfg rs st
  pub queues : QueuesFollowed cfg rs st
  pub served : ServedFollowed cfg rs st
  pub fifo : FirstInFirstOut cfg rs

-- a moment: the steps so far, and the state that they reached ("How tight the contracts are", demand 3)
pub record AtMoment (cfg : Config) (rs : List Step) (st : State) : Type 0 where
  pub run : Run cfg rs st
  pub sound : StaysSound cfg rs st
  pub areas : AreasHeld cfg rs st
  pub goes : FailedGoesOn cfg rs st
  pub requests : RequestsFit cfg rs st
  pub values : ValuesFit cfg rs st
  pub once : EndsOnce cfg rs
  pub properly : EndsProperly cfg rs
  pub time : OpenInTime cfg rs
  pub held : HeldInTime cfg rs
  pub timers : TimersInTime cfg rs
  pub delivered : DoneIsDelivered cfg rs st
  pub done : DoneIsFinal cfg rs st
  pub failure : DoneIsFailure cfg rs st
  pub history : Followed cfg rs st

-- a step, with the steps before and after it ("How tight the contracts are", demand 3)
pub record AtStep (cfg : Config) (before : List Step) (s : Step) (after : List Step) : Type 0 where
  pub enter : EntersFree cfg before s after
  pub exit : ExitsHeld cfg before s after
  pub end : EndsEmpty cfg before s after
  pub fresh : SpawnsEmpty cfg before s after
  pub alive : ActsAlive cfg before s after
  pub holder : HolderStays cfg before s after
  pub failed : FailedStops cfg before s after
  pub last : BackIsLast cfg before s after
  pub paid : EndsPaid cfg before s after
  pub call : CallsOneByOne cfg before s after
  pub waiter : WaiterWaits cfg before s after
  pub held : HeldGoesOn cfg before s after
  pub spent : GivesUpHeld cfg before s after
  pub copy : ReadsItsSpawn cfg before s after
  pub copies : ReadsAlike cfg before s after
  pub unseen : SetIsUnseen cfg before s after
  pub answer : BackIsAnswered cfg before s after
  pub zero : TimeoutAtZero cfg before s after
  pub ends : TimeoutEndsOpen cfg before s after
  pub timeout : TimeoutInTime cfg before s after
  pub back : BackInTime cfg before s after
  pub tick : TicksInTime cfg before s after
  pub result : ResultIsDelivered cfg before s after
  pub own : ResultIsOwn cfg before s after
  pub number : NumberIsFinal cfg before s after
  pub failure : FailureIsFinal cfg before s after
  pub spawn : SpawnTakesNext cfg before s after

-- demand 3 of a list of steps: at every moment, and at every step ("How tight the contracts are", demand 3)
pub record Demand3 (cfg : Config) (rs : List Step) : Type 0 where
  pub moments : (before after : List Step) → rs ≡ before ++ after → (m : State) × AtMoment cfg before m
  pub steps : (before after : List Step) (s : Step) → rs ≡ before ++ (s ∷ after) → AtStep cfg before s after
