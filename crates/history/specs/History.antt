-- The calls of a recording, the time that passes in it, who lives in its slots, who has failed, who waits, who is held and who holds its areas, as its steps and their answers show them under its configuration. No state of the machine is used here, and no number of an operation.
-- The name of a call is where its step stands in the recording, from 1 on, and 0 names none; an accepted step has the answer that it claims, but for a send, whose claim is not read here (W-201).
-- Assumes nothing.
use Rattle.std.specs.Prelude.{ℕ, zero, suc, ◌+◌, ◌≤◌, Bool, true, false, not, List, [], ◌∷◌, ◌++◌, ◌≡◌, ltb, eqb, length, get_or, set, drop, replicate}
use Rattle.std.proofs.Math.Option.{Option, none, some}
use Rattle.numbers.specs.Codes.{enter_code, exit_code, call_code, hand_back_code, end_code, spawn_code, timeout_code, tick_code, wait_code, fail_code, receive_code, hold_code, give_up_code}
use Rattle.laws.specs.Choice.{pick, both, either, bit}
use Rattle.faces.specs.Types.{Value, Step, Config}
use Rattle.values.specs.Values.{void_v, number_v, ok_v, timeout_v, server_err_v, same_value}
use Rattle.config.specs.Tables.{max_runnable_confs, max_operation_confs, operation_conf_in}
use Rattle.entries.specs.Faults.{is_server}
use Rattle.state.specs.Tables.{max_slots}
use Rattle.rules.specs.Refusals.{asks_synchronous}

-- a request: its call's name, the operation called and the argument passed ("How tight the contracts are", demand 3)
pub record Request : Type 0 where
  pub at : ℕ
  pub on : ℕ
  pub argument : Value

-- no request, as a slot has that serves none ("How tight the contracts are", demand 3)
abbrev pub no_request : Request
no_request = record { at = 0; on = 0; argument = void_v }

-- what ended a call: time, an instance that had been spawned for the call named here and gave this value back, or one that had been spawned for it and had failed ("How tight the contracts are", demand 3; W-205)
pub data How : Type 0 where
  by_timeout : How
  by_instance : ℕ → Value → How
  by_failure : ℕ → How

-- an ending: the operation, the call that it ended, where the step stands that ended it, and how ("How tight the contracts are", demand 3)
pub record Ending : Type 0 where
  pub on : ℕ
  pub call : ℕ
  pub at : ℕ
  pub how : How

-- what is known after some steps of a recording ("How tight the contracts are", demand 3)
pub record History : Type 0 where
  -- how many steps there were
  pub place : ℕ
  -- for every runnable what waits there, the oldest in front
  pub queued : List (List Request)
  -- for every slot the request that its instance serves
  pub taken : List Request
  -- for every slot whether its instance has failed
  pub failed : List Bool
  -- for every operation the call that was started last
  pub latest : List ℕ
  -- every ending, the newest in front
  pub endings : List Ending

-- the history before any step ("How tight the contracts are", demand 3)
unfoldable pub nothing : History
nothing = record { place = 0; queued = replicate max_runnable_confs []; taken = replicate max_slots no_request; failed = replicate max_slots false; latest = replicate max_operation_confs 0; endings = [] }

-- the requests that wait at the runnable r ("How tight the contracts are", demand 3)
abbrev pub queued_at : History → ℕ → List Request
queued_at h r = get_or h.queued r []

-- the request that the instance in the slot i took ("How tight the contracts are", demand 3)
abbrev pub taken_by : History → ℕ → Request
taken_by h i = get_or h.taken i no_request

-- the instance in the slot i has failed (W-205)
abbrev pub failed_by : History → ℕ → Bool
failed_by h i = get_or h.failed i false

-- the latest started call on the operation o ("How tight the contracts are", demand 3)
abbrev pub latest_on : History → ℕ → ℕ
latest_on h o = get_or h.latest o 0

-- ---- what one step adds

-- a step that starts, takes and ends no call ("How tight the contracts are", demand 3)
abbrev pub passed : History → History
passed h = record { place = h.place + 1; queued = h.queued; taken = h.taken; failed = h.failed; latest = h.latest; endings = h.endings }

-- a call of o starts, with the argument v: this step's request is now the last that waits at the server of o ("How tight the contracts are", demand 3)
abbrev pub call_adds : Config → History → ℕ → Value → History
call_adds cfg h o v = record {
  place = h.place + 1;
  queued = set h.queued (operation_conf_in cfg.operations o).server (queued_at h (operation_conf_in cfg.operations o).server ++ (record { at = h.place + 1; on = o; argument = v } ∷ []));
  taken = h.taken;
  failed = h.failed;
  latest = set h.latest o (h.place + 1);
  endings = h.endings;
}

-- the latest call of o ends ("How tight the contracts are", demand 3)
abbrev pub closing_adds : History → ℕ → How → History
closing_adds h o w = record {
  place = h.place + 1;
  queued = h.queued;
  taken = h.taken;
  failed = h.failed;
  latest = h.latest;
  endings = record { on = o; call = latest_on h o; at = h.place + 1; how = w } ∷ h.endings;
}

-- how a hand back of the instance in the slot i ends its call: by its failure, or with the value v ("How tight the contracts are", demand 3; W-205)
abbrev pub back_by : History → ℕ → Value → How
back_by h i v = pick (failed_by h i) (by_failure (taken_by h i).at) (by_instance (taken_by h i).at v)

-- the instance in the slot i fails (W-205)
abbrev pub fail_adds : History → ℕ → History
fail_adds h i = record { place = h.place + 1; queued = h.queued; taken = h.taken; failed = set h.failed i true; latest = h.latest; endings = h.endings }

-- the slot i has an instance that took q, and has not failed ("How tight the contracts are", demand 3; W-205)
abbrev pub slot_adds : History → ℕ → Request → History
slot_adds h i q = record { place = h.place + 1; queued = h.queued; taken = set h.taken i q; failed = set h.failed i false; latest = h.latest; endings = h.endings }

-- the slot i has an instance that took the oldest request of r, and has not failed ("How tight the contracts are", demand 3; W-205)
abbrev pub server_adds : History → ℕ → ℕ → History
server_adds h i r = record {
  place = h.place + 1;
  queued = set h.queued r (drop 1 (queued_at h r));
  taken = set h.taken i (get_or (queued_at h r) 0 no_request);
  failed = set h.failed i false;
  latest = h.latest;
  endings = h.endings;
}

-- an accepted step: a call answered Ok starts one, a hand back answered 1 and a timeout end one, a spawn of a server takes a request, an end and any other spawn leave a slot with none, a fail marks its slot, which an end and a spawn clear; all others pass ("How tight the contracts are", demand 3; W-205)
unfoldable pub observe : Config → History → Step → History
observe cfg h s =
    pick (eqb s.code call_code) (pick (same_value s.claim ok_v) (call_adds cfg h s.what s.argument) (passed h))
    (pick (eqb s.code hand_back_code) (pick (eqb s.claim.number 1) (closing_adds h (taken_by h s.who).on (back_by h s.who s.argument)) (passed h))
    (pick (eqb s.code end_code) (slot_adds h s.who no_request)
    (pick (eqb s.code spawn_code) (pick (is_server cfg s.what) (server_adds h s.claim.number s.what) (slot_adds h s.claim.number no_request))
    (pick (eqb s.code timeout_code) (closing_adds h s.what by_timeout)
    (pick (eqb s.code fail_code) (fail_adds h s.who)
    (passed h))))))

-- the history after more steps, from one on ("How tight the contracts are", demand 3)
unfoldable pub history_from : Config → History → List Step → History
history_from cfg h [] = h
history_from cfg h (s ∷ rs) = history_from cfg (observe cfg h s) rs

-- the history of a recording ("How tight the contracts are", demand 3)
unfoldable pub history_of : Config → List Step → History
history_of cfg rs = history_from cfg nothing rs

-- ---- questions to a history

-- how often the call k ended ("How tight the contracts are", demand 3)
unfoldable pub ends_of : ℕ → List Ending → ℕ
ends_of k [] = 0
ends_of k (e ∷ es) = bit (eqb e.call k) + ends_of k es

-- how many calls of o ended (W-206)
unfoldable pub ended_on : ℕ → List Ending → ℕ
ended_on o [] = 0
ended_on o (e ∷ es) = bit (eqb e.on o) + ended_on o es

-- the last ending on o ("How tight the contracts are", demand 3)
unfoldable pub last_on : ℕ → List Ending → Option Ending
last_on o [] = none
last_on o (e ∷ es) = pick (eqb e.on o) (some e) (last_on o es)

-- the latest call on o has no ending yet ("How tight the contracts are", demand 3)
unfoldable pub is_unended : History → ℕ → Bool
is_unended h o = both (ltb 0 (latest_on h o)) (eqb (ends_of (latest_on h o) h.endings) 0)

-- what an ending gave: Timeout, what was handed back, or ServerErr ("The eighteen steps", 13 and 16; W-205)
abbrev pub given : How → Value
given by_timeout = timeout_v
given (by_instance k v) = v
given (by_failure k) = server_err_v

-- the same of the last ending, and Void where there is none ("The eighteen steps", 13 and 16)
abbrev pub delivered : Option Ending → Value
delivered none = void_v
delivered (some e) = given e.how

-- the call that the last ending ended, 0 where there is none ("How tight the contracts are", demand 3)
abbrev pub ended_call : Option Ending → ℕ
ended_call none = 0
ended_call (some e) = e.call

-- the step at place k of the recording, counted from 1, is a call on o that was answered Ok ("How tight the contracts are", demand 3)
unfoldable pub Started : List Step → ℕ → ℕ → Type 0
Started [] k o = ⊥
Started (s ∷ rs) zero o = ⊥
Started (s ∷ rs) (suc zero) o = (s.code ≡ call_code) × (s.what ≡ o) × (s.claim ≡ ok_v)
Started (s ∷ rs) (suc (suc k)) o = Started rs (suc k) o

-- the step s is a hand back answered 1 by an instance that had taken the request of the call k of o ("How tight the contracts are", demand 3)
abbrev pub HandedBack : History → Step → ℕ → ℕ → Type 0
HandedBack h s o k = (s.code ≡ hand_back_code) × (s.claim ≡ number_v 1) × ((taken_by h s.who).on ≡ o) × ((taken_by h s.who).at ≡ k)

-- the step s ended the call k of o so, when this was known: a timeout on o; or a hand back by an instance spawned for this very call, of the value v if it had not failed, of Void if it had ("How tight the contracts are", demand 3; W-205)
abbrev pub EndedBy : History → Step → ℕ → ℕ → How → Type 0
EndedBy h s o k by_timeout = (s.code ≡ timeout_code) × (s.what ≡ o)
EndedBy h s o k (by_instance j v) = HandedBack h s o k × (j ≡ k) × (s.argument ≡ v) × (failed_by h s.who ≡ false)
EndedBy h s o k (by_failure j) = HandedBack h s o k × (j ≡ k) × (s.argument ≡ void_v) × (failed_by h s.who ≡ true)

-- ---- what the steps of a recording tell, one after the other

-- what is known after the steps rs, before which n stand, if w was known before them: f says it of one step, by its place, what was known before it, and the step ("How tight the contracts are", demand 3)
unfoldable pub traced_from : {A : Type 0} → (ℕ → A → Step → A) → A → ℕ → List Step → A
traced_from f w n [] = w
traced_from f w n (s ∷ rs) = traced_from f (f (n + 1) w s) (n + 1) rs

-- the same of a whole recording ("How tight the contracts are", demand 3)
abbrev pub traced : {A : Type 0} → (ℕ → A → Step → A) → A → List Step → A
traced f w rs = traced_from f w 0 rs

-- ---- time, as the waits of a recording tell it

-- the time that a step lets pass: a wait its argument, any other none ("The eighteen steps", Wait)
unfoldable pub time_of : Step → ℕ
time_of s = pick (eqb s.code wait_code) s.argument.number 0

-- the time that steps let pass together ("The eighteen steps", Wait)
unfoldable pub time_in : List Step → ℕ
time_in [] = 0
time_in (s ∷ rs) = time_of s + time_in rs

-- the time since the place k of a recording ("The eighteen steps", Wait)
abbrev pub time_since : ℕ → List Step → ℕ
time_since k rs = time_in (drop k rs)

-- where the timer k last ticked after the step s at place n, if it was w before ("The eighteen steps", 17)
unfoldable pub tick_after : ℕ → ℕ → ℕ → Step → ℕ
tick_after k n w s = pick (both (eqb s.code tick_code) (eqb s.what k)) n w

-- the place of the last tick of the timer k, 0 before any ("The eighteen steps", 17)
unfoldable pub last_tick : ℕ → List Step → ℕ
last_tick k rs = traced (tick_after k) 0 rs

-- how long a call lasted that ended so, with this timeout: exactly that long, or no longer ("The eighteen steps", 16 and Wait)
abbrev pub InTime : ℕ → ℕ → How → Type 0
InTime t top by_timeout = t ≡ top
InTime t top (by_instance j v) = t ≤ top
InTime t top (by_failure j) = t ≤ top

-- ---- instances, as spawns and ends tell it; an instance is named by the place of its spawn

-- who lives in the slot i after the step s at place n, if w did before: a spawn answered with i puts one there, its end leaves nobody, 0 ("The eighteen steps", 14 and Spawn)
unfoldable pub lives_after : ℕ → ℕ → ℕ → Step → ℕ
lives_after i n w s = pick (both (eqb s.code spawn_code) (eqb s.claim.number i)) n (pick (both (eqb s.code end_code) (eqb s.who i)) 0 w)

-- who lives in the slot i after the steps of a recording ("The eighteen steps", 14 and Spawn)
unfoldable pub lives_in : ℕ → List Step → ℕ
lives_in i rs = traced (lives_after i) 0 rs

-- whether the instance in the slot i has handed back after the step s, if w says so before: its hand back does so, and a spawn there and its end begin anew ("The eighteen steps", 13, 14 and Spawn)
unfoldable pub back_after : ℕ → Bool → Step → Bool
back_after i w s =
    pick (both (eqb s.code spawn_code) (eqb s.claim.number i)) false
    (pick (both (eqb s.code end_code) (eqb s.who i)) false
    (pick (both (eqb s.code hand_back_code) (eqb s.who i)) true
    w))

-- the instance in the slot i has handed back, after the steps of a recording ("The eighteen steps", 13, 14 and Spawn)
unfoldable pub back_in : ℕ → List Step → Bool
back_in i rs = traced (λ n. back_after i) false rs

-- ---- waiting callers, as calls and results tell it

-- the step s starts a call on a synchronous operation (W-202)
unfoldable pub binds : Config → Step → Bool
binds cfg s = both (eqb s.code call_code) (both (same_value s.claim ok_v) (not (operation_conf_in cfg.operations s.what).asynchronous))

-- the step s collects the result of a synchronous operation (W-202)
abbrev pub frees : Config → Step → Bool
frees cfg s = asks_synchronous cfg s.code s.what

-- whether the operation o is bound after the step s, if w says so before: a call that starts there binds it, and its result frees it (W-202)
unfoldable pub bound_after : Config → ℕ → Bool → Step → Bool
bound_after cfg o w s = pick (eqb s.what o) (pick (binds cfg s) true (pick (frees cfg s) false w)) w

-- the operation o is bound, after the steps of a recording (W-202)
unfoldable pub bound_in : Config → ℕ → List Step → Bool
bound_in cfg o rs = traced (λ n. bound_after cfg o) false rs

-- the call that the instance in the slot i waits for after the step s at place n, if it was w before: its own call on a synchronous operation, until it has collected, and 0 for none (W-202)
unfoldable pub awaits_after : Config → ℕ → ℕ → ℕ → Step → ℕ
awaits_after cfg i n w s = pick (eqb s.who i) (pick (binds cfg s) n (pick (frees cfg s) 0 w)) w

-- the call that the instance in the slot i waits for, after the steps of a recording (W-202)
unfoldable pub awaits_in : Config → ℕ → List Step → ℕ
awaits_in cfg i rs = traced (awaits_after cfg i) 0 rs

-- ---- held instances, as holds, receives and givings up tell it

-- where the step stands that holds the instance in the slot i, after the step s at place n, if it was w before: its hold, until it receives or gives up, and 0 for none (W-210)
unfoldable pub held_after : ℕ → ℕ → ℕ → Step → ℕ
held_after i n w s = pick (eqb s.who i) (pick (eqb s.code hold_code) n (pick (either (eqb s.code receive_code) (eqb s.code give_up_code)) 0 w)) w

-- where the step stands that holds the instance in the slot i, after the steps of a recording (W-210)
unfoldable pub held_in : ℕ → List Step → ℕ
held_in i rs = traced (held_after i) 0 rs

-- the step at place k of the recording, counted from 1, holds the instance in the slot i on the element q for t milliseconds at most (W-210)
pub record HeldFor (rs : List Step) (k i q t : ℕ) : Type 0 where
  pub earlier : List Step
  pub hold : Step
  pub later : List Step
  pub whole : rs ≡ earlier ++ (hold ∷ later)
  pub place : k ≡ length earlier + 1
  pub is : (hold.code ≡ hold_code) × (hold.who ≡ i) × (hold.what ≡ q) × (hold.argument.number ≡ t)

-- ---- areas, as enters and exits tell it

-- who holds the area a after the step s, if w held it before: an enter makes its instance the holder, an exit leaves it to nobody ("The eighteen steps", 3 and 4)
unfoldable pub holder_after : ℕ → Option ℕ → Step → Option ℕ
holder_after a w s = pick (eqb s.what a) (pick (eqb s.code enter_code) (some s.who) (pick (eqb s.code exit_code) none w)) w

-- who holds the area a after the steps of a recording, by its slot ("The eighteen steps", 3 and 4)
unfoldable pub holder_of : ℕ → List Step → Option ℕ
holder_of a rs = traced (λ n. holder_after a) none rs

-- ---- copies, and what is seen of them

-- the same step with another argument (W-211)
abbrev pub arguing : Step → Value → Step
arguing s v = record { code = s.code; who = s.who; what = s.what; argument = v; claim = s.claim }

-- the first end of the instance in the slot i among the steps is that of one which has not failed, f saying whether it has failed before them: then what it has set is handed on (W-211)
unfoldable pub hands_on_in : ℕ → Bool → List Step → Bool
hands_on_in i f [] = false
hands_on_in i f (s ∷ rs) =
    pick (both (eqb s.code end_code) (eqb s.who i)) (not f)
    (hands_on_in i (either f (both (eqb s.code fail_code) (eqb s.who i))) rs)

-- ---- requests followed in a second way: all that were ever queued at r, and how many were taken there

-- the requests that rs queues at r, oldest first; n steps stand before rs ("How tight the contracts are", demand 3)
unfoldable pub all_queued : Config → ℕ → ℕ → List Step → List Request
all_queued cfg r n [] = []
all_queued cfg r n (s ∷ rs) =
    pick (both (eqb s.code call_code) (both (same_value s.claim ok_v) (eqb (operation_conf_in cfg.operations s.what).server r)))
    (record { at = n + 1; on = s.what; argument = s.argument } ∷ all_queued cfg r (n + 1) rs)
    (all_queued cfg r (n + 1) rs)

-- how many instances of r were spawned ("How tight the contracts are", demand 3)
unfoldable pub all_spawns : ℕ → List Step → ℕ
all_spawns r [] = 0
all_spawns r (s ∷ rs) = bit (both (eqb s.code spawn_code) (eqb s.what r)) + all_spawns r rs
