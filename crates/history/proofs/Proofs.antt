-- The promises, proved, in the order of the page that states them. Each is read off the state that a run reaches, which is sound (`sound-at`) and tied to the
-- recording's history (`tied_at`), whose places are started calls (`named-at`) and whose queues are first in, first out (`fifo-at`); a promise about a step inside
-- a recording is read off the run before it (`halves`).
-- Assumes nothing.
use Prim.Native.Nat.{ℕ, ◌+◌, ◌<◌}
use mathlib.Core.Bool.{Bool, true, false}
use mathlib.Core.List.{List, ◌∷◌, ◌++◌}
use mathlib.Core.Logic.{inl, inr}
use mathlib.Core.Option.{some}
use mathlib.Core.Path.{◌≡◌, refl, sym, ◌∙◌, ap}
use native.Mathlib.Nat.{add-zero}
use native.Mathlib.Omega.{arith}
use lib.Dec.{ltb, eqb}
use lib.ListN.{length, get_or, length-drop}
use lib.Seq.{get_or-drop}
use borrow.Author.Tests.{ltb-true, ltb-false, lt-ltb, eqb-true, eq-eqb}
use Rattle.numbers.specs.Codes.{receive_code, send_code, give_up_code}
use Rattle.numbers.specs.Tags.{required_tag}
use Rattle.laws.specs.Choice.{bit}
use Rattle.laws.proofs.Choosing.{both_left, both_right}
use Rattle.faces.specs.Types.{Value, Step, Taken, Config, State}
use Rattle.values.specs.Values.{number_v, server_err_v}
use Rattle.entries.specs.Faults.{is_server, config_sound}
use Rattle.state.specs.Start.{start_of}
use Rattle.state.specs.Tables.{slot_in}
use Rattle.effects.specs.Steps.{lowest_empty}
use Rattle.effects.specs.Step.{step_of}
use Rattle.rules.specs.Sound.{is_caller, is_held, is_waiting, waiters_of}
use Rattle.stays_sound.specs.Facts.{Sound}
use Rattle.rules.proofs.Configured.{runnables-most, areas-most, server-there}
use Rattle.stays_sound.proofs.Kept.{here, lowest-empty}
use Rattle.stays_sound.proofs.Instances.{instance-at, waits-held}
use Rattle.stays_sound.proofs.Areas.{times_none, exit-stack}
use Rattle.stays_sound.proofs.Clients.{requests-told}
use Rattle.stays_sound.proofs.Ways.{Way}
use Rattle.stays_sound.proofs.Accepted.{answer_in, way, enter-told, exit-told, collect-told, result-told, answer-told, end-told, spawn-told, timeout-told, tick-told, receive-told, give-up-told}
use Rattle.history.specs.History.{no_request, History, history_of, taken_by, latest_on, ends_of, last_on, is_unended, lives_in, bound_in, awaits_in, holder_of, all_queued, all_spawns, held_in}
use Rattle.history.specs.Promises.{Run, OfRuns, OfSteps, StaysSound, HeldBy, AreasHeld, EntersFree, ExitsHeld, EndsEmpty, SpawnsEmpty, ActsAlive, HolderStays, FailedStops, BackIsLast, EndsPaid, FailedGoesOn, RequestsFit, ValuesFit, CallsOneByOne, WaiterWaits, BackIsAnswered, EndsOnce, EndsProperly, TimeoutAtZero, TimeoutEndsOpen, TimeoutInTime, BackInTime, OpenInTime, TicksInTime, TimersInTime, ResultIsDelivered, ResultIsOwn, DoneIsDelivered, NumberIsFinal, DoneIsFinal, FailureIsFinal, DoneIsFailure, UsedIsLived, FailedFollowed, FinishedFollowed, NumberGoesRound, WaitingFollowed, BoundFollowed, OpenIsUnended, UnendedIsLatest, LatestStarted, CountIsRest, QueuesFollowed, ServedFollowed, FirstInFirstOut, SpawnTakesNext, GoesOn, HeldGoesOn, GivesUpHeld, HeldInTime, HeldFollowed}
use Rattle.history.proofs.Runs.{Halves, halves, first, history-one}
use Rattle.history.proofs.Deeds.{due-server}
use Rattle.history.proofs.Ended.{ended_at, answer-latest}
use Rattle.history.proofs.Reached.{sound-along, sound-at, tied_at, named-at, fifo-at, timed-at, ticked-at, ended-along, holds_at, unended-at, lives_at, backs-at, runs-at, paid-at, bounds-at, awaits-at, held_at, ends-grow}
use Rattle.history.proofs.Holding.{Holding}
use Rattle.history.proofs.Lets.{taker-used, failed-lets, finished-lets, waiting-lets, held-lets, collected-shut}
use Rattle.history.proofs.Unended.{started-some}
use Rattle.history.proofs.Lives.{lives-one, lives-on}
use Rattle.history.proofs.Waiting.{Waiter, waiter-started, own-ending}
use Rattle.history.proofs.Goes.{back-open, exit-open, end-open}
use Rattle.history.proofs.Held.{Holds, held_by, free-none, stack-holder}
use Rattle.history.proofs.Finals.{values-told, open-unended, call-alone, back-way, back-failed, result-delivered, done-final, failed-final, took-oldest}

-- ---- a step inside a recording

-- what a step finds: the state before it, which is sound, and the way that it went
module _ (cfg : Config) (before after : List Step) (s : Step) (st : State) (c : config_sound cfg ≡ true) (e : Run cfg (before ++ (s ∷ after)) st) where
  abbrev found : Halves cfg (start_of cfg) st before (s ∷ after)
  found = halves cfg (start_of cfg) st before (s ∷ after) e

  sound-before : Sound cfg found.mid
  sound-before = sound-at cfg before found.mid c found.before

  taken-there : (step_of cfg found.mid s).answer ≡ Taken (answer_in cfg found.mid s)
  taken-there = first cfg found.mid st s after found.after

  way-there : {n : ℕ} → s.code ≡ n → eqb n send_code ≡ false → Way cfg found.mid s n s.claim (step_of cfg found.mid s).state
  way-there q f = way cfg found.mid s q f taken-there

-- ---- states

pub stays-sound : OfRuns StaysSound
stays-sound = sound-along

-- ---- areas and queues

pub areas-held : OfRuns AreasHeld
areas-held cfg rs st c e a b = held_by cfg st a (sound-at cfg rs st c e) b (holder_of a rs) (holds_at cfg rs st a e)

pub enters-free : OfSteps EntersFree
enters-free cfg before after s st c e q =
    let g = sound-before cfg before after s st c e in
    let m = found cfg before after s st c e in
    let z = enter-told cfg m.mid s (way-there cfg before after s st c e q refl) in
    free-none cfg m.mid s.what g (omega (arith, z.inside, areas-most cfg c)) (holder_of s.what before) (holds_at cfg before m.mid s.what m.before) z.free

pub exits-held : OfSteps ExitsHeld
exits-held cfg before after s st c e q =
    let g = sound-before cfg before after s st c e in
    let m = found cfg before after s st c e in
    let z = exit-told cfg m.mid s (way-there cfg before after s st c e q refl) in
    stack-holder cfg m.mid s.what g (omega (arith, z.inside, areas-most cfg c)) (holder_of s.what before) s.who (holds_at cfg before m.mid s.what m.before)
    (here cfg m.mid s.who g z.there) (omega (arith, exit-stack cfg m.mid s.who s.what z s.what, ap bit (eq-eqb s.what s.what refl)))

pub ends-empty : OfSteps EndsEmpty
ends-empty cfg before after s st c e q a b h =
    let m = found cfg before after s st c e in
    let z = end-told cfg m.mid s (way-there cfg before after s st c e q refl) in
    let w : Holds m.mid a (some s.who) = rw h at (holds_at cfg before m.mid a m.before) in
    omega (arith, w.1, times_none a (slot_in m.mid.slots s.who).stack z.flat)

pub spawns-empty : OfSteps SpawnsEmpty
spawns-empty cfg before after s st c e q =
    let m = found cfg before after s st c e in
    let z = spawn-told cfg m.mid s (way-there cfg before after s st c e q refl) in
    let k = lowest_empty m.mid.slots in
    rw z.1 (z.0.slot, omega (arith, ltb-false 0 (lives_in k before) (sym ((lives_at cfg before m.mid m.before).used k) ∙ lowest-empty m.mid.slots z.0.slot)))

pub acts-alive : OfSteps ActsAlive
acts-alive cfg before after s st c e w =
    let m = found cfg before after s st c e in
    ltb-true 0 (lives_in s.who before) (sym ((lives_at cfg before m.mid m.before).used s.who) ∙ taker-used cfg m.mid s (taken-there cfg before after s st c e) w)

pub holder-stays : OfSteps HolderStays
holder-stays cfg before after s st c e a i b h = (
  lives,
  lives-one i before s
      ∙ lives-on i (length before + 1) (lives_in i before) s
      (λ q z. omega (arith, lives, (spawns-empty cfg before after s st c e q).1, ap (λ (j : ℕ). lives_in j before) z))
      (λ q z. ends-empty cfg before after s st c e q a b (h ∙ ap some (sym z))),
)
  where
    m : Halves cfg (start_of cfg) st before (s ∷ after)
    m = found cfg before after s st c e

    held : HeldBy m.mid a (some i)
    held = rw h at (areas-held cfg before m.mid c m.before a b)

    lives : 0 < lives_in i before
    lives = ltb-true 0 (lives_in i before) (sym ((lives_at cfg before m.mid m.before).used i) ∙ held.2)

pub failed-stops : OfSteps FailedStops
failed-stops cfg before after s st c e w f =
    let m = found cfg before after s st c e in
    let g = (tied_at cfg before m.mid m.before).failed.each s.who ∙ f in
    (failed-lets cfg m.mid s (taken-there cfg before after s st c e) w g, λ q. back-failed cfg m.mid s g (way-there cfg before after s st c e q refl))

pub back-is-last : OfSteps BackIsLast
back-is-last cfg before after s st c e w f =
    let m = found cfg before after s st c e in
    rw ((tied_at cfg before m.mid m.before).failed.each s.who) at
    (finished-lets cfg m.mid s (taken-there cfg before after s st c e) w ((backs-at cfg before m.mid m.before).finished s.who ∙ f))

pub ends-paid : OfSteps EndsPaid
ends-paid cfg before after s st c e q l =
    let m = found cfg before after s st c e in
    let z = end-told cfg m.mid s (way-there cfg before after s st c e q refl) in
    sym ((backs-at cfg before m.mid m.before).finished s.who) ∙ (rw z.none at ((paid-at cfg before m.mid m.before).each s.who l))

pub failed-goes-on : OfRuns FailedGoesOn
failed-goes-on cfg rs st c e i b f =
    let g = sound-at cfg rs st c e in
    let h = (tied_at cfg rs st e).failed.each i ∙ f in
    let r = (runs-at cfg rs st e).running i h in
    (back-open cfg st g i b h r, exit-open cfg st g i b h r, end-open cfg st g i b h r)

pub requests-fit : OfRuns RequestsFit
requests-fit cfg rs st c e r b = (requests-told cfg st r (sound-at cfg rs st c e) b).0

pub values-fit : OfRuns ValuesFit
values-fit cfg rs st c e q b = values-told cfg st q (sound-at cfg rs st c e) b

-- ---- calls

pub calls-one-by-one : OfSteps CallsOneByOne
calls-one-by-one cfg before after s st c e q =
    let m = found cfg before after s st c e in
    call-alone cfg m.mid s (history_of cfg before) (bound_in cfg s.what before) (tied_at cfg before m.mid m.before) ((bounds-at cfg before m.mid m.before).bound s.what) (way-there cfg before after s st c e q refl)

-- who waits for a call: it does so in the state, and its call is at its place
waits_there : (cfg : Config) (rs : List Step) (st : State) (i : ℕ) → Run cfg rs st → 0 < awaits_in cfg i rs → is_caller (slot_in st.slots i).life ≡ true
waits_there cfg rs st i e p = by (is_caller (slot_in st.slots i).life) refl
  where
    by : (b : Bool) → is_caller (slot_in st.slots i).life ≡ b → is_caller (slot_in st.slots i).life ≡ true
    by true w = w
    by false w = absurd (omega (arith, p, (awaits-at cfg rs st e).idle i w))

pub waiter-waits : OfSteps WaiterWaits
waiter-waits cfg before after s st c e w p =
    let m = found cfg before after s st c e in
    let f = waits_there cfg before m.mid s.who m.before p in
    let l = waiting-lets cfg m.mid s (taken-there cfg before after s st c e) w f in
    (l.0, rw l.1 at (waiter-started _ _ _ _ _ ((awaits-at cfg before m.mid m.before).each s.who f)))

-- who is held: it is so in the state
held-there : (cfg : Config) (rs : List Step) (st : State) (i : ℕ) → Run cfg rs st → 0 < held_in i rs → is_held (slot_in st.slots i).life ≡ true
held-there cfg rs st i e p = by (is_held (slot_in st.slots i).life) refl
  where
    by : (b : Bool) → is_held (slot_in st.slots i).life ≡ b → is_held (slot_in st.slots i).life ≡ true
    by true w = w
    by false w = absurd (omega (arith, p, (held_at cfg rs st e).idle i w))

pub held-goes-on : OfSteps HeldGoesOn
held-goes-on cfg before after s st c e w p = ((slot_in mid.slots s.who).life.awaited.on, h.0, h.1, by (eqb s.code give_up_code) refl)
  where
    m : Halves cfg (start_of cfg) st before (s ∷ after)
    m = found cfg before after s st c e

    mid : State
    mid = m.mid

    f : is_held (slot_in mid.slots s.who).life ≡ true
    f = held-there cfg before mid s.who m.before p

    h : Holding before s.who (slot_in mid.slots s.who).life.awaited.on (slot_in mid.slots s.who).life.awaited.left
    h = (held_at cfg before mid m.before).each s.who f

    waiting : is_waiting (slot_in mid.slots s.who).life ≡ true
    waiting = rw (eqb-true (slot_in mid.slots s.who).life.awaited.part required_tag f)

    by : (b : Bool) → eqb s.code give_up_code ≡ b → GoesOn cfg before s (slot_in mid.slots s.who).life.awaited.on h.0
    by true g =
        let q = eqb-true s.code give_up_code g in
        let z = give-up-told cfg mid s (way-there cfg before after s st c e q refl) in
        inr (q, z.1, omega (arith, h.2, eqb-true (slot_in mid.slots s.who).life.awaited.left 0 z.0.spent))
    by false g =
        let r = rw g at (held-lets cfg mid s (taken-there cfg before after s st c e) w f) in
        let q = eqb-true s.code receive_code (both_left (eqb s.code receive_code) _ r) in
        let o : (slot_in mid.slots s.who).life.awaited.on ≡ s.what = eqb-true _ _ (both_right (eqb s.code receive_code) _ r) in
        let z = receive-told cfg mid s waiting (way-there cfg before after s st c e q refl) in
        inl (q, sym o, (mid, m.before, rw o z.0.some, rw o z.1))

-- who gives up waits on no operation, so it is held
pub gives-up-held : OfSteps GivesUpHeld
gives-up-held cfg before after s st c e q =
    let m = found cfg before after s st c e in
    let z = (give-up-told cfg m.mid s (way-there cfg before after s st c e q refl)).0 in
    let l = (slot_in m.mid.slots s.who).life in
    let f = waits-held cfg l (instance-at cfg m.mid (sound-before cfg before after s st c e) s.who z.there.used).life z.waiting z.free in
    omega (arith, ((held_at cfg before m.mid m.before).each s.who f).1.place)

pub held-in-time : OfRuns (λ cfg rs st. HeldInTime cfg rs)
held-in-time cfg rs st c e i b p =
    let h = (held_at cfg rs st e).each i (held-there cfg rs st i e p) in
    ((slot_in st.slots i).life.awaited.on, h.0, h.1, omega (arith, h.2))

pub back-is-answered : OfSteps BackIsAnswered
back-is-answered cfg before after s st c e q =
    let m = found cfg before after s st c e in
    back-way cfg m.mid s (history_of cfg before) (tied_at cfg before m.mid m.before) (way-there cfg before after s st c e q refl)

pub ends-once : OfRuns (λ cfg rs st. EndsOnce cfg rs)
ends-once cfg rs st c e k = (tied_at cfg rs st e).calls.once k

pub ends-properly : OfRuns (λ cfg rs st. EndsProperly cfg rs)
ends-properly cfg rs st c e x m = ended_at cfg rs x _ (ended-along cfg rs st e) m

pub timeout-at-zero : OfSteps TimeoutAtZero
timeout-at-zero cfg before after s st c e q =
    let m = found cfg before after s st c e in
    let z = timeout-told cfg m.mid s (way-there cfg before after s st c e q refl) in
    (m.mid, m.before, z.calling, z.zero)

pub timeout-ends-open : OfSteps TimeoutEndsOpen
timeout-ends-open cfg before after s st c e q =
    let m = found cfg before after s st c e in
    let z = timeout-told cfg m.mid s (way-there cfg before after s st c e q refl) in
    let t = tied_at cfg before m.mid m.before in
    let b = t.calls.begun s.what z.calling in
    ((named-at cfg before m.mid m.before).latest s.what b, omega (arith, rw z.calling at (t.calls.state s.what b)))

pub timeout-in-time : OfSteps TimeoutInTime
timeout-in-time cfg before after s st c e q =
    let m = found cfg before after s st c e in
    let z = timeout-told cfg m.mid s (way-there cfg before after s st c e q refl) in
    omega (arith, (timed-at cfg before m.mid m.before).rest s.what z.calling, z.zero)

pub back-in-time : OfSteps BackInTime
back-in-time cfg before after s st c e q v =
    let m = found cfg before after s st c e in
    let z = answer-told cfg m.mid s v (way-there cfg before after s st c e q refl) in
    let w = answer-latest m.mid (history_of cfg before) s.who z.0.serving z.1 (tied_at cfg before m.mid m.before) in
    rw w.latest (omega (arith, (timed-at cfg before m.mid m.before).rest (taken_by (history_of cfg before) s.who).on w.calling))

-- a call without an ending is the latest of its operation, which is Calling
pub open-in-time : OfRuns (λ cfg rs st. OpenInTime cfg rs)
unfolding is_unended
open-in-time cfg rs st c e k o x z =
    let l = (unended-at cfg rs st e).latest k o x z in
    let h = history_of cfg rs in
    let b : 0 < latest_on h o = omega (arith, l, started-some rs k o x) in
    let u : ends_of (latest_on h o) h.endings ≡ 0 = ap (λ (j : ℕ). ends_of j h.endings) (sym l) ∙ z in
    let w : is_unended h o ≡ true = rw (lt-ltb 0 (latest_on h o) b, eq-eqb (ends_of (latest_on h o) h.endings) 0 u) in
    rw l (omega (arith, (timed-at cfg rs st e).rest o (open-unended st h o (tied_at cfg rs st e) ∙ w)))

pub ticks-in-time : OfSteps TicksInTime
ticks-in-time cfg before after s st c e q =
    let m = found cfg before after s st c e in
    let z = tick-told cfg m.mid s (way-there cfg before after s st c e q refl) in
    omega (arith, (ticked-at cfg before m.mid m.before).rest s.what z.inside, z.zero)

pub timers-in-time : OfRuns (λ cfg rs st. TimersInTime cfg rs)
timers-in-time cfg rs st c e k b = omega (arith, (ticked-at cfg rs st e).rest k b)

pub result-is-delivered : OfSteps ResultIsDelivered
result-is-delivered cfg before after s st c e q =
    let m = found cfg before after s st c e in
    let t = tied_at cfg before m.mid m.before in (
      result-delivered cfg m.mid s (history_of cfg before) t (way-there cfg before after s st c e q refl),
      λ f. sym (open-unended m.mid (history_of cfg before) s.what t) ∙ collected-shut cfg m.mid s (taken-there cfg before after s st c e) q f,
    )

-- the latest ending there is that of the caller's own call, since it is that of the latest one
pub result-is-own : OfSteps ResultIsOwn
result-is-own cfg before after s st c e q f =
    let m = found cfg before after s st c e in
    let h = history_of cfg before in
    let t = tied_at cfg before m.mid m.before in
    let z = collect-told cfg m.mid s f (way-there cfg before after s st c e q refl) in
    let w : Waiter before h s.who s.what (awaits_in cfg s.who before) = rw z.0.on at ((awaits-at cfg before m.mid m.before).each s.who z.0.waiting) in
    own-ending cfg before s h (last_on s.what h.endings) refl w (t.calls.ended s.what z.0.shut) (z.1 ∙ t.calls.last s.what z.0.shut)

pub done-is-delivered : OfRuns DoneIsDelivered
done-is-delivered cfg rs st c e o b q = let t = tied_at cfg rs st e in (t.calls.last o q, t.calls.ended o q)

pub number-is-final : OfSteps NumberIsFinal
number-is-final cfg before after s st c e n q k =
    let m = found cfg before after s st c e in
    let r = result-told cfg m.mid s (number_v n) k (λ x. omega (arith, ap (λ (v : Value). v.kind) x)) (way-there cfg before after s st c e q refl) in
    let f = done-final m.mid (history_of cfg before) s.what n (tied_at cfg before m.mid m.before) r.0 r.1 in
    (f.0, f.1, f.2, omega (arith, f.3, ends-grow cfg before (s ∷ after) f.0.call, ends-once cfg (before ++ (s ∷ after)) st c e f.0.call))

pub done-is-final : OfRuns DoneIsFinal
done-is-final cfg rs st c e o n b x y = done-final st (history_of cfg rs) o n (tied_at cfg rs st e) x y

pub failure-is-final : OfSteps FailureIsFinal
failure-is-final cfg before after s st c e q k =
    let m = found cfg before after s st c e in
    let r = result-told cfg m.mid s server_err_v k (λ x. omega (arith, ap (λ (v : Value). v.kind) x)) (way-there cfg before after s st c e q refl) in
    let f = failed-final m.mid (history_of cfg before) s.what (tied_at cfg before m.mid m.before) r.0 r.1 in
    (f.0, f.1, f.2, omega (arith, f.3, ends-grow cfg before (s ∷ after) f.0.call, ends-once cfg (before ++ (s ∷ after)) st c e f.0.call))

pub done-is-failure : OfRuns DoneIsFailure
done-is-failure cfg rs st c e o b x y = failed-final st (history_of cfg rs) o (tied_at cfg rs st e) x y

-- ---- that the history misses and invents nothing

pub used-is-lived : OfRuns UsedIsLived
used-is-lived cfg rs st c e i b = (lives_at cfg rs st e).used i

pub failed-followed : OfRuns FailedFollowed
failed-followed cfg rs st c e i b = (tied_at cfg rs st e).failed.each i

pub finished-followed : OfRuns FinishedFollowed
finished-followed cfg rs st c e i b = (backs-at cfg rs st e).finished i

pub waiting-followed : OfRuns WaitingFollowed
waiting-followed cfg rs st c e i b = by (is_caller (slot_in st.slots i).life) refl
  where
    by : (w : Bool) → is_caller (slot_in st.slots i).life ≡ w → is_caller (slot_in st.slots i).life ≡ ltb 0 (awaits_in cfg i rs)
    by true w = w ∙ sym (lt-ltb 0 (awaits_in cfg i rs) (omega (arith, ((awaits-at cfg rs st e).each i w).place)))
    by false w = w ∙ sym (ap (ltb 0) ((awaits-at cfg rs st e).idle i w))

pub held-followed : OfRuns HeldFollowed
held-followed cfg rs st c e i b = by (is_held (slot_in st.slots i).life) refl
  where
    by : (w : Bool) → is_held (slot_in st.slots i).life ≡ w → is_held (slot_in st.slots i).life ≡ ltb 0 (held_in i rs)
    by true w = w ∙ sym (lt-ltb 0 (held_in i rs) (omega (arith, ((held_at cfg rs st e).each i w).1.place)))
    by false w = w ∙ sym (ap (ltb 0) ((held_at cfg rs st e).idle i w))

pub bound-followed : OfRuns BoundFollowed
bound-followed cfg rs st c e o b =
    let k = (bounds-at cfg rs st e).bound o in
    (k, λ f u. sym k ∙ lt-ltb 0 (waiters_of st.slots o) ((sound-at cfg rs st c e).waiters.bound o b (open-unended st (history_of cfg rs) o (tied_at cfg rs st e) ∙ u) f))

pub number-goes-round : OfRuns NumberGoesRound
number-goes-round cfg rs st c e o b = (tied_at cfg rs st e).calls.number o

pub open-is-unended : OfRuns OpenIsUnended
open-is-unended cfg rs st c e o b = open-unended st (history_of cfg rs) o (tied_at cfg rs st e)

pub unended-is-latest : OfRuns (λ cfg rs st. UnendedIsLatest cfg rs)
unended-is-latest cfg rs st c e k o x z = (unended-at cfg rs st e).latest k o x z

pub count-is-rest : OfRuns CountIsRest
count-is-rest cfg rs st c e o q = (timed-at cfg rs st e).rest o q

pub latest-started : OfRuns (λ cfg rs st. LatestStarted cfg rs)
latest-started cfg rs st c e o b q = (named-at cfg rs st e).latest o q

pub queues-followed : OfRuns QueuesFollowed
queues-followed cfg rs st c e r b =
    let q = (tied_at cfg rs st e).queues.each r in
    (q.size, λ j l. let t = q.each j l in (sym t.same, sym t.argument))

pub served-followed : OfRuns ServedFollowed
served-followed cfg rs st c e i b q = let t = (tied_at cfg rs st e).served.each i q in (sym t.same, sym t.argument)

pub first-in-first-out : OfRuns (λ cfg rs st. FirstInFirstOut cfg rs)
unfolding is_server
first-in-first-out cfg rs st c e r b q = (fifo-at cfg rs st r (lt-ltb 0 _ q) (omega (arith, b, runnables-most cfg c)) e).queue

pub spawn-takes-next : OfSteps SpawnTakesNext
unfolding is_server
spawn-takes-next cfg before after s st c e q b =
    let m = found cfg before after s st c e in
    let y : is_server cfg s.what ≡ true = lt-ltb 0 _ b in
    let t = tied_at cfg before m.mid m.before in
    let f = fifo-at cfg before m.mid s.what y (omega (arith, server-there cfg c s.what y, runnables-most cfg c)) m.before in
    let z = spawn-told cfg m.mid s (way-there cfg before after s st c e q refl) in (
      omega (arith, due-server cfg m.mid s.what y z.0, (t.queues.each s.what).size, ap length f.queue, length-drop (all_spawns s.what before) (all_queued cfg s.what 0 before)),
      ap (λ (h : History). taken_by h s.claim.number) (history-one cfg before s)
          ∙ took-oldest cfg m.mid s (history_of cfg before) q y z.0 z.1 t
          ∙ ap (λ l. get_or l 0 no_request) f.queue
          ∙ get_or-drop (all_spawns s.what before) (all_queued cfg s.what 0 before) 0 no_request ∙ ap (λ k. get_or (all_queued cfg s.what 0 before) k no_request) (add-zero _),
    )
