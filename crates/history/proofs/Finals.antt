-- From the facts of a reached state and its history to what the promises say of them.
-- Areas: a count of one is one holder, which holds it once, and no other (`holder`); a count of none is none (`no-holder`). Queued values: `values-told`.
-- Calls: an operation is open exactly if its latest call has no ending (`open-unended`). What a call, a hand back and a result answer (`call-way`, `back-way`, `result-way`). Results: an operation Done with a Number or with ServerErr holds what its last ending gave (`last-from`, `number-from`, `failure-from`), that ending counts (`last-counts`) and so it is the only one of its
-- call (`done-final`, `failed-final`). A spawn of a server takes the oldest request (`took-oldest`).
-- Assumes nothing.
use Prim.Native.Nat.{ℕ, ◌+◌, ◌≤◌, ◌<◌}
use mathlib.Core.Bool.{Bool, true, false, not}
use mathlib.Core.List.{List, [], ◌∷◌}
use mathlib.Core.Option.{some}
use mathlib.Core.Path.{◌≡◌, refl, sym, ◌∙◌, ap}
use native.Mathlib.Decide.{ℕ_discrete}
use native.Mathlib.Omega.{arith}
use lib.Dec.{ltb, leb, eqb}
use lib.ListN.{get_or}
use lib.Seq.{get_or-set_same}
use borrow.Author.Tests.{lt-ltb, leb-true, eqb-true, eq-eqb, ne_eqb}
use Rattle.numbers.specs.Codes.{call_code, result_code, hand_back_code, spawn_code}
use Rattle.laws.specs.Choice.{pick, both, either, bit}
use Rattle.laws.specs.Loop.{sum_below}
use Rattle.laws.proofs.Choosing.{clash, both_left, both_right, all_told}
use Rattle.laws.proofs.Looping.{all-at, sum-term, sum-two, sum-find, count_most}
use Rattle.faces.specs.Types.{Value, Step, Config, Client, State}
use Rattle.values.specs.Values.{void_v, number_v, ok_v, limit_v, no_data_v, server_err_v, is_void, is_payload}
use Rattle.config.specs.Tables.{required_conf_in}
use Rattle.entries.specs.Faults.{is_server}
use Rattle.state.specs.Tables.{area_in, element_in, operation_in, slot_in}
use Rattle.rules.specs.Sound.{is_stored, values_sound, element_sound, elements_sound, times_in, holders, is_no_stack, is_no_slot, slot_sound, slots_sound, is_bound}
use Rattle.effects.specs.Steps.{is_open, is_busy, answers, client_of, has_failed, lowest_empty}
use Rattle.stays_sound.specs.Facts.{Sound, CanSpawn}
use Rattle.stays_sound.proofs.Ways.{Way, call_busy, call, poll_open, poll, collect, answer, late}
use Rattle.history.specs.History.{no_request, How, by_timeout, by_instance, by_failure, Ending, History, taken_by, queued_at, latest_on, observe, ends_of, last_on, is_unended, given, delivered}
use Rattle.history.proofs.Tied.{AllProper, Tied, Proper}
use Rattle.history.proofs.Deeds.{server-adds}
use Rattle.history.proofs.Ended.{answer-latest, back-void}

-- ---- areas

-- a slot whose stack has something is in use: the stack of an empty one is empty
holder-used : (cfg : Config) (st : State) (a i : ℕ) → Sound cfg st → i < 32 → 1 ≤ times_in a (slot_in st.slots i).stack → (slot_in st.slots i).used ≡ true
unfolding slots_sound slot_sound is_no_slot is_no_stack times_in
holder-used cfg st a i g b h = go (slot_in st.slots i).used refl
  where
    go : (u : Bool) → (slot_in st.slots i).used ≡ u → (slot_in st.slots i).used ≡ true
    go true e = e
    go false e =
        let s = all_told _ (rw e at (all-at (λ (k : ℕ). slot_sound cfg (slot_in st.slots k)) 32 g.slots i b)) in
        let z : (slot_in st.slots i).stack.held ≡ 0 = eqb-true _ 0 (both_left (eqb (slot_in st.slots i).stack.held 0) _ s.1.1.0) in
        absurd (omega (arith, h, count_most (λ (j : ℕ). eqb (get_or (slot_in st.slots i).stack.at j 0) a) (slot_in st.slots i).stack.held))

pub holder : (cfg : Config) (st : State) (a : ℕ) → Sound cfg st → a < 16 → (area_in st.areas a).taken ≡ true
    → (i : ℕ) × (i < 32) × ((slot_in st.slots i).used ≡ true) × (times_in a (slot_in st.slots i).stack ≡ 1) × ((j : ℕ) → j < 32 → (j ≡ i → ⊥) → times_in a (slot_in st.slots j).stack ≡ 0)
unfolding holders
holder cfg st a g b e =
    let times : ℕ → ℕ = λ k. times_in a (slot_in st.slots k).stack in
    let total : sum_below times 32 ≡ 1 = rw e at (g.areas.once a b) in
    let f = sum-find times 32 (omega (arith, total)) in
    (f.0, f.1, holder-used cfg st a f.0 g f.1 f.2, omega (arith, f.2, total, sum-term times f.0 32 f.1), λ j c n. omega (arith, f.2, total, sum-two times j f.0 32 c f.1 n))

pub no-holder : (cfg : Config) (st : State) (a : ℕ) → Sound cfg st → a < 16 → (area_in st.areas a).taken ≡ false → (i : ℕ) → i < 32 → times_in a (slot_in st.slots i).stack ≡ 0
unfolding holders
no-holder cfg st a g b e i c =
    let times : ℕ → ℕ = λ k. times_in a (slot_in st.slots k).stack in
    let total : sum_below times 32 ≡ 0 = rw e at (g.areas.once a b) in
    omega (arith, total, sum-term times i 32 c)

-- ---- queued values keep to their capacity

pub values-told : (cfg : Config) (st : State) (q : ℕ) → Sound cfg st → q < 16 → (element_in st.elements q).queue.queued ≤ (required_conf_in cfg.required q).capacity
unfolding elements_sound element_sound values_sound
values-told cfg st q g b =
    let x = element_in st.elements q in
    let c = (required_conf_in cfg.required q).capacity in
    let held = pick (both (ltb q cfg.required.n) (eqb c 0)) (is_stored cfg.edition x.value) (both (is_void x.value) (not x.updated)) in
    leb-true _ _ (both_left (leb x.queue.queued c) _ (both_right held _ (all-at (λ (q : ℕ). element_sound cfg q (element_in st.elements q)) 16 g.elements q b)))

-- ---- open calls

pub open-unended : (st : State) (h : History) (o : ℕ) → Tied st h → is_open st o ≡ is_unended h o
unfolding is_unended
open-unended st h o t = go (is_open st o) refl
  where
    shut : is_open st o ≡ false → Dec (latest_on h o ≡ 0) → false ≡ both (ltb 0 (latest_on h o)) (eqb (ends_of (latest_on h o) h.endings) 0)
    shut e (yes q) = rw q
    shut e (no n) =
        let b : 0 < latest_on h o = omega (arith, n) in
        rw (lt-ltb 0 (latest_on h o) b, ne_eqb (ends_of (latest_on h o) h.endings) 0 (λ z. omega (arith, z, rw e at (t.calls.state o b))))

    go : (b : Bool) → is_open st o ≡ b → is_open st o ≡ both (ltb 0 (latest_on h o)) (eqb (ends_of (latest_on h o) h.endings) 0)
    go true e =
        let b = t.calls.begun o e in
        e ∙ rw (lt-ltb 0 (latest_on h o) b, eq-eqb (ends_of (latest_on h o) h.endings) 0 (omega (arith, rw e at (t.calls.state o b))))
    go false e = e ∙ shut e (ℕ_discrete (latest_on h o) 0)

-- ---- what is answered

-- a call is Limit on an operation that is open or bound, and else Ok
call-way : (cfg : Config) (st : State) (s : Step) {w : Value} {t : State} → Way cfg st s call_code w t → w ≡ pick (is_busy st s.what) limit_v ok_v
call-way cfg st s (call_busy e) = rw e
call-way cfg st s (call z) = rw (z.shut, z.free)

pub call-alone : (cfg : Config) (st : State) (s : Step) (h : History) (b : Bool) {w : Value} {t : State} → Tied st h → is_bound st.slots s.what ≡ b → Way cfg st s call_code w t
    → w ≡ pick (either (is_unended h s.what) b) limit_v ok_v
call-alone cfg st s h b t e way = call-way cfg st s way ∙ (λ i. pick (either (open-unended st h s.what t i) (e i)) limit_v ok_v)

-- a hand back in time is of the call that its instance was spawned for, which has no ending; in any other that call has one
pub back-way : (cfg : Config) (st : State) (s : Step) (h : History) {w : Value} {t : State} → Tied st h → Way cfg st s hand_back_code w t
    → w ≡ number_v (bit (eqb (ends_of (taken_by h s.who).at h.endings) 0))
unfolding answers
back-way cfg st s h t (answer z e) =
    let a = answer-latest st h s.who z.serving e t in
    let o = (taken_by h s.who).on in
    let b = t.calls.begun o a.calling in
    rw (a.latest, eq-eqb (ends_of (latest_on h o) h.endings) 0 (omega (arith, rw a.calling at (t.calls.state o b))))
back-way cfg st s h t (late z e) =
    let c : Client = client_of st s.who in
    rw (ne_eqb (ends_of (taken_by h s.who).at h.endings) 0
    (λ q. let m = (t.served.each s.who z.serving).unended q in
    clash (answers st.operations c) (rw (m.0, eq-eqb (operation_in st.operations c.operation).number c.number (sym m.1))) e))

-- a hand back of an instance that has failed is of Void
pub back-failed : (cfg : Config) (st : State) (s : Step) {w : Value} {t : State} → has_failed st s.who ≡ true → Way cfg st s hand_back_code w t → s.argument ≡ void_v
back-failed cfg st s f (answer z e) = back-void cfg st s.who s.argument z f
back-failed cfg st s f (late z e) = back-void cfg st s.who s.argument z f

-- ---- results

-- a result is NoData in a call, and else what the operation is Done with
result-way : (cfg : Config) (st : State) (s : Step) {w : Value} {t : State} → Way cfg st s result_code w t → w ≡ pick (is_open st s.what) no_data_v (operation_in st.operations s.what).done
result-way cfg st s (poll_open a e) = rw e
result-way cfg st s (poll a e) = rw e
result-way cfg st s (collect z) = rw z.shut

pub result-delivered : (cfg : Config) (st : State) (s : Step) (h : History) {w : Value} {t : State} → Tied st h → Way cfg st s result_code w t → w ≡ pick (is_unended h s.what) no_data_v (delivered (last_on s.what h.endings))
result-delivered cfg st s h t way = result-way cfg st s way ∙ go (is_open st s.what) refl ∙ ap (λ (b : Bool). pick b no_data_v (delivered (last_on s.what h.endings))) (open-unended st h s.what t)
  where
    go : (b : Bool) → is_open st s.what ≡ b → pick b no_data_v (operation_in st.operations s.what).done ≡ pick b no_data_v (delivered (last_on s.what h.endings))
    go true e = refl
    go false e = t.calls.last s.what e

-- a value that is not Void came from the last ending, which is proper
last-from : (v : Value) (P : Ending → Type 0) → (v ≡ void_v → ⊥) → ((e : Ending) → Proper e.call e.how → v ≡ given e.how → P e)
    → (o : ℕ) (l : List Ending) → AllProper l → v ≡ delivered (last_on o l) → (e : Ending) × (last_on o l ≡ some e) × P e
unfolding last_on AllProper
last-from v P n f o [] p q = absurd (n q)
last-from v P n f o (e ∷ es) p q = go (eqb e.on o) q (λ z. last-from v P n f o es p.1 z)
  where
    go : (b : Bool) → v ≡ delivered (pick b (some e) (last_on o es)) → (v ≡ delivered (last_on o es) → (x : Ending) × (last_on o es ≡ some x) × P x)
        → (x : Ending) × (pick b (some e) (last_on o es) ≡ some x) × P x
    go true z rest = (e, refl, f e p.0.1 z)
    go false z rest = rest z

-- a Number came from an instance spawned for that call, ServerErr from the failure of one
number-from : (n : ℕ) (e : Ending) → Proper e.call e.how → number_v n ≡ given e.how → e.how ≡ by_instance e.call (number_v n)
number-from n e p q = by e.how refl p q
  where
    by : (w : How) → e.how ≡ w → Proper e.call w → number_v n ≡ given w → e.how ≡ by_instance e.call (number_v n)
    by by_timeout y z x = absurd (omega (arith, ap (λ (v : Value). v.kind) x))
    by (by_instance k v) y z x = let j = z.0 in cc
    by (by_failure k) y z x = absurd (omega (arith, ap (λ (v : Value). v.kind) x))

failure-from : (e : Ending) → Proper e.call e.how → server_err_v ≡ given e.how → e.how ≡ by_failure e.call
unfolding is_payload is_void
failure-from e p q = by e.how refl p q
  where
    by : (w : How) → e.how ≡ w → Proper e.call w → server_err_v ≡ given w → e.how ≡ by_failure e.call
    by by_timeout y z x = absurd (omega (arith, ap (λ (v : Value). v.kind) x))
    by (by_instance k v) y z x = absurd (clash (is_payload server_err_v) (ap is_payload x ∙ z.1) refl)
    by (by_failure k) y z x = cc

last-counts : (o : ℕ) (e : Ending) (l : List Ending) → last_on o l ≡ some e → 1 ≤ ends_of e.call l
unfolding last_on ends_of
last-counts o e [] q = absurd (let w : ◌≡◌ {A = ℕ} 0 1 = cc in omega arith)
last-counts o e (x ∷ xs) q = go (eqb x.on o) q (λ z. last-counts o e xs z)
  where
    go : (b : Bool) → pick b (some x) (last_on o xs) ≡ some e → (last_on o xs ≡ some e → 1 ≤ ends_of e.call xs) → 1 ≤ bit (eqb x.call e.call) + ends_of e.call xs
    go true z rest = let y : x ≡ e = cc in omega (arith, ap bit (eq-eqb x.call e.call (ap (λ (w : Ending). w.call) y)))
    go false z rest = omega (arith, rest z)

pub done-final : (st : State) (h : History) (o n : ℕ) → Tied st h → is_open st o ≡ false → (operation_in st.operations o).done ≡ number_v n
    → (e : Ending) × (last_on o h.endings ≡ some e) × (e.how ≡ by_instance e.call (number_v n)) × (ends_of e.call h.endings ≡ 1)
done-final st h o n t c d =
    let f = last-from (number_v n) (λ e. e.how ≡ by_instance e.call (number_v n)) (λ q. omega (arith, ap (λ (v : Value). v.kind) q)) (number-from n) o h.endings t.calls.proper (sym d ∙ t.calls.last o c) in
    (f.0, f.1, f.2, omega (arith, last-counts o f.0 h.endings f.1, t.calls.once f.0.call))

-- and one that is Done with ServerErr
pub failed-final : (st : State) (h : History) (o : ℕ) → Tied st h → is_open st o ≡ false → (operation_in st.operations o).done ≡ server_err_v
    → (e : Ending) × (last_on o h.endings ≡ some e) × (e.how ≡ by_failure e.call) × (ends_of e.call h.endings ≡ 1)
failed-final st h o t c d =
    let f = last-from server_err_v (λ e. e.how ≡ by_failure e.call) (λ q. omega (arith, ap (λ (v : Value). v.kind) q)) failure-from o h.endings t.calls.proper (sym d ∙ t.calls.last o c) in
    (f.0, f.1, f.2, omega (arith, last-counts o f.0 h.endings f.1, t.calls.once f.0.call))

-- ---- spawns of servers

-- a server that is spawned has a request, and takes the oldest
pub took-oldest : (cfg : Config) (st : State) (s : Step) (h : History) → s.code ≡ spawn_code → is_server cfg s.what ≡ true → CanSpawn cfg st s.what → s.claim ≡ number_v (lowest_empty st.slots) → Tied st h
    → taken_by (observe cfg h s) s.claim.number ≡ get_or (queued_at h s.what) 0 no_request
took-oldest cfg st s h c y z k t =
    rw (server-adds cfg h s c y)
    (get_or-set_same h.taken s.claim.number (get_or (queued_at h s.what) 0 no_request) no_request (omega (arith, t.served.size, ap (λ (v : Value). v.number) k, z.slot)))
