-- After every step an operation has one waiter at most, and one while a synchronous call is open there: what each kind of change does to the waiters, and then step by step.
-- A call that starts finds nobody waiting there, and its caller waits (`call-waiters`); who collects waits no longer (`collect-waiters`); any other step leaves all waiters as they were.
-- Assumes nothing.
use Prim.Native.Nat.{ℕ, ◌+◌, ◌≤◌, ◌<◌}
use mathlib.Core.Bool.{Bool, true, false, not}
use mathlib.Core.Path.{◌≡◌, refl, sym, ◌∙◌, ap}
use native.Mathlib.Decide.{ℕ_discrete}
use native.Mathlib.Omega.{arith}
use lib.Dec.{eqb}
use lib.ListN.{length, get_or}
use lib.Seq.{get_or-set_other}
use borrow.Author.Tests.{eqb-true, eq-eqb, ne_eqb}
use Rattle.numbers.specs.Tags.{operation_tag}
use Rattle.laws.specs.Choice.{pick, both, bit}
use Rattle.laws.proofs.Choosing.{clash, all_told, pick-has}
use Rattle.laws.proofs.Looping.{sum_same}
use Rattle.laws.proofs.Places.{sum-put, put-each}
use Rattle.values.specs.Values.{timeout_v}
use Rattle.faces.specs.Types.{Value, Config, Operation, Operations, Awaited, Life, Slot, Slots, State}
use Rattle.config.specs.Tables.{max_operation_confs, runnable_conf_in, operation_conf_in}
use Rattle.state.specs.Parts.{no_operation, no_slot}
use Rattle.state.specs.Tables.{max_slots, runnable_in, operation_in, slot_in, with_operation, with_slot}
use Rattle.rules.specs.Rows.{no_part}
use Rattle.rules.specs.Sound.{is_caller, is_no_awaited, is_no_life, is_no_slot, slot_sound, waits_on, waiters_of}
use Rattle.effects.specs.Steps.{entering, exiting, entered, exited, opening, waiting_on, caller_after, called, running_on, awaiting, awaited, gone_on, slot_after, closing, closed, client_of, finishing, finished, failing, failed, handed_back, answered, emptied, instance_of, lowest_empty, spawned, waited}
use Rattle.stays_sound.specs.Facts.{Waiters, Sound, CanEnter, CanExit, CanCall, CanCollect, CanHandBack, CanEnd, CanSpawn, CanTimeout, CanWait, CanFail, WaitersIn}
use Rattle.stays_sound.proofs.Told.{slots_length}
use Rattle.stays_sound.proofs.Kept.{here, lowest-empty, slot_kept, waited-kept, slots-after-kept}
use Rattle.state.specs.Places.{place_in, with_place}
use Rattle.stays_sound.proofs.Instances.{slot_at}

-- ---- what each kind of change does

-- one slot replaced: what the waiters of o lose and gain
waiters-put : (ss : Slots) (i : ℕ) (x : Slot) (o : ℕ) → i < max_slots → i < length ss.at → waiters_of (with_slot ss i x) o + bit (waits_on o (slot_in ss i)) ≡ waiters_of ss o + bit (waits_on o x)
unfolding waiters_of place_in with_place
waiters-put ss i x o b c = sum-put (λ k y. bit (waits_on o y)) ss.at i max_slots x no_slot b c

-- one slot replaced that waits as before
pub waiters-slot : (ss : Slots) (i : ℕ) (x : Slot) → ((o : ℕ) → waits_on o x ≡ waits_on o (slot_in ss i)) → (o : ℕ) → waiters_of (with_slot ss i x) o ≡ waiters_of ss o
unfolding waiters_of
waiters-slot ss i x e o = sum_same _ _ max_slots (λ k b. ap bit (slot_kept (waits_on o) ss i x (e o) k))

-- the same waiters, and no call open that was not
waiters-kept : (cfg : Config) (os os' : Operations) (ss ss' : Slots) → ((o : ℕ) → (operation_in os' o).calling ≡ true → (operation_in os o).calling ≡ true) → ((o : ℕ) → waiters_of ss' o ≡ waiters_of ss o)
    → Waiters cfg os ss → Waiters cfg os' ss'
waiters-kept cfg os os' ss ss' f g h = record { most = λ o l. rw (g o) (h.most o l); bound = λ o l e a. rw (g o) (h.bound o l (f o e) a) }

-- a call that ends opens none
closed-calls : (os : Operations) (o : ℕ) (v : Value) (p : ℕ) → (operation_in (with_operation os o (closing v (operation_in os o))) p).calling ≡ true → (operation_in os p).calling ≡ true
unfolding place_in with_place closing
closed-calls os o v p = put-each (λ k y. y.calling ≡ true → (get_or os.at k no_operation).calling ≡ true) os.at o _ no_operation (λ e. absurd (clash false e refl)) p (λ e. e)

-- who does not wait waits on no operation
pub no-caller : (l : Life) → l.awaited.part ≡ no_part → is_caller l ≡ false
no-caller l e = rw e

pub waits-none : (o : ℕ) (x : Slot) → is_caller x.life ≡ false → waits_on o x ≡ false
unfolding waits_on
waits-none o x e = rw e

-- nobody waits in an empty slot
pub empty_runs : (cfg : Config) (st : State) (k : ℕ) → Sound cfg st → k < max_slots → (slot_in st.slots k).used ≡ false → (slot_in st.slots k).life.awaited.part ≡ no_part
unfolding slot_sound is_no_slot is_no_life is_no_awaited
empty_runs cfg st k s l u = eqb-true _ _ (all_told _ (all_told _ (all_told _ (rw u at (slot_at cfg st.slots s.slots k l))).0).1.0).0

-- ---- the steps that change waiters

-- the caller of a synchronous operation is one waiter more there
pub call-waiters : (cfg : Config) (st : State) (i o : ℕ) (v : Value) → Sound cfg st → CanCall cfg st i o v → (p : ℕ)
    → waiters_of (called cfg st i o v).slots p ≡ waiters_of st.slots p + bit (both (not (operation_conf_in cfg.operations o).asynchronous) (eqb o p))
unfolding called caller_after waits_on
call-waiters cfg st i o v s z p =
    let x = slot_in st.slots i in
    let l = here cfg st i s z.who.there in
    let put = waiters-put st.slots i (caller_after cfg o x) p l (omega (arith, l, slots_length cfg st s)) in
    let old = waits-none p x (no-caller x.life z.who.running) in
    omega (arith, put, ap bit old, ap bit (new (operation_conf_in cfg.operations o).asynchronous))
  where
    new : (b : Bool) → waits_on p (pick b (slot_in st.slots i) (waiting_on (slot_in st.slots i) o)) ≡ both (not b) (eqb o p)
    new true = rw z.who.running
    new false = refl

-- who collects is one waiter less
pub collect-waiters : (cfg : Config) (st : State) (i o : ℕ) → Sound cfg st → CanCollect cfg st i o → (p : ℕ) → waiters_of (gone_on st i).slots p + bit (eqb o p) ≡ waiters_of st.slots p
unfolding waits_on
collect-waiters cfg st i o s z p =
    let x = slot_in st.slots i in
    let l = here cfg st i s z.there in
    let put = waiters-put st.slots i (running_on x) p l (omega (arith, l, slots_length cfg st s)) in
    let old : waits_on p x ≡ eqb o p = rw (z.waiting, z.on) in
    omega (arith, put, ap bit old)

-- ---- step by step

pub enter-keeps-waiters : (cfg : Config) (st : State) (i a : ℕ) → Sound cfg st → CanEnter cfg st i a → WaitersIn cfg (entered st i a)
unfolding waits_on
enter-keeps-waiters cfg st i a s z = waiters-kept cfg st.operations _ st.slots _ (λ o e. e) (waiters-slot st.slots i (entering (slot_in st.slots i) a) (λ o. refl)) s.waiters

pub exit-keeps-waiters : (cfg : Config) (st : State) (i a : ℕ) → Sound cfg st → CanExit cfg st i a → WaitersIn cfg (exited st i a)
unfolding waits_on
exit-keeps-waiters cfg st i a s z = waiters-kept cfg st.operations _ st.slots _ (λ o e. e) (waiters-slot st.slots i (exiting (slot_in st.slots i)) (λ o. refl)) s.waiters

pub fail-keeps-waiters : (cfg : Config) (st : State) (i : ℕ) → Sound cfg st → CanFail st i → WaitersIn cfg (failed st i)
unfolding waits_on
fail-keeps-waiters cfg st i s z = waiters-kept cfg st.operations _ st.slots _ (λ o e. e) (waiters-slot st.slots i (failing (slot_in st.slots i)) (λ o. refl)) s.waiters

-- hand back of a call that is open no longer
pub late-keeps-waiters : (cfg : Config) (st : State) (i : ℕ) (v : Value) → Sound cfg st → CanHandBack cfg st i v → WaitersIn cfg (finished st st i)
unfolding waits_on
late-keeps-waiters cfg st i v s z = waiters-kept cfg st.operations _ st.slots _ (λ o e. e) (waiters-slot st.slots i (finishing (slot_in st.slots i)) (λ o. refl)) s.waiters

-- hand back that ends its call
pub answer-keeps-waiters : (cfg : Config) (st : State) (i : ℕ) (v : Value) → Sound cfg st → CanHandBack cfg st i v → WaitersIn cfg (answered cfg st i (handed_back st i v))
unfolding closed
answer-keeps-waiters cfg st i v s z = waiters-kept cfg st.operations _ _ _ (closed-calls st.operations (client_of st i).operation (handed_back st i v)) (λ o. refl) (late-keeps-waiters cfg st i v s z)

pub timeout-keeps-waiters : (cfg : Config) (st : State) (o : ℕ) → Sound cfg st → CanTimeout cfg st o → WaitersIn cfg (closed cfg st o timeout_v)
unfolding closed
timeout-keeps-waiters cfg st o s z = waiters-kept cfg st.operations _ st.slots _ (closed-calls st.operations o timeout_v) (λ p. refl) s.waiters

pub end-keeps-waiters : (cfg : Config) (st : State) (i : ℕ) → Sound cfg st → CanEnd st i → WaitersIn cfg (emptied st i)
unfolding no_slot
end-keeps-waiters cfg st i s z =
    waiters-kept cfg st.operations _ st.slots _ (λ o e. e) (waiters-slot st.slots i no_slot (λ o. waits-none o no_slot refl ∙ sym (waits-none o (slot_in st.slots i) (no-caller (slot_in st.slots i).life z.running)))) s.waiters

-- a new instance does not wait
pub new-runs : (cfg : Config) (st : State) (r : ℕ) → (instance_of (runnable_conf_in cfg.runnables r) r (runnable_in st.runnables r)).life.awaited.part ≡ no_part
unfolding instance_of
new-runs cfg st r = pick-has (λ (y : Slot). y.life.awaited.part ≡ no_part) (eqb (runnable_conf_in cfg.runnables r).capacity 0) _ _ (λ e. refl) (λ e. refl)

pub spawn-keeps-waiters : (cfg : Config) (st : State) (r : ℕ) → Sound cfg st → CanSpawn cfg st r → WaitersIn cfg (spawned cfg st r (lowest_empty st.slots))
unfolding spawned
spawn-keeps-waiters cfg st r s z =
    let k = lowest_empty st.slots in
    let x = instance_of (runnable_conf_in cfg.runnables r) r (runnable_in st.runnables r) in
    waiters-kept cfg st.operations _ st.slots _ (λ o e. e)
    (waiters-slot st.slots k x (λ o. waits-none o x (no-caller x.life (new-runs cfg st r)) ∙ sym (waits-none o (slot_in st.slots k) (no-caller (slot_in st.slots k).life (empty_runs cfg st k s z.slot (lowest-empty st.slots z.slot))))))
    s.waiters

-- time leaves what is waited for
pub after-waits : (o t : ℕ) (x : Slot) → waits_on o (slot_after t x) ≡ waits_on o x
unfolding waits_on
after-waits o t x = refl

-- who waits on no operation before and after
pub await-keeps-waiters : (cfg : Config) (st : State) (i : ℕ) (a : Awaited) → Sound cfg st → is_caller (slot_in st.slots i).life ≡ false → eqb a.part operation_tag ≡ false → WaitersIn cfg (awaited st i a)
await-keeps-waiters cfg st i a s e f =
    waiters-kept cfg st.operations _ st.slots _ (λ o q. q)
    (waiters-slot st.slots i (awaiting (slot_in st.slots i) a) (λ o. waits-none o (awaiting (slot_in st.slots i) a) f ∙ sym (waits-none o (slot_in st.slots i) e))) s.waiters

pub wait-keeps-waiters : (cfg : Config) (st : State) (t : ℕ) → Sound cfg st → CanWait cfg st t → WaitersIn cfg (waited cfg st t)
unfolding waited waiters_of
wait-keeps-waiters cfg st t s z =
    waiters-kept cfg st.operations _ st.slots _ (λ o e. sym (waited-kept (λ x. x.calling) t (λ x n. refl) cfg st.operations o) ∙ e)
    (λ o. sum_same _ _ max_slots (λ k b. ap bit (slots-after-kept (waits_on o) t (after-waits o t) st.slots k))) s.waiters

-- a call on o leaves every other operation as it was
opened-other : (os : Operations) (o : ℕ) (x : Operation) (p : ℕ) → (p ≡ o → ⊥) → operation_in (with_operation os o x) p ≡ operation_in os p
unfolding place_in with_place
opened-other os o x p n = get_or-set_other os.at o p x no_operation n

pub call-keeps-waiters : (cfg : Config) (st : State) (i o : ℕ) (v : Value) → Sound cfg st → CanCall cfg st i o v → WaitersIn cfg (called cfg st i o v)
unfolding called
call-keeps-waiters cfg st i o v s z = record { most = λ p l. most p l (ℕ_discrete p o); bound = λ p l e a. bound p l a (ℕ_discrete p o) e }
  where
    more : (p : ℕ) → waiters_of (called cfg st i o v).slots p ≡ waiters_of st.slots p + bit (both (not (operation_conf_in cfg.operations o).asynchronous) (eqb o p))
    more = call-waiters cfg st i o v s z

    few : (b : Bool) (n : ℕ) → n ≡ 0 → n + bit (both b true) ≤ 1
    few true n e = omega (arith, e)
    few false n e = omega (arith, e)

    most : (p : ℕ) → p < max_operation_confs → Dec (p ≡ o) → waiters_of (called cfg st i o v).slots p ≤ 1
    most p l (yes e) = rw (e, more o, eq-eqb o o refl) (few (not (operation_conf_in cfg.operations o).asynchronous) (waiters_of st.slots o) z.free)
    most p l (no n) = rw (more p, ne_eqb o p (λ e. n (sym e))) (other (not (operation_conf_in cfg.operations o).asynchronous))
      where
        other : (b : Bool) → waiters_of st.slots p + bit (both b false) ≤ 1
        other true = omega (arith, s.waiters.most p l)
        other false = omega (arith, s.waiters.most p l)

    bound : (p : ℕ) → p < max_operation_confs → (operation_conf_in cfg.operations p).asynchronous ≡ false → Dec (p ≡ o) → (operation_in (with_operation st.operations o (opening (operation_conf_in cfg.operations o).timeout (operation_in st.operations o))) p).calling ≡ true → 0 < waiters_of (called cfg st i o v).slots p
    bound p l a (yes e) c = let f : (operation_conf_in cfg.operations o).asynchronous ≡ false = ap (λ (k : ℕ). (operation_conf_in cfg.operations k).asynchronous) (sym e) ∙ a in rw (e, more o, f, eq-eqb o o refl) (omega arith)
    bound p l a (no n) c = omega (arith, more p, s.waiters.bound p l (rw (opened-other st.operations o (opening (operation_conf_in cfg.operations o).timeout (operation_in st.operations o)) p n) at c) a)

pub collect-keeps-waiters : (cfg : Config) (st : State) (i o : ℕ) → Sound cfg st → CanCollect cfg st i o → WaitersIn cfg (gone_on st i)
collect-keeps-waiters cfg st i o s z = record {
  most = λ p l. omega (arith, collect-waiters cfg st i o s z p, s.waiters.most p l);
  bound = λ p l e a. bound p l e a (ℕ_discrete p o);
}
  where
    bound : (p : ℕ) → p < max_operation_confs → (operation_in st.operations p).calling ≡ true → (operation_conf_in cfg.operations p).asynchronous ≡ false → Dec (p ≡ o) → 0 < waiters_of (gone_on st i).slots p
    bound p l e a (yes q) = absurd (clash (operation_in st.operations o).calling (ap (λ (k : ℕ). (operation_in st.operations k).calling) (sym q) ∙ e) z.shut)
    bound p l e a (no n) = omega (arith, s.waiters.bound p l e a, collect-waiters cfg st i o s z p, ap bit (ne_eqb o p (λ q. n (sym q))))
