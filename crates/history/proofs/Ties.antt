-- The steps that start, take or end a call keep the tie, each with what it adds to the history.
-- A started call (`tied-call`): its client and its request join the two queues. An ended call (`tied-closed`): by its timeout (`tied-timeout`), or by the
-- hand back of an instance whose client bears the operation's number, which by its tag was spawned for the latest call (`tied-answer`); any other hand back
-- is late and ends nothing (`tied-late`). A spawn takes the oldest of both queues (`tied-server`) or nothing (`tied-plain`); an end empties the slot (`tied-end`),
-- and a fail marks it (`tied-fail`).
-- Assumes nothing.
use Prim.Native.Nat.{ℕ, ◌+◌, ◌≤◌, ◌<◌}
use mathlib.Core.Bool.{Bool, true, false}
use mathlib.Core.List.{List}
use mathlib.Core.Path.{◌≡◌, refl, sym, ◌∙◌, ap}
use native.Mathlib.Omega.{arith}
use lib.Dec.{eqb}
use lib.ListN.{length, get_or, set}
use borrow.Author.Tests.{eqb-true}
use Rattle.laws.specs.Choice.{pick}
use Rattle.laws.proofs.Choosing.{clash, both_left, both_right}
use Rattle.faces.specs.Types.{Value, Config, Client, Operation, Operations, Runnable, Slot, State}
use Rattle.values.specs.Values.{timeout_v, server_err_v, is_payload}
use Rattle.config.specs.Tables.{runnable_conf_in, operation_conf_in}
use Rattle.state.specs.Parts.{no_owed, no_slot}
use Rattle.state.specs.Tables.{runnable_in, operation_in, slot_in, with_operation, with_slot, with_slots}
use Rattle.effects.specs.Steps.{is_open, opening, asking, called, closing, closed, answers, finishing, client_of, finished, answered, handed_back, emptied, starting, fresh, instance_of, spawned, failing, failed}
use Rattle.stays_sound.specs.Facts.{Sound, CanCall, CanHandBack, CanEnd, CanTimeout, CanFail}
use Rattle.rules.proofs.Configured.{runnables-most, operations-most, capacity-most, operation-there}
use Rattle.stays_sound.proofs.Told.{runnables-length, operations-length, slots_length}
use Rattle.stays_sound.proofs.Kept.{runnable-kept, slot_kept, returned-kept, caller-kept, slot-inside}
use Rattle.stays_sound.proofs.Clients.{requests-told, calling-inside}
use Rattle.history.specs.History.{Request, no_request, How, by_timeout, by_instance, by_failure, History, passed, call_adds, closing_adds, back_by, fail_adds, slot_adds, server_adds, taken_by, failed_by, latest_on, queued_at, given}
use Rattle.history.proofs.Tied.{Tag, Tied, queues-alike, served-alike, failed-alike, calls-alike, tied-alike, Proper}
use Rattle.history.proofs.Calls.{calls-close, calls-start}
use Rattle.history.proofs.Tags.{serving-inside, queued-inside, tag-new, queues-close, served-close, queues-open, served-open, queues-push, queues-pop, oldest-tag, served-put, served-idle, failed-put}
use Rattle.history.proofs.Passes.{same-calls, alike_same}

-- ---- a call starts

pub tied-call : (cfg : Config) (st : State) (h : History) (i o : ℕ) (v : Value) → Sound cfg st → CanCall cfg st i o v → Tied st h → Tied (called cfg st i o v) (call_adds cfg h o v)
unfolding called
tied-call cfg st h i o v s z t = record {
  queues =
      queues-push os' latest' h.endings st.runnables h.queued r y
      (queues-open st.operations st.runnables st.slots h.latest h.endings o (h.place + 1) x z.fresh within inside z.shut refl h.queued (runnables-length cfg st s) t.queues)
      (omega (arith, runnables-length cfg st s, there)) there c q room (requests-told cfg st r s there).1 refl (tag-new st.operations h.latest h.endings o (h.place + 1) x c q within inside refl refl refl refl refl refl);
  served =
      served-alike os' latest' h.endings st.slots _ h.taken (slot_kept (λ w. w.owed) st.slots i _ (caller-kept (λ w. w.owed) (λ w n. refl) cfg o (slot_in st.slots i)))
      (served-open st.operations st.runnables st.slots h.latest h.endings o (h.place + 1) x z.fresh within inside z.shut refl h.taken (slots_length cfg st s) t.served);
  calls = calls-start st.operations h.latest h.endings h.place o x t.calls within (omega (arith, operations-most cfg s.config, z.inside)) refl refl;
  failed = failed-alike st.slots _ h.failed (slot_kept (λ w. w.life.failed) st.slots i _ (caller-kept (λ w. w.life.failed) (λ w n. refl) cfg o (slot_in st.slots i))) t.failed;
}
  where
    r : ℕ
    r = (operation_conf_in cfg.operations o).server

    x : Operation
    x = opening (operation_conf_in cfg.operations o).timeout (operation_in st.operations o)

    os' : Operations
    os' = with_operation st.operations o x

    latest' : List ℕ
    latest' = set h.latest o (h.place + 1)

    c : Client
    c = record { operation = o; number = (operation_in st.operations o).number; argument = v }

    q : Request
    q = record { at = h.place + 1; on = o; argument = v }

    y : Runnable
    y = asking (runnable_in st.runnables r) c

    within : o < length st.operations.at
    within = omega (arith, operations-length cfg st s, operations-most cfg s.config, z.inside)

    inside : o < length h.latest
    inside = omega (arith, t.calls.size, operations-most cfg s.config, z.inside)

    there : r < 16
    there = omega (arith, operation-there cfg s.config o z.inside, runnables-most cfg s.config)

    room : (runnable_in st.runnables r).requests.queued < 16
    room = omega (arith, z.room, capacity-most cfg s.config r)

-- ---- a call ends

tied-closed : (cfg : Config) (st : State) (h : History) (o : ℕ) (w : How) (v : Value) → is_open st o ≡ true → Proper (latest_on h o) w → given w ≡ v → Tied st h
    → Tied (closed cfg st o v) (closing_adds h o w)
unfolding closed closing
tied-closed cfg st h o w v e p g t = record {
  queues =
      queues-alike _ h.latest _ st.runnables _ h.queued (returned-kept (λ y. y.requests) (λ c y. refl) cfg o st.runnables)
      (queues-close st.operations h.latest h.endings o x _ (calling-inside st.operations o e) refl refl st.runnables h.queued t.queues);
  served = served-close st.operations h.latest h.endings o x _ (calling-inside st.operations o e) refl refl st.slots h.taken t.served;
  calls = calls-close st.operations h.latest h.endings h.place o _ w x t.calls e p refl refl (sym g);
  failed = t.failed;
}
  where
    x : Operation
    x = closing v (operation_in st.operations o)

pub tied-timeout : (cfg : Config) (st : State) (h : History) (o : ℕ) → CanTimeout cfg st o → Tied st h → Tied (closed cfg st o timeout_v) (closing_adds h o by_timeout)
tied-timeout cfg st h o z t = tied-closed cfg st h o by_timeout timeout_v z.calling tt refl t

-- the slot owes nobody any longer, and its instance counts as finished
tied-finish : (st : State) (h : History) (i : ℕ) (x : Slot) → i < length st.slots.at → x.life.failed ≡ (slot_in st.slots i).life.failed → Tied st h
    → Tied (with_slots st (with_slot st.slots i (finishing x))) h
tied-finish st h i x b l t = record {
  queues = t.queues;
  served = served-idle st.operations h.latest h.endings st.slots h.taken i (finishing x) t.served b refl;
  calls = t.calls;
  failed = failed-alike st.slots _ h.failed (slot_kept (λ w. w.life.failed) st.slots i (finishing x) l) t.failed;
}

-- what a hand back gives, by its failure or with its value, for the call that it was spawned for
back-given : (b : Bool) (j : ℕ) (v : Value) → given (pick b (by_failure j) (by_instance j v)) ≡ pick b server_err_v v
back-given true j v = refl
back-given false j v = refl

back-proper : (b : Bool) (j k : ℕ) (v : Value) → is_payload v ≡ true → j ≡ k → Proper k (pick b (by_failure j) (by_instance j v))
back-proper true j k v p e = e
back-proper false j k v p e = (e, p)

pub tied-answer : (cfg : Config) (st : State) (h : History) (i : ℕ) (v : Value) → CanHandBack cfg st i v → answers st.operations (client_of st i) ≡ true → Tied st h
    → Tied (answered cfg st i (handed_back st i v)) (closing_adds h (taken_by h i).on (back_by h i v))
unfolding answers closed
tied-answer cfg st h i v z e t =
    rw tag.same
    (tied-finish (closed cfg st c.operation (handed_back st i v)) (closing_adds h c.operation (back_by h i v)) i (slot_in st.slots i) (serving-inside st.slots i z.serving) refl
    (tied-closed cfg st h c.operation (back_by h i v) (handed_back st i v) open-still (back-proper (failed_by h i) (taken_by h i).at (latest_on h c.operation) v z.payload (tag.newest open-still its-number))
    (back-given (failed_by h i) (taken_by h i).at v ∙ ap (λ (b : Bool). pick b server_err_v v) (sym (t.failed.each i))) t))
  where
    c : Client
    c = client_of st i

    tag : Tag st.operations h.latest h.endings c (taken_by h i)
    tag = t.served.each i z.serving

    open-still : (operation_in st.operations c.operation).calling ≡ true
    open-still = both_left (operation_in st.operations c.operation).calling _ e

    its-number : c.number ≡ (operation_in st.operations c.operation).number
    its-number = sym (eqb-true _ _ (both_right (operation_in st.operations c.operation).calling _ e))

pub tied-late : (cfg : Config) (st : State) (h : History) (i : ℕ) (v : Value) → CanHandBack cfg st i v → Tied st h → Tied (finished st st i) (passed h)
tied-late cfg st h i v z t = tied-finish st (passed h) i (slot_in st.slots i) (serving-inside st.slots i z.serving) refl (tied-alike st st h (alike_same st) t)

-- ---- an instance comes, and goes

pub tied-server : (cfg : Config) (st : State) (h : History) (r k : ℕ) → Sound cfg st → k < 32 → eqb (runnable_conf_in cfg.runnables r).capacity 0 ≡ false
    → 0 < (runnable_in st.runnables r).requests.queued → Tied st h
    → Tied (spawned cfg st r k) (server_adds h k r)
unfolding spawned starting instance_of
tied-server cfg st h r k s b e n t = rw e (record {
  queues = queues-pop st.operations h.latest h.endings st.runnables h.queued r _ t.queues within there told.1 (omega (arith, told.0, capacity-most cfg s.config r)) refl;
  served =
      served-put st.operations h.latest h.endings st.slots h.taken k _ t.served (omega (arith, slots_length cfg st s, b)) (get_or (queued_at h r) 0 no_request) b
      (λ z. oldest-tag st.operations h.latest h.endings st.runnables h.queued r t.queues n);
  calls = calls-alike st.operations st.operations h.latest h.endings h.place (same-calls st.operations) t.calls;
  failed = failed-put st.slots h.failed k _ _ t.failed (omega (arith, slots_length cfg st s, b)) b refl;
})
  where
    within : r < length st.runnables.at
    within = queued-inside st.runnables r 0 n

    there : r < 16
    there = omega (arith, within, runnables-length cfg st s)

    told : ((runnable_in st.runnables r).requests.queued ≤ (runnable_conf_in cfg.runnables r).capacity) × (length (runnable_in st.runnables r).requests.at ≡ 16)
    told = requests-told cfg st r s there

pub tied-plain : (cfg : Config) (st : State) (h : History) (r k : ℕ) → Sound cfg st → k < 32 → eqb (runnable_conf_in cfg.runnables r).capacity 0 ≡ true → Tied st h
    → Tied (spawned cfg st r k) (slot_adds h k no_request)
unfolding spawned starting instance_of
tied-plain cfg st h r k s b e t = rw e (record {
  queues = queues-alike st.operations h.latest h.endings st.runnables _ h.queued (runnable-kept (λ y. y.requests) st.runnables r _ refl) t.queues;
  served = served-put st.operations h.latest h.endings st.slots h.taken k (fresh r no_owed) t.served (omega (arith, slots_length cfg st s, b)) no_request b (λ z. absurd (clash false z refl));
  calls = calls-alike st.operations st.operations h.latest h.endings h.place (same-calls st.operations) t.calls;
  failed = failed-put st.slots h.failed k _ _ t.failed (omega (arith, slots_length cfg st s, b)) b refl;
})

pub tied-end : (cfg : Config) (st : State) (h : History) (i : ℕ) → Sound cfg st → CanEnd st i → Tied st h → Tied (emptied st i) (slot_adds h i no_request)
unfolding no_slot
tied-end cfg st h i s z t = record {
  queues = queues-alike st.operations h.latest h.endings st.runnables _ h.queued (runnable-kept (λ y. y.requests) st.runnables (slot_in st.slots i).life.runnable _ refl) t.queues;
  served = served-put st.operations h.latest h.endings st.slots h.taken i no_slot t.served within no_request (omega (arith, within, slots_length cfg st s)) (λ q. absurd (clash false q refl));
  calls = calls-alike st.operations st.operations h.latest h.endings h.place (same-calls st.operations) t.calls;
  failed = failed-put st.slots h.failed i no_slot _ t.failed within (omega (arith, within, slots_length cfg st s)) refl;
}
  where
    within : i < length st.slots.at
    within = slot-inside st.slots i z.there.used

-- ---- an instance fails

pub tied-fail : (cfg : Config) (st : State) (h : History) (i : ℕ) → Sound cfg st → CanFail st i → Tied st h → Tied (failed st i) (fail_adds h i)
tied-fail cfg st h i s z t = record {
  queues = t.queues;
  served = served-alike st.operations h.latest h.endings st.slots _ h.taken (slot_kept (λ w. w.owed) st.slots i x refl) t.served;
  calls = calls-alike st.operations st.operations h.latest h.endings h.place (same-calls st.operations) t.calls;
  failed = failed-put st.slots h.failed i x _ t.failed within (omega (arith, within, slots_length cfg st s)) refl;
}
  where
    x : Slot
    x = failing (slot_in st.slots i)

    within : i < length st.slots.at
    within = slot-inside st.slots i z.who.there.used
