-- Clients after every step: a pair of operation and number belongs to one at most, and an open call has its one client: a call starts only under a number that
-- nobody bears. What a sound state tells of a queue, an open call and an empty slot, and then step by step, by the tallies.
-- Assumes nothing.
use Prim.Native.Nat.{ℕ, ◌+◌, ◌-◌, ◌≤◌, ◌<◌}
use mathlib.Core.Bool.{Bool, true, false, not}
use mathlib.Core.Path.{◌≡◌, refl, sym, ◌∙◌, ap}
use native.Mathlib.Decide.{ℕ_discrete}
use native.Mathlib.Omega.{arith}
use lib.Dec.{leb, eqb}
use lib.ListN.{length}
use borrow.Author.Tests.{eqb-false, leb-true, ltb-true, not-true}
use Rattle.laws.specs.Choice.{pick, bit}
use Rattle.laws.proofs.Choosing.{clash, all_told, both_left, both_right}
use Rattle.laws.proofs.Looping.{all-at}
use Rattle.laws.proofs.Places.{inside_of, filled-length}
use Rattle.faces.specs.Types.{Value, Config, RunnableConf, Client, Runnable, Operations, Owed, Slots, State, Awaited}
use Rattle.values.specs.Values.{timeout_v}
use Rattle.config.specs.Tables.{max_runnable_confs, runnable_conf_in, operation_conf_in, timer_conf_in}
use Rattle.state.specs.Parts.{no_client, max_requests, no_operation, no_owed, no_slot}
use Rattle.state.specs.Queues.{push_request, first_request, rest_requests}
use Rattle.state.specs.Fields.{with_pending, with_requests}
use Rattle.state.specs.Tables.{max_slots, runnable_in, operation_in, slot_in, with_runnable, with_operation, with_slot}
use Rattle.rules.specs.Sound.{is_no_client, client_fits, requests_sound, runnable_sound, runnables_sound, is_no_owed, is_no_slot, slot_sound, slots_sound, is_client, queued_as, served_as, clients_as}
use Rattle.effects.specs.Steps.{handed_on, entering, exiting, entered, exited, fed, asking, called, awaiting, awaited, closing, returned_runnables, closed, answers, finishing, failing, failed, client_of, finished, handed_back, answered, emptied, is_due, begun, starting, fresh, instance_of, lowest_empty, spawned, ticked, waited}
use Rattle.stays_sound.specs.Facts.{Clients, Sound, CanEnter, CanExit, CanFeed, CanCall, CanHandBack, CanEnd, CanSpawn, CanTimeout, CanTick, CanWait, CanFail, ClientsIn}
use Rattle.rules.proofs.Configured.{runnables-most, operations-most, capacity-most, operation-there}
use Rattle.stays_sound.proofs.Told.{runnables-length, operations-length, slots_length}
use Rattle.stays_sound.proofs.Kept.{here, lowest-empty, runnable-kept, slot_kept, fed-kept, handed-kept, returned-kept, after_kept, waited-kept, slots-after-kept, caller-kept}
use Rattle.state.specs.Places.{place_in}
use Rattle.stays_sound.proofs.Tallies.{other-operation, other-number, tally-same, tally-less, tally-close, tally-open, served-put, queued-put, asked, taken, idle, busy, clients-kept, clients-slot, clients-runnables}

-- ---- what a sound state tells of a queue, an open call and an empty slot

-- the requests of a runnable keep to its capacity, in an array of sixteen
pub requests-told : (cfg : Config) (st : State) (r : ℕ) → Sound cfg st → r < max_runnable_confs
    → ((runnable_in st.runnables r).requests.queued ≤ (runnable_conf_in cfg.runnables r).capacity) × (length (runnable_in st.runnables r).requests.at ≡ max_requests)
unfolding runnables_sound runnable_sound requests_sound
requests-told cfg st r s b =
    let t = (all_told _ (all-at (λ (r : ℕ). runnable_sound cfg r (runnable_in st.runnables r)) max_runnable_confs s.runnables r b)).1.1.1.0 in
    let fits = leb (runnable_in st.runnables r).requests.queued (runnable_conf_in cfg.runnables r).capacity in
    (leb-true _ _ (both_left fits _ t), filled-length (client_fits cfg r) is_no_client no_client max_requests _ _ (both_right fits _ t))

-- an operation that is Calling is one of the table
pub calling-inside : (os : Operations) (o : ℕ) → (operation_in os o).calling ≡ true → o < length os.at
unfolding place_in
calling-inside os o h = inside_of (λ y. y.calling ≡ true) os.at o no_operation (λ e. clash false e refl) h

-- an empty slot owes nothing
empty-idle : (cfg : Config) (st : State) (k : ℕ) → Sound cfg st → k < max_slots → (slot_in st.slots k).used ≡ false → (slot_in st.slots k).owed.serving ≡ false
unfolding slots_sound slot_sound is_no_slot is_no_owed
empty-idle cfg st k s b e =
    not-true _ (both_left (not (slot_in st.slots k).owed.serving) _ (all_told _ (rw e at (all-at (λ (k : ℕ). slot_sound cfg (slot_in st.slots k)) max_slots s.slots k b))).1.0)

-- ---- step by step

pub enter-keeps-clients : (cfg : Config) (st : State) (i a : ℕ) → Sound cfg st → CanEnter cfg st i a → ClientsIn (entered st i a)
enter-keeps-clients cfg st i a s z = clients-slot st.operations st.runnables st.slots i (entering (slot_in st.slots i) a) refl s.clients

pub exit-keeps-clients : (cfg : Config) (st : State) (i a : ℕ) → Sound cfg st → CanExit cfg st i a → ClientsIn (exited st i a)
exit-keeps-clients cfg st i a s z = clients-slot st.operations st.runnables st.slots i (exiting (slot_in st.slots i)) refl s.clients

-- write and send
pub feed-keeps-clients : (cfg : Config) (st : State) (i p : ℕ) (v : Value) → Sound cfg st → CanFeed cfg st i p v → ClientsIn (fed cfg st p v)
unfolding fed
feed-keeps-clients cfg st i p v s z =
    clients-runnables st.operations st.runnables _ st.slots (fed-kept (λ x. x.requests) (λ c x. refl) cfg st.elements p st.runnables) s.clients

-- what an instance has set is written
pub hand-on-keeps-clients : (cfg : Config) (st : State) (i : ℕ) → Sound cfg st → ClientsIn (handed_on cfg st i)
hand-on-keeps-clients cfg st i s = clients-runnables st.operations st.runnables _ st.slots (handed-kept (λ x. x.requests) (λ c x. refl) cfg st i) s.clients

pub call-keeps-clients : (cfg : Config) (st : State) (i o : ℕ) (v : Value) → Sound cfg st → CanCall cfg st i o v → ClientsIn (called cfg st i o v)
unfolding called
call-keeps-clients cfg st i o v s z =
    clients-slot _ _ st.slots i _ (caller-kept (λ x. x.owed) (λ x n. refl) cfg o (slot_in st.slots i))
    (tally-open st.operations (clients_as st.runnables st.slots) _ s.clients o _ c
    (omega (arith, z.inside, operations-most cfg s.config, operations-length cfg st s)) z.fresh refl refl refl
    (λ k m. omega (arith, queued-put st.runnables st.slots k m r (asking x c) b (omega (arith, b, runnables-length cfg st s)), more k m)))
  where
    r : ℕ
    r = (operation_conf_in cfg.operations o).server

    x : Runnable
    x = runnable_in st.runnables r

    c : Client
    c = record { operation = o; number = (operation_in st.operations o).number; argument = v }

    b : r < max_runnable_confs
    b = omega (arith, operation-there cfg s.config o z.inside, runnables-most cfg s.config)

    room : x.requests.queued < max_requests
    room = omega (arith, z.room, capacity-most cfg s.config r)

    more : (k m : ℕ) → queued_as k m (push_request x.requests c) ≡ queued_as k m x.requests + bit (is_client k m c)
    more k m = asked k m x.requests c (omega (arith, room, (requests-told cfg st r s b).1)) room

-- what an instance waits for, or no longer
pub await-keeps-clients : (cfg : Config) (st : State) (i : ℕ) (a : Awaited) → Sound cfg st → ClientsIn (awaited st i a)
await-keeps-clients cfg st i a s = clients-slot st.operations st.runnables st.slots i (awaiting (slot_in st.slots i) a) refl s.clients

pub fail-keeps-clients : (cfg : Config) (st : State) (i : ℕ) → Sound cfg st → CanFail st i → ClientsIn (failed st i)
fail-keeps-clients cfg st i s z = clients-slot st.operations st.runnables st.slots i (failing (slot_in st.slots i)) refl s.clients

-- the client that is handed back is gone
handed : (cfg : Config) (st : State) (i : ℕ) (v : Value) → Sound cfg st → CanHandBack cfg st i v → (o m : ℕ)
    → clients_as st.runnables (with_slot st.slots i (finishing (slot_in st.slots i))) o m + bit (is_client o m (slot_in st.slots i).owed.client) ≡ clients_as st.runnables st.slots o m
handed cfg st i v s z o m =
    let l = here cfg st i s z.who.there in
    omega (
      arith,
      served-put st.runnables st.slots o m i (finishing (slot_in st.slots i)) l (omega (arith, l, slots_length cfg st s)),
      idle o m no_owed refl,
      busy o m (slot_in st.slots i).owed z.serving,
    )

-- hand back of a call that is open no longer
pub late-keeps-clients : (cfg : Config) (st : State) (i : ℕ) (v : Value) → Sound cfg st → CanHandBack cfg st i v → answers st.operations (client_of st i) ≡ false → ClientsIn (finished st st i)
unfolding answers
late-keeps-clients cfg st i v s z f =
    tally-less st.operations (clients_as st.runnables st.slots) _ s.clients
    (λ o m. omega (arith, handed cfg st i v s z o m))
    (λ o e. omega (arith, handed cfg st i v s z o (operation_in st.operations o).number, ap bit (other o e (ℕ_discrete c.operation o))))
  where
    c : Client
    c = (slot_in st.slots i).owed.client

    -- it is not the client of an open call
    other : (o : ℕ) → (operation_in st.operations o).calling ≡ true → Dec (c.operation ≡ o) → is_client o (operation_in st.operations o).number c ≡ false
    other o e (yes p) = other-number o (operation_in st.operations o).number c (λ q. eqb-false _ _ (rw (p, e) at f) (sym q))
    other o e (no n) = other-operation o (operation_in st.operations o).number c n

-- an open call ends, return events included: clients of its operation may go, the others stay
closed-clients : (cfg : Config) (st : State) (o : ℕ) (v : Value) (ss : Slots) → Sound cfg st → (operation_in st.operations o).calling ≡ true
    → ((k m : ℕ) → clients_as st.runnables ss k m ≤ clients_as st.runnables st.slots k m)
    → ((k m : ℕ) → (k ≡ o → ⊥) → clients_as st.runnables ss k m ≡ clients_as st.runnables st.slots k m)
    → Clients (with_operation st.operations o (closing v (operation_in st.operations o))) (returned_runnables cfg o st.runnables) ss
unfolding closing
closed-clients cfg st o v ss s e f g =
    clients-runnables _ st.runnables _ ss (returned-kept (λ x. x.requests) (λ c x. refl) cfg o st.runnables)
    (tally-close st.operations (clients_as st.runnables st.slots) _ s.clients o (closing v (operation_in st.operations o))
    (calling-inside st.operations o e) refl f g)

-- hand back that ends its call
pub answer-keeps-clients : (cfg : Config) (st : State) (i : ℕ) (v : Value) → Sound cfg st → CanHandBack cfg st i v → answers st.operations (client_of st i) ≡ true → ClientsIn (answered cfg st i (handed_back st i v))
unfolding closed answers
answer-keeps-clients cfg st i v s z f =
    let c = (slot_in st.slots i).owed.client in
    closed-clients cfg st c.operation (handed_back st i v) _ s (both_left (operation_in st.operations c.operation).calling _ f)
    (λ k m. omega (arith, handed cfg st i v s z k m))
    (λ k m n. omega (arith, handed cfg st i v s z k m, ap bit (other-operation k m c (λ e. n (sym e)))))

pub timeout-keeps-clients : (cfg : Config) (st : State) (o : ℕ) → Sound cfg st → CanTimeout cfg st o → ClientsIn (closed cfg st o timeout_v)
unfolding closed
timeout-keeps-clients cfg st o s z = closed-clients cfg st o timeout_v st.slots s z.calling (λ k m. omega arith) (λ k m n. refl)

pub end-keeps-clients : (cfg : Config) (st : State) (i : ℕ) → Sound cfg st → CanEnd st i → ClientsIn (emptied st i)
unfolding no_slot
end-keeps-clients cfg st i s z =
    clients-kept st.operations st.operations st.runnables _ st.slots _ (λ o. refl) (λ o. refl)
    (runnable-kept (λ x. x.requests) st.runnables (slot_in st.slots i).life.runnable _ refl)
    (λ o m. slot_kept (λ y. served_as o m y.owed) st.slots i no_slot (idle o m no_owed refl ∙ sym (idle o m (slot_in st.slots i).owed z.none)))
    s.clients

pub spawn-keeps-clients : (cfg : Config) (st : State) (r : ℕ) → Sound cfg st → CanSpawn cfg st r → ClientsIn (spawned cfg st r (lowest_empty st.slots))
unfolding spawned starting instance_of is_due
spawn-keeps-clients cfg st r s z = go (eqb c.capacity 0) refl
  where
    c : RunnableConf
    c = runnable_conf_in cfg.runnables r

    x : Runnable
    x = runnable_in st.runnables r

    k : ℕ
    k = lowest_empty st.slots

    free : (slot_in st.slots k).owed.serving ≡ false
    free = empty-idle cfg st k s z.slot (lowest-empty st.slots z.slot)

    b : r < max_runnable_confs
    b = omega (arith, z.inside, runnables-most cfg s.config)

    w : Owed
    w = record { serving = true; client = first_request x.requests }

    -- the oldest request goes from the queue to the slot
    moved : (y : Runnable) → y.requests ≡ rest_requests x.requests → 0 < x.requests.queued → (o m : ℕ) → clients_as (with_runnable st.runnables r y) (with_slot st.slots k (fresh r w)) o m ≡ clients_as st.runnables st.slots o m
    moved y e p o m =
        let q = requests-told cfg st r s b in
        omega (
          arith,
          served-put (with_runnable st.runnables r y) st.slots o m k (fresh r w) z.slot (omega (arith, z.slot, slots_length cfg st s)),
          queued-put st.runnables st.slots o m r y b (omega (arith, b, runnables-length cfg st s)),
          taken o m x.requests p (omega (arith, q.0, capacity-most cfg s.config r, q.1)),
          ap (queued_as o m) e,
          idle o m (slot_in st.slots k).owed free,
          busy o m w refl,
        )

    go : (t : Bool) → eqb c.capacity 0 ≡ t
        → Clients st.operations
        (with_runnable st.runnables r
        (pick t (with_pending (begun c x) (x.pending - 1))
        (with_requests (begun c x) (rest_requests x.requests))))
        (with_slot st.slots k (pick t (fresh r no_owed) (fresh r w)))
    go true e =
        clients-kept st.operations st.operations st.runnables _ st.slots _ (λ o. refl) (λ o. refl)
        (runnable-kept (λ y. y.requests) st.runnables r _ refl)
        (λ o m. slot_kept (λ y. served_as o m y.owed) st.slots k _ (idle o m no_owed refl ∙ sym (idle o m (slot_in st.slots k).owed free)))
        s.clients
    go false e =
        tally-same st.operations st.operations (clients_as st.runnables st.slots) _ (λ o. refl) (λ o. refl)
        (moved _ refl (ltb-true 0 x.requests.queued (rw e at z.due))) s.clients

pub tick-keeps-clients : (cfg : Config) (st : State) (t : ℕ) → Sound cfg st → CanTick cfg st t → ClientsIn (ticked cfg st t)
tick-keeps-clients cfg st t s z =
    clients-runnables st.operations st.runnables _ st.slots (runnable-kept (λ x. x.requests) st.runnables (timer_conf_in cfg.timers t).runnable _ refl) s.clients

pub wait-keeps-clients : (cfg : Config) (st : State) (t : ℕ) → Sound cfg st → CanWait cfg st t → ClientsIn (waited cfg st t)
unfolding waited
wait-keeps-clients cfg st t s z =
    clients-kept st.operations _ st.runnables _ st.slots _
    (waited-kept (λ x. x.number) t (λ x n. refl) cfg st.operations)
    (waited-kept (λ x. x.calling) t (λ x n. refl) cfg st.operations)
    (after_kept (λ x. x.requests) t (λ x. refl) cfg st.runnables)
    (λ o m. slots-after-kept (λ x. served_as o m x.owed) t (λ x. refl) st.slots)
    s.clients
