-- The test of a sound state and the facts that it stands for, both ways; and the lengths of the nine tables.
-- Assumes nothing.
use Prim.Native.Nat.{ℕ, ◌≤◌, ◌<◌}
use mathlib.Core.Bool.{Bool, true, false, not}
use mathlib.Core.Path.{◌≡◌, refl, ap}
use native.Mathlib.Decide.{dec_le}
use native.Mathlib.Omega.{arith}
use lib.Dec.{ltb, leb, eqb}
use lib.ListN.{length, get_or}
use borrow.Author.Tests.{ltb-true, leb-true, eqb-true, lt-ltb, le-leb, eq-eqb}
use Rattle.laws.specs.Choice.{both, either, bit}
use Rattle.laws.specs.Loop.{all_below, sum_below}
use Rattle.laws.proofs.Choosing.{both_left, both_right, both-make, either-right, all_told, all_made}
use Rattle.laws.proofs.Looping.{all-at, all-of, sum-find, sum-term}
use Rattle.faces.specs.Types.{Config, Client, Runnables, Areas, Operations, Slots, State}
use Rattle.config.specs.Tables.{max_runnable_confs, max_area_confs, max_operation_confs, operation_conf_in}
use Rattle.state.specs.Parts.{no_client}
use Rattle.state.specs.Tables.{max_slots, runnable_in, area_in, operation_in, slot_in}
use Rattle.rules.specs.Sound.{shaped, count_sound, counts_sound, area_sound, areas_sound, is_client, queued_as, served_as, clients_as, client_sound, queued_sound, served_sound, called_sound, clients_sound, waiters_of, is_bound, waiter_sound, waiters_sound, sound_of}
use Rattle.stays_sound.specs.Facts.{Counted, Held, Clients, Waiters, Sound}

-- ---- the lengths of the tables

-- the tests of a shape, as facts
pub record Shape (st : State) : Type 0 where
  pub runnables : length st.runnables.at ≡ 16
  pub variables : length st.variables.at ≡ 16
  pub areas : length st.areas.at ≡ 16
  pub elements : length st.elements.at ≡ 16
  pub operations : length st.operations.at ≡ 8
  pub timers : length st.timers.at ≡ 8
  pub slots : length st.slots.at ≡ 32
  pub incoming : length st.incoming.at ≡ 32
  pub outgoing : length st.outgoing.at ≡ 32

pub shape-told : (st : State) → shaped st ≡ true → Shape st
unfolding shaped
shape-told st h =
    let t = all_told _ h in
    record {
      runnables = eqb-true _ _ t.0;
      variables = eqb-true _ _ t.1.0;
      areas = eqb-true _ _ t.1.1.0;
      elements = eqb-true _ _ t.1.1.1.0;
      operations = eqb-true _ _ t.1.1.1.1.0;
      timers = eqb-true _ _ t.1.1.1.1.1.0;
      slots = eqb-true _ _ t.1.1.1.1.1.1.0;
      incoming = eqb-true _ _ t.1.1.1.1.1.1.1.0;
      outgoing = eqb-true _ _ t.1.1.1.1.1.1.1.1.0;
    }

pub shape-made : (st : State) → Shape st → shaped st ≡ true
unfolding shaped
shape-made st h =
    all_made _
    (eq-eqb _ _ h.runnables, (eq-eqb _ _ h.variables, (eq-eqb _ _ h.areas, (eq-eqb _ _ h.elements, (eq-eqb _ _ h.operations, (eq-eqb _ _ h.timers, (eq-eqb _ _ h.slots, (eq-eqb _ _ h.incoming, (eq-eqb _ _ h.outgoing, tt)))))))))

module _ (cfg : Config) (st : State) (s : Sound cfg st) where
  pub runnables-length : length st.runnables.at ≡ 16
  runnables-length = (shape-told st s.shape).runnables

  pub areas-length : length st.areas.at ≡ 16
  areas-length = (shape-told st s.shape).areas

  pub operations-length : length st.operations.at ≡ 8
  operations-length = (shape-told st s.shape).operations

  pub timers-length : length st.timers.at ≡ 8
  timers-length = (shape-told st s.shape).timers

  pub slots_length : length st.slots.at ≡ 32
  slots_length = (shape-told st s.shape).slots

-- ---- counts

pub counts-told : (rs : Runnables) (ss : Slots) → counts_sound rs ss ≡ true → Counted rs ss
unfolding counts_sound count_sound
counts-told rs ss h = record { counted = λ r l. eqb-true _ _ (all-at (count_sound rs ss) max_runnable_confs h r l) }

pub counts-made : (rs : Runnables) (ss : Slots) → Counted rs ss → counts_sound rs ss ≡ true
unfolding counts_sound count_sound
counts-made rs ss h = all-of (count_sound rs ss) max_runnable_confs (λ r l. eq-eqb _ _ (h.counted r l))

-- ---- areas

module _ (cfg : Config) (t : Areas) (ss : Slots) where
  pub areas-told : areas_sound cfg t ss ≡ true → Held cfg t ss
  unfolding areas_sound area_sound
  areas-told h = record {
    there = λ a l e. ltb-true _ _ (either-right _ (ltb a cfg.areas.n) (both_left (either (not (area_in t a).taken) (ltb a cfg.areas.n)) _ (all-at (area_sound cfg t ss) max_area_confs h a l)) (ap not e));
    once = λ a l. eqb-true _ _ (both_right (either (not (area_in t a).taken) (ltb a cfg.areas.n)) _ (all-at (area_sound cfg t ss) max_area_confs h a l));
  }

  pub areas-made : Held cfg t ss → areas_sound cfg t ss ≡ true
  unfolding areas_sound area_sound
  areas-made h = all-of (area_sound cfg t ss) max_area_confs (λ a l. both-make _ _ (there a l (area_in t a).taken refl) (eq-eqb _ _ (h.once a l)))
    where
      there : (a : ℕ) → a < max_area_confs → (b : Bool) → (area_in t a).taken ≡ b → either (not b) (ltb a cfg.areas.n) ≡ true
      there a l true e = lt-ltb _ _ (h.there a l e)
      there a l false e = refl

-- ---- clients

-- one that counts for o and m is of that operation and number
pub is-client : (o m : ℕ) (c : Client) → is_client o m c ≡ true → (c.operation ≡ o) × (c.number ≡ m)
unfolding is_client
is-client o m c h = (eqb-true _ _ (both_left (eqb c.operation o) (eqb c.number m) h), eqb-true _ _ (both_right (eqb c.operation o) (eqb c.number m) h))

pub own-client : (o m : ℕ) (c : Client) → c.operation ≡ o → c.number ≡ m → is_client o m c ≡ true
unfolding is_client
own-client o m c e f = both-make _ _ (eq-eqb _ _ e) (eq-eqb _ _ f)

bit-on : (b : Bool) → 1 ≤ bit b → b ≡ true
bit-on true h = refl
bit-on false h = absurd (omega arith)

module _ (rs : Runnables) (ss : Slots) where
  -- a pair that counts is that of a client that is there, in a queue or in a slot
  pub client-there : {Q : Type 0} (o m : ℕ)
      → ((r : ℕ) → r < max_runnable_confs → (j : ℕ) → j < (runnable_in rs r).requests.queued → is_client o m (get_or (runnable_in rs r).requests.at j no_client) ≡ true → Q)
      → ((k : ℕ) → k < max_slots → (slot_in ss k).owed.serving ≡ true → is_client o m (slot_in ss k).owed.client ≡ true → Q)
      → 1 ≤ clients_as rs ss o m → Q
  unfolding clients_as queued_as served_as
  client-there {Q} o m f g l = go (dec_le 1 (sum_below (λ (r : ℕ). queued_as o m (runnable_in rs r).requests) max_runnable_confs))
    where
      go : Dec (1 ≤ sum_below (λ (r : ℕ). queued_as o m (runnable_in rs r).requests) max_runnable_confs) → Q
      go (yes h) =
          let x = sum-find (λ (r : ℕ). queued_as o m (runnable_in rs r).requests) max_runnable_confs h in
          let q = (runnable_in rs x.0).requests in
          let y = sum-find (λ (j : ℕ). bit (is_client o m (get_or q.at j no_client))) q.queued x.2 in
          f x.0 x.1 y.0 y.1 (bit-on _ y.2)
      go (no n) =
          let x = sum-find (λ (k : ℕ). served_as o m (slot_in ss k).owed) max_slots (omega (arith, l, n)) in
          let w = (slot_in ss x.0).owed in
          let b = bit-on (both w.serving (is_client o m w.client)) x.2 in
          g x.0 x.1 (both_left w.serving _ b) (both_right w.serving _ b)

  -- a client that is there counts for its own operation and number
  pub queued-counts : (r j : ℕ) → r < max_runnable_confs → j < (runnable_in rs r).requests.queued → 1 ≤ clients_as rs ss (get_or (runnable_in rs r).requests.at j no_client).operation (get_or (runnable_in rs r).requests.at j no_client).number
  unfolding clients_as queued_as
  queued-counts r j l b =
      let c = get_or (runnable_in rs r).requests.at j no_client in
      omega (
        arith,
        sum-term (λ (r : ℕ). queued_as c.operation c.number (runnable_in rs r).requests) r max_runnable_confs l,
        sum-term (λ (j : ℕ). bit (is_client c.operation c.number (get_or (runnable_in rs r).requests.at j no_client))) j (runnable_in rs r).requests.queued b,
        ap bit (own-client c.operation c.number c refl refl),
      )

  pub served-counts : (k : ℕ) → k < max_slots → (slot_in ss k).owed.serving ≡ true → 1 ≤ clients_as rs ss (slot_in ss k).owed.client.operation (slot_in ss k).owed.client.number
  unfolding clients_as served_as
  served-counts k l e =
      let c = (slot_in ss k).owed.client in
      omega (
        arith,
        sum-term (λ (k : ℕ). served_as c.operation c.number (slot_in ss k).owed) k max_slots l,
        ap bit (both-make (slot_in ss k).owed.serving (is_client c.operation c.number c) e (own-client c.operation c.number c refl refl)),
      )

  -- where nobody bears the number m of o, a client that is there is of another operation or number: no old client can be taken for the one of a call that starts
  pub unborne : (o m : ℕ) (c : Client) → clients_as rs ss o m ≡ 0 → 1 ≤ clients_as rs ss c.operation c.number → c.operation ≡ o → c.number ≡ m → ⊥
  unborne o m c z l p q = omega (arith, z, rw (p, q) at l)

  queued-told : all_below (queued_sound rs ss) max_runnable_confs ≡ true → (r : ℕ) → r < max_runnable_confs → (j : ℕ) → j < (runnable_in rs r).requests.queued → client_sound rs ss (get_or (runnable_in rs r).requests.at j no_client) ≡ true
  unfolding queued_sound
  queued-told h r l = all-at (λ (j : ℕ). client_sound rs ss (get_or (runnable_in rs r).requests.at j no_client)) (runnable_in rs r).requests.queued (all-at (queued_sound rs ss) max_runnable_confs h r l)

  served-told : all_below (served_sound rs ss) max_slots ≡ true → (k : ℕ) → k < max_slots → (slot_in ss k).owed.serving ≡ true → client_sound rs ss (slot_in ss k).owed.client ≡ true
  unfolding served_sound
  served-told h k l e = either-right _ (client_sound rs ss (slot_in ss k).owed.client) (all-at (served_sound rs ss) max_slots h k l) (ap not e)

  -- a client that is there: no other has its operation and number
  client-single : (o m : ℕ) (c : Client) → client_sound rs ss c ≡ true → is_client o m c ≡ true → clients_as rs ss o m ≤ 1
  unfolding client_sound
  client-single o m c h i =
      let e = is-client o m c i in
      omega (arith, rw (e.0, e.1) at (eqb-true (clients_as rs ss c.operation c.number) 1 h))

  single-told : all_below (queued_sound rs ss) max_runnable_confs ≡ true → all_below (served_sound rs ss) max_slots ≡ true → (o m : ℕ) → clients_as rs ss o m ≤ 1
  single-told hq hs o m = go (dec_le 1 (clients_as rs ss o m))
    where
      go : Dec (1 ≤ clients_as rs ss o m) → clients_as rs ss o m ≤ 1
      go (yes l) = client-there o m (λ r b j c. client-single o m _ (queued-told hq r b j c)) (λ k b e. client-single o m _ (served-told hs k b e)) l
      go (no n) = omega (arith, n)

  client-made : ((o m : ℕ) → clients_as rs ss o m ≤ 1) → (c : Client) → 1 ≤ clients_as rs ss c.operation c.number → client_sound rs ss c ≡ true
  unfolding client_sound
  client-made h c l = eq-eqb (clients_as rs ss c.operation c.number) 1 (omega (arith, h c.operation c.number))

module _ (os : Operations) (rs : Runnables) (ss : Slots) where
  pub clients-told : clients_sound os rs ss ≡ true → Clients os rs ss
  unfolding clients_sound called_sound
  clients-told h =
      let q = both_left (all_below (queued_sound rs ss) max_runnable_confs) _ h in
      let r = both_right (all_below (queued_sound rs ss) max_runnable_confs) _ h in
      let s = both_left (all_below (served_sound rs ss) max_slots) _ r in
      let c = both_right (all_below (served_sound rs ss) max_slots) _ r in
      record {
        single = single-told rs ss q s;
        called = λ o l e. eqb-true _ 1 (either-right _ (eqb (clients_as rs ss o (operation_in os o).number) 1) (all-at (called_sound os rs ss) max_operation_confs c o l) (ap not e));
      }

  pub clients-made : Clients os rs ss → clients_sound os rs ss ≡ true
  unfolding clients_sound queued_sound served_sound called_sound
  clients-made h =
      both-make _ _
      (all-of (queued_sound rs ss) max_runnable_confs (λ r l. all-of _ (runnable_in rs r).requests.queued (λ j b. client-made rs ss h.single (get_or (runnable_in rs r).requests.at j no_client) (queued-counts rs ss r j l b))))
      (both-make _ _
      (all-of (served_sound rs ss) max_slots (λ k l. served k l (slot_in ss k).owed.serving refl))
      (all-of (called_sound os rs ss) max_operation_confs (λ o l. called o l (operation_in os o).calling refl)))
    where
      served : (k : ℕ) → k < max_slots → (b : Bool) → (slot_in ss k).owed.serving ≡ b → either (not b) (client_sound rs ss (slot_in ss k).owed.client) ≡ true
      served k l true e = client-made rs ss h.single (slot_in ss k).owed.client (served-counts rs ss k l e)
      served k l false e = refl

      called : (o : ℕ) → o < max_operation_confs → (b : Bool) → (operation_in os o).calling ≡ b → either (not b) (eqb (clients_as rs ss o (operation_in os o).number) 1) ≡ true
      called o l true e = eq-eqb _ 1 (h.called o l e)
      called o l false e = refl

-- ---- waiters

module _ (cfg : Config) (os : Operations) (ss : Slots) where
  pub waiters-told : waiters_sound cfg os ss ≡ true → Waiters cfg os ss
  unfolding waiters_sound waiter_sound
  waiters-told h = record {
    most = λ o l. leb-true _ _ (both_left (leb (waiters_of ss o) 1) _ (all-at (waiter_sound cfg os ss) max_operation_confs h o l));
    bound = λ o l e f. ltb-true _ _ (either-right (operation_conf_in cfg.operations o).asynchronous _ (either-right (not (operation_in os o).calling) _ (both_right (leb (waiters_of ss o) 1) _ (all-at (waiter_sound cfg os ss) max_operation_confs h o l)) (ap not e)) f);
  }

  pub waiters-made : Waiters cfg os ss → waiters_sound cfg os ss ≡ true
  unfolding waiters_sound waiter_sound
  waiters-made h = all-of (waiter_sound cfg os ss) max_operation_confs (λ o l. both-make _ _ (le-leb _ _ (h.most o l)) (bound o l (operation_in os o).calling refl (operation_conf_in cfg.operations o).asynchronous refl))
    where
      bound : (o : ℕ) → o < max_operation_confs → (b : Bool) → (operation_in os o).calling ≡ b → (a : Bool) → (operation_conf_in cfg.operations o).asynchronous ≡ a → either (not b) (either a (is_bound ss o)) ≡ true
      bound o l true e true f = refl
      bound o l true e false f = lt-ltb _ _ (h.bound o l e f)
      bound o l false e a f = refl

-- ---- the whole

pub told : (cfg : Config) (st : State) → sound_of cfg st ≡ true → Sound cfg st
unfolding sound_of
told cfg st h =
    let t = all_told _ h in
    record {
      config = t.0;
      shape = t.1.0;
      runnables = t.1.1.0;
      variables = t.1.1.1.0;
      elements = t.1.1.1.1.0;
      operations = t.1.1.1.1.1.0;
      timers = t.1.1.1.1.1.1.0;
      slots = t.1.1.1.1.1.1.1.0;
      counts = counts-told st.runnables st.slots t.1.1.1.1.1.1.1.1.0;
      areas = areas-told cfg st.areas st.slots t.1.1.1.1.1.1.1.1.1.0;
      clients = clients-told st.operations st.runnables st.slots t.1.1.1.1.1.1.1.1.1.1.0;
      waiters = waiters-told cfg st.operations st.slots t.1.1.1.1.1.1.1.1.1.1.1.0;
      copies = record { incoming = t.1.1.1.1.1.1.1.1.1.1.1.1.0; outgoing = t.1.1.1.1.1.1.1.1.1.1.1.1.1.0 };
    }

pub made : (cfg : Config) (st : State) → Sound cfg st → sound_of cfg st ≡ true
unfolding sound_of
made cfg st h =
    let c = counts-made st.runnables st.slots h.counts in
    let a = areas-made cfg st.areas st.slots h.areas in
    let k = clients-made st.operations st.runnables st.slots h.clients in
    let w = waiters-made cfg st.operations st.slots h.waiters in
    all_made _ (h.config, (h.shape, (h.runnables, (h.variables, (h.elements, (h.operations, (h.timers, (h.slots, (c, (a, (k, (w, (h.copies.incoming, (h.copies.outgoing, tt))))))))))))))
