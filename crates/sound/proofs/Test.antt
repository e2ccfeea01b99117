-- The walk tests what a sound state is: what is tested against the tally says the same as the clauses that count over all slots and all queues.
-- Assumes nothing.
use Rattle.std.proofs.Common.{◌≡◌, ℕ, zero, suc, ◌+◌, ◌<◌, ◌≤◌, Bool, true, false, not, eqb, ltb, leb, [], ◌∷◌, get_or, sym, refl, ap, ◌∙◌, ⊎_elim, le_of_suc-le-suc, not-suc-le-zero, eq-or-lt_of_le, arith, ltb-true, eq-eqb, ne_eqb, eqb-true, leb-true}
use Rattle.laws.specs.Choice.{pick, both, either, alike, bit, all_of}
use Rattle.laws.specs.Loop.{all_below, sum_below}
use Rattle.laws.proofs.Choosing.{clash, both_left, both_right, both-make, all_told, all_made}
use Rattle.laws.proofs.Looping.{all-at, all-of, all_same, all_both, sum-zero, sum-term, sum-find}
use Rattle.laws.proofs.Places.{filled-good}
use Rattle.values.specs.Values.{void_v}
use Rattle.faces.specs.Types.{Config, Client, Owed, Slot, Slots, Copied, State}
use Rattle.config.specs.Tables.{runnable_conf_in, operation_conf_in}
use Rattle.entries.specs.Faults.{is_server, config_sound}
use Rattle.state.specs.Parts.{no_client, no_requests}
use Rattle.state.specs.Tables.{runnable_in, area_in, operation_in, slot_in, copies_in}
use Rattle.rules.specs.Sound.{client_fits, is_no_client, requests_sound, runnable_sound, operation_sound, calling_sound, done_sound, life_sound, owed_sound, stack_sound, is_no_owed, is_no_slot, slot_sound, slots_of, count_sound, holders, area_sound, is_client, queued_as, served_as, clients_as, client_sound, queued_sound, served_sound, called_sound, waiters_of, waiter_sound, runnables_sound, operations_sound, slots_sound, counts_sound, areas_sound, clients_sound, waiters_sound, copies_sound, copied_sound, shaped, sound_of}
use Rattle.rules.proofs.Configured.{runnables-most, capacity-most, operation-there}
use Rattle.sound.specs.declared.Tally.{Tally}
use Rattle.sound.specs.declared.Walked.{Walked}
use Rattle.sound.specs.Tally.{no_tally, tally_of, noted_as, Tallies}
use Rattle.sound.specs.Walk.{clients_with, client_alone, queue_alone, queue_of, noted_alone, runnable_tallied, waiter_tallied, operation_tallied, area_tallied, runnables_tallied, operations_tallied, areas_tallied, rest_tests, slot_walked, slots_walked, walk_of, whole_test}
use Rattle.sound.proofs.Tallying.{tally-tallies, tally-all}

-- a sum of which one term counts
sum_one : (f : ℕ → ℕ) (i n : ℕ) → i < n → ((k : ℕ) → k < n → (k ≡ i → ⊥) → f k ≡ 0) → sum_below f n ≡ f i
unfolding sum_below
sum_one f i zero l h = absurd (not-suc-le-zero l)
sum_one f i (suc n) l h =
    ⊎_elim
    (λ e. omega (arith, ap f e, sum-zero f n (λ k b. h k (omega arith) (λ q. omega (arith, e, q, b)))))
    (λ b. omega (arith, sum_one f i n b (λ k c q. h k (omega arith) q), h n (omega arith) (λ q. omega (arith, q, b))))
    (eq-or-lt_of_le (le_of_suc-le-suc l))

-- a client that fits a server: its operation is there, and that server's
fits_told : (cfg : Config) (r : ℕ) (c : Client) → client_fits cfg r c ≡ true → (c.operation < cfg.operations.n) × ((operation_conf_in cfg.operations c.operation).server ≡ r)
unfolding client_fits
fits_told cfg r c h = (
  ltb-true _ _ (both_left (ltb c.operation cfg.operations.n) _ h),
  eqb-true _ _ (both_left (eqb (operation_conf_in cfg.operations c.operation).server r) _ (both_right (ltb c.operation cfg.operations.n) _ h)),
)

-- the client of a sound slot fits
slot-fits : (cfg : Config) (x : Slot) → slot_sound cfg x ≡ true → x.owed.serving ≡ true → client_fits cfg x.life.runnable x.owed.client ≡ true
unfolding slot_sound owed_sound is_no_slot is_no_owed
slot-fits cfg x h s = go x.used h
  where
    go : (b : Bool) → pick b (all_of (life_sound cfg x.life ∷ owed_sound cfg x.life x.owed ∷ stack_sound cfg x.life x.stack ∷ [])) (is_no_slot x) ≡ true → client_fits cfg x.life.runnable x.owed.client ≡ true
    go true q = rw s at (both_right (alike x.owed.serving (both (is_server cfg x.life.runnable) (not x.life.finished))) (pick x.owed.serving (client_fits cfg x.life.runnable x.owed.client) (is_no_client x.owed.client)) (all_told _ q).1.0)
    go false q = absurd (clash (not x.owed.serving) (both_left (not x.owed.serving) _ (all_told _ q).1.0) (rw s))

bit-one : (b : Bool) → 1 ≤ bit b → b ≡ true
bit-one true h = refl
bit-one false h = absurd (omega arith)

-- an instance that serves counts for its own client
served-own : (w : Owed) → w.serving ≡ true → served_as w.client.operation w.client.number w ≡ 1
unfolding served_as is_client
served-own w e = rw (e, eq-eqb w.client.operation w.client.operation refl, eq-eqb w.client.number w.client.number refl)

module _ (cfg : Config) (st : State) (config : config_sound cfg ≡ true) (slots : slots_sound cfg st.slots ≡ true) (runnables : runnables_sound cfg st.runnables ≡ true) where
  -- the tally of all slots, and what it means
  abbrev tally : Tally
  tally = tally_of st.slots 32

  means : Tallies st.slots 32 tally
  unfolding slots_sound
  means = tally-tallies cfg st.slots 32 (omega arith) slots

  -- ---- clients

  queued-fits : (r : ℕ) → r < 16 → (j : ℕ) → j < (runnable_in st.runnables r).requests.queued → client_fits cfg r (get_or (runnable_in st.runnables r).requests.at j no_client) ≡ true
  unfolding runnables_sound runnable_sound requests_sound
  queued-fits r b j c =
      let q = (runnable_in st.runnables r).requests in
      let h : requests_sound cfg r q ≡ true = (all_told _ (all-at (λ (r : ℕ). runnable_sound cfg r (runnable_in st.runnables r)) 16 runnables r b)).1.1.1.0 in
      let m : q.queued ≤ (runnable_conf_in cfg.runnables r).capacity = leb-true _ _ (both_left (leb q.queued (runnable_conf_in cfg.runnables r).capacity) _ h) in
      filled-good (client_fits cfg r) is_no_client no_client 16 q.queued q.at (both_right (leb q.queued (runnable_conf_in cfg.runnables r).capacity) _ h) j (omega (arith, c, m, capacity-most cfg config r)) c

  -- no queue but that of its server has clients of an operation
  queued-other : (o m r : ℕ) → r < 16 → (r ≡ (operation_conf_in cfg.operations o).server → ⊥) → queued_as o m (runnable_in st.runnables r).requests ≡ 0
  unfolding queued_as is_client
  queued-other o m r b n =
      sum-zero _ (runnable_in st.runnables r).requests.queued
      (λ j c. rw (ne_eqb (get_or (runnable_in st.runnables r).requests.at j no_client).operation o (λ e. n (sym (fits_told cfg r (get_or (runnable_in st.runnables r).requests.at j no_client) (queued-fits r b j c)).1 ∙ ap (λ (i : ℕ). (operation_conf_in cfg.operations i).server) e))))

  clients-are : (o m : ℕ) → o < cfg.operations.n → clients_with (queue_of cfg st.runnables o) tally.noted o m ≡ clients_as st.runnables st.slots o m
  unfolding clients_with queue_of clients_as
  clients-are o m b =
      omega (arith, means.clients o m, sum_one (λ (r : ℕ). queued_as o m (runnable_in st.runnables r).requests) (operation_conf_in cfg.operations o).server 16 (omega (arith, operation-there cfg config o b, runnables-most cfg config)) (λ r c n. queued-other o m r c n))

  alone-is : (c : Client) → c.operation < cfg.operations.n → client_alone (queue_of cfg st.runnables c.operation) tally.noted c ≡ client_sound st.runnables st.slots c
  unfolding client_alone client_sound
  alone-is c b = ap (λ (n : ℕ). eqb n 1) (clients-are c.operation c.number b)

  -- the clients of one queue
  queue-is : (r : ℕ) → r < 16 → queue_alone (runnable_in st.runnables r).requests tally.noted ≡ queued_sound st.runnables st.slots r
  unfolding queue_alone queued_sound queue_of
  queue-is r b =
      all_same _ _ (runnable_in st.runnables r).requests.queued
      (λ j c. let f = fits_told cfg r (get_or (runnable_in st.runnables r).requests.at j no_client) (queued-fits r b j c) in
      ap (λ (i : ℕ). client_alone (runnable_in st.runnables i).requests tally.noted (get_or (runnable_in st.runnables r).requests.at j no_client)) (sym f.1)
      ∙ alone-is (get_or (runnable_in st.runnables r).requests.at j no_client) f.0)

  -- as long as the clients of the queues are sound, it is enough to look for a client that is noted among those noted
  module _ (queued : all_below (queued_sound st.runnables st.slots) 16 ≡ true) where
    queued-once : (o m : ℕ) → o < cfg.operations.n → 1 ≤ queued_as o m (queue_of cfg st.runnables o) → clients_as st.runnables st.slots o m ≡ 1
    unfolding queued_as is_client queued_sound client_sound queue_of
    queued-once o m b h =
        let s = (operation_conf_in cfg.operations o).server in
        let q = (runnable_in st.runnables s).requests in
        let f = sum-find (λ (j : ℕ). bit (is_client o m (get_or q.at j no_client))) q.queued h in
        let c = get_or q.at f.0 no_client in
        let i : both (eqb c.operation o) (eqb c.number m) ≡ true = bit-one (is_client o m c) f.2 in
        let eo : c.operation ≡ o = eqb-true _ _ (both_left (eqb c.operation o) _ i) in
        let em : c.number ≡ m = eqb-true _ _ (both_right (eqb c.operation o) _ i) in
        let z : clients_as st.runnables st.slots c.operation c.number ≡ 1
        = eqb-true _ _ (all-at (λ (j : ℕ). client_sound st.runnables st.slots (get_or q.at j no_client)) q.queued (all-at (queued_sound st.runnables st.slots) 16 queued s (omega (arith, operation-there cfg config o b, runnables-most cfg config))) f.0 f.1) in
        ap (λ (k : ℕ). clients_as st.runnables st.slots k m) (sym eo) ∙ ap (clients_as st.runnables st.slots c.operation) (sym em) ∙ z

    -- no queue has a client that is noted
    unqueued : (o m : ℕ) → o < cfg.operations.n → 1 ≤ noted_as o m tally.noted → queued_as o m (queue_of cfg st.runnables o) ≡ 0
    unfolding clients_with
    unqueued o m b n = go (queued_as o m (queue_of cfg st.runnables o)) refl
      where
        go : (k : ℕ) → queued_as o m (queue_of cfg st.runnables o) ≡ k → queued_as o m (queue_of cfg st.runnables o) ≡ 0
        go zero e = e
        go (suc k) e = omega (arith, n, e, clients-are o m b, queued-once o m b (omega (arith, e)))

    -- the client of one slot
    slot_is : (k : ℕ) → k < 32 → either (not (slot_in st.slots k).owed.serving) (client_alone no_requests tally.noted (slot_in st.slots k).owed.client) ≡ served_sound st.runnables st.slots k
    unfolding served_sound slots_sound client_alone client_sound clients_with queued_as sum_below no_requests
    slot_is k b = go (slot_in st.slots k).owed.serving refl
      where
        go : (s : Bool) → (slot_in st.slots k).owed.serving ≡ s → either (not s) (client_alone no_requests tally.noted (slot_in st.slots k).owed.client) ≡ either (not s) (client_sound st.runnables st.slots (slot_in st.slots k).owed.client)
        go false e = refl
        go true e =
            let x = slot_in st.slots k in
            let o = x.owed.client.operation in
            let m = x.owed.client.number in
            let l : o < cfg.operations.n = (fits_told cfg x.life.runnable x.owed.client (slot-fits cfg x (all-at (λ (k : ℕ). slot_sound cfg (slot_in st.slots k)) 32 slots k b) e)).0 in
            let n : 1 ≤ noted_as o m tally.noted = omega (arith, means.clients o m, sum-term (λ (j : ℕ). served_as o m (slot_in st.slots j).owed) k 32 b, served-own x.owed e) in
            let z : 0 + noted_as o m tally.noted ≡ clients_as st.runnables st.slots o m = omega (arith, clients-are o m l, unqueued o m l n) in
            ap (λ (i : ℕ). eqb i 1) z

    -- the clients of all slots
    noted-is : noted_alone tally.noted ≡ all_below (served_sound st.runnables st.slots) 32
    unfolding noted_alone client_alone
    noted-is =
        tally-all cfg st.slots (λ (o m : ℕ). client_alone no_requests tally.noted (record { operation = o; number = m; argument = void_v })) 32 (omega arith)
        ∙ all_same _ _ 32 slot_is

  -- the client of an open call
  called_is : (o : ℕ) → operation_sound cfg o (operation_in st.operations o) ≡ true → either (not (operation_in st.operations o).calling) (eqb (clients_with (queue_of cfg st.runnables o) tally.noted o (operation_in st.operations o).number) 1) ≡ called_sound st.operations st.runnables st.slots o
  unfolding called_sound operation_sound calling_sound
  called_is o h = go (operation_in st.operations o).calling refl
    where
      go : (b : Bool) → (operation_in st.operations o).calling ≡ b → either (not b) (eqb (clients_with (queue_of cfg st.runnables o) tally.noted o (operation_in st.operations o).number) 1) ≡ either (not b) (eqb (clients_as st.runnables st.slots o (operation_in st.operations o).number) 1)
      go false e = refl
      go true e =
          let p : calling_sound cfg o (operation_in st.operations o) ≡ true = rw e at (both_right (leb (operation_in st.operations o).number 65535) (pick (operation_in st.operations o).calling (calling_sound cfg o (operation_in st.operations o)) (done_sound cfg o (operation_in st.operations o))) h) in
          ap (λ (n : ℕ). eqb n 1) (clients-are o (operation_in st.operations o).number (ltb-true _ _ (all_told _ p).0))

  -- ---- counts, waiters and areas

  count-is : (r : ℕ) → r < 16 → eqb (runnable_in st.runnables r).instances (get_or tally.instances r 0) ≡ count_sound st.runnables st.slots r
  unfolding count_sound slots_of
  count-is r b = ap (eqb (runnable_in st.runnables r).instances) (means.instances r b)

  waiter-is : (o : ℕ) → o < 8 → waiter_tallied cfg (get_or tally.waiters o 0) o (operation_in st.operations o) ≡ waiter_sound cfg st.operations st.slots o
  unfolding waiter_tallied waiter_sound waiters_of
  waiter-is o b = ap (λ (n : ℕ). both (leb n 1) (either (not (operation_in st.operations o).calling) (either (operation_conf_in cfg.operations o).asynchronous (ltb 0 n)))) (means.waiters o b)

  area-is : (a : ℕ) → a < 16 → area_tallied cfg.areas.n (get_or tally.held.at a 0) a (area_in st.areas a) ≡ area_sound cfg st.areas st.slots a
  unfolding area_tallied area_sound holders
  area-is a b = ap (λ (n : ℕ). both (either (not (area_in st.areas a).taken) (ltb a cfg.areas.n)) (eqb n (bit (area_in st.areas a).taken))) (means.held a b)

-- two tests that hold together are one
alike_both : (a b : Bool) → (a ≡ true → b ≡ true) → (b ≡ true → a ≡ true) → a ≡ b
alike_both true b f g = sym (f refl)
alike_both false true f g = g refl
alike_both false false f g = refl

-- the walk tests the slots and the copies of both kinds
walked-is : (cfg : Config) (ss : Slots) (is os : Copied) → slots_walked cfg ss is os ≡ both (slots_sound cfg ss) (both (copied_sound cfg.edition cfg.incoming ss is) (copied_sound cfg.edition cfg.outgoing ss os))
unfolding slots_walked slot_walked slots_sound copied_sound
walked-is cfg ss is os =
    all_both (λ (k : ℕ). slot_sound cfg (slot_in ss k)) (λ (k : ℕ). both (copies_sound cfg.edition cfg.incoming (slot_in ss k) (copies_in is k)) (copies_sound cfg.edition cfg.outgoing (slot_in ss k) (copies_in os k))) 32
    ∙ ap (both (all_below (λ (k : ℕ). slot_sound cfg (slot_in ss k)) 32)) (all_both (λ (k : ℕ). copies_sound cfg.edition cfg.incoming (slot_in ss k) (copies_in is k)) (λ (k : ℕ). copies_sound cfg.edition cfg.outgoing (slot_in ss k) (copies_in os k)) 32)

module _ (cfg : Config) (st : State) (config : config_sound cfg ≡ true) (long : shaped st ≡ true) where
  abbrev walked : Bool
  walked = slots_walked cfg st.slots st.incoming st.outgoing

  -- what passes the walk is sound
  walk-sound : whole_test cfg st ≡ true → sound_of cfg st ≡ true
  unfolding whole_test sound_of runnables_tallied runnable_tallied operations_tallied operation_tallied areas_tallied runnables_sound operations_sound counts_sound areas_sound clients_sound waiters_sound
  walk-sound h =
      let all : both (slots_sound cfg st.slots) (both (copied_sound cfg.edition cfg.incoming st.slots st.incoming) (copied_sound cfg.edition cfg.outgoing st.slots st.outgoing)) ≡ true = sym (walked-is cfg st.slots st.incoming st.outgoing) ∙ both_left walked _ h in
      let slots : slots_sound cfg st.slots ≡ true = both_left (slots_sound cfg st.slots) _ all in
      let copied = both_right (slots_sound cfg st.slots) _ all in
      let incoming = both_left (copied_sound cfg.edition cfg.incoming st.slots st.incoming) _ copied in
      let outgoing = both_right (copied_sound cfg.edition cfg.incoming st.slots st.incoming) _ copied in
      let t = all_told (rest_tests cfg st (tally_of st.slots 32)) (both_right walked _ h) in
      let y = tally_of st.slots 32 in
      let each : (r : ℕ) → r < 16 → runnable_tallied cfg y.noted (get_or y.instances r 0) r (runnable_in st.runnables r) ≡ true = all-at _ 16 t.0 in
      let calls : (o : ℕ) → o < 8 → operation_tallied cfg st.runnables y.noted (get_or y.waiters o 0) o (operation_in st.operations o) ≡ true = all-at _ 8 t.1.1.1.0 in
      let runnables : runnables_sound cfg st.runnables ≡ true = all-of _ 16 (λ r b. both_left (runnable_sound cfg r (runnable_in st.runnables r)) _ (each r b)) in
      let behind : (r : ℕ) → r < 16 → both (eqb (runnable_in st.runnables r).instances (get_or y.instances r 0)) (queue_alone (runnable_in st.runnables r).requests y.noted) ≡ true = λ r b. both_right (runnable_sound cfg r (runnable_in st.runnables r)) _ (each r b) in
      let operations : (o : ℕ) → o < 8 → operation_sound cfg o (operation_in st.operations o) ≡ true = λ o b. both_left (operation_sound cfg o (operation_in st.operations o)) _ (calls o b) in
      let counts : counts_sound st.runnables st.slots ≡ true = all-of _ 16 (λ r b. sym (count-is cfg st config slots runnables r b) ∙ both_left (eqb (runnable_in st.runnables r).instances (get_or y.instances r 0)) _ (behind r b)) in
      let areas : areas_sound cfg st.areas st.slots ≡ true = all-of _ 16 (λ a b. sym (area-is cfg st config slots runnables a b) ∙ all-at _ 16 t.1.1.1.1.1.0 a b) in
      let queued : all_below (queued_sound st.runnables st.slots) 16 ≡ true = all-of _ 16 (λ r b. sym (queue-is cfg st config slots runnables r b) ∙ both_right (eqb (runnable_in st.runnables r).instances (get_or y.instances r 0)) _ (behind r b)) in
      let served : all_below (served_sound st.runnables st.slots) 32 ≡ true = sym (noted-is cfg st config slots runnables queued) ∙ t.1.1.1.1.1.1.0 in
      let waits : (o : ℕ) → o < 8 → both (waiter_tallied cfg (get_or y.waiters o 0) o (operation_in st.operations o)) (either (not (operation_in st.operations o).calling) (eqb (clients_with (queue_of cfg st.runnables o) y.noted o (operation_in st.operations o).number) 1)) ≡ true = λ o b. both_right (operation_sound cfg o (operation_in st.operations o)) _ (calls o b) in
      let called : all_below (called_sound st.operations st.runnables st.slots) 8 ≡ true = all-of _ 8 (λ o b. sym (called_is cfg st config slots runnables o (operations o b)) ∙ both_right (waiter_tallied cfg (get_or y.waiters o 0) o (operation_in st.operations o)) _ (waits o b)) in
      let waiters : waiters_sound cfg st.operations st.slots ≡ true = all-of _ 8 (λ o b. sym (waiter-is cfg st config slots runnables o b) ∙ both_left (waiter_tallied cfg (get_or y.waiters o 0) o (operation_in st.operations o)) _ (waits o b)) in
      all_made _ (config, (long, (runnables, (t.1.0, (t.1.1.0, (all-of _ 8 operations, (t.1.1.1.1.0, (slots, (counts, (areas, (both-make _ _ queued (both-make _ _ served called), (waiters, (incoming, (outgoing, tt))))))))))))))

  -- and what is sound passes it
  sound-walks : sound_of cfg st ≡ true → whole_test cfg st ≡ true
  unfolding whole_test sound_of runnables_tallied runnable_tallied operations_tallied operation_tallied areas_tallied runnables_sound operations_sound counts_sound areas_sound clients_sound waiters_sound
  sound-walks h =
      let t = all_told _ h in
      let y = tally_of st.slots 32 in
      let runnables : runnables_sound cfg st.runnables ≡ true = t.1.1.0 in
      let operations : operations_sound cfg st.operations ≡ true = t.1.1.1.1.1.0 in
      let slots : slots_sound cfg st.slots ≡ true = t.1.1.1.1.1.1.1.0 in
      let copies = t.1.1.1.1.1.1.1.1.1.1.1.1 in
      let slots-walked : walked ≡ true = walked-is cfg st.slots st.incoming st.outgoing ∙ both-make _ _ slots (both-make _ _ copies.0 copies.1.0) in
      let clients : clients_sound st.operations st.runnables st.slots ≡ true = t.1.1.1.1.1.1.1.1.1.1.0 in
      let queued = both_left (all_below (queued_sound st.runnables st.slots) 16) _ clients in
      let served = both_left (all_below (served_sound st.runnables st.slots) 32) _ (both_right (all_below (queued_sound st.runnables st.slots) 16) _ clients) in
      let called = both_right (all_below (served_sound st.runnables st.slots) 32) _ (both_right (all_below (queued_sound st.runnables st.slots) 16) _ clients) in
      let each : (r : ℕ) → r < 16 → runnable_tallied cfg y.noted (get_or y.instances r 0) r (runnable_in st.runnables r) ≡ true = λ r b. both-make _ _ (all-at _ 16 runnables r b) (both-make _ _ (count-is cfg st config slots runnables r b ∙ all-at _ 16 t.1.1.1.1.1.1.1.1.0 r b) (queue-is cfg st config slots runnables r b ∙ all-at _ 16 queued r b)) in
      let calls : (o : ℕ) → o < 8 → operation_tallied cfg st.runnables y.noted (get_or y.waiters o 0) o (operation_in st.operations o) ≡ true = λ o b. both-make _ _ (all-at _ 8 operations o b) (both-make _ _ (waiter-is cfg st config slots runnables o b ∙ all-at _ 8 t.1.1.1.1.1.1.1.1.1.1.1.0 o b) (called_is cfg st config slots runnables o (all-at _ 8 operations o b) ∙ all-at _ 8 called o b)) in
      let areas : areas_tallied cfg.areas.n y.held st.areas ≡ true = all-of _ 16 (λ a b. area-is cfg st config slots runnables a b ∙ all-at _ 16 t.1.1.1.1.1.1.1.1.1.0 a b) in
      both-make _ _ slots-walked (all_made _ (all-of _ 16 each, (t.1.1.1.0, (t.1.1.1.1.0, (all-of _ 8 calls, (t.1.1.1.1.1.1.0, (areas, (noted-is cfg st config slots runnables queued ∙ served, tt))))))))

  whole_is : whole_test cfg st ≡ sound_of cfg st
  whole_is = alike_both (whole_test cfg st) (sound_of cfg st) walk-sound sound-walks

  -- from what the walk comes to: the rest decides, or a slot has
  pub rest-is : (w : Walked) → w ≡ walk_of cfg st.slots st.incoming st.outgoing → w.sound ≡ true → all_of (rest_tests cfg st w.tally) ≡ sound_of cfg st
  unfolding walk_of whole_test
  rest-is w e s =
      let h : walked ≡ true = sym (ap (λ (x : Walked). x.sound) e) ∙ s in
      let t : w.tally ≡ tally_of st.slots 32 = ap (λ (x : Walked). x.tally) e ∙ ap (λ (b : Bool). pick b (tally_of st.slots 32) no_tally) h in
      ap (λ (y : Tally). all_of (rest_tests cfg st y)) t ∙ (rw h at whole_is)

  pub slot-fails : (w : Walked) → w ≡ walk_of cfg st.slots st.incoming st.outgoing → w.sound ≡ false → sound_of cfg st ≡ false
  unfolding walk_of whole_test
  slot-fails w e s =
      let h : walked ≡ false = sym (ap (λ (x : Walked). x.sound) e) ∙ s in
      sym whole_is ∙ rw h
