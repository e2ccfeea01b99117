-- Every runnable stays sound: its interval, its count without the concurrent flag, how many activations are pending, and its queue of requests.
-- Assumes nothing.
use Prim.Native.Nat.{ℕ, ◌+◌, ◌-◌, ◌≤◌, ◌<◌}
use mathlib.Core.Bool.{Bool, true, false}
use mathlib.Core.Path.{◌≡◌, refl, sym, ◌∙◌, ap}
use native.Mathlib.Nat.{mod-eq_of_lt}
use native.Mathlib.Omega.{arith}
use lib.Dec.{leb, eqb}
use lib.ListN.{get_or}
use borrow.Author.Tests.{ltb-true, leb-true, eqb-true, lt-ltb, le-leb, eq-eqb}
use Rattle.laws.specs.Choice.{pick, both, either}
use Rattle.laws.specs.Row.{each_below, filled}
use Rattle.laws.proofs.Choosing.{clash, both_left, both_right, both-make, all_told, all_made, pick-has}
use Rattle.laws.proofs.Looping.{all-at, any-find}
use Rattle.laws.proofs.Places.{all-put, all-each, filled-good, filled-push, filled_shift}
use Rattle.values.specs.Values.{timeout_v, is_void}
use Rattle.faces.specs.Types.{Value, Config, RunnableConf, Client, Requests, Runnable, Runnables, Elements, Copies, State}
use Rattle.config.specs.Tables.{max_runnable_confs, runnable_conf_in, operation_conf_in, timer_conf_in, data_event_in, return_event_in, top_of}
use Rattle.config.specs.Lists.{element_at}
use Rattle.entries.specs.Faults.{is_server, config_sound}
use Rattle.state.specs.Parts.{no_client, no_runnable, max_requests}
use Rattle.state.specs.Queues.{up_one, push_request, first_request, rest_requests, oldest, pushed, without_oldest}
use Rattle.state.specs.Fields.{with_pending, with_requests}
use Rattle.state.specs.Tables.{runnable_in, operation_in, slot_in, with_runnable}
use Rattle.rules.specs.Sound.{is_no_client, client_fits, requests_sound, most_pending, runnable_sound, runnables_sound}
use Rattle.effects.specs.Steps.{is_given, is_given_to, given_runnables, hands_on, handed_runnables, one_more, woken, feeds, is_fed, fed_runnables, fed, asking, called, returns, is_returned, returned_runnables, closed, handed_back, answered, leaving, emptied, is_due, begun, starting, lowest_empty, spawned, ticked, runnable_after, runnables_after, waited}
use Rattle.effects.proofs.Pending.{more-fits}
use Rattle.stays_sound.specs.Facts.{Sound, CanFeed, CanCall, CanHandBack, CanEnd, CanSpawn, CanTimeout, CanTick, CanWait}
use Rattle.stays_sound.proofs.Instances.{instance-at, life-there}
use Rattle.state.specs.Places.{place_in, with_place}
use Rattle.rules.proofs.Configured.{runnables-most, capacity-most, operation-there, timer-there, timer-plain, devent-plain, revent-plain}

-- ---- a queue of requests

module _ (cfg : Config) (r : ℕ) (q : Requests) (h : requests_sound cfg r q ≡ true) where
  pub requests-most : q.queued ≤ (runnable_conf_in cfg.runnables r).capacity
  unfolding requests_sound
  requests-most = leb-true _ _ (both_left (leb q.queued (runnable_conf_in cfg.runnables r).capacity) _ h)

  pub requests-filled : filled (client_fits cfg r) is_no_client no_client max_requests q.queued q.at ≡ true
  unfolding requests_sound
  requests-filled = both_right (leb q.queued (runnable_conf_in cfg.runnables r).capacity) _ h

  -- one more request, where there is room
  push-sound : (c : Client) → config_sound cfg ≡ true → q.queued < (runnable_conf_in cfg.runnables r).capacity → client_fits cfg r c ≡ true → requests_sound cfg r (push_request q c) ≡ true
  unfolding requests_sound pushed
  push-sound c k b g =
      let m = capacity-most cfg k r in
      let e : up_one q.queued ≡ q.queued + 1 = mod-eq_of_lt (omega arith) in
      rw e
      (both-make _ _ (le-leb (q.queued + 1) _ (omega arith)) (filled-push (client_fits cfg r) is_no_client no_client max_requests q.queued q.at c (omega arith) g requests-filled))

  -- the oldest taken
  rest-sound : config_sound cfg ≡ true → 0 < q.queued → requests_sound cfg r (rest_requests q) ≡ true
  unfolding requests_sound without_oldest is_no_client is_void
  rest-sound k p =
      let m = capacity-most cfg k r in
      let n = requests-most in
      let e : q.queued ≡ (q.queued - 1) + 1 = omega arith in
      both-make _ _ (le-leb (q.queued - 1) _ (omega arith))
      (filled_shift (client_fits cfg r) is_no_client no_client max_requests (q.queued - 1) q.at refl (omega arith)
      (ap (λ (n : ℕ). filled (client_fits cfg r) is_no_client no_client max_requests n q.at) (sym e) ∙ requests-filled))

  -- the oldest is a client of the server
  pub first_fits : config_sound cfg ≡ true → 0 < q.queued → client_fits cfg r (first_request q) ≡ true
  unfolding oldest
  first_fits k p = filled-good (client_fits cfg r) is_no_client no_client max_requests q.queued q.at requests-filled 0 (omega arith) p

-- ---- one runnable

-- its tests as facts
pub record Sits (cfg : Config) (r : ℕ) (x : Runnable) : Type 0 where
  pub interval : leb x.interval (runnable_conf_in cfg.runnables r).interval ≡ true
  pub alone : either (runnable_conf_in cfg.runnables r).concurrent (leb x.instances 1) ≡ true
  pub pending : leb x.pending (most_pending cfg r) ≡ true
  pub requests : requests_sound cfg r x.requests ≡ true

pub sits-told : (cfg : Config) (r : ℕ) (x : Runnable) → runnable_sound cfg r x ≡ true → Sits cfg r x
unfolding runnable_sound
sits-told cfg r x h = let t = all_told _ h in record { interval = t.0; alone = t.1.0; pending = t.1.1.0; requests = t.1.1.1.0 }

pub sits-made : (cfg : Config) (r : ℕ) (x : Runnable) → Sits cfg r x → runnable_sound cfg r x ≡ true
unfolding runnable_sound
sits-made cfg r x h = all_made _ (h.interval, (h.alone, (h.pending, (h.requests, tt))))

-- a plain runnable that is there has activations pending up to its top
pub most-plain : (cfg : Config) (r : ℕ) → r < cfg.runnables.n → is_server cfg r ≡ false → most_pending cfg r ≡ top_of (runnable_conf_in cfg.runnables r)
unfolding most_pending
most-plain cfg r b p = rw (lt-ltb r cfg.runnables.n b, p)

-- one more of them keeps to that
woken-sound : (cfg : Config) (r : ℕ) (x : Runnable) → r < cfg.runnables.n → is_server cfg r ≡ false → runnable_sound cfg r x ≡ true
    → runnable_sound cfg r (woken (runnable_conf_in cfg.runnables r) x) ≡ true
woken-sound cfg r x b p h =
    let t = sits-told cfg r x h in
    let c = runnable_conf_in cfg.runnables r in
    let m = most-plain cfg r b p in
    let f = more-fits (top_of c) x.pending (leb-true x.pending (top_of c) (rw m at t.pending)) in
    sits-made cfg r (woken c x) (record { interval = t.interval; alone = t.alone; pending = rw m (le-leb (one_more (top_of c) x.pending) (top_of c) f); requests = t.requests })

-- ---- the table

pub runnables-put : (cfg : Config) (rs : Runnables) (r : ℕ) (x : Runnable) → runnables_sound cfg rs ≡ true → runnable_sound cfg r x ≡ true → runnables_sound cfg (with_runnable rs r x) ≡ true
unfolding runnables_sound place_in with_place
runnables-put cfg rs r x h q = all-put (λ k y. runnable_sound cfg k y) rs.at r max_runnable_confs x no_runnable h q

pub runnable-at : (cfg : Config) (rs : Runnables) → runnables_sound cfg rs ≡ true → (r : ℕ) → r < max_runnable_confs → runnable_sound cfg r (runnable_in rs r) ≡ true
unfolding runnables_sound
runnable-at cfg rs h = all-at (λ (r : ℕ). runnable_sound cfg r (runnable_in rs r)) max_runnable_confs h

-- each of the runnables that are there, changed by f
runnables-each : (cfg : Config) (f : ℕ → Runnable → Runnable) (rs : Runnables) → ((r : ℕ) (x : Runnable) → r < cfg.runnables.n → runnable_sound cfg r x ≡ true → runnable_sound cfg r (f r x) ≡ true)
    → runnables_sound cfg rs ≡ true → runnables_sound cfg (record { at = each_below f no_runnable cfg.runnables.n rs.at }) ≡ true
unfolding runnables_sound place_in
runnables-each cfg f rs g h = all-each f no_runnable (λ k y. runnable_sound cfg k y) cfg.runnables.n max_runnable_confs rs.at h (λ k b c q. g k (get_or rs.at k no_runnable) c q)

-- ---- events

module _ (cfg : Config) (h : config_sound cfg ≡ true) where
  fed-plain : (t : Elements) (p r : ℕ) → is_fed cfg t p r ≡ true → is_server cfg r ≡ false
  unfolding is_fed feeds
  fed-plain t p r e =
      let f = any-find (feeds cfg t p r) cfg.devents.n e in
      let i = eqb-true _ r (both_left (eqb (data_event_in cfg.devents f.0).runnable r) _ f.2) in
      rw i at (devent-plain cfg h f.0 f.1)

  returned-plain : (o r : ℕ) → is_returned cfg o r ≡ true → is_server cfg r ≡ false
  unfolding is_returned returns
  returned-plain o r e =
      let f = any-find (returns cfg o r) cfg.revents.n e in
      let i = eqb-true _ r (both_left (eqb (return_event_in cfg.revents f.0).runnable r) _ f.2) in
      rw i at (revent-plain cfg h f.0 f.1)

  -- data events
  pub fed-sound : (t : Elements) (p : ℕ) (rs : Runnables) → runnables_sound cfg rs ≡ true → runnables_sound cfg (fed_runnables cfg t p rs) ≡ true
  unfolding fed_runnables
  fed-sound t p rs g =
      runnables-each cfg (λ (r : ℕ) (x : Runnable). pick (is_fed cfg t p r) (woken (runnable_conf_in cfg.runnables r) x) x) rs
      (λ r x b q. pick-has (λ y. runnable_sound cfg r y ≡ true) (is_fed cfg t p r) (woken (runnable_conf_in cfg.runnables r) x) x (λ e. woken-sound cfg r x b (fed-plain t p r e) q) (λ e. q)) g

  -- data events of what an instance has set
  given-plain : (t : Elements) (r : ℕ) (c : Copies) (k : ℕ) → is_given_to cfg t r c k ≡ true → is_server cfg k ≡ false
  unfolding is_given_to
  given-plain t r c k e =
      let f = any-find (λ (j : ℕ). both (is_given cfg.outgoing r c j) (is_fed cfg t (element_at cfg.outgoing r j) k)) 4 e in
      fed-plain t (element_at cfg.outgoing r f.0) k (both_right (is_given cfg.outgoing r c f.0) _ f.2)

  pub given-sound : (t : Elements) (r : ℕ) (c : Copies) (rs : Runnables) → runnables_sound cfg rs ≡ true → runnables_sound cfg (given_runnables cfg t r c rs) ≡ true
  unfolding given_runnables
  given-sound t r c rs g =
      runnables-each cfg (λ (k : ℕ) (x : Runnable). pick (is_given_to cfg t r c k) (woken (runnable_conf_in cfg.runnables k) x) x) rs
      (λ k x b q. pick-has (λ y. runnable_sound cfg k y ≡ true) (is_given_to cfg t r c k) (woken (runnable_conf_in cfg.runnables k) x) x (λ e. woken-sound cfg k x b (given-plain t r c k e) q) (λ e. q)) g

  -- return events
  pub returned-sound : (o : ℕ) (rs : Runnables) → runnables_sound cfg rs ≡ true → runnables_sound cfg (returned_runnables cfg o rs) ≡ true
  unfolding returned_runnables
  returned-sound o rs g =
      runnables-each cfg (λ (r : ℕ) (x : Runnable). pick (is_returned cfg o r) (woken (runnable_conf_in cfg.runnables r) x) x) rs
      (λ r x b q. pick-has (λ y. runnable_sound cfg r y ≡ true) (is_returned cfg o r) (woken (runnable_conf_in cfg.runnables r) x) x (λ e. woken-sound cfg r x b (returned-plain o r e) q) (λ e. q)) g

-- ---- step by step

module _ (cfg : Config) (st : State) (s : Sound cfg st) where
  -- a runnable that is there
  pub sits-at : (r : ℕ) → r < cfg.runnables.n → Sits cfg r (runnable_in st.runnables r)
  sits-at r b = sits-told cfg r (runnable_in st.runnables r) (runnable-at cfg st.runnables s.runnables r (omega (arith, runnables-most cfg s.config)))

module _ (cfg : Config) (st : State) where
  pub feed-keeps-runnables : (i p : ℕ) (v : Value) → Sound cfg st → CanFeed cfg st i p v → runnables_sound cfg (fed cfg st p v).runnables ≡ true
  unfolding fed
  feed-keeps-runnables i p v s z = fed-sound cfg s.config st.elements p st.runnables s.runnables

  pub hand-on-keeps-runnables : (i : ℕ) → Sound cfg st → runnables_sound cfg (handed_runnables cfg st i) ≡ true
  unfolding handed_runnables
  hand-on-keeps-runnables i s = pick-has (λ (y : Runnables). runnables_sound cfg y ≡ true) (hands_on cfg st i) _ st.runnables (λ _. given-sound cfg s.config st.elements _ _ st.runnables s.runnables) (λ _. s.runnables)

  pub call-keeps-runnables : (i o : ℕ) (v : Value) → Sound cfg st → CanCall cfg st i o v → runnables_sound cfg (called cfg st i o v).runnables ≡ true
  unfolding called client_fits
  call-keeps-runnables i o v s z =
      let r = (operation_conf_in cfg.operations o).server in
      let c : Client = record { operation = o; number = (operation_in st.operations o).number; argument = v } in
      let x = runnable_in st.runnables r in
      let t = sits-at cfg st s r (operation-there cfg s.config o z.inside) in
      let fits : client_fits cfg r c ≡ true = both-make _ _ (lt-ltb o cfg.operations.n z.inside) (both-make _ _ (eq-eqb r r refl) z.payload) in
      runnables-put cfg st.runnables r (asking x c) s.runnables
      (sits-made cfg r (asking x c) (record { interval = t.interval; alone = t.alone; pending = t.pending; requests = push-sound cfg r x.requests t.requests c s.config z.room fits }))

  pub answer-keeps-runnables : (i : ℕ) (v : Value) → Sound cfg st → CanHandBack cfg st i v → runnables_sound cfg (answered cfg st i (handed_back st i v)).runnables ≡ true
  unfolding closed
  answer-keeps-runnables i v s z = returned-sound cfg s.config (slot_in st.slots i).owed.client.operation st.runnables s.runnables

  pub timeout-keeps-runnables : (o : ℕ) → Sound cfg st → CanTimeout cfg st o → runnables_sound cfg (closed cfg st o timeout_v).runnables ≡ true
  unfolding closed
  timeout-keeps-runnables o s z = returned-sound cfg s.config o st.runnables s.runnables

  pub end-keeps-runnables : (i : ℕ) → Sound cfg st → CanEnd st i → runnables_sound cfg (emptied st i).runnables ≡ true
  end-keeps-runnables i s z =
      let r = (slot_in st.slots i).life.runnable in
      let x = runnable_in st.runnables r in
      let t = sits-at cfg st s r (life-there cfg (slot_in st.slots i).life (instance-at cfg st s i z.there.used).life) in
      runnables-put cfg st.runnables r (leaving x) s.runnables
      (sits-made cfg r (leaving x) (record { interval = t.interval; alone = fewer (runnable_conf_in cfg.runnables r).concurrent x.instances t.alone; pending = t.pending; requests = t.requests }))
    where
      fewer : (b : Bool) (n : ℕ) → either b (leb n 1) ≡ true → either b (leb (n - 1) 1) ≡ true
      fewer true n h = refl
      fewer false n h = le-leb (n - 1) 1 (omega (arith, leb-true n 1 h))

  pub spawn-keeps-runnables : (r : ℕ) → Sound cfg st → CanSpawn cfg st r → runnables_sound cfg (spawned cfg st r (lowest_empty st.slots)).runnables ≡ true
  unfolding spawned starting is_due
  spawn-keeps-runnables r s z = go (eqb c.capacity 0) refl
    where
      c : RunnableConf
      c = runnable_conf_in cfg.runnables r

      x : Runnable
      x = runnable_in st.runnables r

      t : Sits cfg r x
      t = sits-at cfg st s r z.inside

      -- one instance more, where there was none or the flag is on
      more : (b : Bool) (n : ℕ) → either (eqb n 0) b ≡ true → either b (leb (up_one n) 1) ≡ true
      more true n h = refl
      more false n h = one (eqb n 0) refl h
        where
          one : (a : Bool) → eqb n 0 ≡ a → either a false ≡ true → leb (up_one n) 1 ≡ true
          one true e g = rw (eqb-true n 0 e)
          one false e g = absurd (clash false g refl)

      alone : either c.concurrent (leb (up_one x.instances) 1) ≡ true
      alone = more c.concurrent x.instances z.alone

      fewer : leb (x.pending - 1) (most_pending cfg r) ≡ true
      fewer = le-leb (x.pending - 1) (most_pending cfg r) (omega (arith, leb-true x.pending (most_pending cfg r) t.pending))

      due : eqb c.capacity 0 ≡ false → 0 < x.requests.queued
      due e = ltb-true 0 _ (rw e at z.due)

      go : (b : Bool) → eqb c.capacity 0 ≡ b
          → runnables_sound cfg (with_runnable st.runnables r
          (pick b (with_pending (begun c x) (x.pending - 1))
          (with_requests (begun c x) (rest_requests x.requests)))) ≡ true
      go true e =
          runnables-put cfg st.runnables r _ s.runnables
          (sits-made cfg r _ (record { interval = le-leb c.interval c.interval (omega arith); alone = alone; pending = fewer; requests = t.requests }))
      go false e =
          runnables-put cfg st.runnables r _ s.runnables
          (sits-made cfg r _ (record { interval = le-leb c.interval c.interval (omega arith); alone = alone; pending = t.pending; requests = rest-sound cfg r x.requests t.requests s.config (due e) }))

  pub tick-keeps-runnables : (t : ℕ) → Sound cfg st → CanTick cfg st t → runnables_sound cfg (ticked cfg st t).runnables ≡ true
  tick-keeps-runnables t s z =
      let r = (timer_conf_in cfg.timers t).runnable in
      let b = timer-there cfg s.config t z.inside in
      runnables-put cfg st.runnables r (woken (runnable_conf_in cfg.runnables r) (runnable_in st.runnables r)) s.runnables
      (woken-sound cfg r (runnable_in st.runnables r) b (timer-plain cfg s.config t z.inside) (runnable-at cfg st.runnables s.runnables r (omega (arith, runnables-most cfg s.config))))

  pub wait-keeps-runnables : (t : ℕ) → Sound cfg st → CanWait cfg st t → runnables_sound cfg (waited cfg st t).runnables ≡ true
  unfolding waited runnables_after
  wait-keeps-runnables t s z =
      runnables-each cfg (λ (r : ℕ) (x : Runnable). runnable_after t x) st.runnables
      (λ r x b q. let k = sits-told cfg r x q in
      sits-made cfg r (runnable_after t x)
      (record { interval = le-leb (runnable_after t x).interval _ (omega (arith, leb-true x.interval (runnable_conf_in cfg.runnables r).interval k.interval)); alone = k.alone; pending = k.pending; requests = k.requests }))
      s.runnables
