-- What a sound configuration tells: how many parts, what the parts in use name and how they pair, and that places not in use are blank.
-- Assumes nothing.
use Prim.Native.Nat.{ℕ, ◌+◌, ◌*◌, ◌≤◌, ◌<◌}
use mathlib.Core.Bool.{Bool, true, false, not}
use mathlib.Core.Path.{◌≡◌, refl, ap}
use native.Mathlib.Decide.{dec_lt}
use native.Mathlib.Omega.{arith}
use lib.Dec.{ltb, leb, eqb}
use borrow.Author.Tests.{ltb-true, leb-true, eqb-true, not-true, lt-leb}
use Rattle.numbers.specs.Tags.{part_kinds}
use Rattle.laws.specs.Choice.{alike, bit}
use Rattle.laws.proofs.Choosing.{clash, both_left, both_right, either-right, alike_is}
use Rattle.laws.proofs.Places.{past}
use Rattle.faces.specs.Types.{Config, RunnableConf, RequiredConf}
use Rattle.config.specs.Tables.{no_runnable_conf, no_required_conf, runnable_conf_in, required_conf_in, provided_conf_in, link_in, operation_conf_in, timer_conf_in, data_event_in, return_event_in, listed_in}
use Rattle.entries.specs.Entries.{max_of, count_of, places_of, entry_of, flags_of}
use Rattle.entries.specs.Faults.{lists_well, in_range, names_there, is_server, is_queued, pairs_well, config_sound}
use Rattle.config.specs.Table.{part_in}
use Rattle.entries.proofs.Kind.{Well, fault-told, Blank, blank-told, Kind, config-told}

-- ---- any kind, by its tag

module _ (cfg : Config) (h : config_sound cfg ≡ true) where
  kind : (j : ℕ) → j < part_kinds → Kind cfg (0x10 + j)
  kind j l = config-told cfg h (0x10 + j) (omega arith) (omega arith)

  -- a part in use, and a place not in use
  used : (j : ℕ) → j < part_kinds → (i : ℕ) → i < count_of cfg (0x10 + j) → Well cfg (0x10 + j) i (entry_of cfg (0x10 + j) i)
  used j l i b = fault-told cfg (0x10 + j) i (entry_of cfg (0x10 + j) i) ((kind j l).used i b)

  unused : (j : ℕ) → j < part_kinds → (i : ℕ) → i < max_of (0x10 + j) → count_of cfg (0x10 + j) ≤ i → Blank (entry_of cfg (0x10 + j) i)
  unused j l i m b = blank-told (entry_of cfg (0x10 + j) i) ((kind j l).blank i m b)

  -- ---- how many there are

  pub runnables-most : cfg.runnables.n ≤ 16
  unfolding count_of max_of
  runnables-most = (kind 0 (omega arith)).room

  pub areas-most : cfg.areas.n ≤ 16
  unfolding count_of max_of
  areas-most = (kind 2 (omega arith)).room

  pub required-most : cfg.required.n ≤ 16
  unfolding count_of max_of
  required-most = (kind 3 (omega arith)).room

  pub operations-most : cfg.operations.n ≤ 8
  unfolding count_of max_of
  operations-most = (kind 6 (omega arith)).room

  pub timers-most : cfg.timers.n ≤ 8
  unfolding count_of max_of
  timers-most = (kind 7 (omega arith)).room

  -- ---- runnables

  -- in use: neither the init flag nor counting on a server, and a capacity that a queue has room for
  runnable-well : (r : ℕ) → r < cfg.runnables.n → Well cfg 0x10 r (entry_of cfg 0x10 r)
  unfolding count_of
  runnable-well = used 0 (omega arith)

  -- not in use: every field is blank
  pub runnable-blank : (r : ℕ) → cfg.runnables.n ≤ r → runnable_conf_in cfg.runnables r ≡ no_runnable_conf
  unfolding count_of max_of entry_of places_of part_in
  runnable-blank r l = go (dec_lt r 16)
    where
      flags : (x : RunnableConf) → x.component ≡ 0 → flags_of x ≡ 0 → x.capacity ≡ 0 → x.interval ≡ 0 → x ≡ no_runnable_conf
      flags x a b c d = off x.concurrent x.init x.counting refl refl refl b
        where
          off : (p q k : Bool) → x.concurrent ≡ p → x.init ≡ q → x.counting ≡ k → bit p + 2 * bit q + 4 * bit k ≡ 0 → x ≡ no_runnable_conf
          off false false false e g h z = λ i. record { component = a i; concurrent = e i; init = g i; counting = h i; interval = d i; capacity = c i }
          off false false true e g h z = absurd (omega (arith, z))
          off false true k e g h z = absurd (omega (arith, z))
          off true q k e g h z = absurd (omega (arith, z))

      go : Dec (r < 16) → runnable_conf_in cfg.runnables r ≡ no_runnable_conf
      go (yes b) = let z = unused 0 (omega arith) r b l in flags (runnable_conf_in cfg.runnables r) z.first z.second z.third z.number
      go (no b) = past cfg.runnables.at r 16 no_runnable_conf (kind 0 (omega arith)).places (omega (arith, b))

  pub capacity-most : (r : ℕ) → (runnable_conf_in cfg.runnables r).capacity ≤ 16
  unfolding in_range entry_of
  capacity-most r = go (dec_lt r cfg.runnables.n)
    where
      go : Dec (r < cfg.runnables.n) → (runnable_conf_in cfg.runnables r).capacity ≤ 16
      go (yes b) =
          let w = (runnable-well r b).range in
          leb-true _ 16 (both_right (leb (runnable_conf_in cfg.runnables r).interval 3600000) _ (both_right (leb (flags_of (runnable_conf_in cfg.runnables r)) 7) _ (both_right (leb (runnable_conf_in cfg.runnables r).component 15) _ w)))
      go (no b) = omega (arith, ap (λ (x : RunnableConf). x.capacity) (runnable-blank r (omega (arith, b))))

  -- a server, and a runnable with the init flag, are there
  pub server-there : (r : ℕ) → is_server cfg r ≡ true → r < cfg.runnables.n
  unfolding is_server
  server-there r s = go (dec_lt r cfg.runnables.n)
    where
      go : Dec (r < cfg.runnables.n) → r < cfg.runnables.n
      go (yes b) = b
      go (no b) = absurd (clash (ltb 0 (runnable_conf_in cfg.runnables r).capacity) s (rw (runnable-blank r (omega (arith, b)))))

  pub init-there : (r : ℕ) → (runnable_conf_in cfg.runnables r).init ≡ true → r < cfg.runnables.n
  init-there r s = go (dec_lt r cfg.runnables.n)
    where
      go : Dec (r < cfg.runnables.n) → r < cfg.runnables.n
      go (yes b) = b
      go (no b) = absurd (clash (runnable_conf_in cfg.runnables r).init s (rw (runnable-blank r (omega (arith, b)))))

  -- the init flag stands on no server
  pub init-plain : (r : ℕ) → (runnable_conf_in cfg.runnables r).init ≡ true → is_server cfg r ≡ false
  unfolding pairs_well entry_of is_server
  init-plain r s =
      let w = (runnable-well r (init-there r s)).pairs in
      let c = runnable_conf_in cfg.runnables r in
      let two : leb (flags_of c) 1 ≡ false = rw s (lt-leb (bit c.concurrent + 2 + 4 * bit c.counting) 1 (omega arith)) in
      let z : c.capacity ≡ 0 = eqb-true _ 0 (either-right _ _ w two) in
      rw z

  -- ---- required elements

  pub required-blank : (q : ℕ) → cfg.required.n ≤ q → required_conf_in cfg.required q ≡ no_required_conf
  unfolding count_of max_of entry_of places_of part_in
  required-blank q l = go (dec_lt q 16)
    where
      go : Dec (q < 16) → required_conf_in cfg.required q ≡ no_required_conf
      go (yes b) = let z = unused 3 (omega arith) q b l in λ i. record { component = z.first i; capacity = z.second i }
      go (no b) = past cfg.required.at q 16 no_required_conf (kind 3 (omega arith)).places (omega (arith, b))

  pub length_most : (q : ℕ) → (required_conf_in cfg.required q).capacity ≤ 16
  unfolding in_range entry_of count_of
  length_most q = go (dec_lt q cfg.required.n)
    where
      go : Dec (q < cfg.required.n) → (required_conf_in cfg.required q).capacity ≤ 16
      go (yes b) = leb-true _ 16 (both_right (leb (required_conf_in cfg.required q).component 15) _ (used 3 (omega arith) q b).range)
      go (no b) = omega (arith, ap (λ (x : RequiredConf). x.capacity) (required-blank q (omega (arith, b))))

  -- ---- links: both ends are there, and of one kind

  pub link-alike : (l : ℕ) → l < cfg.links.n → (provided_conf_in cfg.provided (link_in cfg.links l).provided).queued ≡ is_queued cfg (link_in cfg.links l).required
  unfolding pairs_well entry_of count_of
  link-alike l b =
      alike_is (provided_conf_in cfg.provided (link_in cfg.links l).provided).queued (is_queued cfg (link_in cfg.links l).required)
      (both_left (alike (provided_conf_in cfg.provided (link_in cfg.links l).provided).queued (is_queued cfg (link_in cfg.links l).required)) _ (used 5 (omega arith) l b).pairs)

  -- ---- operations: each stands on a server that is there

  pub operation-there : (o : ℕ) → o < cfg.operations.n → (operation_conf_in cfg.operations o).server < cfg.runnables.n
  unfolding names_there entry_of count_of
  operation-there o b = ltb-true _ _ (used 6 (omega arith) o b).names

  -- ---- timers and events: each stands on a plain runnable that is there

  pub timer-there : (t : ℕ) → t < cfg.timers.n → (timer_conf_in cfg.timers t).runnable < cfg.runnables.n
  unfolding names_there entry_of count_of
  timer-there t b = ltb-true _ _ (used 7 (omega arith) t b).names

  pub timer-plain : (t : ℕ) → t < cfg.timers.n → is_server cfg (timer_conf_in cfg.timers t).runnable ≡ false
  unfolding pairs_well entry_of count_of
  timer-plain t b = not-true _ (used 7 (omega arith) t b).pairs

  pub devent-plain : (e : ℕ) → e < cfg.devents.n → is_server cfg (data_event_in cfg.devents e).runnable ≡ false
  unfolding pairs_well entry_of count_of
  devent-plain e b = not-true _ (both_left (not (is_server cfg (data_event_in cfg.devents e).runnable)) _ (used 8 (omega arith) e b).pairs)

  pub revent-plain : (e : ℕ) → e < cfg.revents.n → is_server cfg (return_event_in cfg.revents e).runnable ≡ false
  unfolding pairs_well entry_of count_of
  revent-plain e b = not-true _ (both_left (not (is_server cfg (return_event_in cfg.revents e).runnable)) _ (used 9 (omega arith) e b).pairs)

  -- ---- listed elements: each is there, unqueued, and of its runnable's component

  pub incoming-there : (k : ℕ) → k < cfg.incoming.n → (listed_in cfg.incoming k).element < cfg.required.n
  unfolding names_there entry_of count_of
  incoming-there k b = ltb-true _ _ (both_right (ltb (listed_in cfg.incoming k).runnable cfg.runnables.n) _ (used 10 (omega arith) k b).names)

  pub incoming-unqueued : (k : ℕ) → k < cfg.incoming.n → (required_conf_in cfg.required (listed_in cfg.incoming k).element).capacity ≡ 0
  unfolding pairs_well lists_well entry_of count_of
  incoming-unqueued k b =
      let w = both_left (lists_well cfg (listed_in cfg.incoming k).runnable (entry_of cfg 0x13 (listed_in cfg.incoming k).element)) _ (used 10 (omega arith) k b).pairs in
      eqb-true _ 0 (both_right (eqb (required_conf_in cfg.required (listed_in cfg.incoming k).element).component _) _ (both_right (not (is_server cfg (listed_in cfg.incoming k).runnable)) _ w))

  pub outgoing-unqueued : (k : ℕ) → k < cfg.outgoing.n → (provided_conf_in cfg.provided (listed_in cfg.outgoing k).element).queued ≡ false
  unfolding pairs_well lists_well entry_of count_of
  outgoing-unqueued k b =
      let w = both_left (lists_well cfg (listed_in cfg.outgoing k).runnable (entry_of cfg 0x14 (listed_in cfg.outgoing k).element)) _ (used 11 (omega arith) k b).pairs in
      none (provided_conf_in cfg.provided (listed_in cfg.outgoing k).element).queued (eqb-true _ 0 (both_right (eqb (provided_conf_in cfg.provided (listed_in cfg.outgoing k).element).component _) _ (both_right (not (is_server cfg (listed_in cfg.outgoing k).runnable)) _ w)))
    where
      none : (b : Bool) → bit b ≡ 0 → b ≡ false
      none true h = absurd (omega (arith, h))
      none false h = refl
