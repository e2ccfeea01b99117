-- The start state of a sound configuration is sound.
-- Assumes nothing.
use Prim.Native.Nat.{ℕ, ◌<◌}
use mathlib.Core.Bool.{Bool, true, false}
use mathlib.Core.Path.{◌≡◌, refl, sym, ◌∙◌, ap}
use native.Mathlib.Omega.{arith}
use lib.Dec.{ltb, leb, eqb}
use lib.ListN.{get_or, replicate, get_or-replicate}
use borrow.Author.Tests.{lt-ltb, le-leb}
use Rattle.laws.specs.Choice.{pick, both, bit}
use Rattle.laws.specs.Loop.{all_below}
use Rattle.laws.specs.Row.{place_filled, filled}
use Rattle.laws.proofs.Choosing.{clash, both-make, either-more, pick-has}
use Rattle.laws.proofs.Looping.{all-of, sum-none, sum-zero}
use Rattle.laws.proofs.Places.{each-length, each-has, all-each}
use Rattle.values.specs.Values.{number_v, never_received_v, is_void, is_payload}
use Rattle.faces.specs.Types.{Lists, Config, Runnable, Variable, Element, Slot}
use Rattle.config.specs.Tables.{max_runnable_confs, max_variable_confs, max_area_confs, max_required_confs, max_operation_confs, max_timer_confs, runnable_conf_in, variable_conf_in, required_conf_in, timer_conf_in, top_of}
use Rattle.entries.specs.Faults.{config_sound}
use Rattle.state.specs.Parts.{no_client, no_requests, no_runnable, no_variable, no_area, no_values, no_element, no_operation, no_timer, no_stack, no_slot, no_copies, max_requests}
use Rattle.state.specs.Tables.{max_slots, no_areas, no_operations, no_timers, no_slots, no_copied, runnable_in, area_in, operation_in, slot_in}
use Rattle.state.specs.Start.{start_runnable, start_variable, start_element, start_runnables, start_variables, start_elements, start_of, started}
use Rattle.rules.specs.Sound.{is_no_client, requests_sound, values_sound, most_pending, runnable_sound, variable_sound, is_stored, element_sound, is_outcome, done_sound, operation_sound, timer_sound, slot_sound, of_runnable, slots_of, times_in, holders, is_client, queued_as, served_as, clients_as, waits_on, waiters_of, runnables_sound, variables_sound, elements_sound, operations_sound, timers_sound, slots_sound, copies_sound, copied_sound, shaped, sound_of}
use Rattle.stays_sound.specs.Facts.{Counted, Held, Clients, Waiters, Sound}
use Rattle.rules.proofs.Configured.{init-there, init-plain}
use Rattle.effects.proofs.Pending.{top-some}
use Rattle.stays_sound.proofs.Told.{made, shape-made}
use Rattle.stays_sound.proofs.Runnables.{sits-made, most-plain}
use Rattle.stays_sound.proofs.Slots.{blank-slot}
use Rattle.state.specs.Places.{no_places, place_in}
use Rattle.stays_sound.proofs.Copies.{no-copies-blank, blank-sound}

-- a row of one part all along
same-all : {A : Type 0} (p : ℕ → A → Bool) (m : ℕ) (x : A) → ((k : ℕ) → p k x ≡ true) → all_below (λ (k : ℕ). p k (get_or (replicate m x) k x)) m ≡ true
same-all p m x h = all-of (λ (k : ℕ). p k (get_or (replicate m x) k x)) m (λ k l. rw (get_or-replicate m k x x l) (h k))

-- a choice between true and true
either_way : (b : Bool) → pick b true true ≡ true
either_way true = refl
either_way false = refl

module _ (cfg : Config) (h : config_sound cfg ≡ true) where
  -- ---- runnables

  no-requests-sound : (r : ℕ) → requests_sound cfg r no_requests ≡ true
  unfolding requests_sound filled place_filled all_below no_requests is_no_client is_void
  no-requests-sound r = both-make _ _ (le-leb 0 (runnable_conf_in cfg.runnables r).capacity (omega arith)) refl

  idle-sound : (r : ℕ) → runnable_sound cfg r no_runnable ≡ true
  unfolding no_runnable
  idle-sound r =
      sits-made cfg r _
      (record { interval = le-leb 0 (runnable_conf_in cfg.runnables r).interval (omega arith); alone = either-more (runnable_conf_in cfg.runnables r).concurrent true refl; pending = le-leb 0 (most_pending cfg r) (omega arith); requests = no-requests-sound r })

  -- under the init flag a runnable is plain and there
  started-sound : (r : ℕ) → runnable_sound cfg r (start_runnable (runnable_conf_in cfg.runnables r)) ≡ true
  started-sound r =
      sits-made cfg r _
      (record { interval = le-leb 0 (runnable_conf_in cfg.runnables r).interval (omega arith); alone = either-more (runnable_conf_in cfg.runnables r).concurrent true refl; pending = pends (runnable_conf_in cfg.runnables r).init refl; requests = no-requests-sound r })
    where
      pends : (b : Bool) → (runnable_conf_in cfg.runnables r).init ≡ b → leb (bit b) (most_pending cfg r) ≡ true
      pends true e = rw (most-plain cfg r (init-there cfg h r e) (init-plain cfg h r e)) (le-leb 1 (top_of (runnable_conf_in cfg.runnables r)) (top-some (runnable_conf_in cfg.runnables r)))
      pends false e = le-leb 0 (most_pending cfg r) (omega arith)

  start-runnables : runnables_sound cfg (start_runnables cfg.runnables) ≡ true
  unfolding runnables_sound place_in started no_places
  start-runnables =
      all-each (λ (k : ℕ) (x : Runnable). start_runnable (runnable_conf_in cfg.runnables k)) no_runnable (λ r y. runnable_sound cfg r y) cfg.runnables.n max_runnable_confs (replicate max_runnable_confs no_runnable)
      (same-all (λ r y. runnable_sound cfg r y) max_runnable_confs no_runnable idle-sound) (λ k b c q. started-sound k)

  -- what holds of the blank runnable and of each that starts
  start-each : (P : Runnable → Type 0) → P no_runnable → ((r : ℕ) → P (start_runnable (runnable_conf_in cfg.runnables r))) → (r : ℕ) → r < max_runnable_confs → P (runnable_in (start_runnables cfg.runnables) r)
  unfolding place_in started no_places
  start-each P a b r l =
      each-has (λ (k : ℕ) (x : Runnable). start_runnable (runnable_conf_in cfg.runnables k)) no_runnable (λ k y. P y) cfg.runnables.n (replicate max_runnable_confs no_runnable) r (λ c. b r)
      (rw (get_or-replicate max_runnable_confs r no_runnable no_runnable l) a)

  -- ---- variables

  start-variables : variables_sound cfg (start_variables cfg.variables) ≡ true
  unfolding variables_sound variable_sound place_in started start_variable no_places is_payload is_void
  start-variables =
      all-each (λ (k : ℕ) (x : Variable). start_variable (variable_conf_in cfg.variables k)) no_variable (λ v y. variable_sound cfg v y) cfg.variables.n max_variable_confs (replicate max_variable_confs no_variable)
      (same-all (λ v y. variable_sound cfg v y) max_variable_confs no_variable (λ v. either_way (ltb v cfg.variables.n)))
      (λ v b c q. rw (lt-ltb v cfg.variables.n c) (pick-has (λ y. is_payload y.value ≡ true) (variable_conf_in cfg.variables v).initialed (record { value = number_v (variable_conf_in cfg.variables v).initial }) no_variable (λ e. refl) (λ e. refl)))

  -- ---- elements

  no-values-sound : (c : ℕ) → values_sound c no_values.queued no_values.at ≡ true
  unfolding values_sound filled place_filled all_below no_values is_void
  no-values-sound c = both-make _ _ (le-leb 0 c (omega arith)) refl

  blank-element : (q : ℕ) → element_sound cfg q no_element ≡ true
  unfolding element_sound no_element is_stored is_payload is_void
  blank-element q = both-make _ _ (either_way (both (ltb q cfg.required.n) (eqb (required_conf_in cfg.required q).capacity 0))) (no-values-sound (required_conf_in cfg.required q).capacity)

  -- an unqueued one that is there holds NeverReceived
  never-received : (q : ℕ) → q < cfg.required.n → eqb (required_conf_in cfg.required q).capacity 0 ≡ true → element_sound cfg q (record { value = never_received_v; updated = false; queue = no_values }) ≡ true
  unfolding element_sound is_stored is_payload is_void
  never-received q b e = rw (lt-ltb q cfg.required.n b, e) (no-values-sound (required_conf_in cfg.required q).capacity)

  start-element : (q : ℕ) → q < cfg.required.n → element_sound cfg q (start_element (required_conf_in cfg.required q)) ≡ true
  unfolding start_element
  start-element q b =
      pick-has (λ y. element_sound cfg q y ≡ true) (eqb (required_conf_in cfg.required q).capacity 0) (record { value = never_received_v; updated = false; queue = no_values }) no_element (never-received q b) (λ e. blank-element q)

  start-elements : elements_sound cfg (start_elements cfg.required) ≡ true
  unfolding elements_sound place_in started no_places
  start-elements =
      all-each (λ (k : ℕ) (x : Element). start_element (required_conf_in cfg.required k)) no_element (λ q y. element_sound cfg q y) cfg.required.n max_required_confs (replicate max_required_confs no_element)
      (same-all (λ q y. element_sound cfg q y) max_required_confs no_element blank-element) (λ q b c e. start-element q c)

  -- ---- operations, timers and slots

  start-operations : operations_sound cfg no_operations ≡ true
  unfolding operations_sound operation_sound place_in done_sound is_outcome is_payload is_void no_places
  start-operations = same-all (λ o y. operation_sound cfg o y) max_operation_confs no_operation (λ o. either_way (ltb o cfg.operations.n))

  start-timers : timers_sound cfg no_timers ≡ true
  unfolding timers_sound timer_sound place_in no_places
  start-timers = same-all (λ t y. timer_sound cfg t y) max_timer_confs no_timer (λ t. le-leb 0 (timer_conf_in cfg.timers t).period (omega arith))

  start-slots : slots_sound cfg no_slots ≡ true
  unfolding slots_sound place_in no_places
  start-slots = same-all (λ k y. slot_sound cfg y) max_slots no_slot (λ k. blank-slot cfg)

  -- ---- no instance, no area held, no client

  empty-slot : (k : ℕ) → k < max_slots → slot_in no_slots k ≡ no_slot
  unfolding place_in no_places
  empty-slot k l = get_or-replicate max_slots k no_slot no_slot l

  start-counts : Counted (start_runnables cfg.runnables) no_slots
  unfolding slots_of of_runnable no_runnable no_slot
  start-counts = record { counted = λ r l. start-each (λ x. x.instances ≡ 0) refl (λ k. refl) r l ∙ sym (sum-zero _ max_slots (λ k b. ap (λ (x : Slot). bit (of_runnable r x)) (empty-slot k b))) }

  free : (a : ℕ) → a < max_area_confs → area_in no_areas a ≡ no_area
  unfolding place_in no_places
  free a l = get_or-replicate max_area_confs a no_area no_area l

  none-held : (a : ℕ) → times_in a no_slot.stack ≡ 0
  unfolding times_in no_slot no_stack
  none-held a = sum-none (λ (j : ℕ). bit (eqb (get_or (replicate max_area_confs 0) j 0) a))

  no-holders : (a : ℕ) → holders no_slots a ≡ 0
  unfolding holders
  no-holders a = sum-zero (λ (k : ℕ). times_in a (slot_in no_slots k).stack) max_slots (λ k b. rw (empty-slot k b) (none-held a))

  start-areas : Held cfg no_areas no_slots
  start-areas = record {
    there = λ a l e. absurd (clash (area_in no_areas a).taken e (rw (free a l)));
    once = λ a l. rw (free a l) (no-holders a);
  }

  none-queued : (o m : ℕ) → queued_as o m no_requests ≡ 0
  unfolding queued_as no_requests
  none-queued o m = sum-none (λ (j : ℕ). bit (is_client o m (get_or (replicate max_requests no_client) j no_client)))

  none-served : (o m : ℕ) → served_as o m no_slot.owed ≡ 0
  unfolding served_as no_slot
  none-served o m = refl

  requests-blank : (r : ℕ) → r < max_runnable_confs → (runnable_in (start_runnables cfg.runnables) r).requests ≡ no_requests
  unfolding no_runnable
  requests-blank = start-each (λ x. x.requests ≡ no_requests) refl (λ k. refl)

  no-clients : (o m : ℕ) → clients_as (start_runnables cfg.runnables) no_slots o m ≡ 0
  unfolding clients_as
  no-clients o m =
      omega (
        arith,
        sum-zero (λ (r : ℕ). queued_as o m (runnable_in (start_runnables cfg.runnables) r).requests) max_runnable_confs (λ r l. rw (requests-blank r l) (none-queued o m)),
        sum-zero (λ (k : ℕ). served_as o m (slot_in no_slots k).owed) max_slots (λ k b. rw (empty-slot k b) (none-served o m)),
      )

  shut : (o : ℕ) → o < max_operation_confs → operation_in no_operations o ≡ no_operation
  unfolding place_in no_places
  shut o l = get_or-replicate max_operation_confs o no_operation no_operation l

  start-clients : Clients no_operations (start_runnables cfg.runnables) no_slots
  start-clients = record {
    single = λ o m. omega (arith, no-clients o m);
    called = λ o l e. absurd (clash (operation_in no_operations o).calling e (rw (shut o l)));
  }

  none-waits : (o : ℕ) → waiters_of no_slots o ≡ 0
  unfolding waiters_of waits_on no_slot
  none-waits o = sum-zero _ max_slots (λ k b. ap (λ (x : Slot). bit (waits_on o x)) (empty-slot k b))

  start-waiters : Waiters cfg no_operations no_slots
  start-waiters = record {
    most = λ o l. omega (arith, none-waits o);
    bound = λ o l e a. absurd (clash (operation_in no_operations o).calling e (rw (shut o l)));
  }

  -- ---- no copies

  start-copies : (t : Lists) → copied_sound cfg.edition t no_slots no_copied ≡ true
  unfolding copied_sound place_in no_places
  start-copies t = same-all (λ k y. copies_sound cfg.edition t (slot_in no_slots k) y) max_slots no_copies (λ k. blank-sound cfg.edition t (slot_in no_slots k) no_copies no-copies-blank)

  -- ---- the whole

  start-shape : shaped (start_of cfg) ≡ true
  unfolding start_of started no_places
  start-shape =
      shape-made _
      (record {
        runnables = each-length (λ (k : ℕ) (x : Runnable). start_runnable (runnable_conf_in cfg.runnables k)) no_runnable cfg.runnables.n (replicate max_runnable_confs no_runnable);
        variables = each-length (λ (k : ℕ) (x : Variable). start_variable (variable_conf_in cfg.variables k)) no_variable cfg.variables.n (replicate max_variable_confs no_variable);
        areas = refl;
        elements = each-length (λ (k : ℕ) (x : Element). start_element (required_conf_in cfg.required k)) no_element cfg.required.n (replicate max_required_confs no_element);
        operations = refl;
        timers = refl;
        slots = refl;
        incoming = refl;
        outgoing = refl;
      })

  pub start-told : Sound cfg (start_of cfg)
  unfolding start_of
  start-told = record {
    config = h;
    shape = start-shape;
    runnables = start-runnables;
    variables = start-variables;
    elements = start-elements;
    operations = start-operations;
    timers = start-timers;
    slots = start-slots;
    counts = start-counts;
    areas = start-areas;
    clients = start-clients;
    waiters = start-waiters;
    copies = record { incoming = start-copies cfg.incoming; outgoing = start-copies cfg.outgoing };
  }

  pub start-sound : sound_of cfg (start_of cfg) ≡ true
  start-sound = made cfg (start_of cfg) start-told
