-- Every slot stays sound: an empty one is blank, and an instance's life, client and stack fit it and each other.
-- Assumes nothing.
use Prim.Native.Nat.{ℕ, ◌+◌, ◌-◌, ◌<◌}
use mathlib.Core.Bool.{Bool, true, false, not}
use mathlib.Core.List.{[], ◌∷◌}
use mathlib.Core.Path.{◌≡◌, refl, sym, ◌∙◌, ap}
use native.Mathlib.Nat.{mod-eq_of_lt}
use native.Mathlib.Omega.{arith}
use lib.Dec.{eqb}
use lib.ListN.{get_or}
use borrow.Author.Tests.{ltb-true, leb-true, eqb-true, eqb-false, lt-ltb, le-leb, eq-eqb}
use Rattle.laws.specs.Choice.{pick, all_of}
use Rattle.laws.specs.Loop.{all_below}
use Rattle.laws.specs.Row.{place_filled, filled}
use Rattle.laws.proofs.Choosing.{both-make, all_told, all_made}
use Rattle.laws.proofs.Places.{all-put, all-each, filled-push, filled-pop}
use Rattle.values.specs.Values.{is_void}
use Rattle.faces.specs.Types.{Value, Config, RunnableConf, Awaited, Life, Runnable, Owed, Stack, Slot, Slots, State}
use Rattle.config.specs.Tables.{max_area_confs, runnable_conf_in, area_conf_in, operation_conf_in}
use Rattle.entries.specs.Faults.{max_time, is_server}
use Rattle.state.specs.Parts.{no_awaited, no_owed, no_stack, no_slot}
use Rattle.state.specs.Queues.{up_one, push_area, pop_area, first_request}
use Rattle.state.specs.Fields.{with_left, life_of, life_awaiting, life_finished}
use Rattle.state.specs.Tables.{max_slots, slot_in, with_slot, runnable_in}
use Rattle.rules.specs.Sound.{component_of, is_no_client, is_caller, is_held, is_no_awaited, waits_well, held_well, awaits_well, life_sound, owed_sound, area_fits, is_zero, stack_sound, is_no_life, is_no_owed, is_no_stack, is_no_slot, slot_sound, slots_sound}
use Rattle.effects.specs.Steps.{entering, exiting, entered, exited, awaiting, awaited, on_operation, waiting_on, caller_after, called, gone_on, finishing, finished, failing, failed, emptied, is_due, fresh, instance_of, lowest_empty, spawned, slot_after, slots_after, waited, on_element, held}
use Rattle.stays_sound.specs.Facts.{Sound, CanEnter, CanExit, There, CanCall, CanHandBack, CanEnd, CanSpawn, CanWait, CanFail, CanHold}
use Rattle.rules.proofs.Configured.{areas-most}
use Rattle.stays_sound.proofs.Areas.{free-room}
use Rattle.stays_sound.proofs.Instances.{Instance, instance-made, slot-below, instance-at, owed-server, stack-most, stack-filled}
use Rattle.state.specs.Places.{place_in, with_place}
use Rattle.stays_sound.proofs.Runnables.{sits-at, first_fits}

-- ---- the table

pub slots-put : (cfg : Config) (ss : Slots) (i : ℕ) (x : Slot) → slots_sound cfg ss ≡ true → slot_sound cfg x ≡ true → slots_sound cfg (with_slot ss i x) ≡ true
unfolding slots_sound place_in with_place
slots-put cfg ss i x h q = all-put (λ k y. slot_sound cfg y) ss.at i max_slots x no_slot h q

-- the table with a slot's instance changed
module _ (cfg : Config) (st : State) (s : Sound cfg st) where
  changed : (i : ℕ) (x : Slot) → x.used ≡ true → Instance cfg x → slots_sound cfg (with_slot st.slots i x) ≡ true
  changed i x u h = slots-put cfg st.slots i x s.slots (instance-made cfg x u h)

-- ---- stacks

module _ (cfg : Config) (l : Life) (k : Stack) where
  -- one more area on top, where there is room and it is of the component
  push-sound : (a : ℕ) → k.held < 16 → a < cfg.areas.n → (area_conf_in cfg.areas a).component ≡ component_of cfg l.runnable → stack_sound cfg l k ≡ true → stack_sound cfg l (push_area k a) ≡ true
  unfolding stack_sound push_area area_fits
  push-sound a r b c h =
      let e : up_one k.held ≡ k.held + 1 = mod-eq_of_lt (omega arith) in
      rw e
      (both-make _ _ (le-leb (k.held + 1) 16 (omega arith))
      (filled-push (area_fits cfg (component_of cfg l.runnable)) is_zero 0 max_area_confs k.held k.at a r
      (both-make _ _ (lt-ltb _ _ b) (eq-eqb _ _ c))
      (stack-filled cfg l k h)))

  -- the one on top taken off
  pop-sound : 0 < k.held → stack_sound cfg l k ≡ true → stack_sound cfg l (pop_area k) ≡ true
  unfolding stack_sound pop_area
  pop-sound p h =
      let m = stack-most cfg l k h in
      let e : k.held ≡ (k.held - 1) + 1 = omega arith in
      both-make _ _ (le-leb (k.held - 1) 16 (omega arith))
      (filled-pop (area_fits cfg (component_of cfg l.runnable)) is_zero 0 max_area_confs (k.held - 1) k.at 0 refl (omega arith)
      (ap (λ (n : ℕ). filled (area_fits cfg (component_of cfg l.runnable)) is_zero 0 max_area_confs n k.at) (sym e) ∙ stack-filled cfg l k h))

-- ---- lives

life-awaits : (cfg : Config) (l : Life) (a : Awaited) → life_sound cfg l ≡ true → awaits_well cfg (life_awaiting l a) ≡ true → life_sound cfg (life_awaiting l a) ≡ true
unfolding life_sound
life-awaits cfg l a h w = let t = all_told _ h in all_made _ (t.0, (t.1.0, (w, tt)))

-- what is left after some time
less_zero : (n t : ℕ) → eqb n 0 ≡ true → eqb (n - t) 0 ≡ true
less_zero n t h = eq-eqb (n - t) 0 (omega (arith, eqb-true n 0 h))

abbrev life_after : ℕ → Life → Life
life_after t l = life_awaiting l (with_left l.awaited (l.awaited.left - t))

no-awaited-after : (a : Awaited) (t : ℕ) → is_no_awaited a ≡ true → is_no_awaited (with_left a (a.left - t)) ≡ true
unfolding is_no_awaited
no-awaited-after a t h = let z = all_told _ h in all_made _ (z.0, (z.1.0, (less_zero a.left t z.1.1.0, tt)))

awaits-after : (cfg : Config) (l : Life) (t : ℕ) → awaits_well cfg l ≡ true → awaits_well cfg (life_after t l) ≡ true
unfolding awaits_well waits_well held_well
awaits-after cfg l t h = go (is_caller l) (is_held l) h
  where
    go : (b c : Bool) → pick b (waits_well cfg l) (pick c (held_well cfg l) (is_no_awaited l.awaited)) ≡ true → pick b (waits_well cfg (life_after t l)) (pick c (held_well cfg (life_after t l)) (is_no_awaited (life_after t l).awaited)) ≡ true
    go true c q = let z = all_told _ q in all_made _ (z.0, (z.1.0, (z.1.1.0, (less_zero l.awaited.left t z.1.1.1.0, tt))))
    go false true q = let z = all_told _ q in all_made _ (z.0, (z.1.0, (z.1.1.0, (le-leb (l.awaited.left - t) max_time (omega (arith, leb-true l.awaited.left max_time z.1.1.1.0)), tt))))
    go false false q = no-awaited-after l.awaited t q

life-waits : (cfg : Config) (l : Life) (o : ℕ) → o < cfg.operations.n → (operation_conf_in cfg.operations o).asynchronous ≡ false → (operation_conf_in cfg.operations o).component ≡ component_of cfg l.runnable → life_sound cfg l ≡ true
    → life_sound cfg (life_awaiting l (on_operation o)) ≡ true
unfolding awaits_well waits_well
life-waits cfg l o b y c h = life-awaits cfg l (on_operation o) h (all_made _ (lt-ltb _ _ b, (ap not y, (eq-eqb _ _ c, (refl, tt)))))

no-awaited-well : (cfg : Config) (l : Life) → awaits_well cfg (life_awaiting l no_awaited) ≡ true
unfolding awaits_well is_no_awaited
no-awaited-well cfg l = all_made _ (refl, (refl, (refl, tt)))

life-finishes : (cfg : Config) (l : Life) → is_server cfg l.runnable ≡ true → life_sound cfg l ≡ true → life_sound cfg (life_finished l) ≡ true
unfolding life_sound awaits_well waits_well held_well
life-finishes cfg l e h = let t = all_told _ h in all_made _ (t.0, (e, (t.1.1.0, tt)))

pub life-fresh : (cfg : Config) (r : ℕ) → r < cfg.runnables.n → life_sound cfg (life_of r) ≡ true
unfolding life_sound awaits_well is_no_awaited
life-fresh cfg r b = all_made _ (lt-ltb _ _ b, (refl, (all_made _ (refl, (refl, (refl, tt))), tt)))

-- a blank stack and a blank slot
stack-fresh : (cfg : Config) (l : Life) → stack_sound cfg l no_stack ≡ true
unfolding stack_sound filled place_filled all_below no_stack
stack-fresh cfg l = refl

pub blank-slot : (cfg : Config) → slot_sound cfg no_slot ≡ true
unfolding slot_sound is_no_slot is_no_life is_no_awaited is_no_owed is_no_stack is_no_client is_void all_of filled place_filled all_below no_slot no_stack
blank-slot cfg = refl

-- a slot after some time
slot-after : (cfg : Config) (t : ℕ) (x : Slot) → slot_sound cfg x ≡ true → slot_sound cfg (slot_after t x) ≡ true
unfolding slot_sound life_sound owed_sound stack_sound is_no_slot is_no_life
slot-after cfg t x = go x.used
  where
    go : (b : Bool)
        → pick b (all_of (life_sound cfg x.life ∷ owed_sound cfg x.life x.owed ∷ stack_sound cfg x.life x.stack ∷ [])) (is_no_slot x) ≡ true
        → pick b (all_of (life_sound cfg (life_after t x.life) ∷ owed_sound cfg x.life x.owed ∷ stack_sound cfg x.life x.stack ∷ [])) (is_no_slot (slot_after t x)) ≡ true
    go true h = let z = all_told _ h in let l = all_told _ z.0 in all_made _ (all_made _ (l.0, (l.1.0, (awaits-after cfg x.life t l.1.1.0, tt))), z.1)
    go false h = let z = all_told _ h in let l = all_told _ z.0 in all_made _ (all_made _ (l.0, (no-awaited-after x.life.awaited t l.1.0, l.1.1)), z.1)

-- ---- step by step

module _ (cfg : Config) (st : State) where
  pub enter-keeps-slots : (i a : ℕ) → Sound cfg st → CanEnter cfg st i a → slots_sound cfg (entered st i a).slots ≡ true
  enter-keeps-slots i a s z =
      let x = slot_in st.slots i in
      let room = free-room cfg st i a s (slot-below cfg st s i z.who.there.used) (omega (arith, z.inside, areas-most cfg s.config)) z.free in
      let h = instance-at cfg st s i z.who.there.used in
      changed cfg st s i (entering x a) z.who.there.used
      (record { life = h.life; owed = h.owed; stack = push-sound cfg x.life x.stack a room z.inside z.own h.stack })

  pub exit-keeps-slots : (i a : ℕ) → Sound cfg st → CanExit cfg st i a → slots_sound cfg (exited st i a).slots ≡ true
  exit-keeps-slots i a s z =
      let x = slot_in st.slots i in
      let h = instance-at cfg st s i z.there.used in
      changed cfg st s i (exiting x) z.there.used
      (record { life = h.life; owed = h.owed; stack = pop-sound cfg x.life x.stack z.some h.stack })

  pub call-keeps-slots : (i o : ℕ) (v : Value) → Sound cfg st → CanCall cfg st i o v → slots_sound cfg (called cfg st i o v).slots ≡ true
  unfolding called caller_after owed_sound stack_sound
  call-keeps-slots i o v s z = go (operation_conf_in cfg.operations o).asynchronous refl
    where
      go : (b : Bool) → (operation_conf_in cfg.operations o).asynchronous ≡ b → slots_sound cfg (with_slot st.slots i (pick b (slot_in st.slots i) (waiting_on (slot_in st.slots i) o))) ≡ true
      go true e = changed cfg st s i (slot_in st.slots i) z.who.there.used (instance-at cfg st s i z.who.there.used)
      go false e =
          let x = slot_in st.slots i in
          let h = instance-at cfg st s i z.who.there.used in
          changed cfg st s i (waiting_on x o) z.who.there.used
          (record { life = life-waits cfg x.life o z.inside e z.own h.life; owed = h.owed; stack = h.stack })

  -- what an instance waits for, or no longer
  await-slots : (i : ℕ) (a : Awaited) → Sound cfg st → There st i → awaits_well cfg (life_awaiting (slot_in st.slots i).life a) ≡ true → slots_sound cfg (awaited st i a).slots ≡ true
  unfolding owed_sound stack_sound
  await-slots i a s z w =
      let x = slot_in st.slots i in
      let h = instance-at cfg st s i z.used in
      changed cfg st s i (awaiting x a) z.used (record { life = life-awaits cfg x.life a h.life w; owed = h.owed; stack = h.stack })

  pub go-on-keeps-slots : (i : ℕ) → Sound cfg st → There st i → slots_sound cfg (gone_on st i).slots ≡ true
  go-on-keeps-slots i s z = await-slots i no_awaited s z (no-awaited-well cfg (slot_in st.slots i).life)

  pub hold-keeps-slots : (i q t : ℕ) → Sound cfg st → CanHold cfg st i q t → slots_sound cfg (held st i q t).slots ≡ true
  unfolding awaits_well held_well
  hold-keeps-slots i q t s z = await-slots i (on_element q t) s z.who.there (all_made _ (lt-ltb _ _ z.inside, (z.queued, (eq-eqb _ _ z.own, (le-leb t max_time z.time, tt)))))

  pub wait-keeps-slots : (t : ℕ) → Sound cfg st → CanWait cfg st t → slots_sound cfg (waited cfg st t).slots ≡ true
  unfolding waited slots_after slots_sound place_in
  wait-keeps-slots t s z = all-each (λ (i : ℕ) (x : Slot). slot_after t x) no_slot (λ i y. slot_sound cfg y) max_slots max_slots st.slots.at s.slots (λ i b c h. slot-after cfg t (get_or st.slots.at i no_slot) h)

  pub hand-back-keeps-slots : (i : ℕ) (v : Value) → Sound cfg st → CanHandBack cfg st i v → slots_sound cfg (finished st st i).slots ≡ true
  unfolding owed_sound stack_sound is_no_client is_void
  hand-back-keeps-slots i v s z =
      let x = slot_in st.slots i in
      let h = instance-at cfg st s i z.who.there.used in
      let e = owed-server cfg x.life x.owed h.owed z.serving in
      changed cfg st s i (finishing x) z.who.there.used
      (record { life = life-finishes cfg x.life e h.life; owed = rw e; stack = h.stack })

  pub fail-keeps-slots : (i : ℕ) → Sound cfg st → CanFail st i → slots_sound cfg (failed st i).slots ≡ true
  unfolding life_sound awaits_well waits_well held_well owed_sound stack_sound
  fail-keeps-slots i s z =
      let x = slot_in st.slots i in
      let h = instance-at cfg st s i z.who.there.used in
      changed cfg st s i (failing x) z.who.there.used (record { life = h.life; owed = h.owed; stack = h.stack })

  pub end-keeps-slots : (i : ℕ) → Sound cfg st → CanEnd st i → slots_sound cfg (emptied st i).slots ≡ true
  end-keeps-slots i s z = slots-put cfg st.slots i no_slot s.slots (blank-slot cfg)

  pub spawn-keeps-slots : (r : ℕ) → Sound cfg st → CanSpawn cfg st r → slots_sound cfg (spawned cfg st r (lowest_empty st.slots)).slots ≡ true
  unfolding spawned instance_of is_due owed_sound is_server is_no_client is_void
  spawn-keeps-slots r s z = go (eqb c.capacity 0) refl
    where
      c : RunnableConf
      c = runnable_conf_in cfg.runnables r

      x : Runnable
      x = runnable_in st.runnables r

      w : Owed
      w = record { serving = true; client = first_request x.requests }

      go : (b : Bool) → eqb c.capacity 0 ≡ b → slots_sound cfg (with_slot st.slots (lowest_empty st.slots) (pick b (fresh r no_owed) (fresh r w))) ≡ true
      go true e =
          changed cfg st s (lowest_empty st.slots) (fresh r no_owed) refl
          (record { life = life-fresh cfg r z.inside; owed = rw (eqb-true c.capacity 0 e); stack = stack-fresh cfg _ })
      go false e =
          let d : 0 < x.requests.queued = ltb-true 0 _ (rw e at z.due) in
          let n : 0 < c.capacity = omega (arith, eqb-false c.capacity 0 e) in
          changed cfg st s (lowest_empty st.slots) (fresh r w) refl
          (record { life = life-fresh cfg r z.inside; owed = rw (lt-ltb 0 c.capacity n) (first_fits cfg r x.requests (sits-at cfg st s r z.inside).requests s.config d); stack = stack-fresh cfg _ })
