-- What a step may rely on that is not refused: from the refusals that all steps share, and from its own, its record of facts. No other proof reads the tests of a refusal.
-- Assumes nothing.
use Prim.Native.Nat.{ℕ}
use mathlib.Core.Bool.{Bool, true, false, not}
use mathlib.Core.Path.{◌≡◌, refl}
use native.Mathlib.Omega.{arith}
use lib.Dec.{ltb, eqb}
use borrow.Author.Tests.{ltb-true, ltb-false, leb-false, eqb-true, eqb-false, eq-eqb, ne_eqb, leb-true, lt-ltb}
use Rattle.numbers.specs.Refusals.{malformed, not_there, not_own, barred, step_gone}
use Rattle.numbers.specs.Codes.{write_variable_code, enter_code, exit_code, read_code, write_code, invalidate_code, receive_code, send_code, call_code, result_code, hand_back_code, end_code, spawn_code, timeout_code, tick_code, fail_code, hold_code, give_up_code, read_copy_code, write_copy_code}
use Rattle.laws.specs.Choice.{both, either, bit, pick}
use Rattle.laws.proofs.Choosing.{clash, both_left, both_right, both-no, alike_is, all_told, pick-on, pick-alike}
use Rattle.faces.specs.Types.{Value, Step, Config, State, Life}
use Rattle.config.specs.Editions.{has_step}
use Rattle.numbers.specs.Tags.{operation_tag}
use Rattle.values.specs.Values.{is_number}
use Rattle.config.specs.Tables.{runnable_conf_in, area_conf_in, required_conf_in, operation_conf_in, provided_conf_in}
use Rattle.entries.specs.Entries.{count_of, entry_of}
use Rattle.entries.specs.Faults.{is_queued}
use Rattle.state.specs.Tables.{max_slots, runnable_in, element_in, operation_in, slot_in}
use Rattle.rules.specs.Sound.{component_of, is_waiting, is_caller, clients_as, waiters_of}
use Rattle.rules.specs.Rows.{no_part, a_slot, scheduler, rows, row_of}
use Rattle.rules.specs.Refusals.{argues, formed, part_there, lists_of, listed_there, named_there, queues_as, part_own, asks_synchronous, asks_waiting, finished_lets, failed_lets, ends_waiting, waiting_lets, life_lets, owned_refusal, instance_refusal, scheduler_refusal, refusal_by, refusal_of}
use Rattle.effects.specs.Steps.{is_taken, on_top, is_bare, is_open, is_borne, is_busy, requests_full, serves, has_failed, hands_number, holds, is_over, may_spawn, lowest_empty, is_up, operations_let, timers_let, all_let, is_spent}
use Rattle.stays_sound.specs.Facts.{Acts, CanWriteVariable, CanEnter, CanExit, CanRead, CanFeed, CanInvalidate, CanReceive, CanCall, CanCollect, CanHandBack, CanEnd, CanSpawn, CanTimeout, CanTick, CanWait, CanFail, CanHold, CanGiveUp, CanReadCopy, CanWriteCopy}

-- ---- refusals 2 to 5, and 2 and 3

-- a slot's step that they let through
pub record Let (cfg : Config) (st : State) (code i k : ℕ) (v : Value) : Type 0 where
  pub form : formed (row_of code) k v ≡ true
  pub has : has_step cfg.edition code ≡ true
  pub used : (slot_in st.slots i).used ≡ true
  pub part : part_there cfg (row_of code).part k ≡ true
  pub listed : listed_there cfg (slot_in st.slots i).life.runnable (row_of code) k ≡ true
  pub own : part_own cfg (component_of cfg (slot_in st.slots i).life.runnable) (row_of code) k ≡ true
  pub life : life_lets cfg (slot_in st.slots i).life code k ≡ true

-- the scheduler's step that they let through
pub record LetRun (cfg : Config) (code i k : ℕ) (v : Value) : Type 0 where
  pub who : i ≡ 0
  pub form : formed (row_of code) k v ≡ true
  pub part : part_there cfg (row_of code).part k ≡ true

module _ (cfg : Config) (st : State) (s : Step) {n : ℕ} (c : s.code ≡ n) (h : refusal_of cfg st.slots s ≡ 0) where
  pub let-told : (row_of n).who ≡ a_slot → Let cfg st n s.who s.what s.argument
  unfolding refusal_of refusal_by instance_refusal owned_refusal named_there
  let-told w =
      let x = slot_in st.slots s.who in
      let r = row_of n in
      let a = pick-on (formed r s.what s.argument) _ malformed 0 (rw (c, eq-eqb r.who a_slot w) at h) (λ q. omega (arith, q)) in
      let e = pick-on (has_step cfg.edition n) _ step_gone 0 a.1 (λ q. omega (arith, q)) in
      let b = pick-on (both x.used (named_there cfg x.life.runnable r s.what)) _ not_there 0 e.1 (λ q. omega (arith, q)) in
      let p = both_right x.used _ b.0 in
      let c = pick-on (part_own cfg (component_of cfg x.life.runnable) r s.what) _ not_own 0 b.1 (λ q. omega (arith, q)) in
      let d = pick-on (life_lets cfg x.life n s.what) _ barred 0 c.1 (λ q. omega (arith, q)) in
      record { form = a.0; has = e.0; used = both_left x.used _ b.0; part = both_left (part_there cfg r.part s.what) _ p; listed = both_right (part_there cfg r.part s.what) _ p; own = c.0; life = d.0 }

  pub run-told : (row_of n).who ≡ scheduler → LetRun cfg n s.who s.what s.argument
  unfolding refusal_of refusal_by scheduler_refusal
  run-told w =
      let r = row_of n in
      let a = pick-on (both (eqb s.who 0) (formed r s.what s.argument)) _ malformed 0 (rw (c, ne_eqb r.who a_slot (λ q. omega (arith, w, q)), eq-eqb r.who scheduler w) at h) (λ q. omega (arith, q)) in
      let b = pick-on (part_there cfg r.part s.what) _ not_there 0 a.1 (λ q. omega (arith, q)) in
      record { who = eqb-true _ _ (both_left (eqb s.who 0) _ a.0); form = both_right (eqb s.who 0) _ a.0; part = b.0 }

-- ---- an instance that may act: it neither waits nor is finished, unless the step is one that ends a waiting, an end or an exit

rests : (b c : Bool) → c ≡ false → either (not b) c ≡ true → b ≡ false
rests true c e h = absurd (clash c h e)
rests false c e h = refl

-- who does not wait names nothing to wait for
rests-none : (l : Life) → is_waiting l ≡ false → l.awaited.part ≡ no_part
rests-none l e = omega (arith, ltb-false no_part l.awaited.part e)

-- nor does who takes another step than those that end a waiting
waits-not : (l : Life) (code k : ℕ) → eqb code result_code ≡ false → eqb code receive_code ≡ false → eqb code give_up_code ≡ false → waiting_lets l code k ≡ true → is_waiting l ≡ false
unfolding waiting_lets ends_waiting
waits-not l code k a r g h = rests (is_waiting l) (pick (is_caller l) false false) (pick-alike (is_caller l) false) (rw (a, r, g) at h)

module _ (cfg : Config) (st : State) (code i k : ℕ) (v : Value) (z : Let cfg st code i k v) where
  acts : eqb code result_code ≡ false → eqb code receive_code ≡ false → eqb code give_up_code ≡ false → eqb code end_code ≡ false → eqb code exit_code ≡ false → Acts st i
  unfolding life_lets finished_lets
  acts a r g b c =
      let l = (slot_in st.slots i).life in
      let t = all_told _ (rw (b, c) at z.life) in
      record { there = record { used = z.used }; running = rests-none l (waits-not l code k a r g t.0); unfinished = rests l.finished (both l.failed false) (both-no l.failed false refl) t.1.0 }

-- neither of two tests holds
either-no : (a b : Bool) → either a b ≡ false → (a ≡ false) × (b ≡ false)
either-no true b h = absurd (clash true refl h)
either-no false b h = (refl, h)

-- who receives waits on no operation, and if it waits, it is on that element
caller-waits : (l : Life) → is_caller l ≡ true → is_waiting l ≡ true
caller-waits l e = lt-ltb 0 l.awaited.part (omega (arith, eqb-true l.awaited.part operation_tag e))

held-free : (l : Life) (k : ℕ) → waiting_lets l receive_code k ≡ true → is_caller l ≡ false
unfolding waiting_lets ends_waiting
held-free l k h = go (is_caller l) refl
  where
    go : (b : Bool) → is_caller l ≡ b → is_caller l ≡ false
    go true e = absurd (clash false (rw (caller-waits l e, e) at h) refl)
    go false e = e

held_on : (l : Life) (k : ℕ) → waiting_lets l receive_code k ≡ true → is_waiting l ≡ true → l.awaited.on ≡ k
unfolding waiting_lets ends_waiting
held_on l k h w = eqb-true _ _ (rw (held-free l k h, w) at h)

-- who gives up waits on no operation
spent-free : (l : Life) (k : ℕ) → waiting_lets l give_up_code k ≡ true → is_caller l ≡ false
unfolding waiting_lets ends_waiting
spent-free l k h = go (is_caller l) refl
  where
    go : (b : Bool) → is_caller l ≡ b → is_caller l ≡ false
    go true e = absurd (clash false (rw (caller-waits l e, e) at h) refl)
    go false e = e

-- ---- each step

module _ (cfg : Config) (st : State) (i k : ℕ) (v : Value) where
  pub says-write-variable : Let cfg st write_variable_code i k v → CanWriteVariable cfg st i k v
  unfolding formed argues part_there row_of rows count_of
  says-write-variable z = record { who = acts cfg st write_variable_code i k v z refl refl refl refl refl; inside = ltb-true _ _ z.part; payload = z.form }

  pub says-enter : Let cfg st enter_code i k v → is_taken st k ≡ false → CanEnter cfg st i k
  unfolding part_there row_of rows count_of part_own queues_as entry_of
  says-enter z e = record {
    who = acts cfg st enter_code i k v z refl refl refl refl refl;
    inside = ltb-true _ _ z.part;
    own = eqb-true _ _ (both_left (eqb (area_conf_in cfg.areas k).component (component_of cfg (slot_in st.slots i).life.runnable)) true z.own);
    free = e;
  }

  pub says-exit : Let cfg st exit_code i k v → on_top (slot_in st.slots i) k ≡ true → CanExit cfg st i k
  unfolding part_there row_of rows count_of on_top
  says-exit z e = record {
    there = record { used = z.used };
    inside = ltb-true _ _ z.part;
    some = ltb-true _ _ (both_left (ltb 0 (slot_in st.slots i).stack.held) _ e);
    top = eqb-true _ _ (both_right (ltb 0 (slot_in st.slots i).stack.held) _ e);
  }

  pub says-read : Let cfg st read_code i k v → CanRead cfg st i k
  unfolding part_there row_of rows count_of part_own queues_as entry_of is_queued
  says-read z = record {
    who = acts cfg st read_code i k v z refl refl refl refl refl;
    inside = ltb-true _ _ z.part;
    unqueued = alike_is (ltb 0 (required_conf_in cfg.required k).capacity) false (both_right (eqb (required_conf_in cfg.required k).component (component_of cfg (slot_in st.slots i).life.runnable)) _ z.own);
  }

  pub says_write : Let cfg st write_code i k v → CanFeed cfg st i k v
  unfolding formed argues part_there row_of rows count_of
  says_write z = record { who = acts cfg st write_code i k v z refl refl refl refl refl; inside = ltb-true _ _ z.part; payload = z.form }

  pub says-invalidate : Let cfg st invalidate_code i k v → CanInvalidate cfg st i k
  unfolding part_there row_of rows count_of part_own queues_as entry_of has_step
  says-invalidate z = record {
    who = acts cfg st invalidate_code i k v z refl refl refl refl refl;
    marks = z.has;
    inside = ltb-true _ _ z.part;
    unqueued = off (provided_conf_in cfg.provided k).queued (alike_is (ltb 0 (bit (provided_conf_in cfg.provided k).queued)) false (both_right (eqb (provided_conf_in cfg.provided k).component (component_of cfg (slot_in st.slots i).life.runnable)) _ z.own));
  }
    where
      off : (b : Bool) → ltb 0 (bit b) ≡ false → b ≡ false
      off true h = h
      off false h = refl

  pub says-receive : Let cfg st receive_code i k v → is_bare st k ≡ false → CanReceive cfg st i k
  unfolding part_there row_of rows count_of part_own queues_as entry_of is_queued life_lets asks_waiting asks_synchronous
  says-receive z e =
      let l = (slot_in st.slots i).life in
      let t = all_told _ z.life in
      record {
        there = record { used = z.used };
        free = held-free l k t.0;
        on = held_on l k t.0;
        inside = ltb-true _ _ z.part;
        queued = alike_is (ltb 0 (required_conf_in cfg.required k).capacity) true (both_right (eqb (required_conf_in cfg.required k).component (component_of cfg l.runnable)) _ z.own);
        some = omega (arith, eqb-false (element_in st.elements k).queue.queued 0 e);
      }

  pub says-send : Let cfg st send_code i k v → CanFeed cfg st i k v
  unfolding formed argues part_there row_of rows count_of
  says-send z = record { who = acts cfg st send_code i k v z refl refl refl refl refl; inside = ltb-true _ _ z.part; payload = z.form }

  pub says-call : Let cfg st call_code i k v → is_busy st k ≡ false → is_borne st k ≡ false → requests_full cfg st.runnables (operation_conf_in cfg.operations k).server ≡ false → CanCall cfg st i k v
  unfolding formed argues part_there row_of rows count_of part_own queues_as entry_of requests_full life_lets failed_lets
  says-call z a b c = record {
    who = acts cfg st call_code i k v z refl refl refl refl refl;
    fine = rests (has_failed st i) false refl (all_told _ z.life).1.1.0;
    inside = ltb-true _ _ z.part;
    own = eqb-true _ _ (both_left (eqb (operation_conf_in cfg.operations k).component (component_of cfg (slot_in st.slots i).life.runnable)) true z.own);
    payload = z.form;
    shut = (either-no (is_open st k) _ a).0;
    free = omega (arith, ltb-false 0 (waiters_of st.slots k) (either-no (is_open st k) _ a).1);
    fresh = omega (arith, ltb-false 0 (clients_as st.runnables st.slots k (operation_in st.operations k).number) b);
    room = leb-false _ _ c;
  }

  -- a synchronous result
  pub says-collect : Let cfg st result_code i k v → (operation_conf_in cfg.operations k).asynchronous ≡ false → is_open st k ≡ false → CanCollect cfg st i k
  unfolding part_there row_of rows count_of life_lets waiting_lets ends_waiting asks_waiting asks_synchronous
  says-collect z a e =
      let l = (slot_in st.slots i).life in
      let t = all_told _ z.life in
      let w : is_waiting l ≡ true = rw a at t.1.1.1.0 in
      let c = pick-on (is_caller l) (eqb l.awaited.on k) false true (rw w at t.0) (λ q. clash false q refl) in
      record {
        there = record { used = z.used };
        inside = ltb-true _ _ z.part;
        synchronous = a;
        waiting = c.0;
        on = eqb-true _ _ c.1;
        shut = e;
      }

  pub says-hand-back : Let cfg st hand_back_code i k v → hands_number st i v ≡ false → serves st i ≡ true → CanHandBack cfg st i v
  unfolding formed argues row_of rows
  says-hand-back z f e = record { who = acts cfg st hand_back_code i k v z refl refl refl refl refl; payload = both_right (eqb k 0) _ z.form; honest = f; serving = e }

  pub says-end : Let cfg st end_code i k v → serves st i ≡ false → holds st i ≡ false → CanEnd st i
  unfolding life_lets
  says-end z e f = record {
    there = record { used = z.used };
    running = let l = (slot_in st.slots i).life in rests-none l (waits-not l end_code k refl refl refl (all_told _ z.life).0);
    none = e;
    flat = omega (arith, ltb-false 0 (slot_in st.slots i).stack.held f);
  }

  pub says-fail : Let cfg st fail_code i k v → CanFail st i
  unfolding life_lets failed_lets
  says-fail z = record { who = acts cfg st fail_code i k v z refl refl refl refl refl; fine = rests (has_failed st i) false refl (all_told _ z.life).1.1.0 }

  pub says-hold : Let cfg st hold_code i k v → CanHold cfg st i k v.number
  unfolding formed argues part_there row_of rows count_of part_own queues_as entry_of is_queued life_lets failed_lets
  says-hold z =
      let c = (slot_in st.slots i).life.runnable in
      record {
        who = acts cfg st hold_code i k v z refl refl refl refl refl;
        fine = rests (has_failed st i) false refl (all_told _ z.life).1.1.0;
        inside = ltb-true _ _ z.part;
        own = eqb-true _ _ (both_left (eqb (required_conf_in cfg.required k).component (component_of cfg c)) _ z.own);
        queued = alike_is (ltb 0 (required_conf_in cfg.required k).capacity) true (both_right (eqb (required_conf_in cfg.required k).component (component_of cfg c)) _ z.own);
        time = leb-true _ _ (both_right (ltb 0 v.number) _ (both_right (is_number v) _ z.form));
      }

  pub says-give-up : Let cfg st give_up_code i k v → is_spent st i ≡ true → CanGiveUp st i
  unfolding life_lets asks_waiting
  says-give-up z e =
      let l = (slot_in st.slots i).life in
      let t = all_told _ z.life in
      record { there = record { used = z.used }; waiting = t.1.1.1.0; free = spent-free l k t.0; spent = e }

  pub says-read-copy : Let cfg st read_copy_code i k v → CanReadCopy cfg st i k
  unfolding row_of rows listed_there lists_of life_lets failed_lets
  says-read-copy z = record { who = acts cfg st read_copy_code i k v z refl refl refl refl refl; fine = rests (has_failed st i) false refl (all_told _ z.life).1.1.0; listed = z.listed }

  pub says-write-copy : Let cfg st write_copy_code i k v → CanWriteCopy cfg st i k v
  unfolding formed argues row_of rows listed_there lists_of life_lets failed_lets
  says-write-copy z = record { who = acts cfg st write_copy_code i k v z refl refl refl refl refl; fine = rests (has_failed st i) false refl (all_told _ z.life).1.1.0; listed = z.listed; payload = z.form }

module _ (cfg : Config) (st : State) (i k : ℕ) (v : Value) where
  pub says-spawn : LetRun cfg spawn_code i k v → may_spawn (runnable_conf_in cfg.runnables k) (runnable_in st.runnables k) ≡ true → ltb (lowest_empty st.slots) max_slots ≡ true → CanSpawn cfg st k
  unfolding part_there row_of rows count_of may_spawn
  says-spawn z m e =
      let x = runnable_in st.runnables k in
      let r = both_right (eqb x.interval 0) _ m in
      record {
        inside = ltb-true _ _ z.part;
        rested = eqb-true _ _ (both_left (eqb x.interval 0) _ m);
        alone = both_left (either (eqb x.instances 0) (runnable_conf_in cfg.runnables k).concurrent) _ r;
        due = both_right (either (eqb x.instances 0) (runnable_conf_in cfg.runnables k).concurrent) _ r;
        slot = ltb-true _ _ e;
      }

  pub says-timeout : LetRun cfg timeout_code i k v → is_over st k ≡ true → CanTimeout cfg st k
  unfolding part_there row_of rows count_of
  says-timeout z e = record {
    inside = ltb-true _ _ z.part;
    calling = both_left (is_open st k) _ e;
    zero = eqb-true _ _ (both_right (is_open st k) _ e);
  }

  pub says-tick : LetRun cfg tick_code i k v → is_up st k ≡ true → CanTick cfg st k
  unfolding part_there row_of rows count_of
  says-tick z e = record { inside = ltb-true _ _ z.part; zero = eqb-true _ _ e }

pub says-wait : (cfg : Config) (st : State) (t : ℕ) → all_let cfg st t ≡ true → CanWait cfg st t
unfolding all_let
says-wait cfg st t e =
    let r = both_right (operations_let cfg st.operations t) _ e in
    record { operations = both_left (operations_let cfg st.operations t) _ e; timers = both_left (timers_let cfg st.timers t) _ r; slots = both_right (timers_let cfg st.timers t) _ r }
