-- What becomes of a step before its claim is looked at: it is barred, with a number and the test that it failed (`Barred`), or it goes one of the ways below, each with what it relied on, its answer and the
-- state after it (`Way`). The one proof that goes by the code and by the choices of the definitions (`went`); all others go by ways. As a way names its code, a step whose code is known has only the ways of that code.
-- Assumes nothing.
use Prim.Native.Nat.{ℕ}
use mathlib.Core.Bool.{true, false}
use mathlib.Core.Path.{◌≡◌, refl}
use native.Mathlib.Decide.{ℕ_discrete}
use lib.Dec.{ltb}
use Rattle.numbers.specs.Refusals.{malformed, area_taken, not_on_top, queue_full, number_borne, still_waits, not_due, no_slot_free, too_far, not_over, areas_held, wrong_client}
use Rattle.numbers.specs.Codes.{read_variable_code, write_variable_code, enter_code, exit_code, read_code, write_code, updated_code, invalidate_code, receive_code, send_code, call_code, result_code, hand_back_code, end_code, spawn_code, timeout_code, tick_code, wait_code, fail_code, hold_code, give_up_code, read_copy_code, write_copy_code}
use Rattle.laws.specs.Choice.{bit}
use Rattle.laws.proofs.Choosing.{pick-has}
use Rattle.values.specs.Values.{void_v, number_v, ok_v, limit_v, no_data_v, timeout_v}
use Rattle.faces.specs.Types.{Value, Step, Config, State, Stepped}
use Rattle.config.specs.Tables.{runnable_conf_in, operation_conf_in}
use Rattle.config.specs.Lists.{place_of}
use Rattle.state.specs.Queues.{first_value}
use Rattle.state.specs.Tables.{max_slots, runnable_in, variable_in, element_in, operation_in, slot_in, copy_in, copies_in, with_copies, with_outgoing}
use Rattle.rules.specs.Rows.{rows, row_of}
use Rattle.rules.specs.Refusals.{refusal_of}
use Rattle.effects.specs.Steps.{refused, took, stored, is_taken, entered, on_top, exited, looked, fed, invalidated, full_mask, sent_of, waits, is_bare, received, is_open, is_borne, is_busy, requests_full, called, gone_on, closed, answers, serves, client_of, finished, answered, hands_number, handed_back, failed, is_over, holds, ended, may_spawn, lowest_empty, begun_in, is_up, ticked, all_let, waited, read_variable_of, write_variable_of, enter_of, exit_of, read_of, write_of, updated_of, invalidate_of, receive_of, send_of, call_of, poll_of, collect_of, result_of, hand_back_of, end_of, spawn_of, timeout_of, tick_of, wait_of, fail_of, held, hold_of, is_spent, give_up_of, runnable_of, read_copy_of, setting, write_copy_of}
use Rattle.effects.specs.Step.{possible_of}
use Rattle.effects.proofs.Codes.{Code, coded, act_by, possible-by, possible-barred}
use Rattle.effects.proofs.Codes as code
use Rattle.stays_sound.specs.Facts.{CanWriteVariable, CanEnter, CanExit, CanRead, CanFeed, CanInvalidate, CanReceive, CanCall, CanCollect, CanHandBack, CanEnd, CanSpawn, CanTimeout, CanTick, CanWait, CanFail, CanHold, CanGiveUp, CanReadCopy, CanWriteCopy}
use Rattle.stays_sound.proofs.Says.{let-told, run-told, says-write-variable, says-enter, says-exit, says-read, says_write, says-invalidate, says-receive, says-send, says-call, says-collect, says-hand-back, says-end, says-spawn, says-timeout, says-tick, says-wait, says-fail, says-hold, says-give-up, says-read-copy, says-write-copy}

-- ---- the ways in which a step is taken: by its code, with its answer and the state after it

pub data Way (cfg : Config) (st : State) (s : Step) : ℕ → Value → State → Type 0 where
  read_variable : Way cfg st s read_variable_code (variable_in st.variables s.what).value st
  write_variable : CanWriteVariable cfg st s.who s.what s.argument → Way cfg st s write_variable_code void_v (stored st s.what s.argument)
  enter : CanEnter cfg st s.who s.what → Way cfg st s enter_code void_v (entered st s.who s.what)
  exit : CanExit cfg st s.who s.what → Way cfg st s exit_code void_v (exited st s.who s.what)
  read : CanRead cfg st s.who s.what → Way cfg st s read_code (element_in st.elements s.what).value (looked st s.what)
  write : CanFeed cfg st s.who s.what s.argument → Way cfg st s write_code void_v (fed cfg st s.what s.argument)
  updated : Way cfg st s updated_code (number_v (bit (element_in st.elements s.what).updated)) st
  invalidate : CanInvalidate cfg st s.who s.what → Way cfg st s invalidate_code void_v (invalidated cfg st s.what)
  receive_none : is_bare st s.what ≡ true → waits st s.who ≡ false → Way cfg st s receive_code no_data_v st
  receive : CanReceive cfg st s.who s.what → Way cfg st s receive_code (first_value (element_in st.elements s.what).queue) (received st s.who s.what)
  send : CanFeed cfg st s.who s.what s.argument → Way cfg st s send_code (sent_of (full_mask cfg st.elements s.what)) (fed cfg st s.what s.argument)
  call_busy : is_busy st s.what ≡ true → Way cfg st s call_code limit_v st
  call : CanCall cfg st s.who s.what s.argument → Way cfg st s call_code ok_v (called cfg st s.who s.what s.argument)
  poll_open : (operation_conf_in cfg.operations s.what).asynchronous ≡ true → is_open st s.what ≡ true → Way cfg st s result_code no_data_v st
  poll : (operation_conf_in cfg.operations s.what).asynchronous ≡ true → is_open st s.what ≡ false → Way cfg st s result_code (operation_in st.operations s.what).done st
  collect : CanCollect cfg st s.who s.what → Way cfg st s result_code (operation_in st.operations s.what).done (gone_on st s.who)
  answer : CanHandBack cfg st s.who s.argument → answers st.operations (client_of st s.who) ≡ true → Way cfg st s hand_back_code (number_v 1) (answered cfg st s.who (handed_back st s.who s.argument))
  late : CanHandBack cfg st s.who s.argument → answers st.operations (client_of st s.who) ≡ false → Way cfg st s hand_back_code (number_v 0) (finished st st s.who)
  end : CanEnd st s.who → Way cfg st s end_code void_v (ended cfg st s.who)
  spawn : CanSpawn cfg st s.what → Way cfg st s spawn_code (number_v (lowest_empty st.slots)) (begun_in cfg st s.what (lowest_empty st.slots))
  timeout : CanTimeout cfg st s.what → Way cfg st s timeout_code void_v (closed cfg st s.what timeout_v)
  tick : CanTick cfg st s.what → Way cfg st s tick_code void_v (ticked cfg st s.what)
  wait : CanWait cfg st s.argument.number → Way cfg st s wait_code void_v (waited cfg st s.argument.number)
  fail : CanFail st s.who → Way cfg st s fail_code void_v (failed st s.who)
  hold : CanHold cfg st s.who s.what s.argument.number → Way cfg st s hold_code void_v (held st s.who s.what s.argument.number)
  give_up : CanGiveUp st s.who → Way cfg st s give_up_code timeout_v (gone_on st s.who)
  read_copy : CanReadCopy cfg st s.who s.what → Way cfg st s read_copy_code (copy_in (copies_in st.incoming s.who) (place_of cfg.incoming (runnable_of st s.who) s.what)) st
  write_copy : CanWriteCopy cfg st s.who s.what s.argument → Way cfg st s write_copy_code void_v (with_outgoing st (with_copies st.outgoing s.who (setting cfg st s.who s.what s.argument)))

-- ---- those in which it is refused: by its code, with its number

pub data Barred (cfg : Config) (st : State) (s : Step) : ℕ → ℕ → Type 0 where
  shared : {n : ℕ} → (refusal_of cfg st.slots s ≡ 0 → ⊥) → Barred cfg st s n (refusal_of cfg st.slots s)
  enter_taken : is_taken st s.what ≡ true → Barred cfg st s enter_code area_taken
  exit_other : on_top (slot_in st.slots s.who) s.what ≡ false → Barred cfg st s exit_code not_on_top
  receive_held : is_bare st s.what ≡ true → waits st s.who ≡ true → Barred cfg st s receive_code still_waits
  call_borne : is_busy st s.what ≡ false → is_borne st s.what ≡ true → Barred cfg st s call_code number_borne
  call_full : is_busy st s.what ≡ false → requests_full cfg st.runnables (operation_conf_in cfg.operations s.what).server ≡ true → Barred cfg st s call_code queue_full
  collect_open : is_open st s.what ≡ true → Barred cfg st s result_code still_waits
  answer_number : hands_number st s.who s.argument ≡ true → Barred cfg st s hand_back_code malformed
  answer_none : serves st s.who ≡ false → Barred cfg st s hand_back_code wrong_client
  end_serving : serves st s.who ≡ true → Barred cfg st s end_code wrong_client
  end_holding : serves st s.who ≡ false → holds st s.who ≡ true → Barred cfg st s end_code areas_held
  spawn_need : may_spawn (runnable_conf_in cfg.runnables s.what) (runnable_in st.runnables s.what) ≡ false → Barred cfg st s spawn_code not_due
  spawn_full : may_spawn (runnable_conf_in cfg.runnables s.what) (runnable_in st.runnables s.what) ≡ true → ltb (lowest_empty st.slots) max_slots ≡ false → Barred cfg st s spawn_code no_slot_free
  timeout_early : is_over st s.what ≡ false → Barred cfg st s timeout_code not_over
  tick_early : is_up st s.what ≡ false → Barred cfg st s tick_code not_over
  wait_far : all_let cfg st s.argument.number ≡ false → Barred cfg st s wait_code too_far
  give_up_early : is_spent st s.who ≡ false → Barred cfg st s give_up_code not_over

-- barred, or gone one of the ways
pub data Went (cfg : Config) (st : State) (s : Step) (code : ℕ) : Stepped → Type 0 where
  bars : {n : ℕ} → Barred cfg st s code n → Went cfg st s code (refused n st)
  goes : {w : Value} {t : State} → Way cfg st s code w t → Went cfg st s code (took w t)

-- ---- every step went so

module _ (cfg : Config) (st : State) (s : Step) where
  abbrev W : ℕ → Stepped → Type 0
  W n r = Went cfg st s n r

  went-by : {n : ℕ} (c : Code n) → s.code ≡ n → refusal_of cfg st.slots s ≡ 0 → W n (act_by c cfg st s.who s.what s.argument)
  unfolding row_of rows read_variable_of write_variable_of enter_of exit_of read_of write_of updated_of invalidate_of receive_of send_of call_of result_of poll_of collect_of hand_back_of end_of spawn_of timeout_of tick_of wait_of fail_of hold_of give_up_of read_copy_of write_copy_of
  went-by code.read_variable c h = goes read_variable
  went-by code.write_variable c h = goes (write_variable (says-write-variable cfg st _ _ _ (let-told cfg st s c h refl)))
  went-by code.enter c h =
      pick-has (W enter_code) (is_taken st s.what) _ _ (λ e. bars (enter_taken e)) (λ e. goes (enter (says-enter cfg st _ _ _ (let-told cfg st s c h refl) e)))
  went-by code.exit c h =
      pick-has (W exit_code) (on_top (slot_in st.slots s.who) s.what) _ _ (λ e. goes (exit (says-exit cfg st _ _ _ (let-told cfg st s c h refl) e))) (λ e. bars (exit_other e))
  went-by code.read c h = goes (read (says-read cfg st _ _ _ (let-told cfg st s c h refl)))
  went-by code.write c h = goes (write (says_write cfg st _ _ _ (let-told cfg st s c h refl)))
  went-by code.updated c h = goes updated
  went-by code.invalidate c h = goes (invalidate (says-invalidate cfg st _ _ _ (let-told cfg st s c h refl)))
  went-by code.receive c h =
      pick-has (W receive_code) (is_bare st s.what) _ _
      (λ e. pick-has (W receive_code) (waits st s.who) _ _ (λ w. bars (receive_held e w)) (λ w. goes (receive_none e w)))
      (λ e. goes (receive (says-receive cfg st _ _ _ (let-told cfg st s c h refl) e)))
  went-by code.send c h = goes (send (says-send cfg st _ _ _ (let-told cfg st s c h refl)))
  went-by code.call c h =
      pick-has (W call_code) (is_busy st s.what) _ _ (λ a. goes (call_busy a))
      (λ a. pick-has (W call_code) (is_borne st s.what) _ _ (λ b. bars (call_borne a b))
      (λ b. pick-has (W call_code) (requests_full cfg st.runnables (operation_conf_in cfg.operations s.what).server) _ _ (λ d. bars (call_full a d))
      (λ d. goes (call (says-call cfg st _ _ _ (let-told cfg st s c h refl) a b d)))))
  went-by code.result c h =
      pick-has (W result_code) (operation_conf_in cfg.operations s.what).asynchronous _ _
      (λ a. pick-has (W result_code) (is_open st s.what) _ _ (λ b. goes (poll_open a b)) (λ b. goes (poll a b)))
      (λ a. pick-has (W result_code) (is_open st s.what) _ _ (λ b. bars (collect_open b)) (λ b. goes (collect (says-collect cfg st _ _ _ (let-told cfg st s c h refl) a b))))
  went-by code.hand_back c h =
      pick-has (W hand_back_code) (hands_number st s.who s.argument) _ _ (λ f. bars (answer_number f))
      (λ f. pick-has (W hand_back_code) (serves st s.who) _ _
      (λ a. let z = says-hand-back cfg st _ _ _ (let-told cfg st s c h refl) f a in
      pick-has (W hand_back_code) (answers st.operations (client_of st s.who)) _ _ (λ b. goes (answer z b)) (λ b. goes (late z b)))
      (λ a. bars (answer_none a)))
  went-by code.end c h =
      pick-has (W end_code) (serves st s.who) _ _ (λ a. bars (end_serving a))
      (λ a. pick-has (W end_code) (holds st s.who) _ _ (λ b. bars (end_holding a b)) (λ b. goes (end (says-end cfg st _ _ _ (let-told cfg st s c h refl) a b))))
  went-by code.spawn c h =
      pick-has (W spawn_code) (may_spawn (runnable_conf_in cfg.runnables s.what) (runnable_in st.runnables s.what)) _ _
      (λ a. pick-has (W spawn_code) (ltb (lowest_empty st.slots) max_slots) _ _ (λ b. goes (spawn (says-spawn cfg st _ _ _ (run-told cfg st s c h refl) a b))) (λ b. bars (spawn_full a b)))
      (λ a. bars (spawn_need a))
  went-by code.timeout c h = pick-has (W timeout_code) (is_over st s.what) _ _ (λ e. goes (timeout (says-timeout cfg st _ _ _ (run-told cfg st s c h refl) e))) (λ e. bars (timeout_early e))
  went-by code.tick c h = pick-has (W tick_code) (is_up st s.what) _ _ (λ e. goes (tick (says-tick cfg st _ _ _ (run-told cfg st s c h refl) e))) (λ e. bars (tick_early e))
  went-by code.wait c h = pick-has (W wait_code) (all_let cfg st s.argument.number) _ _ (λ e. goes (wait (says-wait cfg st _ e))) (λ e. bars (wait_far e))
  went-by code.fail c h = goes (fail (says-fail cfg st _ _ _ (let-told cfg st s c h refl)))
  went-by code.hold c h = goes (hold (says-hold cfg st _ _ _ (let-told cfg st s c h refl)))
  went-by code.give_up c h = pick-has (W give_up_code) (is_spent st s.who) _ _ (λ e. goes (give_up (says-give-up cfg st _ _ _ (let-told cfg st s c h refl) e))) (λ e. bars (give_up_early e))
  went-by code.read_copy c h = goes (read_copy (says-read-copy cfg st _ _ _ (let-told cfg st s c h refl)))
  went-by code.write_copy c h = goes (write_copy (says-write-copy cfg st _ _ _ (let-told cfg st s c h refl)))

  pub went : W s.code (possible_of cfg st s)
  went = go (ℕ_discrete (refusal_of cfg st.slots s) 0)
    where
      go : Dec (refusal_of cfg st.slots s ≡ 0) → W s.code (possible_of cfg st s)
      go (yes h) = let c = coded cfg st.slots s h in rw (possible-by cfg st s c refl h) (went-by c refl h)
      go (no n) = rw (possible-barred cfg st s n) (bars (shared n))
