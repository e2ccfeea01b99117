-- What an accepted step does to calls, as one of nine deeds (`Deed`), each by the name of its way: it passes, it starts, takes or ends one, or its instance fails. A deed says which step it was, what the
-- step relied on and the state after it; all that follows goes by deeds, and no more by codes.
-- Each deed with what it adds to the history (`pass-adds` .. `fail-adds`), and that every deed keeps the tie (`tied-deed`).
-- Assumes nothing.
use Prim.Native.Nat.{ℕ, ◌<◌}
use mathlib.Core.Bool.{true, false}
use mathlib.Core.Path.{◌≡◌, refl, sym, ◌∙◌}
use native.Mathlib.Omega.{arith}
use lib.Dec.{eqb}
use borrow.Author.Tests.{ltb-true, ltb-false, eqb-true, eq-eqb, ne_eqb}
use Rattle.numbers.specs.Codes.{enter_code, exit_code, call_code, hand_back_code, end_code, spawn_code, timeout_code, tick_code, wait_code, fail_code}
use Rattle.laws.proofs.Choosing.{clash, pick-has}
use Rattle.faces.specs.Types.{Step, Config, State}
use Rattle.values.specs.Values.{number_v, ok_v, timeout_v, same_value}
use Rattle.config.specs.Tables.{runnable_conf_in}
use Rattle.entries.specs.Faults.{is_server}
use Rattle.state.specs.Tables.{runnable_in}
use Rattle.effects.specs.Steps.{entered, exited, called, closed, answers, client_of, finished, answered, handed_back, emptied, is_due, lowest_empty, spawned, ticked, waited, failed}
use Rattle.effects.proofs.Agreeing.{same-value}
use Rattle.stays_sound.specs.Facts.{Sound, CanEnter, CanExit, CanCall, CanHandBack, CanEnd, CanSpawn, CanTimeout, CanTick, CanWait, CanFail}
use Rattle.history.specs.History.{no_request, by_timeout, History, passed, call_adds, closing_adds, back_by, fail_adds, slot_adds, server_adds, taken_by, observe, time_of}
use Rattle.history.proofs.Tied.{As, Alike, Tied, tied-as, tied-alike}
use Rattle.history.proofs.Passes.{Unmoved}
use Rattle.history.proofs.Ties.{tied-call, tied-timeout, tied-answer, tied-late, tied-server, tied-plain, tied-end, tied-fail}

-- a step that is no started call, hand back, end, spawn, timeout or fail
pub record Quiet (s : Step) : Type 0 where
  pub call : s.code ≡ call_code → s.claim ≡ ok_v → ⊥
  pub back : s.code ≡ hand_back_code → ⊥
  pub end : s.code ≡ end_code → ⊥
  pub spawn : s.code ≡ spawn_code → ⊥
  pub timeout : s.code ≡ timeout_code → ⊥
  pub fail : s.code ≡ fail_code → ⊥

-- what a step that starts, takes and ends no call does to areas: it enters one, exits one, or leaves them and the stacks as they were
pub data Moves (cfg : Config) (st : State) (s : Step) (st' : State) : Type 0 where
  enters : s.code ≡ enter_code → CanEnter cfg st s.who s.what → st' ≡ entered st s.who s.what → Moves cfg st s st'
  exits : s.code ≡ exit_code → CanExit cfg st s.who s.what → st' ≡ exited st s.who s.what → Moves cfg st s st'
  stays : (s.code ≡ enter_code → ⊥) → (s.code ≡ exit_code → ⊥) → Unmoved st st' → Moves cfg st s st'

-- and to timers: one ticks, a wait lowers all, or they are as they were
pub data Clocks (cfg : Config) (st : State) (s : Step) (st' : State) : Type 0 where
  ticks : s.code ≡ tick_code → CanTick cfg st s.what → st'.timers ≡ (ticked cfg st s.what).timers → Clocks cfg st s st'
  waits : s.code ≡ wait_code → CanWait cfg st s.argument.number → st'.timers ≡ (waited cfg st s.argument.number).timers → Clocks cfg st s st'
  keeps : (s.code ≡ tick_code → ⊥) → (s.code ≡ wait_code → ⊥) → st'.timers ≡ st.timers → Clocks cfg st s st'

pub data Deed (cfg : Config) (st : State) (s : Step) (st' : State) : Type 0 where
  pass : Alike (time_of s) st st' → Quiet s → Moves cfg st s st' → Clocks cfg st s st' → Deed cfg st s st'
  call : s.code ≡ call_code → s.claim ≡ ok_v → CanCall cfg st s.who s.what s.argument → st' ≡ called cfg st s.who s.what s.argument → Deed cfg st s st'
  answer :
      s.code ≡ hand_back_code → s.claim ≡ number_v 1 → CanHandBack cfg st s.who s.argument → answers st.operations (client_of st s.who) ≡ true
      → st' ≡ answered cfg st s.who (handed_back st s.who s.argument) → Deed cfg st s st'
  late : s.code ≡ hand_back_code → s.claim ≡ number_v 0 → CanHandBack cfg st s.who s.argument → st' ≡ finished st st s.who → Deed cfg st s st'
  end : s.code ≡ end_code → CanEnd st s.who → As (emptied st s.who) st' → Deed cfg st s st'
  server : s.code ≡ spawn_code → s.claim ≡ number_v (lowest_empty st.slots) → is_server cfg s.what ≡ true → CanSpawn cfg st s.what → As (spawned cfg st s.what (lowest_empty st.slots)) st'
      → Deed cfg st s st'
  plain : s.code ≡ spawn_code → s.claim ≡ number_v (lowest_empty st.slots) → is_server cfg s.what ≡ false → CanSpawn cfg st s.what → As (spawned cfg st s.what (lowest_empty st.slots)) st'
      → Deed cfg st s st'
  timeout : s.code ≡ timeout_code → CanTimeout cfg st s.what → st' ≡ closed cfg st s.what timeout_v → Deed cfg st s st'
  fail : s.code ≡ fail_code → CanFail st s.who → st' ≡ failed st s.who → Deed cfg st s st'

-- a step of one code is none of another
pub other-code : {k n : ℕ} (m : ℕ) → k ≡ n → eqb n m ≡ false → k ≡ m → ⊥
other-code {k} {n} m c f e = clash (eqb n m) (eq-eqb n m (sym c ∙ e)) f

-- ---- what each adds to the history

module _ (cfg : Config) (h : History) (s : Step) where
  pub pass-adds : Quiet s → observe cfg h s ≡ passed h
  unfolding observe
  pass-adds q =
      rw (ne_eqb s.code hand_back_code q.back, ne_eqb s.code end_code q.end, ne_eqb s.code spawn_code q.spawn, ne_eqb s.code timeout_code q.timeout, ne_eqb s.code fail_code q.fail)
      (pick-has (λ x. x ≡ passed h) (eqb s.code call_code) _ (passed h)
      (λ c. pick-has (λ x. x ≡ passed h) (same_value s.claim ok_v) _ (passed h) (λ k. absurd (q.call (eqb-true _ _ c) (same-value _ _ k))) (λ k. refl))
      (λ c. refl))

  pub call-adds : s.code ≡ call_code → s.claim ≡ ok_v → observe cfg h s ≡ call_adds cfg h s.what s.argument
  unfolding observe same_value
  call-adds c k = rw (c, k)

  pub answer-adds : s.code ≡ hand_back_code → s.claim ≡ number_v 1 → observe cfg h s ≡ closing_adds h (taken_by h s.who).on (back_by h s.who s.argument)
  unfolding observe
  answer-adds c k = rw (c, k)

  pub late-adds : s.code ≡ hand_back_code → s.claim ≡ number_v 0 → observe cfg h s ≡ passed h
  unfolding observe
  late-adds c k = rw (c, k)

  pub end-adds : s.code ≡ end_code → observe cfg h s ≡ slot_adds h s.who no_request
  unfolding observe
  end-adds c = rw c

  pub server-adds : s.code ≡ spawn_code → is_server cfg s.what ≡ true → observe cfg h s ≡ server_adds h s.claim.number s.what
  unfolding observe
  server-adds c e = rw (c, e)

  pub plain-adds : s.code ≡ spawn_code → is_server cfg s.what ≡ false → observe cfg h s ≡ slot_adds h s.claim.number no_request
  unfolding observe
  plain-adds c e = rw (c, e)

  pub timeout-adds : s.code ≡ timeout_code → observe cfg h s ≡ closing_adds h s.what by_timeout
  unfolding observe
  timeout-adds c = rw c

  pub fail-adds : s.code ≡ fail_code → observe cfg h s ≡ fail_adds h s.who
  unfolding observe
  fail-adds c = rw c

-- ---- every deed keeps the tie

-- a server has a capacity, a plain runnable none
pub server-capacity : (cfg : Config) (r : ℕ) → is_server cfg r ≡ true → eqb (runnable_conf_in cfg.runnables r).capacity 0 ≡ false
unfolding is_server
server-capacity cfg r e = ne_eqb (runnable_conf_in cfg.runnables r).capacity 0 (λ q. omega (arith, ltb-true 0 (runnable_conf_in cfg.runnables r).capacity e, q))

plain-capacity : (cfg : Config) (r : ℕ) → is_server cfg r ≡ false → eqb (runnable_conf_in cfg.runnables r).capacity 0 ≡ true
unfolding is_server
plain-capacity cfg r e = eq-eqb (runnable_conf_in cfg.runnables r).capacity 0 (omega (arith, ltb-false 0 (runnable_conf_in cfg.runnables r).capacity e))

-- a server that is due has a request
pub due-server : (cfg : Config) (st : State) (r : ℕ) → is_server cfg r ≡ true → CanSpawn cfg st r → 0 < (runnable_in st.runnables r).requests.queued
unfolding is_due
due-server cfg st r e z = ltb-true _ _ (rw (server-capacity cfg r e) at z.due)

pub tied-deed : (cfg : Config) (st : State) (s : Step) (st' : State) (h : History) → Sound cfg st → Deed cfg st s st' → Tied st h → Tied st' (observe cfg h s)
tied-deed cfg st s st' h g (pass a q m w) t = rw (pass-adds cfg h s q) (tied-alike st st' h a t)
tied-deed cfg st s st' h g (call c k z e) t = rw (call-adds cfg h s c k, e) (tied-call cfg st h s.who s.what s.argument g z t)
tied-deed cfg st s st' h g (answer c k z a e) t = rw (answer-adds cfg h s c k, e) (tied-answer cfg st h s.who s.argument z a t)
tied-deed cfg st s st' h g (late c k z e) t = rw (late-adds cfg h s c k, e) (tied-late cfg st h s.who s.argument z t)
tied-deed cfg st s st' h g (end c z e) t = rw (end-adds cfg h s c) (tied-as e (tied-end cfg st h s.who g z t))
tied-deed cfg st s st' h g (server c k y z e) t =
    rw (server-adds cfg h s c y, k)
    (tied-as e (tied-server cfg st h s.what (lowest_empty st.slots) g z.slot (server-capacity cfg s.what y) (due-server cfg st s.what y z) t))
tied-deed cfg st s st' h g (plain c k y z e) t =
    rw (plain-adds cfg h s c y, k)
    (tied-as e (tied-plain cfg st h s.what (lowest_empty st.slots) g z.slot (plain-capacity cfg s.what y) t))
tied-deed cfg st s st' h g (timeout c z e) t = rw (timeout-adds cfg h s c, e) (tied-timeout cfg st h s.what z t)
tied-deed cfg st s st' h g (fail c z e) t = rw (fail-adds cfg h s c, e) (tied-fail cfg st h s.who g z t)
