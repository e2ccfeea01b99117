-- From an accepted step to its deed: it went a way of its code (`gone` in crate stays_sound), and every way is a deed (`deed-way`). Most ways are calm: they touch no call, no area and no timer (`calm`).
-- Assumes nothing.
use Prim.Native.Nat.{ℕ}
use mathlib.Core.Bool.{Bool, true, false}
use mathlib.Core.Path.{◌≡◌, refl, sym, ◌∙◌, ap}
use native.Mathlib.Omega.{arith}
use lib.Dec.{eqb}
use Rattle.numbers.specs.Codes.{enter_code, exit_code, send_code, call_code, hand_back_code, end_code, spawn_code, timeout_code, tick_code, wait_code, fail_code}
use Rattle.laws.specs.Choice.{either}
use Rattle.laws.proofs.Choosing.{clash}
use Rattle.faces.specs.Types.{Value, Step, Taken, Config, State}
use Rattle.values.specs.Values.{number_v, limit_v}
use Rattle.entries.specs.Faults.{is_server}
use Rattle.effects.specs.Steps.{lowest_empty, begun_in}
use Rattle.effects.specs.Step.{step_of}
use Rattle.stays_sound.specs.Facts.{Sound, CanSpawn}
use Rattle.stays_sound.proofs.Told.{told}
use Rattle.stays_sound.proofs.Ways.{Way}
use Rattle.stays_sound.proofs.Ways as go
use Rattle.stays_sound.proofs.Accepted.{accepted, claim-told, gone}
use Rattle.history.specs.History.{time_of}
use Rattle.history.proofs.Timed.{still}
use Rattle.history.proofs.Passes.{Calm, calm-same, write-variable-calm, elements-calm, outgoing-calm, ended-as, begun-as, fed-calm, enter-alike, exit-alike, go-on-calm, hold-calm, receive-calm, tick-alike, tick-unmoved, wait-alike, wait-unmoved}
use Rattle.history.proofs.Deeds.{Quiet, enters, exits, stays, ticks, waits, keeps, Deed, pass, call, answer, late, end, server, plain, timeout, fail, other-code}

-- ---- the steps that touch no call

-- the codes of those that may, and of a fail
abbrev touches : ℕ → Bool
touches n = either (eqb n call_code) (either (eqb n hand_back_code) (either (eqb n end_code) (either (eqb n spawn_code) (either (eqb n timeout_code) (eqb n fail_code)))))

-- of those that touch areas or timers
abbrev moves : ℕ → Bool
moves n = either (eqb n enter_code) (either (eqb n exit_code) (either (eqb n tick_code) (eqb n wait_code)))

module _ (s : Step) {n : ℕ} (c : s.code ≡ n) where
  apart : (test : ℕ → Bool) (m : ℕ) → test n ≡ false → test m ≡ true → s.code ≡ m → ⊥
  apart test m f t e = clash (test m) t (ap test (sym e ∙ c) ∙ f)

  quiet : touches n ≡ false → Quiet s
  quiet f = record {
    call = λ q k. apart touches call_code f refl q;
    back = apart touches hand_back_code f refl;
    end = apart touches end_code f refl;
    spawn = apart touches spawn_code f refl;
    timeout = apart touches timeout_code f refl;
    fail = apart touches fail_code f refl;
  }

-- a call that is answered Limit starts none
quiet-open : (s : Step) → s.code ≡ call_code → s.claim ≡ limit_v → Quiet s
quiet-open s c k = record {
  call = λ q j. omega (arith, ap (λ (x : Value). x.kind) (sym k ∙ j));
  back = other-code hand_back_code c refl;
  end = other-code end_code c refl;
  spawn = other-code spawn_code c refl;
  timeout = other-code timeout_code c refl;
  fail = other-code fail_code c refl;
}

-- ---- every way is a deed

module _ (cfg : Config) (st : State) (s : Step) where
  -- nothing that calls, areas and timers are told by has changed
  calm-by : {n : ℕ} {t : State} → s.code ≡ n → moves n ≡ false → Quiet s → Calm 0 st t → Deed cfg st s t
  calm-by c f q a =
      pass (rw (still s (apart s c moves wait_code f refl)) a.alike) q (stays (apart s c moves enter_code f refl) (apart s c moves exit_code f refl) a.unmoved)
      (keeps (apart s c moves tick_code f refl) (apart s c moves wait_code f refl) a.timers)

  calm : {n : ℕ} {t : State} → s.code ≡ n → touches n ≡ false → moves n ≡ false → Calm 0 st t → Deed cfg st s t
  calm c h f a = calm-by c f (quiet s c h) a

  -- a spawn, of a server or of a plain runnable
  spawn-deed : s.code ≡ spawn_code → s.claim ≡ number_v (lowest_empty st.slots) → CanSpawn cfg st s.what → Deed cfg st s (begun_in cfg st s.what (lowest_empty st.slots))
  spawn-deed c k z = by (is_server cfg s.what) refl
    where
      by : (b : Bool) → is_server cfg s.what ≡ b → Deed cfg st s (begun_in cfg st s.what (lowest_empty st.slots))
      by true e = server c k e z (begun-as cfg st s.what (lowest_empty st.slots))
      by false e = plain c k e z (begun-as cfg st s.what (lowest_empty st.slots))

  deed-way : {n : ℕ} {w : Value} {t : State} → Sound cfg st → s.code ≡ n → (eqb n send_code ≡ false → s.claim ≡ w) → Way cfg st s n w t → Deed cfg st s t
  unfolding time_of
  deed-way g c k go.read_variable = calm c refl refl (calm-same st)
  deed-way g c k (go.write_variable z) = calm c refl refl (write-variable-calm st _ _)
  deed-way g c k (go.enter z) =
      pass (rw (still s (other-code wait_code c refl)) (enter-alike st _ _)) (quiet s c refl) (enters c z refl) (keeps (other-code tick_code c refl) (other-code wait_code c refl) refl)
  deed-way g c k (go.exit z) =
      pass (rw (still s (other-code wait_code c refl)) (exit-alike st _ _)) (quiet s c refl) (exits c z refl) (keeps (other-code tick_code c refl) (other-code wait_code c refl) refl)
  deed-way g c k (go.read z) = calm c refl refl (elements-calm st _)
  deed-way g c k (go.write z) = calm c refl refl (fed-calm cfg st _ _)
  deed-way g c k go.updated = calm c refl refl (calm-same st)
  deed-way g c k (go.invalidate z) = calm c refl refl (elements-calm st _)
  deed-way g c k (go.receive_none e w) = calm c refl refl (calm-same st)
  deed-way g c k (go.receive z) = calm c refl refl (receive-calm st _ _)
  deed-way g c k (go.send z) = calm c refl refl (fed-calm cfg st _ _)
  deed-way g c k (go.call_busy e) = calm-by c refl (quiet-open s c (k refl)) (calm-same st)
  deed-way g c k (go.call z) = call c (k refl) z refl
  deed-way g c k (go.poll_open a e) = calm c refl refl (calm-same st)
  deed-way g c k (go.poll a e) = calm c refl refl (calm-same st)
  deed-way g c k (go.collect z) = calm c refl refl (go-on-calm st _)
  deed-way g c k (go.answer z e) = answer c (k refl) z e refl
  deed-way g c k (go.late z e) = late c (k refl) z refl
  deed-way g c k (go.end z) = end c z (ended-as cfg st s.who)
  deed-way g c k (go.spawn z) = spawn-deed c (k refl) z
  deed-way g c k (go.timeout z) = timeout c z refl
  deed-way g c k (go.tick z) =
      pass (rw (still s (other-code wait_code c refl)) (tick-alike cfg st _)) (quiet s c refl) (stays (other-code enter_code c refl) (other-code exit_code c refl) (tick-unmoved cfg st _)) (ticks c z refl)
  deed-way g c k (go.wait z) =
      pass (rw c (wait-alike cfg st _ g z)) (quiet s c refl) (stays (other-code enter_code c refl) (other-code exit_code c refl) (wait-unmoved cfg st _ g z)) (waits c z refl)
  deed-way g c k (go.fail z) = fail c z refl
  deed-way g c k (go.hold z) = calm c refl refl (hold-calm st _ _ _ z.fine)
  deed-way g c k (go.give_up z) = calm c refl refl (go-on-calm st _)
  deed-way g c k (go.read_copy z) = calm c refl refl (calm-same st)
  deed-way g c k (go.write_copy z) = calm c refl refl (outgoing-calm st _)

  pub deed : {v : Value} → (step_of cfg st s).answer ≡ Taken v → Deed cfg st s (step_of cfg st s).state
  deed h = deed-way (told cfg st (accepted cfg st s h).0) refl (claim-told cfg st s h) (gone cfg st s refl h)
