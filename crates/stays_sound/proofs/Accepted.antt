-- An accepted step: the state is sound, the step is what it is before its claim is looked at, and its answer agrees with that (`accepted`); for every code but send the claim is the answer (`claim-told`). So it went one of
-- the ways of its code (`gone`, `way`), and relied on what that way asks (`enter-told` .. `give-up-told`).
-- Assumes nothing.
use Prim.Native.Nat.{ℕ}
use mathlib.Core.Bool.{Bool, true, false}
use mathlib.Core.Path.{◌≡◌, refl, sym, ap, ◌∙◌, subst}
use native.Mathlib.Omega.{arith}
use lib.Dec.{eqb}
use Rattle.numbers.specs.Refusals.{not_sound, other_answer}
use Rattle.numbers.specs.Codes.{enter_code, exit_code, send_code, call_code, result_code, hand_back_code, end_code, spawn_code, timeout_code, tick_code, receive_code, give_up_code}
use Rattle.laws.specs.Choice.{pick}
use Rattle.laws.proofs.Choosing.{clash}
use Rattle.faces.specs.Types.{Value, Step, Answer, Taken, Refused, Config, State, Stepped}
use Rattle.values.specs.Values.{number_v, ok_v, no_data_v, timeout_v, answer_value}
use Rattle.config.specs.Tables.{operation_conf_in}
use Rattle.state.specs.Queues.{first_value}
use Rattle.state.specs.Tables.{operation_in, element_in}
use Rattle.rules.specs.Sound.{sound_of}
use Rattle.effects.specs.Steps.{refused, fed, full_mask, sent_of, is_open, answers, client_of, lowest_empty, waits}
use Rattle.effects.specs.Step.{possible_of, on_answer, agrees, claimed_of, inner_of, step_of}
use Rattle.effects.proofs.Agreeing.{agrees-same}
use Rattle.effects.proofs.Codes.{never}
use Rattle.stays_sound.specs.Facts.{CanEnter, CanExit, CanCall, CanCollect, CanHandBack, CanEnd, CanSpawn, CanTimeout, CanTick, CanReceive, CanGiveUp}
use Rattle.stays_sound.proofs.Ways.{Way, enter, exit, send, call_busy, call, poll_open, poll, collect, answer, late, end, spawn, timeout, tick, receive_none, receive, give_up, Went, bars, goes, went}

-- what a step answers, and Void if it is refused
abbrev pub answer_in : Config → State → Step → Value
answer_in cfg st s = answer_value (step_of cfg st s).answer

-- ---- the step before its claim

given : {v w : Value} → Taken v ≡ Taken w → v ≡ w
given h = cc

claimed : (s : Step) (v : Value) (st : State) (r : Stepped) → (claimed_of s st r).answer ≡ Taken v → (claimed_of s st r ≡ r) × (agrees s.code v s.claim ≡ true)
unfolding claimed_of
claimed s v st r h = go r.answer refl h
  where
    same : (w : Value) (b : Bool) → r.answer ≡ Taken w → agrees s.code w s.claim ≡ b → (pick b r (refused other_answer st)).answer ≡ Taken v → (pick b r (refused other_answer st) ≡ r) × (agrees s.code v s.claim ≡ true)
    same w true e f k = (refl, subst (λ (u : Value). agrees s.code u s.claim ≡ true) (given (sym e ∙ k)) f)
    same w false e f k = absurd (never k)

    go : (a : Answer) → r.answer ≡ a → (on_answer a (λ w. pick (agrees s.code w s.claim) r (refused other_answer st)) (λ n. r)).answer ≡ Taken v → (on_answer a (λ w. pick (agrees s.code w s.claim) r (refused other_answer st)) (λ n. r) ≡ r) × (agrees s.code v s.claim ≡ true)
    go (Taken w) e k = same w (agrees s.code w s.claim) e refl k
    go (Refused n) e k = absurd (never (sym e ∙ k))

-- the state is sound, the step is what it is before its claim is looked at, and its answer agrees with its claim
pub accepted : (cfg : Config) (st : State) (s : Step) {v : Value} → (step_of cfg st s).answer ≡ Taken v → (sound_of cfg st ≡ true) × (step_of cfg st s ≡ possible_of cfg st s) × (agrees s.code v s.claim ≡ true)
unfolding step_of inner_of
accepted cfg st s {v} h = go (sound_of cfg st) h
  where
    go : (b : Bool) → (pick b (inner_of cfg st s) (refused not_sound st)).answer ≡ Taken v → (b ≡ true) × (pick b (inner_of cfg st s) (refused not_sound st) ≡ possible_of cfg st s) × (agrees s.code v s.claim ≡ true)
    go true k = let c = claimed s v st (possible_of cfg st s) k in (refl, c.0, c.1)
    go false k = absurd (never k)

-- ---- its way

module _ (cfg : Config) (st : State) (s : Step) where
  -- for every code but send the claim is the answer
  pub claim-told : {v : Value} → (step_of cfg st s).answer ≡ Taken v → eqb s.code send_code ≡ false → s.claim ≡ v
  claim-told {v} h f = sym (agrees-same s.code v s.claim f (accepted cfg st s h).2)

  went-taken : {n : ℕ} {r : Stepped} {v : Value} → Went cfg st s n r → r.answer ≡ Taken v → Way cfg st s n v r.state
  went-taken (bars b) h = absurd (never h)
  went-taken {n} {r} {v} (goes w) h = subst (λ (u : Value). Way cfg st s n u r.state) (given h) w

  -- an accepted step of the code n went a way of it, with its answer
  pub gone : {n : ℕ} {v : Value} → s.code ≡ n → (step_of cfg st s).answer ≡ Taken v → Way cfg st s n v (step_of cfg st s).state
  gone {n} {v} c h =
      let e = (accepted cfg st s h).1 in
      rw e (subst (λ (n : ℕ). Way cfg st s n v (possible_of cfg st s).state) c (went-taken (went cfg st s) (rw e at h)))

  -- and of every code but send with its claim
  pub way : {n : ℕ} {v : Value} → s.code ≡ n → eqb n send_code ≡ false → (step_of cfg st s).answer ≡ Taken v → Way cfg st s n s.claim (step_of cfg st s).state
  way {n} {v} c f h = subst (λ (u : Value). Way cfg st s n u (step_of cfg st s).state) (sym (claim-told h (ap (λ (m : ℕ). eqb m send_code) c ∙ f))) (gone c h)

  -- ---- what a step relied on, by its code

  pub enter-told : {w : Value} {t : State} → Way cfg st s enter_code w t → CanEnter cfg st s.who s.what
  enter-told (enter z) = z

  pub exit-told : {w : Value} {t : State} → Way cfg st s exit_code w t → CanExit cfg st s.who s.what
  exit-told (exit z) = z

  pub send-told : {w : Value} {t : State} → Way cfg st s send_code w t → (w ≡ sent_of (full_mask cfg st.elements s.what)) × (t ≡ fed cfg st s.what s.argument)
  send-told (send z) = (refl, refl)

  -- a call that starts
  pub call-told : {w : Value} {t : State} → w ≡ ok_v → Way cfg st s call_code w t → CanCall cfg st s.who s.what s.argument
  call-told k (call_busy e) = absurd (omega (arith, ap (λ (v : Value). v.kind) k))
  call-told k (call z) = z

  -- a synchronous result
  pub collect-told : {w : Value} {t : State} → (operation_conf_in cfg.operations s.what).asynchronous ≡ false → Way cfg st s result_code w t
      → CanCollect cfg st s.who s.what × (w ≡ (operation_in st.operations s.what).done)
  collect-told f (poll_open a e) = absurd (clash _ a f)
  collect-told f (poll a e) = absurd (clash _ a f)
  collect-told f (collect z) = (z, refl)

  -- a result that is not NoData
  pub result-told : (v : Value) {w : Value} {t : State} → w ≡ v → (v ≡ no_data_v → ⊥) → Way cfg st s result_code w t → (is_open st s.what ≡ false) × ((operation_in st.operations s.what).done ≡ v)
  result-told v k n (poll_open a e) = absurd (n (sym k))
  result-told v k n (poll a e) = (e, k)
  result-told v k n (collect z) = (z.shut, k)

  -- a hand back that ends a call
  pub answer-told : {w : Value} {t : State} → w ≡ number_v 1 → Way cfg st s hand_back_code w t → CanHandBack cfg st s.who s.argument × (answers st.operations (client_of st s.who) ≡ true)
  answer-told k (answer z e) = (z, e)
  answer-told k (late z e) = absurd (omega (arith, ap (λ (v : Value). v.number) k))

  pub end-told : {w : Value} {t : State} → Way cfg st s end_code w t → CanEnd st s.who
  end-told (end z) = z

  pub spawn-told : {w : Value} {t : State} → Way cfg st s spawn_code w t → CanSpawn cfg st s.what × (w ≡ number_v (lowest_empty st.slots))
  spawn-told (spawn z) = (z, refl)

  pub timeout-told : {w : Value} {t : State} → Way cfg st s timeout_code w t → CanTimeout cfg st s.what
  timeout-told (timeout z) = z

  pub tick-told : {w : Value} {t : State} → Way cfg st s tick_code w t → CanTick cfg st s.what
  tick-told (tick z) = z

  -- a receive by an instance that waits
  pub receive-told : {w : Value} {t : State} → waits st s.who ≡ true → Way cfg st s receive_code w t → CanReceive cfg st s.who s.what × (w ≡ first_value (element_in st.elements s.what).queue)
  receive-told h (receive_none e f) = absurd (clash _ h f)
  receive-told h (receive z) = (z, refl)

  pub give-up-told : {w : Value} {t : State} → Way cfg st s give_up_code w t → CanGiveUp st s.who × (w ≡ timeout_v)
  give-up-told (give_up z) = (z, refl)
