-- A refused step leaves the state as it was, and its number is never 0: of each way to be refused, then of the whole step.
-- Assumes nothing.
use Prim.Native.Nat.{ℕ, ◌<◌}
use mathlib.Core.Path.{◌≡◌, refl, sym, ap, subst}
use native.Mathlib.Omega.{arith}
use Rattle.numbers.specs.Refusals.{not_sound, other_answer}
use Rattle.laws.specs.Choice.{pick}
use Rattle.laws.proofs.Choosing.{pick-has}
use Rattle.faces.specs.Types.{Value, Step, Answer, Taken, Refused, Config, State, Stepped}
use Rattle.rules.specs.Sound.{sound_of}
use Rattle.effects.specs.Steps.{refused, took}
use Rattle.effects.specs.Step.{possible_of, on_answer, agrees, claimed_of, inner_of, step_of}
use Rattle.effects.proofs.Codes.{never}
use Rattle.stays_sound.proofs.Ways.{Barred, shared, enter_taken, exit_other, receive_held, call_borne, call_full, collect_open, answer_number, answer_none, end_serving, end_holding, spawn_need, spawn_full, timeout_early, tick_early, wait_far, give_up_early, Went, bars, goes, went}

pub refused-same : (k n : ℕ) → Refused k ≡ Refused n → k ≡ n
refused-same k n e = ap (λ (a : Answer). on_answer a (λ (v : Value). 0) (λ (m : ℕ). m)) e

module _ (cfg : Config) (st : State) where
  -- if it is a refusal, then of this state, by a number
  abbrev pub Fair : Stepped → Type 0
  Fair r = (n : ℕ) → r.answer ≡ Refused n → (r.state ≡ st) × (0 < n)

  took-fair : (v : Value) (t : State) → Fair (took v t)
  took-fair v t n e = absurd (never (sym e))

  refused-fair : (k : ℕ) → 0 < k → Fair (refused k st)
  refused-fair k p n e = (refl, subst (λ (m : ℕ). 0 < m) (refused-same k n e) p)

  -- ---- each way to be refused, and each step

  barred-fair : {n : ℕ} {s : Step} {k : ℕ} → Barred cfg st s n k → 0 < k
  barred-fair (shared n) = omega (arith, n)
  barred-fair (enter_taken e) = omega arith
  barred-fair (exit_other e) = omega arith
  barred-fair (receive_held e w) = omega arith
  barred-fair (call_borne a b) = omega arith
  barred-fair (call_full a b) = omega arith
  barred-fair (collect_open e) = omega arith
  barred-fair (answer_number e) = omega arith
  barred-fair (answer_none e) = omega arith
  barred-fair (end_serving e) = omega arith
  barred-fair (end_holding a b) = omega arith
  barred-fair (spawn_need e) = omega arith
  barred-fair (spawn_full a b) = omega arith
  barred-fair (timeout_early e) = omega arith
  barred-fair (tick_early e) = omega arith
  barred-fair (wait_far e) = omega arith
  barred-fair (give_up_early e) = omega arith

  went-fair : {n : ℕ} {s : Step} {r : Stepped} → Went cfg st s n r → Fair r
  went-fair (bars b) = refused-fair _ (barred-fair b)
  went-fair (goes w) = took-fair _ _

  pub possible-fair : (s : Step) → Fair (possible_of cfg st s)
  possible-fair s = went-fair (went cfg st s)

  -- ---- with the claim, and the test of soundness

  pub claimed-fair : (s : Step) (r : Stepped) → Fair r → Fair (claimed_of s st r)
  unfolding claimed_of
  claimed-fair s r p = go r.answer
    where
      go : (a : Answer) → Fair (on_answer a (λ (v : Value). pick (agrees s.code v s.claim) r (refused other_answer st)) (λ (n : ℕ). r))
      go (Taken v) = pick-has Fair (agrees s.code v s.claim) r (refused other_answer st) (λ e. p) (λ e. refused-fair other_answer (omega arith))
      go (Refused n) = p

  pub step-fair : (s : Step) → Fair (step_of cfg st s)
  unfolding step_of inner_of
  step-fair s = pick-has Fair (sound_of cfg st) _ _ (λ e. claimed-fair s (possible_of cfg st s) (possible-fair s)) (λ e. refused-fair not_sound (omega arith))

-- ---- told apart

-- a refusal leaves the state as it was
pub refusal-keeps : (cfg : Config) (st : State) (s : Step) (n : ℕ) → (step_of cfg st s).answer ≡ Refused n → (step_of cfg st s).state ≡ st
refusal-keeps cfg st s n e = (step-fair cfg st s n e).0

-- and has a number
pub never-zero : (cfg : Config) (st : State) (s : Step) (n : ℕ) → (step_of cfg st s).answer ≡ Refused n → 0 < n
never-zero cfg st s n e = (step-fair cfg st s n e).1
