-- What a choice is, and that it can be written down with its answer as its claim: the answers of spawns, timeouts and ticks are good values of 32 bits.
-- Assumes nothing.
use Prim.Native.Nat.{ℕ, ◌<◌, ◌^◌}
use mathlib.Core.Bool.{true}
use mathlib.Core.Path.{◌≡◌, refl}
use native.Mathlib.Omega.{arith}
use Rattle.numbers.specs.Codes.{spawn_code, timeout_code, tick_code}
use Rattle.faces.specs.Types.{Value, Step, Config, State, Stepped}
use Rattle.values.specs.Values.{answer_value, is_kind, is_good}
use Rattle.state.specs.Tables.{max_slots}
use Rattle.effects.specs.Steps.{lowest_empty}
use Rattle.stays_sound.proofs.Ways.{Way, Went, bars, goes, went}
use Rattle.stays_sound.proofs.Ways as go
use Rattle.recording.specs.Recording.{values_good, Recorded}
use Rattle.gaps.specs.Gaps.{choice, answered}

-- a value that a recording can hold
pub record Fit (v : Value) : Type 0 where
  pub good : is_good v ≡ true
  pub small : v.number < 2 ^ 32

void-fits : Fit (record { kind = 0; number = 0 })
unfolding is_kind is_good
void-fits = record { good = refl; small = omega arith }

number_fits : (n : ℕ) → n < max_slots → Fit (record { kind = 1; number = n })
unfolding is_good
number_fits n h = record { good = refl; small = omega arith }

-- the code of a choice
pub data Chosen : ℕ → Type 0 where
  spawn : Chosen spawn_code
  timeout : Chosen timeout_code
  tick : Chosen tick_code

module _ (cfg : Config) (st : State) where
  way-fits : {n : ℕ} {x : Step} {w : Value} {t : State} → Chosen n → Way cfg st x n w t → Fit w
  way-fits spawn (go.spawn z) = number_fits (lowest_empty st.slots) z.slot
  way-fits timeout (go.timeout z) = void-fits
  way-fits tick (go.tick z) = void-fits

  -- beside a refusal stands Void
  went-fits : {n : ℕ} {x : Step} {r : Stepped} → Chosen n → Went cfg st x n r → Fit (answer_value r.answer)
  went-fits c (bars b) = void-fits
  went-fits c (goes w) = way-fits c w

  pub answered-recorded : (code k : ℕ) → Chosen code → Recorded (answered cfg st (choice code k))
  unfolding values_good is_kind is_good
  answered-recorded code k c = let f = went-fits c (went cfg st (choice code k)) in record { good = f.good; argument = omega arith; claim = f.small }
