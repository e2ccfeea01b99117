-- Variables and timers stay sound.
-- Assumes nothing.
use Prim.Native.Nat.{ℕ, ◌-◌}
use mathlib.Core.Bool.{true}
use mathlib.Core.Path.{◌≡◌}
use native.Mathlib.Omega.{arith}
use lib.ListN.{get_or}
use borrow.Author.Tests.{leb-true, lt-ltb, le-leb}
use Rattle.laws.proofs.Places.{all-put, all-each}
use Rattle.faces.specs.Types.{Value, Config, Timer, State}
use Rattle.config.specs.Tables.{max_variable_confs, max_timer_confs, timer_conf_in}
use Rattle.state.specs.Parts.{no_variable, no_timer}
use Rattle.rules.specs.Sound.{variable_sound, variables_sound, timer_sound, timers_sound}
use Rattle.effects.specs.Steps.{stored, ticked, timer_after, timers_after, waited}
use Rattle.state.specs.Places.{place_in, with_place}
use Rattle.stays_sound.specs.Facts.{Sound, CanWriteVariable, CanTick, CanWait}

-- ---- step by step

module _ (cfg : Config) (st : State) where
  pub write-variable-keeps-variables : (i v : ℕ) (x : Value) → Sound cfg st → CanWriteVariable cfg st i v x → variables_sound cfg (stored st v x).variables ≡ true
  unfolding variables_sound variable_sound place_in with_place
  write-variable-keeps-variables i v x s z =
      all-put (λ k y. variable_sound cfg k y) st.variables.at v max_variable_confs (record { value = x }) no_variable s.variables (rw (lt-ltb v cfg.variables.n z.inside) z.payload)

  pub tick-keeps-timers : (t : ℕ) → Sound cfg st → CanTick cfg st t → timers_sound cfg (ticked cfg st t).timers ≡ true
  unfolding timers_sound timer_sound place_in with_place
  tick-keeps-timers t s z =
      all-put (λ k y. timer_sound cfg k y) st.timers.at t max_timer_confs (record { count = (timer_conf_in cfg.timers t).period }) no_timer s.timers
      (le-leb (timer_conf_in cfg.timers t).period (timer_conf_in cfg.timers t).period (omega arith))

  pub wait-keeps-timers : (t : ℕ) → Sound cfg st → CanWait cfg st t → timers_sound cfg (waited cfg st t).timers ≡ true
  unfolding waited timers_sound timer_sound place_in timers_after
  wait-keeps-timers t s z =
      all-each (λ (k : ℕ) (x : Timer). timer_after t x) no_timer (λ k y. timer_sound cfg k y) cfg.timers.n max_timer_confs st.timers.at s.timers
      (λ k b c h. le-leb ((get_or st.timers.at k no_timer).count - t) (timer_conf_in cfg.timers k).period (omega (arith, leb-true (get_or st.timers.at k no_timer).count (timer_conf_in cfg.timers k).period h)))
