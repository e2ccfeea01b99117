-- Accepted steps, one after another: what was triggered was spawned, is pending or was lost at the top, and nothing is lost while there is room.
-- Assumes nothing.
use Prim.Native.Nat.{ℕ, ◌+◌, ◌≤◌}
use mathlib.Core.Bool.{Bool, true, false}
use mathlib.Core.List.{[], ◌∷◌}
use mathlib.Core.Path.{◌≡◌, refl, ap}
use native.Mathlib.Omega.{arith}
use borrow.Author.Tests.{leb-true}
use Rattle.laws.specs.Choice.{bit}
use Rattle.laws.proofs.Choosing.{both_left, both_right}
use Rattle.faces.specs.Types.{Step, Config, State}
use Rattle.effects.specs.Step.{step_of}
use Rattle.history.specs.Promises.{Accepted}
use Rattle.activations.specs.Claims.{pending_of, top_at, triggers, loses, times_triggered, times_lost, times_spawned, RunCounts, NoneLost}
use Rattle.activations.proofs.Steps.{step_counts}

pub run-counts : RunCounts
unfolding Accepted times_triggered times_lost times_spawned
run-counts cfg st st' [] r p e = omega (arith, ap (λ (x : State). pending_of x r) e)
run-counts cfg st st' (s ∷ rs) r p e = omega (arith, step_counts cfg st s r p e.0, run-counts cfg (step_of cfg st s).state st' rs r p e.1)

-- below the top nothing is lost
kept : (cfg : Config) (st : State) (s : Step) (r : ℕ) → pending_of st r + bit (triggers cfg st s r) ≤ top_at cfg r → bit (loses cfg st s r) ≡ 0
unfolding loses
kept cfg st s r h = by (loses cfg st s r) refl
  where
    by : (b : Bool) → loses cfg st s r ≡ b → bit (loses cfg st s r) ≡ 0
    by false e = ap bit e
    by true e =
        let t = ap bit (both_left (triggers cfg st s r) _ e) in
        absurd (omega (arith, h, t, leb-true (top_at cfg r) (pending_of st r) (both_right (triggers cfg st s r) _ e)))

pub none-lost : NoneLost
unfolding Accepted times_triggered times_lost
none-lost cfg st st' [] r p e h = refl
none-lost cfg st st' (s ∷ rs) r p e h =
    let a = step_counts cfg st s r p e.0 in
    let l = kept cfg st s r (omega (arith, h)) in
    omega (arith, l, none-lost cfg (step_of cfg st s).state st' rs r p e.1 (omega (arith, a, l, h)))
