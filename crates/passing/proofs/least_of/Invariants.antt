-- `passing::least_of` meets its contract.
-- Assumes nothing.
use Prim.Native.Nat.{ℕ}
use mathlib.Core.Path.{◌≡◌}
use Rattle.passing.specs.Passing.{least_below}
use Rattle.passing.proofs.least_of.Given as goal

abbrev pub invariant-loop-k : goal.invariant-loop-k
invariant-loop-k g l = (h : ℕ → ℕ) → ((k y : ℕ) → goal.F-post g l.f k y → y ≡ h k) → l.u ≡ least_below h l.t l.k
