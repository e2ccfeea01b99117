-- `copies::each` meets its contract. The loop has been over the places below its counter.
-- Assumes nothing.
use Prim.Native.Nat.{ℕ}
use mathlib.Core.Path.{◌≡◌}
use Rattle.laws.specs.Row.{each_below}
use Rattle.copies.proofs.each.Given as goal

abbrev pub invariant-loop-k : goal.invariant-loop-k
invariant-loop-k g l = (h : ℕ → _ → _) (d : _) → ((k : ℕ) (x y : _) → goal.F-post g l.f k x y → y ≡ h k x) → l.row ≡ each_below h d l.k l.initial.row
