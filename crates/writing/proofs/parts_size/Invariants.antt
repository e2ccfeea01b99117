-- `writing::parts_size` meets its contract.
-- Assumes nothing.
use Prim.Native.Nat.{ℕ, ◌+◌, ◌*◌, ◌≤◌}
use mathlib.Core.Path.{◌≡◌}
use Rattle.laws.specs.Loop.{sum_below}
use Rattle.writing.specs.Writing.{kind_size}
use Rattle.writing.proofs.parts_size.Given as goal

abbrev pub invariant-loop-j : goal.invariant-loop-j
invariant-loop-j l = (l.size ≤ l.j * 65535) × (l.size ≡ sum_below (λ (k : ℕ). kind_size l.cfg (0x10 + k)) l.j)
