-- `writing::parts_size` meets its contract.
-- Assumes nothing.
use Prim.Native.Nat.{ℕ, ◌+◌}
use mathlib.Core.Path.{sym, ap₂, ◌∙◌}
use native.Mathlib.Omega.{arith}
use Rattle.laws.proofs.Looping.{sum-none, sum_more}
use Rattle.writing.specs.Writing.{kind_size}
use Rattle.writing.proofs.parts_size.Goals as goal

pub loop-j-init : goal.loop-j-init
loop-j-init c = (omega arith, sym (sum-none (λ (k : ℕ). kind_size c.args.cfg (0x10 + k))))

pub loop-j-preserved : goal.loop-j-preserved
loop-j-preserved c =
    (omega (arith, c.kind_size), rw (sum_more (λ (k : ℕ). kind_size c.args.cfg (0x10 + k)) c.loop-j.j) (ap₂ ◌+◌ c.loop-j.invariant.1 (c.from-size.ensures ∙ c.kind_size.ensures)))
