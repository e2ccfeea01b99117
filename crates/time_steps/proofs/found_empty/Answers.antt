-- `time_steps::found_empty` meets its contract.
-- Assumes nothing.
use Prim.Native.Nat.{◌<◌}
use borrow.Author.Tests.{lt-ltb}
use mathlib.Core.Path.{◌≡◌}
use native.Mathlib.Omega.{arith}
use Rattle.laws.proofs.Looping.{first-here, first_more, first-none}
use Rattle.effects.specs.Steps.{found_empty, is_empty_at, lowest_empty}
use Rattle.time_steps.proofs.found_empty.Goals as goal

pub loop-k-init : goal.loop-k-init
loop-k-init c = first-none _

pub loop-k-preserved : goal.loop-k-preserved
unfolding is_empty_at
loop-k-preserved c = first_more (is_empty_at _) c.loop-k.k c.loop-k.invariant (rw (← c.get.ensures, c.if-not-get.false))

pub returns-then-not-get : goal.returns-then-not-get
unfolding found_empty lowest_empty is_empty_at
returns-then-not-get c =
    let b : c.loop-k.k < 32 = omega arith in
    rw (first-here (is_empty_at c.args.t) 32 c.loop-k.k c.loop-k.invariant (rw (← c.get.ensures, c.if-not-get.true)) b, lt-ltb _ _ b)

pub returns-after-loop-k : goal.returns-after-loop-k
unfolding found_empty lowest_empty
returns-after-loop-k c =
    let k : c.loop-k.k ≡ 32 = omega arith in
    rw (rw k at c.loop-k.invariant)
