-- `rank` meets its contract: all shorter sequences are passed over (`Ranking`).
-- Assumes nothing.
use Prim.Native.Nat.{ℕ}
use mathlib.Core.Path.{◌≡◌, sym, ap, ◌∙◌}
use native.Mathlib.Omega.{arith}
use Rattle.searching.specs.Search.{size_of}
use Rattle.searching.proofs.Searching.{size-rests}
use Rattle.searching.proofs.Ranks.{ranking-starts, ranking-found, ranking-next, ranking-over}
use Rattle.searching.proofs.rank.Goals as goal

pub loop-n-init : goal.loop-n-init
loop-n-init c = ranking-starts _ _

pub overflow_add-result : goal.overflow_add-result
overflow_add-result c = omega (arith, c.loop-n.invariant.most, c.stepper-found.ensures.1)

pub returns-then-found-count : goal.returns-then-found-count
returns-then-found-count c =
    let long = c.size_of-count.ensures.0 ∙ ap (λ (m : ℕ). size_of m c.loop-n.n) c.count_of-k.ensures.is ∙ sym (size-rests _ c.loop-n.n (omega arith)) in
    (ranking-found _ _ c.loop-n.invariant (omega arith) c.stepper-found.ensures.0 long c.if-found-count.true, omega (arith, c.loop-n.invariant.few (omega arith), c.stepper-found.ensures.1))

pub overflow_add-passed : goal.overflow_add-passed
overflow_add-passed c = omega (arith, c.loop-n.invariant.most, c.size_of-count.ensures.1)

pub loop-n-preserved : goal.loop-n-preserved
loop-n-preserved c =
    let long = c.size_of-count.ensures.0 ∙ ap (λ (m : ℕ). size_of m c.loop-n.n) c.count_of-k.ensures.is ∙ sym (size-rests _ c.loop-n.n (omega arith)) in
    ranking-next _ _ c.loop-n.invariant (omega arith) c.stepper-found.ensures.0 long c.if-found-count.false c.size_of-count.ensures.1 c.size_of-count.ensures.2

pub returns : goal.returns
returns c =
    let last : c.loop-n.n ≡ 4 = omega arith in
    (ranking-over _ _ (rw last at c.loop-n.invariant), omega (arith, c.loop-n.invariant.most))
