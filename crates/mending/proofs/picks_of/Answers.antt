-- `picks_of` meets its contract.
-- Assumes nothing.
use Prim.Native.Nat.{◌*◌}
use native.Mathlib.Nat.{one-le-mul}
use mathlib.Core.Path.{sym, ◌∙◌}
use native.Mathlib.Omega.{arith}
use Rattle.searching.proofs.Counting.{square-most, cube-most, some_of}
use Rattle.mending.proofs.Ranking.{picks-none, picks-one, picks-two, picks-three, picks-past}
use Rattle.mending.proofs.picks_of.Goals as goal

pub returns-then-rank-lt1 : goal.returns-then-rank-lt1
returns-then-rank-lt1 c = (c.of.ensures ∙ sym (picks-none _ _ c.if-rank-lt1.true), rw c.of.ensures (omega arith))

pub returns-then-a-k : goal.returns-then-a-k
returns-then-a-k c = (c.of-then-a-k.ensures ∙ sym (picks-one _ _ c.if-rank-lt1.false c.if-a-k.true), rw c.of-then-a-k.ensures (omega arith))

pub overflow_mul-square : goal.overflow_mul-square
overflow_mul-square c = omega (arith, square-most c.args.k c.requires)

pub nonzero_div-b : goal.nonzero_div-b
nonzero_div-b c = some_of c.args.k c.args.k _ c.if-b-square.true

pub nonzero_rem-b : goal.nonzero_rem-b
nonzero_rem-b c = some_of c.args.k c.args.k _ c.if-b-square.true

pub returns-then-b-square : goal.returns-then-b-square
returns-then-b-square c = (c.of-then-b-square.ensures ∙ sym (picks-two _ _ c.if-rank-lt1.false c.if-a-k.false c.if-b-square.true), rw c.of-then-b-square.ensures (omega arith))

pub overflow_mul-k : goal.overflow_mul-k
overflow_mul-k c = omega (arith, cube-most c.args.k c.requires)

pub nonzero_rem-d : goal.nonzero_rem-d
nonzero_rem-d c = let h = some_of c.args.k (c.args.k * c.args.k) _ c.if-c-k.true in one-le-mul h h

pub nonzero_div-c : goal.nonzero_div-c
nonzero_div-c c = let h = some_of c.args.k (c.args.k * c.args.k) _ c.if-c-k.true in one-le-mul h h

pub nonzero_div-d : goal.nonzero_div-d
nonzero_div-d c = some_of c.args.k (c.args.k * c.args.k) _ c.if-c-k.true

pub nonzero_rem-d-then-c-k : goal.nonzero_rem-d-then-c-k
nonzero_rem-d-then-c-k c = some_of c.args.k (c.args.k * c.args.k) _ c.if-c-k.true

pub returns-then-c-k : goal.returns-then-c-k
returns-then-c-k c = (c.of-then-c-k.ensures ∙ sym (picks-three _ _ c.if-rank-lt1.false c.if-a-k.false c.if-b-square.false c.if-c-k.true), rw c.of-then-c-k.ensures (omega arith))

pub returns : goal.returns
returns c = (c.of-2.ensures ∙ sym (picks-past _ _ c.if-rank-lt1.false c.if-a-k.false c.if-b-square.false c.if-c-k.false), rw c.of-2.ensures (omega arith))
