-- `most_of` meets its contract.
-- Assumes nothing.
use mathlib.Core.Path.{refl}
use native.Mathlib.Omega.{arith}
use Rattle.searching.proofs.Counting.{square-most, cube-most}
use Rattle.mending.proofs.most_of.Goals as goal

pub overflow_mul-result : goal.overflow_mul-result
overflow_mul-result c = omega (arith, square-most c.args.k c.requires)

pub overflow_mul-result-2 : goal.overflow_mul-result-2
overflow_mul-result-2 c = omega (arith, square-most c.args.k c.requires)

pub overflow_mul-result-3 : goal.overflow_mul-result-3
overflow_mul-result-3 c = omega (arith, cube-most c.args.k c.requires)

pub overflow_add-result : goal.overflow_add-result
overflow_add-result c = omega (arith, square-most c.args.k c.requires, cube-most c.args.k c.requires)

pub overflow_add-result-2 : goal.overflow_add-result-2
overflow_add-result-2 c = omega (arith, square-most c.args.k c.requires, cube-most c.args.k c.requires)

pub overflow_add-result-3 : goal.overflow_add-result-3
overflow_add-result-3 c = omega (arith, square-most c.args.k c.requires, cube-most c.args.k c.requires)

pub returns : goal.returns
returns c = (refl, omega (arith, square-most c.args.k c.requires, cube-most c.args.k c.requires))
