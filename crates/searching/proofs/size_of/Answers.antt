-- `size_of` meets its contract.
-- Assumes nothing.
use native.Mathlib.Omega.{arith}
use borrow.Author.Tests.{ne_eqb}
use Rattle.searching.specs.Search.{size_of}
use Rattle.searching.proofs.Counting.{square-most, cube-most}
use Rattle.searching.proofs.size_of.Goals as goal

pub overflow_mul-result : goal.overflow_mul-result
overflow_mul-result c = omega (arith, square-most c.args.k c.requires)

pub overflow_mul-result-in_default : goal.overflow_mul-result-in_default
overflow_mul-result-in_default c = omega (arith, square-most c.args.k c.requires)

pub overflow_mul-result-in_default-2 : goal.overflow_mul-result-in_default-2
overflow_mul-result-in_default-2 c = omega (arith, cube-most c.args.k c.requires)

pub returns-in-0 : goal.returns-in-0
unfolding size_of
returns-in-0 c = (rw c.in-0.is, omega arith, λ h. omega arith)

pub returns-in-1 : goal.returns-in-1
unfolding size_of
returns-in-1 c = (rw c.in-1.is, omega arith, λ h. omega arith)

pub returns-in-2 : goal.returns-in-2
unfolding size_of
returns-in-2 c = (rw c.in-2.is, omega (arith, square-most c.args.k c.requires), λ h. square-most c.args.k c.requires)

pub returns-in_default : goal.returns-in_default
unfolding size_of
returns-in_default c = (rw (ne_eqb c.args.n 0 (omega arith), ne_eqb c.args.n 1 (omega arith), ne_eqb c.args.n 2 (omega arith)), cube-most c.args.k c.requires, λ h. omega arith)
