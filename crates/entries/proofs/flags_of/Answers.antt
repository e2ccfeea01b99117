-- `entries::flags_of` meets its contract: three flags make at most 7.
-- Assumes nothing.
use native.Mathlib.Omega.{arith}
use Rattle.laws.proofs.Choosing.{bit-most}
use Rattle.entries.proofs.flags_of.Goals as goal

pub overflow_mul-result : goal.overflow_mul-result
overflow_mul-result c = omega (arith, c.bit-2.ensures, bit-most c.args.x.init)

pub overflow_add-result : goal.overflow_add-result
overflow_add-result c = omega (arith, c.bit-2.ensures, bit-most c.args.x.init, c.bit.ensures, bit-most c.args.x.concurrent)

pub overflow_mul-result-2 : goal.overflow_mul-result-2
overflow_mul-result-2 c = omega (arith, c.bit-3.ensures, bit-most c.args.x.counting)

pub overflow_add-result-2 : goal.overflow_add-result-2
overflow_add-result-2 c =
    let x = c.args.x in
    omega (arith, c.bit-3.ensures, bit-most x.counting, c.bit-2.ensures, bit-most x.init, c.bit.ensures, bit-most x.concurrent)

pub returns : goal.returns
returns c = rw (c.bit.ensures, c.bit-2.ensures, c.bit-3.ensures)
