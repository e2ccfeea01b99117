-- `copies::given_elements` meets its contract. The loop has been over the places below its counter, and takes one more by `given-more`.
-- Assumes nothing.
use mathlib.Core.Path.{◌≡◌}
use native.Mathlib.Omega.{arith}
use Rattle.copies.proofs.Given.{given-none, given-more}
use Rattle.copies.proofs.given_elements.Goals as goal

pub loop-j-init : goal.loop-j-init
loop-j-init c = rw given-none

pub loop-j-preserved : goal.loop-j-preserved
loop-j-preserved c = rw (c.given_at-u.ensures, c.loop-j.invariant, given-more)

pub returns : goal.returns
returns c =
    let e : c.loop-j.j ≡ 4 = omega arith in
    rw e at c.loop-j.invariant
