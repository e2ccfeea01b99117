-- `forms::step_by` meets its contract.
-- Assumes nothing.
use native.Mathlib.Omega.{arith}
use Rattle.forms.proofs.Laws.{claim-most, value-size-most}
use Rattle.forms.proofs.step_by.Goals as goal

pub overflow_add-end : goal.overflow_add-end
overflow_add-end c = omega (arith, c.claim_at-at.ensures, claim-most c.args.r c.args.t.now, c.value_size.ensures, value-size-most c.byte_at.result)
