-- `lines::put_decimal` meets its contract.
-- Assumes nothing.
use mathlib.Core.Path.{sym, ap, ◌∙◌}
use native.Mathlib.Omega.{arith}
use lib.ListN.{length}
use Rattle.lines.proofs.Laws.{digits_decimal, digits-most}
use Rattle.lines.proofs.put_decimal.Goals as goal

pub returns : goal.returns
returns c =
    let d = c.decimal-size in
    let e = d.ensures.digits ∙ digits_decimal _ _ d.ensures.len in
    let l = sym (ap length e) ∙ sym d.ensures.in_bounds.1 in
    let fits = digits-most _ _ (omega arith) d.ensures.len in
    record { written = rw e at c.write.ensures; n_len_bound = omega arith }
