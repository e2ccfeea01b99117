-- `moving::lengthen` meets its contract.
-- Assumes nothing.
use Prim.Native.Nat.{◌+◌, ◌*◌}
use mathlib.Core.Path.{sym, ◌∙◌}
use native.Mathlib.Omega.{arith}
use borrow.Author.Tests.{leb-true}
use lib.ListN.{length}
use Rattle.moving.proofs.Answers.{steps-few, lengthen-other, lengthen-unheaded, lengthen-refused, lengthen-fits, lengthen-whole, lengthen-short}
use Rattle.moving.proofs.lengthen.Goals as goal
use Rattle.moving.proofs.lengthen.Goals.{then-not-is_short-via-then-not-is_short, then-not-is_short-via-else-not-is_short+then-not-is_headed}

pub ended-r-requires : goal.ended-r-requires
ended-r-requires c = omega (arith, steps-few c.args.s.now (λ i. omega (arith, c.type_inv.s i)), c.pass-p.ensures.count_value, c.well_formed.0)

pub returns-in_default : goal.returns-in_default
returns-in_default c =
    let w = lengthen-refused c.args.s.now c.args.out.now (sym c.is_short.ensures ∙ c.if-not-is_short.false) (sym c.is_headed.ensures ∙ c.if-not-is_headed.false) _ _ c.pass-p.ensures.count_value c.pass-p.ensures.last_value c.ended-r.ensures c.in_default.is in
    record { value = w.0; out_after = w.1 }

pub put_long-requires : goal.put_long-requires
put_long-requires c = lengthen-fits c.args.s.now c.args.out.now (sym c.is_short.ensures ∙ c.if-not-is_short.false) (sym c.is_headed.ensures ∙ c.if-not-is_headed.false) _ _ c.pass-p.ensures.count_value c.pass-p.ensures.last_value (λ i. omega (arith, c.type_inv.s i)) _ (sym c.ended-r.ensures ∙ c.in-To.is) (sym c.has_room.ensures ∙ c.if-not-has_room.false)

pub overflow_mul-result : goal.overflow_mul-result
overflow_mul-result c = omega (arith, leb-true (c.pass-p.result.count * 16 + 3) (length c.args.out.now) (sym c.has_room.ensures ∙ c.if-not-has_room.false), c.well_formed.1)

pub overflow_add-result : goal.overflow_add-result
overflow_add-result c = omega (arith, leb-true (c.pass-p.result.count * 16 + 3) (length c.args.out.now) (sym c.has_room.ensures ∙ c.if-not-has_room.false), c.well_formed.1)

pub returns : goal.returns
returns c =
    let w = lengthen-whole c.args.s.now c.args.out.now (sym c.is_short.ensures ∙ c.if-not-is_short.false) (sym c.is_headed.ensures ∙ c.if-not-is_headed.false) _ _ c.pass-p.ensures.count_value c.pass-p.ensures.last_value (λ i. omega (arith, c.type_inv.s i)) _ (sym c.ended-r.ensures ∙ c.in-To.is) (sym c.has_room.ensures ∙ c.if-not-has_room.false) in
    record { value = w.0; out_after = c.put_long.ensures ∙ w.1 }

pub returns-then-not-has_room : goal.returns-then-not-has_room
returns-then-not-has_room c =
    let w = lengthen-short c.args.s.now c.args.out.now (sym c.is_short.ensures ∙ c.if-not-is_short.false) (sym c.is_headed.ensures ∙ c.if-not-is_headed.false) _ _ c.pass-p.ensures.count_value c.pass-p.ensures.last_value (λ i. omega (arith, c.type_inv.s i)) _ (sym c.ended-r.ensures ∙ c.in-To.is) (sym c.has_room.ensures ∙ c.if-not-has_room.true) in
    record { value = w.0; out_after = w.1 }

pub returns-then-not-is_short : goal.returns-then-not-is_short
returns-then-not-is_short c =
    elim c.then-not-is_short.branch [
      | then-not-is_short-via-then-not-is_short w ↦ let r = lengthen-other c.args.s.now c.args.out.now (sym c.is_short.ensures ∙ w.if-not-is_short.true) in record { value = r.0; out_after = r.1 }
      | then-not-is_short-via-else-not-is_short+then-not-is_headed w ↦ let r = lengthen-unheaded c.args.s.now c.args.out.now (sym w.is_headed.ensures ∙ w.if-not-is_headed.true) in record { value = r.0; out_after = r.1 }
    ]
