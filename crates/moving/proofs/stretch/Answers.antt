-- `moving::stretch` meets its contract.
-- Assumes nothing.
use Prim.Native.Nat.{◌+◌, ◌*◌}
use mathlib.Core.Path.{sym, ◌∙◌}
use native.Mathlib.Omega.{arith}
use borrow.Author.Tests.{leb-true}
use lib.ListN.{length}
use Rattle.moving.proofs.Answers.{stretch-fits, stretch-whole, stretch-short}
use Rattle.moving.proofs.stretch.Goals as goal

pub put_long-requires : goal.put_long-requires
put_long-requires c = stretch-fits c.args.s.now c.args.out.now (λ i. omega (arith, c.type_inv.s i)) _ _ _ c.pass-p.ensures.count_value c.pass-p.ensures.last_value c.tail-tail.ensures (sym c.has_room.ensures ∙ c.if-not-has_room.false)

pub overflow_mul-result : goal.overflow_mul-result
overflow_mul-result c = omega (arith, leb-true (c.pass-p.result.count * 16 + c.tail-tail.result) (length c.args.out.now) (sym c.has_room.ensures ∙ c.if-not-has_room.false), c.well_formed.1)

pub overflow_add-result : goal.overflow_add-result
overflow_add-result c = omega (arith, leb-true (c.pass-p.result.count * 16 + c.tail-tail.result) (length c.args.out.now) (sym c.has_room.ensures ∙ c.if-not-has_room.false), c.well_formed.1)

pub returns : goal.returns
returns c =
    let w = stretch-whole c.args.s.now c.args.out.now (λ i. omega (arith, c.type_inv.s i)) _ _ _ c.pass-p.ensures.count_value c.pass-p.ensures.last_value c.tail-tail.ensures (sym c.has_room.ensures ∙ c.if-not-has_room.false) in
    record { value = w.0; out_after = c.put_long.ensures ∙ w.1 }

pub returns-then-not-has_room : goal.returns-then-not-has_room
returns-then-not-has_room c =
    let w = stretch-short c.args.s.now c.args.out.now (λ i. omega (arith, c.type_inv.s i)) _ _ _ c.pass-p.ensures.count_value c.pass-p.ensures.last_value c.tail-tail.ensures (sym c.has_room.ensures ∙ c.if-not-has_room.true) in
    record { value = w.0; out_after = w.1 }
