-- `moving::shorten` meets its contract.
-- Assumes nothing.
use mathlib.Core.Path.{sym, ◌∙◌}
use Rattle.moving.proofs.Answers.{shorten-fits, shorten-refused, shorten-whole, shorten-short}
use Rattle.moving.proofs.shorten.Goals as goal

pub returns-in_default : goal.returns-in_default
returns-in_default c =
    let w = shorten-refused _ _ c.survey-r.ensures c.in_default.is in
    record { value = w.0; out_after = w.1 }

pub returns-then-out-size : goal.returns-then-out-size
returns-then-out-size c =
    let w = shorten-short c.args.s.now c.args.out.now _ (sym c.survey-r.ensures ∙ c.in-To.is) c.if-out-size.true in
    record { value = w.0; out_after = w.1 }

pub put_shorts-requires : goal.put_shorts-requires
put_shorts-requires c =
    let w = shorten-fits c.args.s.now c.args.out.now _ (sym c.survey-r.ensures ∙ c.in-To.is) c.if-out-size.false in
    record { s_value = w.0; s_in_bounds = w.1 }

pub returns : goal.returns
returns c =
    let w = shorten-whole c.args.s.now c.args.out.now _ (sym c.survey-r.ensures ∙ c.in-To.is) c.if-out-size.false in
    record { value = w.0; out_after = c.put_shorts.ensures ∙ w.1 }
