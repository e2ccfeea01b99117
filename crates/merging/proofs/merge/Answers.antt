-- `merging::merge` meets its contract.
-- Assumes nothing.
use mathlib.Core.Path.{sym, ◌∙◌}
use Rattle.merging.proofs.Walking.{survey-fits, refused-to, whole_to, short-to}
use Rattle.merging.proofs.merge.Goals as goal

pub returns-in_default : goal.returns-in_default
returns-in_default c = let w = refused-to _ _ c.survey-r.ensures c.in_default.is in record { value = w.0; out_after = w.1 }

pub write_all-requires : goal.write_all-requires
write_all-requires c = survey-fits c.args.s.now c.args.out.now _ (sym c.survey-r.ensures ∙ c.in-Whole.is) (sym c.has_room.ensures ∙ c.if-not-has_room.false)

pub returns : goal.returns
returns c =
    let w = whole_to c.args.s.now c.args.out.now _ (sym c.survey-r.ensures ∙ c.in-Whole.is) (sym c.has_room.ensures ∙ c.if-not-has_room.false) in
    record { value = w.0; out_after = c.write_all.ensures ∙ w.1 }

pub returns-then-not-has_room : goal.returns-then-not-has_room
returns-then-not-has_room c =
    let w = short-to c.args.s.now c.args.out.now _ (sym c.survey-r.ensures ∙ c.in-Whole.is) (sym c.has_room.ensures ∙ c.if-not-has_room.true) in
    record { value = w.0; out_after = w.1 }
