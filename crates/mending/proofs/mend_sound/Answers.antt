-- `mend_sound` meets its contract.
-- Assumes nothing.
use mathlib.Core.Path.{refl, sym, ◌∙◌}
use native.Mathlib.Omega.{arith}
use lib.ListN.{length}
use Rattle.mending.proofs.Answering.{refused-fitted, refused-leaves, fitted-whole, fitted_short, room-told, still-text, still-report}
use Rattle.mending.proofs.mend_sound.Goals as goal

pub returns-in_default : goal.returns-in_default
returns-in_default c = record { value = refused-fitted _ _ c.survey-r.ensures c.in_default.is; out_after = refused-leaves _ _ c.in_default.is; report_after = refused-leaves _ _ c.in_default.is }

pub returns-then-notes-eq0 : goal.returns-then-notes-eq0
returns-then-notes-eq0 c =
    let a = c.args in
    let s = sym c.survey-r.ensures ∙ c.in-Whole.is in
    let h = sym c.has_room.ensures ∙ c.if-not-has_room.false in
    let g = c.in-Whole in
    record { value = fitted-whole a.out.now a.report.now s h; out_after = still-text _ _ a.s.now _ _ s c.if-notes-eq0.true (λ i. omega (arith, c.type_inv.s i)) a.out.now _ (room-told g.steps g.notes (length a.out.now) (length a.report.now) h).0 c.rewrite.ensures.buf_after; report_after = still-report _ _ a.s.now _ _ s c.if-notes-eq0.true (λ i. omega (arith, c.type_inv.s i)) a.report.now }

pub write_all-requires : goal.write_all-requires
write_all-requires c =
    let a = c.args in
    let s = sym c.survey-r.ensures ∙ c.in-Whole.is in
    let h = sym c.has_room.ensures ∙ c.if-not-has_room.false in
    let g = c.in-Whole in
    record { steps = _; notes = _; survey = s; text = (room-told g.steps g.notes (length a.out.now) (length a.report.now) h).0; note = (room-told g.steps g.notes (length a.out.now) (length a.report.now) h).1 }

pub returns-else-notes-eq0 : goal.returns-else-notes-eq0
returns-else-notes-eq0 c =
    let a = c.args in
    let s = sym c.survey-r.ensures ∙ c.in-Whole.is in
    let h = sym c.has_room.ensures ∙ c.if-not-has_room.false in
    record { value = fitted-whole a.out.now a.report.now s h; out_after = c.write_all.ensures.out_after; report_after = c.write_all.ensures.report_after }

pub returns-then-not-has_room : goal.returns-then-not-has_room
returns-then-not-has_room c =
    let a = c.args in
    let s = sym c.survey-r.ensures ∙ c.in-Whole.is in
    let h = sym c.has_room.ensures ∙ c.if-not-has_room.true in
    record { value = fitted_short a.out.now a.report.now s h; out_after = refl; report_after = refl }
