-- `mending::mend` meets its contract.
-- Assumes nothing.
use mathlib.Core.Path.{sym, ◌∙◌}
use Rattle.mending.proofs.Answering.{sound-answers, sound-writes, sound-reports, unsound-answers}
use Rattle.mending.proofs.mend.Goals as goal

pub returns : goal.returns
returns c =
    let a = c.args in
    let s = sym c.is_sound.ensures ∙ c.if-not-is_sound.false in
    let m = c.mend_sound.ensures in
    record { value = sound-answers _ _ a.s.now a.out.now a.report.now s m.value; out_after = sound-writes _ _ a.s.now a.out.now a.report.now s m.value m.out_after; report_after = sound-reports _ _ a.s.now a.out.now a.report.now s m.value m.report_after }

pub returns-then-not-is_sound : goal.returns-then-not-is_sound
returns-then-not-is_sound c =
    let a = c.args in
    let r = unsound-answers _ _ a.s.now a.out.now a.report.now (sym c.is_sound.ensures ∙ c.if-not-is_sound.true) in record { value = r.0; out_after = r.1; report_after = r.2 }
