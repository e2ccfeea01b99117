-- `judging::judge` meets its contract.
-- Assumes nothing.
use mathlib.Core.Path.{sym, ◌∙◌}
use Rattle.rules.specs.Sound.{sound_of}
use Rattle.effects.specs.Step.{inner_of, step_of}
use Rattle.stays_sound.proofs.Keeps.{once, kept_step}
use Rattle.judging.specs.Judging.{judge_of}
use Rattle.judging.proofs.Laws.{judged-same}
use Rattle.judging.proofs.judge.Goals as goal

pub returns-then-is_sound : goal.returns-then-is_sound
unfolding judge_of
returns-then-is_sound c =
    let h = sym c.is_sound.ensures ∙ c.if-is_sound.true in
    let a = c.args in
    c.judge_sound.ensures ∙ sym (rw h (judged-same (step_of a.cfg) (inner_of a.cfg) (sound_of a.cfg) (once a.cfg) (kept_step a.cfg) a.allowance a.s.now 0 a.st h))

pub returns : goal.returns
unfolding judge_of
returns c = rw (c.given.ensures, ← c.is_sound.ensures, c.if-is_sound.false)
