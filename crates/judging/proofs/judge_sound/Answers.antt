-- `judge_sound` meets its contract. What is ahead is judged as the whole was: the allowance left and the steps taken make up the allowance, and the place is within the text.
-- The measure is the allowance that is left. Assumes nothing.
use Prim.Native.Nat.{ℕ, ◌+◌, ◌-◌}
use Rattle.faces.specs.Types.{Step}
use mathlib.Core.Path.{◌≡◌, refl, sym, ap, ◌∙◌}
use native.Mathlib.Omega.{arith}
use lib.Seq.{drop-drop}
use Rattle.recording.specs.declared.Field.{Field}
use Rattle.recording.specs.declared.Field.TheVariants.{Step as IsStep, End, Refused as NoField}
use Rattle.recording.proofs.OneField.{refused-18}
use Rattle.recording.proofs.Loops.{step_room}
use Rattle.effects.specs.Step.{inner_of}
use Rattle.judging.specs.Judging.{judge_from}
use Rattle.judging.proofs.Laws.{ended, stopped, starved, barred, went}
use Rattle.judging.proofs.judge_sound.Goals as goal
use Rattle.judging.proofs.judge_sound.Goals.{in-Refused, in_default-f}

-- no step and no refusal: the end
neither : (f : Field) → ((x : Step) (n : ℕ) → f ≡ IsStep x n → ⊥) → ((n k : ℕ) → f ≡ NoField n k → ⊥) → f ≡ End
neither (IsStep x n) p q = absurd (p x n refl)
neither End p q = refl
neither (NoField n k) p q = absurd (q n k refl)

pub overflow_add-verdict-in-Refused : goal.overflow_add-verdict-in-Refused
overflow_add-verdict-in-Refused c =
    omega (arith, (refused-18 _ _ _ (sym c.read_field-f.ensures ∙ c.in-Refused.is)).1)

pub returns-in_default : goal.returns-in_default
returns-in_default c =
    elim c.match-f-2.branch [
      | in-Refused w ↦ c.given.ensures ∙ rw w.verdict-is (sym (c.loop-x.invariant.2 ∙ stopped _ _ _ _ _ (sym c.read_field-f.ensures ∙ w.in-Refused.is)))
      | in_default-f w ↦ c.given.ensures ∙ rw w.verdict-is (sym (c.loop-x.invariant.2 ∙ ended _ _ _ _ _ (sym c.read_field-f.ensures ∙ neither _ c.in_default.not-Step w.in_default-f.not-Refused)))
    ]

pub returns-then-left-eq0 : goal.returns-then-left-eq0
returns-then-left-eq0 c =
    let e = sym c.read_field-f.ensures ∙ c.in-Step.is in
    c.given-then-left-eq0.ensures ∙ sym (c.loop-x.invariant.2 ∙ rw c.if-left-eq0.true (starved _ _ _ _ e))

pub returns-in-Refused-answer : goal.returns-in-Refused-answer
returns-in-Refused-answer c =
    let e = sym c.read_field-f.ensures ∙ c.in-Step.is in
    c.given-in-Refused-answer.ensures ∙ sym (c.loop-x.invariant.2 ∙ barred _ _ _ _ _ c.if-left-eq0.false e c.inner-r.ensures c.in-Refused-answer.is)

pub overflow_add-at : goal.overflow_add-at
overflow_add-at c =
    let e = sym c.read_field-f.ensures ∙ c.in-Step.is in
    omega (arith, (step_room _ _ _ _ c.loop-x.invariant.1 e).0, c.well_formed.1.1.0)

pub loop-x-preserved : goal.loop-x-preserved
loop-x-preserved c =
    let e = sym c.read_field-f.ensures ∙ c.in-Step.is in
    let room = (step_room _ _ _ _ c.loop-x.invariant.1 e).0 in
    (omega arith, room, c.loop-x.invariant.2 ∙ went _ _ _ _ _ c.if-left-eq0.false e c.inner-r.ensures c.in_default-answer.is ∙ ap (λ t. judge_from (inner_of c.args.cfg) (c.loop-x.left - 1) t (c.loop-x.count + 1) c.inner-r.result.state) (drop-drop _ c.loop-x.at c.args.s.now))
