-- `merging::survey` meets its contract: what is ahead makes up the rest of what is behind (`Surveying`).
-- Assumes nothing.
use mathlib.Core.Bool.{false}
use mathlib.Core.Path.{◌≡◌, sym, ◌∙◌}
use native.Mathlib.Omega.{arith}
use Rattle.recording.proofs.Loops.{step_room}
use Rattle.merging.proofs.Waits.{adds-up}
use Rattle.merging.specs.Waits.{adds_up}
use Rattle.merging.proofs.Walking.{held, no-wait, no-step, surveying-starts, surveying-room, surveying-joined, surveying-next, surveying-ended}
use Rattle.merging.proofs.survey.Goals as goal
use Rattle.merging.proofs.survey.Goals.{in-Some, in_default-last, in_default-last-via-in-Some+else-adds_up, in_default-last-via-in_default-last}

pub loop-x-init : goal.loop-x-init
loop-x-init c = surveying-starts _

pub ended-requires : goal.ended-requires
ended-requires c = let r = surveying-room _ _ _ _ _ c.loop-x.invariant in omega (arith, r.0, r.1)

pub returns-in_default : goal.returns-in_default
returns-in_default c = c.ended.ensures ∙ surveying-ended _ _ _ _ _ c.loop-x.invariant _ (no-step _ _ c.in_default.not-Step c.read_field-f.ensures)

pub joined-requires : goal.joined-requires
joined-requires c = (adds-up _ _ (sym c.adds_up.ensures ∙ c.if-adds_up.true)).fits

pub overflow_add-steps : goal.overflow_add-steps
overflow_add-steps c = let r = surveying-room _ _ _ _ _ c.loop-x.invariant in omega (arith, r.0, r.1)

pub overflow_add-count : goal.overflow_add-count
overflow_add-count c = let r = surveying-room _ _ _ _ _ c.loop-x.invariant in omega (arith, r.0, r.1)

pub overflow_add-at : goal.overflow_add-at
overflow_add-at c = let r = step_room _ _ _ _ c.loop-x.invariant.inside (sym c.read_field-f.ensures ∙ c.in-Step.is) in omega (arith, r.0, r.1)

pub loop-x-smaller : goal.loop-x-smaller
loop-x-smaller c = let r = step_room _ _ _ _ c.loop-x.invariant.inside (sym c.read_field-f.ensures ∙ c.in-Step.is) in omega (arith, r.0, r.1)

pub loop-x-preserved : goal.loop-x-preserved
loop-x-preserved c =
    let e = sym c.read_field-f.ensures ∙ c.in-Step.is in
    elim c.match-last.branch [
      | in-Some w ↦ rw (w.last-is, w.steps-is, w.joined.ensures) (surveying-joined _ _ _ _ _ (rw w.in-Some.is at c.loop-x.invariant) _ _ e (sym w.adds_up.ensures ∙ w.if-adds_up.true))
      | in_default-last w ↦
          let apart : adds_up (held c.loop-x.last) c.in-Step.x ≡ false = elim w.in_default-last.branch [
            | in_default-last-via-in-Some+else-adds_up v ↦ rw v.in-Some.is (sym v.adds_up.ensures ∙ v.if-adds_up.false)
            | in_default-last-via-in_default-last v ↦ rw v.in_default-last.is (no-wait _)
          ] in
          rw (w.last-is, w.steps-is) (surveying-next _ _ _ _ _ c.loop-x.invariant _ _ e apart)
    ]
