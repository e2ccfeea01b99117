-- `copying::rewrite` meets its contract. The loop has copied the fields before its place (`Copying`).
-- Assumes nothing.
use native.Mathlib.Omega.{arith}
use mathlib.Core.Bool.{false}
use mathlib.Core.Path.{◌≡◌, sym, ◌∙◌}
use Rattle.recording.specs.Whole.{is_sound}
use Rattle.recording.proofs.Loops.{copying-starts, step_room, copying-step, copying-end, copying-on, again-short, again-whole}
use Rattle.copying.proofs.rewrite.Goals as goal

pub returns-then-buf-s : goal.returns-then-buf-s
returns-then-buf-s c =
    let p = again-short c.args.s.now c.args.buf.now (sym c.is_sound.ensures ∙ c.if-not-is_sound.false) c.if-buf-s.true in
    record { value = p.0; buf_after = p.1 }

pub returns-then-not-is_sound : goal.returns-then-not-is_sound
returns-then-not-is_sound c =
    let g : is_sound c.args.s.now ≡ false = sym c.is_sound.ensures ∙ c.if-not-is_sound.true in
    record { value = rw g; buf_after = rw g }

pub loop-step-init : goal.loop-step-init
loop-step-init c =
    copying-starts c.args.s.now c.args.buf.now (sym c.is_sound.ensures ∙ c.if-not-is_sound.false)

pub overflow_add-at : goal.overflow_add-at
overflow_add-at c =
    let loop = c.loop-step in
    let r = step_room c.args.s.now loop.at _ _ loop.invariant.inside (sym c.in-Step.ensures) in omega (arith, r.0)

pub loop-step-smaller : goal.loop-step-smaller
loop-step-smaller c =
    let loop = c.loop-step in
    let r = step_room c.args.s.now loop.at _ _ loop.invariant.inside (sym c.in-Step.ensures) in omega (arith, r.0, r.1)

pub loop-step-preserved : goal.loop-step-preserved
loop-step-preserved c =
    let loop = c.loop-step in
    let if2 = c.if-buf-s in
    copying-step c.args.s.now c.args.buf.now loop.buf c.write_step.new.buf loop.at loop.invariant if2.false
    _ _ (λ i. omega (arith, c.type_inv.s i)) (sym c.in-Step.ensures) c.write_step.ensures.buf_after

pub shape_of-buf-in-End : goal.shape_of-buf-in-End
shape_of-buf-in-End c =
    let loop = c.loop-step in
    c.write_end.auto.buf ∙ loop.invariant.same

pub returns-in-End : goal.returns-in-End
returns-in-End c =
    let loop = c.loop-step in
    let if2 = c.if-buf-s in
    let is-sound = c.is_sound in
    let if1 = c.if-not-is_sound in
    let p = copying-end c.args.s.now c.args.buf.now loop.buf c.write_end.new.buf loop.at loop.invariant if2.false c.write_end.result (sym c.in-End.ensures) c.write_end.ensures in
    let q = again-whole c.args.s.now c.args.buf.now (sym is-sound.ensures ∙ if1.false) if2.false in
    record { value = p.0 ∙ q.0; buf_after = p.1 ∙ q.1 }

pub shape_of-buf-in-Refused : goal.shape_of-buf-in-Refused
shape_of-buf-in-Refused c =
    let loop = c.loop-step in
    loop.invariant.same

pub returns-in-Refused : goal.returns-in-Refused
returns-in-Refused c =
    let loop = c.loop-step in
    let if2 = c.if-buf-s in
    copying-on c.args.s.now c.args.buf.now loop.buf loop.buf loop.at loop.invariant if2.false _ _ (sym c.in-Refused.ensures)
