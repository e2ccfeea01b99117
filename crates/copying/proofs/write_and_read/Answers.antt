-- `copying::write_and_read` meets its contract.
-- Assumes nothing.
use Prim.Native.Nat.{◌<◌, ◌^◌}
use native.Mathlib.Omega.{arith}
use mathlib.Core.Path.{◌∙◌}
use Rattle.recording.proofs.Loops.{back_read, back-refused}
use Rattle.copying.proofs.write_and_read.Goals as goal

pub returns-in-To : goal.returns-in-To
returns-in-To c =
    let ha : c.args.s.argument.number < 2 ^ 32 = omega arith in
    let hc : c.args.s.claim.number < 2 ^ 32 = omega arith in
    record { value = c.read_field.ensures ∙ back_read c.args.buf.now c.write_step.new.buf c.args.at c.args.s c.write_step.result c.write_step.ensures.value c.write_step.ensures.buf_after _ ha hc c.in-To.is; buf_after = c.write_step.ensures.buf_after }

pub returns-in-Refused : goal.returns-in-Refused
returns-in-Refused c = record { value = back-refused c.args.buf.now c.write_step.new.buf c.args.at c.args.s c.write_step.result c.write_step.ensures.value c.write_step.ensures.buf_after _ c.in-Refused.is; buf_after = c.write_step.ensures.buf_after }
