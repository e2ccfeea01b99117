-- `writing::write_config` meets its contract.
-- Assumes nothing.
use mathlib.Core.Path.{sym, ◌∙◌}
use native.Mathlib.Omega.{arith}
use Rattle.writing.proofs.Texts.{config-short, config-unsound, all-written}
use Rattle.writing.proofs.write_config.Goals as goal

pub returns-then-not-config_sound : goal.returns-then-not-config_sound
returns-then-not-config_sound c =
    let p = config-unsound c.args.cfg c.args.buf.now (sym c.config_sound.ensures ∙ c.if-not-config_sound.true) in
    record { value = p.0; buf_after = p.1 }

pub returns-then-buf-size : goal.returns-then-buf-size
returns-then-buf-size c =
    let p = config-short c.args.cfg c.args.buf.now (sym c.config_sound.ensures ∙ c.if-not-config_sound.false) (omega (arith, c.parts_size-size.ensures, c.if-buf-size.true)) in
    record { value = p.0; buf_after = p.1 }

pub returns : goal.returns
returns c =
    let p = all-written c.args.cfg c.args.buf.now c.write.new.buf c.write_parts.new.buf c.write-2.new.buf c.write.result c.write_parts.result c.write-2.result c.parts_size-size.result c.parts_size-size.ensures c.if-buf-size.false c.write.ensures c.write_parts.ensures c.write-2.ensures (sym c.config_sound.ensures ∙ c.if-not-config_sound.false) in
    record { value = p.0; buf_after = p.1 }
