-- `round_trips::rewrite_config` meets its contract.
-- Assumes nothing.
use native.Mathlib.Omega.{arith}
use Rattle.round_trips.proofs.Again.{again-whole, again-refused}
use Rattle.round_trips.proofs.rewrite_config.Goals as goal

pub returns-in-Whole : goal.returns-in-Whole
returns-in-Whole c =
    let p = again-whole c.args.s.now c.args.buf.now c.read_config-read.result c.read_config-read.ensures (λ i. omega (arith, c.type_inv.s i)) c.in-Whole.is
    c.write_config.result c.write_config.new.buf c.write_config.ensures.value c.write_config.ensures.buf_after in
    record { value = p.0; buf_after = p.1 }

pub returns-in-Refused : goal.returns-in-Refused
returns-in-Refused c =
    let p = again-refused c.args.s.now c.args.buf.now c.read_config-read.result c.read_config-read.ensures _ _ c.in-Refused.is in
    record { value = p.0; buf_after = p.1 }
