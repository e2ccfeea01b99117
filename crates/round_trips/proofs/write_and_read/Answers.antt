-- `round_trips::write_and_read` meets its contract.
-- Assumes nothing.
use Prim.Native.Nat.{ℕ, ◌<◌, ◌^◌}
use mathlib.Core.Path.{sym, ap, ◌∙◌}
use lib.ListN.{get_or}
use lib.Seq.{length-take-le}
use Rattle.config.specs.declared.Config.{Config}
use Rattle.config.specs.Tables.{no_variable_conf}
use Rattle.reading.specs.declared.Outcome.TheVariants.{Refused}
use Rattle.reading.specs.Reading.{refused_at}
use Rattle.round_trips.proofs.Fitting.{initials-fit}
use Rattle.round_trips.proofs.Back.{back-size, back_whole, back-refused}
use Rattle.round_trips.proofs.write_and_read.Goals as goal

pub slice_bounds-read_config-end : goal.slice_bounds-read_config-end
slice_bounds-read_config-end c =
    let write-config = c.write_config in
    back-size c.args.buf.now write-config.new.buf c.args.cfg write-config.result write-config.ensures.value write-config.ensures.buf_after c.in-To.size c.in-To.is

pub slice_bounds-read_config-end-in-To : goal.slice_bounds-read_config-end-in-To
slice_bounds-read_config-end-in-To c =
    let write-config = c.write_config in
    sym (length-take-le c.in-To.size write-config.new.buf (back-size c.args.buf.now write-config.new.buf c.args.cfg write-config.result write-config.ensures.value write-config.ensures.buf_after c.in-To.size c.in-To.is))

pub returns-in-To : goal.returns-in-To
returns-in-To c =
    let write-config = c.write_config in
    let v : (i : ℕ) → (get_or c.args.cfg.variables.at i no_variable_conf).initial < 2 ^ 32 = initials-fit c.args.cfg.variables.at _ c.well_formed.1.0.1.1.1.0.1.1.1.0.1.1 in
    record { value = c.read_config.ensures ∙ back_whole c.args.buf.now write-config.new.buf c.args.cfg write-config.result write-config.ensures.value write-config.ensures.buf_after c.in-To.size v c.in-To.is; buf_after = write-config.ensures.buf_after }

pub returns-in-Refused : goal.returns-in-Refused
unfolding refused_at
returns-in-Refused c =
    let write-config = c.write_config in
    record { value = ap (λ (x : Config). record { outcome = Refused 0 c.in-Refused.number; config = x }) c.none.ensures ∙ back-refused c.args.buf.now write-config.new.buf c.args.cfg write-config.result write-config.ensures.value write-config.ensures.buf_after c.in-Refused.number c.in-Refused.is; buf_after = write-config.ensures.buf_after }
