-- `merging::write_all` meets its contract.
-- Assumes nothing.
use mathlib.Core.Path.{sym, ◌∙◌}
use Rattle.merging.proofs.Walking.{no-step, none_written}
use Rattle.merging.proofs.write_all.Goals as goal

pub returns-in_default : goal.returns-in_default
returns-in_default c = none_written _ _ _ _ _ (no-step _ _ c.in_default.not-Step c.read_field-f.ensures) c.requires c.write_end.ensures

pub write_from-requires : goal.write_from-requires
write_from-requires c = record { s_value = sym c.read_field-f.ensures ∙ c.in-Step.is; s_in_bounds = c.requires }
