-- `time_steps::fresh` meets its contract.
-- Assumes nothing.
use mathlib.Core.Path.{refl}
use Rattle.state.specs.Parts.{no_stack}
use Rattle.time_steps.proofs.fresh.Goals as goal

pub returns : goal.returns
unfolding no_stack
returns c = refl
