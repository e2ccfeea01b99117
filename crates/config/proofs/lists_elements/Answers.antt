-- `config::lists_elements` meets its contract.
-- Assumes nothing.
use mathlib.Core.Path.{refl}
use Rattle.config.specs.Editions.{lists_elements}
use Rattle.config.proofs.lists_elements.Goals as goal

pub returns : goal.returns
unfolding lists_elements
returns c = refl
