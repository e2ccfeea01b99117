-- `config::marks_invalid` meets its contract.
-- Assumes nothing.
use Rattle.laws.proofs.Choosing.{tests}
use Rattle.config.specs.Editions.{marks_invalid}
use Rattle.config.proofs.marks_invalid.Goals as goal

pub returns : goal.returns
unfolding marks_invalid
returns c = search tests
