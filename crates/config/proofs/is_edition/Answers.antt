-- `config::is_edition` meets its contract.
-- Assumes nothing.
use Rattle.laws.proofs.Choosing.{tests}
use Rattle.config.specs.Editions.{is_edition}
use Rattle.config.proofs.is_edition.Goals as goal

pub returns-then-e-ge-FIRST_EDITION : goal.returns-then-e-ge-FIRST_EDITION
unfolding is_edition
returns-then-e-ge-FIRST_EDITION c = search tests

pub returns-else-e-ge-FIRST_EDITION : goal.returns-else-e-ge-FIRST_EDITION
unfolding is_edition
returns-else-e-ge-FIRST_EDITION c = search tests
