-- `config::has_step` meets its contract.
-- Assumes nothing.
use Rattle.laws.proofs.Choosing.{tests}
use Rattle.config.specs.Editions.{has_step}
use Rattle.config.proofs.has_step.Goals as goal

pub returns-then-code-ne-CODE_INVALIDATE : goal.returns-then-code-ne-CODE_INVALIDATE
unfolding has_step
returns-then-code-ne-CODE_INVALIDATE c = search tests

pub returns-else-code-ne-CODE_INVALIDATE : goal.returns-else-code-ne-CODE_INVALIDATE
unfolding has_step
returns-else-code-ne-CODE_INVALIDATE c = search tests
