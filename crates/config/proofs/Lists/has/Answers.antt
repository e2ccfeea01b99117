-- `config::Lists::has` meets its contract.
-- Assumes nothing.
use Rattle.config.specs.Lists.{is_listed}
use Rattle.config.proofs.Lists.has.Goals as goal

pub returns : goal.returns
unfolding is_listed
returns c = rw c.place.ensures
