-- `config::RunnableConf::top` meets its contract.
-- Assumes nothing.
use Rattle.config.specs.Tables.{top_of}
use Rattle.config.proofs.RunnableConf.top.Goals as goal

pub returns-then-self : goal.returns-then-self
unfolding top_of
returns-then-self c = rw c.if-self.true

pub returns : goal.returns
unfolding top_of
returns c = rw c.if-self.false
