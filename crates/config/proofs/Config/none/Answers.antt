-- `config::Config::none` meets its contract.
-- Assumes nothing.
use Rattle.config.specs.Tables.{no_config}
use Rattle.config.proofs.Config.none.Goals as goal

pub returns : goal.returns
unfolding no_config
returns c =
    rw (
      c.none-12.ensures,
      c.none-11.ensures,
      c.none-10.ensures,
      c.none-9.ensures,
      c.none-8.ensures,
      c.none-7.ensures,
      c.none-6.ensures,
      c.none-5.ensures,
      c.none-4.ensures,
      c.none-3.ensures,
      c.none-2.ensures,
      c.none.ensures,
    )
