-- `data_steps::write` meets its contract.
-- Assumes nothing.
use lib.ListN.{length}
use mathlib.Core.Path.{◌≡◌}
use Rattle.laws.proofs.Places.{length-mapped}
use Rattle.effects.specs.Steps.{fed, write_of}
use Rattle.feeding.proofs.Noted.{fed-runnables-by}
use Rattle.data_steps.proofs.write.Goals as goal

pub returns : goal.returns
unfolding write_of fed
returns c =
    let e : length c.args.cfg.required.at ≡ 16 = search (length-mapped, c.well_formed.0.1.1.1.1.1.0.1.1.1.0.1.0.1) in
    rw (c.take.ensures, c.fed.ensures, c.of-rooms.ensures, fed-runnables-by c.args.cfg c.args.st.elements e)
