-- `data_steps::send` meets its contract.
-- Assumes nothing.
use lib.ListN.{length}
use mathlib.Core.Path.{◌≡◌}
use Rattle.laws.proofs.Places.{length-mapped}
use Rattle.effects.specs.Steps.{fed, send_of}
use Rattle.feeding.proofs.Noted.{full-mask-by, fed-runnables-by}
use Rattle.data_steps.proofs.send.Goals as goal

pub returns : goal.returns
unfolding send_of fed
returns c =
    let a = c.args in
    let e : length a.cfg.required.at ≡ 16 = search (length-mapped, c.well_formed.0.1.1.1.1.1.0.1.1.1.0.1.0.1) in
    rw (c.take.ensures, c.sent.ensures, c.full_mask.ensures, c.fed-next.ensures, c.of-rooms.ensures, full-mask-by a.cfg a.st.elements e, fed-runnables-by a.cfg a.st.elements e)
