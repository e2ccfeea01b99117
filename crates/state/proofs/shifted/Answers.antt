-- `state::shifted` meets its contract.
-- Assumes nothing.
use Rattle.std.proofs.Common.{◌≡◌, length, rules}
use Rattle.laws.specs.Row.{shifted}
use Rattle.state.proofs.Turning.{turned}
use Rattle.state.proofs.shifted.Goals as goal

pub returns : goal.returns
unfolding shifted
returns g c =
    let e : length c.args.at ≡ 16 = search rules in
    rw c.rotate_left.ensures.after (turned c.args.at 15 _ e)
