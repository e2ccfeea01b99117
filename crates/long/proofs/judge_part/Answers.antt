-- `long::judge_part` meets its contract: a full part is sure of 4095 steps.
-- Assumes nothing.
use Rattle.std.proofs.Common.{◌≡◌, ◌-◌, ◌/◌, length, arith}
use Rattle.numbers.specs.Tags.{step_size}
use Rattle.long.proofs.judge_part.Goals as goal

pub judge_after-requires : goal.judge_after-requires
judge_after-requires c = record { n_bound = c.requires.n_bound; allowance_bound = omega arith }

pub returns : goal.returns
returns c =
    let e : length c.args.s.now / step_size - 1 ≡ 4095 = omega (arith, c.requires.s_len) in
    rw (c.judge_after.ensures, e)
