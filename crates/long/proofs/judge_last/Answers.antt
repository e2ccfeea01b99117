-- `long::judge_last` meets its contract: no recording has more steps than bytes.
-- Assumes nothing.
use Rattle.std.proofs.Common.{arith}
use Rattle.parts.specs.Parts.{whole_of}
use Rattle.long.proofs.judge_last.Goals as goal

pub overflow_cast-s : goal.overflow_cast-s
overflow_cast-s c = omega (arith, c.requires.s_len_bound)

pub judge_after-requires : goal.judge_after-requires
judge_after-requires c = record { n_bound = c.requires.n_bound; allowance_bound = omega (arith, c.requires.s_len_bound) }

pub returns : goal.returns
unfolding whole_of
returns c = c.judge_after.ensures
