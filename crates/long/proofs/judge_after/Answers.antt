-- `long::judge_after` meets its contract: a verdict lies near its steps (`judged-near`).
-- Assumes nothing.
use Rattle.std.proofs.Common.{arith}
use Rattle.parts.proofs.Proofs.{judged-near}
use Rattle.long.proofs.judge_after.Goals as goal

pub later_verdict-requires : goal.later_verdict-requires
later_verdict-requires c = record { n_bound = c.requires.n_bound; near = rw c.judge-j.ensures (omega (arith, c.requires.allowance_bound, (judged-near c.args.cfg c.args.st c.args.s.now c.args.allowance).1)) }

pub overflow_add-result : goal.overflow_add-result
overflow_add-result c = omega (arith, c.requires.n_bound, c.requires.allowance_bound, rw (← c.judge-j.ensures) at (judged-near c.args.cfg c.args.st c.args.s.now c.args.allowance).0)

pub returns : goal.returns
returns c = rw (c.later_verdict.ensures, ← c.judge-j.ensures)
