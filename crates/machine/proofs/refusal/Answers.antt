-- `machine::refusal` meets its contract: the ranges of codes are those of the table of steps (`slot-codes`, `scheduler-codes`, `added-codes`).
-- Assumes nothing.
use native.Mathlib.Omega.{arith}
use Rattle.rules.specs.Refusals.{refusal_by, refusal_of}
use Rattle.rules.proofs.Codes.{slot-codes, scheduler-codes, added-codes, low-codes, high-codes}
use Rattle.machine.proofs.refusal.Goals as goal

pub returns-in-1-to-14 : goal.returns-in-1-to-14
unfolding refusal_of refusal_by
returns-in-1-to-14 c = rw (c.instance_refusal.ensures, slot-codes c.args.s.code (omega arith) (omega arith))

pub returns-in-15-to-18 : goal.returns-in-15-to-18
unfolding refusal_of refusal_by
returns-in-15-to-18 c = rw (c.scheduler_refusal.ensures, scheduler-codes c.args.s.code (omega arith) (omega arith))

pub returns-in-19-to-23 : goal.returns-in-19-to-23
unfolding refusal_of refusal_by
returns-in-19-to-23 c = rw (c.instance_refusal-in-19-to-23.ensures, added-codes c.args.s.code (omega arith) (omega arith))

pub returns-in_default : goal.returns-in_default
unfolding refusal_of refusal_by
returns-in_default c = rw (low-codes c.args.s.code (omega arith))

pub returns-in_default-2 : goal.returns-in_default-2
unfolding refusal_of refusal_by
returns-in_default-2 c = rw (high-codes c.args.s.code (omega arith))
