-- `sound::operations_tallied` meets its contract.
-- Assumes nothing.
use Rattle.std.proofs.Common.{ℕ, get_or, rules, tests}
use Rattle.state.specs.Tables.{operation_in}
use Rattle.sound.specs.Only.{only_operations}
use Rattle.sound.specs.Walk.{operation_tallied, operations_tallied}
use Rattle.laws.proofs.Ranges.{all_in}
use Rattle.sound.proofs.operations_tallied.Goals as goal

pub returns : goal.returns
unfolding operations_tallied
returns c = all_in (λ (k : ℕ). operation_tallied (only_operations c.args.confs) c.args.rs c.args.y.noted (get_or c.args.y.waiters k 0) k (operation_in c.args.t k)) 8 _ _ _ c.all.ensures.ran (cc) (λ x b q k. search (rules, tests))
