-- `long::judge_parts` meets its contract: each part is sure of 4095 steps.
-- Assumes nothing.
use Rattle.std.proofs.Common.{◌≡◌, ◌*◌, ◌≤◌, length}
use Rattle.numbers.specs.Tags.{step_size}
use Rattle.long.proofs.judge_parts.Given as goal

abbrev pub invariant-loop-k : goal.invariant-loop-k
invariant-loop-k g l = (length l.part ≡ length l.initial.part) × (l.held ≤ step_size) × (l.n ≤ 4095 * l.k)
