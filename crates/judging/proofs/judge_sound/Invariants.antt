-- `judge_sound` meets its contract. What is ahead is judged as the whole was: the allowance left and the steps taken make up the allowance, and the place is within the text.
-- The measure is the allowance that is left. Assumes nothing.
use Prim.Native.Nat.{◌+◌, ◌≤◌}
use mathlib.Core.Path.{◌≡◌}
use lib.ListN.{length, drop}
use Rattle.effects.specs.Step.{inner_of}
use Rattle.judging.specs.Judging.{judge_from}
use Rattle.judging.proofs.judge_sound.Given as goal

abbrev pub invariant-loop-x : goal.invariant-loop-x
invariant-loop-x l =
    (l.left + l.count ≡ l.allowance) × (l.at ≤ length l.s) × (judge_from (inner_of l.cfg) l.allowance l.s 0 l.initial.reached ≡ judge_from (inner_of l.cfg) l.left (drop l.at l.s) l.count l.reached)

abbrev pub decreases-loop-x : goal.decreases-loop-x
decreases-loop-x l = l.left
