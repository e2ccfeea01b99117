-- `copies::given_elements` meets its contract. The loop has been over the places below its counter, and takes one more by `given-more`.
-- Assumes nothing.
use mathlib.Core.Path.{◌≡◌}
use Rattle.effects.specs.Steps.{given_elements}
use Rattle.copies.proofs.given_elements.Given as goal

abbrev pub invariant-loop-j : goal.invariant-loop-j
invariant-loop-j l = l.u ≡ given_elements l.cfg l.r l.c l.j l.initial.u
