-- `feeding::fed_elements` meets its contract. The loop has been over the places below its counter (`each_below`), and takes one more by `each-put`.
-- Assumes nothing.
use mathlib.Core.Path.{◌≡◌}
use Rattle.laws.specs.Row.{each_below}
use Rattle.state.specs.Parts.{no_element}
use Rattle.effects.specs.Steps.{fed_element}
use Rattle.feeding.proofs.fed_elements.Given as goal

abbrev pub invariant-loop-q : goal.invariant-loop-q
invariant-loop-q l = l.u.at ≡ each_below (fed_element l.cfg l.p l.v) no_element l.q l.initial.u.at
