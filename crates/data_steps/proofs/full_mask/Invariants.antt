-- `data_steps::full_mask` meets its contract. The loop has the mask of the places below its counter.
-- Assumes nothing.
use mathlib.Core.Path.{◌≡◌}
use Rattle.laws.specs.Mask.{mask_below}
use Rattle.feeding.specs.Rooms.{is_full_by}
use Rattle.data_steps.proofs.full_mask.Given as goal

abbrev pub invariant-loop-q : goal.invariant-loop-q
invariant-loop-q l = l.mask ≡ mask_below (is_full_by l.cfg l.rooms l.p) l.q
