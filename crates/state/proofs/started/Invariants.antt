-- `state::started` meets its contract.
-- Assumes nothing.
use Rattle.std.proofs.Common.{◌≡◌, ℕ}
use Rattle.laws.specs.Row.{each_below}
use Rattle.config.specs.Table.{part_in}
use Rattle.state.specs.Places.{no_places}
use Rattle.state.proofs.started.Given as goal

abbrev pub invariant-loop-k : goal.invariant-loop-k
invariant-loop-k g l = l.s ≡ record { at = each_below (λ (k : ℕ) (x : g.row.C-Begun.Denot). g.C.Starts.begun (part_in g.C.Part.blank l.t k)) g.C.Begun.Part.blank l.k (no_places {m = g.row.N} g.C.Begun.Part.blank).at }
