-- `state::started` meets its contract.
-- Assumes nothing.
use Rattle.std.proofs.Common.{◌≡◌, ℕ, List, length, replicate, min, sym, ap, ◌∙◌, arith}
use Rattle.std.proofs.lemmas.List.{length-replicate}
use Rattle.laws.specs.Row.{each_below}
use Rattle.laws.proofs.Places.{each_none, each_more}
use Rattle.config.specs.Table.{part_in}
use Rattle.state.specs.Places.{no_places}
use Rattle.state.specs.Start.{started}
use Rattle.state.proofs.Ends.{each-least}
use Rattle.state.proofs.started.Goals as goal

pub loop-k-init : goal.loop-k-init
unfolding no_places
loop-k-init g c = rw (c.none-s.ensures, each_none)

pub loop-k-preserved : goal.loop-k-preserved
loop-k-preserved g c = rw (c.start.ensures, c.part.ensures, c.loop-k.invariant, each_more)

pub returns : goal.returns
unfolding started no_places
returns g c =
    let m = g.row.N in
    let b = g.C.Begun.Part.blank in
    let f : ℕ → g.row.C-Begun.Denot → g.row.C-Begun.Denot = λ k x. g.C.Starts.begun (part_in g.C.Part.blank c.args.t k) in
    let e : c.loop-k.k ≡ min c.args.t.n m = omega (arith, c.min-k-end.ensures, c.from.ensures, c.loop-k-test.false, c.loop-k.auto.k-end) in
    let h : length (replicate m b) ≡ m = length-replicate m b in
    rw (c.loop-k.invariant, e) (ap (λ (l : List g.row.C-Begun.Denot). record { at = l }) (ap (λ (k : ℕ). each_below f b (min c.args.t.n k) (replicate m b)) (sym h) ∙ each-least f b c.args.t.n (replicate m b)))
