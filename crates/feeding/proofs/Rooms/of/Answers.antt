-- `feeding::Rooms::of` meets its contract. The loop has noted the elements below its counter (`each_below`).
-- Assumes nothing.
use Prim.Native.Nat.{◌<◌}
use borrow.Author.Rules.{rules}
use lib.ListN.{length}
use mathlib.Core.Bool.{true}
use mathlib.Core.Path.{◌≡◌, refl}
use native.Mathlib.Omega.{arith}
use Rattle.entries.specs.Faults.{is_queued}
use Rattle.laws.proofs.Places.{each_none, length-mapped}
use Rattle.effects.specs.Steps.{accepts}
use Rattle.feeding.proofs.Noted.{rooms-made}
use Rattle.shared_steps.proofs.Stopping.{each-put, element-here}
use Rattle.feeding.specs.Rooms.{rooms_of}
use Rattle.feeding.proofs.Rooms.of.Goals as goal

pub loop-q-init : goal.loop-q-init
loop-q-init c = rw each_none

pub loop-q-preserved : goal.loop-q-preserved
unfolding accepts is_queued
loop-q-preserved c =
    let e : length c.args.t.at ≡ 16 = search (rules, length-mapped, c.well_formed.1) in
    let b : c.loop-q.q < 16 = omega arith in
    rw (c.accepts.ensures, c.part.ensures, element-here c.args.t c.loop-q.q _ e b) (each-put _ _ _ _ _ true refl b c.loop-q.invariant)

pub returns : goal.returns
unfolding rooms_of accepts is_queued
returns c =
    let k : c.loop-q.q ≡ 16 = omega arith in
    rooms-made (rw k at c.loop-q.invariant)
