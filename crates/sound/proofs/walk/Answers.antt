-- `sound::walk` meets its contract.
-- Assumes nothing.
use Rattle.std.proofs.Common.{◌≡◌, ◌<◌, ℕ, length, sym, refl, ◌∙◌, add-one, arith, rules}
use Rattle.laws.proofs.Looping.{all_none, all_more, all-fails}
use Rattle.laws.proofs.Places.{inside, length-mapped}
use Rattle.state.specs.Parts.{no_slot, no_stack, no_copies}
use Rattle.state.specs.Tables.{slot_in, copies_in}
use Rattle.sound.specs.Tally.{no_tally, tally_of}
use Rattle.sound.specs.Walk.{slot_walked, slots_walked, walk_of}
use Rattle.state.specs.Places.{place_in}
use Rattle.sound.proofs.walk.Goals as goal

pub loop-k-init : goal.loop-k-init
unfolding tally_of no_tally
loop-k-init c = (all_none _, refl)

pub loop-k-preserved : goal.loop-k-preserved
unfolding place_in no_slot no_stack no_copies tally_of
loop-k-preserved c =
    let a = c.args in
    let e0 : length a.slots.at ≡ 32 = search (rules, length-mapped) in
    let e1 : length a.incoming.at ≡ 32 = search (rules, length-mapped) in
    let e2 : length a.outgoing.at ≡ 32 = search (rules, length-mapped) in
    let k = c.loop-k.k in
    let b : k < 32 = omega (arith, c.loop-k-test.true) in
    (all_more _ _ c.loop-k.invariant.0 (rw (inside a.slots.at k 32 _ no_slot e0 b, inside a.incoming.at k 32 _ no_copies e1 b, inside a.outgoing.at k 32 _ no_copies e2 b) at (sym c.slot_walked.ensures ∙ c.if-not-slot_walked.false)), rw (c.tallied-t.ensures, inside a.slots.at k 32 _ no_slot e0 b, c.loop-k.invariant.1, add-one))

pub returns-then-not-slot_walked : goal.returns-then-not-slot_walked
unfolding walk_of slots_walked place_in no_slot no_stack no_copies no_tally
returns-then-not-slot_walked c =
    let a = c.args in
    let e0 : length a.slots.at ≡ 32 = search (rules, length-mapped) in
    let e1 : length a.incoming.at ≡ 32 = search (rules, length-mapped) in
    let e2 : length a.outgoing.at ≡ 32 = search (rules, length-mapped) in
    let k = c.loop-k.k in
    let b : k < 32 = omega (arith, c.loop-k-test.true) in
    rw (all-fails (λ (i : ℕ). slot_walked a.cfg (slot_in a.slots i) (copies_in a.incoming i) (copies_in a.outgoing i)) 32 k b (rw (inside a.slots.at k 32 _ no_slot e0 b, inside a.incoming.at k 32 _ no_copies e1 b, inside a.outgoing.at k 32 _ no_copies e2 b) at (sym c.slot_walked.ensures ∙ c.if-not-slot_walked.true)))

pub returns : goal.returns
unfolding walk_of slots_walked
returns c =
    let e : c.loop-k.k ≡ 32 = omega arith in
    rw (c.loop-k.invariant.1, rw e at c.loop-k.invariant.0, e)
