-- `data_steps::full_mask` meets its contract. The loop has the mask of the places below its counter.
-- Assumes nothing.
use Prim.Native.Nat.{ℕ, ◌*◌, ◌%◌, ◌^◌, ◌≤◌, ◌<◌}
use borrow.Author.Rules.{rules}
use lib.ListN.{length}
use mathlib.Core.Path.{◌∙◌, ◌≡◌, sym}
use native.Mathlib.Nat.{pow-le-pow_right}
use native.Mathlib.Omega.{arith}
use Rattle.laws.proofs.Masks.{mask-none, mask-on, mask-off, mask-small, mask-within}
use Rattle.laws.proofs.Places.{length-mapped}
use Rattle.feeding.specs.Rooms.{full_mask_by, is_full_by}
use Rattle.feeding.proofs.Noted.{full-past}
use Rattle.data_steps.proofs.full_mask.Goals as goal
use Rattle.data_steps.proofs.full_mask.Goals.{then-is_full, else-is_full}

-- the bit of one of 16 places, which no shift loses
bit-of : (q : ℕ) → q < 16 → (1 * 2 ^ q % 4294967296 ≡ 2 ^ q) × (2 ^ q ≤ 65536)
bit-of q b =
    let l : q ≤ 16 = omega arith in
    let w : 2 ^ q ≤ 2 ^ 16 = pow-le-pow_right (omega arith) l in
    (omega (arith, w), omega (arith, w))

pub loop-q-init : goal.loop-q-init
loop-q-init c = sym (mask-none _)

pub overflow_add-mask : goal.overflow_add-mask
overflow_add-mask c =
    let a = c.args in
    let q = c.loop-q.q in
    omega (arith, c.loop-q.invariant, mask-small (is_full_by a.cfg a.rooms a.p) q, bit-of q (omega (arith, c.within-n.ensures.0)))

pub loop-q-preserved : goal.loop-q-preserved
loop-q-preserved c =
    let a = c.args in
    let q = c.loop-q.q in
    let b = bit-of q (omega (arith, c.within-n.ensures.0)) in
    elim c.if-is_full.branch [
      | then-is_full w ↦ omega (arith, c.loop-q.invariant, b.0, mask-on (is_full_by a.cfg a.rooms a.p) q (sym c.is_full.ensures ∙ w.if-is_full.true), w.mask-is)
      | else-is_full w ↦ omega (arith, c.loop-q.invariant, mask-off (is_full_by a.cfg a.rooms a.p) q (sym c.is_full.ensures ∙ w.if-is_full.false), w.mask-is)
    ]

pub returns : goal.returns
unfolding full_mask_by
returns c =
    let a = c.args in
    let s : length a.rooms.at ≡ 16 = search (rules, length-mapped) in
    let k : c.loop-q.q ≡ c.within-n.result = omega arith in
    rw (k, c.within-n.ensures.1) at c.loop-q.invariant ∙ mask-within 16 _ a.cfg.required.n (λ q b. full-past a.cfg a.rooms a.p q s b)
