-- `lines::put_number` meets its contract.
-- Assumes nothing.
use Prim.Native.Nat.{ℕ, ◌+◌, ◌≤◌}
use mathlib.Core.List.{[], ◌∷◌}
use mathlib.Core.Path.{◌≡◌, refl}
use native.Mathlib.Omega.{arith}
use lib.ListN.{length}
use Rattle.lines.specs.Lines.{decimal_of}
use Rattle.lines.proofs.Laws.{both-pieces}
use Rattle.lines.proofs.put_number.Goals as goal

pub returns-in-To : goal.returns-in-To
returns-in-To c =
    let a = c.args in
    let w = c.write in
    let d = c.put_decimal in
    let short = d.ensures.n_len_bound in
    let room : a.at + length (32 ∷ decimal_of a.n) ≤ length a.buf.now = omega (arith, c.requires) in
    let k = both-pieces a.buf.now w.new.buf d.new.buf (32 ∷ []) (decimal_of a.n) a.at (a.at + 1) w.result d.result w.ensures d.ensures.written refl room in
    let e : c.in-To.next ≡ a.at + length (32 ∷ decimal_of a.n) = let p = k.0 in let q = c.in-To.is in cc in
    record { buf_after = k.1; value = e; upper_bound = omega arith }

pub returns-in-Refused : goal.returns-in-Refused
returns-in-Refused c =
    let a = c.args in
    let w = c.write in
    let d = c.put_decimal in
    let short = d.ensures.n_len_bound in
    let room : a.at + length (32 ∷ decimal_of a.n) ≤ length a.buf.now = omega (arith, c.requires) in
    let k = both-pieces a.buf.now w.new.buf d.new.buf (32 ∷ []) (decimal_of a.n) a.at (a.at + 1) w.result d.result w.ensures d.ensures.written refl room in
    let z : ◌≡◌ {A = ℕ} 0 1 = let p = k.0 in let q = c.in-Refused.is in cc in
    absurd (omega arith)
