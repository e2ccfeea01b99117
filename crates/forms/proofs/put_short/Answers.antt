-- `forms::put_short` meets its contract.
-- Assumes nothing.
use Prim.Native.Nat.{ℕ, ◌+◌, ◌-◌, ◌≤◌}
use mathlib.Core.List.{List, [], ◌∷◌}
use mathlib.Core.Path.{◌≡◌, refl, ap, ◌∙◌}
use native.Mathlib.Omega.{arith}
use lib.ListN.{length}
use Rattle.forms.specs.Numbers.{short_tag}
use Rattle.rules.specs.declared.Row.{Row}
use Rattle.rules.specs.Rows.{row_of}
use Rattle.wire.specs.Bytes.{put_at, Written}
use Rattle.wire.specs.declared.Wrote.{Wrote}
use Rattle.values.specs.declared.Step.{Step}
use Rattle.wire.proofs.Laws.{fits-written}
use Rattle.wire.proofs.Pieces.{Put}
use Rattle.forms.specs.Short.{body_of, short_bytes}
use Rattle.forms.proofs.Laws.{front, body-most, next-room, next-put}
use Rattle.forms.proofs.put_short.Goals as goal

-- tag and length stand
head-put : {b₀ b : List ℕ} {at n : ℕ} {w : Wrote} (s : Step) → n ≡ length (short_bytes s) → at + length (short_bytes s) ≤ length b₀ → Written b₀ at (short_tag ∷ 0 ∷ (n - 3) ∷ []) w b → Put b₀ at (short_tag ∷ 0 ∷ (n - 3) ∷ []) (at + 3) b
unfolding short_bytes
head-put {b₀} {b} {at} {n} {w} s z h e =
    let f = front (short_tag ∷ 0 ∷ (n - 3) ∷ []) (body_of (row_of s.code) s) at (length b₀) h in
    record { next = refl; bytes = (fits-written _ _ _ _ _ e f).2 }

pub overflow_sub-size : goal.overflow_sub-size
unfolding short_bytes
overflow_sub-size c = omega (arith, c.requires.size_value)

pub overflow_cast-size : goal.overflow_cast-size
unfolding short_bytes
overflow_cast-size c = omega (arith, c.requires.size_value, body-most (row_of c.args.s.code) c.args.s)

pub put_body-requires : goal.put_body-requires
unfolding short_bytes
put_body-requires c = next-room _ _ _ _ _ (head-put c.args.s c.requires.size_value c.requires.s_in_bounds c.write.ensures) (body_of (row_of c.args.s.code) c.args.s) c.requires.s_in_bounds (ap (λ (r : Row). body_of r c.args.s) c.row_of.ensures)

pub returns : goal.returns
unfolding short_bytes
returns c =
    let body = body_of (row_of c.args.s.code) c.args.s in
    let z : c.args.size - 3 ≡ length body = omega (arith, c.requires.size_value) in
    let p = next-put _ _ _ _ _ (head-put c.args.s c.requires.size_value c.requires.s_in_bounds c.write.ensures) body c.requires.s_in_bounds (ap (λ (r : Row). body_of r c.args.s) c.row_of.ensures) refl c.put_body.ensures in
    p.bytes ∙ ap (λ (n : ℕ). put_at c.args.buf.now c.args.at (short_tag ∷ 0 ∷ n ∷ body)) z
