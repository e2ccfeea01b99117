-- `print_notes` meets its contract: each turn adds the line of the note that stands ahead.
-- Assumes nothing.
use Prim.Native.Nat.{ℕ, ◌+◌, ◌*◌}
use mathlib.Core.List.{List, [], ◌++◌}
use mathlib.Core.Path.{◌≡◌, refl, sym, ap, subst, ◌∙◌}
use native.Mathlib.Omega.{arith}
use lib.ListN.{take, drop}
use lib.Seq.{drop-drop}
use Rattle.std.specs.Io.KnownBytes.{Appends}
use Rattle.std.proofs.KnownBytes.{Appends-nil, Appends-trans}
use Rattle.gaps.specs.Report.{note_size}
use Rattle.wire.specs.Bytes.{build}
use Rattle.wire.proofs.Pieces.{build-one}
use Rattle.mender.specs.Told.{note_line, note_at, note_lines}
use Rattle.mender.proofs.print_notes.Goals as goal

lines_none : (t : List ℕ) → note_lines t 0 ≡ []
unfolding build
lines_none t = refl

lines-next : (t : List ℕ) (k : ℕ) → note_lines t (k + 1) ≡ note_lines t k ++ note_line (note_at t k)
lines-next t k = build-one (λ (j : ℕ). note_line (note_at t j)) k

pub loop-k-init : goal.loop-k-init
loop-k-init g c = (refl, rw (lines_none c.args.report.now) (Appends-nil _))

pub loop-k-preserved : goal.loop-k-preserved
loop-k-preserved g c =
    let t = c.args.report.now in
    let k = c.loop-k.k in
    let more : k * note_size + note_size ≡ (k + 1) * note_size = omega arith in
    let ahead = c.in-Some.ensures.cases.1 ∙ ap (drop note_size) c.loop-k.invariant.0 ∙ drop-drop note_size (k * note_size) t ∙ ap (λ (n : ℕ). drop n t) more in
    let is = c.in-Some.ensures.cases.0 ∙ ap (take note_size) c.loop-k.invariant.0 in
    let line = subst (λ (l : List ℕ). Appends (g.W.Write.contents c.loop-k.out) (g.W.Write.contents c.print_note.new.out) (note_line l)) is c.if-not-print_note.ensures in
    let all = Appends-trans (g.W.Write.contents c.args.out.now) (g.W.Write.contents c.loop-k.out) (g.W.Write.contents c.print_note.new.out) (note_lines t k) (note_line (note_at t k)) c.loop-k.invariant.1 line in
    (ahead, subst (λ (l : List ℕ). Appends (g.W.Write.contents c.args.out.now) (g.W.Write.contents c.print_note.new.out) l) (sym (lines-next t k)) all)
