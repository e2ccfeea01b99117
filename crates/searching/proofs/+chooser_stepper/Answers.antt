-- `chooser` and `stepper` meet their contracts.
-- Assumes nothing.
use Prim.Native.Nat.{ℕ, ◌<◌}
use mathlib.Core.Path.{◌≡◌, sym, ap, ◌∙◌}
use native.Mathlib.Omega.{arith}
use Rattle.searching.specs.Search.{count_in, size_of}
use Rattle.searching.proofs.Searching.{Passed, none-taken, none-barred, left-none, left-all, barred, hit, missed}
use Rattle.searching.proofs.+chooser_stepper.Goals as goal
use Rattle.searching.proofs.+chooser_stepper.Goals.{chooser-in-Taken+else-p-size, chooser-in_default}

pub chooser-returns-then-left-eq0 : goal.chooser-returns-then-left-eq0
chooser-returns-then-left-eq0 t c = (sym (left-none _ _ _ _ _ _ c.if-left-eq0.true), omega arith)

pub chooser-returns-then-p-size : goal.chooser-returns-then-p-size
chooser-returns-then-p-size t c =
    let k = c.count_of-k.ensures in
    let z = c.size_of-size.ensures in
    let a = c.args in
    let less : c.stepper-p.result < size_of (count_in a.all) a.n = rw (← k.is, ← z.0) c.if-p-size.true in
    (sym (hit _ _ _ _ _ _ k c.if-left-eq0.false c.requires.1 c.requires.0 c.choice_at.ensures c.possible-r.ensures _ c.in-Taken.is c.stepper-p.ensures.0 less), omega (arith, c.if-p-size.true, z.2 c.requires.0, c.if-left-eq0.false))

pub chooser-returns : goal.chooser-returns
chooser-returns t c =
    let k = c.count_of-k.ensures in
    let z = c.size_of-size.ensures in
    let a = c.args in
    let size : c.size_of-size.result ≡ size_of (count_in a.all) a.n = z.0 ∙ ap (λ (m : ℕ). size_of m a.n) k.is in (
      rw (size, c.chooser.ensures.0) (sym (elim c.match-r.branch [
        | chooser-in-Taken+else-p-size w ↦ missed _ _ _ _ _ _ k c.if-left-eq0.false c.requires.1 c.requires.0 c.choice_at.ensures c.possible-r.ensures _ w.in-Taken.is w.stepper-p.ensures.0 (rw (← size) w.if-p-size.false)
        | chooser-in_default w ↦ barred _ _ _ _ _ _ k c.if-left-eq0.false c.requires.1 c.requires.0 c.choice_at.ensures c.possible-r.ensures _ w.in_default.is
      ])),
      omega (arith, z.2 c.requires.0, c.chooser.ensures.1, c.if-left-eq0.false),
    )

pub stepper-returns-in-Taken : goal.stepper-returns-in-Taken
stepper-returns-in-Taken t c = (sym (rw c.if-n-eq0.true (none-taken _ _ _ _ c.inner.ensures _ c.in-Taken.is)), omega arith)

pub stepper-returns-in-Refused : goal.stepper-returns-in-Refused
stepper-returns-in-Refused t c = (sym (rw c.if-n-eq0.true (none-barred _ _ _ _ c.inner.ensures _ c.in-Refused.is)), omega arith)

pub stepper-returns : goal.stepper-returns
stepper-returns t c =
    let a = c.args in
    (c.chooser.ensures.0 ∙ ap (Passed a.cfg a.st a.s) (left-all a.all a.n c.count_of.ensures.is c.if-n-eq0.false), omega (arith, c.chooser.ensures.1, c.count_of.ensures.most))
