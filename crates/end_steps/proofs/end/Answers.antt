-- `end_steps::end` meets its contract.
-- Assumes nothing.
use Rattle.std.proofs.Common.{◌≡◌, true, false, not, ltb, sym, ap, ◌∙◌, le-ltb}
use Rattle.laws.specs.Choice.{both}
use Rattle.values.specs.Values.{void_v}
use Rattle.config.specs.Lists.{lists_at}
use Rattle.faces.specs.Types.{Slot, State}
use Rattle.effects.specs.Steps.{serves, holds, took, lists_some, runnable_of}
use Rattle.end_steps.proofs.Ending.{ended-unlisted, end-taken}
use Rattle.end_steps.proofs.end.Goals as goal

pub returns-then-lists_none : goal.returns-then-lists_none
returns-then-lists_none c =
    let a = c.args in
    let s : serves a.st a.i ≡ false = ap (λ (x : Slot). x.owed.serving) (sym c.get-x.ensures) ∙ c.if-x.false in
    let h : holds a.st a.i ≡ false = ap (λ (x : Slot). ltb 0 x.stack.held) (sym c.get-x.ensures) ∙ le-ltb _ _ c.if-x-gt0.false in
    let n : both (not (lists_some a.cfg.incoming (runnable_of a.st a.i))) (not (lists_some a.cfg.outgoing (runnable_of a.st a.i))) ≡ true
    = ap (λ (x : Slot). both (not (lists_at a.cfg.incoming x.life.runnable 0)) (not (lists_at a.cfg.outgoing x.life.runnable 0))) (sym c.get-x.ensures) ∙ sym c.lists_none.ensures ∙ c.if-lists_none.true in
    rw (c.take.ensures, c.emptied.ensures) (ap (λ (y : State). took void_v y) (sym (ended-unlisted a.cfg a.st a.i n)) ∙ sym (end-taken a.cfg a.st a.i s h))

pub returns : goal.returns
returns c =
    let a = c.args in
    let s : serves a.st a.i ≡ false = ap (λ (x : Slot). x.owed.serving) (sym c.get-x.ensures) ∙ c.if-x.false in
    let h : holds a.st a.i ≡ false = ap (λ (x : Slot). ltb 0 x.stack.held) (sym c.get-x.ensures) ∙ le-ltb _ _ c.if-x-gt0.false in
    rw (c.take-2.ensures, c.uncopied.ensures, c.emptied-next.ensures, c.handed_on.ensures, c.get-x.ensures) (sym (end-taken a.cfg a.st a.i s h))
