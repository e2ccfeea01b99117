-- `copies::handed_on` meets its contract.
-- Assumes nothing.
use lib.ListN.{length}
use mathlib.Core.Bool.{true, false}
use mathlib.Core.Path.{◌≡◌, sym, ◌∙◌, ap}
use Rattle.laws.proofs.Places.{length-mapped}
use Rattle.faces.specs.Types.{Slot}
use Rattle.config.specs.Lists.{lists_at}
use Rattle.state.specs.Tables.{copies_in}
use Rattle.effects.specs.Steps.{lists_some, runnable_of, has_failed}
use Rattle.copies.proofs.Given.{given-runnables-by, handed-unlisted, handed-failed, handed-all}
use Rattle.copies.proofs.handed_on.Goals.{then-not-lists_some-via-then-not-lists_some, then-not-lists_some-via-else-not-lists_some+then-life}
use Rattle.copies.proofs.handed_on.Goals as goal

pub returns-then-not-lists_some : goal.returns-then-not-lists_some
returns-then-not-lists_some c =
    let a = c.args in
    elim c.then-not-lists_some.branch [
      | then-not-lists_some-via-then-not-lists_some w ↦
          let l : lists_some a.cfg.outgoing (runnable_of a.st a.i) ≡ false = ap (λ (x : Slot). lists_at a.cfg.outgoing x.life.runnable 0) (sym c.get.ensures) ∙ sym c.lists_some.ensures ∙ w.if-not-lists_some.true in
          sym (handed-unlisted a.cfg a.st a.i l)
      | then-not-lists_some-via-else-not-lists_some+then-life w ↦
          let f : has_failed a.st a.i ≡ true = ap (λ (x : Slot). x.life.failed) (sym c.get.ensures) ∙ w.if-life.true in
          sym (handed-failed a.cfg a.st a.i f)
    ]

pub returns : goal.returns
returns c =
    let a = c.args in
    let l : lists_some a.cfg.outgoing (runnable_of a.st a.i) ≡ true = ap (λ (x : Slot). lists_at a.cfg.outgoing x.life.runnable 0) (sym c.get.ensures) ∙ sym c.lists_some.ensures ∙ c.if-not-lists_some.false in
    let f : has_failed a.st a.i ≡ false = ap (λ (x : Slot). x.life.failed) (sym c.get.ensures) ∙ c.if-life.false in
    let e : length a.cfg.required.at ≡ 16 = search (length-mapped, c.well_formed.0.1.1.1.1.1.0.1.1.1.0.1.0.1) in
    rw (c.given_runnables.ensures, c.given_elements.ensures, c.of-rooms.ensures, c.get-c.ensures, c.get.ensures, given-runnables-by a.cfg (runnable_of a.st a.i) (copies_in a.st.outgoing a.i) a.st.elements e)
    (sym (handed-all a.cfg a.st a.i l f))
