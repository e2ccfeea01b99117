-- `copies::seen_elements` meets its contract.
-- Assumes nothing.
use Prim.Native.Nat.{ℕ}
use borrow.Author.Rules.{rules}
use lib.ListN.{length}
use mathlib.Core.Path.{◌∙◌, ◌≡◌}
use Rattle.std.proofs.Common.{tests}
use Rattle.laws.specs.Choice.{pick}
use Rattle.laws.proofs.Places.{length-mapped}
use Rattle.faces.specs.Types.{Element}
use Rattle.config.specs.Lists.{is_listed}
use Rattle.state.specs.Parts.{no_element}
use Rattle.effects.specs.Steps.{seen, seen_elements}
use Rattle.shared_steps.proofs.Stopping.{each_within, elements-made}
use Rattle.copies.proofs.seen_elements.Goals as goal

pub returns : goal.returns
unfolding seen_elements
returns c =
    let a = c.args in
    let e : length a.es.at ≡ 16 = search (rules, length-mapped, c.well_formed.1) in
    let h = c.each.ensures (λ (q : ℕ) (x : Element). pick (is_listed a.cfg.incoming a.r q) (seen x) x) no_element (λ k x y q. search (rules, tests)) in
    elements-made (rw c.within-n.ensures.1 at h ∙ each_within 16 _ _ a.cfg.required.n _ e)
