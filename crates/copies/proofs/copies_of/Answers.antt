-- `copies::copies_of` meets its contract.
-- Assumes nothing.
use Prim.Native.Nat.{ℕ}
use borrow.Author.Rules.{rules}
use Rattle.std.proofs.Common.{tests}
use Rattle.values.specs.Values.{never_received_v}
use Rattle.faces.specs.Types.{Value}
use Rattle.state.specs.Parts.{no_copies}
use Rattle.effects.specs.Steps.{copy_of, copies_of}
use Rattle.copies.proofs.copies_of.Goals as goal

pub returns : goal.returns
unfolding copies_of no_copies
returns c =
    let a = c.args in
    rw (c.each.ensures (λ (j : ℕ) (v : Value). copy_of a.t a.r a.es j) never_received_v (λ k x y q. search (rules, tests)))
