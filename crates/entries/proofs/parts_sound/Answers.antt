-- `entries::parts_sound` meets its contract.
-- Assumes nothing.
use Prim.Native.Nat.{ℕ, ◌+◌}
use mathlib.Core.Path.{refl, ◌∙◌}
use borrow.Author.Rules.{rules}
use Rattle.std.proofs.Common.{tests}
use Rattle.std.proofs.lemmas.Iterator.{YieldsList-from_range}
use Rattle.std.proofs.lemmas.Iterator.Search.{all_from_yields_List}
use Rattle.entries.specs.Faults.{kind_sound, parts_sound}
use Rattle.laws.proofs.Ranges.{all-asked}
use Rattle.entries.proofs.parts_sound.Goals as goal

pub returns : goal.returns
unfolding parts_sound
returns c =
    let test = λ (j : ℕ). kind_sound c.args.cfg (0x10 + j) in
    all_from_yields_List test _ _ _ c.all.ensures.ran (YieldsList-from_range 0 12 12 refl refl) (λ x b q k. search (rules, tests))
    ∙ all-asked test 12
