-- `forms::read_short` meets its contract.
-- Assumes nothing.
use mathlib.Core.List.{[]}
use mathlib.Core.Path.{◌≡◌, refl, sym, ap, ◌∙◌}
use native.Mathlib.Omega.{arith}
use lib.ListN.{drop, drop_of_length-le}
use Rattle.recording.specs.declared.Field.TheVariants.{Refused}
use Rattle.forms.specs.Short.{short_field_of}
use Rattle.forms.proofs.read_short.Goals as goal

none_ahead : short_field_of [] ≡ Refused 0 18
unfolding short_field_of
none_ahead = refl

pub returns-in-None : goal.returns-in-None
returns-in-None c =
    let e : drop c.args.at c.args.s.now ≡ [] = drop_of_length-le c.args.s.now {i = c.args.at} (omega (arith, c.in-None.ensures.lookup.0)) in
    sym (ap short_field_of e ∙ none_ahead)
