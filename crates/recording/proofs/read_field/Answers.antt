-- `recording::read_field` meets its contract.
-- Assumes nothing.
use mathlib.Core.List.{[]}
use mathlib.Core.Path.{◌≡◌, sym, ap, ◌∙◌}
use native.Mathlib.Omega.{arith}
use lib.ListN.{drop, drop_of_length-le}
use Rattle.recording.specs.Recording.{field_of}
use Rattle.recording.proofs.OneField.{none_ahead}
use Rattle.recording.proofs.read_field.Goals as goal

pub returns-in-None : goal.returns-in-None
returns-in-None c =
    let past = c.in-None.ensures.lookup in
    let e : drop c.args.at c.args.s.now ≡ [] = drop_of_length-le c.args.s.now {i = c.args.at} (omega (arith, past)) in
    sym (ap field_of e ∙ none_ahead)
