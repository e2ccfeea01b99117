-- `entries::kind_sound` meets its contract.
-- Assumes nothing.
use mathlib.Core.Path.{◌≡◌, refl, sym, ◌∙◌}
use native.Mathlib.Omega.{arith}
use borrow.Author.Rules.{rules}
use borrow.Author.Tests.{lt-leb}
use Rattle.std.specs.List.{list_all, range_with_len}
use Rattle.std.proofs.Common.{tests}
use Rattle.std.proofs.lemmas.Iterator.{YieldsList-from_range}
use Rattle.std.proofs.lemmas.Iterator.Search.{all_from_yields_List}
use Rattle.laws.proofs.Places.{length-mapped}
use Rattle.entries.specs.Faults.{place_sound}
use Rattle.entries.proofs.Kind.{Full, kind-over, kind-places}
use Rattle.laws.proofs.Ranges.{all-asked}
use Rattle.entries.proofs.kind_sound.Goals as goal

pub returns-then-count_of-top : goal.returns-then-count_of-top
returns-then-count_of-top c =
    let a = c.args in
    let top = c.max_of-top.result in
    let m = c.max_of-top.ensures in
    let each : c.all.result ≡ list_all (place_sound a.cfg a.tag) (range_with_len 0 top) =
    all_from_yields_List (place_sound a.cfg a.tag) _ _ _ c.all.ensures.ran (YieldsList-from_range 0 top top refl (omega arith)) (λ x b q k. search (rules, tests)) in
    let full : Full a.cfg = record { runnables = search (rules, length-mapped); variables = search (rules, length-mapped); areas = search (rules, length-mapped); required = search (rules, length-mapped); provided = search (rules, length-mapped); links = search (rules, length-mapped); operations = search (rules, length-mapped); timers = search (rules, length-mapped); devents = search (rules, length-mapped); revents = search (rules, length-mapped); incoming = search (rules, length-mapped); outgoing = search (rules, length-mapped) } in
    each ∙ all-asked (place_sound a.cfg a.tag) top
    ∙ rw m (sym (kind-places a.cfg a.tag full (rw (← m, ← c.count_of.ensures) c.if-count_of-top.true)))

pub returns-else-count_of-top : goal.returns-else-count_of-top
returns-else-count_of-top c =
    let a = c.args in
    lt-leb _ _ c.if-count_of-top.false
    ∙ sym (kind-over a.cfg a.tag (rw (← c.max_of-top.ensures, ← c.count_of.ensures) c.if-count_of-top.false))
