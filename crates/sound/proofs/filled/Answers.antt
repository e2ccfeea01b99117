-- `sound::filled` meets its contract.
-- Assumes nothing.
use Rattle.std.proofs.Common.{◌≡◌, Bool, take, drop, refl, ap, ◌∙◌, sym}
use Rattle.std.proofs.lemmas.Iterator.{YieldsList-from_slice, YieldsList-from_take}
use Rattle.std.proofs.lemmas.Iterator.Adapters.{YieldsList-from_skip}
use Rattle.std.proofs.lemmas.Iterator.Search.{all_from_yields_List}
use Rattle.std.specs.List.{list_all}
use Rattle.laws.specs.Choice.{both}
use Rattle.laws.proofs.Ranges.{row_filled}
use Rattle.sound.proofs.filled.Goals as goal

pub returns-then-all : goal.returns-then-all
returns-then-all g c = λ p q d good blank.
    let xs = c.args.row.now in
    let first : c.all.result ≡ list_all p (take c.args.n xs) =
    all_from_yields_List p _ _ _ c.all.ensures.ran (YieldsList-from_take c.args.n (YieldsList-from_slice xs cc) cc)
    (λ x b f k. (g.met.G.Fn.1.step_stays _ _ _ _ k, good x.now b (record { shown = x; shows = refl; says = record { met = (g.met.G.FnMut.1.post_iff _ _ _).1 (f, k) } }))) in
    let rest : c.all-then-all.result ≡ list_all q (drop c.args.n xs) =
    all_from_yields_List q _ _ _ c.all-then-all.ensures.ran (YieldsList-from_skip c.args.n (YieldsList-from_slice xs cc) cc)
    (λ x b f k. (g.met.B.Fn.1.step_stays _ _ _ _ k, blank x.now b (record { shown = x; shows = refl; says = record { met = (g.met.B.FnMut.1.post_iff _ _ _).1 (f, k) } }))) in
    (rw (← first, c.if-all.true) rest) ∙ row_filled p q d _ c.args.n xs refl

pub returns-else-all : goal.returns-else-all
returns-else-all g c = λ p q d good blank.
    let xs = c.args.row.now in
    let first : c.all.result ≡ list_all p (take c.args.n xs) =
    all_from_yields_List p _ _ _ c.all.ensures.ran (YieldsList-from_take c.args.n (YieldsList-from_slice xs cc) cc)
    (λ x b f k. (g.met.G.Fn.1.step_stays _ _ _ _ k, good x.now b (record { shown = x; shows = refl; says = record { met = (g.met.G.FnMut.1.post_iff _ _ _).1 (f, k) } }))) in
    c.if-all.false ∙ ap (λ (b : Bool). both b (list_all q (drop c.args.n xs))) (sym c.if-all.false ∙ first) ∙ row_filled p q d _ c.args.n xs refl
