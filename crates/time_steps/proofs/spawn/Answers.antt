-- `time_steps::spawn` meets its contract.
-- Assumes nothing.
use mathlib.Core.Bool.{true, false}
use mathlib.Core.Path.{◌≡◌, ◌∙◌, sym, ap}
use Rattle.values.specs.Values.{number_v}
use Rattle.faces.specs.Types.{State}
use Rattle.config.specs.Tables.{runnable_conf_in}
use Rattle.state.specs.Tables.{runnable_in}
use Rattle.effects.specs.Steps.{took, may_spawn, spawned, lists_some, spawn_of}
use Rattle.time_steps.proofs.Places.{found_none}
use Rattle.time_steps.proofs.Spawning.{spawn-taken, begun-unlisted}
use Rattle.time_steps.proofs.spawn.Goals as goal

pub returns-then-not-may_spawn : goal.returns-then-not-may_spawn
unfolding spawn_of
returns-then-not-may_spawn c = rw (c.refuse.ensures, ← c.get-c.ensures, ← c.get-x.ensures, ← c.may_spawn.ensures, c.if-not-may_spawn.true)

pub returns-in_default : goal.returns-in_default
unfolding spawn_of
returns-in_default c = rw (← c.get-c.ensures, ← c.get-x.ensures, ← c.may_spawn.ensures, c.if-not-may_spawn.false, found_none c.args.st.slots (sym c.found_empty.ensures ∙ c.in_default.is), c.refuse-in_default.ensures)

pub returns-then-lists_some : goal.returns-then-lists_some
unfolding spawned
returns-then-lists_some c =
    let a = c.args in
    let k = c.in-Some.k in
    let m : may_spawn (runnable_conf_in a.cfg.runnables a.r) (runnable_in a.st.runnables a.r) ≡ true = rw (c.get-c.ensures, c.get-x.ensures) at (sym c.may_spawn.ensures ∙ c.if-not-may_spawn.false) in
    rw (c.take.ensures, c.of-slot.ensures, c.from.ensures, c.copied_to.ensures, c.with-2.ensures, c.with.ensures, c.starting.ensures, c.instance_of.ensures, c.get-x.ensures, c.get-c.ensures)
    (sym (spawn-taken a.cfg a.st a.r k m (sym c.found_empty.ensures ∙ c.in-Some.is)))

pub returns : goal.returns
unfolding spawned
returns c =
    let a = c.args in
    let k = c.in-Some.k in
    let m : may_spawn (runnable_conf_in a.cfg.runnables a.r) (runnable_in a.st.runnables a.r) ≡ true = rw (c.get-c.ensures, c.get-x.ensures) at (sym c.may_spawn.ensures ∙ c.if-not-may_spawn.false) in
    let l : lists_some a.cfg.incoming a.r ≡ false = sym c.lists_some.ensures ∙ c.if-lists_some.false in
    rw (c.take-2.ensures, c.of-slot.ensures, c.from.ensures, c.with-2.ensures, c.with.ensures, c.starting.ensures, c.instance_of.ensures, c.get-x.ensures, c.get-c.ensures)
    (ap (λ (s : State). took (number_v k) s) (sym (begun-unlisted a.cfg a.st a.r k l)) ∙ sym (spawn-taken a.cfg a.st a.r k m (sym c.found_empty.ensures ∙ c.in-Some.is)))
