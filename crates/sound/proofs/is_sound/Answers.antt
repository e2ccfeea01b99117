-- `sound::is_sound` meets its contract.
-- Assumes nothing.
use Rattle.std.proofs.Common.{◌≡◌, true, length, sym, ◌∙◌, eq-eqb, rules}
use Rattle.laws.specs.Choice.{all_of}
use Rattle.laws.proofs.Places.{length-mapped}
use Rattle.faces.specs.Types.{State}
use Rattle.rules.specs.Sound.{shaped, sound_of}
use Rattle.sound.proofs.Test.{rest-is, slot-fails}
use Rattle.sound.proofs.is_sound.Goals as goal

-- a state whose tables have their lengths
shape : (st : State) → length st.runnables.at ≡ 16 → length st.variables.at ≡ 16 → length st.areas.at ≡ 16 → length st.elements.at ≡ 16 → length st.operations.at ≡ 8 → length st.timers.at ≡ 8 → length st.slots.at ≡ 32 → length st.incoming.at ≡ 32 → length st.outgoing.at ≡ 32 → shaped st ≡ true
unfolding shaped all_of
shape st runnables variables areas elements operations timers slots incoming outgoing =
    rw (eq-eqb _ _ runnables, eq-eqb _ _ variables, eq-eqb _ _ areas, eq-eqb _ _ elements, eq-eqb _ _ operations, eq-eqb _ _ timers, eq-eqb _ _ slots, eq-eqb _ _ incoming, eq-eqb _ _ outgoing)

pub returns-then-not-config_sound : goal.returns-then-not-config_sound
unfolding sound_of all_of
returns-then-not-config_sound c = rw (← c.config_sound.ensures, c.if-not-config_sound.true)

pub returns-then-w : goal.returns-then-w
returns-then-w c =
    let runnables : length c.args.st.runnables.at ≡ 16 = search (rules, length-mapped) in
    let variables : length c.args.st.variables.at ≡ 16 = search (rules, length-mapped) in
    let areas : length c.args.st.areas.at ≡ 16 = search (rules, length-mapped) in
    let elements : length c.args.st.elements.at ≡ 16 = search (rules, length-mapped) in
    let operations : length c.args.st.operations.at ≡ 8 = search (rules, length-mapped) in
    let timers : length c.args.st.timers.at ≡ 8 = search (rules, length-mapped) in
    let slots : length c.args.st.slots.at ≡ 32 = search (rules, length-mapped) in
    let incoming : length c.args.st.incoming.at ≡ 32 = search (rules, length-mapped) in
    let outgoing : length c.args.st.outgoing.at ≡ 32 = search (rules, length-mapped) in
    c.rest_sound.ensures ∙ rest-is c.args.cfg c.args.st (sym c.config_sound.ensures ∙ c.if-not-config_sound.false) (shape c.args.st runnables variables areas elements operations timers slots incoming outgoing) c.walk-w.result c.walk-w.ensures c.if-w.true

pub returns-else-w : goal.returns-else-w
returns-else-w c =
    let runnables : length c.args.st.runnables.at ≡ 16 = search (rules, length-mapped) in
    let variables : length c.args.st.variables.at ≡ 16 = search (rules, length-mapped) in
    let areas : length c.args.st.areas.at ≡ 16 = search (rules, length-mapped) in
    let elements : length c.args.st.elements.at ≡ 16 = search (rules, length-mapped) in
    let operations : length c.args.st.operations.at ≡ 8 = search (rules, length-mapped) in
    let timers : length c.args.st.timers.at ≡ 8 = search (rules, length-mapped) in
    let slots : length c.args.st.slots.at ≡ 32 = search (rules, length-mapped) in
    let incoming : length c.args.st.incoming.at ≡ 32 = search (rules, length-mapped) in
    let outgoing : length c.args.st.outgoing.at ≡ 32 = search (rules, length-mapped) in
    c.if-w.false ∙ sym (slot-fails c.args.cfg c.args.st (sym c.config_sound.ensures ∙ c.if-not-config_sound.false) (shape c.args.st runnables variables areas elements operations timers slots incoming outgoing) c.walk-w.result c.walk-w.ensures c.if-w.false)
