-- Under edition 1 a recording is judged as it was before there was another (W-208): with refusals 2 to 5 as they were, and no 30. Proved in proofs/Editions.antt.
-- Assumes nothing.
use Rattle.std.specs.Prelude.{ℕ, true, List, ◌≡◌, eqb}
use Rattle.numbers.specs.Refusals.{malformed, not_there}
use Rattle.laws.specs.Choice.{pick, both}
use Rattle.faces.specs.Types.{Step, Config, Slots, State, Stepped}
use Rattle.config.specs.Editions.{first_edition}
use Rattle.entries.specs.Faults.{config_sound}
use Rattle.state.specs.Start.{start_of}
use Rattle.state.specs.Tables.{slot_in}
use Rattle.rules.specs.declared.Row.{Row}
use Rattle.rules.specs.Rows.{a_slot, scheduler, row_of}
use Rattle.rules.specs.Refusals.{formed, named_there, owned_refusal, scheduler_refusal}
use Rattle.effects.specs.Steps.{refused}
use Rattle.effects.specs.Step.{act_of, claimed_of}
use Rattle.judging.specs.Judging.{judge_from, judge_of}

-- the first of 2 to 5 that a slot's step falls under, or 0, when no edition was asked for ("Numbers of refusal", 2 to 5)
unfoldable pub instance_before : Config → Slots → Row → Step → ℕ
instance_before cfg ss r s =
    pick (formed r s.what s.argument)
    (pick (both (slot_in ss s.who).used (named_there cfg (slot_in ss s.who).life.runnable r s.what))
    (owned_refusal cfg (slot_in ss s.who).life r s.code s.what)
    not_there)
    malformed

-- the same of any step ("Numbers of refusal", 2 to 5)
unfoldable pub refusal_before : Config → Slots → Row → Step → ℕ
refusal_before cfg ss r s =
    pick (eqb r.who a_slot) (instance_before cfg ss r s)
    (pick (eqb r.who scheduler) (scheduler_refusal cfg r s)
    malformed)

-- a step as it was then ("Numbers of refusal", 2 to 17)
unfoldable pub inner_before : Config → State → Step → Stepped
inner_before cfg st s =
    claimed_of s st
    (pick (eqb (refusal_before cfg st.slots (row_of s.code) s) 0)
    (act_of cfg st s.code s.who s.what s.argument)
    (refused (refusal_before cfg st.slots (row_of s.code) s) st))

-- a recording under a sound configuration of edition 1 is judged by those steps: verdict, count, place, number and state (W-208)
abbrev pub FirstIsBefore : Type 0
FirstIsBefore =
    (cfg : Config) (t : List ℕ) (a : ℕ) → config_sound cfg ≡ true → cfg.edition ≡ first_edition
    → judge_of cfg (start_of cfg) t a ≡ judge_from (inner_before cfg) a t 0 (start_of cfg)
