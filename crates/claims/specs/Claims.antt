-- What each line that the program prints says of the bytes of its two files, as types, both ways: a line is printed exactly if what stands here is in the bytes.
-- And the whole of demand 3 from `accepted N`, with what holds of the steps that `unfinished N` and `refused P R` count. Proved in proofs/.
-- A line is named by the numbers that stand for it (`line_form`, `line_count`, `line_place`, `answer_refusal`); of what is refused the number is never 0.
-- Assumes nothing.
use Rattle.std.specs.Prelude.{ℕ, ◌+◌, ◌≤◌, ◌<◌, true, List, ◌∷◌, ◌↔◌, ◌≡◌, length, take, drop}
use Rattle.faces.specs.Types.{Step, Config, State}
use Rattle.values.specs.Values.{answer_refusal}
use Rattle.state.specs.Start.{start_of}
use Rattle.entries.specs.Faults.{config_sound}
use Rattle.effects.specs.Step.{inner_of, step_of}
use Rattle.wire.proofs.Laws.{Bytes}
use Rattle.reading.specs.Reading.{config_of, outcome_refusal, outcome_place}
use Rattle.recording.specs.Recording.{field_refusal, field_past}
use Rattle.recording.specs.Whole.{whole_of, steps_in, is_sound, text_of}
use Rattle.judging.specs.declared.Judged.{Judged}
use Rattle.judging.specs.Judging.{verdict_refusal, verdict_place, verdict_form, judge_from, judge_of}
use Rattle.judging.specs.Line.{max_config, max_recording, allowed, line_of, line_form, line_count, line_place, line_refusal}
use Rattle.history.specs.Promises.{Run, Demand3}

-- ---- a judgment, by any allowance, from the start state of a sound configuration

-- the verdict's form, the steps counted and the state given ("Judging")
abbrev pub Says : Judged → ℕ → ℕ → State → Type 0
Says j form n st = (verdict_form j.verdict ≡ form) × (j.count ≡ n) × (j.state ≡ st)

-- the first n steps of the bytes t, which has as many, are accepted from the start state ("Judging")
pub record FirstRun (config : Config) (t : List ℕ) (n : ℕ) (state : State) : Type 0 where
  pub there : n ≤ length (steps_in t)
  pub run : Run config (take n (steps_in t)) state

-- the test of soundness can be left out: with the step that does not make it, the judgment is the same
abbrev pub UntestedIsSame : Type 0
UntestedIsSame = (cfg : Config) (t : List ℕ) (a : ℕ) → config_sound cfg ≡ true → judge_of cfg (start_of cfg) t a ≡ judge_from (inner_of cfg) a t 0 (start_of cfg)

-- whatever the verdict, the steps that it counts are the first of the bytes, accepted up to the state that it gives
abbrev pub CountedIsRun : Type 0
CountedIsRun =
    (cfg : Config) (t : List ℕ) (a : ℕ) → config_sound cfg ≡ true
    → FirstRun cfg t (judge_of cfg (start_of cfg) t a).count (judge_of cfg (start_of cfg) t a).state

-- accepted: the text is a whole recording of no more steps than were allowed, and all of them are accepted
abbrev pub AcceptedIsWhole : Type 0
AcceptedIsWhole =
    (cfg : Config) (t : List ℕ) (a n : ℕ) (st : State) → config_sound cfg ≡ true
    → Says (judge_of cfg (start_of cfg) t a) 0 n st ↔ ((is_sound t ≡ true) × (n ≡ length (steps_in t)) × (n ≤ a) × Run cfg (steps_in t) st)

-- unfinished: as many steps as were allowed are accepted, and one more stands behind them
abbrev pub UnfinishedIsCut : Type 0
UnfinishedIsCut =
    (cfg : Config) (t : List ℕ) (a n : ℕ) (st : State) → config_sound cfg ≡ true
    → Says (judge_of cfg (start_of cfg) t a) 2 n st ↔ ((n ≡ a) × (n < length (steps_in t)) × Run cfg (take n (steps_in t)) st)

-- why n accepted steps that led to st are all, by the allowance a: at the place p, with the number k, which is not 0 ("Judging")
pub data Stops (cfg : Config) (a : ℕ) (t : List ℕ) (n : ℕ) (st : State) (p k : ℕ) : Type 0 where
  -- the next step of the bytes is allowed, and is refused by the rules of a step
  at_step : (s : Step) (rest : List Step) → drop n (steps_in t) ≡ s ∷ rest → n < a → p ≡ n + 1 → answer_refusal (step_of cfg st s).answer ≡ k → 0 < k → Stops cfg a t n st p k
  -- there is no next step: the field behind the last one is refused, or what stands behind the end
  at_field : length (steps_in t) ≡ n → n ≤ a → p ≡ n + 1 + field_past (whole_of t).last → field_refusal (whole_of t).last ≡ k → 0 < k → Stops cfg a t n st p k

-- refused: the first thing that is not allowed stands at the place named, and is refused with the number named
abbrev pub RefusedIsStopped : Type 0
RefusedIsStopped =
    (cfg : Config) (t : List ℕ) (a n : ℕ) (st : State) (p k : ℕ) → config_sound cfg ≡ true
    → (Says (judge_of cfg (start_of cfg) t a) 1 n st × (verdict_place (judge_of cfg (start_of cfg) t a).verdict ≡ p) × (verdict_refusal (judge_of cfg (start_of cfg) t a).verdict ≡ k))
    ↔ (FirstRun cfg t n st × Stops cfg a t n st p k)

-- ---- the five lines, for the bytes c of a configuration and the bytes t of a recording

-- neither file is longer than it may be ("Judging", the program)
abbrev pub Fits : List ℕ → List ℕ → Type 0
Fits c t = (length c ≤ max_config) × (length t ≤ max_recording)

-- both files fit, and a configuration is read ("Judging", the program)
abbrev pub Readable : List ℕ → List ℕ → Type 0
Readable c t = Fits c t × (outcome_refusal (config_of c).outcome ≡ 0)

-- `accepted N`: all N steps of a whole recording, at most 4,000, are accepted
abbrev pub AcceptedIsRun : Type 0
AcceptedIsRun =
    (c t : List ℕ) (n : ℕ) → ((line_form (line_of c t) ≡ 0) × (line_count (line_of c t) ≡ n))
    ↔ (Readable c t × (is_sound t ≡ true) × (n ≡ length (steps_in t)) × (n ≤ allowed) × (st : State) × Run (config_of c).config (steps_in t) st)

-- `refused P R`: the steps before the place P are accepted, and there R stops them
abbrev pub RefusedIsRun : Type 0
RefusedIsRun =
    (c t : List ℕ) (p k : ℕ) → ((line_form (line_of c t) ≡ 1) × (line_place (line_of c t) ≡ p) × (line_refusal (line_of c t) ≡ k))
    ↔ (Readable c t × (n : ℕ) × (st : State) × FirstRun (config_of c).config t n st × Stops (config_of c).config allowed t n st p k)

-- `unfinished N`: N is 4,000, so many steps are accepted, and one more stands behind them
abbrev pub UnfinishedIsRun : Type 0
UnfinishedIsRun =
    (c t : List ℕ) (n : ℕ) → ((line_form (line_of c t) ≡ 2) × (line_count (line_of c t) ≡ n))
    ↔ (Readable c t × (n ≡ allowed) × (n < length (steps_in t)) × (st : State) × Run (config_of c).config (take n (steps_in t)) st)

-- `configuration P R`: the configuration's field at the place P is refused with R
abbrev pub ConfigurationIsUnread : Type 0
ConfigurationIsUnread =
    (c t : List ℕ) (p k : ℕ) → ((line_form (line_of c t) ≡ 3) × (line_place (line_of c t) ≡ p) × (line_refusal (line_of c t) ≡ k))
    ↔ (Fits c t × (outcome_place (config_of c).outcome ≡ p) × (outcome_refusal (config_of c).outcome ≡ k) × (0 < k))

-- `input too long`: one of the files is longer than it may be
abbrev pub TooLongIsLong : Type 0
TooLongIsLong = (c t : List ℕ) → (line_form (line_of c t) ≡ 4) ↔ (Fits c t → ⊥)

-- ---- demand 3

-- what `accepted N` says of the bytes c and t: their configuration is sound, t is exactly its steps and the end, N in number, and these keep demand 3 ("How tight the contracts are", demand 3)
pub record Keeps (c t : List ℕ) (n : ℕ) : Type 0 where
  pub config : config_sound (config_of c).config ≡ true
  pub text : Bytes t → t ≡ text_of (steps_in t)
  pub count : n ≡ length (steps_in t)
  pub demand : Demand3 (config_of c).config (steps_in t)

-- `accepted N`: the whole of demand 3 ("How tight the contracts are", demand 3)
abbrev pub AcceptedKeeps : Type 0
AcceptedKeeps = (c t : List ℕ) (n : ℕ) → (line_form (line_of c t) ≡ 0) × (line_count (line_of c t) ≡ n) → Keeps c t n

-- `unfinished N`: the first N steps keep it ("How tight the contracts are", demand 3)
abbrev pub UnfinishedKeeps : Type 0
UnfinishedKeeps = (c t : List ℕ) (n : ℕ) → (line_form (line_of c t) ≡ 2) × (line_count (line_of c t) ≡ n) → Demand3 (config_of c).config (take n (steps_in t))

-- `refused P R`: the steps before the first thing that is refused keep it ("How tight the contracts are", demand 3)
abbrev pub RefusedKeeps : Type 0
RefusedKeeps =
    (c t : List ℕ) (p k : ℕ) → (line_form (line_of c t) ≡ 1) × (line_place (line_of c t) ≡ p) × (line_refusal (line_of c t) ≡ k)
    → (n : ℕ) × (st : State) × Stops (config_of c).config allowed t n st p k × Demand3 (config_of c).config (take n (steps_in t))
