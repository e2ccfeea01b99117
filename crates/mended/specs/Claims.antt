-- What mending promises (W-209), as types; proved in proofs/. `Accepted cfg st rs st'` is the history page's: every step of rs, in turn from st, is accepted, with an answer
-- that agrees with what it claims, and st' is the state reached. Plain.antt says the two promises on the search again in these words alone; Faithful.antt has those on steps and report.
-- Assumes nothing.
use Rattle.std.specs.Prelude.{ℕ, ◌+◌, ◌*◌, ◌≤◌, ◌<◌, true, false, ◌↔◌, ◌⊎◌, ◌≡◌, length, get_or, drop}
use mathlib.Core.List.{List, [], ◌∷◌, ◌++◌, map, Memᴰ}
use Rattle.numbers.specs.Refusals.{no_fill, not_sound, bad_field, no_room}
use Rattle.numbers.specs.Codes.{spawn_code, timeout_code, tick_code}
use Rattle.numbers.specs.Tags.{step_size, end_size}
use Rattle.faces.specs.Types.{Step, Config, State}
use Rattle.state.specs.Start.{start_of}
use Rattle.entries.specs.Faults.{config_sound}
use Rattle.rules.specs.Sound.{sound_of}
use Rattle.effects.specs.Step.{step_of}
use Rattle.wire.proofs.Laws.{Bytes}
use Rattle.recording.specs.Recording.{field_past}
use Rattle.recording.specs.Whole.{whole_of, steps_in, is_sound, text_of}
use Rattle.judging.specs.declared.Verdict.TheVariants.{Accepted as Verdict-as-Accepted}
use Rattle.judging.specs.Judging.{judged, judge_of}
use Rattle.history.specs.Promises.{Answers, Accepted, Run, Demand3}
use Rattle.gaps.specs.declared.Mended.{Mended}
use Rattle.gaps.specs.declared.Mended.TheVariants.{Whole, Refused}
use Rattle.gaps.specs.Gaps.{choice, sequences_of, fills, answered_all, Turn, turns_of, state_after, mended_steps}
use Rattle.gaps.specs.Report.{report_from, note_count, mend_to, mend_written, mend_reported, note_size}

-- the turns of the steps that a text reads as (W-209, per gap)
abbrev pub turns_in : Config → State → List ℕ → List Turn
turns_in cfg st t = turns_of (step_of cfg) cfg st (steps_in t)

-- the mended steps of a text (W-209, the mended text)
abbrev pub mended : Config → State → List ℕ → List Step
mended cfg st t = mended_steps (turns_in cfg st t)

-- ---- the list of sequences

-- a step of the scheduler about a part that is configured, before it has an answer (W-209, codes 15, 16 and 17)
abbrev pub ChoiceOf : Config → Step → Type 0
ChoiceOf cfg x = ((k : ℕ) × (k < cfg.runnables.n) × (x ≡ choice spawn_code k)) ⊎ (((k : ℕ) × (k < cfg.operations.n) × (x ≡ choice timeout_code k)) ⊎ ((k : ℕ) × (k < cfg.timers.n) × (x ≡ choice tick_code k)))

-- the list has every sequence of at most three such steps, and no other (W-209, the fill)
abbrev pub ListIsAll : Type 0
ListIsAll = (cfg : Config) (q : List Step) → Memᴰ q (sequences_of cfg) ↔ ((length q ≤ 3) × ((x : Step) → Memᴰ x q → ChoiceOf cfg x))

-- the empty one stands first, and for a sound configuration there are at most 33,825 (W-209, order)
abbrev pub ListIsBounded : Type 0
ListIsBounded = (cfg : Config) → (get_or (sequences_of cfg) 0 (choice 0 0 ∷ []) ≡ []) × (config_sound cfg ≡ true → length (sequences_of cfg) ≤ 33825)

-- x comes before y: it has the smaller code, or the same code and the smaller part (W-209, order)
abbrev pub Earlier : Step → Step → Type 0
Earlier x y = (x.code < y.code) ⊎ ((x.code ≡ y.code) × (x.what < y.what))

-- p comes before q: it is shorter; or it is as long, and at the first difference has the choice that comes before (W-209, order)
pub data Before (p q : List Step) : Type 0 where
  shorter : length p < length q → Before p q
  sooner : (same : List Step) (x y : Step) (u v : List Step) → p ≡ same ++ (x ∷ u) → q ≡ same ++ (y ∷ v) → length u ≡ length v → Earlier x y → Before p q

-- of two sequences at most one comes before the other (W-209, order)
abbrev pub OrderIsOneWay : Type 0
OrderIsOneWay = (p q : List Step) → Before p q → Before q p → ⊥

-- the list is in this order, so that a place in it is the number of sequences that come before (W-209, order)
abbrev pub ListIsOrdered : Type 0
ListIsOrdered = (cfg : Config) (i j : ℕ) → i < j → j < length (sequences_of cfg) → Before (get_or (sequences_of cfg) i []) (get_or (sequences_of cfg) j [])

-- ---- fills, in the words of the history page

-- a sequence fills the gap before s exactly if its steps, each with the machine's answer as its claim, and then s are accepted one after another (W-209, a gap)
abbrev pub FillIsAccepted : Type 0
FillIsAccepted = (cfg : Config) (st : State) (s : Step) (q : List Step) → (fills (step_of cfg) cfg st s q ≡ true) ↔ ((st' : State) × Accepted cfg st (answered_all (step_of cfg) cfg st q ++ (s ∷ [])) st')

-- ---- first

-- a turn from the state m before it: what is inserted is the sequence at the place that is reported, it fills the gap, and nothing before it in the list does (W-209, the fill)
pub record FirstFill (cfg : Config) (m : State) (t : Turn) : Type 0 where
  pub there : t.passed < length (sequences_of cfg)
  pub inserted : t.inserted ≡ answered_all (step_of cfg) cfg m (get_or (sequences_of cfg) t.passed [])
  pub fits : fills (step_of cfg) cfg m t.kept (get_or (sequences_of cfg) t.passed []) ≡ true
  pub first : (j : ℕ) → j < t.passed → fills (step_of cfg) cfg m t.kept (get_or (sequences_of cfg) j []) ≡ false
  -- nothing is passed over exactly if the recorded step is accepted as it stands, and then nothing is inserted
  pub none : (t.passed ≡ 0) ↔ Answers (step_of cfg m t.kept).answer t.kept
  pub bare : t.passed ≡ 0 → t.inserted ≡ []

-- every turn is so, from the state that the mended steps before it reach (W-209, the fill)
abbrev pub FirstIsInserted : Type 0
FirstIsInserted =
    (cfg : Config) (st : State) (rs : List Step) (before after : List Turn) (t : Turn) → turns_of (step_of cfg) cfg st rs ≡ before ++ (t ∷ after)
    → (m : State) × Accepted cfg st (mended_steps before) m × FirstFill cfg m t

-- ---- complete

-- the recorded steps before the place are all mended, and from the state that they reach no sequence of the list fills the gap before the step at it (W-209, 31)
pub record Unfilled (cfg : Config) (st : State) (rs : List Step) (place : ℕ) : Type 0 where
  pub before : List Step
  pub step : Step
  pub after : List Step
  pub split : rs ≡ before ++ (step ∷ after)
  pub at : place ≡ length before + 1
  pub whole : map (λ (t : Turn). t.kept) (turns_of (step_of cfg) cfg st before) ≡ before
  pub state : State
  pub reached : Accepted cfg st (mended_steps (turns_of (step_of cfg) cfg st before)) state
  pub none : (q : List Step) → Memᴰ q (sequences_of cfg) → fills (step_of cfg) cfg state step q ≡ false

-- 31 exactly at the first gap that no sequence fills (W-209, 31)
abbrev pub RefusedIsUnfilled : Type 0
RefusedIsUnfilled =
    (cfg : Config) (st : State) (t b p : List ℕ) (place : ℕ)
    → (mend_to cfg st t b p ≡ Refused place no_fill) ↔ ((sound_of cfg st ≡ true) × Unfilled cfg st (steps_in t) place)

-- ---- every answer, by cases

-- every recorded step is mended, in order and unchanged (W-209, the mended text)
abbrev pub AllMended : Config → State → List ℕ → Type 0
AllMended cfg st t = map (λ (x : Turn). x.kept) (turns_in cfg st t) ≡ steps_in t

-- the answer r, and why: 1 at place 0, 31, 18, 27 in this order, each exactly where the ones before it are not; else mended (W-209, refusals)
pub data Outcome (cfg : Config) (st : State) (t b p : List ℕ) (r : Mended) : Type 0 where
  unsound : sound_of cfg st ≡ false → r ≡ Refused 0 not_sound → Outcome cfg st t b p r
  unfilled : (place : ℕ) → sound_of cfg st ≡ true → Unfilled cfg st (steps_in t) place → r ≡ Refused place no_fill → Outcome cfg st t b p r
  unread : sound_of cfg st ≡ true → AllMended cfg st t → is_sound t ≡ false → r ≡ Refused (length (steps_in t) + 1 + field_past (whole_of t).last) bad_field → Outcome cfg st t b p r
  short : sound_of cfg st ≡ true → AllMended cfg st t → is_sound t ≡ true → ((length b < length (mended cfg st t) * step_size + end_size) ⊎ (length p < note_count (turns_in cfg st t) * note_size)) → r ≡ Refused 0 no_room → Outcome cfg st t b p r
  whole : sound_of cfg st ≡ true → AllMended cfg st t → is_sound t ≡ true → length (mended cfg st t) * step_size + end_size ≤ length b → note_count (turns_in cfg st t) * note_size ≤ length p
      → r ≡ Whole (length (mended cfg st t)) (note_count (turns_in cfg st t)) → Outcome cfg st t b p r

-- every answer is one of these (W-209, refusals)
abbrev pub AnswerByCases : Type 0
AnswerByCases = (cfg : Config) (st : State) (t b p : List ℕ) → Outcome cfg st t b p (mend_to cfg st t b p)

-- a refusal has one of the four numbers, and none of them is 0 (W-209, refusals)
abbrev pub RefusalsAreFour : Type 0
RefusalsAreFour =
    (cfg : Config) (st : State) (t b p : List ℕ) (place number : ℕ) → mend_to cfg st t b p ≡ Refused place number
    → ((number ≡ not_sound) × (place ≡ 0)) ⊎ ((number ≡ no_fill) ⊎ ((number ≡ bad_field) ⊎ ((number ≡ no_room) × (place ≡ 0))))

-- ---- accepted

-- the mended text is judged accepted under an allowance of all its steps, and under any larger one; all of them are counted (W-209, the mended text)
abbrev pub MendedIsAccepted : Type 0
MendedIsAccepted =
    (cfg : Config) (st : State) (t b p : List ℕ) (n k : ℕ) → Bytes t → mend_to cfg st t b p ≡ Whole n k
    → (n ≡ length (mended cfg st t)) × Accepted cfg st (mended cfg st t) (state_after (step_of cfg) st (mended cfg st t))
    × ((more : ℕ) → judge_of cfg st (text_of (mended cfg st t)) (n + more) ≡ judged Verdict-as-Accepted n (state_after (step_of cfg) st (mended cfg st t)))

-- mended from the start state: the configuration is sound, the text is a whole recording of the mended steps, and these are a run, of which every promise of the history page holds (W-209, demand 3)
pub record MendedRun (cfg : Config) (t : List ℕ) (n : ℕ) : Type 0 where
  pub sound : config_sound cfg ≡ true
  pub whole : is_sound (text_of (mended cfg (start_of cfg) t)) ≡ true
  pub steps : steps_in (text_of (mended cfg (start_of cfg) t)) ≡ mended cfg (start_of cfg) t
  pub count : n ≡ length (mended cfg (start_of cfg) t)
  pub state : State
  pub run : Run cfg (mended cfg (start_of cfg) t) state

-- what is mended from the start state is so (W-209, demand 3)
abbrev pub MendedIsRun : Type 0
MendedIsRun = (cfg : Config) (t b p : List ℕ) (n k : ℕ) → Bytes t → mend_to cfg (start_of cfg) t b p ≡ Whole n k → MendedRun cfg t n

-- and the whole of demand 3 holds of it, at every moment and at every step (W-209, demand 3)
abbrev pub MendedKeeps : Type 0
MendedKeeps = (cfg : Config) (t b p : List ℕ) (n k : ℕ) → Bytes t → mend_to cfg (start_of cfg) t b p ≡ Whole n k → Demand3 cfg (mended cfg (start_of cfg) t)

-- ---- the lent buffers

-- where it is mended, the text and the report stand at the front of their buffers, which are as they were behind them (W-209, the mended text and the report)
abbrev pub BuffersHold : Type 0
BuffersHold =
    (cfg : Config) (st : State) (t b p : List ℕ) (n k : ℕ) → mend_to cfg st t b p ≡ Whole n k
    → (mend_written cfg st t b p ≡ text_of (mended cfg st t) ++ drop (n * step_size + end_size) b) × (length (text_of (mended cfg st t)) ≡ n * step_size + end_size)
    × (mend_reported cfg st t b p ≡ report_from 0 (turns_in cfg st t) ++ drop (k * note_size) p) × (length (report_from 0 (turns_in cfg st t)) ≡ k * note_size)

-- a refusal leaves every lent byte (W-209, refusals)
abbrev pub RefusalLeaves : Type 0
RefusalLeaves = (cfg : Config) (st : State) (t b p : List ℕ) (place number : ℕ) → mend_to cfg st t b p ≡ Refused place number → (mend_written cfg st t b p ≡ b) × (mend_reported cfg st t b p ≡ p)

-- at most four steps and four notes for each recorded step; so buffers of four times the recording's size are never too short (W-209, 27)
abbrev pub FourTimesSuffice : Type 0
FourTimesSuffice =
    (cfg : Config) (st : State) (t b p : List ℕ)
    → (length (mended cfg st t) ≤ 4 * length (steps_in t)) × (note_count (turns_in cfg st t) ≤ 4 * length (steps_in t))
    × (4 * length t ≤ length b → 4 * length t ≤ length p → (place : ℕ) → mend_to cfg st t b p ≡ Refused place no_room → ⊥)

-- ---- still

-- nothing to mend: the same steps and bytes, and an empty report (W-209, a gap)
pub record Still (cfg : Config) (st : State) (t : List ℕ) : Type 0 where
  pub steps : mended cfg st t ≡ steps_in t
  pub report : report_from 0 (turns_in cfg st t) ≡ []
  pub notes : note_count (turns_in cfg st t) ≡ 0
  -- byte for byte, where the buffer has room
  pub text : text_of (mended cfg st t) ≡ t
  pub answer : (b p : List ℕ) → length t ≤ length b → mend_to cfg st t b p ≡ Whole (length (steps_in t)) 0
  pub written : (b p : List ℕ) → length t ≤ length b → mend_written cfg st t b p ≡ t ++ drop (length t) b
  pub reported : (b p : List ℕ) → mend_reported cfg st t b p ≡ p

-- a recording that is judged accepted, by whatever allowance, is so (W-209)
abbrev pub AcceptedIsStill : Type 0
AcceptedIsStill = (cfg : Config) (st : State) (t : List ℕ) (a : ℕ) → Bytes t → (judge_of cfg st t a).verdict ≡ Verdict-as-Accepted → Still cfg st t

-- so mending twice is mending once (W-209)
abbrev pub MendedIsStill : Type 0
MendedIsStill = (cfg : Config) (st : State) (t b p : List ℕ) (n k : ℕ) → Bytes t → mend_to cfg st t b p ≡ Whole n k → Still cfg st (text_of (mended cfg st t))

-- ---- one meaning

-- the answer and every lent byte are determined: two functions that keep the contract agree (W-209)
abbrev pub MendIsUnique : Type 0
MendIsUnique =
    (cfg : Config) (st : State) (t b p : List ℕ) (r r' : Mended) (o o' q q' : List ℕ)
    → (r ≡ mend_to cfg st t b p) × (o ≡ mend_written cfg st t b p) × (q ≡ mend_reported cfg st t b p)
    → (r' ≡ mend_to cfg st t b p) × (o' ≡ mend_written cfg st t b p) × (q' ≡ mend_reported cfg st t b p)
    → (r ≡ r') × (o ≡ o') × (q ≡ q')
