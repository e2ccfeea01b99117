-- Two waits are one wait (W-203), as types; proved in proofs/: of two steps, of steps anywhere in a recording, of the verdict on its bytes, and of the tool that merges all of them.
-- `Accepted cfg st rs st'` is the history page's: every step of rs, in turn from st, is accepted with the answer that it claims, and st' is the state reached.
-- No statement asks that a sum fits 32 bits: a step of a recording can hold no other, and the tool joins no other (`adds_up`).
-- Assumes nothing.
use Rattle.std.specs.Prelude.{ℕ, ◌+◌, ◌-◌, ◌≤◌, ◌<◌, true, List, [], ◌∷◌, ◌++◌, ◌↔◌, ◌⊎◌, ◌≡◌, ltb, length, take}
use Rattle.numbers.specs.Refusals.{too_far}
use Rattle.laws.specs.Choice.{pick}
use Rattle.faces.specs.Types.{Step, Config, State}
use Rattle.values.specs.Values.{answer_refusal}
use Rattle.entries.specs.Faults.{config_sound}
use Rattle.state.specs.Tables.{max_slots, runnable_in, operation_in, timer_in, slot_in}
use Rattle.rules.specs.Sound.{is_held, sound_of}
use Rattle.effects.specs.Steps.{is_open}
use Rattle.effects.specs.Step.{step_of}
use Rattle.wire.proofs.Laws.{Bytes}
use Rattle.recording.specs.Whole.{whole_of, steps_in, is_sound, text_of}
use Rattle.judging.specs.declared.Verdict.{Verdict}
use Rattle.judging.specs.declared.Verdict.TheVariants.{Accepted as Verdict-as-Accepted, Refused, Unfinished}
use Rattle.judging.specs.declared.Judged.{Judged}
use Rattle.judging.specs.Judging.{verdict_refusal, verdict_place, judge_of}
use Rattle.judging.specs.Line.{max_recording, allowed, line_of, line_form, line_count}
use Rattle.history.specs.Promises.{Answers, Accepted, Run, Demand3}
use Rattle.merging.specs.declared.Merged.TheVariants.{Whole}
use Rattle.merging.specs.Waits.{wait_for, merged_of}
use Rattle.merging.specs.Merging.{merge_to}

-- ---- two waits, in any state of any configuration

-- wait a and then wait b are accepted exactly if wait a + b is, and they end in the same state (W-203)
abbrev pub WaitsAddUp : Type 0
WaitsAddUp = (cfg : Config) (st st' : State) (a b : ℕ) → Accepted cfg st (wait_for a ∷ wait_for b ∷ []) st' ↔ Accepted cfg st (wait_for (a + b) ∷ []) st'

-- wait a + b is refused with a number exactly if one of the two is, the second where the first is accepted (W-203)
abbrev pub WaitsStopAlike : Type 0
WaitsStopAlike =
    (cfg : Config) (st : State) (a b k : ℕ) → 0 < k
    → (answer_refusal (step_of cfg st (wait_for (a + b))).answer ≡ k)
    ↔ ((answer_refusal (step_of cfg st (wait_for a)).answer ≡ k)
    ⊎ (Answers (step_of cfg st (wait_for a)).answer (wait_for a) × (answer_refusal (step_of cfg (step_of cfg st (wait_for a)).state (wait_for b)).answer ≡ k)))

-- in a sound state that number is 13 (W-203)
abbrev pub WaitsStopFar : Type 0
WaitsStopFar = (cfg : Config) (st : State) (t k : ℕ) → sound_of cfg st ≡ true → 0 < k → answer_refusal (step_of cfg st (wait_for t)).answer ≡ k → k ≡ too_far

-- ---- one wait

-- in a sound state wait t is accepted exactly if every open call, every timer and every held instance has t or more left, whatever start intervals run (W-203, W-210)
abbrev pub WaitIsBounded : Type 0
WaitIsBounded =
    (cfg : Config) (st : State) (t : ℕ) → sound_of cfg st ≡ true
    → ((st' : State) × Accepted cfg st (wait_for t ∷ []) st')
    ↔ (((o : ℕ) → o < cfg.operations.n → is_open st o ≡ true → t ≤ (operation_in st.operations o).count) × ((k : ℕ) → k < cfg.timers.n → t ≤ (timer_in st.timers k).count)
    × ((i : ℕ) → i < max_slots → is_held (slot_in st.slots i).life ≡ true → t ≤ (slot_in st.slots i).life.awaited.left))

-- and then each start interval has t less, and stops at 0 (W-203)
abbrev pub IntervalsStop : Type 0
IntervalsStop = (cfg : Config) (st st' : State) (t r : ℕ) → Accepted cfg st (wait_for t ∷ []) st' → r < cfg.runnables.n → (runnable_in st'.runnables r).interval ≡ (runnable_in st.runnables r).interval - t

-- ---- anywhere in a recording: merging reads from left to right, splitting from right to left

-- the steps with the two waits are accepted exactly if those with the one are: so every later answer is the same, and so is the state reached (W-203)
abbrev pub WaitsMerge : Type 0
WaitsMerge =
    (cfg : Config) (st st' : State) (before after : List Step) (a b : ℕ)
    → Accepted cfg st (before ++ (wait_for a ∷ wait_for b ∷ after)) st' ↔ Accepted cfg st (before ++ (wait_for (a + b) ∷ after)) st'

-- so every promise holds of the merged ones if the others are accepted, and the other way round (W-203)
abbrev pub MergedKeeps : Type 0
MergedKeeps =
    (cfg : Config) (st : State) (before after : List Step) (a b : ℕ) → config_sound cfg ≡ true
    → (Run cfg (before ++ (wait_for a ∷ wait_for b ∷ after)) st → Demand3 cfg (before ++ (wait_for (a + b) ∷ after)))
    × (Run cfg (before ++ (wait_for (a + b) ∷ after)) st → Demand3 cfg (before ++ (wait_for a ∷ wait_for b ∷ after)))

-- ---- the verdict

-- two texts that are the same but for this: behind n steps the first has wait a and wait b, the second wait a + b (W-203)
pub record Neighbours (t t' : List ℕ) (n a b : ℕ) : Type 0 where
  pub before : List Step
  pub after : List Step
  pub two : steps_in t ≡ before ++ (wait_for a ∷ wait_for b ∷ after)
  pub one : steps_in t' ≡ before ++ (wait_for (a + b) ∷ after)
  pub place : n ≡ length before
  pub last : (whole_of t).last ≡ (whole_of t').last

-- where a place of the first stands in the second: the two waits are at n + 1, what stands behind them is one less (W-203)
abbrev pub place_moved : ℕ → ℕ → ℕ
place_moved n p = pick (ltb (n + 1) p) (p - 1) p

-- how many steps there are in the second for so many of the first (W-203)
abbrev pub count_moved : ℕ → ℕ → ℕ
count_moved n c = pick (ltb n c) (c - 1) c

-- the verdict on the second for that on the first: the same, with the same number, at the place where that stands now (W-203)
abbrev pub verdict_moved : ℕ → Verdict → Verdict
verdict_moved n Verdict-as-Accepted = Verdict-as-Accepted
verdict_moved n (Refused p k) = Refused (place_moved n p) k
verdict_moved n Unfinished = Unfinished

-- what is judged of the first, and of the second with one step less allowed (W-203)
pub record Moved (n : ℕ) (j j' : Judged) : Type 0 where
  pub verdict : j'.verdict ≡ verdict_moved n j.verdict
  pub count : j'.count ≡ count_moved n j.count
  -- the state reached is the same, unless the second of the two waits is refused: then the first text has come one step further
  pub state : (j.count ≡ n + 1 → ⊥) → j'.state ≡ j.state
  -- and what is refused at one of the two is 13
  pub waits : (verdict_place j.verdict ≡ n + 1) ⊎ (verdict_place j.verdict ≡ n + 2) → verdict_refusal j.verdict ≡ too_far

-- from any state, by any allowance that comes to both waits (W-203)
abbrev pub JudgedMoves : Type 0
JudgedMoves = (cfg : Config) (st : State) (t t' : List ℕ) (n a b more : ℕ) → Neighbours t t' n a b → Moved n (judge_of cfg st t (n + 2 + more)) (judge_of cfg st t' (n + 1 + more))

-- and by one that comes to neither, the judgment is the same (W-203)
abbrev pub JudgedBefore : Type 0
JudgedBefore = (cfg : Config) (st : State) (t t' : List ℕ) (n a b allowance : ℕ) → Neighbours t t' n a b → allowance ≤ n → judge_of cfg st t allowance ≡ judge_of cfg st t' allowance

-- ---- the tool: all neighbouring waits of a recording

-- the merged steps are accepted exactly if the steps are, and end in the same state (W-203)
abbrev pub AllMerge : Type 0
AllMerge = (cfg : Config) (st st' : State) (rs : List Step) → Accepted cfg st rs st' ↔ Accepted cfg st (merged_of rs) st'

-- the verdict on the merged recording for that on the recording of these steps: a place p is that of the step into which the p-th went (W-203)
abbrev pub verdict_merged : List Step → Verdict → Verdict
verdict_merged rs Verdict-as-Accepted = Verdict-as-Accepted
verdict_merged rs (Refused p k) = Refused (length (merged_of (take p rs))) k
verdict_merged rs Unfinished = Unfinished

-- what the tool says of a text, with n steps left, and leaves as its merged text (W-203)
pub record Merging (t : List ℕ) (n : ℕ) : Type 0 where
  pub whole : is_sound t ≡ true
  pub count : n ≡ length (merged_of (steps_in t))
  pub sound : is_sound (text_of (merged_of (steps_in t))) ≡ true
  pub steps : steps_in (text_of (merged_of (steps_in t))) ≡ merged_of (steps_in t)
  pub shorter : length (text_of (merged_of (steps_in t))) ≤ length t
  -- by an allowance of all steps, from any state: the verdict, and of an accepted recording the state
  pub verdict : (cfg : Config) (st : State) (more : ℕ) → (judge_of cfg st (text_of (merged_of (steps_in t))) (n + more)).verdict ≡ verdict_merged (steps_in t) (judge_of cfg st t (length (steps_in t) + more)).verdict
  pub state : (cfg : Config) (st : State) (more : ℕ) → (judge_of cfg st t (length (steps_in t) + more)).verdict ≡ Verdict-as-Accepted → (judge_of cfg st (text_of (merged_of (steps_in t))) (n + more)).state ≡ (judge_of cfg st t (length (steps_in t) + more)).state

-- what the tool merges is judged as it was (W-203)
abbrev pub ToolKeeps : Type 0
ToolKeeps = (t b : List ℕ) (n : ℕ) → Bytes t → merge_to t b ≡ Whole n → Merging t n

-- and the program prints `accepted` for the one exactly if for the other, where both are within its limits (W-203)
abbrev pub LineKeeps : Type 0
LineKeeps =
    (c t b : List ℕ) (n : ℕ) → Bytes t → merge_to t b ≡ Whole n → length t ≤ max_recording → length (steps_in t) ≤ allowed
    → ((line_form (line_of c t) ≡ 0) × (line_count (line_of c t) ≡ length (steps_in t))) ↔ ((line_form (line_of c (text_of (merged_of (steps_in t)))) ≡ 0) × (line_count (line_of c (text_of (merged_of (steps_in t)))) ≡ n))
