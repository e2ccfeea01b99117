-- What the board's five lines say of the bytes c of a configuration and the bytes t of a recording, as types, both ways: a line is shown exactly if what stands here is
-- in the bytes. And the plan that is called final in the words of demand 3, and the history of eight lines. Proved in proofs/.
-- Assumes nothing.
use Rattle.std.specs.Prelude.{ℕ, zero, suc, ◌≤◌, ◌<◌, true, false, List, [], ◌∷◌, ◌++◌, ◌↔◌, ◌≡◌, length, take}
use Rattle.std.proofs.Math.Option.{Option, none, some}
use Rattle.numbers.specs.Refusals.{not_there}
use Rattle.numbers.specs.Codes.{hand_back_code}
use Rattle.faces.specs.Types.{Step, State}
use Rattle.values.specs.Values.{void_v, number_v}
use Rattle.config.specs.Tables.{operation_conf_in}
use Rattle.wire.proofs.Laws.{Bytes}
use Rattle.reading.specs.Reading.{config_of, outcome_refusal}
use Rattle.recording.specs.Whole.{steps_in, is_sound, text_of}
use Rattle.judging.specs.Line.{max_config, allowed, line_of, line_form}
use Rattle.history.specs.History.{How, by_timeout, by_instance, by_failure, Ending, History, history_of, taken_by, failed_by, latest_on, ends_of, last_on, Started, time_since}
use Rattle.history.specs.Promises.{Run}
use Rattle.posting.specs.declared.Shown.{Shown}
use Rattle.posting.specs.declared.Shown.TheVariants.{Final, Wait, NoPlan, None, Unjudged}
use Rattle.posting.specs.declared.Board.{Board}
use Rattle.posting.specs.declared.Told.{Told}
use Rattle.posting.specs.declared.Told.TheVariants.{Line, Refused, Configuration, TooLong}
use Rattle.posting.specs.Posting.{no_board, rows_of, row_in, post_of}
use Rattle.showing.specs.Showing.{show_files_of}

-- ---- the words

-- what a showing tells, on whatever board (W-213)
abbrev pub told_of : List ℕ → ℕ → List ℕ → Board → Told
told_of c o t b = (show_files_of c o t b).told

-- the configuration can be used, and has the operation o (W-213, refusal 3)
pub record There (c : List ℕ) (o : ℕ) : Type 0 where
  pub fits : length c ≤ max_config
  pub read : outcome_refusal (config_of c).outcome ≡ 0
  pub there : o < (config_of c).config.operations.n

-- the recording is accepted whole: it is all of its steps, 4,000 at most, and its end, and every step is accepted (W-213, accepted)
pub record Whole (c t : List ℕ) : Type 0 where
  pub whole : is_sound t ≡ true
  pub few : length (steps_in t) ≤ allowed
  pub state : State
  pub run : Run (config_of c).config (steps_in t) state

-- what is known after all its steps (W-213, demand 3)
abbrev pub after_all : List ℕ → List ℕ → History
after_all c t = history_of (config_of c).config (steps_in t)

-- the call k on o is open: it was started, and has no ending (W-213, WAIT)
abbrev pub Open : List ℕ → ℕ → List ℕ → ℕ → Type 0
Open c o t k = Started (steps_in t) k o × (ends_of k (after_all c t).endings ≡ 0)

-- no call on o is open (W-213)
abbrev pub NoneOpen : List ℕ → ℕ → List ℕ → Type 0
NoneOpen c o t = (k : ℕ) → Open c o t k → ⊥

-- it ended without a plan: by its timeout, or by the failure of its instance (W-213, NO PLAN)
abbrev pub Unplanned : How → Type 0
Unplanned by_timeout = Unit {0}
Unplanned (by_instance k v) = ⊥
Unplanned (by_failure k) = Unit {0}

-- no call ended yet, or to the latest that did Void was handed back (W-213, NONE)
abbrev pub NoneYet : Option Ending → Type 0
NoneYet none = Unit {0}
NoneYet (some e) = e.how ≡ by_instance e.call void_v

-- ---- the five lines

-- what each line says; of a recording that is not accepted whole nothing but that (W-213)
abbrev pub Means : List ℕ → ℕ → List ℕ → Shown → Type 0
Means c o t (Final n) = Whole c t × NoneOpen c o t × (e : Ending) × (last_on o (after_all c t).endings ≡ some e) × (e.how ≡ by_instance e.call (number_v n))
Means c o t Wait = Whole c t × (k : ℕ) × Open c o t k
Means c o t NoPlan = Whole c t × NoneOpen c o t × (e : Ending) × (last_on o (after_all c t).endings ≡ some e) × Unplanned e.how
Means c o t None = Whole c t × NoneOpen c o t × NoneYet (last_on o (after_all c t).endings)
Means c o t Unjudged = Whole c t → ⊥

-- a line is shown exactly if what it says is so, whatever the board showed before (W-213)
abbrev pub LineIsMeant : Type 0
LineIsMeant = (c : List ℕ) (o : ℕ) (t : List ℕ) (b : Board) (x : Shown) → (told_of c o t b ≡ Line x) ↔ (There c o × Means c o t x)

-- 3 is told exactly if the configuration can be used and does not have the operation, whatever the recording is (W-213, refusal 3)
abbrev pub RefusedIsAbsent : Type 0
RefusedIsAbsent =
    (c : List ℕ) (o : ℕ) (t : List ℕ) (b : Board) (k : ℕ) → (told_of c o t b ≡ Refused k)
    ↔ ((length c ≤ max_config) × (outcome_refusal (config_of c).outcome ≡ 0) × ((config_of c).config.operations.n ≤ o) × (k ≡ not_there))

-- ---- what is told, by numbers

-- what was told: 0 a line, 1 a refusal, 2 a configuration that can't be read, 3 one that is too long (W-213)
abbrev pub told_form : Told → ℕ
told_form (Line x) = 0
told_form (Refused k) = 1
told_form (Configuration p k) = 2
told_form TooLong = 3

-- the number of its refusal, 0 where it has none (W-213, refusal 3)
abbrev pub told_refusal : Told → ℕ
told_refusal (Line x) = 0
told_refusal (Refused k) = k
told_refusal (Configuration p k) = k
told_refusal TooLong = 0

-- which of the five lines it is: 0 FINAL, 1 WAIT, 2 NO PLAN, 3 NONE, 4 UNJUDGED, as is whatever is no line (W-213)
abbrev pub shown_form : Shown → ℕ
shown_form (Final n) = 0
shown_form Wait = 1
shown_form NoPlan = 2
shown_form None = 3
shown_form Unjudged = 4

-- the plan that it names, 0 where it names none (W-213)
abbrev pub shown_plan : Shown → ℕ
shown_plan (Final n) = n
shown_plan Wait = 0
shown_plan NoPlan = 0
shown_plan None = 0
shown_plan Unjudged = 0

-- the line that was told, UNJUDGED where none was (W-213)
abbrev pub told_shown : Told → Shown
told_shown (Line x) = x
told_shown (Refused k) = Unjudged
told_shown (Configuration p k) = Unjudged
told_shown TooLong = Unjudged

-- a line, and a refusal, is what its numbers say, so that all that stands here can be read by them (W-213)
abbrev pub ToldByNumbers : Type 0
ToldByNumbers =
    (x : Told)
    → ((y : Shown) → ((told_form x ≡ 0) × (shown_form (told_shown x) ≡ shown_form y) × (shown_plan (told_shown x) ≡ shown_plan y)) ↔ (x ≡ Line y))
    × ((k : ℕ) → ((told_form x ≡ 1) × (told_refusal x ≡ k)) ↔ (x ≡ Refused k))

-- ---- a plan that is called final

-- the plan n of the operation o: an instance that was spawned for the latest call on o handed it back, at its place, within the time of that call, which ended so and never otherwise; and no call on o is open (W-213, demand 3)
pub record Planned (c : List ℕ) (o : ℕ) (t : List ℕ) (n : ℕ) : Type 0 where
  pub before : List Step
  pub step : Step
  pub after : List Step
  -- the recording is exactly its steps and the end, and this is one of them
  pub text : Bytes t → t ≡ text_of (steps_in t)
  pub place : steps_in t ≡ before ++ (step ∷ after)
  -- a hand back of n, answered as one that ends its call
  pub back : step.code ≡ hand_back_code
  pub plan : step.argument ≡ number_v n
  pub ends : step.claim ≡ number_v 1
  -- by an instance that was spawned for this call on o
  pub call : ℕ
  pub started : Started before call o
  pub for : (taken_by (history_of (config_of c).config before) step.who).at ≡ call
  pub on : (taken_by (history_of (config_of c).config before) step.who).on ≡ o
  -- and had not failed
  pub fine : failed_by (history_of (config_of c).config before) step.who ≡ false
  pub time : time_since call before ≤ (operation_conf_in (config_of c).config.operations o).timeout
  -- the latest call on o, ended once, and none is open
  pub latest : call ≡ latest_on (after_all c t) o
  pub once : ends_of call (after_all c t).endings ≡ 1
  pub none : NoneOpen c o t

-- `FINAL n` only then (W-213, demand 3)
abbrev pub FinalIsHandedBack : Type 0
FinalIsHandedBack = (c : List ℕ) (o : ℕ) (t : List ℕ) (b : Board) (n : ℕ) → told_of c o t b ≡ Line (Final n) → Planned c o t n

-- and only where the judge prints `accepted`, as for every line but UNJUDGED (W-213, accepted)
abbrev pub JudgedIsAccepted : Type 0
JudgedIsAccepted = (c : List ℕ) (o : ℕ) (t : List ℕ) (b : Board) (x : Shown) → Bytes t → told_of c o t b ≡ Line x → (x ≡ Unjudged → ⊥) → line_form (line_of c t) ≡ 0

-- ---- the last eight lines

-- the first n lines of a board, from the newest on (W-213)
unfoldable pub lines_to : Board → ℕ → List Shown
lines_to b zero = []
lines_to b (suc n) = lines_to b n ++ (row_in b n ∷ [])

-- the lines of a board, the newest first (W-213)
abbrev pub lines_of : Board → List Shown
lines_of b = lines_to b (rows_of b)

-- a line that is shown stands in front of those that were there, of which seven stay; whatever else is told leaves the board as it was (W-213)
abbrev pub BoardFollows : Type 0
BoardFollows =
    (c : List ℕ) (o : ℕ) (t : List ℕ) (b : Board)
    → ((x : Shown) → told_of c o t b ≡ Line x → lines_of (show_files_of c o t b).board ≡ take 8 (x ∷ lines_of b))
    × (((x : Shown) → told_of c o t b ≡ Line x → ⊥) → (show_files_of c o t b).board ≡ b)

-- a board after lines, the last of them the newest (W-213)
unfoldable pub post_all : List Shown → Board
post_all [] = no_board
post_all (x ∷ xs) = post_of (post_all xs) x

-- it has the last eight of them (W-213)
abbrev pub LastEight : Type 0
LastEight = (xs : List Shown) → lines_of (post_all xs) ≡ take 8 xs
