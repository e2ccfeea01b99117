-- Pending activations as a count with a top (W-212), as types; proved in proofs/: of one step, of accepted steps in any order, and what the counting flag makes of it.
-- `Accepted cfg st rs st'` is the history page's: every step of rs, in turn from st, is accepted, and st' is the state reached. A statement speaks of a plain runnable, with the flag or without, unless it names one of the two.
-- Assumes nothing.
use Rattle.std.specs.Prelude.{ℕ, ◌+◌, ◌≤◌, ◌<◌, Bool, true, false, List, [], ◌∷◌, ◌≡◌, leb, eqb}
use Rattle.numbers.specs.Codes.{write_code, send_code, hand_back_code, end_code, spawn_code, timeout_code, tick_code}
use Rattle.laws.specs.Choice.{pick, both, either, bit}
use Rattle.faces.specs.Types.{Step, Config, State}
use Rattle.config.specs.Tables.{max_pending, runnable_conf_in, timer_conf_in, top_of}
use Rattle.entries.specs.Faults.{is_server}
use Rattle.state.specs.Tables.{max_slots, runnable_in, copies_in}
use Rattle.rules.specs.Sound.{sound_of}
use Rattle.effects.specs.Steps.{runnable_of, is_given_to, hands_on, is_fed, is_returned, answers, client_of, lowest_empty}
use Rattle.effects.specs.Step.{step_of}
use Rattle.history.specs.Promises.{Answers, Accepted, Possible}

-- ---- what is counted

-- how many activations of r are pending (W-212)
abbrev pub pending_of : State → ℕ → ℕ
pending_of st r = (runnable_in st.runnables r).pending

-- how many there may be (W-212)
abbrev pub top_at : Config → ℕ → ℕ
top_at cfg r = top_of (runnable_conf_in cfg.runnables r)

-- r is there, and no server ("The files", below the table)
abbrev pub Plain : Config → ℕ → Type 0
Plain cfg r = (r < cfg.runnables.n) × (is_server cfg r ≡ false)

-- the end of the instance i hands on something that feeds a data event of r (W-211)
abbrev pub hands_on_to : Config → State → ℕ → ℕ → Bool
hands_on_to cfg st i r = both (hands_on cfg st i) (is_given_to cfg st.elements (runnable_of st i) (copies_in st.outgoing i) r)

-- the step s in the state st triggers r: some data event whose element stores what it hands over, by a write, a send or an end, some return event of the call that it ends, or its tick ("The eighteen steps", events; W-212; W-211)
unfoldable pub triggers : Config → State → Step → ℕ → Bool
triggers cfg st s r =
    pick (eqb s.code write_code) (is_fed cfg st.elements s.what r)
    (pick (eqb s.code send_code) (is_fed cfg st.elements s.what r)
    (pick (eqb s.code hand_back_code) (both (answers st.operations (client_of st s.who)) (is_returned cfg (client_of st s.who).operation r))
    (pick (eqb s.code timeout_code) (is_returned cfg s.what r)
    (pick (eqb s.code end_code) (hands_on_to cfg st s.who r)
    (both (eqb s.code tick_code) (eqb (timer_conf_in cfg.timers s.what).runnable r))))))

-- it does so while r is at its top (W-212)
unfoldable pub loses : Config → State → Step → ℕ → Bool
loses cfg st s r = both (triggers cfg st s r) (leb (top_at cfg r) (pending_of st r))

-- it spawns r ("The eighteen steps", Spawn)
unfoldable pub spawns : Step → ℕ → Bool
spawns s r = both (eqb s.code spawn_code) (eqb s.what r)

-- how many of the steps rs, in turn from st, trigger r (W-212)
unfoldable pub times_triggered : Config → State → List Step → ℕ → ℕ
times_triggered cfg st [] r = 0
times_triggered cfg st (s ∷ rs) r = bit (triggers cfg st s r) + times_triggered cfg (step_of cfg st s).state rs r

-- how many of them do so while r is at its top (W-212)
unfoldable pub times_lost : Config → State → List Step → ℕ → ℕ
times_lost cfg st [] r = 0
times_lost cfg st (s ∷ rs) r = bit (loses cfg st s r) + times_lost cfg (step_of cfg st s).state rs r

-- how many of them spawn r (W-212)
unfoldable pub times_spawned : List Step → ℕ → ℕ
times_spawned [] r = 0
times_spawned (s ∷ rs) r = bit (spawns s r) + times_spawned rs r

-- ---- one step

-- an accepted step that triggers r adds one, or is lost if r is at its top; one that spawns r takes one; any other leaves them: so no step adds more than one, by however many links (W-212)
abbrev pub StepCounts : Type 0
StepCounts =
    (cfg : Config) (st : State) (s : Step) (r : ℕ) → Plain cfg r → Answers (step_of cfg st s).answer s
    → pending_of (step_of cfg st s).state r + bit (spawns s r) + bit (loses cfg st s r) ≡ pending_of st r + bit (triggers cfg st s r)

-- a sound state has no more pending than the top, and an accepted step comes from a sound one (W-212)
abbrev pub TopHolds : Type 0
TopHolds = (cfg : Config) (st : State) (r : ℕ) → Plain cfg r → sound_of cfg st ≡ true → pending_of st r ≤ top_at cfg r

-- while one is pending r may be spawned: as soon as its interval has run out, it is concurrent or has no instance, and a slot is empty ("The eighteen steps", Spawn; W-212)
abbrev pub PendingSpawns : Type 0
PendingSpawns =
    (cfg : Config) (st : State) (r : ℕ) → Plain cfg r → 0 < pending_of st r → (runnable_in st.runnables r).interval ≡ 0
    → either (eqb (runnable_in st.runnables r).instances 0) (runnable_conf_in cfg.runnables r).concurrent ≡ true → lowest_empty st.slots < max_slots → Possible cfg st spawn_code 0 r

-- ---- accepted steps, in any order of triggers and spawns

-- what was triggered was spawned, is pending or was lost at the top, and nothing else (W-212)
abbrev pub RunCounts : Type 0
RunCounts =
    (cfg : Config) (st st' : State) (rs : List Step) (r : ℕ) → Plain cfg r → Accepted cfg st rs st'
    → pending_of st' r + times_spawned rs r + times_lost cfg st rs r ≡ pending_of st r + times_triggered cfg st rs r

-- nothing is lost of as many triggers as there is room for (W-212)
abbrev pub NoneLost : Type 0
NoneLost =
    (cfg : Config) (st st' : State) (rs : List Step) (r : ℕ) → Plain cfg r → Accepted cfg st rs st'
    → pending_of st r + times_triggered cfg st rs r ≤ top_at cfg r → times_lost cfg st rs r ≡ 0

-- ---- the flag

-- with the flag up to fifteen triggers are all spawned or pending, wherever the spawns stand between them (W-212)
abbrev pub CountedInAnyOrder : Type 0
CountedInAnyOrder =
    (cfg : Config) (st st' : State) (rs : List Step) (r : ℕ) → Plain cfg r → (runnable_conf_in cfg.runnables r).counting ≡ true → Accepted cfg st rs st'
    → pending_of st r + times_triggered cfg st rs r ≤ max_pending → pending_of st' r + times_spawned rs r ≡ pending_of st r + times_triggered cfg st rs r

-- without it r is pending or not, as before: a trigger makes it so, a spawn makes it idle, and nothing else changes it (W-212)
abbrev pub AsBefore : Type 0
AsBefore =
    (cfg : Config) (st : State) (s : Step) (r : ℕ) → Plain cfg r → (runnable_conf_in cfg.runnables r).counting ≡ false → Answers (step_of cfg st s).answer s
    → (pending_of st r ≤ 1) × (pending_of (step_of cfg st s).state r ≡ pick (triggers cfg st s r) 1 (pick (spawns s r) 0 (pending_of st r)))
