-- What `accepted N` means for who trusts it: the two files are the texts of a configuration and of N steps, and these keep demand 3, clause by clause in the demand's order.
-- Every clause speaks of the configuration, the recorded steps and their answers; no state of the machine stands here, and nothing of what a step does to one. Proved in proofs/.
-- Assumes nothing.
use Rattle.std.specs.Prelude.{ℕ, ◌≤◌, ◌<◌, ◌^◌, true, List, [], ◌∷◌, ◌++◌, ◌≡◌, length, get_or}
use Rattle.faces.specs.Types.{Step, Config}
use Rattle.config.specs.Tables.{max_runnable_confs, runnable_conf_in}
use Rattle.entries.specs.Entries.{no_entry, count_of, entry_of}
use Rattle.rules.specs.Rows.{row_of}
use Rattle.rules.specs.Refusals.{part_there}
use Rattle.recording.specs.Whole.{text_of as steps_text, EachRecorded}
use Rattle.writing.specs.Writing.{text_of as config_text}
use Rattle.lines.specs.Lines.{line_bytes}
use Rattle.judging.specs.Line.{line_of}
use Rattle.printing.specs.Printed.{accepted_word, printed_of}
use Rattle.history.specs.History.{history_of, queued_at}
use Rattle.history.specs.Promises.{EntersFree, ExitsHeld, EndsEmpty, SpawnsEmpty, ActsAlive, HolderStays, FailedStops, BackIsLast, EndsPaid, CallsOneByOne, WaiterWaits, BackIsAnswered, EndsOnce, EndsProperly, TimeoutEndsOpen, TimeoutInTime, BackInTime, OpenInTime, TicksInTime, TimersInTime, ResultIsDelivered, ResultIsOwn, NumberIsFinal, FailureIsFinal, UnendedIsLatest, LatestStarted, FirstInFirstOut, SpawnTakesNext, GivesUpHeld, ReadsAlike, HeldInTime}
use Rattle.crew.specs.Values.{ValuesWaitingFit, OkHadRoom, FullNamesSpent, ReceivesOldest, HeldWaits}

-- ---- demand 3 of steps

-- at every moment of the recording rs: of the steps up to there ("How tight the contracts are", demand 3)
abbrev pub EveryMoment : List Step → (List Step → Type 0) → Type 0
EveryMoment rs P = (before after : List Step) → rs ≡ before ++ after → P before

-- at every step of the recording rs, with the steps before and after it ("How tight the contracts are", demand 3)
abbrev pub EveryStep : List Step → (List Step → Step → List Step → Type 0) → Type 0
EveryStep rs P = (before after : List Step) (s : Step) → rs ≡ before ++ (s ∷ after) → P before s after

-- a step names a part that is there, if its code names one ("Numbers of refusal", 3)
abbrev pub NamesParts : Config → List Step → Step → List Step → Type 0
NamesParts cfg before s after = part_there cfg (row_of s.code).part s.what ≡ true

-- no queue of requests passes its capacity, as calls fill it and spawns empty it ("How tight the contracts are", demand 3)
abbrev pub RequestsWaitingFit : Config → List Step → Type 0
RequestsWaitingFit cfg rs = (r : ℕ) → r < max_runnable_confs → length (queued_at (history_of cfg rs) r) ≤ (runnable_conf_in cfg.runnables r).capacity

-- the clauses of demand 3, in its order ("How tight the contracts are", demand 3)
pub record Demanded (cfg : Config) (rs : List Step) : Type 0 where
  -- the areas, queues and operations are those of the configuration
  pub part : EveryStep rs (NamesParts cfg)
  -- a taken area has exactly one holder, and a free one none: who entered, and lives until it has exited
  pub enter : EveryStep rs (EntersFree cfg)
  pub exit : EveryStep rs (ExitsHeld cfg)
  pub end : EveryStep rs (EndsEmpty cfg)
  pub holder : EveryStep rs (HolderStays cfg)
  pub fresh : EveryStep rs (SpawnsEmpty cfg)
  pub alive : EveryStep rs (ActsAlive cfg)
  pub failed : EveryStep rs (FailedStops cfg)
  -- no queue passes its capacity, and what waits there is taken in its order
  pub requests : EveryMoment rs (RequestsWaitingFit cfg)
  pub fifo : EveryMoment rs (FirstInFirstOut cfg)
  pub spawn : EveryStep rs (SpawnTakesNext cfg)
  pub values : EveryMoment rs (ValuesWaitingFit cfg)
  pub send : EveryStep rs (OkHadRoom cfg)
  pub full : EveryStep rs (FullNamesSpent cfg)
  pub receive : EveryStep rs (ReceivesOldest cfg)
  -- and who is held on one goes on by a value that waits there, or when exactly its time has passed
  pub held : EveryStep rs (HeldWaits cfg)
  pub spent : EveryStep rs (GivesUpHeld cfg)
  pub hold : EveryMoment rs (HeldInTime cfg)
  -- who reads a copy is answered the same each time, from its spawn to its end
  pub copies : EveryStep rs (ReadsAlike cfg)
  -- each started call ends at most once
  pub once : EveryMoment rs (EndsOnce cfg)
  pub call : EveryStep rs (CallsOneByOne cfg)
  pub latest : EveryMoment rs (LatestStarted cfg)
  pub newest : EveryMoment rs (UnendedIsLatest cfg)
  -- by its timeout, or by an instance that was spawned for that very call
  pub properly : EveryMoment rs (EndsProperly cfg)
  pub ends : EveryStep rs (TimeoutEndsOpen cfg)
  pub answer : EveryStep rs (BackIsAnswered cfg)
  pub last : EveryStep rs (BackIsLast cfg)
  pub paid : EveryStep rs (EndsPaid cfg)
  -- at count zero: when exactly the configured time has passed
  pub timeout : EveryStep rs (TimeoutInTime cfg)
  pub back : EveryStep rs (BackInTime cfg)
  pub time : EveryMoment rs (OpenInTime cfg)
  pub tick : EveryStep rs (TicksInTime cfg)
  pub timers : EveryMoment rs (TimersInTime cfg)
  -- who asks for a result gets a number only if the latest call ended there was ended so, and handed back that number
  pub number : EveryStep rs (NumberIsFinal cfg)
  pub failure : EveryStep rs (FailureIsFinal cfg)
  pub result : EveryStep rs (ResultIsDelivered cfg)
  pub own : EveryStep rs (ResultIsOwn cfg)
  pub waiter : EveryStep rs (WaiterWaits cfg)

-- ---- from the printed line

-- nothing in cfg is left open by its text: numbers have the 32 bits that are written, and unused places are blank ("The files", the table)
pub record Fixed (cfg : Config) : Type 0 where
  pub numbers : (tag i : ℕ) → (entry_of cfg tag i).number < 2 ^ 32
  pub blank : (tag i : ℕ) → count_of cfg tag ≤ i → entry_of cfg tag i ≡ no_entry

-- the bytes c and t are the texts of a configuration and of n steps, which keep demand 3 ("How tight the contracts are", demand 3)
pub record Relied (c t : List ℕ) (n : ℕ) : Type 0 where
  pub config : Config
  pub steps : List Step
  pub written : c ≡ config_text config
  pub fixed : Fixed config
  pub recorded : t ≡ steps_text steps
  pub each : EachRecorded steps
  pub count : n ≡ length steps
  pub demand : Demanded config steps

-- two files of bytes, for which the line printed is `accepted` with the number n ("Judging", the program)
abbrev pub Printed : List ℕ → List ℕ → ℕ → Type 0
Printed c t n = ((i : ℕ) → get_or c i 0 < 256) × ((i : ℕ) → get_or t i 0 < 256) × (printed_of (line_of c t) ≡ line_bytes accepted_word (n ∷ []))

-- `accepted N`, as it is printed: all of this may be relied on ("How tight the contracts are", demand 3)
abbrev pub PrintedIsRelied : Type 0
PrintedIsRelied = (c t : List ℕ) (n : ℕ) → Printed c t n → Relied c t n
