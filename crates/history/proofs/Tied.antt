-- The tie between a state and the history of the recording that led to it (`Tied`), and what leaves it alone.
-- Four parts, each over only the tables that it reads. `Queues`: beside each client in a server's queue stands the request followed. `Served`: beside each
-- client on an instance stands the request that its spawn took. `Tag` says what a client and a request beside it share: one operation and, while that is
-- Calling under the client's number, its latest call; and it is so as long as that call has no ending. Here alone numbers meet places, and by equality only. `Calls`: how operations and the endings stand. `Failed`: an instance has failed exactly if the history says so.
-- The tie reads of an operation its number, whether it is Calling and what it holds, of a runnable its requests, of a slot what it owes and whether it has failed. States that agree
-- in those (`Alike`) are tied to the same history, one step later (`tied-alike`). `Alike` also says how much time lies between the two, and that the same slots are in use.
-- Assumes nothing.
use Prim.Native.Nat.{ℕ, ◌+◌, ◌%◌, ◌≤◌, ◌<◌}
use mathlib.Core.Bool.{Bool, true, false}
use mathlib.Core.List.{List, [], ◌∷◌}
use mathlib.Core.Path.{◌≡◌, ◌∙◌}
use native.Mathlib.Omega.{arith}
use lib.ListN.{length, get_or}
use Rattle.laws.specs.Choice.{bit}
use Rattle.values.specs.Values.{is_payload}
use Rattle.faces.specs.Types.{Client, Operations, Runnables, Slots, State}
use Rattle.state.specs.Parts.{last_number, no_client}
use Rattle.state.specs.Tables.{runnable_in, operation_in, slot_in}
use Rattle.rules.specs.Rows.{no_part}
use Rattle.history.specs.History.{Request, no_request, How, by_timeout, by_instance, by_failure, Ending, History, passed, ends_of, ended_on, last_on, delivered, ended_call}
use Rattle.history.proofs.Beside.{Beside, beside-map}

-- ---- what ended a call

-- time may end any call, an instance only the one that it was spawned for, with a payload or by its failure
abbrev pub Proper : ℕ → How → Type 0
Proper k by_timeout = Unit {0}
Proper k (by_instance j v) = (j ≡ k) × (is_payload v ≡ true)
Proper k (by_failure j) = j ≡ k

-- every ending is of a call, and proper
unfoldable pub AllProper : List Ending → Type 0
AllProper [] = Unit {0}
AllProper (e ∷ es) = ((0 < e.call) × Proper e.call e.how) × AllProper es

-- ---- the parts

-- a client, and the request beside it
pub record Tag (os : Operations) (latest : List ℕ) (es : List Ending) (c : Client) (q : Request) : Type 0 where
  pub same : q.on ≡ c.operation
  pub argument : q.argument ≡ c.argument
  pub newest : (operation_in os c.operation).calling ≡ true → c.number ≡ (operation_in os c.operation).number → q.at ≡ get_or latest c.operation 0
  pub unended : ends_of q.at es ≡ 0 → ((operation_in os c.operation).calling ≡ true) × (c.number ≡ (operation_in os c.operation).number)

pub record Queues (os : Operations) (latest : List ℕ) (es : List Ending) (rs : Runnables) (queued : List (List Request)) : Type 0 where
  pub size : length queued ≡ 16
  pub each : (r : ℕ) → Beside (Tag os latest es) no_client no_request (runnable_in rs r).requests.queued (runnable_in rs r).requests.at (get_or queued r [])

pub record Served (os : Operations) (latest : List ℕ) (es : List Ending) (ss : Slots) (taken : List Request) : Type 0 where
  pub size : length taken ≡ 32
  pub each : (k : ℕ) → (slot_in ss k).owed.serving ≡ true → Tag os latest es (slot_in ss k).owed.client (get_or taken k no_request)

pub record Calls (os : Operations) (latest : List ℕ) (endings : List Ending) (place : ℕ) : Type 0 where
  pub size : length latest ≡ 8
  -- an operation is Calling exactly while its latest call has not ended
  pub state : (o : ℕ) → 0 < get_or latest o 0 → ends_of (get_or latest o 0) endings + bit (operation_in os o).calling ≡ 1
  pub begun : (o : ℕ) → (operation_in os o).calling ≡ true → 0 < get_or latest o 0
  -- its number says how many of its calls ended, and goes round
  pub number : (o : ℕ) → (operation_in os o).number ≡ ended_on o endings % (last_number + 1)
  -- calls are of the past, each of one operation
  pub past : (o : ℕ) → get_or latest o 0 ≤ place
  pub future : (k : ℕ) → place < k → ends_of k endings ≡ 0
  pub apart : (o p : ℕ) → 0 < get_or latest o 0 → get_or latest o 0 ≡ get_or latest p 0 → o ≡ p
  -- each ended at most once, and properly
  pub once : (k : ℕ) → ends_of k endings ≤ 1
  pub proper : AllProper endings
  -- a Done operation holds what the last ending on it gave, and that was the ending of its latest call
  pub last : (o : ℕ) → (operation_in os o).calling ≡ false → (operation_in os o).done ≡ delivered (last_on o endings)
  pub ended : (o : ℕ) → (operation_in os o).calling ≡ false → ended_call (last_on o endings) ≡ get_or latest o 0

pub record Failed (ss : Slots) (failed : List Bool) : Type 0 where
  pub size : length failed ≡ 32
  pub each : (k : ℕ) → (slot_in ss k).life.failed ≡ get_or failed k false

pub record Tied (st : State) (h : History) : Type 0 where
  pub queues : Queues st.operations h.latest h.endings st.runnables h.queued
  pub served : Served st.operations h.latest h.endings st.slots h.taken
  pub calls : Calls st.operations h.latest h.endings h.place
  pub failed : Failed st.slots h.failed

-- ---- states that differ in nothing that histories are told by

-- st' has the operations, areas, timers and slots of m, and its requests: elements, copies and pending activations may differ
pub record As (m st' : State) : Type 0 where
  pub operations : st'.operations ≡ m.operations
  pub areas : st'.areas ≡ m.areas
  pub timers : st'.timers ≡ m.timers
  pub slots : st'.slots ≡ m.slots
  pub requests : (r : ℕ) → (runnable_in st'.runnables r).requests ≡ (runnable_in m.runnables r).requests

pub tied-as : {m st' : State} {h : History} → As m st' → Tied m h → Tied st' h
tied-as e t = record {
  queues = record { size = t.queues.size; each = λ r. rw (e.operations, e.requests r) (t.queues.each r) };
  served = rw (e.operations, e.slots) t.served;
  calls = rw e.operations t.calls;
  failed = rw e.slots t.failed;
}

-- ---- tables that agree in what is read of them

pub record SameCalls (t : ℕ) (os os' : Operations) : Type 0 where
  pub number : (o : ℕ) → (operation_in os' o).number ≡ (operation_in os o).number
  pub calling : (o : ℕ) → (operation_in os' o).calling ≡ (operation_in os o).calling
  pub done : (o : ℕ) → (operation_in os' o).done ≡ (operation_in os o).done
  -- every open call has t less on its count
  pub count : (o : ℕ) → (operation_in os o).calling ≡ true → (operation_in os' o).count + t ≡ (operation_in os o).count

pub record Alike (t : ℕ) (st st' : State) : Type 0 where
  pub operations : SameCalls t st.operations st'.operations
  pub requests : (r : ℕ) → (runnable_in st'.runnables r).requests ≡ (runnable_in st.runnables r).requests
  pub owed : (k : ℕ) → (slot_in st'.slots k).owed ≡ (slot_in st.slots k).owed
  pub failed : (k : ℕ) → (slot_in st'.slots k).life.failed ≡ (slot_in st.slots k).life.failed
  pub finished : (k : ℕ) → (slot_in st'.slots k).life.finished ≡ (slot_in st.slots k).life.finished
  pub running : (k : ℕ) → (slot_in st.slots k).life.failed ≡ true → (slot_in st.slots k).life.awaited.part ≡ no_part → (slot_in st'.slots k).life.awaited.part ≡ no_part
  pub used : (k : ℕ) → (slot_in st'.slots k).used ≡ (slot_in st.slots k).used

pub calls-alike : {t : ℕ} (os os' : Operations) (latest : List ℕ) (es : List Ending) (p : ℕ) → SameCalls t os os' → Calls os latest es p → Calls os' latest es (p + 1)
calls-alike os os' latest es p a h = record {
  size = h.size;
  state = λ o. rw (a.calling o) (h.state o);
  begun = λ o. rw (a.calling o) (h.begun o);
  number = λ o. a.number o ∙ h.number o;
  past = λ o. omega (arith, h.past o);
  future = λ k q. h.future k (omega arith);
  apart = h.apart;
  once = h.once;
  proper = h.proper;
  last = λ o. rw (a.calling o, a.done o) (h.last o);
  ended = λ o. rw (a.calling o) (h.ended o);
}

tag-alike : {t : ℕ} (os os' : Operations) (latest : List ℕ) (es : List Ending) (c : Client) (q : Request) → SameCalls t os os' → Tag os latest es c q → Tag os' latest es c q
tag-alike os os' latest es c q a g = record {
  same = g.same;
  argument = g.argument;
  newest = rw (a.calling c.operation, a.number c.operation) g.newest;
  unended = rw (a.calling c.operation, a.number c.operation) g.unended;
}

-- each request carried over to other operations and calls
pub queues-map : (os os' : Operations) (latest latest' : List ℕ) (es es' : List Ending) (rs : Runnables) (ws : List (List Request))
    → ((r j : ℕ) (q : Request) → j < (runnable_in rs r).requests.queued
    → Tag os latest es (get_or (runnable_in rs r).requests.at j no_client) q → Tag os' latest' es' (get_or (runnable_in rs r).requests.at j no_client) q)
    → Queues os latest es rs ws → Queues os' latest' es' rs ws
queues-map os os' latest latest' es es' rs ws f h = record {
  size = h.size;
  each = λ r.
      beside-map (Tag os latest es) no_client no_request (Tag os' latest' es') (runnable_in rs r).requests.queued (runnable_in rs r).requests.at (get_or ws r [])
      (λ j b t. f r j (get_or (get_or ws r []) j no_request) b t) (h.each r);
}

pub served-map : (os os' : Operations) (latest latest' : List ℕ) (es es' : List Ending) (ss : Slots) (ts : List Request)
    → ((k : ℕ) (q : Request) → (slot_in ss k).owed.serving ≡ true → Tag os latest es (slot_in ss k).owed.client q → Tag os' latest' es' (slot_in ss k).owed.client q)
    → Served os latest es ss ts → Served os' latest' es' ss ts
served-map os os' latest latest' es es' ss ts f h = record { size = h.size; each = λ k e. f k (get_or ts k no_request) e (h.each k e) }

-- runnables with the same requests, slots that owe the same
pub queues-alike : (os : Operations) (latest : List ℕ) (es : List Ending) (rs rs' : Runnables) (ws : List (List Request)) → ((r : ℕ) → (runnable_in rs' r).requests ≡ (runnable_in rs r).requests)
    → Queues os latest es rs ws → Queues os latest es rs' ws
queues-alike os latest es rs rs' ws a h = record { size = h.size; each = λ r. rw (a r) (h.each r) }

pub served-alike : (os : Operations) (latest : List ℕ) (es : List Ending) (ss ss' : Slots) (ts : List Request) → ((k : ℕ) → (slot_in ss' k).owed ≡ (slot_in ss k).owed) → Served os latest es ss ts
    → Served os latest es ss' ts
served-alike os latest es ss ss' ts a h = record { size = h.size; each = λ k. rw (a k) (h.each k) }

-- slots whose instances have failed as before
pub failed-alike : (ss ss' : Slots) (fs : List Bool) → ((k : ℕ) → (slot_in ss' k).life.failed ≡ (slot_in ss k).life.failed) → Failed ss fs → Failed ss' fs
failed-alike ss ss' fs a h = record { size = h.size; each = λ k. a k ∙ h.each k }

-- a step that starts, takes and ends no call
pub tied-alike : {n : ℕ} (st st' : State) (h : History) → Alike n st st' → Tied st h → Tied st' (passed h)
tied-alike st st' h a t = record {
  queues =
      queues-map st.operations st'.operations h.latest h.latest h.endings h.endings st'.runnables h.queued (λ r j q b. tag-alike st.operations st'.operations h.latest h.endings _ q a.operations)
      (queues-alike st.operations h.latest h.endings st.runnables st'.runnables h.queued a.requests t.queues);
  served =
      served-map st.operations st'.operations h.latest h.latest h.endings h.endings st'.slots h.taken (λ k q e. tag-alike st.operations st'.operations h.latest h.endings _ q a.operations)
      (served-alike st.operations h.latest h.endings st.slots st'.slots h.taken a.owed t.served);
  calls = calls-alike st.operations st'.operations h.latest h.endings h.place a.operations t.calls;
  failed = failed-alike st.slots st'.slots h.failed a.failed t.failed;
}
