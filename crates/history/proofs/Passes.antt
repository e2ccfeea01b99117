-- The steps that start, take and end no call leave a state alike in all that the tie reads.
-- Most write other tables; a slot that enters, exits or collects owes what it owed; a runnable that wakes or waits keeps its requests. A wait
-- takes its time from the count of every open call (`wait-alike`), which had as much left (`lets`) and is of an operation that is there (`open-there`).
-- But for enter, exit, tick and wait they leave areas, stacks and timers as they were too (`Calm`).
-- Assumes nothing.
use Prim.Native.Nat.{ℕ, ◌-◌, ◌≤◌, ◌<◌}
use mathlib.Core.Bool.{true, false}
use mathlib.Core.Path.{◌≡◌, refl, sym, ◌∙◌}
use native.Mathlib.Nat.{add-zero}
use native.Mathlib.Omega.{arith}
use borrow.Author.Tests.{leb-true}
use Rattle.laws.proofs.Looping.{all-at}
use Rattle.laws.proofs.Places.{each_at}
use Rattle.faces.specs.Types.{Value, Config, Elements, Operation, Operations, Slot, Copied, State, Awaited}
use Rattle.config.specs.Tables.{runnable_conf_in, timer_conf_in}
use Rattle.state.specs.Parts.{no_operation, no_awaited}
use Rattle.laws.proofs.Choosing.{clash}
use Rattle.state.specs.Tables.{runnable_in, area_in, operation_in, slot_in, with_slot, with_areas, with_elements, with_slots, with_outgoing}
use Rattle.rules.specs.Rows.{no_part}
use Rattle.rules.specs.Sound.{times_in, operation_sound, operations_sound}
use Rattle.effects.specs.Steps.{stored, entered, exited, fed, is_open, gone_on, woken, ticked, operation_lets, operations_let, operation_after, operations_after, waited, awaiting, awaited, running_on, dequeued, received, has_failed, on_element, held, leaving, emptied, runnable_of, handed_runnables, ended, spawned, begun_in}
use Rattle.stays_sound.specs.Facts.{Sound, CanWait}
use Rattle.stays_sound.proofs.Told.{operations-length}
use Rattle.stays_sound.proofs.Kept.{runnable-kept, slot_kept, slot_has, fed-kept, handed-kept, after_kept, waited-kept, slots-after-kept}
use Rattle.stays_sound.proofs.Operations.{calls-told}
use Rattle.stays_sound.proofs.Clients.{calling-inside}
use Rattle.state.specs.Places.{place_in}
use Rattle.history.proofs.Tied.{As, SameCalls, Alike}

pub same-calls : (os : Operations) → SameCalls 0 os os
same-calls os = record { number = λ o. refl; calling = λ o. refl; done = λ o. refl; count = λ o e. add-zero _ }

pub alike_same : (st : State) → Alike 0 st st
alike_same st = record { operations = same-calls st.operations; requests = λ r. refl; owed = λ k. refl; failed = λ k. refl; finished = λ k. refl; running = λ k f r. r; used = λ k. refl }

-- areas and stacks are as they were
pub record Unmoved (st st' : State) : Type 0 where
  pub areas : (a : ℕ) → (area_in st'.areas a).taken ≡ (area_in st.areas a).taken
  pub stacks : (a k : ℕ) → times_in a (slot_in st'.slots k).stack ≡ times_in a (slot_in st.slots k).stack

-- alike, unmoved, and with the same timers
pub record Calm (t : ℕ) (st st' : State) : Type 0 where
  pub alike : Alike t st st'
  pub unmoved : Unmoved st st'
  pub timers : st'.timers ≡ st.timers

pub calm-same : (st : State) → Calm 0 st st
calm-same st = record { alike = alike_same st; unmoved = record { areas = λ a. refl; stacks = λ a k. refl }; timers = refl }

-- a step that writes neither areas nor slots
unmoved-by : (st st' : State) → st'.areas ≡ st.areas → st'.slots ≡ st.slots → Unmoved st st'
unmoved-by st st' e f = record { areas = λ k. rw e; stacks = λ b k. rw f }

-- nor timers
still : {t : ℕ} (st st' : State) → st'.areas ≡ st.areas → st'.slots ≡ st.slots → st'.timers ≡ st.timers → Alike t st st' → Calm t st st'
still st st' e f g a = record { alike = a; unmoved = unmoved-by st st' e f; timers = g }

-- ---- variables and elements

pub write-variable-calm : (st : State) (v : ℕ) (x : Value) → Calm 0 st (stored st v x)
write-variable-calm st v x = still st _ refl refl refl (record { operations = same-calls st.operations; requests = λ r. refl; owed = λ k. refl; failed = λ k. refl; finished = λ k. refl; running = λ k f r. r; used = λ k. refl })

-- other elements, as after a read, an invalidate and a receive
pub elements-calm : (st : State) (t : Elements) → Calm 0 st (with_elements st t)
elements-calm st t = still st _ refl refl refl (record { operations = same-calls st.operations; requests = λ r. refl; owed = λ k. refl; failed = λ k. refl; finished = λ k. refl; running = λ k f r. r; used = λ k. refl })

-- and other copies to be written, as after one is set
pub outgoing-calm : (st : State) (t : Copied) → Calm 0 st (with_outgoing st t)
outgoing-calm st t = still st _ refl refl refl (record { operations = same-calls st.operations; requests = λ r. refl; owed = λ k. refl; failed = λ k. refl; finished = λ k. refl; running = λ k f r. r; used = λ k. refl })

-- what an instance has set and copied is nothing that histories are told by: it ends as it did without, and begins so
pub ended-as : (cfg : Config) (st : State) (i : ℕ) → As (emptied st i) (ended cfg st i)
ended-as cfg st i =
    let r = runnable_of st i in
    record {
      operations = refl;
      areas = refl;
      timers = refl;
      slots = refl;
      requests = λ j.
          runnable-kept (λ x. x.requests) (handed_runnables cfg st i) r (leaving (runnable_in (handed_runnables cfg st i) r)) refl j
          ∙ handed-kept (λ x. x.requests) (λ c x. refl) cfg st i j
          ∙ sym (runnable-kept (λ x. x.requests) st.runnables r (leaving (runnable_in st.runnables r)) refl j);
    }

pub begun-as : (cfg : Config) (st : State) (r k : ℕ) → As (spawned cfg st r k) (begun_in cfg st r k)
unfolding spawned
begun-as cfg st r k = record { operations = refl; areas = refl; timers = refl; slots = refl; requests = λ j. refl }

pub fed-calm : (cfg : Config) (st : State) (p : ℕ) (v : Value) → Calm 0 st (fed cfg st p v)
unfolding fed
fed-calm cfg st p v = still st _ refl refl refl (record { operations = same-calls st.operations; requests = fed-kept (λ x. x.requests) (λ c x. refl) cfg st.elements p st.runnables; owed = λ k. refl; failed = λ k. refl; finished = λ k. refl; running = λ k f r. r; used = λ k. refl })

-- ---- a slot that owes what it owed, has failed and is finished as before, and does not begin to wait

slot-alike : (st m : State) (i : ℕ) (x : Slot) → m.operations ≡ st.operations → m.runnables ≡ st.runnables → x.owed ≡ (slot_in st.slots i).owed → x.life.failed ≡ (slot_in st.slots i).life.failed → x.life.finished ≡ (slot_in st.slots i).life.finished
    → ((slot_in st.slots i).life.failed ≡ true → (slot_in st.slots i).life.awaited.part ≡ no_part → x.life.awaited.part ≡ no_part) → x.used ≡ (slot_in st.slots i).used → Alike 0 st (with_slots m (with_slot st.slots i x))
slot-alike st m i x e f o l n w u = record {
  operations = rw e (same-calls st.operations);
  requests = λ r. rw f;
  owed = slot_kept (λ y. y.owed) st.slots i x o;
  failed = slot_kept (λ y. y.life.failed) st.slots i x l;
  finished = slot_kept (λ y. y.life.finished) st.slots i x n;
  running = slot_has (λ k y. (slot_in st.slots k).life.failed ≡ true → (slot_in st.slots k).life.awaited.part ≡ no_part → y.life.awaited.part ≡ no_part) st.slots i x w (λ k f r. r);
  used = slot_kept (λ y. y.used) st.slots i x u;
}

pub enter-alike : (st : State) (i a : ℕ) → Alike 0 st (entered st i a)
enter-alike st i a = slot-alike st (with_areas st _) i _ refl refl refl refl refl (λ f r. r) refl

pub exit-alike : (st : State) (i a : ℕ) → Alike 0 st (exited st i a)
exit-alike st i a = slot-alike st (with_areas st _) i _ refl refl refl refl refl (λ f r. r) refl

-- what an instance waits for, where one that has failed begins nothing
await-calm : (st : State) (i : ℕ) (a : Awaited) → (has_failed st i ≡ true → a.part ≡ no_part) → Calm 0 st (awaited st i a)
await-calm st i a h = record {
  alike = slot-alike st st i _ refl refl refl refl refl (λ f r. h f) refl;
  unmoved = record { areas = λ b. refl; stacks = λ b. slot_kept (λ x. times_in b x.stack) st.slots i (awaiting (slot_in st.slots i) a) refl };
  timers = refl;
}

pub go-on-calm : (st : State) (i : ℕ) → Calm 0 st (gone_on st i)
go-on-calm st i = await-calm st i no_awaited (λ f. refl)

pub hold-calm : (st : State) (i q t : ℕ) → has_failed st i ≡ false → Calm 0 st (held st i q t)
hold-calm st i q t e = await-calm st i (on_element q t) (λ f. absurd (clash (has_failed st i) f e))

-- the oldest value is gone from a queue, and who received goes on
pub receive-calm : (st : State) (i q : ℕ) → Calm 0 st (received st i q)
receive-calm st i q = record {
  alike = slot-alike st (dequeued st q) i _ refl refl refl refl refl (λ f r. refl) refl;
  unmoved = record { areas = λ b. refl; stacks = λ b. slot_kept (λ x. times_in b x.stack) st.slots i (running_on (slot_in st.slots i)) refl };
  timers = refl;
}

-- ---- time

pub tick-alike : (cfg : Config) (st : State) (t : ℕ) → Alike 0 st (ticked cfg st t)
tick-alike cfg st t = record {
  operations = same-calls st.operations;
  requests = runnable-kept (λ x. x.requests) st.runnables (timer_conf_in cfg.timers t).runnable (woken (runnable_conf_in cfg.runnables (timer_conf_in cfg.timers t).runnable) (runnable_in st.runnables (timer_conf_in cfg.timers t).runnable)) refl;
  owed = λ k. refl;
  failed = λ k. refl;
  finished = λ k. refl;
  running = λ k f r. r;
  used = λ k. refl;
}

pub tick-unmoved : (cfg : Config) (st : State) (t : ℕ) → Unmoved st (ticked cfg st t)
tick-unmoved cfg st t = unmoved-by st _ refl refl

-- an open call has as much time left as it lets pass
lets_open : (t : ℕ) (x : Operation) → x.calling ≡ true → operation_lets t x ≡ true → t ≤ x.count
unfolding operation_lets
lets_open t x e h = leb-true _ _ (rw e at h)

module _ (cfg : Config) (st : State) (t : ℕ) (g : Sound cfg st) (z : CanWait cfg st t) where
  open-there : (o : ℕ) → is_open st o ≡ true → o < cfg.operations.n
  unfolding operations_sound
  open-there o e =
      (calls-told cfg o (operation_in st.operations o) e
      (all-at (λ (o : ℕ). operation_sound cfg o (operation_in st.operations o)) 8 g.operations o (omega (arith, calling-inside st.operations o e, operations-length cfg st g)))).there

  lets : (o : ℕ) → is_open st o ≡ true → t ≤ (operation_in st.operations o).count
  unfolding operations_let
  lets o e = lets_open t (operation_in st.operations o) e (all-at (λ (o : ℕ). operation_lets t (operation_in st.operations o)) cfg.operations.n z.operations o (open-there o e))

  taken : (o : ℕ) → is_open st o ≡ true → (operation_in (operations_after cfg st.operations t) o).count ≡ (operation_in st.operations o).count - t
  unfolding operations_after place_in operation_after
  taken o e = rw (each_at (λ (o : ℕ) (x : Operation). operation_after t x) no_operation cfg.operations.n st.operations.at o (open-there o e) (calling-inside st.operations o e), e)

  wait-calls : SameCalls t st.operations (operations_after cfg st.operations t)
  wait-calls = record {
    number = waited-kept (λ x. x.number) t (λ x n. refl) cfg st.operations;
    calling = waited-kept (λ x. x.calling) t (λ x n. refl) cfg st.operations;
    done = waited-kept (λ x. x.done) t (λ x n. refl) cfg st.operations;
    count = λ o e. omega (arith, lets o e, taken o e);
  }

  pub wait-alike : Alike t st (waited cfg st t)
  unfolding waited
  wait-alike = record { operations = wait-calls; requests = after_kept (λ x. x.requests) t (λ x. refl) cfg st.runnables; owed = slots-after-kept (λ x. x.owed) t (λ x. refl) st.slots; failed = slots-after-kept (λ x. x.life.failed) t (λ x. refl) st.slots; finished = slots-after-kept (λ x. x.life.finished) t (λ x. refl) st.slots; running = λ k f r. slots-after-kept (λ x. x.life.awaited.part) t (λ x. refl) st.slots k ∙ r; used = slots-after-kept (λ x. x.used) t (λ x. refl) st.slots }

  pub wait-unmoved : Unmoved st (waited cfg st t)
  unfolding waited
  wait-unmoved = record { areas = λ a. refl; stacks = λ a. slots-after-kept (λ x. times_in a x.stack) t (λ x. refl) st.slots }
