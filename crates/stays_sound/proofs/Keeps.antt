-- Every step keeps a sound state sound: clause by clause put together, then way by way, with the claim and with the test.
-- Assumes nothing.
use Prim.Native.Nat.{ℕ}
use mathlib.Core.Bool.{true, false}
use mathlib.Core.Path.{◌≡◌, refl}
use Rattle.numbers.specs.Refusals.{other_answer}
use Rattle.laws.specs.Choice.{pick}
use Rattle.laws.proofs.Choosing.{pick-has}
use Rattle.values.specs.Values.{timeout_v}
use Rattle.faces.specs.Types.{Value, Step, Answer, Taken, Refused, Config, State, Stepped}
use Rattle.state.specs.Parts.{no_awaited}
use Rattle.state.specs.Tables.{slot_in, copies_in, with_copies, with_outgoing}
use Rattle.rules.specs.Sound.{is_caller, sound_of}
use Rattle.effects.specs.Steps.{refused, stored, entered, exited, looked, fed, invalidated, received, called, gone_on, closed, answers, client_of, finished, handed_back, answered, failed, emptied, runnable_of, handed_on, uncopied, ended, lowest_empty, spawned, copied_to, begun_in, setting, ticked, waited, dequeued, on_element, held}
use Rattle.effects.specs.Step.{possible_of, on_answer, agrees, claimed_of, inner_of, step_of}
use Rattle.stays_sound.specs.Facts.{Sound, There, CanWriteVariable, CanEnter, CanExit, CanRead, CanFeed, CanInvalidate, CanReceive, CanCall, CanCollect, CanHandBack, CanEnd, CanSpawn, CanTimeout, CanTick, CanWait, CanFail, CanHold, CanGiveUp, CanWriteCopy}
use Rattle.stays_sound.proofs.Told.{told, made}
use Rattle.stays_sound.proofs.Kept.{here}
use Rattle.stays_sound.proofs.Shapes.{write-variable-keeps-shape, enter-keeps-shape, exit-keeps-shape, read-keeps-shape, feed-keeps-shape, invalidate-keeps-shape, receive-keeps-shape, call-keeps-shape, await-keeps-shape, fail-keeps-shape, answer-keeps-shape, late-keeps-shape, end-keeps-shape, spawn-keeps-shape, timeout-keeps-shape, tick-keeps-shape, wait-keeps-shape, hand-on-keeps-shape, uncopy-keeps-shape, copy-keeps-shape, write-copy-keeps-shape}
use Rattle.stays_sound.proofs.Runnables.{feed-keeps-runnables, hand-on-keeps-runnables, call-keeps-runnables, answer-keeps-runnables, timeout-keeps-runnables, end-keeps-runnables, spawn-keeps-runnables, tick-keeps-runnables, wait-keeps-runnables}
use Rattle.stays_sound.proofs.Tables.{write-variable-keeps-variables, tick-keeps-timers, wait-keeps-timers}
use Rattle.stays_sound.proofs.Elements.{read-keeps-elements, feed-keeps-elements, invalidate-keeps-elements, receive-keeps-elements, hand-on-keeps-elements, copy-keeps-elements}
use Rattle.stays_sound.proofs.Operations.{call-keeps-operations, answer-keeps-operations, timeout-keeps-operations, wait-keeps-operations}
use Rattle.stays_sound.proofs.Slots.{enter-keeps-slots, exit-keeps-slots, call-keeps-slots, go-on-keeps-slots, hand-back-keeps-slots, fail-keeps-slots, end-keeps-slots, spawn-keeps-slots, hold-keeps-slots, wait-keeps-slots}
use Rattle.stays_sound.proofs.Counts.{enter-keeps-counts, exit-keeps-counts, feed-keeps-counts, hand-on-keeps-counts, call-keeps-counts, await-keeps-counts, fail-keeps-counts, late-keeps-counts, answer-keeps-counts, end-keeps-counts, spawn-keeps-counts, timeout-keeps-counts, tick-keeps-counts, wait-keeps-counts}
use Rattle.stays_sound.proofs.Areas.{enter-keeps-areas, exit-keeps-areas, call-keeps-areas, await-keeps-areas, fail-keeps-areas, hand-back-keeps-areas, end-keeps-areas, spawn-keeps-areas, wait-keeps-areas}
use Rattle.stays_sound.proofs.Clients.{enter-keeps-clients, exit-keeps-clients, feed-keeps-clients, hand-on-keeps-clients, call-keeps-clients, await-keeps-clients, fail-keeps-clients, late-keeps-clients, answer-keeps-clients, timeout-keeps-clients, end-keeps-clients, spawn-keeps-clients, tick-keeps-clients, wait-keeps-clients}
use Rattle.stays_sound.proofs.Waiters.{no-caller, await-keeps-waiters, enter-keeps-waiters, exit-keeps-waiters, call-keeps-waiters, collect-keeps-waiters, fail-keeps-waiters, late-keeps-waiters, answer-keeps-waiters, timeout-keeps-waiters, end-keeps-waiters, spawn-keeps-waiters, wait-keeps-waiters}
use Rattle.stays_sound.proofs.Copies.{Blank, enter-keeps-copies, exit-keeps-copies, call-keeps-copies, await-keeps-copies, fail-keeps-copies, hand-back-keeps-copies, wait-keeps-copies, spawn-keeps-copies, end-keeps-copies, uncopy-keeps-copies, uncopied-incoming, uncopied-outgoing, new-used, new-runnable, copy-keeps-copies, write-copy-keeps-copies}
use Rattle.stays_sound.proofs.Ways.{Way, read_variable, write_variable, enter, exit, read, write, updated, invalidate, receive_none, receive, send, call_busy, call, poll_open, poll, collect, answer, late, end, spawn, timeout, tick, wait, fail, hold, give_up, read_copy, write_copy, Went, bars, goes, went}

-- ---- the state after each step that is taken

-- an instance goes on that waits on no operation
go-on-keeps : (cfg : Config) (st : State) → Sound cfg st → (i : ℕ) → There st i → is_caller (slot_in st.slots i).life ≡ false → Sound cfg (gone_on st i)
go-on-keeps cfg st s i z e = search (await-keeps-shape, go-on-keeps-slots, await-keeps-counts, await-keeps-areas, await-keeps-clients, await-keeps-waiters cfg st i no_awaited s e refl, await-keeps-copies cfg st s)

module _ (cfg : Config) (st : State) (s : Sound cfg st) where
  pub write-variable-keeps : (i v : ℕ) (x : Value) → CanWriteVariable cfg st i v x → Sound cfg (stored st v x)
  write-variable-keeps i v x z = search (write-variable-keeps-shape, write-variable-keeps-variables)

  pub enter-keeps : (i a : ℕ) → CanEnter cfg st i a → Sound cfg (entered st i a)
  enter-keeps i a z = search (enter-keeps-shape, enter-keeps-slots, enter-keeps-counts, enter-keeps-areas, enter-keeps-clients, enter-keeps-waiters, enter-keeps-copies cfg st s)

  pub exit-keeps : (i a : ℕ) → CanExit cfg st i a → Sound cfg (exited st i a)
  exit-keeps i a z = search (exit-keeps-shape, exit-keeps-slots, exit-keeps-counts, exit-keeps-areas, exit-keeps-clients, exit-keeps-waiters, exit-keeps-copies cfg st s)

  pub read_keeps : (i q : ℕ) → CanRead cfg st i q → Sound cfg (looked st q)
  read_keeps i q z = search (read-keeps-shape, read-keeps-elements)

  -- write and send
  pub feed-keeps : (i p : ℕ) (v : Value) → CanFeed cfg st i p v → Sound cfg (fed cfg st p v)
  unfolding fed
  feed-keeps i p v z = search (feed-keeps-shape, feed-keeps-runnables, feed-keeps-elements, feed-keeps-counts, feed-keeps-clients)

  pub invalidate-keeps : (i p : ℕ) → CanInvalidate cfg st i p → Sound cfg (invalidated cfg st p)
  invalidate-keeps i p z = search (invalidate-keeps-shape, invalidate-keeps-elements)

  pub receive-keeps : (i q : ℕ) → CanReceive cfg st i q → Sound cfg (received st i q)
  receive-keeps i q z = go-on-keeps cfg (dequeued st q) dequeue-keeps i (record { used = z.there.used }) z.free
    where
      dequeue-keeps : Sound cfg (dequeued st q)
      dequeue-keeps = search (receive-keeps-shape, receive-keeps-elements)

  pub call-keeps : (i o : ℕ) (v : Value) → CanCall cfg st i o v → Sound cfg (called cfg st i o v)
  unfolding called
  call-keeps i o v z = search (call-keeps-shape, call-keeps-runnables, call-keeps-operations, call-keeps-slots, call-keeps-counts, call-keeps-areas, call-keeps-clients, call-keeps-waiters, call-keeps-copies cfg st s)

  pub collect-keeps : (i o : ℕ) → CanCollect cfg st i o → Sound cfg (gone_on st i)
  collect-keeps i o z = search (await-keeps-shape, go-on-keeps-slots cfg st i s z.there, await-keeps-counts, await-keeps-areas, await-keeps-clients, collect-keeps-waiters, await-keeps-copies cfg st s)

  -- a hand back that ends the client's call, and one that comes late
  pub answer_keeps : (i : ℕ) (v : Value) → CanHandBack cfg st i v → answers st.operations (client_of st i) ≡ true → Sound cfg (answered cfg st i (handed_back st i v))
  unfolding closed
  answer_keeps i v z e =
      search (answer-keeps-shape, answer-keeps-runnables, answer-keeps-operations, hand-back-keeps-slots cfg st i v s z, answer-keeps-counts, hand-back-keeps-areas cfg st i v s z, answer-keeps-clients, answer-keeps-waiters, hand-back-keeps-copies cfg st s)

  pub late-keeps : (i : ℕ) (v : Value) → CanHandBack cfg st i v → answers st.operations (client_of st i) ≡ false → Sound cfg (finished st st i)
  late-keeps i v z e = search (late-keeps-shape, hand-back-keeps-slots, late-keeps-counts, hand-back-keeps-areas, late-keeps-clients, late-keeps-waiters, hand-back-keeps-copies cfg st s)

  -- an instance ends: what it has set is written, its copies go, and then it goes
  hand-on-keeps : (i : ℕ) → Sound cfg (handed_on cfg st i)
  hand-on-keeps i = search (hand-on-keeps-shape, hand-on-keeps-runnables, hand-on-keeps-elements, hand-on-keeps-counts, hand-on-keeps-clients)

  uncopy-keeps : (r i : ℕ) → Sound cfg (uncopied cfg st r i)
  uncopy-keeps r i = search (uncopy-keeps-shape, uncopy-keeps-copies cfg st s)

  empty-keeps : (i : ℕ) → CanEnd st i → Blank (copies_in st.incoming i) → Blank (copies_in st.outgoing i) → Sound cfg (emptied st i)
  empty-keeps i z a b = search (end-keeps-shape, end-keeps-runnables, end-keeps-slots, end-keeps-counts, end-keeps-areas, end-keeps-clients, end-keeps-waiters, end-keeps-copies cfg st s i a b)

  -- an instance begins: it comes, and then copies
  come-keeps : (r : ℕ) → CanSpawn cfg st r → Sound cfg (spawned cfg st r (lowest_empty st.slots))
  unfolding spawned
  come-keeps r z = search (spawn-keeps-shape, spawn-keeps-runnables, spawn-keeps-slots, spawn-keeps-counts, spawn-keeps-areas, spawn-keeps-clients, spawn-keeps-waiters, spawn-keeps-copies cfg st s)

  copy-keeps : (r k : ℕ) → (slot_in st.slots k).used ≡ true → (slot_in st.slots k).life.runnable ≡ r → Sound cfg (copied_to cfg st r k)
  copy-keeps r k u e = search (copy-keeps-shape, copy-keeps-elements, copy-keeps-copies cfg st s)

  pub timeout-keeps : (o : ℕ) → CanTimeout cfg st o → Sound cfg (closed cfg st o timeout_v)
  unfolding closed
  timeout-keeps o z = search (timeout-keeps-shape, timeout-keeps-runnables, timeout-keeps-operations, timeout-keeps-counts, timeout-keeps-clients, timeout-keeps-waiters)

  pub tick-keeps : (t : ℕ) → CanTick cfg st t → Sound cfg (ticked cfg st t)
  tick-keeps t z = search (tick-keeps-shape, tick-keeps-runnables, tick-keeps-timers, tick-keeps-counts, tick-keeps-clients)

  pub wait-keeps : (t : ℕ) → CanWait cfg st t → Sound cfg (waited cfg st t)
  unfolding waited
  wait-keeps t z = search (wait-keeps-shape, wait-keeps-runnables, wait-keeps-operations, wait-keeps-timers, wait-keeps-slots, wait-keeps-counts, wait-keeps-areas, wait-keeps-clients, wait-keeps-waiters, wait-keeps-copies cfg st s)

  pub fail-keeps : (i : ℕ) → CanFail st i → Sound cfg (failed st i)
  fail-keeps i z = search (fail-keeps-shape, fail-keeps-slots, fail-keeps-counts, fail-keeps-areas, fail-keeps-clients, fail-keeps-waiters, fail-keeps-copies cfg st s)

  pub hold-keeps : (i q t : ℕ) → CanHold cfg st i q t → Sound cfg (held st i q t)
  hold-keeps i q t z = search (await-keeps-shape, hold-keeps-slots, await-keeps-counts, await-keeps-areas, await-keeps-clients, await-keeps-waiters cfg st i (on_element q t) s (no-caller (slot_in st.slots i).life z.who.running) refl, await-keeps-copies cfg st s)

  pub give-up-keeps : (i : ℕ) → CanGiveUp st i → Sound cfg (gone_on st i)
  give-up-keeps i z = go-on-keeps cfg st s i z.there z.free

  pub write-copy-keeps : (i p : ℕ) (v : Value) → CanWriteCopy cfg st i p v → Sound cfg (with_outgoing st (with_copies st.outgoing i (setting cfg st i p v)))
  write-copy-keeps i p v z = search (write-copy-keeps-shape, write-copy-keeps-copies cfg st s)

module _ (cfg : Config) (st : State) (s : Sound cfg st) where
  pub end-keeps : (i : ℕ) → CanEnd st i → Sound cfg (ended cfg st i)
  end-keeps i z =
      let r = runnable_of st i in
      let h = hand-on-keeps cfg st s i in
      let l = here cfg st i s z.there in
      empty-keeps cfg (uncopied cfg (handed_on cfg st i) r i) (uncopy-keeps cfg (handed_on cfg st i) h r i) i
      (record { there = record { used = z.there.used }; running = z.running; none = z.none; flat = z.flat })
      (uncopied-incoming cfg st s i l) (uncopied-outgoing cfg st s i l)

  pub spawn-keeps : (r : ℕ) → CanSpawn cfg st r → Sound cfg (begun_in cfg st r (lowest_empty st.slots))
  spawn-keeps r z =
      let k = lowest_empty st.slots in
      copy-keeps cfg (spawned cfg st r k) (come-keeps cfg st s r z) r k (new-used cfg st s r z) (new-runnable cfg st s r z)

  -- ---- each way, and each step

  abbrev pub Keeps : Stepped → Type 0
  Keeps r = Sound cfg r.state

  way-keeps : {n : ℕ} {x : Step} {w : Value} {t : State} → Way cfg st x n w t → Sound cfg t
  way-keeps read_variable = s
  way-keeps (write_variable z) = write-variable-keeps cfg st s _ _ _ z
  way-keeps (enter z) = enter-keeps cfg st s _ _ z
  way-keeps (exit z) = exit-keeps cfg st s _ _ z
  way-keeps (read z) = read_keeps cfg st s _ _ z
  way-keeps (write z) = feed-keeps cfg st s _ _ _ z
  way-keeps updated = s
  way-keeps (invalidate z) = invalidate-keeps cfg st s _ _ z
  way-keeps (receive_none e w) = s
  way-keeps (receive z) = receive-keeps cfg st s _ _ z
  way-keeps (send z) = feed-keeps cfg st s _ _ _ z
  way-keeps (call_busy e) = s
  way-keeps (call z) = call-keeps cfg st s _ _ _ z
  way-keeps (poll_open a e) = s
  way-keeps (poll a e) = s
  way-keeps (collect z) = collect-keeps cfg st s _ _ z
  way-keeps (answer z e) = answer_keeps cfg st s _ _ z e
  way-keeps (late z e) = late-keeps cfg st s _ _ z e
  way-keeps (end z) = end-keeps _ z
  way-keeps (spawn z) = spawn-keeps _ z
  way-keeps (timeout z) = timeout-keeps cfg st s _ z
  way-keeps (tick z) = tick-keeps cfg st s _ z
  way-keeps (wait z) = wait-keeps cfg st s _ z
  way-keeps (fail z) = fail-keeps cfg st s _ z
  way-keeps (hold z) = hold-keeps cfg st s _ _ _ z
  way-keeps (give_up z) = give-up-keeps cfg st s _ z
  way-keeps (read_copy z) = s
  way-keeps (write_copy z) = write-copy-keeps cfg st s _ _ _ z

  went-keeps : {n : ℕ} {x : Step} {r : Stepped} → Went cfg st x n r → Keeps r
  went-keeps (bars b) = s
  went-keeps (goes w) = way-keeps w

  pub possible-keeps : (x : Step) → Keeps (possible_of cfg st x)
  possible-keeps x = went-keeps (went cfg st x)

  -- with its claim
  pub inner-keeps : (x : Step) → Keeps (inner_of cfg st x)
  unfolding inner_of claimed_of
  inner-keeps x = go (possible_of cfg st x).answer
    where
      go : (a : Answer) → Keeps (on_answer a (λ (v : Value). pick (agrees x.code v x.claim) (possible_of cfg st x) (refused other_answer st)) (λ (n : ℕ). possible_of cfg st x))
      go (Taken v) = pick-has Keeps (agrees x.code v x.claim) (possible_of cfg st x) (refused other_answer st) (λ e. possible-keeps x) (λ e. s)
      go (Refused n) = possible-keeps x

-- ---- sound stays sound

-- before the claim is looked at
pub kept-possible : (cfg : Config) (st : State) (s : Step) → sound_of cfg st ≡ true → sound_of cfg (possible_of cfg st s).state ≡ true
kept-possible cfg st s h = made cfg (possible_of cfg st s).state (possible-keeps cfg st (told cfg st h) s)

-- with it
pub kept : (cfg : Config) (st : State) (s : Step) → sound_of cfg st ≡ true → sound_of cfg (inner_of cfg st s).state ≡ true
kept cfg st s h = made cfg (inner_of cfg st s).state (inner-keeps cfg st (told cfg st h) s)

-- the test of a sound state need not be made again
pub once : (cfg : Config) (st : State) (s : Step) → sound_of cfg st ≡ true → step_of cfg st s ≡ inner_of cfg st s
unfolding step_of
once cfg st s h = rw h

-- after the test
pub kept_step : (cfg : Config) (st : State) (s : Step) → sound_of cfg st ≡ true → sound_of cfg (step_of cfg st s).state ≡ true
kept_step cfg st s h = rw (once cfg st s h) (kept cfg st s h)
