-- In an edition that marks no element invalid nothing is Invalid. Payloads, outcomes and what such an edition stores are not (`payload-valid`, `outcome-valid`, `stored-valid`), so a sound state holds
-- none (`holds-valid`), and each way of a step answers what the state holds, or a value of another kind (`way-valid`). The way of an invalidate relies on an edition that marks.
-- Assumes nothing.
use Prim.Native.Nat.{ℕ, ◌≤◌, ◌<◌}
use mathlib.Core.Bool.{Bool, true, false, not}
use mathlib.Core.List.{◌∷◌}
use mathlib.Core.Path.{◌≡◌, refl}
use native.Mathlib.Decide.{dec_lt}
use native.Mathlib.Omega.{arith}
use lib.Dec.{ltb, leb, eqb}
use lib.ListN.{length, get_or}
use borrow.Author.Tests.{eqb-true}
use Rattle.numbers.specs.Codes.{invalidate_code}
use Rattle.laws.specs.Choice.{pick, both}
use Rattle.laws.specs.Row.{filled}
use Rattle.laws.proofs.Choosing.{clash, both_left, both_right, all_told, pick-has}
use Rattle.laws.proofs.Looping.{all-at}
use Rattle.laws.proofs.Places.{past, filled-good, filled-blank}
use Rattle.faces.specs.Types.{Value, Step, Lists, Config, Variable, Element, Operation, Copies, Copied, State, Client}
use Rattle.values.specs.Values.{never_received_v, void_v, is_void, is_payload}
use Rattle.config.specs.Editions.{marks_invalid}
use Rattle.config.specs.Tables.{required_conf_in, runnable_conf_in, operation_conf_in}
use Rattle.state.specs.Parts.{last_number, no_variable, no_element, no_operation, max_values, no_client, no_copies, max_requests}
use Rattle.state.specs.Queues.{oldest}
use Rattle.state.specs.Start.{start_of}
use Rattle.state.specs.Tables.{variable_in, element_in, operation_in, runnable_in, slot_in, copy_in, copies_in}
use Rattle.config.specs.Lists.{place_of}
use Rattle.rules.specs.Sound.{has_copy, is_no_copy, copy_sound, copied_sound, variable_sound, variables_sound, is_stored, values_sound, element_sound, elements_sound, is_outcome, calling_sound, done_sound, operation_sound, operations_sound, is_no_client, client_fits, requests_sound, runnable_sound, runnables_sound}
use Rattle.rules.proofs.Configured.{required-most, length_most}
use Rattle.effects.specs.Steps.{full_mask, sent_of, runnable_of}
use Rattle.stays_sound.specs.Facts.{Sound}
use Rattle.stays_sound.proofs.Told.{told, shape-told}
use Rattle.stays_sound.proofs.Copies.{Copied', copies-told, copies_at, no-copies-blank, blank-sound}
use Rattle.stays_sound.proofs.Ways as go
use Rattle.stays_sound.proofs.Accepted.{accepted, gone}
use Rattle.stays_sound.proofs.Instances.{instance-told, owed-client, slot_at}
use Rattle.history.specs.Promises.{OfRuns, OfSteps}
use Rattle.history.specs.Editions.{Valid, NoneInvalidates, HoldsValid, NoneInvalid, AnswersValid}
use Rattle.history.proofs.Runs.{halves, first}
use Rattle.history.proofs.Finals.{values-told}
use Rattle.state.specs.Places.{place_in}
use Rattle.history.proofs.Proofs.{stays-sound}

-- ---- values of the kinds that are kept

payload-valid : (v : Value) → is_payload v ≡ true → Valid v
unfolding is_payload is_void
payload-valid v h q = clash (is_payload v) h (rw q)

void-is : is_void void_v ≡ true
unfolding is_void
void-is = refl

void-valid : (v : Value) → is_void v ≡ true → Valid v
unfolding is_void
void-valid v h q = clash (is_void v) h (rw q)

outcome-valid : (v : Value) → is_outcome v ≡ true → Valid v
unfolding is_outcome is_payload is_void
outcome-valid v h q = clash (is_outcome v) h (rw q)

stored-valid : (e : ℕ) (v : Value) → marks_invalid e ≡ false → is_stored e v ≡ true → Valid v
unfolding is_stored is_payload is_void
stored-valid e v m h q = clash (is_stored e v) h (rw (q, m))

-- one of two tests holds of v, and neither of Invalid
either-valid : (v : Value) (b x y : Bool) → (x ≡ true → Valid v) → (y ≡ true → Valid v) → pick b x y ≡ true → Valid v
either-valid v b x y f g = pick-has (λ (z : Bool). z ≡ true → Valid v) b x y (λ _. f) (λ _. g)

-- ---- what a sound state holds

module _ (cfg : Config) (st : State) (g : Sound cfg st) (m : marks_invalid cfg.edition ≡ false) where
  variable-valid : (k : ℕ) → Valid (variable_in st.variables k).value
  unfolding variables_sound variable_sound place_in
  variable-valid k = on (dec_lt k 16)
    where
      x : Variable
      x = variable_in st.variables k

      on : Dec (k < 16) → Valid x.value
      on (yes b) =
          either-valid x.value (ltb k cfg.variables.n) (is_payload x.value) (is_void x.value) (payload-valid x.value) (void-valid x.value)
          (all-at (λ (k : ℕ). variable_sound cfg k (variable_in st.variables k)) 16 g.variables k b)
      on (no n) = void-valid x.value (rw (past st.variables.at k 16 no_variable (shape-told st g.shape).variables (omega (arith, n))) void-is)

  element-here : (q : ℕ) → q < 16 → element_sound cfg q (element_in st.elements q) ≡ true
  unfolding elements_sound
  element-here q b = all-at (λ (q : ℕ). element_sound cfg q (element_in st.elements q)) 16 g.elements q b

  element-valid : (q : ℕ) → Valid (element_in st.elements q).value
  unfolding element_sound place_in no_element
  element-valid q = on (dec_lt q 16)
    where
      x : Element
      x = element_in st.elements q

      on : Dec (q < 16) → Valid x.value
      on (yes b) =
          either-valid x.value (both (ltb q cfg.required.n) (eqb (required_conf_in cfg.required q).capacity 0)) (is_stored cfg.edition x.value) _
          (stored-valid cfg.edition x.value m) (λ h. void-valid x.value (both_left (is_void x.value) _ h))
          (both_left _ (values_sound (required_conf_in cfg.required q).capacity x.queue.queued x.queue.at) (element-here q b))
      on (no n) = void-valid x.value (rw (past st.elements.at q 16 no_element (shape-told st g.shape).elements (omega (arith, n))) void-is)

  -- a place of a queue, whether in use or not
  queued-valid : (q j : ℕ) → q < 16 → j < 16 → Valid (get_or (element_in st.elements q).queue.at j void_v)
  unfolding element_sound values_sound
  queued-valid q j b c =
      let x = element_in st.elements q in
      let n = (required_conf_in cfg.required q).capacity in
      let held = pick (both (ltb q cfg.required.n) (eqb n 0)) (is_stored cfg.edition x.value) (both (is_void x.value) (not x.updated)) in
      on (dec_lt j x.queue.queued) (both_right (leb x.queue.queued n) (filled is_payload is_void void_v max_values x.queue.queued x.queue.at) (both_right held (values_sound n x.queue.queued x.queue.at) (element-here q b)))
    where
      on : Dec (j < (element_in st.elements q).queue.queued) → filled is_payload is_void void_v max_values (element_in st.elements q).queue.queued (element_in st.elements q).queue.at ≡ true → Valid (get_or (element_in st.elements q).queue.at j void_v)
      on (yes l) f = payload-valid (get_or (element_in st.elements q).queue.at j void_v) (filled-good is_payload is_void void_v max_values (element_in st.elements q).queue.queued (element_in st.elements q).queue.at f j c l)
      on (no l) f = void-valid (get_or (element_in st.elements q).queue.at j void_v) (filled-blank is_payload is_void void_v max_values (element_in st.elements q).queue.queued (element_in st.elements q).queue.at f j c (omega (arith, l)))

  done-valid : (o : ℕ) → Valid (operation_in st.operations o).done
  unfolding operations_sound operation_sound calling_sound done_sound place_in
  done-valid o = on (dec_lt o 8)
    where
      x : Operation
      x = operation_in st.operations o

      on : Dec (o < 8) → Valid x.done
      on (yes b) =
          either-valid x.done x.calling (calling_sound cfg o x) (done_sound cfg o x)
          (λ h. void-valid x.done (all_told _ h).1.1.0)
          (λ h. either-valid x.done (ltb o cfg.operations.n) (is_outcome x.done) _ (outcome-valid x.done) (λ k. void-valid x.done (both_right (eqb x.number 0) (is_void x.done) k))
          (both_right (eqb x.count 0) _ h))
          (both_right (leb x.number last_number) (pick x.calling (calling_sound cfg o x) (done_sound cfg o x)) (all-at (λ (o : ℕ). operation_sound cfg o (operation_in st.operations o)) 8 g.operations o b))
      on (no n) = void-valid x.done (rw (past st.operations.at o 8 no_operation (shape-told st g.shape).operations (omega (arith, n))) void-is)

  -- a client of a server hands over a payload
  client-valid : (r : ℕ) (x : Client) → client_fits cfg r x ≡ true → Valid x.argument
  unfolding client_fits
  client-valid r x h =
      payload-valid x.argument
      (both_right (eqb (operation_conf_in cfg.operations x.operation).server r) (is_payload x.argument) (both_right (ltb x.operation cfg.operations.n) _ h))

  request-valid : (r j : ℕ) → r < 16 → j < 16 → j < (runnable_in st.runnables r).requests.queued → Valid (get_or (runnable_in st.runnables r).requests.at j no_client).argument
  unfolding runnables_sound runnable_sound requests_sound
  request-valid r j b c l =
      let q = (runnable_in st.runnables r).requests in
      let t = (all_told _ (all-at (λ (r : ℕ). runnable_sound cfg r (runnable_in st.runnables r)) 16 g.runnables r b)).1.1.1.0 in
      client-valid r (get_or q.at j no_client) (filled-good (client_fits cfg r) is_no_client no_client max_requests q.queued q.at (both_right (leb q.queued (runnable_conf_in cfg.runnables r).capacity) _ t) j c l)

  served-valid : (i : ℕ) → i < 32 → (slot_in st.slots i).used ≡ true → (slot_in st.slots i).owed.serving ≡ true → Valid (slot_in st.slots i).owed.client.argument
  served-valid i b u s =
      let x = slot_in st.slots i in
      client-valid x.life.runnable x.owed.client (owed-client cfg x.life x.owed (instance-told cfg x u (slot_at cfg st.slots g.slots i b)).owed s)

  -- a place for a copy, whether in use or not
  copy-valid : (t : Lists) (cs : Copied) → length cs.at ≡ 32 → copied_sound cfg.edition t st.slots cs ≡ true → (i j : ℕ) → Valid (copy_in (copies_in cs i) j)
  unfolding copy_sound place_in copy_in no_copies is_no_copy
  copy-valid t cs e h i j = on (dec_lt i 32)
    where
      -- past the last place nothing has come
      beyond : (c : Copies) → length c.at ≡ 4 → 4 ≤ j → Valid (get_or c.at j never_received_v)
      beyond c f l q = omega (arith, rw (past c.at j 4 never_received_v f l) at q)

      inside : (c : Copies) → Copied' cfg.edition t (slot_in st.slots i) c → Dec (j < 4) → Valid (get_or c.at j never_received_v)
      inside c f (yes l) =
          let v = get_or c.at j never_received_v in
          either-valid v (has_copy t (slot_in st.slots i) j) (is_stored cfg.edition v) (is_no_copy v) (stored-valid cfg.edition v m)
          (λ n q. omega (arith, q, eqb-true v.kind 6 (both_left (eqb v.kind 6) _ n))) (f.each j l)
      inside c f (no l) = beyond c f.places (omega (arith, l))

      on : Dec (i < 32) → Valid (get_or (get_or cs.at i no_copies).at j never_received_v)
      on (yes b) = inside (get_or cs.at i no_copies) (copies-told cfg.edition t (slot_in st.slots i) (get_or cs.at i no_copies) (copies_at cfg.edition t st.slots cs h i b)) (dec_lt j 4)
      on (no n) = rw (past cs.at i 32 no_copies e (omega (arith, n))) (inside no_copies (copies-told cfg.edition t (slot_in st.slots i) no_copies (blank-sound cfg.edition t (slot_in st.slots i) no_copies no-copies-blank)) (dec_lt j 4))

  incoming-valid : (i j : ℕ) → Valid (copy_in (copies_in st.incoming i) j)
  incoming-valid = copy-valid cfg.incoming st.incoming (shape-told st g.shape).incoming g.copies.incoming

  outgoing-valid : (i j : ℕ) → Valid (copy_in (copies_in st.outgoing i) j)
  outgoing-valid = copy-valid cfg.outgoing st.outgoing (shape-told st g.shape).outgoing g.copies.outgoing

  holds-valid : HoldsValid st
  holds-valid = record { variables = λ k b. variable-valid k; elements = λ q b. element-valid q; operations = λ o b. done-valid o; queues = λ q j b c. queued-valid q j b (omega (arith, c, values-told cfg st q g b, length_most cfg g.config q)); requests = request-valid; served = served-valid; incoming = λ i j b c. incoming-valid i j; outgoing = λ i j b c. outgoing-valid i j }

  -- ---- what a step answers

  sent-valid : (k : ℕ) → Valid (sent_of k)
  unfolding sent_of
  sent-valid k = pick-has Valid (eqb k 0) _ _ (λ _ q. omega (arith, q)) (λ _ q. omega (arith, q))

  way-valid : (s : Step) {n : ℕ} {v : Value} {t : State} → go.Way cfg st s n v t → Valid v
  unfolding oldest
  way-valid s go.read_variable = variable-valid s.what
  way-valid s (go.write_variable z) = λ q. omega (arith, q)
  way-valid s (go.enter z) = λ q. omega (arith, q)
  way-valid s (go.exit z) = λ q. omega (arith, q)
  way-valid s (go.read z) = element-valid s.what
  way-valid s (go.write z) = λ q. omega (arith, q)
  way-valid s go.updated = λ q. omega (arith, q)
  way-valid s (go.invalidate z) = λ q. omega (arith, q)
  way-valid s (go.receive_none e i) = λ q. omega (arith, q)
  way-valid s (go.receive z) = queued-valid s.what 0 (omega (arith, z.inside, required-most cfg g.config)) (omega arith)
  way-valid s (go.send z) = sent-valid (full_mask cfg st.elements s.what)
  way-valid s (go.call_busy e) = λ q. omega (arith, q)
  way-valid s (go.call z) = λ q. omega (arith, q)
  way-valid s (go.poll_open a e) = λ q. omega (arith, q)
  way-valid s (go.poll a e) = done-valid s.what
  way-valid s (go.collect z) = done-valid s.what
  way-valid s (go.answer z e) = λ q. omega (arith, q)
  way-valid s (go.late z e) = λ q. omega (arith, q)
  way-valid s (go.end z) = λ q. omega (arith, q)
  way-valid s (go.spawn z) = λ q. omega (arith, q)
  way-valid s (go.timeout z) = λ q. omega (arith, q)
  way-valid s (go.tick z) = λ q. omega (arith, q)
  way-valid s (go.wait z) = λ q. omega (arith, q)
  way-valid s (go.fail z) = λ q. omega (arith, q)
  way-valid s (go.hold z) = λ q. omega (arith, q)
  way-valid s (go.give_up z) = λ q. omega (arith, q)
  way-valid s (go.read_copy z) = incoming-valid s.who (place_of cfg.incoming (runnable_of st s.who) s.what)
  way-valid s (go.write_copy z) = λ q. omega (arith, q)

-- the way of an invalidate relies on an edition that marks
invalidate-marks : {cfg : Config} {st : State} {s : Step} {v : Value} {t : State} → go.Way cfg st s invalidate_code v t → marks_invalid cfg.edition ≡ true
invalidate-marks (go.invalidate z) = z.marks

-- ---- over recordings

pub none-invalid : OfRuns NoneInvalid
none-invalid cfg rs st c e m = holds-valid cfg st (told cfg st (stays-sound cfg rs st c e)) m

pub none-invalidates : OfSteps NoneInvalidates
none-invalidates cfg before after s st c e m k =
    let h = halves cfg (start_of cfg) st before (s ∷ after) e in
    clash (marks_invalid cfg.edition) (invalidate-marks (gone cfg h.mid s k (first cfg h.mid st s after h.after))) m

pub answers-valid : OfSteps AnswersValid
answers-valid cfg before after s st c e m =
    let h = halves cfg (start_of cfg) st before (s ∷ after) e in
    let a = first cfg h.mid st s after h.after in
    (h.mid, h.before, way-valid cfg h.mid (told cfg h.mid (accepted cfg h.mid s a).0) m s (gone cfg h.mid s refl a))
