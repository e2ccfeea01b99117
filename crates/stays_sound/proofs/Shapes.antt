-- Every table keeps its length.
-- Assumes nothing.
use Prim.Native.Nat.{ℕ, zero, suc}
use mathlib.Core.Bool.{true, false}
use mathlib.Core.Path.{◌≡◌, refl, ◌∙◌}
use lib.ListN.{length, length-set}
use Rattle.laws.specs.Choice.{pick}
use Rattle.laws.proofs.Choosing.{pick-has}
use Rattle.laws.proofs.Places.{each-length}
use Rattle.values.specs.Values.{invalid_v, timeout_v}
use Rattle.faces.specs.Types.{Value, Lists, Config, Runnable, Runnables, Variable, Variables, Area, Areas, Element, Elements, Operation, Operations, Timer, Timers, Slot, Slots, Copies, Copied, State, Awaited}
use Rattle.config.specs.Tables.{runnable_conf_in, operation_conf_in, timer_conf_in}
use Rattle.config.specs.Lists.{lists_at, element_at, is_listed}
use Rattle.state.specs.Parts.{no_copies, no_slot, no_runnable, no_element, no_operation, no_timer}
use Rattle.state.specs.Tables.{max_slots, runnable_in, element_in, operation_in, slot_in, with_runnables, with_variables, with_areas, with_elements, with_operations, with_timers, with_slots, with_incoming, with_outgoing, with_copies, copy_in, with_runnable, with_variable, with_area, with_element, with_operation, with_timer, with_slot}
use Rattle.rules.specs.Sound.{shaped}
use Rattle.effects.specs.Steps.{stored, entering, exiting, entered, exited, seen, looked, fed_element, fed_elements, woken, is_fed, fed_runnables, fed, invalidated, receiving, opening, asking, caller_after, called, closing, is_returned, returned_runnables, closed, finishing, failing, failed, client_of, finished, answered, emptied, lowest_empty, spawned, ticked, operation_after, timer_after, runnable_after, operations_after, timers_after, runnables_after, waited, dequeued, awaiting, awaited, slot_after, slots_after, is_given, given_elements, is_given_to, given_runnables, hands_on, handed_elements, handed_runnables, handed_on, cleared, uncopied, copies_of, seen_elements, copied_elements, copied_into, copied_to, setting}
use Rattle.stays_sound.proofs.Told.{Shape, shape-told, shape-made}
use Rattle.state.specs.Places.{with_place}
use Rattle.stays_sound.specs.Facts.{Sound}

-- ---- one place changed, and the first places changed

pub runnable-length : (t : Runnables) (i : ℕ) (x : Runnable) → length (with_runnable t i x).at ≡ length t.at
unfolding with_place
runnable-length t i x = length-set t.at i x

pub variable-length : (t : Variables) (i : ℕ) (x : Variable) → length (with_variable t i x).at ≡ length t.at
unfolding with_place
variable-length t i x = length-set t.at i x

pub area-length : (t : Areas) (i : ℕ) (x : Area) → length (with_area t i x).at ≡ length t.at
unfolding with_place
area-length t i x = length-set t.at i x

pub element-length : (t : Elements) (i : ℕ) (x : Element) → length (with_element t i x).at ≡ length t.at
unfolding with_place
element-length t i x = length-set t.at i x

pub operation-length : (t : Operations) (i : ℕ) (x : Operation) → length (with_operation t i x).at ≡ length t.at
unfolding with_place
operation-length t i x = length-set t.at i x

pub timer-length : (t : Timers) (i : ℕ) (x : Timer) → length (with_timer t i x).at ≡ length t.at
unfolding with_place
timer-length t i x = length-set t.at i x

pub slot-length : (t : Slots) (i : ℕ) (x : Slot) → length (with_slot t i x).at ≡ length t.at
unfolding with_place
slot-length t i x = length-set t.at i x

pub copies_length : (t : Copied) (i : ℕ) (x : Copies) → length (with_copies t i x).at ≡ length t.at
unfolding with_place
copies_length t i x = length-set t.at i x

pub cleared-length : (l : Lists) (r : ℕ) (t : Copied) (i : ℕ) → length (cleared l r t i).at ≡ length t.at
unfolding cleared
cleared-length l r t i = pick-has (λ (y : Copied). length y.at ≡ length t.at) (lists_at l r 0) (with_copies t i no_copies) t (λ _. copies_length t i no_copies) (λ _. refl)

module _ (cfg : Config) where
  pub fed-elements-length : (p : ℕ) (v : Value) (t : Elements) → length (fed_elements cfg p v t).at ≡ length t.at
  unfolding fed_elements
  fed-elements-length p v t = each-length (fed_element cfg p v) no_element cfg.required.n t.at

  pub fed-runnables-length : (t : Elements) (p : ℕ) (rs : Runnables) → length (fed_runnables cfg t p rs).at ≡ length rs.at
  unfolding fed_runnables
  fed-runnables-length t p rs = each-length (λ (r : ℕ) (x : Runnable). pick (is_fed cfg t p r) (woken (runnable_conf_in cfg.runnables r) x) x) no_runnable cfg.runnables.n rs.at

  pub given-elements-length : (r : ℕ) (c : Copies) (n : ℕ) (t : Elements) → length (given_elements cfg r c n t).at ≡ length t.at
  unfolding given_elements
  given-elements-length r c zero t = refl
  given-elements-length r c (suc n) t =
      let rest = given_elements cfg r c n t in
      pick-has (λ (y : Elements). length y.at ≡ length t.at) (is_given cfg.outgoing r c n) _ rest (λ _. fed-elements-length (element_at cfg.outgoing r n) (copy_in c n) rest ∙ given-elements-length r c n t) (λ _. given-elements-length r c n t)

  pub given-runnables-length : (t : Elements) (r : ℕ) (c : Copies) (rs : Runnables) → length (given_runnables cfg t r c rs).at ≡ length rs.at
  unfolding given_runnables
  given-runnables-length t r c rs = each-length (λ (k : ℕ) (x : Runnable). pick (is_given_to cfg t r c k) (woken (runnable_conf_in cfg.runnables k) x) x) no_runnable cfg.runnables.n rs.at

  pub handed-elements-length : (st : State) (i : ℕ) → length (handed_elements cfg st i).at ≡ length st.elements.at
  unfolding handed_elements
  handed-elements-length st i = pick-has (λ (y : Elements). length y.at ≡ length st.elements.at) (hands_on cfg st i) _ st.elements (λ _. given-elements-length _ _ 4 st.elements) (λ _. refl)

  pub handed-runnables-length : (st : State) (i : ℕ) → length (handed_runnables cfg st i).at ≡ length st.runnables.at
  unfolding handed_runnables
  handed-runnables-length st i = pick-has (λ (y : Runnables). length y.at ≡ length st.runnables.at) (hands_on cfg st i) _ st.runnables (λ _. given-runnables-length st.elements _ _ st.runnables) (λ _. refl)

  pub copied-elements-length : (r : ℕ) (t : Elements) → length (copied_elements cfg r t).at ≡ length t.at
  unfolding copied_elements seen_elements
  copied-elements-length r t =
      pick-has (λ (y : Elements). length y.at ≡ length t.at) (lists_at cfg.incoming r 0) _ t
      (λ _. each-length (λ (q : ℕ) (x : Element). pick (is_listed cfg.incoming r q) (seen x) x) no_element cfg.required.n t.at) (λ _. refl)

  pub copied-into-length : (r : ℕ) (es : Elements) (t : Copied) (k : ℕ) → length (copied_into cfg r es t k).at ≡ length t.at
  unfolding copied_into
  copied-into-length r es t k = pick-has (λ (y : Copied). length y.at ≡ length t.at) (lists_at cfg.incoming r 0) _ t (λ _. copies_length t k (copies_of cfg.incoming r es)) (λ _. refl)

  pub returned-length : (o : ℕ) (rs : Runnables) → length (returned_runnables cfg o rs).at ≡ length rs.at
  unfolding returned_runnables
  returned-length o rs = each-length (λ (r : ℕ) (x : Runnable). pick (is_returned cfg o r) (woken (runnable_conf_in cfg.runnables r) x) x) no_runnable cfg.runnables.n rs.at

  pub runnables-after-length : (rs : Runnables) (t : ℕ) → length (runnables_after cfg rs t).at ≡ length rs.at
  unfolding runnables_after
  runnables-after-length rs t = each-length (λ (r : ℕ) (x : Runnable). runnable_after t x) no_runnable cfg.runnables.n rs.at

  pub operations-after-length : (os : Operations) (t : ℕ) → length (operations_after cfg os t).at ≡ length os.at
  unfolding operations_after
  operations-after-length os t = each-length (λ (o : ℕ) (x : Operation). operation_after t x) no_operation cfg.operations.n os.at

  pub timers-after-length : (ts : Timers) (t : ℕ) → length (timers_after cfg ts t).at ≡ length ts.at
  unfolding timers_after
  timers-after-length ts t = each-length (λ (k : ℕ) (x : Timer). timer_after t x) no_timer cfg.timers.n ts.at

pub slots-after-length : (ss : Slots) (t : ℕ) → length (slots_after ss t).at ≡ length ss.at
unfolding slots_after
slots-after-length ss t = each-length (λ (i : ℕ) (x : Slot). slot_after t x) no_slot max_slots ss.at

-- ---- one table of a state put in place of another of its length

module _ (st : State) (h : Shape st) where
  in-runnables : (t : Runnables) → length t.at ≡ length st.runnables.at → Shape (with_runnables st t)
  in-runnables t e = record { runnables = e ∙ h.runnables; variables = h.variables; areas = h.areas; elements = h.elements; operations = h.operations; timers = h.timers; slots = h.slots; incoming = h.incoming; outgoing = h.outgoing }

  in-variables : (t : Variables) → length t.at ≡ length st.variables.at → Shape (with_variables st t)
  in-variables t e = record { runnables = h.runnables; variables = e ∙ h.variables; areas = h.areas; elements = h.elements; operations = h.operations; timers = h.timers; slots = h.slots; incoming = h.incoming; outgoing = h.outgoing }

  in-areas : (t : Areas) → length t.at ≡ length st.areas.at → Shape (with_areas st t)
  in-areas t e = record { runnables = h.runnables; variables = h.variables; areas = e ∙ h.areas; elements = h.elements; operations = h.operations; timers = h.timers; slots = h.slots; incoming = h.incoming; outgoing = h.outgoing }

  in-elements : (t : Elements) → length t.at ≡ length st.elements.at → Shape (with_elements st t)
  in-elements t e = record { runnables = h.runnables; variables = h.variables; areas = h.areas; elements = e ∙ h.elements; operations = h.operations; timers = h.timers; slots = h.slots; incoming = h.incoming; outgoing = h.outgoing }

  in-operations : (t : Operations) → length t.at ≡ length st.operations.at → Shape (with_operations st t)
  in-operations t e = record { runnables = h.runnables; variables = h.variables; areas = h.areas; elements = h.elements; operations = e ∙ h.operations; timers = h.timers; slots = h.slots; incoming = h.incoming; outgoing = h.outgoing }

  in-timers : (t : Timers) → length t.at ≡ length st.timers.at → Shape (with_timers st t)
  in-timers t e = record { runnables = h.runnables; variables = h.variables; areas = h.areas; elements = h.elements; operations = h.operations; timers = e ∙ h.timers; slots = h.slots; incoming = h.incoming; outgoing = h.outgoing }

  in-slots : (t : Slots) → length t.at ≡ length st.slots.at → Shape (with_slots st t)
  in-slots t e = record { runnables = h.runnables; variables = h.variables; areas = h.areas; elements = h.elements; operations = h.operations; timers = h.timers; slots = e ∙ h.slots; incoming = h.incoming; outgoing = h.outgoing }

  in-incoming : (t : Copied) → length t.at ≡ length st.incoming.at → Shape (with_incoming st t)
  in-incoming t e = record { runnables = h.runnables; variables = h.variables; areas = h.areas; elements = h.elements; operations = h.operations; timers = h.timers; slots = h.slots; incoming = e ∙ h.incoming; outgoing = h.outgoing }

  in-outgoing : (t : Copied) → length t.at ≡ length st.outgoing.at → Shape (with_outgoing st t)
  in-outgoing t e = record { runnables = h.runnables; variables = h.variables; areas = h.areas; elements = h.elements; operations = h.operations; timers = h.timers; slots = h.slots; incoming = h.incoming; outgoing = e ∙ h.outgoing }

-- ---- step by step

module _ (cfg : Config) (st : State) (s : Sound cfg st) where
  -- of the state as it stands
  now : Shape st
  now = shape-told st s.shape

  -- a call that ends
  closed-shape : (o : ℕ) (v : Value) → Shape (closed cfg st o v)
  unfolding closed
  closed-shape o v =
      in-runnables _ (in-operations st now _ (operation-length st.operations o (closing v (operation_in st.operations o)))) _ (returned-length cfg o st.runnables)

module _ (cfg : Config) (st : State) where
  pub write-variable-keeps-shape : (v : ℕ) (x : Value) → Sound cfg st → shaped (stored st v x) ≡ true
  write-variable-keeps-shape v x s = shape-made _ (in-variables st (now cfg st s) _ (variable-length st.variables v (record { value = x })))

  pub enter-keeps-shape : (i a : ℕ) → Sound cfg st → shaped (entered st i a) ≡ true
  enter-keeps-shape i a s =
      shape-made _ (in-slots _ (in-areas st (now cfg st s) _ (area-length st.areas a (record { taken = true }))) _ (slot-length st.slots i (entering (slot_in st.slots i) a)))

  pub exit-keeps-shape : (i a : ℕ) → Sound cfg st → shaped (exited st i a) ≡ true
  exit-keeps-shape i a s =
      shape-made _ (in-slots _ (in-areas st (now cfg st s) _ (area-length st.areas a (record { taken = false }))) _ (slot-length st.slots i (exiting (slot_in st.slots i))))

  pub read-keeps-shape : (q : ℕ) → Sound cfg st → shaped (looked st q) ≡ true
  read-keeps-shape q s = shape-made _ (in-elements st (now cfg st s) _ (element-length st.elements q (seen (element_in st.elements q))))

  pub feed-keeps-shape : (p : ℕ) (v : Value) → Sound cfg st → shaped (fed cfg st p v) ≡ true
  unfolding fed
  feed-keeps-shape p v s =
      shape-made _ (in-runnables _ (in-elements st (now cfg st s) _ (fed-elements-length cfg p v st.elements)) _ (fed-runnables-length cfg st.elements p st.runnables))

  pub invalidate-keeps-shape : (p : ℕ) → Sound cfg st → shaped (invalidated cfg st p) ≡ true
  invalidate-keeps-shape p s = shape-made _ (in-elements st (now cfg st s) _ (fed-elements-length cfg p invalid_v st.elements))

  pub receive-keeps-shape : (q : ℕ) → Sound cfg st → shaped (dequeued st q) ≡ true
  receive-keeps-shape q s = shape-made _ (in-elements st (now cfg st s) _ (element-length st.elements q (receiving (element_in st.elements q))))

  pub call-keeps-shape : (i o : ℕ) (v : Value) → Sound cfg st → shaped (called cfg st i o v) ≡ true
  unfolding called
  call-keeps-shape i o v s =
      shape-made _
      (in-slots _
      (in-runnables _
      (in-operations st (now cfg st s) _ (operation-length st.operations o (opening (operation_conf_in cfg.operations o).timeout (operation_in st.operations o))))
      _ (runnable-length st.runnables (operation_conf_in cfg.operations o).server
      (asking (runnable_in st.runnables (operation_conf_in cfg.operations o).server) (record { operation = o; number = (operation_in st.operations o).number; argument = v }))))
      _ (slot-length st.slots i (caller_after cfg o (slot_in st.slots i))))

  -- what an instance waits for, or no longer
  pub await-keeps-shape : (i : ℕ) (a : Awaited) → Sound cfg st → shaped (awaited st i a) ≡ true
  await-keeps-shape i a s = shape-made _ (in-slots st (now cfg st s) _ (slot-length st.slots i (awaiting (slot_in st.slots i) a)))

  pub fail-keeps-shape : (i : ℕ) → Sound cfg st → shaped (failed st i) ≡ true
  fail-keeps-shape i s = shape-made _ (in-slots st (now cfg st s) _ (slot-length st.slots i (failing (slot_in st.slots i))))

  -- with a call that ends, and without
  pub answer-keeps-shape : (i : ℕ) (v : Value) → Sound cfg st → shaped (answered cfg st i v) ≡ true
  unfolding closed
  answer-keeps-shape i v s = shape-made _ (in-slots _ (closed-shape cfg st s (client_of st i).operation v) _ (slot-length st.slots i (finishing (slot_in st.slots i))))

  pub late-keeps-shape : (i : ℕ) → Sound cfg st → shaped (finished st st i) ≡ true
  late-keeps-shape i s = shape-made _ (in-slots st (now cfg st s) _ (slot-length st.slots i (finishing (slot_in st.slots i))))

  pub end-keeps-shape : (i : ℕ) → Sound cfg st → shaped (emptied st i) ≡ true
  end-keeps-shape i s = shape-made _ (in-slots _ (in-runnables st (now cfg st s) _ (runnable-length st.runnables (slot_in st.slots i).life.runnable _)) _ (slot-length st.slots i no_slot))

  pub spawn-keeps-shape : (r : ℕ) → Sound cfg st → shaped (spawned cfg st r (lowest_empty st.slots)) ≡ true
  unfolding spawned
  spawn-keeps-shape r s = shape-made _ (in-slots _ (in-runnables st (now cfg st s) _ (runnable-length st.runnables r _)) _ (slot-length st.slots (lowest_empty st.slots) _))

  pub timeout-keeps-shape : (o : ℕ) → Sound cfg st → shaped (closed cfg st o timeout_v) ≡ true
  unfolding closed
  timeout-keeps-shape o s = shape-made _ (closed-shape cfg st s o timeout_v)

  pub tick-keeps-shape : (t : ℕ) → Sound cfg st → shaped (ticked cfg st t) ≡ true
  tick-keeps-shape t s =
      shape-made _ (in-runnables _ (in-timers st (now cfg st s) _ (timer-length st.timers t _)) _ (runnable-length st.runnables (timer_conf_in cfg.timers t).runnable _))

  pub wait-keeps-shape : (t : ℕ) → Sound cfg st → shaped (waited cfg st t) ≡ true
  unfolding waited
  wait-keeps-shape t s =
      shape-made _
      (in-slots _
      (in-runnables _
      (in-timers _ (in-operations st (now cfg st s) _ (operations-after-length cfg st.operations t)) _ (timers-after-length cfg st.timers t))
      _ (runnables-after-length cfg st.runnables t))
      _ (slots-after-length st.slots t))

  -- what an instance has set is written; its copies go; those of a new one come; and one is set
  pub hand-on-keeps-shape : (i : ℕ) → Sound cfg st → shaped (handed_on cfg st i) ≡ true
  hand-on-keeps-shape i s = shape-made _ (in-runnables _ (in-elements st (now cfg st s) _ (handed-elements-length cfg st i)) _ (handed-runnables-length cfg st i))

  pub uncopy-keeps-shape : (r i : ℕ) → Sound cfg st → shaped (uncopied cfg st r i) ≡ true
  uncopy-keeps-shape r i s = shape-made _ (in-outgoing _ (in-incoming st (now cfg st s) _ (cleared-length cfg.incoming r st.incoming i)) _ (cleared-length cfg.outgoing r st.outgoing i))

  pub copy-keeps-shape : (r k : ℕ) → Sound cfg st → shaped (copied_to cfg st r k) ≡ true
  copy-keeps-shape r k s = shape-made _ (in-incoming _ (in-elements st (now cfg st s) _ (copied-elements-length cfg r st.elements)) _ (copied-into-length cfg r st.elements st.incoming k))

  pub write-copy-keeps-shape : (i p : ℕ) (v : Value) → Sound cfg st → shaped (with_outgoing st (with_copies st.outgoing i (setting cfg st i p v))) ≡ true
  write-copy-keeps-shape i p v s = shape-made _ (in-outgoing st (now cfg st s) _ (copies_length st.outgoing i (setting cfg st i p v)))
