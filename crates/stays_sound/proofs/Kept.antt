-- What a change of a table keeps of each part in it: one part replaced, or each of the first ones changed; and that the slots which steps speak of are there.
-- Assumes nothing.
use Prim.Native.Nat.{ℕ, ◌<◌}
use mathlib.Core.Bool.{true, false}
use mathlib.Core.Path.{◌≡◌, refl}
use native.Mathlib.Omega.{arith}
use lib.ListN.{length, get_or}
use borrow.Author.Tests.{not-true}
use Rattle.laws.specs.Choice.{pick}
use Rattle.laws.specs.Row.{each_below}
use Rattle.laws.proofs.Choosing.{clash, pick-has}
use Rattle.laws.proofs.Looping.{first-is}
use Rattle.laws.proofs.Places.{inside_of, put-each, each-has}
use Rattle.faces.specs.Types.{Config, RunnableConf, Runnable, Runnables, Elements, Operation, Operations, Slot, Slots, Copies, State}
use Rattle.config.specs.Tables.{runnable_conf_in, operation_conf_in}
use Rattle.state.specs.Parts.{no_runnable, no_operation, no_slot}
use Rattle.state.specs.Fields.{with_count}
use Rattle.state.specs.Tables.{max_slots, runnable_in, operation_in, slot_in, with_runnable, with_slot}
use Rattle.effects.specs.Steps.{woken, is_fed, fed_runnables, is_given_to, given_runnables, hands_on, handed_runnables, is_returned, returned_runnables, runnable_after, runnables_after, operation_after, operations_after, slot_after, slots_after, caller_after, waiting_on, is_empty_at, lowest_empty}
use Rattle.stays_sound.specs.Facts.{Sound, There}
use Rattle.state.specs.Places.{place_in, with_place}
use Rattle.stays_sound.proofs.Told.{slots_length}

-- ---- one part replaced by one that is alike in what g reads

module _ {B : Type 0} where
  pub runnable-kept : (g : Runnable → B) (rs : Runnables) (r : ℕ) (x : Runnable) → g x ≡ g (runnable_in rs r) → (j : ℕ) → g (runnable_in (with_runnable rs r x) j) ≡ g (runnable_in rs j)
  unfolding place_in with_place
  runnable-kept g rs r x e j = put-each (λ k y. g y ≡ g (get_or rs.at k no_runnable)) rs.at r x no_runnable e j refl

  pub slot_kept : (g : Slot → B) (ss : Slots) (i : ℕ) (x : Slot) → g x ≡ g (slot_in ss i) → (k : ℕ) → g (slot_in (with_slot ss i x) k) ≡ g (slot_in ss k)
  unfolding place_in with_place
  slot_kept g ss i x e k = put-each (λ j y. g y ≡ g (get_or ss.at j no_slot)) ss.at i x no_slot e k refl

  -- ---- each of the first parts changed to one that is

  runnables-kept : (g : Runnable → B) (f : ℕ → Runnable → Runnable) (n : ℕ) (rs : Runnables) → ((r : ℕ) (x : Runnable) → g (f r x) ≡ g x)
      → (j : ℕ) → g (runnable_in (record { at = each_below f no_runnable n rs.at }) j) ≡ g (runnable_in rs j)
  unfolding place_in
  runnables-kept g f n rs e j = each-has f no_runnable (λ k y. g y ≡ g (get_or rs.at k no_runnable)) n rs.at j (λ l. e j (get_or rs.at j no_runnable)) refl

  -- runnables woken keep all but that
  pub fed-kept : (g : Runnable → B) → ((c : RunnableConf) (x : Runnable) → g (woken c x) ≡ g x) → (cfg : Config) (t : Elements) (p : ℕ) (rs : Runnables) (j : ℕ) → g (runnable_in (fed_runnables cfg t p rs) j) ≡ g (runnable_in rs j)
  unfolding fed_runnables
  fed-kept g w cfg t p rs j = runnables-kept g (λ (r : ℕ) (x : Runnable). pick (is_fed cfg t p r) (woken (runnable_conf_in cfg.runnables r) x) x) cfg.runnables.n rs (λ r x. pick-has (λ y. g y ≡ g x) (is_fed cfg t p r) (woken (runnable_conf_in cfg.runnables r) x) x (λ e. w (runnable_conf_in cfg.runnables r) x) (λ e. refl)) j

  given-kept : (g : Runnable → B) → ((c : RunnableConf) (x : Runnable) → g (woken c x) ≡ g x) → (cfg : Config) (t : Elements) (r : ℕ) (c : Copies) (rs : Runnables) (j : ℕ) → g (runnable_in (given_runnables cfg t r c rs) j) ≡ g (runnable_in rs j)
  unfolding given_runnables
  given-kept g w cfg t r c rs j = runnables-kept g (λ (k : ℕ) (x : Runnable). pick (is_given_to cfg t r c k) (woken (runnable_conf_in cfg.runnables k) x) x) cfg.runnables.n rs (λ k x. pick-has (λ y. g y ≡ g x) (is_given_to cfg t r c k) (woken (runnable_conf_in cfg.runnables k) x) x (λ e. w (runnable_conf_in cfg.runnables k) x) (λ e. refl)) j

  pub handed-kept : (g : Runnable → B) → ((c : RunnableConf) (x : Runnable) → g (woken c x) ≡ g x) → (cfg : Config) (st : State) (i j : ℕ) → g (runnable_in (handed_runnables cfg st i) j) ≡ g (runnable_in st.runnables j)
  unfolding handed_runnables
  handed-kept g w cfg st i j = pick-has (λ (y : Runnables). g (runnable_in y j) ≡ g (runnable_in st.runnables j)) (hands_on cfg st i) _ st.runnables (λ _. given-kept g w cfg st.elements _ _ st.runnables j) (λ _. refl)

  pub returned-kept : (g : Runnable → B) → ((c : RunnableConf) (x : Runnable) → g (woken c x) ≡ g x) → (cfg : Config) (o : ℕ) (rs : Runnables) (j : ℕ) → g (runnable_in (returned_runnables cfg o rs) j) ≡ g (runnable_in rs j)
  unfolding returned_runnables
  returned-kept g w cfg o rs j = runnables-kept g (λ (r : ℕ) (x : Runnable). pick (is_returned cfg o r) (woken (runnable_conf_in cfg.runnables r) x) x) cfg.runnables.n rs (λ r x. pick-has (λ y. g y ≡ g x) (is_returned cfg o r) (woken (runnable_conf_in cfg.runnables r) x) x (λ e. w (runnable_conf_in cfg.runnables r) x) (λ e. refl)) j

  -- time leaves all but the counts
  pub after_kept : (g : Runnable → B) (t : ℕ) → ((x : Runnable) → g (runnable_after t x) ≡ g x) → (cfg : Config) (rs : Runnables) (j : ℕ) → g (runnable_in (runnables_after cfg rs t) j) ≡ g (runnable_in rs j)
  unfolding runnables_after
  after_kept g t w cfg rs j = runnables-kept g (λ (r : ℕ) (x : Runnable). runnable_after t x) cfg.runnables.n rs (λ r x. w x) j

  pub waited-kept : (g : Operation → B) (t : ℕ) → ((x : Operation) (n : ℕ) → g (with_count x n) ≡ g x) → (cfg : Config) (os : Operations) (j : ℕ) → g (operation_in (operations_after cfg os t) j) ≡ g (operation_in os j)
  unfolding operations_after place_in operation_after
  waited-kept g t w cfg os j =
      let x = get_or os.at j no_operation in
      each-has (λ (o : ℕ) (x : Operation). operation_after t x) no_operation (λ k y. g y ≡ g (get_or os.at k no_operation)) cfg.operations.n os.at j
      (λ l. pick-has (λ y. g y ≡ g x) x.calling _ x (λ e. w x _) (λ e. refl)) refl

  -- and so of slots
  pub slots-after-kept : (g : Slot → B) (t : ℕ) → ((x : Slot) → g (slot_after t x) ≡ g x) → (ss : Slots) (k : ℕ) → g (slot_in (slots_after ss t) k) ≡ g (slot_in ss k)
  unfolding slots_after place_in
  slots-after-kept g t w ss k = each-has (λ (i : ℕ) (x : Slot). slot_after t x) no_slot (λ j y. g y ≡ g (get_or ss.at j no_slot)) max_slots ss.at k (λ l. w (get_or ss.at k no_slot)) refl

  -- a caller waits, or does not: all but that is as it was
  pub caller-kept : (g : Slot → B) → ((x : Slot) (o : ℕ) → g (waiting_on x o) ≡ g x) → (cfg : Config) (o : ℕ) (x : Slot) → g (caller_after cfg o x) ≡ g x
  unfolding caller_after
  caller-kept g w cfg o x = pick-has (λ y. g y ≡ g x) (operation_conf_in cfg.operations o).asynchronous x (waiting_on x o) (λ e. refl) (λ e. w x o)

-- what holds of each slot, and of the one put in its place
pub slot_has : (P : ℕ → Slot → Type 0) (ss : Slots) (i : ℕ) (x : Slot) → P i x → ((k : ℕ) → P k (slot_in ss k)) → (k : ℕ) → P k (slot_in (with_slot ss i x) k)
unfolding place_in with_place
slot_has P ss i x p q k = put-each P ss.at i x no_slot p k (q k)

-- ---- inside a table

-- a slot with an instance in it is one of the table
pub slot-inside : (ss : Slots) (i : ℕ) → (slot_in ss i).used ≡ true → i < length ss.at
unfolding place_in no_slot
slot-inside ss i h = inside_of (λ y. y.used ≡ true) ss.at i no_slot (λ e. clash false e refl) h

-- and so of a sound state's 32
pub here : (cfg : Config) (st : State) (i : ℕ) → Sound cfg st → There st i → i < max_slots
here cfg st i s h = omega (arith, slots_length cfg st s, slot-inside st.slots i h.used)

-- the slot that a spawn uses is empty
pub lowest-empty : (ss : Slots) → lowest_empty ss < max_slots → (slot_in ss (lowest_empty ss)).used ≡ false
unfolding lowest_empty is_empty_at
lowest-empty ss h = not-true _ (first-is (is_empty_at ss) max_slots h)
