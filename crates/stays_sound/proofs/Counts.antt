-- After every step a runnable counts as many instances as it has slots: what each kind of change does to the count, and then step by step.
-- Assumes nothing.
use Prim.Native.Nat.{ℕ, ◌+◌, ◌<◌}
use mathlib.Core.Bool.{true, false}
use mathlib.Core.Path.{◌≡◌, refl, sym, ◌∙◌, ap}
use native.Mathlib.Decide.{ℕ_discrete}
use native.Mathlib.Omega.{arith}
use lib.Dec.{eqb}
use lib.ListN.{length}
use lib.Seq.{get_or-set_same, get_or-set_other}
use borrow.Author.Tests.{eq-eqb, ne_eqb}
use Rattle.laws.specs.Choice.{bit}
use Rattle.laws.proofs.Choosing.{pick-has}
use Rattle.laws.proofs.Looping.{sum_same, count_most}
use Rattle.laws.proofs.Places.{sum-put}
use Rattle.values.specs.Values.{timeout_v}
use Rattle.faces.specs.Types.{Value, Config, RunnableConf, Runnable, Runnables, Slot, Slots, State, Awaited}
use Rattle.config.specs.Tables.{max_runnable_confs, runnable_conf_in, operation_conf_in, timer_conf_in}
use Rattle.state.specs.Parts.{no_runnable, no_slot}
use Rattle.state.specs.Queues.{up_one}
use Rattle.state.specs.Tables.{max_slots, runnable_in, slot_in, with_runnable, with_slot}
use Rattle.rules.specs.Sound.{of_runnable, slots_of}
use Rattle.effects.specs.Steps.{entering, exiting, entered, exited, fed, handed_on, caller_after, called, awaiting, awaited, closed, finishing, failing, failed, finished, handed_back, answered, emptied, starting, instance_of, lowest_empty, spawned, ticked, waited}
use Rattle.stays_sound.specs.Facts.{Counted, Sound, CanEnter, CanExit, CanFeed, CanCall, CanHandBack, CanEnd, CanSpawn, CanTimeout, CanTick, CanWait, CanFail, CountedIn}
use Rattle.stays_sound.proofs.Told.{runnables-length, slots_length}
use Rattle.state.specs.Places.{place_in, with_place}
use Rattle.stays_sound.proofs.Kept.{here, lowest-empty, runnable-kept, slot_kept, fed-kept, handed-kept, returned-kept, after_kept, slots-after-kept, caller-kept}

-- ---- what each kind of change does

-- one slot replaced: what the count of r loses and gains
slots-put : (ss : Slots) (i : ℕ) (x : Slot) (r : ℕ) → i < max_slots → i < length ss.at → slots_of (with_slot ss i x) r + bit (of_runnable r (slot_in ss i)) ≡ slots_of ss r + bit (of_runnable r x)
unfolding slots_of place_in with_place
slots-put ss i x r b c = sum-put (λ k y. bit (of_runnable r y)) ss.at i max_slots x no_slot b c

-- a slot that keeps whether it is used, and its runnable
pub counted-slot : (rs : Runnables) (ss : Slots) (i : ℕ) (x : Slot) → x.used ≡ (slot_in ss i).used → x.life.runnable ≡ (slot_in ss i).life.runnable → Counted rs ss → Counted rs (with_slot ss i x)
unfolding slots_of of_runnable
counted-slot rs ss i x u l h = record { counted = λ r b. h.counted r b ∙ sym (same r) }
  where
    same : (r : ℕ) → slots_of (with_slot ss i x) r ≡ slots_of ss r
    same r = sum_same _ _ max_slots (λ k b. ap bit (slot_kept (of_runnable r) ss i x (rw (u, l)) k))

-- slots that are of the same runnables at each place
counted-slots : (rs : Runnables) (ss ss' : Slots) → ((r k : ℕ) → of_runnable r (slot_in ss' k) ≡ of_runnable r (slot_in ss k)) → Counted rs ss → Counted rs ss'
unfolding slots_of
counted-slots rs ss ss' e h = record { counted = λ r b. h.counted r b ∙ sym (sum_same _ _ max_slots (λ k l. ap bit (e r k))) }

-- runnables whose instances are the same at each place
pub counted-runnables : (rs rs' : Runnables) (ss : Slots) → ((r : ℕ) → (runnable_in rs' r).instances ≡ (runnable_in rs r).instances) → Counted rs ss → Counted rs' ss
counted-runnables rs rs' ss e h = record { counted = λ r b. e r ∙ h.counted r b }

-- one runnable and one slot replaced: the runnable's count goes with the slot, and no other runnable gains or loses it
pub counted-both : (rs : Runnables) (ss : Slots) (r : ℕ) (x : Runnable) (i : ℕ) (y : Slot) → length rs.at ≡ max_runnable_confs → length ss.at ≡ max_slots → i < max_slots
    → (r < max_runnable_confs → x.instances + bit (of_runnable r (slot_in ss i)) ≡ (runnable_in rs r).instances + bit (of_runnable r y))
    → ((k : ℕ) → (k ≡ r → ⊥) → of_runnable k y ≡ of_runnable k (slot_in ss i))
    → Counted rs ss → Counted (with_runnable rs r x) (with_slot ss i y)
unfolding place_in with_place
counted-both rs ss r x i y a b c f g h = record { counted = λ k l. go k l (ℕ_discrete k r) }
  where
    put : (k : ℕ) → slots_of (with_slot ss i y) k + bit (of_runnable k (slot_in ss i)) ≡ slots_of ss k + bit (of_runnable k y)
    put k = slots-put ss i y k c (omega (arith, b, c))

    go : (k : ℕ) → k < max_runnable_confs → Dec (k ≡ r) → (runnable_in (with_runnable rs r x) k).instances ≡ slots_of (with_slot ss i y) k
    go k l (yes e) = rw (e, get_or-set_same rs.at r x no_runnable (omega (arith, a, e, l))) (omega (arith, put r, f (omega (arith, e, l)), h.counted r (omega (arith, e, l))))
    go k l (no n) = rw (get_or-set_other rs.at r k x no_runnable n) (omega (arith, put k, ap bit (g k n), h.counted k l))

-- ---- step by step

pub enter-keeps-counts : (cfg : Config) (st : State) (i a : ℕ) → Sound cfg st → CanEnter cfg st i a → CountedIn (entered st i a)
enter-keeps-counts cfg st i a s z = counted-slot st.runnables st.slots i (entering (slot_in st.slots i) a) refl refl s.counts

pub exit-keeps-counts : (cfg : Config) (st : State) (i a : ℕ) → Sound cfg st → CanExit cfg st i a → CountedIn (exited st i a)
exit-keeps-counts cfg st i a s z = counted-slot st.runnables st.slots i (exiting (slot_in st.slots i)) refl refl s.counts

-- write and send
pub feed-keeps-counts : (cfg : Config) (st : State) (i p : ℕ) (v : Value) → Sound cfg st → CanFeed cfg st i p v → CountedIn (fed cfg st p v)
unfolding fed
feed-keeps-counts cfg st i p v s z =
    counted-runnables st.runnables _ st.slots (fed-kept (λ x. x.instances) (λ c x. refl) cfg st.elements p st.runnables) s.counts

-- what an instance has set is written
pub hand-on-keeps-counts : (cfg : Config) (st : State) (i : ℕ) → Sound cfg st → CountedIn (handed_on cfg st i)
hand-on-keeps-counts cfg st i s = counted-runnables st.runnables _ st.slots (handed-kept (λ x. x.instances) (λ c x. refl) cfg st i) s.counts

pub call-keeps-counts : (cfg : Config) (st : State) (i o : ℕ) (v : Value) → Sound cfg st → CanCall cfg st i o v → CountedIn (called cfg st i o v)
unfolding called
call-keeps-counts cfg st i o v s z =
    counted-slot _ st.slots i (caller_after cfg o (slot_in st.slots i))
    (caller-kept (λ x. x.used) (λ x n. refl) cfg o (slot_in st.slots i))
    (caller-kept (λ x. x.life.runnable) (λ x n. refl) cfg o (slot_in st.slots i))
    (counted-runnables st.runnables _ st.slots (runnable-kept (λ x. x.instances) st.runnables (operation_conf_in cfg.operations o).server _ refl) s.counts)

-- what an instance waits for, or no longer
pub await-keeps-counts : (cfg : Config) (st : State) (i : ℕ) (a : Awaited) → Sound cfg st → CountedIn (awaited st i a)
await-keeps-counts cfg st i a s = counted-slot st.runnables st.slots i (awaiting (slot_in st.slots i) a) refl refl s.counts

pub fail-keeps-counts : (cfg : Config) (st : State) (i : ℕ) → Sound cfg st → CanFail st i → CountedIn (failed st i)
fail-keeps-counts cfg st i s z = counted-slot st.runnables st.slots i (failing (slot_in st.slots i)) refl refl s.counts

-- hand back of a call that is open no longer
pub late-keeps-counts : (cfg : Config) (st : State) (i : ℕ) (v : Value) → Sound cfg st → CanHandBack cfg st i v → CountedIn (finished st st i)
late-keeps-counts cfg st i v s z = counted-slot st.runnables st.slots i (finishing (slot_in st.slots i)) refl refl s.counts

-- hand back that ends its call
pub answer-keeps-counts : (cfg : Config) (st : State) (i : ℕ) (v : Value) → Sound cfg st → CanHandBack cfg st i v → CountedIn (answered cfg st i (handed_back st i v))
unfolding closed
answer-keeps-counts cfg st i v s z =
    counted-runnables st.runnables _ _ (returned-kept (λ x. x.instances) (λ c x. refl) cfg (slot_in st.slots i).owed.client.operation st.runnables)
    (late-keeps-counts cfg st i v s z)

pub end-keeps-counts : (cfg : Config) (st : State) (i : ℕ) → Sound cfg st → CanEnd st i → CountedIn (emptied st i)
unfolding of_runnable no_slot
end-keeps-counts cfg st i s z =
    counted-both st.runnables st.slots r _ i no_slot (runnables-length cfg st s) (slots_length cfg st s) l
    (λ b. omega (arith, slots-put st.slots i no_slot r l (omega (arith, l, slots_length cfg st s)), s.counts.counted r b, ap bit mine))
    (λ k n. rw (z.there.used, ne_eqb r k (λ e. n (sym e))))
    s.counts
  where
    r : ℕ
    r = (slot_in st.slots i).life.runnable

    l : i < max_slots
    l = here cfg st i s z.there

    mine : of_runnable r (slot_in st.slots i) ≡ true
    mine = rw (z.there.used, eq-eqb r r refl)

pub spawn-keeps-counts : (cfg : Config) (st : State) (r : ℕ) → Sound cfg st → CanSpawn cfg st r → CountedIn (spawned cfg st r (lowest_empty st.slots))
unfolding spawned of_runnable starting instance_of slots_of
spawn-keeps-counts cfg st r s z =
    counted-both st.runnables st.slots r _ k _ (runnables-length cfg st s) (slots_length cfg st s) z.slot
    (λ b. rw (more, none r, mine) (omega (arith, s.counts.counted r b, count_most (λ j. of_runnable r (slot_in st.slots j)) max_slots)))
    (λ j n. rw (none j, other j n))
    s.counts
  where
    k : ℕ
    k = lowest_empty st.slots

    c : RunnableConf
    c = runnable_conf_in cfg.runnables r

    x : Runnable
    x = runnable_in st.runnables r

    more : (starting c x).instances ≡ up_one x.instances
    more = pick-has (λ (y : Runnable). y.instances ≡ up_one x.instances) (eqb c.capacity 0) _ _ (λ e. refl) (λ e. refl)

    none : (j : ℕ) → of_runnable j (slot_in st.slots k) ≡ false
    none j = rw (lowest-empty st.slots z.slot)

    mine : of_runnable r (instance_of c r x) ≡ true
    mine = pick-has (λ y. of_runnable r y ≡ true) (eqb c.capacity 0) _ _ (λ e. eq-eqb r r refl) (λ e. eq-eqb r r refl)

    other : (j : ℕ) → (j ≡ r → ⊥) → of_runnable j (instance_of c r x) ≡ false
    other j n = let f = ne_eqb r j (λ e. n (sym e)) in pick-has (λ y. of_runnable j y ≡ false) (eqb c.capacity 0) _ _ (λ e. f) (λ e. f)

pub timeout-keeps-counts : (cfg : Config) (st : State) (o : ℕ) → Sound cfg st → CanTimeout cfg st o → CountedIn (closed cfg st o timeout_v)
unfolding closed
timeout-keeps-counts cfg st o s z =
    counted-runnables st.runnables _ st.slots (returned-kept (λ x. x.instances) (λ c x. refl) cfg o st.runnables) s.counts

pub tick-keeps-counts : (cfg : Config) (st : State) (t : ℕ) → Sound cfg st → CanTick cfg st t → CountedIn (ticked cfg st t)
tick-keeps-counts cfg st t s z =
    counted-runnables st.runnables _ st.slots (runnable-kept (λ x. x.instances) st.runnables (timer_conf_in cfg.timers t).runnable _ refl) s.counts

pub wait-keeps-counts : (cfg : Config) (st : State) (t : ℕ) → Sound cfg st → CanWait cfg st t → CountedIn (waited cfg st t)
unfolding waited of_runnable
wait-keeps-counts cfg st t s z =
    counted-slots _ st.slots _ (λ r. slots-after-kept (of_runnable r) t (λ x. refl) st.slots)
    (counted-runnables st.runnables _ st.slots (after_kept (λ x. x.instances) t (λ x. refl) cfg st.runnables) s.counts)
