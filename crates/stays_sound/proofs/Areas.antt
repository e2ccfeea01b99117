-- After every step a taken area lies in all the stacks together once, a free one not at all: what each kind of change does, and then step by step.
-- No stack grows past its end: an area can be entered only while it is free, and then there is a place left for it (`free-room`).
-- Assumes nothing.
use Prim.Native.Nat.{ℕ, ◌+◌, ◌-◌, ◌≤◌, ◌<◌}
use mathlib.Core.Bool.{Bool, true, false}
use mathlib.Core.List.{[], ◌∷◌}
use mathlib.Core.Path.{◌≡◌, refl, sym, ◌∙◌, ap}
use native.Mathlib.Decide.{ℕ_discrete}
use native.Mathlib.Omega.{arith}
use lib.Dec.{ltb, leb, eqb}
use lib.ListN.{length, get_or}
use lib.Seq.{get_or-set_same, get_or-set_other}
use borrow.Author.Tests.{eq-eqb, ne_eqb, eqb-true, leb-true, ltb-true}
use Rattle.laws.specs.Choice.{pick, bit, all_of}
use Rattle.laws.specs.Loop.{sum_below}
use Rattle.laws.proofs.Choosing.{clash, all_told, pick-has, both_left, both_right, bit-most}
use Rattle.laws.proofs.Looping.{all-at, sum_same, sum-term, spread, sum_room}
use Rattle.laws.proofs.Places.{put-each, sum-put, sum-push, sum_pop, filled-length, filled-good}
use Rattle.faces.specs.Types.{Value, Config, Areas, Stack, Slot, Slots, State, Awaited}
use Rattle.config.specs.Tables.{max_area_confs, runnable_conf_in}
use Rattle.state.specs.Parts.{no_area, no_stack, no_slot}
use Rattle.state.specs.Queues.{up_one, push_area, top_area, pop_area}
use Rattle.state.specs.Tables.{max_slots, runnable_in, area_in, slot_in, with_area, with_slot}
use Rattle.rules.specs.Sound.{component_of, area_fits, is_zero, stack_sound, life_sound, owed_sound, is_no_stack, is_no_slot, slot_sound, slots_sound, times_in, holders}
use Rattle.effects.specs.Steps.{entering, exiting, entered, exited, caller_after, called, awaited, waited, finished, failed, emptied, instance_of, lowest_empty, spawned}
use Rattle.stays_sound.specs.Facts.{Held, Sound, CanEnter, CanExit, CanCall, CanHandBack, CanEnd, CanSpawn, CanWait, CanFail, HeldIn}
use Rattle.rules.proofs.Configured.{areas-most}
use Rattle.stays_sound.proofs.Told.{areas-length, slots_length}
use Rattle.state.specs.Places.{place_in, with_place}
use Rattle.stays_sound.proofs.Kept.{here, lowest-empty, slot_kept, slots-after-kept, caller-kept}

-- ---- what a sound slot tells of its stack

pub record Stacked (cfg : Config) (x : Slot) : Type 0 where
  pub most : x.stack.held ≤ max_area_confs
  pub long : length x.stack.at ≡ max_area_confs
  pub named : (j : ℕ) → j < x.stack.held → get_or x.stack.at j 0 < cfg.areas.n
  pub blank : x.used ≡ false → x.stack.held ≡ 0

pub stacked : (cfg : Config) (x : Slot) → slot_sound cfg x ≡ true → Stacked cfg x
unfolding slot_sound stack_sound is_no_slot is_no_stack area_fits
stacked cfg x h = go x.used refl h
  where
    go : (b : Bool) → x.used ≡ b → pick b (all_of (life_sound cfg x.life ∷ owed_sound cfg x.life x.owed ∷ stack_sound cfg x.life x.stack ∷ [])) (is_no_slot x) ≡ true → Stacked cfg x
    go true e g =
        let s = (all_told _ g).1.1.0 in
        let most = leb-true x.stack.held max_area_confs (both_left (leb x.stack.held max_area_confs) _ s) in
        let fill = both_right (leb x.stack.held max_area_confs) _ s in
        record {
          most = most;
          long = filled-length (area_fits cfg (component_of cfg x.life.runnable)) is_zero 0 max_area_confs x.stack.held x.stack.at fill;
          named = λ j l. ltb-true _ _ (both_left (ltb (get_or x.stack.at j 0) cfg.areas.n) _ (filled-good (area_fits cfg (component_of cfg x.life.runnable)) is_zero 0 max_area_confs x.stack.held x.stack.at fill j (omega arith) l));
          blank = λ n. absurd (clash x.used e n);
        }
    go false e g =
        let t = (all_told _ g).1.1.0 in
        let none = eqb-true x.stack.held 0 (both_left (eqb x.stack.held 0) _ t) in
        record {
          most = omega (arith, none);
          long = filled-length is_zero is_zero 0 max_area_confs 0 x.stack.at (both_right (eqb x.stack.held 0) _ t);
          named = λ j l. absurd (omega (arith, none, l));
          blank = λ n. none;
        }

stacked-at : (cfg : Config) (st : State) (k : ℕ) → Sound cfg st → k < max_slots → Stacked cfg (slot_in st.slots k)
unfolding slots_sound
stacked-at cfg st k s b = stacked cfg (slot_in st.slots k) (all-at (λ (k : ℕ). slot_sound cfg (slot_in st.slots k)) max_slots s.slots k b)

-- ---- what each kind of change does

-- an area on top of a stack with room: it stands there once more, any other as often as before
times-push : (b a : ℕ) (s : Stack) → s.held < length s.at → s.held < max_area_confs → times_in b (push_area s a) ≡ times_in b s + bit (eqb a b)
unfolding times_in push_area
times-push b a s l m =
    let e : up_one s.held ≡ s.held + 1 = omega arith in
    rw e (sum-push (λ (y : ℕ). bit (eqb y b)) 0 s.held s.at a l)

-- the top taken off
times-pop : (b : ℕ) (s : Stack) → 0 < s.held → times_in b (pop_area s) + bit (eqb (top_area s) b) ≡ times_in b s
unfolding times_in pop_area top_area
times-pop b s l =
    let e : s.held - 1 + 1 ≡ s.held = omega arith in
    rw e at (sum_pop (λ (y : ℕ). bit (eqb y b)) 0 (s.held - 1) s.at 0)

-- an empty stack
pub times_none : (b : ℕ) (s : Stack) → s.held ≡ 0 → times_in b s ≡ 0
unfolding times_in sum_below
times_none b s e = rw e

-- one slot replaced: what the stands of a lose and gain
holders-put : (ss : Slots) (i : ℕ) (x : Slot) (a : ℕ) → i < max_slots → i < length ss.at → holders (with_slot ss i x) a + times_in a (slot_in ss i).stack ≡ holders ss a + times_in a x.stack
unfolding holders place_in with_place
holders-put ss i x a b c = sum-put (λ k y. times_in a y.stack) ss.at i max_slots x no_slot b c

-- a slot on whose stack each area stands as often as before
pub held-slot : (cfg : Config) (t : Areas) (ss : Slots) (i : ℕ) (x : Slot) → ((a : ℕ) → times_in a x.stack ≡ times_in a (slot_in ss i).stack) → Held cfg t ss → Held cfg t (with_slot ss i x)
unfolding holders
held-slot cfg t ss i x e h = record { there = h.there; once = λ a b. sum_same _ _ max_slots (λ k l. slot_kept (λ y. times_in a y.stack) ss i x (e a) k) ∙ h.once a b }

-- as long as an area is free, no stack is full
pub free-room : (cfg : Config) (st : State) (i a : ℕ) → Sound cfg st → i < max_slots → a < max_area_confs → (area_in st.areas a).taken ≡ false → (slot_in st.slots i).stack.held < max_area_confs
unfolding holders times_in
free-room cfg st i a s l m f =
    omega (
      arith,
      sum_room (λ (b : ℕ). times_in b x) a max_area_confs (λ b n. omega (arith, fewer b, s.areas.once b n, bit-most (area_in st.areas b).taken)) m none,
      spread (λ (j : ℕ). get_or x.at j 0) max_area_confs x.held (λ j n. omega (arith, q.named j n, areas-most cfg s.config)),
    )
  where
    x : Stack
    x = (slot_in st.slots i).stack

    q : Stacked cfg (slot_in st.slots i)
    q = stacked-at cfg st i s l

    fewer : (b : ℕ) → times_in b x ≤ holders st.slots b
    fewer b = sum-term (λ (k : ℕ). times_in b (slot_in st.slots k).stack) i max_slots l

    none : times_in a x ≡ 0
    none = omega (arith, fewer a, rw f at (s.areas.once a m))

-- one area and one slot replaced: the area stands on the stack once more or once less, as it becomes taken or free, and every other as often as before
pub held_both : (cfg : Config) (t : Areas) (ss : Slots) (a : ℕ) (v : Bool) (i : ℕ) (x : Slot) → length t.at ≡ max_area_confs → length ss.at ≡ max_slots → i < max_slots
    → a < cfg.areas.n
    → times_in a x.stack + bit (area_in t a).taken ≡ times_in a (slot_in ss i).stack + bit v
    → ((b : ℕ) → (b ≡ a → ⊥) → times_in b x.stack ≡ times_in b (slot_in ss i).stack)
    → Held cfg t ss → Held cfg (with_area t a (record { taken = v })) (with_slot ss i x)
unfolding place_in with_place
held_both cfg t ss a v i x p q l m f g h = record {
  there = λ b n. put-each (λ k y. y.taken ≡ true → k < cfg.areas.n) t.at a (record { taken = v }) no_area (λ e. m) b (h.there b n);
  once = λ b n. go b n (ℕ_discrete b a);
}
  where
    put : (b : ℕ) → holders (with_slot ss i x) b + times_in b (slot_in ss i).stack ≡ holders ss b + times_in b x.stack
    put b = holders-put ss i x b l (omega (arith, q, l))

    go : (b : ℕ) → b < max_area_confs → Dec (b ≡ a) → holders (with_slot ss i x) b ≡ bit (area_in (with_area t a (record { taken = v })) b).taken
    go b n (yes e) = rw (e, get_or-set_same t.at a (record { taken = v }) no_area (omega (arith, p, e, n))) (omega (arith, put a, f, h.once a (omega (arith, e, n))))
    go b n (no k) = rw (get_or-set_other t.at a b (record { taken = v }) no_area k) (omega (arith, put b, g b k, h.once b n))

-- ---- the stack of a slot after each step that writes it

pub enter-stack : (cfg : Config) (st : State) (i a : ℕ) → Sound cfg st → CanEnter cfg st i a
    → (b : ℕ) → times_in b (entering (slot_in st.slots i) a).stack ≡ times_in b (slot_in st.slots i).stack + bit (eqb a b)
enter-stack cfg st i a s z b = times-push b a (slot_in st.slots i).stack (omega (arith, room, (stacked-at cfg st i s l).long)) room
  where
    l : i < max_slots
    l = here cfg st i s z.who.there

    room : (slot_in st.slots i).stack.held < max_area_confs
    room = free-room cfg st i a s l (omega (arith, z.inside, areas-most cfg s.config)) z.free

pub exit-stack : (cfg : Config) (st : State) (i a : ℕ) → CanExit cfg st i a → (b : ℕ) → times_in b (exiting (slot_in st.slots i)).stack + bit (eqb a b) ≡ times_in b (slot_in st.slots i).stack
exit-stack cfg st i a z b = rw z.top at (times-pop b (slot_in st.slots i).stack z.some)

pub call-stack : (cfg : Config) (o : ℕ) (x : Slot) (a : ℕ) → times_in a (caller_after cfg o x).stack ≡ times_in a x.stack
call-stack cfg o x a = caller-kept (λ y. times_in a y.stack) (λ y n. refl) cfg o x

pub end-stack : (st : State) (i : ℕ) → CanEnd st i → (a : ℕ) → times_in a no_slot.stack ≡ times_in a (slot_in st.slots i).stack
unfolding no_slot no_stack
end-stack st i z a = times_none a no_stack refl ∙ sym (times_none a (slot_in st.slots i).stack z.flat)

pub spawn-stack : (cfg : Config) (st : State) (r : ℕ) → Sound cfg st → CanSpawn cfg st r
    → (a : ℕ) → times_in a (instance_of (runnable_conf_in cfg.runnables r) r (runnable_in st.runnables r)).stack ≡ times_in a (slot_in st.slots (lowest_empty st.slots)).stack
unfolding instance_of no_stack
spawn-stack cfg st r s z a = pick-has (λ (y : Slot). times_in a y.stack ≡ times_in a old) (eqb (runnable_conf_in cfg.runnables r).capacity 0) _ _ (λ e. same) (λ e. same)
  where
    old : Stack
    old = (slot_in st.slots (lowest_empty st.slots)).stack

    same : times_in a no_stack ≡ times_in a old
    same = times_none a no_stack refl ∙ sym (times_none a old ((stacked-at cfg st (lowest_empty st.slots) s z.slot).blank (lowest-empty st.slots z.slot)))

-- ---- step by step

pub enter-keeps-areas : (cfg : Config) (st : State) (i a : ℕ) → Sound cfg st → CanEnter cfg st i a → HeldIn cfg (entered st i a)
enter-keeps-areas cfg st i a s z =
    held_both cfg st.areas st.slots a true i _ (areas-length cfg st s) (slots_length cfg st s) (here cfg st i s z.who.there) z.inside
    (rw z.free (omega (arith, enter-stack cfg st i a s z a, ap bit (eq-eqb a a refl))))
    (λ b n. omega (arith, enter-stack cfg st i a s z b, ap bit (ne_eqb a b (λ e. n (sym e)))))
    s.areas

pub exit-keeps-areas : (cfg : Config) (st : State) (i a : ℕ) → Sound cfg st → CanExit cfg st i a → HeldIn cfg (exited st i a)
unfolding holders
exit-keeps-areas cfg st i a s z =
    held_both cfg st.areas st.slots a false i _ (areas-length cfg st s) (slots_length cfg st s) l z.inside
    (omega (arith, exit-stack cfg st i a z a, ap bit (eq-eqb a a refl), once, bit-most (area_in st.areas a).taken, s.areas.once a (omega (arith, z.inside, areas-most cfg s.config))))
    (λ b n. omega (arith, exit-stack cfg st i a z b, ap bit (ne_eqb a b (λ e. n (sym e)))))
    s.areas
  where
    l : i < max_slots
    l = here cfg st i s z.there

    once : times_in a (slot_in st.slots i).stack ≤ holders st.slots a
    once = sum-term (λ (k : ℕ). times_in a (slot_in st.slots k).stack) i max_slots l

pub call-keeps-areas : (cfg : Config) (st : State) (i o : ℕ) (v : Value) → Sound cfg st → CanCall cfg st i o v → HeldIn cfg (called cfg st i o v)
unfolding called
call-keeps-areas cfg st i o v s z = held-slot cfg st.areas st.slots i _ (call-stack cfg o (slot_in st.slots i)) s.areas

-- what an instance waits for, or no longer
pub await-keeps-areas : (cfg : Config) (st : State) (i : ℕ) (a : Awaited) → Sound cfg st → HeldIn cfg (awaited st i a)
await-keeps-areas cfg st i a s = held-slot cfg st.areas st.slots i _ (λ b. refl) s.areas

pub wait-keeps-areas : (cfg : Config) (st : State) (t : ℕ) → Sound cfg st → CanWait cfg st t → HeldIn cfg (waited cfg st t)
unfolding waited holders
wait-keeps-areas cfg st t s z = record { there = s.areas.there; once = λ a b. sum_same _ _ max_slots (λ k l. slots-after-kept (λ y. times_in a y.stack) t (λ x. refl) st.slots k) ∙ s.areas.once a b }

pub fail-keeps-areas : (cfg : Config) (st : State) (i : ℕ) → Sound cfg st → CanFail st i → HeldIn cfg (failed st i)
fail-keeps-areas cfg st i s z = held-slot cfg st.areas st.slots i _ (λ a. refl) s.areas

pub hand-back-keeps-areas : (cfg : Config) (st : State) (i : ℕ) (v : Value) → Sound cfg st → CanHandBack cfg st i v → HeldIn cfg (finished st st i)
hand-back-keeps-areas cfg st i v s z = held-slot cfg st.areas st.slots i _ (λ a. refl) s.areas

pub end-keeps-areas : (cfg : Config) (st : State) (i : ℕ) → Sound cfg st → CanEnd st i → HeldIn cfg (emptied st i)
end-keeps-areas cfg st i s z = held-slot cfg st.areas st.slots i no_slot (end-stack st i z) s.areas

pub spawn-keeps-areas : (cfg : Config) (st : State) (r : ℕ) → Sound cfg st → CanSpawn cfg st r → HeldIn cfg (spawned cfg st r (lowest_empty st.slots))
unfolding spawned
spawn-keeps-areas cfg st r s z = held-slot cfg st.areas st.slots (lowest_empty st.slots) _ (spawn-stack cfg st r s z) s.areas
