-- What a sound slot tells of the instance in it: its life, its client and its stack.
-- Assumes nothing.
use Prim.Native.Nat.{ℕ, ◌≤◌, ◌<◌}
use mathlib.Core.Bool.{Bool, true, false, not}
use mathlib.Core.Path.{◌≡◌, refl, sym, ◌∙◌}
use native.Mathlib.Omega.{arith}
use lib.Dec.{ltb, leb}
use borrow.Author.Tests.{ltb-true, leb-true, eqb-true}
use Rattle.laws.specs.Choice.{both, alike}
use Rattle.laws.specs.Row.{filled}
use Rattle.laws.proofs.Choosing.{clash, both_left, both_right, alike_is, all_told, all_made}
use Rattle.laws.proofs.Looping.{all-at}
use Rattle.faces.specs.Types.{Config, Client, Life, Owed, Stack, Slot, Slots, State}
use Rattle.config.specs.Tables.{max_area_confs}
use Rattle.entries.specs.Faults.{is_server}
use Rattle.state.specs.Tables.{max_slots, slot_in}
use Rattle.rules.specs.Rows.{no_part}
use Rattle.rules.specs.Sound.{component_of, client_fits, is_waiting, is_caller, is_held, is_no_awaited, awaits_well, life_sound, owed_sound, area_fits, is_zero, stack_sound, slot_sound, slots_sound}
use Rattle.stays_sound.specs.Facts.{Sound}
use Rattle.stays_sound.proofs.Told.{slots_length}
use Rattle.stays_sound.proofs.Kept.{slot-inside}

-- ---- one slot

-- the instance in a slot: its life, what it owes and its stack
pub record Instance (cfg : Config) (x : Slot) : Type 0 where
  pub life : life_sound cfg x.life ≡ true
  pub owed : owed_sound cfg x.life x.owed ≡ true
  pub stack : stack_sound cfg x.life x.stack ≡ true

pub instance-told : (cfg : Config) (x : Slot) → x.used ≡ true → slot_sound cfg x ≡ true → Instance cfg x
unfolding slot_sound
instance-told cfg x u h = let t = all_told _ (rw u at h) in record { life = t.0; owed = t.1.0; stack = t.1.1.0 }

pub instance-made : (cfg : Config) (x : Slot) → x.used ≡ true → Instance cfg x → slot_sound cfg x ≡ true
unfolding slot_sound
instance-made cfg x u h = rw u (all_made _ (h.life, (h.owed, (h.stack, tt))))

-- ---- in the table

pub slot_at : (cfg : Config) (ss : Slots) → slots_sound cfg ss ≡ true → (k : ℕ) → k < max_slots → slot_sound cfg (slot_in ss k) ≡ true
unfolding slots_sound
slot_at cfg ss h = all-at (λ (k : ℕ). slot_sound cfg (slot_in ss k)) max_slots h

module _ (cfg : Config) (st : State) (s : Sound cfg st) where
  -- a slot with an instance in it
  pub slot-below : (i : ℕ) → (slot_in st.slots i).used ≡ true → i < max_slots
  slot-below i u = omega (arith, slots_length cfg st s, slot-inside st.slots i u)

  pub instance-at : (i : ℕ) → (slot_in st.slots i).used ≡ true → Instance cfg (slot_in st.slots i)
  instance-at i u = instance-told cfg (slot_in st.slots i) u (slot_at cfg st.slots s.slots i (slot-below i u))

-- ---- what an instance owes

module _ (cfg : Config) (l : Life) (w : Owed) (h : owed_sound cfg l w ≡ true) where
  -- it has a client exactly while its runnable is a server and it is not finished
  pub owed-when : w.serving ≡ both (is_server cfg l.runnable) (not l.finished)
  unfolding owed_sound
  owed-when = alike_is _ _ (both_left (alike w.serving (both (is_server cfg l.runnable) (not l.finished))) _ h)

  -- the client is one of that server
  pub owed-client : w.serving ≡ true → client_fits cfg l.runnable w.client ≡ true
  unfolding owed_sound
  owed-client e = rw e at (both_right (alike w.serving (both (is_server cfg l.runnable) (not l.finished))) _ h)

  -- so one with a client is a server's
  pub owed-server : w.serving ≡ true → is_server cfg l.runnable ≡ true
  owed-server e = both_left (is_server cfg l.runnable) (not l.finished) (sym owed-when ∙ e)

-- ---- an instance's life, and the client of a server

pub life-there : (cfg : Config) (l : Life) → life_sound cfg l ≡ true → l.runnable < cfg.runnables.n
unfolding life_sound
life-there cfg l h = ltb-true _ _ (all_told _ h).0

module _ (cfg : Config) (r : ℕ) (c : Client) (h : client_fits cfg r c ≡ true) where
  pub client-there : c.operation < cfg.operations.n
  unfolding client_fits
  client-there = ltb-true _ _ (both_left (ltb c.operation cfg.operations.n) _ h)

-- ---- a stack

module _ (cfg : Config) (l : Life) (k : Stack) (h : stack_sound cfg l k ≡ true) where
  pub stack-most : k.held ≤ max_area_confs
  unfolding stack_sound
  stack-most = leb-true _ _ (both_left (leb k.held max_area_confs) _ h)

  pub stack-filled : filled (area_fits cfg (component_of cfg l.runnable)) is_zero 0 max_area_confs k.held k.at ≡ true
  unfolding stack_sound
  stack-filled = both_right (leb k.held max_area_confs) _ h

-- one that waits, on no operation, is held
pub waits-held : (cfg : Config) (l : Life) → life_sound cfg l ≡ true → is_waiting l ≡ true → is_caller l ≡ false → is_held l ≡ true
unfolding life_sound awaits_well is_no_awaited
waits-held cfg l h w f = by (is_held l) refl
  where
    by : (b : Bool) → is_held l ≡ b → is_held l ≡ true
    by true e = e
    by false e = absurd (clash (is_waiting l) w (rw (eqb-true l.awaited.part no_part (all_told _ (rw (f, e) at (all_told _ h).1.1.0)).0)))
