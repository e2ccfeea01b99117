-- What the one walk over the slots remembers, and what that means.
-- Assumes nothing.
use Rattle.std.specs.Prelude.{◌≡◌, ℕ, zero, suc, ◌+◌, ◌%◌, ◌<◌, Bool, List, replicate, slice_index, slice_set}
use Rattle.laws.specs.Choice.{pick}
use Rattle.laws.specs.Loop.{sum_below, count_below}
use Rattle.values.specs.Values.{void_v}
use Rattle.config.specs.Tables.{max_runnable_confs, max_area_confs, max_operation_confs}
use Rattle.faces.specs.Types.{Client, Owed, Stack, Slot, Slots}
use Rattle.state.specs.Queues.{up_one}
use Rattle.state.specs.Tables.{max_slots, slot_in}
use Rattle.rules.specs.Sound.{is_caller, of_runnable, times_in, is_client, served_as, waits_on}
use Rattle.sound.specs.declared.Held.{Held}
use Rattle.sound.specs.declared.Noted.{Noted}
use Rattle.sound.specs.declared.Tally.{Tally}

-- no slot seen yet (ours)
unfoldable pub no_tally : Tally
no_tally = record { instances = replicate max_runnable_confs 0; waiters = replicate max_operation_confs 0; held = record { at = replicate max_area_confs 0 }; noted = record { n = 0; operations = replicate max_slots 0; numbers = replicate max_slots 0 } }

-- one more at the place i, if so: an instance of a runnable, or a waiter of an operation (ours)
unfoldable pub counted : List ℕ → Bool → ℕ → List ℕ
counted l more i = pick more (slice_set l i (up_one (slice_index l i))) l

-- the area a once more (ours)
unfoldable pub entered : Held → ℕ → Held
entered l a = record { at = slice_set l.at a ((slice_index l.at a + 1) % 65536) }

-- each of the first n areas of a stack once more (ours)
unfoldable pub held_below : Stack → ℕ → Held → Held
held_below s zero l = l
held_below s (suc n) l = entered (held_below s n l) (slice_index s.at n)

-- the client of an instance, if it serves one, behind those noted (ours)
unfoldable pub noting : Noted → Owed → Noted
noting l w =
    pick w.serving
    (record { n = up_one l.n; operations = slice_set l.operations l.n w.client.operation; numbers = slice_set l.numbers l.n w.client.number })
    l

-- the tally with one slot more (ours)
unfoldable pub tallied : Tally → Slot → Tally
tallied t x =
    record {
      instances = counted t.instances x.used x.life.runnable;
      waiters = counted t.waiters (is_caller x.life) x.life.awaited.on;
      held = held_below x.stack x.stack.held t.held;
      noted = noting t.noted x.owed;
    }

-- the tally of the first k slots (ours)
unfoldable pub tally_of : Slots → ℕ → Tally
tally_of ss zero = no_tally
tally_of ss (suc k) = tallied (tally_of ss k) (slot_in ss k)

-- the client noted at place j, without its argument (ours)
unfoldable pub noted_at : Noted → ℕ → Client
noted_at l j = record { operation = slice_index l.operations j; number = slice_index l.numbers j; argument = void_v }

-- how many of the clients noted have the operation o and the number m (ours)
unfoldable pub noted_as : ℕ → ℕ → Noted → ℕ
noted_as o m l = count_below (λ (j : ℕ). is_client o m (noted_at l j)) l.n

-- what a tally means after k slots: for each runnable the slots that it has among them, for each operation how many of them wait on it, for each area how often it stands in their stacks, for each operation and number the clients that have both ("A sound state", counts, areas and clients; W-202)
pub record Tallies (ss : Slots) (k : ℕ) (t : Tally) : Type 0 where
  pub instances : (r : ℕ) → r < max_runnable_confs → slice_index t.instances r ≡ count_below (λ (j : ℕ). of_runnable r (slot_in ss j)) k
  pub waiters : (o : ℕ) → o < max_operation_confs → slice_index t.waiters o ≡ count_below (λ (j : ℕ). waits_on o (slot_in ss j)) k
  pub held : (a : ℕ) → a < max_area_confs → slice_index t.held.at a ≡ sum_below (λ (j : ℕ). times_in a (slot_in ss j).stack) k
  pub clients : (o m : ℕ) → noted_as o m t.noted ≡ sum_below (λ (j : ℕ). served_as o m (slot_in ss j).owed) k
