-- The test of a state as the code goes: the slots first, in one walk that leaves a tally; every other table behind them, once each, against the tally.
-- Assumes nothing.
use Rattle.std.specs.Prelude.{ℕ, ◌+◌, Bool, not, List, [], ◌∷◌, ◌==◌, nat_le, nat_lt, slice_index, slice_index_or}
use Rattle.laws.specs.Choice.{pick, both, either, bit, all_of}
use Rattle.laws.specs.Loop.{all_below}
use Rattle.faces.specs.Types.{Config, Client, Requests, Runnable, Runnables, Area, Areas, Operation, Operations, Slot, Slots, Copies, Copied, State}
use Rattle.config.specs.Tables.{max_runnable_confs, max_area_confs, max_operation_confs, operation_conf_in}
use Rattle.state.specs.Parts.{no_client, no_requests}
use Rattle.state.specs.Tables.{max_slots, runnable_in, area_in, operation_in, slot_in, copies_in}
use Rattle.rules.specs.Sound.{runnable_sound, operation_sound, queued_as, variables_sound, elements_sound, timers_sound, slot_sound, copies_sound}
use Rattle.sound.specs.declared.Held.{Held}
use Rattle.sound.specs.declared.Noted.{Noted}
use Rattle.sound.specs.declared.Tally.{Tally}
use Rattle.sound.specs.declared.Walked.{Walked}
use Rattle.sound.specs.Tally.{no_tally, tally_of, noted_at, noted_as}

-- how many clients have the operation o and the number m, in one queue and among those noted (ours)
unfoldable pub clients_with : Requests → Noted → ℕ → ℕ → ℕ
clients_with q l o m = queued_as o m q + noted_as o m l

-- a client shares operation and number with no other of that queue and of those noted (ours)
unfoldable pub client_alone : Requests → Noted → Client → Bool
client_alone q l c = clients_with q l c.operation c.number == 1

-- every client of a queue does (ours)
unfoldable pub queue_alone : Requests → Noted → Bool
queue_alone q l = all_below (λ (j : ℕ). client_alone q l (slice_index_or q.at j no_client)) q.queued

-- every client noted does, against those noted; one that waits in a queue too is found with that queue (ours)
unfoldable pub noted_alone : Noted → Bool
noted_alone l = all_below (λ (j : ℕ). client_alone no_requests l (noted_at l j)) l.n

-- the queue that the clients of the operation o wait in (ours)
unfoldable pub queue_of : Config → Runnables → ℕ → Requests
queue_of cfg rs o = (runnable_in rs (operation_conf_in cfg.operations o).server).requests

-- a runnable by itself, the n slots that it has, and its clients (ours)
unfoldable pub runnable_tallied : Config → Noted → ℕ → ℕ → Runnable → Bool
runnable_tallied cfg l n r x = both (runnable_sound cfg r x) (both (x.instances == n) (queue_alone x.requests l))

-- the n waiters of an operation: one at most, and one while a synchronous call is open (ours)
unfoldable pub waiter_tallied : Config → ℕ → ℕ → Operation → Bool
waiter_tallied cfg n o x = both (nat_le n 1) (either (not x.calling) (either (operation_conf_in cfg.operations o).asynchronous (nat_lt 0 n)))

-- an operation by itself, the n waiters that it has, and the one client of an open call (ours)
unfoldable pub operation_tallied : Config → Runnables → Noted → ℕ → ℕ → Operation → Bool
operation_tallied cfg rs l n o x = both (operation_sound cfg o x) (both (waiter_tallied cfg n o x) (either (not x.calling) (clients_with (queue_of cfg rs o) l o x.number == 1)))

-- an area, and how often it stands in the stacks; there are n areas (ours)
unfoldable pub area_tallied : ℕ → ℕ → ℕ → Area → Bool
area_tallied n held a x = both (either (not x.taken) (nat_lt a n)) (held == bit x.taken)

-- every runnable (ours)
unfoldable pub runnables_tallied : Config → Tally → Runnables → Bool
runnables_tallied cfg y t = all_below (λ (r : ℕ). runnable_tallied cfg y.noted (slice_index y.instances r) r (runnable_in t r)) max_runnable_confs

-- every operation (ours)
unfoldable pub operations_tallied : Config → Runnables → Tally → Operations → Bool
operations_tallied cfg rs y t = all_below (λ (o : ℕ). operation_tallied cfg rs y.noted (slice_index y.waiters o) o (operation_in t o)) max_operation_confs

-- every area (ours)
unfoldable pub areas_tallied : ℕ → Held → Areas → Bool
areas_tallied n l t = all_below (λ (a : ℕ). area_tallied n (slice_index l.at a) a (area_in t a)) max_area_confs

-- what is left to test when the slots are (ours)
abbrev pub rest_tests : Config → State → Tally → List Bool
rest_tests cfg st y =
    runnables_tallied cfg y st.runnables
    ∷ variables_sound cfg st.variables
    ∷ elements_sound cfg st.elements
    ∷ operations_tallied cfg st.runnables y st.operations
    ∷ timers_sound cfg st.timers
    ∷ areas_tallied cfg.areas.n y.held st.areas
    ∷ noted_alone y.noted
    ∷ []

-- one slot of the walk: it by itself, and the copies of its instance, by the one list and the other (ours)
unfoldable pub slot_walked : Config → Slot → Copies → Copies → Bool
slot_walked cfg x i o = both (slot_sound cfg x) (both (copies_sound cfg.edition cfg.incoming x i) (copies_sound cfg.edition cfg.outgoing x o))

-- every slot of the walk (ours)
unfoldable pub slots_walked : Config → Slots → Copied → Copied → Bool
slots_walked cfg ss is os = all_below (λ (k : ℕ). slot_walked cfg (slot_in ss k) (copies_in is k) (copies_in os k)) max_slots

-- what the walk over the slots comes to: whether each of them is sound, with its copies, and the tally of all if so (ours)
unfoldable pub walk_of : Config → Slots → Copied → Copied → Walked
walk_of cfg ss is os = record { sound = slots_walked cfg ss is os; tally = pick (slots_walked cfg ss is os) (tally_of ss max_slots) no_tally }

-- the slots, and the rest by their tally (ours)
unfoldable pub whole_test : Config → State → Bool
whole_test cfg st = both (slots_walked cfg st.slots st.incoming st.outgoing) (all_of (rest_tests cfg st (tally_of st.slots max_slots)))
