-- How far time may go: no further than the least count of an open call, a timer or a held instance, and which counts those are ("The eighteen steps", Wait; W-203, W-210).
-- Assumes nothing.
use Rattle.std.specs.Prelude.{ℕ, zero, suc, Bool, ltb, leb}
use Rattle.laws.specs.Choice.{pick, both}
use Rattle.laws.specs.Loop.{first_below}
use Rattle.faces.specs.Types.{Config, Operation, Operations, Timer, Timers, Slot, Slots, State}
use Rattle.state.specs.Tables.{max_slots, operation_in, timer_in, slot_in}
use Rattle.rules.specs.Sound.{is_held}

-- the lesser of two numbers (ours)
abbrev pub least : ℕ → ℕ → ℕ
least a b = pick (ltb b a) b a

-- the least of f below n, and of top (ours)
unfoldable pub least_below : (ℕ → ℕ) → ℕ → ℕ → ℕ
least_below f top zero = top
least_below f top (suc n) = least (least_below f top n) (f n)

-- what an operation lets pass of t: no more than the count of its open call ("The eighteen steps", Wait)
unfoldable pub operation_left : ℕ → Operation → ℕ
operation_left t x = pick x.calling x.count t

-- what a slot lets pass of t: no more than its instance, if it is held, has left (W-210)
unfoldable pub slot_left : ℕ → Slot → ℕ
slot_left t x = pick (is_held x.life) x.life.awaited.left t

-- what all operations let pass of t ("The eighteen steps", Wait)
unfoldable pub operations_pass : Config → Operations → ℕ → ℕ
operations_pass cfg os t = least_below (λ (o : ℕ). operation_left t (operation_in os o)) t cfg.operations.n

-- what all timers let pass of t ("The eighteen steps", Wait)
unfoldable pub timers_pass : Config → Timers → ℕ → ℕ
timers_pass cfg ts t = least_below (λ (k : ℕ). (timer_in ts k).count) t cfg.timers.n

-- what all slots let pass of t (W-210)
unfoldable pub slots_pass : Slots → ℕ → ℕ
slots_pass ss t = least_below (λ (i : ℕ). slot_left t (slot_in ss i)) t max_slots

-- how much of t may pass; start intervals hold nothing back ("The eighteen steps", Wait; W-203, W-210)
unfoldable pub passes_of : Config → State → ℕ → ℕ
passes_of cfg st t = least (operations_pass cfg st.operations t) (least (timers_pass cfg st.timers t) (slots_pass st.slots t))

-- ---- which count lets no more than t pass

-- an open call does ("The eighteen steps", Wait)
unfoldable pub operation_stops : ℕ → Operation → Bool
operation_stops t x = both x.calling (leb x.count t)

-- a timer does ("The eighteen steps", Wait)
unfoldable pub timer_stops : ℕ → Timer → Bool
timer_stops t x = leb x.count t

-- a held instance does (W-210)
unfoldable pub slot_stops : ℕ → Slot → Bool
slot_stops t x = both (is_held x.life) (leb x.life.awaited.left t)

-- the first such operation, or how many there are ("The eighteen steps", Wait)
unfoldable pub operation_stop : Config → Operations → ℕ → ℕ
operation_stop cfg os t = first_below (λ (o : ℕ). operation_stops t (operation_in os o)) cfg.operations.n

-- the first such timer, or how many there are ("The eighteen steps", Wait)
unfoldable pub timer_stop : Config → Timers → ℕ → ℕ
timer_stop cfg ts t = first_below (λ (k : ℕ). timer_stops t (timer_in ts k)) cfg.timers.n

-- the first slot whose instance does, or how many there are (W-210)
unfoldable pub slot_stop : Slots → ℕ → ℕ
slot_stop ss t = first_below (λ (i : ℕ). slot_stops t (slot_in ss i)) max_slots
