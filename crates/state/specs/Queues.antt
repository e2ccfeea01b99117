-- Queues and stacks in the first places of an array, as a step grows and takes them ("The eighteen steps").
-- A count of a sound state never reaches 255; past it the count goes round, so that the functions are total.
-- Assumes nothing.
use Rattle.std.specs.Prelude.{ℕ, ◌+◌, ◌-◌, ◌%◌, slice_index, slice_index_or, slice_set}
use Rattle.laws.specs.Row.{shifted}
use Rattle.values.specs.Values.{void_v}
use Rattle.values.specs.declared.Value.{Value}
use Rattle.state.specs.Parts.{Requests, Values, no_client}
use Rattle.state.specs.declared.Client.{Client}
use Rattle.state.specs.declared.Queue.{Queue}
use Rattle.state.specs.declared.Stack.{Stack}

-- a count of one more
abbrev pub up_one : ℕ → ℕ
up_one n = (n + 1) % 256

-- ---- a queue of anything

-- one more, at the end ("The eighteen steps", 10 and 11)
unfoldable pub pushed : {A : Type 0} → Queue A → A → Queue A
pushed q x = record { queued = up_one q.queued; at = slice_set q.at q.queued x }

-- the oldest ("The eighteen steps", 9 and 15)
unfoldable pub oldest : {A : Type 0} → A → Queue A → A
oldest b q = slice_index_or q.at 0 b

-- the oldest taken, each other one place down ("The eighteen steps", 9 and 15)
unfoldable pub without_oldest : {A : Type 0} → A → Queue A → Queue A
without_oldest b q = record { queued = q.queued - 1; at = shifted b q.at }

-- ---- requests

-- one request more, at the end ("The eighteen steps", Call)
abbrev pub push_request : Requests → Client → Requests
push_request q c = pushed q c

-- the oldest request ("The eighteen steps", Spawn)
abbrev pub first_request : Requests → Client
first_request q = oldest no_client q

-- the oldest request taken, each other one place down ("The eighteen steps", Spawn)
abbrev pub rest_requests : Requests → Requests
rest_requests q = without_oldest no_client q

-- ---- values

-- one value more, at the end ("The eighteen steps", 10)
abbrev pub push_value : Values → Value → Values
push_value q v = pushed q v

-- the oldest value ("The eighteen steps", 9)
abbrev pub first_value : Values → Value
first_value q = oldest void_v q

-- the oldest value taken, each other one place down ("The eighteen steps", 9)
abbrev pub rest_values : Values → Values
rest_values q = without_oldest void_v q

-- ---- areas

-- one area more, on top ("The eighteen steps", 3)
unfoldable pub push_area : Stack → ℕ → Stack
push_area s a = record { held = up_one s.held; at = slice_set s.at s.held a }

-- the area on top ("The eighteen steps", 4)
unfoldable pub top_area : Stack → ℕ
top_area s = slice_index s.at (s.held - 1)

-- the area on top taken off ("The eighteen steps", 4)
unfoldable pub pop_area : Stack → Stack
pop_area s = record { held = s.held - 1; at = slice_set s.at (s.held - 1) 0 }
