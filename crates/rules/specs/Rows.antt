-- The table of steps: a row for each code, with what it uses ("The eighteen steps", the table). A code without a row is no step's.
-- Assumes nothing.
use Rattle.std.specs.Prelude.{ℕ, List, [], ◌∷◌, get_or}
use Rattle.numbers.specs.Tags.{runnable_tag, variable_tag, area_tag, required_tag, provided_tag, operation_tag, timer_tag}
use Rattle.rules.specs.declared.Row.{Row}

-- ---- who takes a step

-- nobody ("Numbers of refusal", 2)
abbrev pub nobody : ℕ
nobody = 0

-- the instance in a slot ("The eighteen steps", above the table)
abbrev pub a_slot : ℕ
a_slot = 1

-- the scheduler ("The eighteen steps", above the table)
abbrev pub scheduler : ℕ
scheduler = 2

-- ---- what it names: the tag of the kind of part, or none

-- no part ("The eighteen steps", the column of what)
abbrev pub no_part : ℕ
no_part = 0

-- ---- which queueing an element is to have

-- any, as no element is named ("The eighteen steps", the column of what)
abbrev pub anyhow : ℕ
anyhow = 0

-- an unqueued element ("The eighteen steps", 5 to 8)
abbrev pub unqueued : ℕ
unqueued = 1

-- a queued element ("The eighteen steps", 9 and 10; W-210)
abbrev pub queued : ℕ
queued = 2

-- an unqueued element that the instance's runnable lists (W-211)
abbrev pub copied : ℕ
copied = 3

-- ---- its argument

-- none: Void ("The eighteen steps", the column of arguments)
abbrev pub nothing : ℕ
nothing = 0

-- a payload and nothing else (ours) ("The eighteen steps", the column of arguments)
abbrev pub a_payload : ℕ
a_payload = 1

-- a Number ("The eighteen steps", the column of arguments)
abbrev pub a_number : ℕ
a_number = 2

-- a Number of milliseconds to wait at most (W-210)
abbrev pub a_time : ℕ
a_time = 3

-- ---- the table

-- a row of the table
abbrev pub row : ℕ → ℕ → ℕ → ℕ → Row
row who part queueing argument = record { who = who; part = part; queueing = queueing; argument = argument }

-- the row of a code that is no step's ("Numbers of refusal", 2)
abbrev pub no_row : Row
no_row = row nobody no_part anyhow nothing

-- the rows of codes from 0 on: 1 to 14 are steps of a slot, 15 to 18 of the scheduler, 19 to 23 of a slot again ("The eighteen steps", the table; W-205, W-210, W-211)
unfoldable pub rows : List Row
rows =
    no_row
    ∷ row a_slot variable_tag anyhow nothing  -- 1 read variable
    ∷ row a_slot variable_tag anyhow a_payload  -- 2 write variable
    ∷ row a_slot area_tag anyhow nothing  -- 3 enter
    ∷ row a_slot area_tag anyhow nothing  -- 4 exit
    ∷ row a_slot required_tag unqueued nothing  -- 5 read
    ∷ row a_slot provided_tag unqueued a_payload  -- 6 write
    ∷ row a_slot required_tag unqueued nothing  -- 7 updated
    ∷ row a_slot provided_tag unqueued nothing  -- 8 invalidate
    ∷ row a_slot required_tag queued nothing  -- 9 receive
    ∷ row a_slot provided_tag queued a_payload  -- 10 send
    ∷ row a_slot operation_tag anyhow a_payload  -- 11 call
    ∷ row a_slot operation_tag anyhow nothing  -- 12 result
    ∷ row a_slot no_part anyhow a_payload  -- 13 hand back
    ∷ row a_slot no_part anyhow nothing  -- 14 end
    ∷ row scheduler runnable_tag anyhow nothing  -- 15 spawn
    ∷ row scheduler operation_tag anyhow nothing  -- 16 timeout
    ∷ row scheduler timer_tag anyhow nothing  -- 17 tick
    ∷ row scheduler no_part anyhow a_number  -- 18 wait
    ∷ row a_slot no_part anyhow nothing  -- 19 fail
    ∷ row a_slot required_tag queued a_time  -- 20 hold
    ∷ row a_slot no_part anyhow nothing  -- 21 give up
    ∷ row a_slot required_tag copied nothing  -- 22 read copy
    ∷ row a_slot provided_tag copied a_payload  -- 23 write copy
    ∷ []

-- the row of a code ("The eighteen steps", the table)
unfoldable pub row_of : ℕ → Row
row_of code = get_or rows code no_row
