-- Tags of fields and the lengths of their bodies, by name ("The files", the table and recording).
-- Assumes nothing.
use Rattle.std.specs.Prelude.{ℕ}

-- the tag of an edition ("The files", tag 01)
abbrev pub edition_tag : ℕ
edition_tag = 0x01

-- how long its body is ("The files", tag 01)
abbrev pub edition_length : ℕ
edition_length = 1

-- the tag of a runnable ("The files", tag 10)
abbrev pub runnable_tag : ℕ
runnable_tag = 0x10

-- how long its body is ("The files", tag 10)
abbrev pub runnable_length : ℕ
runnable_length = 7

-- the tag of a variable ("The files", tag 11)
abbrev pub variable_tag : ℕ
variable_tag = 0x11

-- how long its body is ("The files", tag 11)
abbrev pub variable_length : ℕ
variable_length = 6

-- the tag of an area ("The files", tag 12)
abbrev pub area_tag : ℕ
area_tag = 0x12

-- how long its body is ("The files", tag 12)
abbrev pub area_length : ℕ
area_length = 1

-- the tag of a required element ("The files", tag 13)
abbrev pub required_tag : ℕ
required_tag = 0x13

-- how long its body is ("The files", tag 13)
abbrev pub required_length : ℕ
required_length = 2

-- the tag of a provided element ("The files", tag 14)
abbrev pub provided_tag : ℕ
provided_tag = 0x14

-- how long its body is ("The files", tag 14)
abbrev pub provided_length : ℕ
provided_length = 2

-- the tag of a link ("The files", tag 15)
abbrev pub link_tag : ℕ
link_tag = 0x15

-- how long its body is ("The files", tag 15)
abbrev pub link_length : ℕ
link_length = 2

-- the tag of an operation ("The files", tag 16)
abbrev pub operation_tag : ℕ
operation_tag = 0x16

-- how long its body is ("The files", tag 16)
abbrev pub operation_length : ℕ
operation_length = 7

-- the tag of a timer ("The files", tag 17)
abbrev pub timer_tag : ℕ
timer_tag = 0x17

-- how long its body is ("The files", tag 17)
abbrev pub timer_length : ℕ
timer_length = 5

-- the tag of a data event ("The files", tag 18)
abbrev pub data_event_tag : ℕ
data_event_tag = 0x18

-- how long its body is ("The files", tag 18)
abbrev pub data_event_length : ℕ
data_event_length = 2

-- the tag of a return event ("The files", tag 19)
abbrev pub return_event_tag : ℕ
return_event_tag = 0x19

-- how long its body is ("The files", tag 19)
abbrev pub return_event_length : ℕ
return_event_length = 2

-- the tag of an element that a runnable lists to be copied at spawn (W-211)
abbrev pub incoming_tag : ℕ
incoming_tag = 0x1a

-- the tag of an element that a runnable lists to be written at end (W-211)
abbrev pub outgoing_tag : ℕ
outgoing_tag = 0x1b

-- how long the body of either is (W-211)
abbrev pub listed_length : ℕ
listed_length = 2

-- the tag of a step ("The files", tag 40)
abbrev pub step_tag : ℕ
step_tag = 0x40

-- how long its body is ("The files", tag 40)
abbrev pub step_length : ℕ
step_length = 13

-- the tag of an end ("The files", tag 7F)
abbrev pub end_tag : ℕ
end_tag = 0x7f

-- how long its body is ("The files", tag 7F)
abbrev pub end_length : ℕ
end_length = 0

-- the bytes of a field before its body: tag and length ("The files")
abbrev pub field_head : ℕ
field_head = 3

-- the length of an element's, a link's, an event's or a listed element's body ("The files", tags 13, 14, 15, 18, 19; W-211)
abbrev pub pair_length : ℕ
pair_length = 2

-- more than two bytes can say: no field has this length ("The files")
abbrev pub no_length : ℕ
no_length = 65536

-- how many kinds of parts there are, with the tags from 10 on ("The files", the table; W-211)
abbrev pub part_kinds : ℕ
part_kinds = 12

-- the tag of the last kind of parts ("The files", the table; W-211)
abbrev pub last_tag : ℕ
last_tag = 0x1b

-- how long a step's field is, in all ("The files", recording)
abbrev pub step_size : ℕ
step_size = 16

-- how long the end field is, in all ("The files", tag 7F)
abbrev pub end_size : ℕ
end_size = 3
