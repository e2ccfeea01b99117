-- Numbers of refusal, by name ("Numbers of refusal"; document 02 for 28, 30 and 31). The names say what is wrong; the rules say exactly when. 9 has no name: W-206 has retired it.
-- Assumes nothing.
use Rattle.std.specs.Prelude.{ℕ}

-- configuration or state is not sound ("Numbers of refusal", 1)
abbrev pub not_sound : ℕ
not_sound = 1

-- no such code, an unused entry is filled, or the argument is of another kind ("Numbers of refusal", 2)
abbrev pub malformed : ℕ
malformed = 2

-- the slot is empty or beyond the last, or there is no such part ("Numbers of refusal", 3)
abbrev pub not_there : ℕ
not_there = 3

-- another component's part, or an element of the other queueing ("Numbers of refusal", 4)
abbrev pub not_own : ℕ
not_own = 4

-- an instance may not do this as it lives: it waits, is finished, has failed, or asks without waiting ("Numbers of refusal", 5; W-205)
abbrev pub barred : ℕ
barred = 5

-- enter: the area is taken ("Numbers of refusal", 6)
abbrev pub area_taken : ℕ
area_taken = 6

-- exit: the area is not on top ("Numbers of refusal", 7)
abbrev pub not_on_top : ℕ
not_on_top = 7

-- call: the request queue is full ("Numbers of refusal", 8)
abbrev pub queue_full : ℕ
queue_full = 8

-- what an instance waits for has not come: its call is still open, or its queue is empty ("Numbers of refusal", 10; W-210)
abbrev pub still_waits : ℕ
still_waits = 10

-- spawn: one of its three needs is not met ("Numbers of refusal", 11)
abbrev pub not_due : ℕ
not_due = 11

-- spawn: every slot is in use ("Numbers of refusal", 12)
abbrev pub no_slot_free : ℕ
no_slot_free = 12

-- wait: a running count is smaller ("Numbers of refusal", 13)
abbrev pub too_far : ℕ
too_far = 13

-- timeout, tick or giving up: not open, or not yet at 0 ("Numbers of refusal", 14; W-210)
abbrev pub not_over : ℕ
not_over = 14

-- end: areas are still held ("Numbers of refusal", 15)
abbrev pub areas_held : ℕ
areas_held = 15

-- hand back without a client, or end with one ("Numbers of refusal", 16)
abbrev pub wrong_client : ℕ
wrong_client = 16

-- the step could be taken, with another answer than the one claimed ("Numbers of refusal", 17)
abbrev pub other_answer : ℕ
other_answer = 17

-- a field of a recording: its frame, or a bad value ("Numbers of refusal", 18)
abbrev pub bad_field : ℕ
bad_field = 18

-- a field of a configuration: cut, unknown, of another length, missing, or behind the end ("Numbers of refusal", 21)
abbrev pub bad_frame : ℕ
bad_frame = 21

-- a tag below the one before it, or the edition not first and once ("Numbers of refusal", 22)
abbrev pub bad_order : ℕ
bad_order = 22

-- more parts than a kind may have ("Numbers of refusal", 23)
abbrev pub too_many : ℕ
too_many = 23

-- a number out of range ("Numbers of refusal", 24)
abbrev pub out_of_range : ℕ
out_of_range = 24

-- a part is named that isn't there ("Numbers of refusal", 25)
abbrev pub names_nothing : ℕ
names_nothing = 25

-- a bad pairing ("Numbers of refusal", 26)
abbrev pub bad_pair : ℕ
bad_pair = 26

-- the lent buffer is shorter than the text ("Numbers of refusal", 27)
abbrev pub no_room : ℕ
no_room = 27

-- call: a client of the operation still bears its number (W-206)
abbrev pub number_borne : ℕ
number_borne = 28

-- the edition of the configuration has no such step (W-208)
abbrev pub step_gone : ℕ
step_gone = 30

-- no lost steps fill the gap (W-209)
abbrev pub no_fill : ℕ
no_fill = 31
