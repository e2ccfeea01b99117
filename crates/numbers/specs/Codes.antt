-- Codes of steps, by name ("The eighteen steps", the table; and the steps that requests have added).
-- Assumes nothing.
use Rattle.std.specs.Prelude.{ℕ}

-- read variable ("The eighteen steps", 1)
abbrev pub read_variable_code : ℕ
read_variable_code = 1

-- write variable ("The eighteen steps", 2)
abbrev pub write_variable_code : ℕ
write_variable_code = 2

-- enter ("The eighteen steps", 3)
abbrev pub enter_code : ℕ
enter_code = 3

-- exit ("The eighteen steps", 4)
abbrev pub exit_code : ℕ
exit_code = 4

-- read ("The eighteen steps", 5)
abbrev pub read_code : ℕ
read_code = 5

-- write ("The eighteen steps", 6)
abbrev pub write_code : ℕ
write_code = 6

-- updated ("The eighteen steps", 7)
abbrev pub updated_code : ℕ
updated_code = 7

-- invalidate ("The eighteen steps", 8)
abbrev pub invalidate_code : ℕ
invalidate_code = 8

-- receive ("The eighteen steps", 9)
abbrev pub receive_code : ℕ
receive_code = 9

-- send ("The eighteen steps", 10)
abbrev pub send_code : ℕ
send_code = 10

-- call ("The eighteen steps", 11)
abbrev pub call_code : ℕ
call_code = 11

-- result ("The eighteen steps", 12)
abbrev pub result_code : ℕ
result_code = 12

-- hand back ("The eighteen steps", 13)
abbrev pub hand_back_code : ℕ
hand_back_code = 13

-- end ("The eighteen steps", 14)
abbrev pub end_code : ℕ
end_code = 14

-- spawn ("The eighteen steps", 15)
abbrev pub spawn_code : ℕ
spawn_code = 15

-- timeout ("The eighteen steps", 16)
abbrev pub timeout_code : ℕ
timeout_code = 16

-- tick ("The eighteen steps", 17)
abbrev pub tick_code : ℕ
tick_code = 17

-- wait ("The eighteen steps", 18)
abbrev pub wait_code : ℕ
wait_code = 18

-- fail (W-205)
abbrev pub fail_code : ℕ
fail_code = 19

-- hold: wait for data (W-210)
abbrev pub hold_code : ℕ
hold_code = 20

-- give up waiting for data (W-210)
abbrev pub give_up_code : ℕ
give_up_code = 21

-- read copy: what an instance's own copy of an element holds (W-211)
abbrev pub read_copy_code : ℕ
read_copy_code = 22

-- write copy: set an instance's own copy of an element (W-211)
abbrev pub write_copy_code : ℕ
write_copy_code = 23
