-- The kinds of value, payloads and bad values ("The parts, and how many"; "The files", last sentence; W-201; W-205).
-- Assumes nothing.
use Rattle.std.specs.Prelude.{ℕ, Bool, ltb, leb, eqb}
use Rattle.laws.specs.Choice.{pick, both, either}
use Rattle.values.specs.declared.Value.{Value}
use Rattle.values.specs.declared.Answer.{Answer}
use Rattle.values.specs.declared.Answer.TheVariants.{Taken, Refused}

-- the value Void, kind 0 ("The parts, and how many")
abbrev pub void_v : Value
void_v = record { kind = 0; number = 0 }

-- a Number, kind 1, with its number beside it ("The parts, and how many")
abbrev pub number_v : ℕ → Value
number_v n = record { kind = 1; number = n }

-- the value Ok, kind 2 ("The parts, and how many")
abbrev pub ok_v : Value
ok_v = record { kind = 2; number = 0 }

-- the value Limit, kind 3 ("The parts, and how many")
abbrev pub limit_v : Value
limit_v = record { kind = 3; number = 0 }

-- the value NoData, kind 4 ("The parts, and how many")
abbrev pub no_data_v : Value
no_data_v = record { kind = 4; number = 0 }

-- the value Timeout, kind 5 ("The parts, and how many")
abbrev pub timeout_v : Value
timeout_v = record { kind = 5; number = 0 }

-- the value NeverReceived, kind 6 ("The parts, and how many")
abbrev pub never_received_v : Value
never_received_v = record { kind = 6; number = 0 }

-- the value Invalid, kind 7 ("The parts, and how many")
abbrev pub invalid_v : Value
invalid_v = record { kind = 7; number = 0 }

-- the value Full, kind 8, with a mask beside it, whose bit k stands for the required element k (W-201)
abbrev pub full_v : ℕ → Value
full_v m = record { kind = 8; number = m }

-- the value ServerErr, kind 9 (W-205)
abbrev pub server_err_v : Value
server_err_v = record { kind = 9; number = 0 }

-- Void, with nothing beside it ("The parts, and how many")
unfoldable pub is_void : Value → Bool
is_void v = both (eqb v.kind 0) (eqb v.number 0)

-- a Number, whatever it is ("The parts, and how many")
abbrev pub is_number : Value → Bool
is_number v = eqb v.kind 1

-- a Full, whatever its mask is (W-201)
abbrev pub says_full : Value → Bool
says_full v = eqb v.kind 8

-- the largest mask: the bits of sixteen required elements (W-201)
abbrev pub last_mask : ℕ
last_mask = 65535

-- a payload is Void or a Number (ours: instances hand over nothing else) ("The parts, and how many")
unfoldable pub is_payload : Value → Bool
is_payload v = either (is_number v) (is_void v)

-- a kind of value, 0 to 9 ("The parts, and how many"; W-201; W-205)
unfoldable pub is_kind : ℕ → Bool
is_kind k = leb k server_err_v.kind

-- a mask that a Full may have: some queue was full, and none but the sixteen are named (W-201)
unfoldable pub is_mask : ℕ → Bool
is_mask m = both (ltb 0 m) (leb m last_mask)

-- a value is good if its kind is among these and it has a number only as a Number, or as a Full, whose number is a mask; any other is a bad value ("The files", last sentence; W-201)
unfoldable pub is_good : Value → Bool
is_good v = either (is_number v) (pick (says_full v) (is_mask v.number) (both (is_kind v.kind) (eqb v.number 0)))

-- two values are the same if kind and number are ("Numbers of refusal", 17)
unfoldable pub same_value : Value → Value → Bool
same_value v w = both (eqb v.kind w.kind) (eqb v.number w.number)

-- the number of refusal that an answer stands for; 0 for a step that was taken ("Numbers of refusal")
abbrev pub answer_refusal : Answer → ℕ
answer_refusal (Taken v) = 0
answer_refusal (Refused n) = n

-- the value that an answer gives; Void beside a refusal ("The eighteen steps")
abbrev pub answer_value : Answer → Value
answer_value (Taken v) = v
answer_value (Refused n) = void_v
