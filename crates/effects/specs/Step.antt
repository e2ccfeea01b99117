-- One step: by its code, before and with its claim, and after the test of soundness ("The eighteen steps"; "Numbers of refusal").
-- Assumes nothing.
use Rattle.std.specs.Prelude.{ℕ, Bool, eqb}
use Rattle.numbers.specs.Refusals.{not_sound, other_answer}
use Rattle.numbers.specs.Codes.{read_variable_code, write_variable_code, enter_code, exit_code, read_code, write_code, updated_code, invalidate_code, receive_code, send_code, call_code, result_code, hand_back_code, end_code, spawn_code, timeout_code, tick_code, wait_code, fail_code, hold_code, give_up_code, read_copy_code}
use Rattle.laws.specs.Choice.{pick, both, either}
use Rattle.values.specs.Values.{limit_v, says_full, same_value}
use Rattle.faces.specs.Types.{Value, Step, Answer, Taken, Refused, Config, State, Stepped}
use Rattle.rules.specs.Sound.{sound_of}
use Rattle.rules.specs.Refusals.{refusal_of}
use Rattle.effects.specs.Steps.{refused, read_variable_of, write_variable_of, enter_of, exit_of, read_of, write_of, updated_of, invalidate_of, receive_of, send_of, call_of, result_of, hand_back_of, end_of, spawn_of, timeout_of, tick_of, wait_of, fail_of, hold_of, give_up_of, read_copy_of, write_copy_of}

-- what a step does by its code: i is the slot, k the part, v the argument ("The eighteen steps", the table; W-205, W-210, W-211)
unfoldable pub act_of : Config → State → ℕ → ℕ → ℕ → Value → Stepped
act_of cfg st code i k v =
    pick (eqb code read_variable_code) (read_variable_of st k)
    (pick (eqb code write_variable_code) (write_variable_of st k v)
    (pick (eqb code enter_code) (enter_of st i k)
    (pick (eqb code exit_code) (exit_of st i k)
    (pick (eqb code read_code) (read_of st k)
    (pick (eqb code write_code) (write_of cfg st k v)
    (pick (eqb code updated_code) (updated_of st k)
    (pick (eqb code invalidate_code) (invalidate_of cfg st k)
    (pick (eqb code receive_code) (receive_of st i k)
    (pick (eqb code send_code) (send_of cfg st k v)
    (pick (eqb code call_code) (call_of cfg st i k v)
    (pick (eqb code result_code) (result_of cfg st i k)
    (pick (eqb code hand_back_code) (hand_back_of cfg st i v)
    (pick (eqb code end_code) (end_of cfg st i)
    (pick (eqb code spawn_code) (spawn_of cfg st k)
    (pick (eqb code timeout_code) (timeout_of cfg st k)
    (pick (eqb code tick_code) (tick_of cfg st k)
    (pick (eqb code wait_code) (wait_of cfg st v.number)
    (pick (eqb code fail_code) (fail_of st i)
    (pick (eqb code hold_code) (hold_of st i k v.number)
    (pick (eqb code give_up_code) (give_up_of st i)
    (pick (eqb code read_copy_code) (read_copy_of cfg st i k)
    (write_copy_of cfg st i k v))))))))))))))))))))))

-- the step before its claim is looked at: refusals 2 to 5 first, then what it does ("Numbers of refusal", 2 to 16)
unfoldable pub possible_of : Config → State → Step → Stepped
possible_of cfg st s =
    pick (eqb (refusal_of cfg st.slots s) 0)
    (act_of cfg st s.code s.who s.what s.argument)
    (refused (refusal_of cfg st.slots s) st)

-- by cases on an answer
abbrev pub on_answer : {A : Type 0} → Answer → (Value → A) → (ℕ → A) → A
on_answer (Taken v) taken refusal = taken v
on_answer (Refused n) taken refusal = refusal n

-- a send that answers Full, and claims Limit as units do that name no queue (W-201)
abbrev pub is_older : ℕ → Value → Value → Bool
is_older code v claim = both (eqb code send_code) (both (says_full v) (same_value claim limit_v))

-- what a step of this code answers agrees with what it claims: it is the same, or a Full claimed as Limit by a send ("Numbers of refusal", 17; W-201)
unfoldable pub agrees : ℕ → Value → Value → Bool
agrees code v claim = either (is_older code v claim) (same_value v claim)

-- 17: a step that could be taken, and whose answer does not agree with what it claims ("Numbers of refusal", 17)
unfoldable pub claimed_of : Step → State → Stepped → Stepped
claimed_of s st r = on_answer r.answer (λ v. pick (agrees s.code v s.claim) r (refused other_answer st)) (λ n. r)

-- the step without the test of soundness, for a state that is known to be sound ("Numbers of refusal", 2 to 17)
unfoldable pub inner_of : Config → State → Step → Stepped
inner_of cfg st s = claimed_of s st (possible_of cfg st s)

-- 1: for an unsound configuration or state; else the step ("Numbers of refusal", 1)
unfoldable pub step_of : Config → State → Step → Stepped
step_of cfg st s = pick (sound_of cfg st) (inner_of cfg st s) (refused not_sound st)
