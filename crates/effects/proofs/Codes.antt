-- The codes of the table by name, and what a step of each does. A code that somebody takes is one of them (`by_code`), so a step that refusals 2 to 5 let through has
-- one (`coded`), and does what its name says (`possible-by`). A step that they do not is refused with their number (`possible-barred`), so one that is taken was let through (`possible-let`).
-- Assumes nothing.
use Prim.Native.Nat.{ℕ, zero, suc}
use mathlib.Core.List.{List, [], ◌∷◌}
use mathlib.Core.Path.{◌≡◌, refl}
use native.Mathlib.Decide.{ℕ_discrete}
use native.Mathlib.Omega.{arith}
use lib.ListN.{get_or}
use borrow.Author.Tests.{ne_eqb}
use Rattle.numbers.specs.Codes.{read_variable_code, write_variable_code, enter_code, exit_code, read_code, write_code, updated_code, invalidate_code, receive_code, send_code, call_code, result_code, hand_back_code, end_code, spawn_code, timeout_code, tick_code, wait_code, fail_code, hold_code, give_up_code, read_copy_code, write_copy_code}
use Rattle.faces.specs.Types.{Value, Step, Taken, Refused, Config, Slots, State, Stepped}
use Rattle.rules.specs.declared.Row.{Row}
use Rattle.rules.specs.Rows.{nobody, no_row, rows, row_of}
use Rattle.rules.specs.Refusals.{refusal_by, refusal_of}
use Rattle.effects.specs.Steps.{refused, read_variable_of, write_variable_of, enter_of, exit_of, read_of, write_of, updated_of, invalidate_of, receive_of, send_of, call_of, result_of, hand_back_of, end_of, spawn_of, timeout_of, tick_of, wait_of, fail_of, hold_of, give_up_of, read_copy_of, write_copy_of}
use Rattle.effects.specs.Step.{act_of, possible_of}

-- a refusal is no answer
pub never : {n : ℕ} {v : Value} → Refused n ≡ Taken v → ⊥
never h = let z : ◌≡◌ {A = ℕ} 0 1 = cc in omega arith

-- ---- the codes

-- a code of the table
pub data Code : ℕ → Type 0 where
  read_variable : Code read_variable_code
  write_variable : Code write_variable_code
  enter : Code enter_code
  exit : Code exit_code
  read : Code read_code
  write : Code write_code
  updated : Code updated_code
  invalidate : Code invalidate_code
  receive : Code receive_code
  send : Code send_code
  call : Code call_code
  result : Code result_code
  hand_back : Code hand_back_code
  end : Code end_code
  spawn : Code spawn_code
  timeout : Code timeout_code
  tick : Code tick_code
  wait : Code wait_code
  fail : Code fail_code
  hold : Code hold_code
  give_up : Code give_up_code
  read_copy : Code read_copy_code
  write_copy : Code write_copy_code

-- what holds of each code of a table that somebody takes, from its first row on
infixr 5 ◌⨾◌
data EachTaken : (ℕ → Type 0) → List Row → Type 1 where
  done : {P : ℕ → Type 0} → EachTaken P []
  skip : {P : ℕ → Type 0} {r : Row} {rs : List Row} → r.who ≡ nobody → EachTaken (λ n. P (suc n)) rs → EachTaken P (r ∷ rs)
  ◌⨾◌ : {P : ℕ → Type 0} {r : Row} {rs : List Row} → P zero → EachTaken (λ n. P (suc n)) rs → EachTaken P (r ∷ rs)

each-taken : {P : ℕ → Type 0} {l : List Row} → EachTaken P l → (n : ℕ) → ((get_or l n no_row).who ≡ nobody → ⊥) → P n
each-taken done n h = absurd (h refl)
each-taken (skip e t) zero h = absurd (h e)
each-taken (skip e t) (suc n) h = each-taken t n h
each-taken (p ⨾ t) zero h = p
each-taken (p ⨾ t) (suc n) h = each-taken t n h

-- a code that somebody takes is one of the table
pub by_code : (n : ℕ) → ((row_of n).who ≡ nobody → ⊥) → Code n
unfolding row_of rows
by_code n h = each-taken table n h
  where
    table : EachTaken Code rows
    table = skip refl (read_variable ⨾ write_variable ⨾ enter ⨾ exit ⨾ read ⨾ write ⨾ updated ⨾ invalidate ⨾ receive ⨾ send ⨾ call ⨾ result ⨾ hand_back ⨾ end ⨾ spawn ⨾ timeout ⨾ tick ⨾ wait ⨾ fail ⨾ hold ⨾ give_up ⨾ read_copy ⨾ write_copy ⨾ done)

-- a step that refusals 2 to 5 let through has one
pub coded : (cfg : Config) (ss : Slots) (s : Step) → refusal_of cfg ss s ≡ 0 → Code s.code
unfolding refusal_of refusal_by
coded cfg ss s h = by_code s.code (λ e. omega (arith, rw e at h))

-- ---- what a step of each does

-- the definition of its step, by its name
abbrev pub act_by : {n : ℕ} → Code n → Config → State → ℕ → ℕ → Value → Stepped
act_by read_variable cfg st i k v = read_variable_of st k
act_by write_variable cfg st i k v = write_variable_of st k v
act_by enter cfg st i k v = enter_of st i k
act_by exit cfg st i k v = exit_of st i k
act_by read cfg st i k v = read_of st k
act_by write cfg st i k v = write_of cfg st k v
act_by updated cfg st i k v = updated_of st k
act_by invalidate cfg st i k v = invalidate_of cfg st k
act_by receive cfg st i k v = receive_of st i k
act_by send cfg st i k v = send_of cfg st k v
act_by call cfg st i k v = call_of cfg st i k v
act_by result cfg st i k v = result_of cfg st i k
act_by hand_back cfg st i k v = hand_back_of cfg st i v
act_by end cfg st i k v = end_of cfg st i
act_by spawn cfg st i k v = spawn_of cfg st k
act_by timeout cfg st i k v = timeout_of cfg st k
act_by tick cfg st i k v = tick_of cfg st k
act_by wait cfg st i k v = wait_of cfg st v.number
act_by fail cfg st i k v = fail_of st i
act_by hold cfg st i k v = hold_of st i k v.number
act_by give_up cfg st i k v = give_up_of st i
act_by read_copy cfg st i k v = read_copy_of cfg st i k
act_by write_copy cfg st i k v = write_copy_of cfg st i k v

-- it is what the match over codes does
act-by : {n : ℕ} (c : Code n) (cfg : Config) (st : State) (i k : ℕ) (v : Value) → act_of cfg st n i k v ≡ act_by c cfg st i k v
unfolding act_of
act-by read_variable cfg st i k v = refl
act-by write_variable cfg st i k v = refl
act-by enter cfg st i k v = refl
act-by exit cfg st i k v = refl
act-by read cfg st i k v = refl
act-by write cfg st i k v = refl
act-by updated cfg st i k v = refl
act-by invalidate cfg st i k v = refl
act-by receive cfg st i k v = refl
act-by send cfg st i k v = refl
act-by call cfg st i k v = refl
act-by result cfg st i k v = refl
act-by hand_back cfg st i k v = refl
act-by end cfg st i k v = refl
act-by spawn cfg st i k v = refl
act-by timeout cfg st i k v = refl
act-by tick cfg st i k v = refl
act-by wait cfg st i k v = refl
act-by fail cfg st i k v = refl
act-by hold cfg st i k v = refl
act-by give_up cfg st i k v = refl
act-by read_copy cfg st i k v = refl
act-by write_copy cfg st i k v = refl

module _ (cfg : Config) (st : State) (s : Step) where
  -- a step that they let through does what its code says
  pub possible-by : {n : ℕ} (c : Code n) → s.code ≡ n → refusal_of cfg st.slots s ≡ 0 → possible_of cfg st s ≡ act_by c cfg st s.who s.what s.argument
  unfolding possible_of
  possible-by {n} c e h = rw (h, e) (act-by c cfg st s.who s.what s.argument)

  -- one that they do not is refused with their number
  pub possible-barred : (refusal_of cfg st.slots s ≡ 0 → ⊥) → possible_of cfg st s ≡ refused (refusal_of cfg st.slots s) st
  unfolding possible_of
  possible-barred n = rw (ne_eqb (refusal_of cfg st.slots s) 0 n)

  -- so a step that is taken was let through
  pub possible-let : {v : Value} → (possible_of cfg st s).answer ≡ Taken v → refusal_of cfg st.slots s ≡ 0
  possible-let {v} h = go (ℕ_discrete (refusal_of cfg st.slots s) 0)
    where
      go : Dec (refusal_of cfg st.slots s ≡ 0) → refusal_of cfg st.slots s ≡ 0
      go (yes e) = e
      go (no n) = absurd (never (rw (possible-barred n) at h))
