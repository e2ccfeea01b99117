-- Steps that no machine accepts which keeps the promises: those that ten wrong machines of docs/machines.md accept, each with the promises that fail of them, whatever state they reach. The instance in the slot 0
-- is of the runnable 0, which is plain; it calls the operation 0, which is asynchronous, and enters the area 0.
-- The instance in the slot 1 is of the runnable 1, the server of that operation; it was spawned for the call.
-- Assumes nothing.
use Prim.Native.Nat.{ℕ, ◌<◌}
use mathlib.Core.Bool.{true, false, Bool}
use mathlib.Core.List.{[], ◌∷◌}
use mathlib.Core.Path.{◌≡◌, refl, ap, sym, ◌∙◌}
use native.Mathlib.Omega.{arith}
use lib.Dec.{eqb}
use Rattle.history.proofs.Beside.{all_alike}
use Rattle.state.specs.Start.{start_element, start_of, started}
use Rattle.state.specs.Parts.{no_element, no_values}
use Rattle.laws.proofs.Places.{each-has}
use Rattle.laws.specs.Choice.{pick}
use Rattle.numbers.specs.Codes.{write_variable_code, enter_code, call_code, result_code, hand_back_code, end_code, spawn_code, timeout_code, tick_code, wait_code, fail_code, read_copy_code}
use Rattle.laws.proofs.Choosing.{clash}
use Rattle.faces.specs.Types.{Value, Step, Config, State, RequiredConf, Element}
use Rattle.values.specs.Values.{void_v, number_v, ok_v, limit_v, timeout_v, same_value, never_received_v}
use Rattle.config.specs.Tables.{operation_conf_in, required_conf_in}
use Rattle.entries.specs.Faults.{is_server}
use Rattle.state.specs.Tables.{operation_in, element_in, no_elements}
use Rattle.rules.specs.Rows.{rows, row_of}
use Rattle.rules.specs.Refusals.{asks_synchronous}
use Rattle.history.specs.History.{nothing, observe, history_from, history_of, ends_of, last_on, is_unended, ended_call, Started, time_of, time_in, traced_from, lives_after, lives_in, binds, bound_after, bound_in, awaits_after, awaits_in, holder_after, holder_of}
use Rattle.state.specs.Places.{no_places, place_in}
use Rattle.history.specs.Promises.{SpawnsEmpty, FailedStops, HolderStays, CallsOneByOne, WaiterWaits, EndsOnce, OpenInTime, ResultIsDelivered, ResultIsOwn, DoneIsDelivered, UnendedIsLatest, Accepted, ReadsAlike, ReadsItsSpawn}

-- a step on the part 0, by the instance in the slot 0 or by the scheduler
abbrev step : ℕ → Value → Value → Step
step n v w = record { code = n; who = 0; what = 0; argument = v; claim = w }

abbrev spawns : Step
spawns = step spawn_code void_v (number_v 0)

abbrev calls : Step
calls = step call_code void_v ok_v

abbrev waits : ℕ → Step
waits t = step wait_code (number_v t) void_v

abbrev gets : Value → Step
gets v = step result_code void_v v

module _ (cfg : Config) (st : State) (q : is_server cfg 0 ≡ false) where
  -- `call_over_open`: the second call leaves the first without an ending for ever
  pub call-over-open : UnendedIsLatest cfg (spawns ∷ calls ∷ calls ∷ []) → ⊥
  unfolding history_of history_from observe nothing same_value ends_of Started
  call-over-open h = omega (arith, rw q at (h 2 0 (refl, refl, refl) (rw q)))

  pub call-over-open-ages : (t : ℕ) → (operation_conf_in cfg.operations 0).timeout ≡ t → 0 < t → OpenInTime cfg (spawns ∷ calls ∷ waits t ∷ calls ∷ waits t ∷ []) → ⊥
  unfolding history_of history_from observe nothing same_value ends_of Started time_in time_of
  call-over-open-ages t e b h = omega (arith, e, b, h 2 0 (refl, refl, refl) (rw q))

  -- `call_limits_full`: with the queue full, a call on the operation 1 is answered as if one were open there
  pub call-limits-full : CallsOneByOne cfg (spawns ∷ calls ∷ []) (record { code = call_code; who = 0; what = 1; argument = void_v; claim = limit_v }) [] → ⊥
  unfolding history_of history_from observe nothing same_value ends_of is_unended bound_in traced_from bound_after
  call-limits-full h = omega (arith, ap (λ (v : Value). v.kind) (rw q at (h refl)))

  -- `spawn_over_living`: the second instance has the area that the first one entered
  pub spawn-over-living : SpawnsEmpty cfg (spawns ∷ step enter_code void_v void_v ∷ step tick_code void_v void_v ∷ []) spawns [] → ⊥
  unfolding lives_in traced_from lives_after
  spawn-over-living h = omega (arith, (h refl).1)

  pub spawn-over-living-holds : HolderStays cfg (spawns ∷ step enter_code void_v void_v ∷ step tick_code void_v void_v ∷ []) spawns [] → ⊥
  unfolding lives_in lives_after holder_of traced_from holder_after
  spawn-over-living-holds h = omega (arith, (h 0 0 (omega arith) refl).1)

  -- `result_clears`: the second result is Void, where the first was Timeout
  pub result-clears : (t : ℕ) → ResultIsDelivered cfg (spawns ∷ calls ∷ waits t ∷ step timeout_code void_v void_v ∷ gets timeout_v ∷ []) (gets void_v) [] → ⊥
  unfolding history_of history_from observe nothing same_value ends_of last_on is_unended
  result-clears t h = omega (arith, ap (λ (v : Value). v.kind) (rw q at (h refl).0))

  pub result-clears-done : (t : ℕ) → (operation_in st.operations 0).calling ≡ false → (operation_in st.operations 0).done ≡ void_v
      → DoneIsDelivered cfg (spawns ∷ calls ∷ waits t ∷ step timeout_code void_v void_v ∷ gets timeout_v ∷ []) st → ⊥
  unfolding history_of history_from observe nothing same_value last_on
  result-clears-done t c e h = omega (arith, ap (λ (v : Value). v.kind) (rw e at (h 0 (omega arith) c).0))

-- ---- an instance that has failed

-- a step of the instance in the slot 1
abbrev served : ℕ → Value → Value → Step
served n v w = record { code = n; who = 1; what = 0; argument = v; claim = w }

-- the server is spawned into the slot 1
abbrev serves : Step
serves = record { code = spawn_code; who = 0; what = 1; argument = void_v; claim = number_v 1 }

abbrev fails : Step
fails = served fail_code void_v void_v

-- it hands back v, answered 1
abbrev backs : Value → Step
backs v = served hand_back_code v (number_v 1)

module _ (cfg : Config) (q : is_server cfg 0 ≡ false) (y : is_server cfg 1 ≡ true) (e : (operation_conf_in cfg.operations 0).server ≡ 1) where
  -- `late_failure_delivered`: the call has ended by its timeout, and ends again
  pub late-failure-delivered : (t : ℕ) → EndsOnce cfg (spawns ∷ calls ∷ serves ∷ waits t ∷ step timeout_code void_v void_v ∷ fails ∷ backs void_v ∷ []) → ⊥
  unfolding history_of history_from observe nothing same_value ends_of
  late-failure-delivered t h = omega (arith, rw (q, y, e) at (h 2))

  -- `failed_writes`: the instance that has failed writes the variable 0
  pub failed-writes : FailedStops cfg (spawns ∷ calls ∷ serves ∷ fails ∷ []) (served write_variable_code (number_v 7) void_v) [] → ⊥
  unfolding history_of history_from observe nothing same_value row_of rows
  failed-writes h = clash false (h refl (rw (q, y))).0 refl

  -- `failed_number_taken` and `failed_number_delivered`: it hands back a number
  pub failed-number-taken : (n : ℕ) → FailedStops cfg (spawns ∷ calls ∷ serves ∷ fails ∷ []) (backs (number_v n)) [] → ⊥
  unfolding history_of history_from observe nothing same_value row_of rows
  failed-number-taken n h = omega (arith, ap (λ (v : Value). v.kind) ((h refl (rw (q, y))).1 refl))

  -- and the client gets it
  pub failed-number-delivered : (n : ℕ) → ResultIsDelivered cfg (spawns ∷ calls ∷ serves ∷ fails ∷ backs (number_v n) ∷ []) (gets (number_v n)) [] → ⊥
  unfolding history_of history_from observe nothing same_value ends_of last_on is_unended
  failed-number-delivered n h = omega (arith, ap (λ (v : Value). v.kind) (rw (q, y, e) at (h refl).0))

-- ---- a caller that waits: the operation 0 is synchronous here, and the runnable 0 has a second instance, in the slot 1

-- a step of the other instance on the operation 0
abbrev other : ℕ → Value → Value → Step
other n v w = record { code = n; who = 1; what = 0; argument = v; claim = w }

-- it is spawned
abbrev joins : Step
joins = record { code = spawn_code; who = 0; what = 0; argument = void_v; claim = number_v 1 }

module _ (cfg : Config) (q : is_server cfg 0 ≡ false) (f : (operation_conf_in cfg.operations 0).asynchronous ≡ false) where
  -- `limit_while_open`: the first caller's call has timed out, it has not collected, and the second caller's is answered Ok
  pub limit-while-open : (t : ℕ) → CallsOneByOne cfg (spawns ∷ joins ∷ calls ∷ waits t ∷ step timeout_code void_v void_v ∷ []) (other call_code void_v ok_v) [] → ⊥
  unfolding history_of history_from observe nothing same_value ends_of is_unended bound_in traced_from bound_after binds asks_synchronous
  limit-while-open t h = omega (arith, ap (λ (v : Value). v.kind) (rw (q, f) at (h refl)))

  -- and so the first collects what the second's call came to, a timeout here
  pub others-result : (t u : ℕ)
      → ResultIsOwn cfg (spawns ∷ joins ∷ calls ∷ waits t ∷ step timeout_code void_v void_v ∷ other call_code void_v ok_v ∷ waits u ∷ step timeout_code void_v void_v ∷ []) (gets timeout_v) [] → ⊥
  unfolding history_of history_from observe nothing same_value last_on awaits_in traced_from awaits_after binds asks_synchronous
  others-result t u h = let r = h refl f in omega (arith, rw q at (ap ended_call r.1), rw f at r.3.waits)

  -- `caller_runs_on`: who waits for its call writes the variable 0
  pub caller-runs-on : WaiterWaits cfg (spawns ∷ calls ∷ []) (step write_variable_code (number_v 7) void_v) [] → ⊥
  unfolding row_of rows same_value awaits_in traced_from awaits_after binds asks_synchronous
  caller-runs-on h = omega (arith, (h refl (rw f (omega arith))).0)

  -- it ends
  pub waiter-ends : WaiterWaits cfg (spawns ∷ calls ∷ []) (step end_code void_v void_v) [] → ⊥
  unfolding row_of rows same_value awaits_in traced_from awaits_after binds asks_synchronous
  waiter-ends h = omega (arith, (h refl (rw f (omega arith))).0)

  -- it collects again what it has collected
  pub collects-twice : (t : ℕ) → ResultIsOwn cfg (spawns ∷ calls ∷ waits t ∷ step timeout_code void_v void_v ∷ gets timeout_v ∷ []) (gets timeout_v) [] → ⊥
  unfolding history_of history_from observe nothing same_value last_on awaits_in traced_from awaits_after binds asks_synchronous
  collects-twice t h = let r = h refl f in omega (arith, rw q at (ap ended_call r.1), rw f at r.3.waits)

-- `bound_asynchronous`: the operation 0 is asynchronous, its call has ended, and the next is answered Limit all the same
pub bound-asynchronous : (cfg : Config) (t : ℕ) → is_server cfg 0 ≡ false → (operation_conf_in cfg.operations 0).asynchronous ≡ true
    → CallsOneByOne cfg (spawns ∷ calls ∷ waits t ∷ step timeout_code void_v void_v ∷ []) (step call_code void_v limit_v) [] → ⊥
unfolding history_of history_from observe nothing same_value ends_of is_unended bound_in traced_from bound_after binds asks_synchronous
bound-asynchronous cfg t q f h = omega (arith, ap (λ (v : Value). v.kind) (rw (q, f) at (h refl)))

-- ---- copies

-- the instance in the slot 0 reads its copy of the required element 0
abbrev reads : Value → Step
reads v = step read_copy_code void_v v

-- `copy_follows`: a second read of the same copy is answered another number than the first
pub reads-afresh : (cfg : Config) → ReadsAlike cfg (spawns ∷ reads (number_v 1) ∷ []) (reads (number_v 2)) [] → ⊥
unfolding lives_in traced_from lives_after
reads-afresh cfg h = omega (arith, ap (λ (v : Value). v.number) (h refl (reads (number_v 1)) (spawns ∷ []) [] refl refl refl refl refl))

-- `copy_of_other`: who was spawned first of all reads a number, which no element holds then
starts-without : (k : RequiredConf) → (start_element k).value.kind ≡ 1 → ⊥
unfolding start_element no_element
starts-without k = by (eqb k.capacity 0)
  where
    by : (b : Bool) → (pick b (record { value = never_received_v; updated = false; queue = no_values }) no_element).value.kind ≡ 1 → ⊥
    by true h = omega (arith, h)
    by false h = omega (arith, h)

no_number : (cfg : Config) (q : ℕ) → (element_in (start_of cfg).elements q).value.kind ≡ 1 → ⊥
unfolding start_of started place_in no_places no_element
no_number cfg q =
    each-has (λ (k : ℕ) (x : Element). start_element (required_conf_in cfg.required k)) no_element (λ (k : ℕ) (x : Element). x.value.kind ≡ 1 → ⊥) cfg.required.n no_elements.at q
    (λ l. starts-without (required_conf_in cfg.required q)) (all_alike (λ (x : Element). x.value.kind ≡ 1 → ⊥) 16 no_element q (λ h. omega (arith, h)))

pub reads_before : (cfg : Config) → ReadsItsSpawn cfg (spawns ∷ []) (reads (number_v 7)) [] → ⊥
unfolding lives_in traced_from lives_after Accepted
reads_before cfg h =
    let r = h refl in
    no_number cfg 0 (ap (λ (m : State). (element_in m.elements 0).value.kind) r.1 ∙ ap (λ (v : Value). v.kind) (sym r.2))
