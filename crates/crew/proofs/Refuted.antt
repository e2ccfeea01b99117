-- Steps that other machines would accept, and the clause of demand 3 that fails of them: queues of values that grow past their capacity, or give the newest first, or lose what was sent, and a Full that names a queue with room.
-- Assumes nothing.
use Prim.Native.Nat.{ℕ}
use mathlib.Core.Bool.{true}
use mathlib.Core.List.{[], ◌∷◌}
use mathlib.Core.Path.{◌≡◌, refl, ap}
use native.Mathlib.Omega.{arith}
use Rattle.numbers.specs.Codes.{receive_code, send_code}
use Rattle.laws.specs.Mask.{is_set}
use Rattle.faces.specs.Types.{Value, Step, Config}
use Rattle.values.specs.Values.{void_v, number_v, ok_v, no_data_v, full_v}
use Rattle.config.specs.Tables.{required_conf_in}
use Rattle.effects.specs.Steps.{linked}
use Rattle.history.specs.History.{traced_from}
use Rattle.crew.specs.Values.{values_after, values_in, OkHadRoom, FullNamesSpent, ReceivesOldest}

-- the instance in the slot 0 sends n from the provided element 0, or receives from the required element 0
abbrev sends : ℕ → Value → Step
sends n v = record { code = send_code; who = 0; what = 0; argument = number_v n; claim = v }

abbrev receives : Value → Step
receives v = record { code = receive_code; who = 0; what = 0; argument = void_v; claim = v }

module _ (cfg : Config) (l : linked cfg 0 0 ≡ true) where
  -- a queue of one place takes a second value
  pub past-capacity : (required_conf_in cfg.required 0).capacity ≡ 1 → OkHadRoom cfg (sends 1 ok_v ∷ []) (sends 2 ok_v) [] → ⊥
  unfolding values_in traced_from values_after
  past-capacity e h = omega (arith, rw (l, e) at (h refl refl 0 l))

  -- the newest is given first
  pub newest-first : (required_conf_in cfg.required 0).capacity ≡ 2 → ReceivesOldest cfg (sends 1 ok_v ∷ sends 2 ok_v ∷ []) (receives (number_v 2)) [] → ⊥
  unfolding values_in traced_from values_after
  newest-first e h = omega (arith, ap (λ (v : Value). v.number) (rw (l, e) at (h refl)))

  -- what was sent is lost
  pub value-lost : (required_conf_in cfg.required 0).capacity ≡ 1 → ReceivesOldest cfg (sends 1 ok_v ∷ []) (receives no_data_v) [] → ⊥
  unfolding values_in traced_from values_after
  value-lost e h = omega (arith, ap (λ (v : Value). v.kind) (rw (l, e) at (h refl)))

  -- a queue with room is named as full
  pub full-with-room : (required_conf_in cfg.required 0).capacity ≡ 1 → FullNamesSpent cfg [] (sends 1 (full_v 1)) [] → ⊥
  unfolding values_in traced_from is_set
  full-with-room e h = omega (arith, rw e at ((h 1 refl refl 0).0 refl).1)
