-- That the initial of a variable has 32 bits is known by its type alone: no test of soundness looks at it.
-- Assumes nothing.
use Prim.Native.Nat.{ℕ, zero, suc, ◌<◌, ◌^◌}
use mathlib.Core.List.{List, [], ◌∷◌}
use native.Mathlib.Omega.{arith}
use lib.ListN.{get_or}
use mir.Val.{Val}
use denote.Array.{each}
use denote.Shadow.{shadow}
use Rattle.config.specs.declared.VariableConf.{VariableConf}
use Rattle.config.specs.Tables.{no_variable_conf}
use Rattle.config.specs.contracts.VariableConf.{the_row}

pub initials-fit : (l : List VariableConf) (us : List Val) → shadow (each the_row.Denot the_row.own_val l us) → (i : ℕ) → (get_or l i no_variable_conf).initial < 2 ^ 32
initials-fit [] us s i = omega arith
initials-fit (x ∷ l) [] s i = absurd s
initials-fit (x ∷ l) (u ∷ us) s zero = omega (arith, s.0)
initials-fit (x ∷ l) (u ∷ us) s (suc i) = initials-fit l us s.1 i
