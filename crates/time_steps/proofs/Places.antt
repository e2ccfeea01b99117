-- The lowest empty slot, from the answer back to its number.
-- Assumes nothing.
use Prim.Native.Nat.{ℕ, ◌<◌}
use mathlib.Core.Bool.{Bool, true, false}
use mathlib.Core.Path.{◌≡◌, refl, sym}
use native.Mathlib.Omega.{arith}
use lib.Dec.{ltb}
use borrow.Author.Tests.{ltb-true}
use Rattle.laws.specs.Choice.{pick}
use Rattle.faces.specs.Types.{Slots}
use Rattle.state.specs.Tables.{max_slots}
use Rattle.std.specs.Prelude.{Some, None}
use Rattle.effects.specs.Steps.{lowest_empty, found_empty}

never : (k : ℕ) → None ≡ Some k → ⊥
never k q = let z : ◌≡◌ {A = ℕ} 0 1 = cc in omega arith

pub found_at : (t : Slots) (k : ℕ) → found_empty t ≡ Some k → (lowest_empty t ≡ k) × (ltb (lowest_empty t) max_slots ≡ true) × (k < 32)
unfolding found_empty
found_at t k h = go (ltb (lowest_empty t) max_slots) refl h
  where
    go : (b : Bool) → ltb (lowest_empty t) max_slots ≡ b → pick b (Some (lowest_empty t)) None ≡ Some k → (lowest_empty t ≡ k) × (b ≡ true) × (k < 32)
    go true e q = let n : lowest_empty t ≡ k = cc in (n, refl, omega (arith, n, ltb-true (lowest_empty t) max_slots e))
    go false e q = absurd (never k q)

pub found_none : (t : Slots) → found_empty t ≡ None → ltb (lowest_empty t) max_slots ≡ false
unfolding found_empty
found_none t h = go (ltb (lowest_empty t) max_slots) h
  where
    go : (b : Bool) → pick b (Some (lowest_empty t)) None ≡ None → b ≡ false
    go true q = absurd (never (lowest_empty t) (sym q))
    go false q = refl
