-- A table of any kind of part, each at its number: what stands at a place, and one part changed ("The parts, and how many").
-- Past its last place it gives the blank part, which is what an unused place holds; a change there changes nothing.
-- Assumes nothing.
use Rattle.std.specs.Prelude.{ℕ, replicate, get_or, set}
use Rattle.state.specs.declared.Places.{Places}

-- a table of m blank parts ("A sound state", unused places)
unfoldable pub no_places : {A : Type 0} {m : ℕ} → A → Places A m
no_places {m = m} b = record { at = replicate m b }

-- the part with number i ("The parts, and how many")
unfoldable pub place_in : {A : Type 0} {m : ℕ} → A → Places A m → ℕ → A
place_in b t i = get_or t.at i b

-- the table with x at number i ("The parts, and how many")
unfoldable pub with_place : {A : Type 0} {m : ℕ} → Places A m → ℕ → A → Places A m
with_place t i x = record { at = set t.at i x }
