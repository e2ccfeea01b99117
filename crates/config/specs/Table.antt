-- A table of any kind of part, whose first n places are in use: what stands at a place, and one part more ("The parts, and how many").
-- Past its last place it gives the blank part, which is what an unused place holds; a part added to a full table changes nothing.
-- Assumes nothing.
use Rattle.std.specs.Prelude.{ℕ, ◌+◌, ltb, replicate, get_or, set}
use Rattle.laws.specs.Choice.{pick}
use Rattle.config.specs.declared.Table.{Table}

-- a table of m places with no part ("A sound state", unused places)
abbrev pub no_parts : {A : Type 0} {m : ℕ} → A → Table A m
no_parts {m = m} b = record { n = 0; at = replicate m b }

-- the part at place i ("The parts, and how many")
unfoldable pub part_in : {A : Type 0} {m : ℕ} → A → Table A m → ℕ → A
part_in b t i = get_or t.at i b

-- how many parts a table of m places holds: m, and no more than a byte counts ("The parts, and how many")
abbrev pub most_parts : ℕ → ℕ
most_parts m = pick (ltb m 255) m 255

-- one part more, at the first unused place ("The parts, and how many")
unfoldable pub add_part : {A : Type 0} {m : ℕ} → Table A m → A → Table A m
add_part {m = m} t x = pick (ltb t.n (most_parts m)) (record { n = t.n + 1; at = set t.at t.n x }) t
