-- Two waits are one wait: steps with their neighbouring waits merged (W-203).
-- Assumes nothing.
use Rattle.std.specs.Prelude.{ℕ, ◌+◌, Bool, List, [], ◌∷◌, leb, eqb}
use Rattle.numbers.specs.Codes.{wait_code}
use Rattle.laws.specs.Choice.{pick, both}
use Rattle.values.specs.declared.Step.{Step}
use Rattle.values.specs.Values.{void_v, number_v, is_void, is_number}

-- the recorded step that waits for t, as recorders write it ("The eighteen steps", 18; W-203)
abbrev pub wait_for : ℕ → Step
wait_for t = record { code = wait_code; who = 0; what = 0; argument = number_v t; claim = void_v }

-- the most milliseconds that a step can hold: 32 bits ("The files"; W-203)
abbrev pub longest : ℕ
longest = 4294967295

-- a step is such a wait ("The eighteen steps", 18; W-203)
unfoldable pub is_wait : Step → Bool
is_wait s = both (eqb s.code wait_code) (both (eqb s.who 0) (both (eqb s.what 0) (both (is_number s.argument) (is_void s.claim))))

-- two steps are waits, and their sum fits 32 bits (W-203)
unfoldable pub adds_up : Step → Step → Bool
adds_up s x = both (is_wait s) (both (is_wait x) (leb (s.argument.number + x.argument.number) longest))

-- the one wait for both (W-203)
abbrev pub joined : Step → Step → Step
joined s x = wait_for (s.argument.number + x.argument.number)

-- a step and those behind it: it grows as long as the next adds up with it (W-203)
unfoldable pub merged_from : Step → List Step → List Step
merged_from s [] = s ∷ []
merged_from s (x ∷ xs) = pick (adds_up s x) (merged_from (joined s x) xs) (s ∷ merged_from x xs)

-- steps with their neighbouring waits merged (W-203)
unfoldable pub merged_of : List Step → List Step
merged_of [] = []
merged_of (s ∷ xs) = merged_from s xs
