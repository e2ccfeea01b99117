-- What is allowed in a state, asked of the machine: a step of each code, slot and part, with an argument that its code takes ("The eighteen steps").
-- Assumes nothing.
use Rattle.std.specs.Prelude.{ℕ, eqb}
use Rattle.laws.specs.Choice.{pick}
use Rattle.values.specs.Values.{void_v, number_v}
use Rattle.faces.specs.Types.{Value, Step, Answer, Config, State}
use Rattle.rules.specs.Rows.{nothing, a_payload, a_time, row_of}
use Rattle.effects.specs.Step.{possible_of}

-- an argument of a kind: Void for none and for a payload, else a Number, for a time the least ("The eighteen steps", the column of arguments; W-210)
unfoldable pub sample_of : ℕ → Value
sample_of k = pick (eqb k nothing) void_v (pick (eqb k a_payload) void_v (pick (eqb k a_time) (number_v 1) (number_v 0)))

-- the step that is asked about: Void where a payload or nothing is handed over, a wait of 0 ("The eighteen steps", the column of arguments)
unfoldable pub probe_of : ℕ → ℕ → ℕ → Step
probe_of code who what = record { code = code; who = who; what = what; argument = sample_of (row_of code).argument; claim = void_v }

-- the answer that it would get ("The eighteen steps")
unfoldable pub allowed_of : Config → State → ℕ → ℕ → ℕ → Answer
allowed_of cfg st code who what = (possible_of cfg st (probe_of code who what)).answer
