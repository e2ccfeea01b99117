-- Demand 3 of recordings of any length, with however many steps and calls (W-206). Proved in proofs/.
-- Assumes nothing.
use Rattle.std.specs.Prelude.{ℕ, true, List, [], ◌≡◌, length}
use Rattle.faces.specs.Types.{Config}
use Rattle.state.specs.Start.{start_of}
use Rattle.entries.specs.Faults.{config_sound}
use Rattle.recording.specs.Whole.{steps_in, is_sound}
use Rattle.judging.specs.Judging.{verdict_form, judge_of}
use Rattle.parts.specs.Parts.{in_parts, joined, EachLong}
use Rattle.history.specs.Promises.{Demand3}

-- the text t is a whole recording of n steps, and these keep demand 3 ("How tight the contracts are", demand 3)
pub record Kept (cfg : Config) (t : List ℕ) (n : ℕ) : Type 0 where
  pub whole : is_sound t ≡ true
  pub count : n ≡ length (steps_in t)
  pub demand : Demand3 cfg (steps_in t)

-- accepted from the start state of a sound configuration, by whatever allowance (W-206, recordings of any length)
abbrev pub AnyLengthKeeps : Type 0
AnyLengthKeeps =
    (cfg : Config) (t : List ℕ) (a : ℕ) → config_sound cfg ≡ true → verdict_form (judge_of cfg (start_of cfg) t a).verdict ≡ 0
    → Kept cfg t (judge_of cfg (start_of cfg) t a).count

-- accepted in parts of sixteen bytes or more, wherever they are cut and however many they are (W-206, recordings of any length)
abbrev pub PartsKeep : Type 0
PartsKeep =
    (cfg : Config) (ps : List (List ℕ)) → config_sound cfg ≡ true → EachLong ps → verdict_form (in_parts cfg (start_of cfg) 0 [] ps).verdict ≡ 0
    → Kept cfg (joined ps) (in_parts cfg (start_of cfg) 0 [] ps).count
