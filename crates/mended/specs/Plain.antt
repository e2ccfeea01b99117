-- What is inserted, and what 31 means, said of accepted steps alone: no list of sequences, no answers put in, no test of a fill. As types; proved in proofs/.
-- Assumes nothing.
use Rattle.std.specs.Prelude.{ℕ, ◌≤◌, ◌⊎◌, ◌≡◌, length}
use mathlib.Core.List.{List, [], ◌∷◌, ◌++◌, Memᴰ}
use Rattle.faces.specs.Types.{Step, Config, State}
use Rattle.effects.specs.Step.{step_of}
use Rattle.history.specs.Promises.{Accepted}
use Rattle.gaps.specs.Gaps.{Turn, turns_of, mended_steps}
use Rattle.mended.specs.Claims.{Before, Unfilled}

-- steps that may have been lost: at most three, of codes 15, 16 and 17, whatever else stands in them (W-209, the fill)
pub record Lost (xs : List Step) : Type 0 where
  pub few : length xs ≤ 3
  pub codes : (x : Step) → Memᴰ x xs → (15 ≤ x.code) × (x.code ≤ 17)

-- the steps xs, and then s, are accepted one after another from m (W-209, the fill)
pub record Leads (cfg : Config) (m : State) (xs : List Step) (s : Step) : Type 0 where
  pub lost : Lost xs
  pub end : State
  pub taken : Accepted cfg m (xs ++ (s ∷ [])) end

-- what is inserted before a recorded step leads to it, and anything else that does comes later in the order of the request (W-209, the fill)
abbrev pub InsertedComesFirst : Type 0
InsertedComesFirst =
    (cfg : Config) (st : State) (rs : List Step) (before after : List Turn) (t : Turn) → turns_of (step_of cfg) cfg st rs ≡ before ++ (t ∷ after)
    → (m : State) × Accepted cfg st (mended_steps before) m × Leads cfg m t.inserted t.kept
    × ((xs : List Step) → Leads cfg m xs t.kept → (xs ≡ t.inserted) ⊎ Before t.inserted xs)

-- where 31 stands, nothing leads to the recorded step (W-209, 31)
abbrev pub NothingLeads : Type 0
NothingLeads = (cfg : Config) (st : State) (rs : List Step) (place : ℕ) (u : Unfilled cfg st rs place) (xs : List Step) → Leads cfg u.state xs u.step → ⊥
