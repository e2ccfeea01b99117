-- The search as code goes about it: a choice by its number, a choice as it is inserted, and how many sequences there are.
-- That each is what the definitions of crate gaps say is shown in proofs/.
-- Assumes nothing.
use Rattle.std.specs.Prelude.{ℕ, ◌+◌, ◌-◌, ◌*◌, ◌%◌, ◌≤◌, ◌<◌, ◌≡◌, ltb, eqb}
use Rattle.numbers.specs.Codes.{spawn_code, timeout_code, tick_code}
use Rattle.laws.specs.Choice.{pick}
use Rattle.faces.specs.Types.{Value, Step, Answer}
use Rattle.values.specs.Values.{answer_value}
use Rattle.gaps.specs.declared.Choices.{Choices}
use Rattle.gaps.specs.Gaps.{choice}

-- how many choices there are
abbrev pub count_in : Choices → ℕ
count_in n = n.spawns + n.timeouts + n.ticks

-- what counting them tells: the count, which is small because each of the three counts is a byte
pub record Counted (n : Choices) (r : ℕ) : Type 0 where
  pub is : r ≡ count_in n
  pub most : r ≤ 765
  pub spawns : n.spawns < 256
  pub timeouts : n.timeouts < 256
  pub ticks : n.ticks < 256

-- the choice with the number k
unfoldable pub choice_at : Choices → ℕ → Step
choice_at n k =
    pick (ltb k n.spawns) (choice spawn_code (k % 256))
    (pick (ltb k (n.spawns + n.timeouts)) (choice timeout_code ((k - n.spawns) % 256))
    (choice tick_code ((k - (n.spawns + n.timeouts)) % 256)))

-- a step with another claim
abbrev pub claimed_of : Step → Value → Step
claimed_of x v = record { code = x.code; who = x.who; what = x.what; argument = x.argument; claim = v }

-- a step with an answer as its claim
abbrev pub claiming_of : Step → Answer → Step
claiming_of x a = claimed_of x (answer_value a)

-- how many sequences of length m there are, m at most 3
unfoldable pub size_of : ℕ → ℕ → ℕ
size_of k m = pick (eqb m 0) 1 (pick (eqb m 1) k (pick (eqb m 2) (k * k) (k * (k * k))))
