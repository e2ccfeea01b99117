-- Mending: where a recorded step is refused, the first sequence of at most three lost steps of the scheduler after which it is accepted (W-209).
-- The step function is a parameter, as in judging: mending is said with the step that tests soundness each time, and computed with the one that does not.
-- Assumes nothing.
use Rattle.std.specs.Prelude.{ℕ, Bool, true, false, List, [], ◌∷◌, ◌++◌, ltb, length, get_or}
use Rattle.numbers.specs.Codes.{spawn_code, timeout_code, tick_code}
use Rattle.laws.specs.Choice.{pick, both}
use Rattle.faces.specs.Types.{Step, Answer, Taken, Refused as Barred, Config, State, Stepped}
use Rattle.values.specs.Values.{void_v, answer_value}
use Rattle.effects.specs.Step.{possible_of}
use Rattle.gaps.specs.declared.Choices.{Choices}
use Rattle.gaps.specs.Orders.{each, passed_over, up_to_three}

-- ---- what is looked for

-- a step of the scheduler with this code, about part k, before it has an answer (W-209, codes 15, 16 and 17)
abbrev pub choice : ℕ → ℕ → Step
choice code k = record { code = code; who = 0; what = k; argument = void_v; claim = void_v }

-- how many parts there are to spawn, to time out and to tick (W-209, the configured parts)
abbrev pub counts_of : Config → Choices
counts_of cfg = record { spawns = cfg.runnables.n; timeouts = cfg.operations.n; ticks = cfg.timers.n }

-- all choices in order: spawns by runnable, then timeouts by operation, then ticks by timer (W-209, order)
unfoldable pub choices_in : Choices → List Step
choices_in n = each (choice spawn_code) n.spawns ++ (each (choice timeout_code) n.timeouts ++ each (choice tick_code) n.ticks)

-- every sequence of at most three of a configuration's choices, in the order in which they are tried (W-209, order)
unfoldable pub sequences_of : Config → List (List Step)
sequences_of cfg = up_to_three (choices_in (counts_of cfg))

-- ---- a gap and its fill

-- an answer says that the step was taken
abbrev pub is_taken : Answer → Bool
is_taken (Taken v) = true
is_taken (Barred n) = false

-- a choice with the answer it would get as its claim (W-209, the computed answer)
abbrev pub answered : Config → State → Step → Step
answered cfg st x = record { code = x.code; who = x.who; what = x.what; argument = x.argument; claim = answer_value (possible_of cfg st x).answer }

-- a sequence fills the gap before s: each of it is accepted in turn, and then s with its own claim (W-209, where a step is refused)
unfoldable pub fills : (State → Step → Stepped) → Config → State → Step → List Step → Bool
fills step cfg st s [] = is_taken (step st s).answer
fills step cfg st s (x ∷ xs) = both (is_taken (step st (answered cfg st x)).answer) (fills step cfg (step st (answered cfg st x)).state s xs)

-- how many sequences are passed over before the first that fills the gap; 0 where there is none to fill, since the empty sequence comes first (W-209, the report)
unfoldable pub rank_of : (State → Step → Stepped) → Config → State → Step → ℕ
rank_of step cfg st s = passed_over (fills step cfg st s) (sequences_of cfg)

-- some sequence fills the gap (W-209, a fill is refused)
abbrev pub can_fill : (State → Step → Stepped) → Config → State → Step → Bool
can_fill step cfg st s = ltb (rank_of step cfg st s) (length (sequences_of cfg))

-- the first that does (W-209, the first that works)
abbrev pub fill_of : (State → Step → Stepped) → Config → State → Step → List Step
fill_of step cfg st s = get_or (sequences_of cfg) (rank_of step cfg st s) []

-- a sequence with the answers as claims, as it is inserted (W-209, computed answers)
unfoldable pub answered_all : (State → Step → Stepped) → Config → State → List Step → List Step
answered_all step cfg st [] = []
answered_all step cfg st (x ∷ xs) = answered cfg st x ∷ answered_all step cfg (step st (answered cfg st x)).state xs

-- the state behind steps
unfoldable pub state_after : (State → Step → Stepped) → State → List Step → State
state_after step st [] = st
state_after step st (s ∷ rs) = state_after step (step st s).state rs

-- ---- a recording, gap after gap

-- one recorded step: how many sequences were passed over before it, what is inserted, and the step as it was (W-209, the report)
pub record Turn : Type 0 where
  pub passed : ℕ
  pub inserted : List Step
  pub kept : Step

-- the turn of s (W-209, per gap)
abbrev pub turn_of : (State → Step → Stepped) → Config → State → Step → Turn
turn_of step cfg st s = record { passed = rank_of step cfg st s; inserted = answered_all step cfg st (fill_of step cfg st s); kept = s }

-- what stands in the mended text for a turn (W-209, inserted)
abbrev pub turn_steps : Turn → List Step
turn_steps t = t.inserted ++ (t.kept ∷ [])

-- the turns of recorded steps, up to the first whose gap can't be filled (W-209, per gap, in order)
unfoldable pub turns_of : (State → Step → Stepped) → Config → State → List Step → List Turn
turns_of step cfg st [] = []
turns_of step cfg st (s ∷ rs) =
    pick (can_fill step cfg st s)
    (turn_of step cfg st s ∷ turns_of step cfg (state_after step st (turn_steps (turn_of step cfg st s))) rs)
    []

-- the mended steps (W-209, the mended text)
unfoldable pub mended_steps : List Turn → List Step
mended_steps [] = []
mended_steps (t ∷ ts) = turn_steps t ++ mended_steps ts
