-- Mending as code goes about it: the sequence of a rank by its digits, and the state that taken choices lead to.
-- That each is what the definitions of crate gaps say is shown in proofs/.
-- Assumes nothing.
use Rattle.std.specs.Prelude.{ℕ, ◌+◌, ◌-◌, ◌*◌, ◌/◌, ◌%◌, ◌≤◌, ◌<◌, true, List, [], ◌∷◌, ◌++◌, ◌≡◌, ltb, eqb, length}
use Rattle.numbers.specs.Tags.{step_size, end_size}
use Rattle.laws.specs.Choice.{pick}
use Rattle.faces.specs.Types.{Value, Step, Config, State}
use Rattle.effects.specs.Step.{possible_of, inner_of}
use Rattle.wire.specs.Bytes.{bytes32}
use Rattle.recording.specs.Recording.{values_good, bytes_of}
use Rattle.gaps.specs.declared.Choices.{Choices}
use Rattle.gaps.specs.Gaps.{counts_of, rank_of, can_fill, fill_of, turn_of, turn_steps}
use Rattle.gaps.specs.Report.{place_bytes, survey_of, note_size}
use Rattle.gaps.specs.declared.Mended.TheVariants.{Whole}
use Rattle.searching.specs.Search.{choice_at}
use Rattle.mending.specs.declared.Picks.{Picks}
use Rattle.mending.specs.declared.Crossed.{Crossed}

-- how many there are in all
abbrev pub most_of : ℕ → ℕ
most_of k = 1 + (k + (k * k + k * (k * k)))

-- a sequence of so many choices, by their numbers
abbrev pub picks : ℕ → ℕ → ℕ → ℕ → Picks
picks length first second third = record { length = length; first = first; second = second; third = third }

-- the sequence of a rank, by the numbers of its choices
unfoldable pub picks_of : ℕ → ℕ → Picks
picks_of k rank =
    pick (ltb rank 1) (picks 0 0 0 0)
    (pick (ltb (rank - 1) k) (picks 1 (rank - 1) 0 0)
    (pick (ltb (rank - 1 - k) (k * k)) (picks 2 ((rank - 1 - k) / k) ((rank - 1 - k) % k) 0)
    (pick (ltb (rank - 1 - k - k * k) (k * (k * k)))
    (picks 3 ((rank - 1 - k - k * k) / (k * k)) ((rank - 1 - k - k * k) % (k * k) / k) ((rank - 1 - k - k * k) % (k * k) % k))
    (picks 0 0 0 0))))

-- the number of the choice k of a sequence, of three
abbrev pub number_at : Picks → ℕ → ℕ
number_at p k = pick (eqb k 0) p.first (pick (eqb k 1) p.second p.third)

-- what is left of a sequence behind its first choice
abbrev pub rest_of : Picks → Picks
rest_of p = picks (p.length - 1) p.second p.third 0

-- the choices of a sequence
unfoldable pub picked : Choices → Picks → List Step
picked n p =
    pick (eqb p.length 0) []
    (choice_at n p.first
    ∷ pick (eqb p.length 1) []
    (choice_at n p.second
    ∷ pick (eqb p.length 2) []
    (choice_at n p.third ∷ [])))

-- the state behind choices that are taken one after the other
unfoldable pub taken_all : Config → State → List Step → State
taken_all cfg st [] = st
taken_all cfg st (x ∷ xs) = taken_all cfg (possible_of cfg st x).state xs

-- ---- writing

-- the bytes of step fields, one behind the other
unfoldable pub fields_of : List Step → List ℕ
fields_of [] = []
fields_of (s ∷ rs) = bytes_of s ++ fields_of rs

-- the sixteen bytes of a note
abbrev pub note_of : ℕ → ℕ → ℕ → Value → ℕ → List ℕ
note_of kind code what v place = kind ∷ code ∷ what ∷ v.kind ∷ (bytes32 v.number ++ place_bytes place)

-- so many steps and notes have room in buffers of these lengths
pub record Room (steps notes out report : ℕ) : Type 0 where
  pub text : steps * step_size ≤ out
  pub note : notes * note_size ≤ report

-- what is known of a gap before it is written: some sequence fills it and it is not the empty one, the recorded step can be written, and there is room
pub record Fillable (cfg : Config) (st : State) (s : Step) (all : Choices) (steps notes out report : ℕ) : Type 0 where
  pub counts : all ≡ counts_of cfg
  pub fills : can_fill (inner_of cfg) cfg st s ≡ true
  pub gap : 0 < rank_of (inner_of cfg) cfg st s
  pub good : values_good s ≡ true
  pub room : Room (steps + length (turn_steps (turn_of (inner_of cfg) cfg st s))) (notes + length (turn_steps (turn_of (inner_of cfg) cfg st s))) out report

-- what is known of a recording before it is written: it can be mended, and there is room for the text with its end and for the report
pub record Mendable (cfg : Config) (st : State) (t : List ℕ) (out report : ℕ) : Type 0 where
  pub steps : ℕ
  pub notes : ℕ
  pub survey : survey_of (inner_of cfg) cfg st t ≡ Whole steps notes
  pub text : steps * step_size + end_size ≤ out
  pub note : notes * note_size ≤ report

-- the state behind a gap and its step, and how many steps were inserted
abbrev pub crossed_of : Config → State → Step → Crossed
crossed_of cfg st s = record { state = (inner_of cfg (taken_all cfg st (fill_of (inner_of cfg) cfg st s)) s).state; inserted = length (fill_of (inner_of cfg) cfg st s) }
