-- What mending promises of the recorded steps, of the inserted ones and of the report (W-209), as types; proved in proofs/.
-- Assumes nothing.
use Rattle.std.specs.Prelude.{ℕ, zero, suc, ◌+◌, ◌*◌, ◌≤◌, ◌<◌, ◌^◌, Bool, false, ◌≡◌, eqb, length, get_or, drop}
use mathlib.Core.List.{List, [], ◌∷◌, ◌++◌, map, Memᴰ}
use Rattle.numbers.specs.Codes.{send_code}
use Rattle.laws.specs.Choice.{pick, either}
use Rattle.faces.specs.Types.{Step, Taken, Config, State}
use Rattle.values.specs.Values.{void_v}
use Rattle.effects.specs.Step.{step_of}
use Rattle.wire.specs.Bytes.{number_of}
use Rattle.wire.proofs.Laws.{Bytes}
use Rattle.recording.specs.Whole.{steps_in}
use Rattle.history.specs.Promises.{Answers, Accepted}
use Rattle.gaps.specs.declared.Mended.TheVariants.{Whole}
use Rattle.gaps.specs.Gaps.{Turn, turns_of, mended_steps}
use Rattle.gaps.specs.Report.{step_note, gap_note, report_from, note_count, mend_to, mend_reported, note_size}
use Rattle.mended.specs.Claims.{turns_in, mended, AllMended}

-- ---- faithful

-- the recorded steps are kept, in order and unchanged (W-209, recorded steps)
abbrev pub KeptAreRecorded : Type 0
KeptAreRecorded = (cfg : Config) (st : State) (t b p : List ℕ) (n k : ℕ) → mend_to cfg st t b p ≡ Whole n k → AllMended cfg st t

-- a step of the scheduler that may be inserted: a spawn, a timeout or a tick (W-209, codes 15, 16 and 17)
pub record Insertable (x : Step) : Type 0 where
  pub low : 15 ≤ x.code
  pub high : x.code ≤ 17
  pub who : x.who ≡ 0
  pub argument : x.argument ≡ void_v

-- at most three stand in one gap, each of them such a step (W-209, the fill)
abbrev pub InsertedAreFew : Type 0
InsertedAreFew =
    (cfg : Config) (st : State) (rs : List Step) (t : Turn) → Memᴰ t (turns_of (step_of cfg) cfg st rs)
    → (length t.inserted ≤ 3) × ((x : Step) → Memᴰ x t.inserted → Insertable x)

-- each mended step, inserted or not, claims what agrees with the machine's answer there, and what is inserted claims that answer (W-209, computed answer; W-201)
abbrev pub EachAnswers : Type 0
EachAnswers =
    (cfg : Config) (st : State) (rs before after : List Step) (x : Step) → mended_steps (turns_of (step_of cfg) cfg st rs) ≡ before ++ (x ∷ after)
    → (m : State) × Accepted cfg st before m × Answers (step_of cfg m x).answer x × ((x.code ≡ send_code → ⊥) → (step_of cfg m x).answer ≡ Taken x.claim)

-- ---- the report

-- a note before it is put into bytes: a step inserted at a place; or a gap, the place of its recorded step, and the sequences passed over (W-209, the report)
pub data Note : Type 0 where
  inserts : ℕ → Step → Note
  mends : ℕ → ℕ → Note

-- its sixteen bytes (W-209, the report)
abbrev pub note_bytes : Note → List ℕ
note_bytes (inserts place x) = step_note place x
note_bytes (mends place passed) = gap_note place passed

-- the bytes of notes, one behind the other (W-209, the report)
unfoldable pub notes_bytes : List Note → List ℕ
notes_bytes [] = []
notes_bytes (x ∷ xs) = note_bytes x ++ notes_bytes xs

-- the places at which notes say that steps are inserted (W-209, the report)
unfoldable pub insert_places : List Note → List ℕ
insert_places [] = []
insert_places (inserts place x ∷ xs) = place ∷ insert_places xs
insert_places (mends place passed ∷ xs) = insert_places xs

-- a number is one of a list
unfoldable pub is_one : ℕ → List ℕ → Bool
is_one n [] = false
is_one n (k ∷ ks) = either (eqb k n) (is_one n ks)

-- steps behind n others, without those whose places are in a list
unfoldable pub without : List ℕ → ℕ → List Step → List Step
without ps n [] = []
without ps n (s ∷ ss) = pick (is_one (n + 1) ps) (without ps (n + 1) ss) (s ∷ without ps (n + 1) ss)

-- x stands at this place among steps, counted from 1 (W-209, the report)
abbrev pub Stands : List Step → ℕ → Step → Type 0
Stands ms place x = (front : List Step) × (back : List Step) × (ms ≡ front ++ (x ∷ back)) × (place ≡ length front + 1)

-- what a note says is so: the inserted step stands there; or a recorded step stands there before which as many sequences were passed over, one at least (W-209, the report)
abbrev pub True : List Turn → Note → Type 0
True ts (inserts place x) = Stands (mended_steps ts) place x × Insertable x
True ts (mends place passed) =
    (before : List Turn) × (t : Turn) × (after : List Turn) × (ts ≡ before ++ (t ∷ after)) × (passed ≡ t.passed) × (0 < passed)
    × (place ≡ length (mended_steps before) + length t.inserted + 1) × Stands (mended_steps ts) place t.kept

-- the report is the bytes of true notes, every gap has one, and the mended steps without those that it names as inserted are the recorded ones (W-209, the report)
pub record TrueReport (ts : List Turn) : Type 0 where
  pub notes : List Note
  pub bytes : report_from 0 ts ≡ notes_bytes notes
  pub count : note_count ts ≡ length notes
  pub each : (x : Note) → Memᴰ x notes → True ts x
  pub gaps : (before after : List Turn) (t : Turn) → ts ≡ before ++ (t ∷ after) → 0 < t.passed → Memᴰ (mends (length (mended_steps before) + length t.inserted + 1) t.passed) notes
  pub rest : without (insert_places notes) 0 (mended_steps ts) ≡ map (λ (t : Turn). t.kept) ts

-- the report of any mending, up to where it stops, is so (W-209, the report)
abbrev pub ReportIsTrue : Type 0
ReportIsTrue = (cfg : Config) (st : State) (rs : List Step) → TrueReport (turns_of (step_of cfg) cfg st rs)

-- ---- the report read back from its bytes

-- the place in a note's last eight bytes (W-209, the report)
abbrev pub place_read : List ℕ → ℕ
place_read t = number_of (get_or t 8 0) (get_or t 9 0) (get_or t 10 0) (get_or t 11 0) * 4294967296 + number_of (get_or t 12 0) (get_or t 13 0) (get_or t 14 0) (get_or t 15 0)

-- the number in its second four (W-209, the report)
abbrev pub number_read : List ℕ → ℕ
number_read t = number_of (get_or t 4 0) (get_or t 5 0) (get_or t 6 0) (get_or t 7 0)

-- the note that stands first: 1 for an inserted step with its code, part and answer, else a gap (W-209, the report)
abbrev pub note_read : List ℕ → Note
note_read t =
    pick (eqb (get_or t 0 0) 1)
    (inserts (place_read t) (record { code = get_or t 1 0; who = 0; what = get_or t 2 0; argument = void_v; claim = record { kind = get_or t 3 0; number = number_read t } }))
    (mends (place_read t) (number_read t))

-- so many notes, sixteen bytes each (W-209, the report)
unfoldable pub notes_read : ℕ → List ℕ → List Note
notes_read zero t = []
notes_read (suc k) t = note_read t ∷ notes_read k (drop note_size t)

-- what the lent buffer says, read back: true notes, and the mended steps without those that they name as inserted are the recorded ones (W-209, the report)
abbrev pub ReportReadsBack : Type 0
ReportReadsBack =
    (cfg : Config) (st : State) (t b p : List ℕ) (n k : ℕ) → Bytes t → mend_to cfg st t b p ≡ Whole n k → n < 2 ^ 64
    → ((x : Note) → Memᴰ x (notes_read k (mend_reported cfg st t b p)) → True (turns_in cfg st t) x)
    × (without (insert_places (notes_read k (mend_reported cfg st t b p))) 0 (mended cfg st t) ≡ steps_in t)
