-- The plan board at work: the line that it shows for a recording, and the board after it (W-213).
-- Assumes nothing.
use Rattle.std.specs.Prelude.{ℕ, List, ltb, length}
use Rattle.numbers.specs.Refusals.{not_there}
use Rattle.laws.specs.Choice.{pick}
use Rattle.faces.specs.Types.{Config}
use Rattle.state.specs.Tables.{operation_in}
use Rattle.state.specs.Start.{start_of}
use Rattle.reading.specs.declared.Outcome.{Outcome}
use Rattle.reading.specs.declared.Outcome.TheVariants.{Whole, Refused as NotRead}
use Rattle.reading.specs.Reading.{config_of}
use Rattle.judging.specs.declared.Verdict.{Verdict}
use Rattle.judging.specs.declared.Verdict.TheVariants.{Accepted, Refused as IsRefused, Unfinished}
use Rattle.judging.specs.declared.Judged.{Judged}
use Rattle.judging.specs.Judging.{judge_of}
use Rattle.judging.specs.Line.{max_config, allowed}
use Rattle.posting.specs.declared.Shown.{Shown}
use Rattle.posting.specs.declared.Shown.TheVariants.{Unjudged}
use Rattle.posting.specs.declared.Board.{Board}
use Rattle.posting.specs.declared.Told.TheVariants.{Refused, Configuration, TooLong}
use Rattle.posting.specs.declared.Posted.{Posted}
use Rattle.posting.specs.Posting.{operation_shown, enters, leaves}

-- ---- the line

-- what a verdict lets be shown: nothing of a recording that is refused or unfinished (W-213, UNJUDGED)
abbrev pub verdict_shown : Verdict → Shown → Shown
verdict_shown Accepted x = x
verdict_shown (IsRefused place number) x = Unjudged
verdict_shown Unfinished x = Unjudged

-- the line for the operation o of what was judged (W-213)
unfoldable pub judged_shown : ℕ → Judged → Shown
judged_shown o j = verdict_shown j.verdict (operation_shown (operation_in j.state.operations o))

-- the line for the operation o and a recording, judged from the start state with an allowance of steps (W-213)
unfoldable pub recording_shown : Config → ℕ → List ℕ → ℕ → Shown
recording_shown cfg o t a = judged_shown o (judge_of cfg (start_of cfg) t a)

-- ---- a showing

-- a showing: 3 for an operation that is not there, before anything is judged; else the line (W-213)
unfoldable pub show_of : Config → ℕ → List ℕ → ℕ → Board → Posted
show_of cfg o t a b = pick (ltb o cfg.operations.n) (enters b (recording_shown cfg o t a)) (leaves b (Refused not_there))

-- a configuration that can't be read is named as the judge does, and with any other there is a showing (W-213; "Judging", the program)
abbrev pub outcome_shown : Outcome → Board → Posted → Posted
outcome_shown Whole b x = x
outcome_shown (NotRead p k) b x = leaves b (Configuration p k)

-- a showing for two files, with the program's allowance (W-213; "Judging", the program)
unfoldable pub show_files_of : List ℕ → ℕ → List ℕ → Board → Posted
show_files_of c o t b = pick (ltb max_config (length c)) (leaves b TooLong) (outcome_shown (config_of c).outcome b (show_of (config_of c).config o t allowed b))
