-- A recording judged part by part, with the state carried on, and without an end of the allowance ("Judging").
-- Assumes nothing.
use Rattle.std.specs.Prelude.{ℕ, ◌+◌, ◌-◌, ◌*◌, ◌/◌, ◌≤◌, true, List, [], ◌∷◌, ◌++◌, ◌≡◌, ltb, length, drop}
use Rattle.numbers.specs.Tags.{step_size}
use Rattle.laws.specs.Choice.{pick}
use Rattle.faces.specs.Types.{Config, State}
use Rattle.state.specs.Start.{start_of}
use Rattle.rules.specs.Sound.{sound_of}
use Rattle.reading.specs.Reading.{config_of}
use Rattle.judging.specs.declared.Verdict.{Verdict}
use Rattle.judging.specs.declared.Verdict.TheVariants.{Accepted, Refused, Unfinished}
use Rattle.judging.specs.declared.Judged.{Judged}
use Rattle.judging.specs.declared.Line.{Line}
use Rattle.judging.specs.declared.Line.TheVariants.{TooLong, Unfinished as UnfinishedLine}
use Rattle.judging.specs.Judging.{judged, judge_of}
use Rattle.judging.specs.Line.{max_config, judged_line, outcome_line, line_of}

-- a verdict with n steps before it: places move by n ("Judging")
abbrev pub later_verdict : ℕ → Verdict → Verdict
later_verdict n Accepted = Accepted
later_verdict n (Refused p k) = Refused (n + p) k
later_verdict n Unfinished = Unfinished

-- what was judged with n steps before it ("Judging")
abbrev pub later : ℕ → Judged → Judged
later n j = judged (later_verdict n j.verdict) (n + j.count) j.state

-- judging without limits: no recording has more steps than bytes ("Judging")
unfoldable pub whole_of : Config → State → List ℕ → Judged
whole_of cfg st t = judge_of cfg st t (length t)

-- how many steps of a part are judged before more is read: a step has 16 bytes, and 16 bytes more stay for the field that is next ("The files", recording)
abbrev pub sure : List ℕ → ℕ
sure s = length s / step_size - 1

-- by cases on a verdict: unfinished, or any other ("Judging")
abbrev pub on_unfinished : {A : Type 0} → Verdict → A → A → A
on_unfinished Accepted more done = done
on_unfinished (Refused p k) more done = done
on_unfinished Unfinished more done = more

-- with n steps taken and the bytes held that are not judged yet, each part in turn: it is judged as far as it is sure, and what is left is held ("Judging")
unfoldable pub in_parts : Config → State → ℕ → List ℕ → List (List ℕ) → Judged
in_parts cfg st n held [] = later n (whole_of cfg st held)
in_parts cfg st n held (p ∷ ps) =
    on_unfinished (judge_of cfg st (held ++ p) (sure (held ++ p))).verdict
    (in_parts cfg (judge_of cfg st (held ++ p) (sure (held ++ p))).state (n + sure (held ++ p)) (drop (step_size * sure (held ++ p)) (held ++ p)) ps)
    (later n (judge_of cfg st (held ++ p) (sure (held ++ p))))

-- the parts, one behind the other ("The files")
abbrev pub joined : List (List ℕ) → List ℕ
joined [] = []
joined (p ∷ ps) = p ++ joined ps

-- each part is long enough for a step ("The files", recording)
abbrev pub EachLong : List (List ℕ) → Type 0
EachLong [] = Unit {0}
EachLong (p ∷ ps) = (step_size ≤ length p) × EachLong ps

-- the line for a recording of any length: the judge's own, but for the two limits of a recording ("Judging", the program)
unfoldable pub long_line : List ℕ → List ℕ → Line
long_line c t = pick (ltb max_config (length c)) TooLong (outcome_line (config_of c).outcome (judged_line (whole_of (config_of c).config (start_of (config_of c).config) t)))

-- THE CLAIM: judged in parts of sixteen bytes or more, wherever they are cut, a recording has the verdict, the count and the state of one judging without limits
abbrev pub PartsAsOne : Type 0
PartsAsOne = (cfg : Config) (st : State) (n : ℕ) (held : List ℕ) (ps : List (List ℕ)) → sound_of cfg st ≡ true → EachLong ps
    → in_parts cfg st n held ps ≡ later n (whole_of cfg st (held ++ joined ps))

-- THE CLAIM for the line: wherever the judge itself gives a verdict, the line for a recording of any length is the judge's
abbrev pub LongIsLine : Type 0
LongIsLine = (c t : List ℕ) → (line_of c t ≡ TooLong → ⊥) → ((n : ℕ) → line_of c t ≡ UnfinishedLine n → ⊥) → long_line c t ≡ line_of c t
