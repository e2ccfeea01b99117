-- Recordings of any length keep demand 3: judged whole, since an accepted one is a run of its steps, and in parts, since these are as one.
-- Assumes nothing.
use mathlib.Core.List.{[]}
use mathlib.Core.Path.{◌≡◌, refl, sym, ◌∙◌, ap, subst}
use native.Mathlib.Omega.{arith}
use lib.ListN.{length}
use Rattle.state.specs.Start.{start_of}
use Rattle.recording.specs.Whole.{steps_in}
use Rattle.judging.specs.declared.Verdict.{Verdict}
use Rattle.judging.specs.declared.Verdict.TheVariants.{Accepted, Refused, Unfinished}
use Rattle.judging.specs.declared.Judged.{Judged}
use Rattle.judging.specs.Judging.{verdict_form, judge_of}
use Rattle.stays_sound.proofs.Start.{start-sound}
use Rattle.parts.specs.Parts.{later_verdict, whole_of, in_parts, joined}
use Rattle.parts.proofs.Proofs.{parts-as-one}
use Rattle.history.proofs.Together.{demand3}
use Rattle.claims.proofs.Verdicts.{accepted-is-whole}
use Rattle.goes_round.specs.Length.{Kept, AnyLengthKeeps, PartsKeep}

pub any-length-keeps : AnyLengthKeeps
any-length-keeps cfg t a h v =
    let j = judge_of cfg (start_of cfg) t a in
    let w = (accepted-is-whole cfg t a j.count j.state h).0 (v, refl, refl) in
    record { whole = w.0; count = w.1; demand = demand3 cfg (steps_in t) j.state h w.3 }

-- a verdict with none before it is the same
later-form : (v : Verdict) → verdict_form (later_verdict 0 v) ≡ verdict_form v
later-form Accepted = refl
later-form (Refused p k) = refl
later-form Unfinished = refl

pub parts-keep : PartsKeep
unfolding whole_of
parts-keep cfg ps h l v =
    let j = judge_of cfg (start_of cfg) (joined ps) (length (joined ps)) in
    let e = parts-as-one cfg (start_of cfg) 0 [] ps (start-sound cfg h) l in
    let form : verdict_form j.verdict ≡ 0 = sym (later-form j.verdict) ∙ sym (ap (λ (x : Judged). verdict_form x.verdict) e) ∙ v in
    let count : (in_parts cfg (start_of cfg) 0 [] ps).count ≡ j.count = omega (arith, ap (λ (x : Judged). x.count) e) in
    subst (Kept cfg (joined ps)) (sym count) (any-length-keeps cfg (joined ps) (length (joined ps)) h form)
