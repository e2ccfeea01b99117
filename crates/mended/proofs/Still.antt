-- A recording that is accepted as it stands has nothing to mend; what stands in the lent buffers; and one meaning.
-- Assumes nothing.
use Prim.Native.Nat.{ℕ, ◌+◌, ◌*◌, ◌≤◌}
use mathlib.Core.Bool.{Bool, true, false}
use mathlib.Core.List.{List, [], ◌∷◌, ◌++◌, map}
use mathlib.Core.Path.{◌≡◌, refl, sym, ap, subst, ◌∙◌}
use native.Mathlib.Omega.{arith}
use lib.ListN.{length, drop}
use Rattle.numbers.specs.Tags.{step_size, end_size}
use Rattle.laws.specs.Choice.{pick}
use Rattle.faces.specs.Types.{Step, Config, State}
use Rattle.rules.specs.Sound.{sound_of}
use Rattle.effects.specs.Step.{step_of}
use Rattle.wire.specs.Bytes.{put_at}
use Rattle.recording.specs.Whole.{Whole as Texted, steps_in, is_end, is_sound, text_of}
use Rattle.recording.proofs.Texts.{text-reads, text-again}
use Rattle.judging.specs.declared.Verdict.TheVariants.{Accepted as Verdict-as-Accepted, Refused as Verdict-as-Refused}
use Rattle.judging.specs.declared.Judged.{Judged}
use Rattle.judging.specs.Judging.{judged, judge_from, judge_of}
use Rattle.judging.proofs.Laws.{accepted-refused}
use Rattle.history.specs.Promises.{Accepted}
use Rattle.claims.proofs.Counted.{accepted-whole}
use Rattle.gaps.specs.declared.Mended.{Mended}
use Rattle.gaps.specs.declared.Mended.TheVariants.{Whole, Refused}
use Rattle.gaps.specs.Gaps.{Turn, turn_steps, turns_of, state_after, mended_steps}
use Rattle.gaps.specs.Report.{on_mended, report_from, note_count, mend_to, mend_reported, note_size}
use Rattle.gaps.proofs.Reported.{text-length, report-length}
use Rattle.gaps.proofs.Turns.{bare, turns-on, bare-fills, turn-bare, bare-mended, bare-report, bare-notes}
use Rattle.mended.specs.Claims.{turns_in, mended, BuffersHold, RefusalLeaves, Still, AcceptedIsStill, MendedIsStill, MendIsUnique}
use Rattle.mended.proofs.Fills.{rank-none, turns-accepted}
use Rattle.mended.proofs.Answers.{kept_of, mend-whole}
use Rattle.mended.proofs.Judged.{mended-done, mended-recorded}

-- ---- accepted steps need no fill

module _ (cfg : Config) where
  turns-bare : (st st' : State) (rs : List Step) → Accepted cfg st rs st' → turns_of (step_of cfg) cfg st rs ≡ map bare rs
  unfolding Accepted turns_of state_after bare
  turns-bare st st' [] h = refl
  turns-bare st st' (s ∷ rs) h =
      let e = rank-none cfg st s h.0 in
      turns-on (step_of cfg) cfg st s rs (bare-fills (step_of cfg) cfg st s e)
      ∙ ap (λ (t : Turn). t ∷ turns_of (step_of cfg) cfg (state_after (step_of cfg) st (turn_steps t)) rs) (turn-bare (step_of cfg) cfg st s e)
      ∙ ap (λ (l : List Turn). bare s ∷ l) (turns-bare (step_of cfg st s).state st' rs h.1)

bare-kept : (rs : List Step) → kept_of (map bare rs) ≡ rs
unfolding bare
bare-kept [] = refl
bare-kept (s ∷ rs) = ap (λ (l : List Step). s ∷ l) (bare-kept rs)

-- ---- the lent buffers

put_front : (b xs : List ℕ) (n : ℕ) → length xs ≡ n → put_at b 0 xs ≡ xs ++ drop n b
put_front b xs n e = ap (λ (k : ℕ). xs ++ drop k b) (let z : 0 + length xs ≡ n = omega arith in z)

pub buffers-hold : BuffersHold
buffers-hold cfg st t b p n k h =
    let d = mended-done cfg st t b p n k h in
    let l : length (text_of (mended cfg st t)) ≡ n * step_size + end_size = text-length (mended cfg st t) ∙ ap (λ (m : ℕ). m * step_size + end_size) (sym d.steps) in
    let m : length (report_from 0 (turns_in cfg st t)) ≡ k * note_size = report-length 0 (turns_in cfg st t) ∙ ap (λ (m : ℕ). m * note_size) (sym d.notes) in
    (rw h (put_front b (text_of (mended cfg st t)) (n * step_size + end_size) l), l, rw h (put_front p (report_from 0 (turns_in cfg st t)) (k * note_size) m), m)

pub refusal-leaves : RefusalLeaves
refusal-leaves cfg st t b p place number h = (rw h, rw h)

-- ---- still

module _ (cfg : Config) (st st' : State) (t : List ℕ) (sound : sound_of cfg st ≡ true) (text : is_sound t ≡ true) (same : text_of (steps_in t) ≡ t) (a : Accepted cfg st (steps_in t) st') where
  turns : turns_in cfg st t ≡ map bare (steps_in t)
  turns = turns-bare cfg st st' (steps_in t) a

  steps : mended cfg st t ≡ steps_in t
  steps = ap mended_steps turns ∙ bare-mended (steps_in t)

  notes : note_count (turns_in cfg st t) ≡ 0
  notes = ap note_count turns ∙ bare-notes (steps_in t)

  long : length (steps_in t) * step_size + end_size ≡ length t
  long = sym (text-length (steps_in t)) ∙ ap length same

  answer : (b p : List ℕ) → length t ≤ length b → mend_to cfg st t b p ≡ Whole (length (steps_in t)) 0
  answer b p l =
      let s = ap length steps in
      let z = notes in
      let g = long in
      mend-whole cfg st t b p sound (ap kept_of turns ∙ bare-kept (steps_in t)) text (omega arith) (omega arith) ∙ rw (steps, notes)

  reported : (b p : List ℕ) → mend_reported cfg st t b p ≡ p
  reported b p = go (mend_to cfg st t b p)
    where
      go : (r : Mended) → on_mended r (put_at p 0 (report_from 0 (turns_in cfg st t))) p ≡ p
      go (Whole n k) = rw (turns, bare-report 0 (steps_in t))
      go (Refused place number) = refl

  pub still : Still cfg st t
  still = record {
    steps = steps;
    report = ap (report_from 0) turns ∙ bare-report 0 (steps_in t);
    notes = notes;
    text = ap text_of steps ∙ same;
    answer = answer;
    written = λ b p l. (buffers-hold cfg st t b p (length (steps_in t)) 0 (answer b p l)).0 ∙ rw (steps, same, long);
    reported = reported;
  }

accepted-sound : (cfg : Config) (st : State) (t : List ℕ) (a : ℕ) → (judge_of cfg st t a).verdict ≡ Verdict-as-Accepted → (sound_of cfg st ≡ true) × ((judge_from (step_of cfg) a t 0 st).verdict ≡ Verdict-as-Accepted)
unfolding judge_of
accepted-sound cfg st t a h = go (sound_of cfg st) h
  where
    go : (b : Bool) → (pick {A = Judged} b (judge_from (step_of cfg) a t 0 st) (judged (Verdict-as-Refused 0 1) 0 st)).verdict ≡ Verdict-as-Accepted → (b ≡ true) × ((judge_from (step_of cfg) a t 0 st).verdict ≡ Verdict-as-Accepted)
    go true e = (refl, e)
    go false e = absurd (accepted-refused (sym e))

pub accepted-is-still : AcceptedIsStill
accepted-is-still cfg st t a small h =
    let s = accepted-sound cfg st t a h in
    let w = accepted-whole cfg a t 0 st s.1 in
    still cfg st _ t s.0 w.whole (text-again t small w.whole) w.taken

pub mended-is-still : MendedIsStill
mended-is-still cfg st t b p n k small h =
    let d = mended-done cfg st t b p n k h in
    let w = text-reads (mended cfg st t) (mended-recorded cfg st t small) in
    let e : steps_in (text_of (mended cfg st t)) ≡ mended cfg st t = ap (λ (x : Texted). x.steps) w in
    still cfg st (state_after (step_of cfg) st (mended cfg st t)) (text_of (mended cfg st t)) d.sound (ap (λ (x : Texted). is_end x.last) w) (ap text_of e)
    (subst (λ (l : List Step). Accepted cfg st l (state_after (step_of cfg) st (mended cfg st t))) (sym e) (turns-accepted cfg st (steps_in t)))

-- ---- one meaning

pub mend-unique : MendIsUnique
mend-unique cfg st t b p r r' o o' q q' h g = (h.0 ∙ sym g.0, h.1 ∙ sym g.1, h.2 ∙ sym g.2)
