-- A mended text is judged accepted, whatever is allowed beyond all its steps, and from the start state it is a run.
-- Assumes nothing.
use Prim.Native.Nat.{ℕ, suc, ◌+◌, ◌*◌, ◌-◌, ◌≤◌}
use mathlib.Core.Bool.{true}
use mathlib.Core.List.{List, [], ◌∷◌, ◌++◌, Memᴰ}
use mathlib.Core.Logic.{inl, inr}
use mathlib.Core.Path.{◌≡◌, refl, sym, ap, subst, ◌∙◌}
use native.Mathlib.Omega.{arith}
use lib.ListN.{length}
use borrow.Author.Tests.{ltb-true}
use Rattle.numbers.specs.Tags.{step_size, end_size}
use Rattle.numbers.specs.Codes.{spawn_code, timeout_code, tick_code}
use Rattle.faces.specs.Types.{Step, Config, State, Stepped}
use Rattle.state.specs.Start.{start_of}
use Rattle.rules.specs.Sound.{sound_of}
use Rattle.effects.specs.Step.{step_of}
use Rattle.stays_sound.proofs.Told.{told}
use Rattle.wire.specs.Bytes.{end_bytes}
use Rattle.wire.proofs.Laws.{Bytes}
use Rattle.recording.specs.Recording.{bytes_of, Recorded}
use Rattle.recording.specs.Whole.{Whole as Texted, steps_in, is_end, is_sound, text_of, EachRecorded}
use Rattle.recording.proofs.OneField.{step-reads, end_reads}
use Rattle.recording.proofs.Texts.{text-reads, steps-recorded}
use Rattle.judging.specs.declared.Verdict.TheVariants.{Accepted as Verdict-as-Accepted}
use Rattle.judging.specs.Judging.{judged, judge_from, judge_of}
use Rattle.judging.proofs.Laws.{ended, went}
use Rattle.history.specs.Promises.{Accepted}
use Rattle.history.proofs.Runs.{taken_of}
use Rattle.gaps.specs.declared.Mended.TheVariants.{Whole}
use Rattle.gaps.specs.Gaps.{sequences_of, answered, rank_of, can_fill, fill_of, answered_all, turn_of, turn_steps, turns_of, state_after, mended_steps}
use Rattle.gaps.specs.Report.{note_count, mend_to, note_size}
use Rattle.gaps.proofs.Answers.{spawn, timeout, tick, answered-recorded}
use Rattle.gaps.proofs.Members.{at-member}
use Rattle.history.proofs.Together.{demand3}
use Rattle.mended.specs.Claims.{turns_in, mended, ChoiceOf, AllMended, Outcome, unsound, unfilled, unread, short, whole, MendedIsAccepted, MendedIsRun, MendedKeeps}
use Rattle.mended.proofs.Walks.{turns-each}
use Rattle.mended.proofs.Fills.{turns-accepted}
use Rattle.mended.proofs.First.{list-is-all}
use Rattle.mended.proofs.Answers.{answer-by-cases}

-- ---- mended steps can be written down

each_append : (xs ys : List Step) → EachRecorded xs → EachRecorded ys → EachRecorded (xs ++ ys)
each_append [] ys h g = g
each_append (x ∷ xs) ys h g = (h.0, each_append xs ys h.1 g)

choice-recorded : (cfg : Config) (st : State) (x : Step) → ChoiceOf cfg x → Recorded (answered cfg st x)
choice-recorded cfg st x (inl h) = subst (λ (y : Step). Recorded (answered cfg st y)) (sym h.2) (answered-recorded cfg st spawn_code h.0 spawn)
choice-recorded cfg st x (inr (inl h)) = subst (λ (y : Step). Recorded (answered cfg st y)) (sym h.2) (answered-recorded cfg st timeout_code h.0 timeout)
choice-recorded cfg st x (inr (inr h)) = subst (λ (y : Step). Recorded (answered cfg st y)) (sym h.2) (answered-recorded cfg st tick_code h.0 tick)

module _ (f : State → Step → Stepped) (cfg : Config) where
  answered-all-recorded : (st : State) (q : List Step) → ((x : Step) → Memᴰ x q → ChoiceOf cfg x) → EachRecorded (answered_all f cfg st q)
  unfolding answered_all
  answered-all-recorded st [] h = tt
  answered-all-recorded st (x ∷ xs) h = (choice-recorded cfg st x (h x (Memᴰ.head refl)), answered-all-recorded (f st (answered cfg st x)).state xs (λ y m. h y (Memᴰ.tail m)))

  -- the sequence that is found stands in the list
  pub found_in : (st : State) (s : Step) → can_fill f cfg st s ≡ true → Memᴰ (fill_of f cfg st s) (sequences_of cfg)
  found_in st s h = at-member (sequences_of cfg) (rank_of f cfg st s) [] (ltb-true _ _ h)

  pub turns-recorded : (st : State) (rs : List Step) → EachRecorded rs → EachRecorded (mended_steps (turns_of f cfg st rs))
  unfolding mended_steps
  turns-recorded =
      turns-each f cfg (λ st rs ts. EachRecorded rs → EachRecorded (mended_steps ts))
      (record {
        ended = λ st h. tt;
        stuck = λ st s rs e h. tt;
        went = λ st s rs ts e rest h. let q = fill_of f cfg st s in
            each_append (turn_steps (turn_of f cfg st s)) (mended_steps ts)
            (each_append (answered_all f cfg st q) (s ∷ []) (answered-all-recorded st q ((list-is-all cfg q).0 (found_in st s e)).1) (h.0, tt)) (rest h.1);
      })

-- ---- the text of accepted steps is judged accepted

pub text-accepted : (cfg : Config) (st st' : State) (ss : List Step) (n more : ℕ) → EachRecorded ss → Accepted cfg st ss st' → judge_from (step_of cfg) (length ss + more) (text_of ss) n st ≡ judged Verdict-as-Accepted (n + length ss) st'
unfolding text_of Accepted
text-accepted cfg st st' [] n more h a = ended (step_of cfg) end_bytes n st (0 + more) end_reads ∙ (let z : n ≡ n + 0 = omega arith in ap (λ (k : ℕ). judged Verdict-as-Accepted k st) z ∙ ap (judged Verdict-as-Accepted (n + 0)) a)
text-accepted cfg st st' (s ∷ ss) n more h a =
    let less : suc (length ss) + more - 1 ≡ length ss + more = omega arith in
    let next : n + 1 + length ss ≡ n + suc (length ss) = omega arith in
    went (step_of cfg) (bytes_of s ++ text_of ss) n st (suc (length ss) + more) (λ c. omega (arith, c)) (step-reads s (text_of ss) h.0) refl (taken_of cfg st s a.0)
    ∙ ap (λ (k : ℕ). judge_from (step_of cfg) k (text_of ss) (n + 1) (step_of cfg st s).state) less
    ∙ text-accepted cfg (step_of cfg st s).state st' ss (n + 1) more h.1 a.1
    ∙ ap (λ (k : ℕ). judged Verdict-as-Accepted k st') next

-- ---- what mended says

pub record Done (cfg : Config) (st : State) (t b p : List ℕ) (n k : ℕ) : Type 0 where
  pub sound : sound_of cfg st ≡ true
  pub kept : AllMended cfg st t
  pub text : is_sound t ≡ true
  pub room : length (mended cfg st t) * step_size + end_size ≤ length b
  pub paper : note_count (turns_in cfg st t) * note_size ≤ length p
  pub steps : n ≡ length (mended cfg st t)
  pub notes : k ≡ note_count (turns_in cfg st t)

pub mended-done : (cfg : Config) (st : State) (t b p : List ℕ) (n k : ℕ) → mend_to cfg st t b p ≡ Whole n k → Done cfg st t b p n k
mended-done cfg st t b p n k h = go (answer-by-cases cfg st t b p)
  where
    go : Outcome cfg st t b p (mend_to cfg st t b p) → Done cfg st t b p n k
    go (unsound a e) = absurd (let z : ◌≡◌ {A = ℕ} 0 1 = cc in omega arith)
    go (unfilled q a u e) = absurd (let z : ◌≡◌ {A = ℕ} 0 1 = cc in omega arith)
    go (unread a m s e) = absurd (let z : ◌≡◌ {A = ℕ} 0 1 = cc in omega arith)
    go (short a m s l e) = absurd (let z : ◌≡◌ {A = ℕ} 0 1 = cc in omega arith)
    go (whole a m s l j e) = record { sound = a; kept = m; text = s; room = l; paper = j; steps = cc; notes = cc }

pub mended-recorded : (cfg : Config) (st : State) (t : List ℕ) → Bytes t → EachRecorded (mended cfg st t)
mended-recorded cfg st t h = turns-recorded (step_of cfg) cfg st (steps_in t) (steps-recorded t h)

pub mended-is-accepted : MendedIsAccepted
unfolding judge_of
mended-is-accepted cfg st t b p n k small h =
    let d = mended-done cfg st t b p n k h in
    let a = turns-accepted cfg st (steps_in t) in
    let s = d.sound in
    let z : 0 + length (mended cfg st t) ≡ length (mended cfg st t) = omega arith in
    let e = state_after (step_of cfg) st (mended cfg st t) in
    (d.steps, a, λ more. rw s (rw d.steps (text-accepted cfg st e (mended cfg st t) 0 more (mended-recorded cfg st t small) a ∙ ap (λ (k : ℕ). judged Verdict-as-Accepted k e) z)))

pub mended-is-run : MendedIsRun
mended-is-run cfg t b p n k small h =
    let d = mended-done cfg (start_of cfg) t b p n k h in
    let w = text-reads (mended cfg (start_of cfg) t) (mended-recorded cfg (start_of cfg) t small) in
    record {
      sound = (told cfg (start_of cfg) d.sound).config;
      whole = ap (λ (x : Texted). is_end x.last) w;
      steps = ap (λ (x : Texted). x.steps) w;
      count = d.steps;
      state = state_after (step_of cfg) (start_of cfg) (mended cfg (start_of cfg) t);
      run = turns-accepted cfg (start_of cfg) (steps_in t);
    }

pub mended-keeps : MendedKeeps
mended-keeps cfg t b p n k small h = let r = mended-is-run cfg t b p n k small h in demand3 cfg (mended cfg (start_of cfg) t) r.state r.sound r.run
