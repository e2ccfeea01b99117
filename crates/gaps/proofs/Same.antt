-- A choice with its answer as its claim is taken as if it claimed nothing; and a step function that is the same wherever a test holds, and keeps it, mends the same.
-- Assumes nothing.
use Prim.Native.Nat.{ℕ, ◌+◌}
use mathlib.Core.Bool.{Bool, true}
use mathlib.Core.List.{List, [], ◌∷◌}
use mathlib.Core.Path.{◌≡◌, refl, ap, ◌∙◌}
use lib.Dec.{ltb, eqb}
use lib.ListN.{length, get_or}
use Rattle.numbers.specs.Refusals.{other_answer}
use Rattle.laws.specs.Choice.{pick, both}
use Rattle.faces.specs.Types.{Value, Step, Answer, Taken, Refused as Barred, Config, State, Stepped}
use Rattle.values.specs.Values.{answer_value}
use Rattle.rules.specs.Sound.{sound_of}
use Rattle.rules.specs.Refusals.{instance_refusal, scheduler_refusal, refusal_by, refusal_of}
use Rattle.effects.specs.Steps.{refused}
use Rattle.effects.specs.Step.{on_answer, agrees, possible_of, claimed_of, inner_of, step_of}
use Rattle.effects.proofs.Agreeing.{agrees-self}
use Rattle.stays_sound.proofs.Keeps.{once, kept_step}
use Rattle.recording.specs.Whole.{whole_of, steps_in}
use Rattle.gaps.specs.Gaps.{Turn, sequences_of, is_taken, answered, fills, rank_of, can_fill, fill_of, answered_all, state_after, turn_of, turn_steps, turns_of, mended_steps}
use Rattle.gaps.specs.Report.{on_last, note_count, survey_of}
use Rattle.gaps.specs.declared.Mended.TheVariants.{Whole, Refused}
use Rattle.gaps.proofs.Ordered.{passed-same}

-- ---- an answer as a claim

-- whether a step could be taken does not hang on its claim
pub possible-claimed : (cfg : Config) (st : State) (x : Step) (v : Value) → possible_of cfg st (record { code = x.code; who = x.who; what = x.what; argument = x.argument; claim = v }) ≡ possible_of cfg st x
unfolding possible_of refusal_of refusal_by instance_refusal scheduler_refusal
possible-claimed cfg st x v = refl

pub possible-answered : (cfg : Config) (st : State) (x : Step) → possible_of cfg st (answered cfg st x) ≡ possible_of cfg st x
possible-answered cfg st x = possible-claimed cfg st x (answer_value (possible_of cfg st x).answer)

claimed-itself : (s : Step) (st : State) (r : Stepped) → s.claim ≡ answer_value r.answer → claimed_of s st r ≡ r
unfolding claimed_of
claimed-itself s st r e = rw e (go r.answer)
  where
    go : (a : Answer) → on_answer a (λ (v : Value). pick (agrees s.code v (answer_value a)) r (refused other_answer st)) (λ (n : ℕ). r) ≡ r
    go (Taken v) = rw (agrees-self s.code v)
    go (Barred n) = refl

pub answered-is : (cfg : Config) (st : State) (x : Step) → inner_of cfg st (answered cfg st x) ≡ possible_of cfg st x
unfolding inner_of
answered-is cfg st x = ap (claimed_of (answered cfg st x) st) (possible-answered cfg st x) ∙ claimed-itself (answered cfg st x) st (possible_of cfg st x) refl

-- ---- a step function that is the same wherever a test holds, and keeps it, mends the same

module _ (f g : State → Step → Stepped) (ok : State → Bool) (same : (st : State) (s : Step) → ok st ≡ true → f st s ≡ g st s) (keeps : (st : State) (s : Step) → ok st ≡ true → ok (f st s).state ≡ true) (cfg : Config) where
  pub fills_same : (st : State) (s : Step) (q : List Step) → ok st ≡ true → fills f cfg st s q ≡ fills g cfg st s q
  unfolding fills
  fills_same st s [] h = ap (λ (r : Stepped). is_taken r.answer) (same st s h)
  fills_same st s (x ∷ xs) h =
      ap (both (is_taken (f st (answered cfg st x)).answer)) (fills_same (f st (answered cfg st x)).state s xs (keeps st (answered cfg st x) h))
      ∙ ap (λ (r : Stepped). both (is_taken r.answer) (fills g cfg r.state s xs)) (same st (answered cfg st x) h)

  pub rank_same : (st : State) (s : Step) → ok st ≡ true → rank_of f cfg st s ≡ rank_of g cfg st s
  unfolding rank_of
  rank_same st s h = passed-same (fills f cfg st s) (fills g cfg st s) (sequences_of cfg) (λ q. fills_same st s q h)

  pub answered-same : (st : State) (q : List Step) → ok st ≡ true → answered_all f cfg st q ≡ answered_all g cfg st q
  unfolding answered_all
  answered-same st [] h = refl
  answered-same st (x ∷ xs) h =
      ap (λ (l : List Step). answered cfg st x ∷ l)
      (answered-same (f st (answered cfg st x)).state xs (keeps st (answered cfg st x) h)
      ∙ ap (λ (r : Stepped). answered_all g cfg r.state xs) (same st (answered cfg st x) h))

  pub after_same : (st : State) (q : List Step) → ok st ≡ true → state_after f st q ≡ state_after g st q
  unfolding state_after
  after_same st [] h = refl
  after_same st (s ∷ rs) h = after_same (f st s).state rs (keeps st s h) ∙ ap (λ (r : Stepped). state_after g r.state rs) (same st s h)

  pub after-keeps : (st : State) (q : List Step) → ok st ≡ true → ok (state_after f st q) ≡ true
  unfolding state_after
  after-keeps st [] h = h
  after-keeps st (s ∷ rs) h = after-keeps (f st s).state rs (keeps st s h)

  pub turn-same : (st : State) (s : Step) → ok st ≡ true → turn_of f cfg st s ≡ turn_of g cfg st s
  turn-same st s h =
      ap (λ (n : ℕ). record { passed = n; inserted = answered_all f cfg st (get_or (sequences_of cfg) n []); kept = s }) (rank_same st s h)
      ∙ ap (λ (l : List Step). record { passed = rank_of g cfg st s; inserted = l; kept = s }) (answered-same st (fill_of g cfg st s) h)

  pub turns_same : (st : State) (rs : List Step) → ok st ≡ true → turns_of f cfg st rs ≡ turns_of g cfg st rs
  unfolding turns_of
  turns_same st [] h = refl
  turns_same st (s ∷ rs) h =
      let more : List Turn = turns_of f cfg (state_after f st (turn_steps (turn_of f cfg st s))) rs in
      ap (λ (n : ℕ). pick (ltb n (length (sequences_of cfg))) (turn_of f cfg st s ∷ more) []) (rank_same st s h)
      ∙ ap (λ (l : List Turn). pick (can_fill g cfg st s) (turn_of f cfg st s ∷ l) [])
      (turns_same (state_after f st (turn_steps (turn_of f cfg st s))) rs (after-keeps st (turn_steps (turn_of f cfg st s)) h)
      ∙ ap (λ (m : State). turns_of g cfg m rs) (after_same st (turn_steps (turn_of f cfg st s)) h))
      ∙ ap (λ (t : Turn). pick (can_fill g cfg st s) (t ∷ turns_of g cfg (state_after g st (turn_steps t)) rs) []) (turn-same st s h)

  pub survey-same : (st : State) (t : List ℕ) → ok st ≡ true → survey_of f cfg st t ≡ survey_of g cfg st t
  unfolding survey_of
  survey-same st t h =
      ap (λ (ts : List Turn). pick (eqb (length ts) (length (steps_in t))) (on_last (whole_of t).last (length (steps_in t)) (Whole (length (mended_steps ts)) (note_count ts))) (Refused (length ts + 1) 31))
      (turns_same st (steps_in t) h)

-- ---- the test of a sound state need not be made again

module _ (cfg : Config) (st : State) (sound : sound_of cfg st ≡ true) where
  pub turns-once : (rs : List Step) → turns_of (step_of cfg) cfg st rs ≡ turns_of (inner_of cfg) cfg st rs
  turns-once rs = turns_same (step_of cfg) (inner_of cfg) (sound_of cfg) (once cfg) (kept_step cfg) cfg st rs sound

  pub survey-once : (t : List ℕ) → survey_of (step_of cfg) cfg st t ≡ survey_of (inner_of cfg) cfg st t
  survey-once t = survey-same (step_of cfg) (inner_of cfg) (sound_of cfg) (once cfg) (kept_step cfg) cfg st t sound
