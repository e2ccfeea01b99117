-- From bytes to steps: what a verdict counts are the first steps of the bytes, each accepted from the state before it, up to the state that the verdict gives;
-- an accepted text is a whole recording, and all of its steps are counted; an unfinished one has used up its allowance, and a step follows.
-- Assumes nothing.
use Prim.Native.Nat.{ℕ, suc, ◌+◌, ◌≤◌, ◌<◌}
use mathlib.Core.Bool.{true}
use mathlib.Core.List.{List, [], ◌∷◌}
use mathlib.Core.Path.{◌≡◌, refl, sym, ap, ◌∙◌}
use native.Mathlib.Omega.{arith}
use lib.ListN.{length, take, drop}
use Rattle.faces.specs.Types.{Value, Step, Taken, Config, State}
use Rattle.effects.specs.Step.{step_of}
use Rattle.recording.specs.declared.Field.TheVariants.{Step as IsStep, End}
use Rattle.recording.specs.Recording.{field_of}
use Rattle.recording.specs.Whole.{Whole, steps_in, is_end, is_sound}
use Rattle.recording.proofs.Texts.{whole-step, whole-end}
use Rattle.judging.specs.declared.Verdict.{Verdict}
use Rattle.judging.specs.declared.Verdict.TheVariants.{Accepted, Refused, Unfinished}
use Rattle.judging.specs.declared.Judged.{Judged}
use Rattle.judging.specs.Judging.{judged, judge_from}
use Rattle.judging.proofs.Laws.{judged-each, unfinished-accepted, unfinished-refused, accepted-refused}
use Rattle.history.specs.Promises.{Accepted as AllAccepted}
use Rattle.history.proofs.Runs.{of-taken}

-- ---- the steps of a text

pub steps-step : (t : List ℕ) (s : Step) (z : ℕ) → field_of t ≡ IsStep s z → steps_in t ≡ s ∷ steps_in (drop z t)
steps-step t s z e = ap (λ (w : Whole). w.steps) (whole-step t s z e)

pub steps-end : (t : List ℕ) → field_of t ≡ End → steps_in t ≡ []
steps-end t e = ap (λ (w : Whole). w.steps) (whole-end t e)

pub sound-step : (t : List ℕ) (s : Step) (z : ℕ) → field_of t ≡ IsStep s z → is_sound t ≡ is_sound (drop z t)
sound-step t s z e = ap (λ (w : Whole). is_end w.last) (whole-step t s z e)

sound-end : (t : List ℕ) → field_of t ≡ End → is_sound t ≡ true
sound-end t e = ap (λ (w : Whole). is_end w.last) (whole-end t e)

-- one more accepted step in front
one-accepted : (cfg : Config) (st : State) (s : Step) (v : Value) (rs l : List Step) (x : State) → (step_of cfg st s).answer ≡ Taken v → AllAccepted cfg (step_of cfg st s).state rs x → l ≡ s ∷ rs → AllAccepted cfg st l x
unfolding AllAccepted
one-accepted cfg st s v rs l x q h e = rw e (of-taken cfg st s q, h)

none-accepted : (cfg : Config) (st : State) (l : List Step) → l ≡ [] → AllAccepted cfg st l st
unfolding AllAccepted
none-accepted cfg st l e = rw e refl

-- ---- what a verdict counts

-- from a text on, with n steps taken before it: the steps counted are accepted, and lead to the state reached
module _ (cfg : Config) where
  pub record Counts (t : List ℕ) (n : ℕ) (st : State) (j : Judged) : Type 0 where
    pub steps : ℕ
    pub count : j.count ≡ n + steps
    pub there : steps ≤ length (steps_in t)
    pub taken : AllAccepted cfg st (take steps (steps_in t)) j.state

  none-counted : (t : List ℕ) (n : ℕ) (st : State) (v : Verdict) → Counts t n st (judged v n st)
  none-counted t n st v = record {
    steps = 0;
    count = omega arith;
    there = omega arith;
    taken = none-accepted cfg st [] refl;
  }

  one-counted : (t : List ℕ) (n : ℕ) (st : State) (s : Step) (z : ℕ) (v : Value) (j : Judged) → field_of t ≡ IsStep s z → (step_of cfg st s).answer ≡ Taken v → Counts (drop z t) (n + 1) (step_of cfg st s).state j → Counts t n st j
  one-counted t n st s z v j e q c = record {
    steps = suc c.steps;
    count = omega (arith, c.count);
    there = omega (arith, c.there, ap length (steps-step t s z e));
    taken = one-accepted cfg st s v (take c.steps (steps_in (drop z t))) (take (suc c.steps) (steps_in t)) j.state q c.taken (ap (take (suc c.steps)) (steps-step t s z e));
  }

  pub counted : (a : ℕ) (t : List ℕ) (n : ℕ) (st : State) → Counts t n st (judge_from (step_of cfg) a t n st)
  counted =
      judged-each (step_of cfg) (λ a t n st j. Counts t n st j)
      (record {
        starved = λ t n st s z e. none-counted t n st Unfinished;
        ended = λ a t n st e. none-counted t n st Accepted;
        stopped = λ a t n st k p e. none-counted t n st (Refused (n + 1 + p) k);
        barred = λ a t n st s z k e q. none-counted t n st (Refused (n + 1) k);
        went = λ a. one-counted;
      })

  -- an accepted text is a whole recording of as many steps as were allowed or fewer, and all of them are counted
  pub record WholeCounted (a : ℕ) (t : List ℕ) (n : ℕ) (st : State) (j : Judged) : Type 0 where
    pub whole : is_sound t ≡ true
    pub most : length (steps_in t) ≤ a
    pub count : j.count ≡ n + length (steps_in t)
    pub taken : AllAccepted cfg st (steps_in t) j.state

  end_whole : (a : ℕ) (t : List ℕ) (n : ℕ) (st : State) → field_of t ≡ End → WholeCounted a t n st (judged Accepted n st)
  end_whole a t n st e = record {
    whole = sound-end t e;
    most = omega (arith, ap length (steps-end t e));
    count = omega (arith, ap length (steps-end t e));
    taken = none-accepted cfg st (steps_in t) (steps-end t e);
  }

  step-whole : (a : ℕ) (t : List ℕ) (n : ℕ) (st : State) (s : Step) (z : ℕ) (v : Value) (j : Judged) → field_of t ≡ IsStep s z → (step_of cfg st s).answer ≡ Taken v
      → WholeCounted a (drop z t) (n + 1) (step_of cfg st s).state j → WholeCounted (suc a) t n st j
  step-whole a t n st s z v j e q c = record {
    whole = sound-step t s z e ∙ c.whole;
    most = omega (arith, c.most, ap length (steps-step t s z e));
    count = omega (arith, c.count, ap length (steps-step t s z e));
    taken = one-accepted cfg st s v (steps_in (drop z t)) (steps_in t) j.state q c.taken (steps-step t s z e);
  }

  pub accepted-whole : (a : ℕ) (t : List ℕ) (n : ℕ) (st : State) → (judge_from (step_of cfg) a t n st).verdict ≡ Accepted → WholeCounted a t n st (judge_from (step_of cfg) a t n st)
  accepted-whole =
      judged-each (step_of cfg) (λ a t n st j. j.verdict ≡ Accepted → WholeCounted a t n st j)
      (record {
        starved = λ t n st s z e h. absurd (unfinished-accepted h);
        ended = λ a t n st e h. end_whole a t n st e;
        stopped = λ a t n st k p e h. absurd (accepted-refused (sym h));
        barred = λ a t n st s z k e q h. absurd (accepted-refused (sym h));
        went = λ a t n st s z v j e q rest h. step-whole a t n st s z v j e q (rest h);
      })

  -- an unfinished one has taken all that was allowed, and leaves a step that was not tried
  pub unfinished-more : (a : ℕ) (t : List ℕ) (n : ℕ) (st : State) → (judge_from (step_of cfg) a t n st).verdict ≡ Unfinished
      → ((judge_from (step_of cfg) a t n st).count ≡ n + a) × (a < length (steps_in t))
  unfinished-more =
      judged-each (step_of cfg) (λ a t n st j. j.verdict ≡ Unfinished → (j.count ≡ n + a) × (a < length (steps_in t)))
      (record {
        starved = λ t n st s z e h. (omega arith, omega (arith, ap length (steps-step t s z e)));
        ended = λ a t n st e h. absurd (unfinished-accepted (sym h));
        stopped = λ a t n st k p e h. absurd (unfinished-refused (sym h));
        barred = λ a t n st s z k e q h. absurd (unfinished-refused (sym h));
        went = λ a t n st s z v j e q rest h. (omega (arith, (rest h).0), omega (arith, (rest h).1, ap length (steps-step t s z e)));
      })
