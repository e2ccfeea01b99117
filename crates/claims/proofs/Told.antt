-- The other way: from what stands in a text to the judgment, whole, with its verdict, its count and its state. By the induction over judging (`judged-each`): where the
-- steps are accepted the judge goes on, and where they end it says what stands there.
-- Assumes nothing.
use Prim.Native.Nat.{ℕ, zero, suc, ◌+◌, ◌≤◌, ◌<◌}
use mathlib.Core.Bool.{true}
use mathlib.Core.List.{List, [], ◌∷◌}
use mathlib.Core.Path.{◌≡◌, refl, sym, ap, ◌∙◌, subst}
use native.Mathlib.Omega.{arith}
use lib.ListN.{length, take, drop, length-drop}
use Rattle.laws.proofs.Choosing.{clash}
use Rattle.faces.specs.Types.{Step, Value, Taken, Refused as Barred, Config, State}
use Rattle.values.specs.Values.{answer_refusal}
use Rattle.effects.specs.Step.{step_of}
use Rattle.stays_sound.proofs.Refusals.{never-zero}
use Rattle.recording.specs.declared.Field.TheVariants.{Step as IsStep, End, Refused as NoField}
use Rattle.recording.specs.Recording.{field_of, field_refusal, field_past}
use Rattle.recording.specs.Whole.{Whole, whole_of, steps_in, is_end, is_sound}
use Rattle.recording.proofs.Texts.{whole-step, whole-end, whole-refused}
use Rattle.judging.specs.declared.Verdict.TheVariants.{Accepted, Refused, Unfinished}
use Rattle.judging.specs.declared.Judged.{Judged}
use Rattle.judging.specs.Judging.{judged, judge_from}
use Rattle.judging.proofs.Laws.{judged-each}
use Rattle.history.specs.Promises.{Accepted as AllAccepted}
use Rattle.claims.specs.Claims.{Stops, at_step, at_field}
use Rattle.claims.proofs.Counted.{steps-step, steps-end, sound-step}

-- ---- accepted steps

module _ (cfg : Config) where
  -- no step is accepted and refused
  both_ways : (st st' : State) (s : Step) (rs l : List Step) (k : ℕ) → (step_of cfg st s).answer ≡ Barred k → l ≡ s ∷ rs → AllAccepted cfg st l st' → ⊥
  unfolding AllAccepted
  both_ways st st' s rs l k q e h =
      let a : AllAccepted cfg st (s ∷ rs) st' = subst (λ (x : List Step). AllAccepted cfg st x st') e h in
      omega (arith, never-zero cfg st s k q, sym (ap answer_refusal q) ∙ a.0.0)

  -- what is left of accepted steps behind the first
  behind : (st st' : State) (s : Step) (rs l : List Step) → l ≡ s ∷ rs → AllAccepted cfg st l st' → AllAccepted cfg (step_of cfg st s).state rs st'
  unfolding AllAccepted
  behind st st' s rs l e h = let a : AllAccepted cfg st (s ∷ rs) st' = subst (λ (x : List Step). AllAccepted cfg st x st') e h in a.1

  -- no steps lead nowhere
  nowhere : (st st' : State) (l : List Step) → l ≡ [] → AllAccepted cfg st l st' → st ≡ st'
  unfolding AllAccepted
  nowhere st st' l e h = subst (λ (x : List Step). AllAccepted cfg st x st') e h

  -- ---- accepted

  pub whole-judged : (a : ℕ) (t : List ℕ) (n : ℕ) (st st' : State) → is_sound t ≡ true → length (steps_in t) ≤ a → AllAccepted cfg st (steps_in t) st'
      → judge_from (step_of cfg) a t n st ≡ judged Accepted (n + length (steps_in t)) st'
  whole-judged a t n st st' =
      judged-each (step_of cfg) (λ a t n st j. is_sound t ≡ true → length (steps_in t) ≤ a → AllAccepted cfg st (steps_in t) st' → j ≡ judged Accepted (n + length (steps_in t)) st')
      (record {
        starved = λ t n st s z e w l h. absurd (omega (arith, l, ap length (steps-step t s z e)));
        ended = λ a t n st e w l h. let c : n ≡ n + length (steps_in t) = omega (arith, ap length (steps-end t e)) in
            let x : st ≡ st' = nowhere st st' (steps_in t) (steps-end t e) h in ap (λ (m : ℕ). judged Accepted m st) c ∙ ap (judged Accepted (n + length (steps_in t))) x;
        stopped = λ a t n st k p e w l h. absurd (clash (is_sound t) w (ap (λ (x : Whole). is_end x.last) (whole-refused t k p e)));
        barred = λ a t n st s z k e q w l h. absurd (both_ways st st' s _ (steps_in t) k q (steps-step t s z e) h);
        went = λ a t n st s z v j e q rest w l h.
            rest (sym (sound-step t s z e) ∙ w) (omega (arith, l, ap length (steps-step t s z e))) (behind st st' s _ (steps_in t) (steps-step t s z e) h)
            ∙ ap (λ (m : ℕ). judged Accepted m st') (omega (arith, ap length (steps-step t s z e)));
      })
      a t n st

  -- ---- unfinished

  -- the first steps of a text with one step in front
  first_of : (a : ℕ) (t : List ℕ) (s : Step) (z : ℕ) → field_of t ≡ IsStep s z → take (suc a) (steps_in t) ≡ s ∷ take a (steps_in (drop z t))
  first_of a t s z e = ap (take (suc a)) (steps-step t s z e)

  pub cut-judged : (a : ℕ) (t : List ℕ) (n : ℕ) (st st' : State) → a < length (steps_in t) → AllAccepted cfg st (take a (steps_in t)) st'
      → judge_from (step_of cfg) a t n st ≡ judged Unfinished (n + a) st'
  cut-judged a t n st st' =
      judged-each (step_of cfg) (λ a t n st j. a < length (steps_in t) → AllAccepted cfg st (take a (steps_in t)) st' → j ≡ judged Unfinished (n + a) st')
      (record {
        starved = λ t n st s z e l h. let c : n ≡ n + 0 = omega arith in
            let x : st ≡ st' = nowhere st st' (take 0 (steps_in t)) refl h in ap (λ (m : ℕ). judged Unfinished m st) c ∙ ap (judged Unfinished (n + 0)) x;
        ended = λ a t n st e l h. absurd (omega (arith, l, ap length (steps-end t e)));
        stopped = λ a t n st k p e l h. absurd (omega (arith, l, ap (λ (w : Whole). length w.steps) (whole-refused t k p e)));
        barred = λ a t n st s z k e q l h. absurd (both_ways st st' s _ (take (suc a) (steps_in t)) k q (first_of a t s z e) h);
        went = λ a t n st s z v j e q rest l h.
            rest (omega (arith, l, ap length (steps-step t s z e))) (behind st st' s _ (take (suc a) (steps_in t)) (first_of a t s z e) h)
            ∙ ap (λ (m : ℕ). judged Unfinished m st') (omega arith);
      })
      a t n st

  -- ---- refused

  -- what stops with the first step stops behind it
  one_less : (a : ℕ) (t : List ℕ) (s : Step) (z m : ℕ) (x : State) (p k : ℕ) → field_of t ≡ IsStep s z → Stops cfg (suc a) t (suc m) x p k → (q : ℕ) × (p ≡ suc q) × Stops cfg a (drop z t) m x q k
  one_less a t s z m x p k e (at_step s' rest d l c r g) = (m + 1, omega (arith, c), at_step s' rest (sym (ap (drop (suc m)) (steps-step t s z e)) ∙ d) (omega (arith, l)) refl r g)
  one_less a t s z m x p k e (at_field c l w r g) = (
    m + 1 + field_past (whole_of (drop z t)).last,
    omega (arith, w, ap (λ (w : Whole). field_past w.last) (whole-step t s z e)),
    at_field (omega (arith, c, ap length (steps-step t s z e))) (omega (arith, l)) refl (sym (ap (λ (w : Whole). field_refusal w.last) (whole-step t s z e)) ∙ r) g,
  )

  -- what can stop at a field, by the field: nothing without an allowance, nothing at the end, its own refusal, that of its step
  stops-starved : (t : List ℕ) (s : Step) (z m : ℕ) (x : State) (p k : ℕ) → field_of t ≡ IsStep s z → Stops cfg 0 t m x p k → ⊥
  stops-starved t s z m x p k e (at_step s' rest d l c r g) = omega (arith, l)
  stops-starved t s z m x p k e (at_field c l w r g) = omega (arith, c, l, ap length (steps-step t s z e))

  stops_end : (a : ℕ) (t : List ℕ) (m : ℕ) (x : State) (p k : ℕ) → field_of t ≡ End → Stops cfg a t m x p k → ⊥
  stops_end a t m x p k e (at_step s' rest d l c r g) = omega (arith, ap length d, length-drop m (steps_in t), ap length (steps-end t e))
  stops_end a t m x p k e (at_field c l w r g) = omega (arith, g, sym r ∙ ap (λ (w : Whole). field_refusal w.last) (whole-end t e))

  stops-field : (a : ℕ) (t : List ℕ) (m : ℕ) (x : State) (p k k' past : ℕ) → field_of t ≡ NoField past k' → Stops cfg a t m x p k → (m ≡ 0) × (p ≡ 1 + past) × (k ≡ k')
  stops-field a t m x p k k' past e (at_step s' rest d l c r g) = absurd (omega (arith, ap length d, length-drop m (steps_in t), ap (λ (w : Whole). length w.steps) (whole-refused t k' past e)))
  stops-field a t m x p k k' past e (at_field c l w r g) =
      let z : m ≡ 0 = omega (arith, c, ap (λ (w : Whole). length w.steps) (whole-refused t k' past e)) in
      (z, omega (arith, w, z, ap (λ (w : Whole). field_past w.last) (whole-refused t k' past e)), sym r ∙ ap (λ (w : Whole). field_refusal w.last) (whole-refused t k' past e))

  -- the step at the front is the one that stops
  stops-step : (a : ℕ) (t : List ℕ) (s : Step) (z : ℕ) (x : State) (p k : ℕ) → field_of t ≡ IsStep s z → Stops cfg a t 0 x p k → (p ≡ 1) × (answer_refusal (step_of cfg x s).answer ≡ k) × (0 < k)
  stops-step a t s z x p k e (at_step s' rest d l c r g) = let same : s' ≡ s = heads (sym d ∙ steps-step t s z e) in (omega (arith, c), ap (λ (y : Step). answer_refusal (step_of cfg x y).answer) (sym same) ∙ r, g)
    where
      heads : {y w : Step} {ys ws : List Step} → y ∷ ys ≡ w ∷ ws → y ≡ w
      heads q = cc
  stops-step a t s z x p k e (at_field c l w r g) = absurd (omega (arith, c, ap length (steps-step t s z e)))

  abbrev Stopped : ℕ → List ℕ → ℕ → State → Judged → Type 0
  Stopped a t n st j = (m : ℕ) (st' : State) (p k : ℕ) → AllAccepted cfg st (take m (steps_in t)) st' → Stops cfg a t m st' p k → j ≡ judged (Refused (n + p) k) (n + m) st'

  -- equal places, numbers, counts and states make equal judgments
  alike : (p p' k k' n n' : ℕ) (x x' : State) → p ≡ p' → k ≡ k' → n ≡ n' → x ≡ x' → judged (Refused p k) n x ≡ judged (Refused p' k') n' x'
  alike p p' k k' n n' x x' a b c d = cc

  field-stopped : (a : ℕ) (t : List ℕ) (n : ℕ) (st : State) (k past : ℕ) → field_of t ≡ NoField past k → Stopped a t n st (judged (Refused (n + 1 + past) k) n st)
  field-stopped a t n st k' past e m st' p k h s =
      let w = stops-field a t m st' p k k' past e s in
      let none : take m (steps_in t) ≡ [] = ap (λ (j : ℕ). take j (steps_in t)) w.0 in
      alike _ _ _ _ _ _ _ _ (omega (arith, w.1)) (sym w.2) (omega (arith, w.0)) (nowhere st st' (take m (steps_in t)) none h)

  step-stopped : (a : ℕ) (t : List ℕ) (n : ℕ) (st : State) (s : Step) (z k : ℕ) → field_of t ≡ IsStep s z → (step_of cfg st s).answer ≡ Barred k → Stopped (suc a) t n st (judged (Refused (n + 1) k) n st)
  step-stopped a t n st s z k' e q zero st' p k h x =
      let same : st ≡ st' = nowhere st st' (take 0 (steps_in t)) refl h in
      let w = stops-step (suc a) t s z st p k e (subst (λ (y : State). Stops cfg (suc a) t 0 y p k) (sym same) x) in
      alike _ _ _ _ _ _ _ _ (omega (arith, w.0)) (sym (ap answer_refusal q) ∙ w.1) (omega arith) same
  step-stopped a t n st s z k' e q (suc m) st' p k h x = absurd (both_ways st st' s _ (take (suc m) (steps_in t)) k' q (first_of m t s z e) h)

  step-goes : (a : ℕ) (t : List ℕ) (n : ℕ) (st : State) (s : Step) (z : ℕ) (v : Value) (j : Judged) → field_of t ≡ IsStep s z → (step_of cfg st s).answer ≡ Taken v
      → Stopped a (drop z t) (n + 1) (step_of cfg st s).state j → Stopped (suc a) t n st j
  step-goes a t n st s z v j e q rest zero st' p k h x =
      let same : st ≡ st' = nowhere st st' (take 0 (steps_in t)) refl h in
      let w = stops-step (suc a) t s z st p k e (subst (λ (y : State). Stops cfg (suc a) t 0 y p k) (sym same) x) in
      absurd (omega (arith, w.2, sym w.1 ∙ ap answer_refusal q))
  step-goes a t n st s z v j e q rest (suc m) st' p k h x =
      let w = one_less a t s z m st' p k e x in
      rest m st' w.0 k (behind st st' s _ (take (suc m) (steps_in t)) (first_of m t s z e) h) w.2
      ∙ alike _ _ _ _ _ _ _ _ (omega (arith, w.1)) refl (omega arith) refl

  pub stopped-judged : (a : ℕ) (t : List ℕ) (n : ℕ) (st : State) → Stopped a t n st (judge_from (step_of cfg) a t n st)
  stopped-judged =
      judged-each (step_of cfg) Stopped
      (record {
        starved = λ t n st s z e m st' p k h x. absurd (stops-starved t s z m st' p k e x);
        ended = λ a t n st e m st' p k h x. absurd (stops_end a t m st' p k e x);
        stopped = field-stopped;
        barred = step-stopped;
        went = step-goes;
      })
