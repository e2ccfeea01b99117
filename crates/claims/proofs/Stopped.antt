-- What a refused verdict stops at: the first step that is refused, or the field at which the text ceases to be a recording.
-- Assumes nothing.
use Prim.Native.Nat.{ℕ, suc, ◌+◌}
use mathlib.Core.List.{List}
use mathlib.Core.Path.{◌≡◌, ap, ◌∙◌}
use native.Mathlib.Omega.{arith}
use lib.ListN.{length, drop}
use Rattle.faces.specs.Types.{Step, Refused as Barred, Config, State}
use Rattle.values.specs.Values.{answer_refusal}
use Rattle.effects.specs.Step.{step_of}
use Rattle.stays_sound.proofs.Refusals.{never-zero}
use Rattle.recording.specs.declared.Field.TheVariants.{Step as IsStep, Refused as NoField}
use Rattle.recording.specs.Recording.{field_of, field_refusal, field_past}
use Rattle.recording.specs.Whole.{Whole}
use Rattle.recording.proofs.OneField.{refused-18}
use Rattle.recording.proofs.Texts.{whole-step, whole-refused}
use Rattle.judging.specs.declared.Verdict.TheVariants.{Refused}
use Rattle.judging.specs.declared.Judged.{Judged}
use Rattle.judging.specs.Judging.{verdict_refusal, verdict_place, verdict_form, judged, judge_from}
use Rattle.judging.proofs.Laws.{judged-each}
use Rattle.claims.specs.Claims.{Stops, at_step, at_field}
use Rattle.claims.proofs.Counted.{steps-step}

module _ (cfg : Config) where
  -- from a text on, with n steps taken before it
  pub record StopsFrom (a : ℕ) (t : List ℕ) (n : ℕ) (j : Judged) : Type 0 where
    pub steps : ℕ
    pub place : ℕ
    pub count : j.count ≡ n + steps
    pub at : verdict_place j.verdict ≡ n + place
    pub stops : Stops cfg a t steps j.state place (verdict_refusal j.verdict)

  -- what stops behind the first step stops with it
  one_more : (a : ℕ) (t : List ℕ) (s : Step) (z m : ℕ) (x : State) (q k : ℕ) → field_of t ≡ IsStep s z → Stops cfg a (drop z t) m x q k → Stops cfg (suc a) t (suc m) x (suc q) k
  one_more a t s z m x q k e (at_step s' rest d l p r g) = at_step s' rest (ap (drop (suc m)) (steps-step t s z e) ∙ d) (omega (arith, l)) (omega (arith, p)) r g
  one_more a t s z m x q k e (at_field c l p r g) =
      at_field (omega (arith, c, ap length (steps-step t s z e))) (omega (arith, l))
      (omega (arith, p, ap (λ (w : Whole). field_past w.last) (whole-step t s z e)))
      (ap (λ (w : Whole). field_refusal w.last) (whole-step t s z e) ∙ r) g

  one_further : (a : ℕ) (t : List ℕ) (n : ℕ) (s : Step) (z : ℕ) (j : Judged) → field_of t ≡ IsStep s z → StopsFrom a (drop z t) (n + 1) j → StopsFrom (suc a) t n j
  one_further a t n s z j e f = record {
    steps = suc f.steps;
    place = suc f.place;
    count = omega (arith, f.count);
    at = omega (arith, f.at);
    stops = one_more a t s z f.steps j.state f.place (verdict_refusal j.verdict) e f.stops;
  }

  field-stops : (a : ℕ) (t : List ℕ) (n : ℕ) (st : State) (k past : ℕ) → field_of t ≡ NoField past k → StopsFrom a t n (judged (Refused (n + 1 + past) k) n st)
  field-stops a t n st k past e = record {
    steps = 0;
    place = 1 + past;
    count = omega arith;
    at = omega arith;
    stops =
        at_field (ap (λ (w : Whole). length w.steps) (whole-refused t k past e)) (omega arith)
        (omega (arith, ap (λ (w : Whole). field_past w.last) (whole-refused t k past e)))
        (ap (λ (w : Whole). field_refusal w.last) (whole-refused t k past e)) (omega (arith, (refused-18 t k past e).0));
  }

  step-stops : (a : ℕ) (t : List ℕ) (n : ℕ) (st : State) (s : Step) (z k : ℕ) → field_of t ≡ IsStep s z → (step_of cfg st s).answer ≡ Barred k → StopsFrom (suc a) t n (judged (Refused (n + 1) k) n st)
  step-stops a t n st s z k e q = record {
    steps = 0;
    place = 1;
    count = omega arith;
    at = omega arith;
    stops = at_step s _ (steps-step t s z e) (omega arith) (omega arith) (ap answer_refusal q) (never-zero cfg st s k q);
  }

  pub stopped-at : (a : ℕ) (t : List ℕ) (n : ℕ) (st : State) → verdict_form (judge_from (step_of cfg) a t n st).verdict ≡ 1 → StopsFrom a t n (judge_from (step_of cfg) a t n st)
  stopped-at =
      judged-each (step_of cfg) (λ a t n st j. verdict_form j.verdict ≡ 1 → StopsFrom a t n j)
      (record {
        starved = λ t n st s z e h. absurd (omega (arith, h));
        ended = λ a t n st e h. absurd (omega (arith, h));
        stopped = λ a t n st k p e h. field-stops a t n st k p e;
        barred = λ a t n st s z k e q h. step-stops a t n st s z k e q;
        went = λ a t n st s z v j e q rest h. one_further a t n s z j e (rest h);
      })
