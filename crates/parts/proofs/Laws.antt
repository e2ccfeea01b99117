-- Laws of judging in parts, over any step function: what is judged does not depend on bytes that are not looked at, nor on steps counted before.
-- Assumes nothing.
use Prim.Native.Nat.{ℕ, suc, ◌+◌, ◌-◌, ◌*◌, ◌≤◌, ◌<◌}
use mathlib.Core.Bool.{Bool, true}
use mathlib.Core.List.{List, ◌++◌}
use mathlib.Core.Path.{◌≡◌, refl, sym, ap, ◌∙◌}
use native.Mathlib.Omega.{arith}
use lib.ListN.{length, drop, get_or, length-append, get_or-append}
use lib.Seq.{drop-drop, drop-append-le}
use borrow.Author.Tests.{le-ltb, ne_eqb}
use Rattle.numbers.specs.Tags.{step_size}
use Rattle.faces.specs.Types.{Step, State, Stepped}
use Rattle.recording.specs.Recording.{field_of, step_in, end_in}
use Rattle.recording.proofs.OneField.{step-told, refused-18}
use Rattle.recording.proofs.Texts.{step-shorter}
use Rattle.judging.specs.declared.Verdict.TheVariants.{Refused, Unfinished}
use Rattle.judging.specs.Judging.{judged, judge_from, rest_of, verdict_place}
use Rattle.judging.proofs.Laws.{ended, stopped, starved, barred, went, judged-each, unfinished-accepted, unfinished-refused}
use Rattle.parts.specs.Parts.{later}

-- ---- the field at the front of a text that has 16 bytes does not depend on what follows

field-front : (t r : List ℕ) → step_size ≤ length t → field_of (t ++ r) ≡ field_of t
unfolding field_of step_in end_in
field-front t r h =
    let n = length-append t r in
    let at : (i : ℕ) → i < step_size → get_or (t ++ r) i 0 ≡ get_or t i 0 = λ i l. get_or-append t r 0 i (omega (arith, l)) in
    simp (
      le-ltb (length (t ++ r)) 3 (omega arith),
      le-ltb (length t) 3 (omega arith),
      le-ltb (length (t ++ r)) step_size (omega arith),
      le-ltb (length t) step_size (omega arith),
      ne_eqb (length (t ++ r)) 3 (λ e. omega (arith, e)),
      ne_eqb (length t) 3 (λ e. omega (arith, e)),
      at 0 (omega arith),
      at 1 (omega arith),
      at 2 (omega arith),
      at 3 (omega arith),
      at 4 (omega arith),
      at 5 (omega arith),
      at 6 (omega arith),
      at 7 (omega arith),
      at 8 (omega arith),
      at 9 (omega arith),
      at 10 (omega arith),
      at 11 (omega arith),
      at 12 (omega arith),
      at 13 (omega arith),
      at 14 (omega arith),
      at 15 (omega arith),
    )

module _ (f : State → Step → Stepped) where
  -- ---- steps counted before
  pub judged-later : (n a : ℕ) (t : List ℕ) (m : ℕ) (st : State) → judge_from f a t (n + m) st ≡ later n (judge_from f a t m st)
  judged-later n =
      judged-each f (λ a t m st j. judge_from f a t (n + m) st ≡ later n j)
      (record {
        starved = λ t m st s z e. starved f t (n + m) st e;
        ended = λ a t m st e. ended f t (n + m) st a e;
        stopped = λ a t m st k p e. stopped f t (n + m) st a e ∙ ap (λ (x : ℕ). judged (Refused x k) (n + m) st) (omega arith);
        barred = λ a t m st s z k e q. barred f t (n + m) st (suc a) (λ c. omega (arith, c)) e refl q ∙ ap (λ (x : ℕ). judged (Refused x k) (n + m) st) (omega arith);
        went = λ a t m st s z v j e q rest. let one : suc a - 1 ≡ a = omega arith in
            let next : n + m + 1 ≡ n + (m + 1) = omega arith in
            went f t (n + m) st (suc a) (λ c. omega (arith, c)) e refl q ∙ rw (one, next) rest;
      })

  -- ---- an allowance as long as the text is never used up
  pub judged-finishes : (a : ℕ) (t : List ℕ) (n : ℕ) (st : State) → length t ≤ a → (judge_from f a t n st).verdict ≡ Unfinished → ⊥
  judged-finishes =
      judged-each f (λ a t n st j. length t ≤ a → j.verdict ≡ Unfinished → ⊥)
      (record {
        starved = λ t n st s z e h u. omega (arith, (step-told t s z e).long, h);
        ended = λ a t n st e h u. unfinished-accepted (sym u);
        stopped = λ a t n st k p e h u. unfinished-refused (sym u);
        barred = λ a t n st s z k e q h u. unfinished-refused (sym u);
        went = λ a t n st s z v j e q rest h u. rest (omega (arith, step-shorter t s z e, h)) u;
      })

  -- ---- bytes that are not looked at
  pub judged-front : (r : List ℕ) (a : ℕ) (t : List ℕ) (n : ℕ) (st : State) → step_size * a + step_size ≤ length t → judge_from f a (t ++ r) n st ≡ judge_from f a t n st
  judged-front r =
      judged-each f (λ a t n st j. step_size * a + step_size ≤ length t → judge_from f a (t ++ r) n st ≡ j)
      (record {
        starved = λ t n st s z e h. starved f (t ++ r) n st (field-front t r (omega (arith, h)) ∙ e);
        ended = λ a t n st e h. ended f (t ++ r) n st a (field-front t r (omega (arith, h)) ∙ e);
        stopped = λ a t n st k p e h. stopped f (t ++ r) n st a (field-front t r (omega (arith, h)) ∙ e);
        barred = λ a t n st s z k e q h. barred f (t ++ r) n st (suc a) (λ c. omega (arith, c)) (field-front t r (omega (arith, h)) ∙ e) refl q;
        went = λ a t n st s z v j e q rest h. let one : suc a - 1 ≡ a = omega arith in
            let d : drop z (t ++ r) ≡ drop z t ++ r = drop-append-le z t r (omega (arith, (step-told t s z e).size, h)) in
            went f (t ++ r) n st (suc a) (λ c. omega (arith, c)) (field-front t r (omega (arith, h)) ∙ e) refl q ∙ rw (one, d) (rest (omega (arith, step-shorter t s z e, h)));
      })

  -- ---- where an unfinished recording goes on: behind as many fields of 16 bytes
  pub rest-drop : (a : ℕ) (t : List ℕ) (n : ℕ) (st : State) → (judge_from f a t n st).verdict ≡ Unfinished → rest_of a t ≡ drop (step_size * a) t
  unfolding rest_of
  rest-drop =
      judged-each f (λ a t n st j. j.verdict ≡ Unfinished → rest_of a t ≡ drop (step_size * a) t)
      (record {
        starved = λ t n st s z e u. refl;
        ended = λ a t n st e u. absurd (unfinished-accepted (sym u));
        stopped = λ a t n st k p e u. absurd (unfinished-refused (sym u));
        barred = λ a t n st s z k e q u. absurd (unfinished-refused (sym u));
        went = λ a t n st s z v j e q rest u. let far : z + step_size * a ≡ step_size * suc a = omega (arith, (step-told t s z e).size) in
            rw e (rest u ∙ drop-drop (step_size * a) z t ∙ ap (λ (k : ℕ). drop k t) far);
      })

  -- ---- what each step keeps, all of them keep
  pub judged-keeps : (ok : State → Bool) → ((st : State) (s : Step) → ok st ≡ true → ok (f st s).state ≡ true) → (a : ℕ) (t : List ℕ) (n : ℕ) (st : State) → ok st ≡ true → ok (judge_from f a t n st).state ≡ true
  judged-keeps ok keeps =
      judged-each f (λ a t n st j. ok st ≡ true → ok j.state ≡ true)
      (record {
        starved = λ t n st s z e h. h;
        ended = λ a t n st e h. h;
        stopped = λ a t n st k p e h. h;
        barred = λ a t n st s z k e q h. h;
        went = λ a t n st s z v j e q rest h. rest (keeps st s h);
      })

  -- ---- no more steps are counted than allowed, and no place is more than two behind them
  pub judged-within : (a : ℕ) (t : List ℕ) (n : ℕ) (st : State) → ((judge_from f a t n st).count ≤ n + a) × (verdict_place (judge_from f a t n st).verdict ≤ n + a + 2)
  judged-within =
      judged-each f (λ a t n st j. (j.count ≤ n + a) × (verdict_place j.verdict ≤ n + a + 2))
      (record {
        starved = λ t n st s z e. omega arith;
        ended = λ a t n st e. omega arith;
        stopped = λ a t n st k p e. let q = (refused-18 t k p e).1 in omega arith;
        barred = λ a t n st s z k e q. omega arith;
        went = λ a t n st s z v j e q rest. let x = rest.0 in let y = rest.1 in omega arith;
      })
