-- Judging by the steps of a text and the field behind them, and what it comes to when two waits are one.
-- Assumes nothing.
use Prim.Native.Nat.{ℕ, zero, suc, ◌+◌, ◌≤◌, ◌<◌}
use mathlib.Core.Bool.{Bool, true, false}
use mathlib.Core.List.{List, [], ◌∷◌, ◌++◌}
use mathlib.Core.Logic.{◌⊎◌, inl, inr}
use mathlib.Core.Path.{◌≡◌, refl, sym, ap, ap₂, ◌∙◌, subst}
use native.Mathlib.Omega.{arith}
use lib.ListN.{length, drop}
use borrow.Author.Tests.{lt-ltb, le-ltb}
use Rattle.laws.specs.Choice.{pick}
use Rattle.laws.proofs.Choosing.{clash}
use Rattle.numbers.specs.Refusals.{not_sound, too_far}
use Rattle.faces.specs.Types.{Value, Step, Answer, Taken, Refused as Barred, Config, State, Stepped}
use Rattle.rules.specs.Sound.{sound_of}
use Rattle.effects.specs.Step.{on_answer, step_of}
use Rattle.stays_sound.proofs.Keeps.{kept_step}
use Rattle.recording.specs.declared.Field.{Field}
use Rattle.recording.specs.declared.Field.TheVariants.{Step as IsStep, End, Refused as NoField}
use Rattle.recording.specs.Whole.{Whole, whole_of, steps_in}
use Rattle.recording.proofs.Texts.{whole-step, whole-end, whole-refused}
use Rattle.judging.specs.declared.Verdict.{Verdict}
use Rattle.judging.specs.declared.Verdict.TheVariants.{Accepted, Refused, Unfinished}
use Rattle.judging.specs.declared.Judged.{Judged}
use Rattle.judging.specs.Judging.{verdict_refusal, verdict_place, judged, judge_from, judge_of}
use Rattle.judging.proofs.Laws.{judged-each}
use Rattle.merging.specs.Waits.{wait_for}
use Rattle.merged.specs.Claims.{verdict_moved, Moved, JudgedMoves, JudgedBefore}
use Rattle.merged.proofs.Waits.{Two, both-pass, first_passes, none_passes, unsound, two}

-- ---- by the steps

-- what the field behind the steps says
abbrev pub last_judged : Field → ℕ → State → Judged
last_judged (IsStep s z) n st = judged Unfinished n st
last_judged End n st = judged Accepted n st
last_judged (NoField past k) n st = judged (Refused (n + 1 + past) k) n st

unfoldable pub judge_steps : (State → Step → Stepped) → List Step → ℕ → Field → ℕ → State → Judged
judge_steps f [] a g n st = last_judged g n st
judge_steps f (s ∷ rs) zero g n st = judged Unfinished n st
judge_steps f (s ∷ rs) (suc a) g n st = on_answer (f st s).answer (λ v. judge_steps f rs a g (n + 1) (f st s).state) (λ k. judged (Refused (n + 1) k) n st)

module _ (f : State → Step → Stepped) (s : Step) (rs : List Step) (a : ℕ) (g : Field) (n : ℕ) (st : State) where
  one-barred : {k : ℕ} → (f st s).answer ≡ Barred k → judge_steps f (s ∷ rs) (suc a) g n st ≡ judged (Refused (n + 1) k) n st
  unfolding judge_steps
  one-barred q = rw q

  one-went : {v : Value} → (f st s).answer ≡ Taken v → judge_steps f (s ∷ rs) (suc a) g n st ≡ judge_steps f rs a g (n + 1) (f st s).state
  unfolding judge_steps
  one-went q = rw q

-- a text is judged by its steps and the field behind them
pub by-steps : (f : State → Step → Stepped) (a : ℕ) (t : List ℕ) (n : ℕ) (st : State) → judge_from f a t n st ≡ judge_steps f (steps_in t) a (whole_of t).last n st
unfolding judge_steps
by-steps f =
    judged-each f (λ a t n st j. j ≡ judge_steps f (steps_in t) a (whole_of t).last n st)
    (record {
      starved = λ t n st s z e. sym (by 0 n st (whole-step t s z e));
      ended = λ a t n st e. sym (by a n st (whole-end t e));
      stopped = λ a t n st k p e. sym (by a n st (whole-refused t k p e));
      barred = λ a t n st s z k e q. sym (by (suc a) n st (whole-step t s z e) ∙ one-barred f s (steps_in (drop z t)) a (whole_of (drop z t)).last n st q);
      went = λ a t n st s z v j e q rest. rest ∙ sym (by (suc a) n st (whole-step t s z e) ∙ one-went f s (steps_in (drop z t)) a (whole_of (drop z t)).last n st q);
    })
  where
    by : (a n : ℕ) (st : State) {w w' : Whole} → w ≡ w' → judge_steps f w.steps a w.last n st ≡ judge_steps f w'.steps a w'.last n st
    by a n st e = ap (λ (w : Whole). judge_steps f w.steps a w.last n st) e

-- ---- the same steps behind one step more

abbrev verdict_up : Verdict → Verdict
verdict_up Accepted = Accepted
verdict_up (Refused p k) = Refused (p + 1) k
verdict_up Unfinished = Unfinished

-- a verdict's place, if it has one, stands behind n
abbrev Behind : ℕ → Verdict → Type 0
Behind n Accepted = Unit {0}
Behind n (Refused p k) = n < p
Behind n Unfinished = Unit {0}

record Shifted (n : ℕ) (j j' : Judged) : Type 0 where
  verdict : j'.verdict ≡ verdict_up j.verdict
  count : j'.count ≡ j.count + 1
  state : j'.state ≡ j.state
  most : n ≤ j.count
  behind : Behind n j.verdict

less-behind : (n : ℕ) (v : Verdict) → Behind (n + 1) v → Behind n v
less-behind n Accepted h = tt
less-behind n (Refused p k) h = omega (arith, h)
less-behind n Unfinished h = tt

module _ (f : State → Step → Stepped) (g : Field) where
  shifted : (rs : List Step) (a n : ℕ) (st : State) → Shifted n (judge_steps f rs a g n st) (judge_steps f rs a g (n + 1) st)
  unfolding judge_steps
  shifted [] a n st = go g
    where
      go : (x : Field) → Shifted n (last_judged x n st) (last_judged x (n + 1) st)
      go (IsStep s z) = record { verdict = refl; count = refl; state = refl; most = omega arith; behind = tt }
      go End = record { verdict = refl; count = refl; state = refl; most = omega arith; behind = tt }
      go (NoField past k) = record { verdict = ap (λ (p : ℕ). Refused p k) (omega arith); count = refl; state = refl; most = omega arith; behind = omega arith }
  shifted (s ∷ rs) zero n st = record { verdict = refl; count = refl; state = refl; most = omega arith; behind = tt }
  shifted (s ∷ rs) (suc a) n st = go (f st s).answer (shifted rs a (n + 1) (f st s).state)
    where
      next : ℕ → Judged
      next m = judge_steps f rs a g (m + 1) (f st s).state

      go : (x : Answer) → Shifted (n + 1) (next n) (next (n + 1)) → Shifted n (on_answer x (λ v. next n) (λ k. judged (Refused (n + 1) k) n st)) (on_answer x (λ v. next (n + 1)) (λ k. judged (Refused (n + 1 + 1) k) (n + 1) st))
      go (Taken v) r = record { verdict = r.verdict; count = r.count; state = r.state; most = omega (arith, r.most); behind = less-behind n (next n).verdict r.behind }
      go (Barred k) r = record { verdict = refl; count = refl; state = refl; most = omega arith; behind = omega arith }

  -- the place of what is refused stands behind the steps before
  pub place-behind : (rs : List Step) (a n : ℕ) (st : State) (p k : ℕ) → (judge_steps f rs a g n st).verdict ≡ Refused p k → n < p
  place-behind rs a n st p k e = subst (Behind n) e (shifted rs a n st).behind

  -- more allowance than steps changes nothing
  pub enough : (rs : List Step) (more n : ℕ) (st : State) → judge_steps f rs (length rs + more) g n st ≡ judge_steps f rs (length rs) g n st
  unfolding judge_steps
  enough [] more n st = refl
  enough (s ∷ rs) more n st =
      let e : suc (length rs) + more ≡ suc (length rs + more) = omega arith in
      rw (e, enough rs more (n + 1) (f st s).state)

-- ---- what moves

up-back : (n : ℕ) (v : Verdict) → Behind (n + 1) v → v ≡ verdict_moved n (verdict_up v)
up-back n Accepted h = refl
up-back n (Refused p k) h = rw (lt-ltb (n + 1) (p + 1) (omega (arith, h))) (ap (λ (q : ℕ). Refused q k) (omega arith))
up-back n Unfinished h = refl

up-past : (n : ℕ) (v : Verdict) → Behind (n + 1) v → (verdict_place (verdict_up v) ≡ n + 1) ⊎ (verdict_place (verdict_up v) ≡ n + 2) → verdict_refusal (verdict_up v) ≡ too_far
up-past n Accepted h (inl e) = absurd (omega (arith, e))
up-past n Accepted h (inr e) = absurd (omega (arith, e))
up-past n (Refused p k) h (inl e) = absurd (omega (arith, e, h))
up-past n (Refused p k) h (inr e) = absurd (omega (arith, e, h))
up-past n Unfinished h (inl e) = absurd (omega (arith, e))
up-past n Unfinished h (inr e) = absurd (omega (arith, e))

-- behind both waits
moved-behind : (n : ℕ) (j j' : Judged) → Shifted (n + 1) j' j → Moved n j j'
moved-behind n j j' s = record {
  verdict = rw s.verdict (up-back n j'.verdict s.behind);
  count = rw (s.count, lt-ltb n (j'.count + 1) (omega (arith, s.most))) (omega arith);
  state = λ h. sym s.state;
  waits = rw s.verdict (up-past n j'.verdict s.behind);
}

-- before them
moved_before : (n p c k : ℕ) (st : State) → p ≤ n → c ≤ n → Moved n (judged (Refused p k) c st) (judged (Refused p k) c st)
moved_before n p c k st h g = record {
  verdict = rw (le-ltb (n + 1) p (omega (arith, h)));
  count = rw (le-ltb n c g);
  state = λ e. refl;
  waits = none;
}
  where
    none : (p ≡ n + 1) ⊎ (p ≡ n + 2) → k ≡ too_far
    none (inl e) = absurd (omega (arith, e, h))
    none (inr e) = absurd (omega (arith, e, h))

module _ (cfg : Config) (a b : ℕ) (after : List Step) (g : Field) where
  -- at them
  moved_here : (more n : ℕ) (st : State) → sound_of cfg st ≡ true
      → Moved n (judge_steps (step_of cfg) (wait_for a ∷ wait_for b ∷ after) (suc (suc more)) g n st) (judge_steps (step_of cfg) (wait_for (a + b) ∷ after) (suc more) g n st)
  unfolding judge_steps
  moved_here more n st s = go (two cfg st a b)
    where
      go : Two cfg st a b → Moved n (judge_steps (step_of cfg) (wait_for a ∷ wait_for b ∷ after) (suc (suc more)) g n st) (judge_steps (step_of cfg) (wait_for (a + b) ∷ after) (suc more) g n st)
      go (both-pass x y z) = rw (z, x, y) (moved-behind n _ _ (shifted (step_of cfg) g after more (n + 1) _))
      go (first_passes x y z) =
          rw (z, x, y)
          (record {
            verdict = rw (lt-ltb (n + 1) (n + 1 + 1) (omega arith)) (ap (λ (q : ℕ). Refused q too_far) (omega arith));
            count = rw (lt-ltb n (n + 1) (omega arith)) (omega arith);
            state = λ h. absurd (h refl);
            waits = λ h. refl;
          })
      go (none_passes x z) =
          rw (z, x)
          (record { verdict = rw (le-ltb (n + 1) (n + 1) (omega arith)); count = rw (le-ltb n n (omega arith)); state = λ h. refl; waits = λ h. refl })
      go (unsound u x z) = absurd (clash (sound_of cfg st) s u)

  pub moved-steps : (before : List Step) (more n m x y : ℕ) (st : State) → sound_of cfg st ≡ true → m ≡ n + length before → x ≡ length before + 2 + more → y ≡ length before + 1 + more
      → Moved m (judge_steps (step_of cfg) (before ++ (wait_for a ∷ wait_for b ∷ after)) x g n st) (judge_steps (step_of cfg) (before ++ (wait_for (a + b) ∷ after)) y g n st)
  unfolding judge_steps
  moved-steps [] more n m x y st s em ex ey =
      let e : m ≡ n = omega (arith, em) in
      let e2 : x ≡ suc (suc more) = omega (arith, ex) in
      let e3 : y ≡ suc more = omega (arith, ey) in
      rw (e, e2, e3) (moved_here more n st s)
  moved-steps (r ∷ before) more n m x y st s em ex ey =
      let e2 : x ≡ suc (length before + 2 + more) = omega (arith, ex) in
      let e3 : y ≡ suc (length before + 1 + more) = omega (arith, ey) in
      rw (e2, e3) (go (step_of cfg st r).answer (moved-steps before more (n + 1) m _ _ (step_of cfg st r).state (kept_step cfg st r s) (omega (arith, em)) refl refl))
    where
      J : Judged
      J = judge_steps (step_of cfg) (before ++ (wait_for a ∷ wait_for b ∷ after)) (length before + 2 + more) g (n + 1) (step_of cfg st r).state

      J' : Judged
      J' = judge_steps (step_of cfg) (before ++ (wait_for (a + b) ∷ after)) (length before + 1 + more) g (n + 1) (step_of cfg st r).state

      go : (w : Answer) → Moved m J J' → Moved m (on_answer w (λ v. J) (λ k. judged (Refused (n + 1) k) n st)) (on_answer w (λ v. J') (λ k. judged (Refused (n + 1) k) n st))
      go (Taken v) h = h
      go (Barred k) h = moved_before m (n + 1) n k st (omega (arith, em)) (omega (arith, em))

pub judged-moves : JudgedMoves
unfolding judge_of
judged-moves cfg st t t' n a b more h = go (sound_of cfg st) refl
  where
    go : (x : Bool) → sound_of cfg st ≡ x → Moved n (pick x (judge_from (step_of cfg) (n + 2 + more) t 0 st) (judged (Refused 0 not_sound) 0 st)) (pick x (judge_from (step_of cfg) (n + 1 + more) t' 0 st) (judged (Refused 0 not_sound) 0 st))
    go true s =
        let e : judge_from (step_of cfg) (n + 2 + more) t 0 st ≡ judge_steps (step_of cfg) (h.before ++ (wait_for a ∷ wait_for b ∷ h.after)) (n + 2 + more) (whole_of t').last 0 st =
        by-steps (step_of cfg) (n + 2 + more) t 0 st ∙ ap₂ (λ (l : List Step) (g : Field). judge_steps (step_of cfg) l (n + 2 + more) g 0 st) h.two h.last in
        let e' : judge_from (step_of cfg) (n + 1 + more) t' 0 st ≡ judge_steps (step_of cfg) (h.before ++ (wait_for (a + b) ∷ h.after)) (n + 1 + more) (whole_of t').last 0 st =
        by-steps (step_of cfg) (n + 1 + more) t' 0 st ∙ ap (λ (l : List Step). judge_steps (step_of cfg) l (n + 1 + more) (whole_of t').last 0 st) h.one in
        rw (e, e')
        (moved-steps cfg a b h.after (whole_of t').last h.before more 0 n (n + 2 + more) (n + 1 + more) st s (omega (arith, h.place)) (omega (arith, h.place)) (omega (arith, h.place)))
    go false s = moved_before n 0 0 not_sound st (omega arith) (omega arith)

-- ---- an allowance that comes to neither

before_same : (f : State → Step → Stepped) (before : List Step) (s s' : Step) (rs rs' : List Step) (a : ℕ) (g : Field) (n : ℕ) (st : State) → a ≤ length before
    → judge_steps f (before ++ (s ∷ rs)) a g n st ≡ judge_steps f (before ++ (s' ∷ rs')) a g n st
unfolding judge_steps
before_same f [] s s' rs rs' zero g n st l = refl
before_same f [] s s' rs rs' (suc a) g n st l = absurd (omega (arith, l))
before_same f (r ∷ before) s s' rs rs' zero g n st l = refl
before_same f (r ∷ before) s s' rs rs' (suc a) g n st l = rw (before_same f before s s' rs rs' a g (n + 1) (f st r).state (omega (arith, l)))

pub judged-before : JudgedBefore
unfolding judge_of
judged-before cfg st t t' n a b allowance h l =
    let e : judge_from (step_of cfg) allowance t 0 st ≡ judge_from (step_of cfg) allowance t' 0 st =
    by-steps (step_of cfg) allowance t 0 st ∙ ap₂ (λ (l : List Step) (g : Field). judge_steps (step_of cfg) l allowance g 0 st) h.two h.last
    ∙ before_same (step_of cfg) h.before (wait_for a) (wait_for (a + b)) (wait_for b ∷ h.after) h.after allowance (whole_of t').last 0 st (omega (arith, l, h.place))
    ∙ sym (by-steps (step_of cfg) allowance t' 0 st ∙ ap (λ (l : List Step). judge_steps (step_of cfg) l allowance (whole_of t').last 0 st) h.one) in
    ap (λ (j : Judged). pick (sound_of cfg st) j (judged (Refused 0 not_sound) 0 st)) e
