-- All neighbouring waits merged: by as many joinings of two. A place goes along with each.
-- Assumes nothing.
use Prim.Native.Nat.{ℕ, suc, ◌+◌, ◌*◌, ◌-◌, ◌≤◌, ◌<◌}
use mathlib.Core.Bool.{Bool, true, false}
use mathlib.Core.List.{List, [], ◌∷◌}
use mathlib.Core.Logic.{◌↔◌}
use mathlib.Core.Path.{◌≡◌, refl, sym, ap, ◌∙◌}
use native.Mathlib.Decide.{dec_le}
use native.Mathlib.Omega.{arith}
use lib.Dec.{leb}
use lib.ListN.{length, take}
use borrow.Author.Tests.{lt-ltb, le-ltb}
use Rattle.numbers.specs.Tags.{step_size, end_size}
use Rattle.laws.specs.Choice.{pick}
use Rattle.numbers.specs.Refusals.{not_sound}
use Rattle.faces.specs.Types.{Step, Answer, Taken, Refused as Barred, Config, State}
use Rattle.rules.specs.Sound.{sound_of}
use Rattle.effects.specs.Step.{on_answer, step_of}
use Rattle.stays_sound.proofs.Keeps.{kept_step}
use Rattle.recording.specs.declared.Field.{Field}
use Rattle.recording.specs.declared.Field.TheVariants.{Step as IsStep, End, Refused as NoField}
use Rattle.recording.specs.Whole.{Whole as Texted, whole_of, steps_in, is_end, is_sound, text_of}
use Rattle.recording.proofs.Texts.{text-reads, text-again, steps-recorded}
use Rattle.judging.specs.declared.Verdict.{Verdict}
use Rattle.judging.specs.declared.Verdict.TheVariants.{Accepted as Verdict-as-Accepted, Refused, Unfinished}
use Rattle.judging.specs.declared.Judged.{Judged}
use Rattle.judging.specs.Judging.{judged, judge_from, judge_of}
use Rattle.judging.proofs.Laws.{accepted-refused}
use Rattle.history.specs.Promises.{Accepted}
use Rattle.claims.proofs.FromBytes.{accepted-is-run}
use Rattle.merging.specs.declared.Merged.TheVariants.{Whole, Refused as Unmerged}
use Rattle.merging.specs.Waits.{wait_for, adds_up, joined, merged_from, merged_of}
use Rattle.merging.specs.Merging.{on_last, survey_of, fitted, merge_to}
use Rattle.merging.proofs.Waits.{adds-up, all-recorded}
use Rattle.merging.proofs.Walking.{merged-none, merged_on, merged-off, text-long}
use Rattle.merged.specs.Claims.{verdict_moved, Moved, AllMerge, verdict_merged, ToolKeeps, LineKeeps}
use Rattle.merged.proofs.Waits.{waits-follow}
use Rattle.merged.proofs.Verdicts.{judge_steps, by-steps, place-behind, enough, moved-steps}

-- ---- accepted

two-follow : (cfg : Config) (st st' : State) (s x : Step) (a b : ℕ) (after : List Step) → s ≡ wait_for a → x ≡ wait_for b → Accepted cfg st (s ∷ x ∷ after) st' ↔ Accepted cfg st (wait_for (a + b) ∷ after) st'
two-follow cfg st st' s x a b after e f = rw (e, f) (waits-follow cfg st st' a b after)

from-merge : (cfg : Config) (st st' : State) (s : Step) (xs : List Step) → Accepted cfg st (s ∷ xs) st' ↔ Accepted cfg st (merged_from s xs) st'
unfolding Accepted
from-merge cfg st st' s [] = rw (merged-none s) (λ h. h, λ h. h)
from-merge cfg st st' s (x ∷ xs) = go (adds_up s x) refl (λ m y. from-merge cfg m st' y xs)
  where
    go : (b : Bool) → adds_up s x ≡ b → ((m : State) (y : Step) → Accepted cfg m (y ∷ xs) st' ↔ Accepted cfg m (merged_from y xs) st') → Accepted cfg st (s ∷ x ∷ xs) st' ↔ Accepted cfg st (merged_from s (x ∷ xs)) st'
    go true e rest =
        let u = adds-up s x e in
        let w = two-follow cfg st st' s x _ _ xs u.first u.second in
        let r = rest st (joined s x) in
        rw (merged_on s x xs e) (λ h. r.0 (w.0 h), λ h. w.1 (r.1 h))
    go false e rest =
        let r = rest (step_of cfg st s).state x in
        rw (merged-off s x xs e) (λ h. (h.0, r.0 h.1), λ h. (h.0, r.1 h.1))

pub all-merge : AllMerge
unfolding merged_of
all-merge cfg st st' [] = (λ h. h, λ h. h)
all-merge cfg st st' (s ∷ xs) = from-merge cfg st st' s xs

-- ---- the verdict

module _ (cfg : Config) where
  -- all steps of a recording, as many as they are
  abbrev all : List Step → ℕ → State → Judged
  all rs n st = judge_steps (step_of cfg) rs (length rs) End n st

  -- an accepted recording counts all its steps
  all-counted : (rs : List Step) (n : ℕ) (st : State) → (all rs n st).verdict ≡ Verdict-as-Accepted → (all rs n st).count ≡ n + length rs
  unfolding judge_steps
  all-counted [] n st h = omega arith
  all-counted (s ∷ rs) n st h = go (step_of cfg st s).answer (all-counted rs (n + 1) (step_of cfg st s).state) h
    where
      go : (w : Answer) → ((all rs (n + 1) (step_of cfg st s).state).verdict ≡ Verdict-as-Accepted → (all rs (n + 1) (step_of cfg st s).state).count ≡ n + 1 + length rs)
          → (on_answer w (λ v. all rs (n + 1) (step_of cfg st s).state) (λ k. judged (Refused (n + 1) k) n st)).verdict ≡ Verdict-as-Accepted
          → (on_answer w (λ v. all rs (n + 1) (step_of cfg st s).state) (λ k. judged (Refused (n + 1) k) n st)).count ≡ n + suc (length rs)
      go (Taken v) r e = omega (arith, r e)
      go (Barred k) r e = absurd (accepted-refused (sym e))

-- a verdict on steps behind n others, for the merged steps behind m others
abbrev over : List Step → ℕ → ℕ → Verdict → Verdict
over rs n m Verdict-as-Accepted = Verdict-as-Accepted
over rs n m (Refused p k) = Refused (m + length (merged_of (take (p - n) rs))) k
over rs n m Unfinished = Unfinished

-- the place of the first
first-place : (s : Step) (rs : List Step) (n m k : ℕ) → over (s ∷ rs) n m (Refused (n + 1) k) ≡ Refused (m + 1) k
unfolding merged_of
first-place s rs n m k = let e : n + 1 - n ≡ 1 = omega arith in rw (e, merged-none s)

-- a place behind the first two, as it is taken
past_two : (n p : ℕ) → n + 2 ≤ p → (q : ℕ) × (p ≡ n + suc (suc q))
past_two n p h = (p - n - 2, omega (arith, h))

-- two that are joined
over-joined : (s x : Step) (xs : List Step) (n m : ℕ) (v : Verdict) → adds_up s x ≡ true → ((p k : ℕ) → v ≡ Refused p k → n < p) → over (joined s x ∷ xs) n m (verdict_moved n v) ≡ over (s ∷ x ∷ xs) n m v
unfolding merged_of
over-joined s x xs n m Verdict-as-Accepted e h = refl
over-joined s x xs n m (Refused p k) e h = go (dec_le (n + 2) p)
  where
    go : Dec (n + 2 ≤ p) → over (joined s x ∷ xs) n m (verdict_moved n (Refused p k)) ≡ over (s ∷ x ∷ xs) n m (Refused p k)
    go (yes l) =
        let q = past_two n p l in
        let a : p - 1 - n ≡ suc q.0 = omega (arith, q.1) in
        let b : p - n ≡ suc (suc q.0) = omega (arith, q.1) in
        rw (lt-ltb (n + 1) p (omega (arith, l)), a, b, merged_on s x (take q.0 xs) e)
    go (no l) =
        let z : p ≡ n + 1 = omega (arith, l, h p k refl) in
        rw (z, le-ltb (n + 1) (n + 1) (omega arith)) (first-place (joined s x) xs n m k ∙ sym (first-place s (x ∷ xs) n m k))
over-joined s x xs n m Unfinished e h = refl

-- one that stays
over-next : (s x : Step) (xs : List Step) (n m : ℕ) (v : Verdict) → adds_up s x ≡ false → ((p k : ℕ) → v ≡ Refused p k → n + 1 < p) → over (x ∷ xs) (n + 1) (m + 1) v ≡ over (s ∷ x ∷ xs) n m v
unfolding merged_of
over-next s x xs n m Verdict-as-Accepted e h = refl
over-next s x xs n m (Refused p k) e h =
    let q = past_two n p (omega (arith, h p k refl)) in
    let a : p - (n + 1) ≡ suc q.0 = omega (arith, q.1) in
    let b : p - n ≡ suc (suc q.0) = omega (arith, q.1) in
    rw (a, b, merged-off s x (take q.0 xs) e) (ap (λ (z : ℕ). Refused z k) (omega arith))
over-next s x xs n m Unfinished e h = refl

module _ (cfg : Config) where
  record Alike (rs : List Step) (n m : ℕ) (j j' : Judged) : Type 0 where
    verdict : j'.verdict ≡ over rs n m j.verdict
    state : j.verdict ≡ Verdict-as-Accepted → j'.state ≡ j.state

  accepted-moved : (n : ℕ) (v : Verdict) → v ≡ Verdict-as-Accepted → verdict_moved n v ≡ Verdict-as-Accepted
  accepted-moved n v e = rw e

  alike_from : (s : Step) (xs : List Step) (n m : ℕ) (st : State) → sound_of cfg st ≡ true → Alike (s ∷ xs) n m (all cfg (s ∷ xs) n st) (all cfg (merged_from s xs) m st)
  unfolding judge_steps
  alike_from s [] n m st z = rw (merged-none s) (go (step_of cfg st s).answer)
    where
      go : (w : Answer) → Alike (s ∷ []) n m (on_answer w (λ v. judged Verdict-as-Accepted (n + 1) (step_of cfg st s).state) (λ k. judged (Refused (n + 1) k) n st)) (on_answer w (λ v. judged Verdict-as-Accepted (m + 1) (step_of cfg st s).state) (λ k. judged (Refused (m + 1) k) m st))
      go (Taken v) = record { verdict = refl; state = λ e. refl }
      go (Barred k) = record { verdict = sym (first-place s [] n m k); state = λ e. absurd (accepted-refused (sym e)) }
  alike_from s (x ∷ xs) n m st z = go (adds_up s x) refl (alike_from (joined s x) xs n m st z) (alike_from x xs (n + 1) (m + 1) (step_of cfg st s).state (kept_step cfg st s z))
    where
      J : Judged
      J = all cfg (s ∷ x ∷ xs) n st

      J₁ : Judged
      J₁ = all cfg (joined s x ∷ xs) n st

      goes : (w : Answer) → adds_up s x ≡ false → (step_of cfg st s).answer ≡ w → Alike (x ∷ xs) (n + 1) (m + 1) (all cfg (x ∷ xs) (n + 1) (step_of cfg st s).state) (all cfg (merged_from x xs) (m + 1) (step_of cfg st s).state) → Alike (s ∷ x ∷ xs) n m J (all cfg (s ∷ merged_from x xs) m st)
      goes (Taken v) e q r =
          rw q
          (record {
            verdict = r.verdict ∙ over-next s x xs n m _ e (λ p k h. place-behind (step_of cfg) End (x ∷ xs) (length (x ∷ xs)) (n + 1) (step_of cfg st s).state p k h);
            state = r.state;
          })
      goes (Barred k) e q r = rw q (record { verdict = sym (first-place s (x ∷ xs) n m k); state = λ h. absurd (accepted-refused (sym h)) })

      go : (b : Bool) → adds_up s x ≡ b → Alike (joined s x ∷ xs) n m J₁ (all cfg (merged_from (joined s x) xs) m st)
          → Alike (x ∷ xs) (n + 1) (m + 1) (all cfg (x ∷ xs) (n + 1) (step_of cfg st s).state) (all cfg (merged_from x xs) (m + 1) (step_of cfg st s).state)
          → Alike (s ∷ x ∷ xs) n m J (all cfg (merged_from s (x ∷ xs)) m st)
      go true e r q =
          let u = adds-up s x e in
          let w = pair s x _ _ u.first u.second in
          rw (merged_on s x xs e)
          (record {
            verdict = r.verdict ∙ ap (over (joined s x ∷ xs) n m) w.verdict ∙ over-joined s x xs n m J.verdict e (λ p k h. place-behind (step_of cfg) End (s ∷ x ∷ xs) (length (s ∷ x ∷ xs)) n st p k h);
            state = λ h. r.state (w.verdict ∙ accepted-moved n J.verdict h) ∙ w.state (λ c. omega (arith, c, all-counted cfg (s ∷ x ∷ xs) n st h));
          })
        where
          pair : (y₁ y₂ : Step) (a b : ℕ) → y₁ ≡ wait_for a → y₂ ≡ wait_for b → Moved n (all cfg (y₁ ∷ y₂ ∷ xs) n st) (all cfg (wait_for (a + b) ∷ xs) n st)
          pair y₁ y₂ a b e₁ e₂ = rw (e₁, e₂) (moved-steps cfg a b xs End [] (length xs) n n (suc (suc (length xs))) (suc (length xs)) st z (omega arith) (omega arith) (omega arith))
      go false e r q = rw (merged-off s x xs e) (goes (step_of cfg st s).answer e refl q)

-- ---- the tool

over_none : (rs : List Step) (v : Verdict) → over rs 0 0 v ≡ verdict_merged rs v
over_none rs Verdict-as-Accepted = refl
over_none rs (Refused p k) = let e : p - 0 ≡ p = omega arith in rw e (ap (λ (q : ℕ). Refused q k) (omega arith))
over_none rs Unfinished = refl

module _ (cfg : Config) where
  all_alike : (rs : List Step) (st : State) → sound_of cfg st ≡ true → Alike cfg rs 0 0 (all cfg rs 0 st) (all cfg (merged_of rs) 0 st)
  unfolding merged_of judge_steps
  all_alike [] st z = record { verdict = refl; state = λ e. refl }
  all_alike (s ∷ xs) st z = alike_from cfg s xs 0 0 st z

  -- a recording judged by as much as it has steps, and more
  judged-all : (t : List ℕ) (rs : List Step) (st : State) (n more : ℕ) → sound_of cfg st ≡ true → whole_of t ≡ record { steps = rs; last = End } → n ≡ length rs → judge_of cfg st t (n + more) ≡ all cfg rs 0 st
  unfolding judge_of
  judged-all t rs st n more s w e =
      let q : judge_of cfg st t (n + more) ≡ judge_from (step_of cfg) (n + more) t 0 st = rw s in
      q ∙ by-steps (step_of cfg) (n + more) t 0 st ∙ ap (λ (x : Texted). judge_steps (step_of cfg) x.steps (n + more) x.last 0 st) w
      ∙ ap (λ (k : ℕ). judge_steps (step_of cfg) rs (k + more) End 0 st) e ∙ enough (step_of cfg) End rs more 0 st

  -- in a state that is not sound, 1 at place 0
  judged-none : (t : List ℕ) (st : State) (n : ℕ) → sound_of cfg st ≡ false → judge_of cfg st t n ≡ judged (Refused 0 not_sound) 0 st
  unfolding judge_of
  judged-none t st n s = rw s

-- fewer steps, or as many
merged-fewer : (s : Step) (xs : List Step) → length (merged_from s xs) ≤ suc (length xs)
merged-fewer s [] = omega (arith, ap length (merged-none s))
merged-fewer s (x ∷ xs) = go (adds_up s x) refl (merged-fewer (joined s x) xs) (merged-fewer x xs)
  where
    go : (b : Bool) → adds_up s x ≡ b → length (merged_from (joined s x) xs) ≤ suc (length xs) → length (merged_from x xs) ≤ suc (length xs) → length (merged_from s (x ∷ xs)) ≤ suc (suc (length xs))
    go true e l r = omega (arith, ap length (merged_on s x xs e), l)
    go false e l r = omega (arith, ap length (merged-off s x xs e), r)

all-fewer : (rs : List Step) → length (merged_of rs) ≤ length rs
unfolding merged_of
all-fewer [] = omega arith
all-fewer (s ∷ xs) = merged-fewer s xs

-- the tool merges recordings alone, and says how many steps are left
record Said (t : List ℕ) (n : ℕ) : Type 0 where
  last : (whole_of t).last ≡ End
  count : n ≡ length (merged_of (steps_in t))

said : (t b : List ℕ) (n : ℕ) → merge_to t b ≡ Whole n → Said t n
unfolding merge_to survey_of
said t b n h = go (whole_of t).last refl h
  where
    room : (x : Bool) (m : ℕ) → pick x (Whole m) (Unmerged 0 27) ≡ Whole n → n ≡ m
    room true m e = cc
    room false m e = absurd (let z : ◌≡◌ {A = ℕ} 0 1 = cc in omega arith)

    go : (f : Field) → (whole_of t).last ≡ f → fitted b (on_last f (length (steps_in t)) (Whole (length (merged_of (steps_in t))))) ≡ Whole n → Said t n
    go (IsStep s z) e k = absurd (let z : ◌≡◌ {A = ℕ} 0 1 = cc in omega arith)
    go End e k = record { last = e; count = room (leb (length (merged_of (steps_in t)) * step_size + end_size) (length b)) (length (merged_of (steps_in t))) k }
    go (NoField p r) e k = absurd (let z : ◌≡◌ {A = ℕ} 0 1 = cc in omega arith)

pub tool-keeps : ToolKeeps
unfolding merged_of
tool-keeps t b n small h =
    let d = said t b n h in
    let rs = steps_in t in
    let whole : whole_of t ≡ record { steps = steps_in t; last = End } = ap (λ (f : Field). record { steps = steps_in t; last = f }) d.last in
    let reads : whole_of (text_of (merged_of (steps_in t))) ≡ record { steps = merged_of (steps_in t); last = End } = text-reads (merged_of (steps_in t)) (all-recorded (steps_in t) (steps-recorded t small)) in
    let sound : is_sound t ≡ true = ap is_end d.last in
    record {
      whole = sound;
      count = d.count;
      sound = ap (λ (w : Texted). is_end w.last) reads;
      steps = ap (λ (w : Texted). w.steps) reads;
      shorter = omega (arith, text-long (merged_of rs), text-long rs, ap length (text-again t small sound), all-fewer rs);
      verdict = λ cfg st more. by-verdict cfg st more (sound_of cfg st) refl whole reads d.count;
      state = λ cfg st more. by_state cfg st more (sound_of cfg st) refl whole reads d.count;
    }
  where
    by-verdict : (cfg : Config) (st : State) (more : ℕ) (x : Bool) → sound_of cfg st ≡ x → whole_of t ≡ record { steps = steps_in t; last = End } → whole_of (text_of (merged_of (steps_in t))) ≡ record { steps = merged_of (steps_in t); last = End } → n ≡ length (merged_of (steps_in t))
        → (judge_of cfg st (text_of (merged_of (steps_in t))) (n + more)).verdict ≡ verdict_merged (steps_in t) (judge_of cfg st t (length (steps_in t) + more)).verdict
    by-verdict cfg st more true s whole reads count =
        ap (λ (j : Judged). j.verdict) (judged-all cfg (text_of (merged_of (steps_in t))) (merged_of (steps_in t)) st n more s reads count)
        ∙ (all_alike cfg (steps_in t) st s).verdict ∙ over_none (steps_in t) (all cfg (steps_in t) 0 st).verdict
        ∙ ap (λ (j : Judged). verdict_merged (steps_in t) j.verdict) (sym (judged-all cfg t (steps_in t) st (length (steps_in t)) more s whole refl))
    by-verdict cfg st more false s whole reads count =
        ap (λ (j : Judged). j.verdict) (judged-none cfg (text_of (merged_of (steps_in t))) st (n + more) s)
        ∙ none ∙ ap (λ (j : Judged). verdict_merged (steps_in t) j.verdict) (sym (judged-none cfg t st (length (steps_in t) + more) s))
      where
        none : Refused 0 not_sound ≡ verdict_merged (steps_in t) (Refused 0 not_sound)
        none = refl

    by_state : (cfg : Config) (st : State) (more : ℕ) (x : Bool) → sound_of cfg st ≡ x → whole_of t ≡ record { steps = steps_in t; last = End } → whole_of (text_of (merged_of (steps_in t))) ≡ record { steps = merged_of (steps_in t); last = End } → n ≡ length (merged_of (steps_in t))
        → (judge_of cfg st t (length (steps_in t) + more)).verdict ≡ Verdict-as-Accepted → (judge_of cfg st (text_of (merged_of (steps_in t))) (n + more)).state ≡ (judge_of cfg st t (length (steps_in t) + more)).state
    by_state cfg st more true s whole reads count h =
        let e = judged-all cfg t (steps_in t) st (length (steps_in t)) more s whole refl in
        ap (λ (j : Judged). j.state) (judged-all cfg (text_of (merged_of (steps_in t))) (merged_of (steps_in t)) st n more s reads count)
        ∙ (all_alike cfg (steps_in t) st s).state (sym (ap (λ (j : Judged). j.verdict) e) ∙ h)
        ∙ ap (λ (j : Judged). j.state) (sym e)
    by_state cfg st more false s whole reads count h = absurd (accepted-refused (sym (sym (ap (λ (j : Judged). j.verdict) (judged-none cfg t st (length (steps_in t) + more) s)) ∙ h)))

pub line-keeps : LineKeeps
line-keeps c t b n small h long few = let k = tool-keeps t b n small h in (
  λ l.
      let r = (accepted-is-run c t _).0 l in
      (accepted-is-run c (text_of (merged_of (steps_in t))) n).1
      (((r.0.0.0, omega (arith, k.shorter, long)), r.0.1), k.sound, k.count ∙ ap length (sym k.steps), omega (arith, k.count, all-fewer (steps_in t), few), r.4, rw k.steps ((all-merge _ _ _ (steps_in t)).0 r.5)),
  λ l.
      let r = (accepted-is-run c (text_of (merged_of (steps_in t))) n).0 l in
      (accepted-is-run c t _).1 (((r.0.0.0, long), r.0.1), k.whole, refl, few, r.4, (all-merge _ _ _ (steps_in t)).1 (rw k.steps at r.5)),
)
