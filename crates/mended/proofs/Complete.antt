-- 31 stands exactly at the first gap that no sequence fills.
-- Assumes nothing.
use Prim.Native.Nat.{ℕ, ◌+◌}
use mathlib.Core.Bool.{Bool, true, false}
use mathlib.Core.List.{List, [], ◌∷◌, ◌++◌, Memᴰ, append-nil}
use mathlib.Core.Path.{◌≡◌, refl, sym, ap, subst, ◌∙◌}
use native.Mathlib.Omega.{arith}
use borrow.Author.Tests.{ltb-true}
use Rattle.laws.proofs.Choosing.{clash}
use Rattle.faces.specs.Types.{Step, Config, State, Stepped}
use Rattle.rules.specs.Sound.{sound_of}
use Rattle.effects.specs.Step.{step_of}
use Rattle.recording.specs.Whole.{steps_in}
use Rattle.gaps.specs.declared.Mended.TheVariants.{Refused}
use Rattle.gaps.specs.Gaps.{Turn, sequences_of, fills, rank_of, can_fill, fill_of, turn_of, turn_steps, turns_of, state_after, mended_steps}
use Rattle.gaps.specs.Report.{mend_to}
use Rattle.gaps.proofs.Members.{at-member}
use Rattle.gaps.proofs.Turns.{turns-on, turns-off}
use Rattle.mended.specs.Claims.{Unfilled, Outcome, unsound, unfilled, unread, short, whole, RefusedIsUnfilled}
use Rattle.mended.proofs.Walks.{after-append}
use Rattle.mended.proofs.Fills.{accepted-after, can-fills}
use Rattle.mended.proofs.Answers.{kept_of, Stop, stop-length, mend-stop, answer-by-cases}

module _ (f : State → Step → Stepped) (cfg : Config) where
  -- steps that are all mended, and more behind them
  pub turns-append : (st : State) (xs ys : List Step) → kept_of (turns_of f cfg st xs) ≡ xs → turns_of f cfg st (xs ++ ys) ≡ turns_of f cfg st xs ++ turns_of f cfg (state_after f st (mended_steps (turns_of f cfg st xs))) ys
  unfolding mended_steps state_after turns_of
  turns-append st [] ys e = refl
  turns-append st (s ∷ xs) ys e = go (can_fill f cfg st s) refl (λ h. turns-append (state_after f st (turn_steps (turn_of f cfg st s))) xs ys h)
    where
      m : State
      m = state_after f st (turn_steps (turn_of f cfg st s))

      go : (b : Bool) → can_fill f cfg st s ≡ b → (kept_of (turns_of f cfg m xs) ≡ xs → turns_of f cfg m (xs ++ ys) ≡ turns_of f cfg m xs ++ turns_of f cfg (state_after f m (mended_steps (turns_of f cfg m xs))) ys)
          → turns_of f cfg st (s ∷ (xs ++ ys)) ≡ turns_of f cfg st (s ∷ xs) ++ turns_of f cfg (state_after f st (mended_steps (turns_of f cfg st (s ∷ xs)))) ys
      go true h rest =
          let on = turns-on f cfg st s xs h in
          let k : kept_of (turns_of f cfg m xs) ≡ xs = let q = sym (ap kept_of on) ∙ e in cc in
          turns-on f cfg st s (xs ++ ys) h
          ∙ ap (λ (l : List Turn). turn_of f cfg st s ∷ l) (rest k ∙ ap (λ (x : State). turns_of f cfg m xs ++ turns_of f cfg x ys) (sym (after-append f st (turn_steps (turn_of f cfg st s)) (mended_steps (turns_of f cfg m xs)))))
          ∙ ap (λ (l : List Turn). l ++ turns_of f cfg (state_after f st (mended_steps l)) ys) (sym on)
      go false h rest = absurd (let q = sym (ap kept_of (turns-off f cfg st s xs h)) ∙ e in let z : ◌≡◌ {A = ℕ} 0 1 = cc in omega arith)

-- no sequence fills, so none is found
nothing-found : (cfg : Config) (st : State) (s : Step) → ((q : List Step) → Memᴰ q (sequences_of cfg) → fills (step_of cfg) cfg st s q ≡ false) → can_fill (step_of cfg) cfg st s ≡ false
nothing-found cfg st s none = go (can_fill (step_of cfg) cfg st s) refl
  where
    go : (b : Bool) → can_fill (step_of cfg) cfg st s ≡ b → can_fill (step_of cfg) cfg st s ≡ false
    go true h = absurd (clash _ (can-fills cfg st s h) (none (fill_of (step_of cfg) cfg st s) (at-member (sequences_of cfg) (rank_of (step_of cfg) cfg st s) [] (ltb-true _ _ h))))
    go false h = h

unfilled-stop : (cfg : Config) (st : State) (rs : List Step) (place : ℕ) → (u : Unfilled cfg st rs place) → Stop (step_of cfg) cfg st rs (turns_of (step_of cfg) cfg st rs)
unfilled-stop cfg st rs place u =
    let f = step_of cfg in
    let m = state_after f st (mended_steps (turns_of f cfg st u.before)) in
    let at : m ≡ u.state = accepted-after cfg st u.state (mended_steps (turns_of f cfg st u.before)) u.reached in
    let none : can_fill f cfg m u.step ≡ false = subst (λ (x : State). can_fill f cfg x u.step ≡ false) (sym at) (nothing-found cfg u.state u.step u.none) in
    let same : turns_of f cfg st u.before ≡ turns_of f cfg st rs = sym (ap (turns_of f cfg st) u.split ∙ turns-append f cfg st u.before (u.step ∷ u.after) u.whole
    ∙ ap (λ (l : List Turn). turns_of f cfg st u.before ++ l) (turns-off f cfg m u.step u.after none) ∙ append-nil (turns_of f cfg st u.before)) in
    record {
      before = u.before;
      step = u.step;
      after = u.after;
      split = u.split;
      turns = same;
      kept = sym (ap kept_of same) ∙ u.whole;
      none = subst (λ (l : List Turn). can_fill f cfg (state_after f st (mended_steps l)) u.step ≡ false) same none;
    }

pub refused-is-unfilled : RefusedIsUnfilled
unfolding unfilled-stop
refused-is-unfilled cfg st t b p place = (λ h. go h (answer-by-cases cfg st t b p), λ h. back h.0 h.1)
  where
    go : mend_to cfg st t b p ≡ Refused place 31 → Outcome cfg st t b p (mend_to cfg st t b p) → (sound_of cfg st ≡ true) × Unfilled cfg st (steps_in t) place
    go h (unsound a e) = absurd (let z : ◌≡◌ {A = ℕ} 1 31 = cc in omega arith)
    go h (unfilled q a u e) = let z : q ≡ place = cc in (a, subst (Unfilled cfg st (steps_in t)) z u)
    go h (unread a m s e) = absurd (let z : ◌≡◌ {A = ℕ} 18 31 = cc in omega arith)
    go h (short a m s l e) = absurd (let z : ◌≡◌ {A = ℕ} 27 31 = cc in omega arith)
    go h (whole a m s l k e) = absurd (let z : ◌≡◌ {A = ℕ} 0 1 = cc in omega arith)

    back : sound_of cfg st ≡ true → Unfilled cfg st (steps_in t) place → mend_to cfg st t b p ≡ Refused place 31
    back h u =
        let x = unfilled-stop cfg st (steps_in t) place u in
        mend-stop cfg st t b p h x ∙ ap (λ (n : ℕ). Refused n 31) (ap (λ (n : ℕ). n + 1) (stop-length (step_of cfg) cfg st (steps_in t) _ x).0 ∙ sym u.at)
