-- The step of a wait, and two of them: accepted exactly where their sum is, which reaches the same state. That the state between is sound, as the second asks, is `kept_step`.
-- Assumes nothing.
use Prim.Native.Nat.{ℕ, ◌+◌, ◌-◌, ◌≤◌, ◌<◌}
use mathlib.Core.Bool.{Bool, true, false}
use mathlib.Core.List.{List, [], ◌∷◌}
use mathlib.Core.Logic.{◌⊎◌, inl, inr}
use mathlib.Core.Path.{◌≡◌, refl, sym, ap, ◌∙◌, subst}
use native.Mathlib.Decide.{dec_lt}
use native.Mathlib.Omega.{arith}
use lib.ListN.{length, get_or, get_or-eq_default}
use borrow.Author.Tests.{le-leb, leb-true}
use Rattle.laws.specs.Choice.{pick, both}
use Rattle.laws.specs.Row.{each_below}
use Rattle.laws.proofs.Choosing.{both_left, both_right, both-make}
use Rattle.laws.proofs.Looping.{all-at, all-of}
use Rattle.laws.proofs.Places.{each_at, each-length}
use Rattle.numbers.specs.Refusals.{not_sound, too_far}
use Rattle.numbers.specs.Codes.{wait_code}
use Rattle.faces.specs.Types.{Step, Config, Operation, Runnable, Slot, Slots, State, Stepped}
use Rattle.values.specs.Values.{void_v, same_value, answer_refusal}
use Rattle.state.specs.Parts.{no_runnable}
use Rattle.state.specs.Tables.{max_slots, operation_in, timer_in, slot_in}
use Rattle.rules.specs.Rows.{rows, row_of}
use Rattle.rules.specs.Refusals.{argues, formed, part_there, scheduler_refusal, refusal_by, refusal_of}
use Rattle.rules.specs.Sound.{is_held, sound_of}
use Rattle.effects.specs.Steps.{refused, took, is_open, operation_lets, timer_lets, slot_lets, operations_let, timers_let, slots_let, runnable_after, runnables_after, all_let, waited, wait_of}
use Rattle.effects.specs.Step.{possible_of, agrees, claimed_of, inner_of, step_of}
use Rattle.effects.proofs.Codes.{wait, possible-by}
use Rattle.stays_sound.proofs.Keeps.{kept_step}
use Rattle.history.specs.Promises.{Answers, Accepted}
use Rattle.history.proofs.Runs.{halves, joined}
use Rattle.history.proofs.Together.{demand3}
use Rattle.merging.specs.Waits.{wait_for}
use Rattle.merged.specs.Claims.{WaitsAddUp, WaitsStopAlike, WaitsStopFar, WaitIsBounded, IntervalsStop, WaitsMerge, MergedKeeps}
use Rattle.state.specs.Places.{place_in}
use Rattle.merged.proofs.Adding.{lets-add, waited-add}

-- ---- one wait

-- refusals 2 to 5 let it through
wait-let : (cfg : Config) (ss : Slots) (t : ℕ) → refusal_of cfg ss (wait_for t) ≡ 0
unfolding refusal_of refusal_by scheduler_refusal formed argues part_there row_of rows
wait-let cfg ss t = refl

wait-possible : (cfg : Config) (st : State) (t : ℕ) → possible_of cfg st (wait_for t) ≡ wait_of cfg st t
wait-possible cfg st t = possible-by cfg st (wait_for t) wait refl (wait-let cfg st.slots t)

-- what its step comes to, by whether the state is sound and lets the time pass
abbrev pub waiting : Config → State → ℕ → Bool → Bool → Stepped
waiting cfg st t sound lets = pick sound (pick lets (took void_v (waited cfg st t)) (refused too_far st)) (refused not_sound st)

pub wait-step : (cfg : Config) (st : State) (t : ℕ) → step_of cfg st (wait_for t) ≡ waiting cfg st t (sound_of cfg st) (all_let cfg st t)
unfolding step_of inner_of wait_of claimed_of agrees same_value
wait-step cfg st t = rw (wait-possible cfg st t) (go (sound_of cfg st) (all_let cfg st t))
  where
    go : (s b : Bool) → pick s (claimed_of (wait_for t) st (pick b (took void_v (waited cfg st t)) (refused too_far st))) (refused not_sound st) ≡ waiting cfg st t s b
    go true true = refl
    go true false = refl
    go false b = refl

-- a sound state stays so
pub waited-sound : (cfg : Config) (st : State) (t : ℕ) → sound_of cfg st ≡ true → all_let cfg st t ≡ true → sound_of cfg (waited cfg st t) ≡ true
waited-sound cfg st t s e =
    let w : step_of cfg st (wait_for t) ≡ took void_v (waited cfg st t) = wait-step cfg st t ∙ rw (s, e) in
    subst (λ (x : Stepped). sound_of cfg x.state ≡ true) w (kept_step cfg st (wait_for t) s)

-- a wait that is accepted is let, and reaches the state after it
told-wait : (cfg : Config) (st : State) (t : ℕ) → Answers (step_of cfg st (wait_for t)).answer (wait_for t) → (all_let cfg st t ≡ true) × ((step_of cfg st (wait_for t)).state ≡ waited cfg st t)
told-wait cfg st t h = rw (wait-step cfg st t) (go (sound_of cfg st) (all_let cfg st t) (rw (wait-step cfg st t) at h))
  where
    go : (s b : Bool) → Answers (waiting cfg st t s b).answer (wait_for t) → (b ≡ true) × ((waiting cfg st t s b).state ≡ waited cfg st t)
    go true true q = (refl, refl)
    go true false q = absurd (omega (arith, q.0))
    go false b q = absurd (omega (arith, q.0))

pub wait-is-bounded : WaitIsBounded
unfolding Accepted agrees same_value all_let operations_let operation_lets timers_let timer_lets slots_let slot_lets
wait-is-bounded cfg st t s = (to, from)
  where
    Bounds : Type 0
    Bounds = ((o : ℕ) → o < cfg.operations.n → is_open st o ≡ true → t ≤ (operation_in st.operations o).count) × ((k : ℕ) → k < cfg.timers.n → t ≤ (timer_in st.timers k).count)
        × ((i : ℕ) → i < max_slots → is_held (slot_in st.slots i).life ≡ true → t ≤ (slot_in st.slots i).life.awaited.left)

    to : ((st' : State) × Accepted cfg st (wait_for t ∷ []) st') → Bounds
    to (st', h) =
        let e = (told-wait cfg st t h.0).0 in
        let r = both_right (operations_let cfg st.operations t) _ e in (
          λ o b c. leb-true _ _ (rw c at (all-at (λ (j : ℕ). operation_lets t (operation_in st.operations j)) cfg.operations.n (both_left (operations_let cfg st.operations t) _ e) o b)),
          λ k b. leb-true _ _ (all-at (λ (j : ℕ). timer_lets t (timer_in st.timers j)) cfg.timers.n (both_left (timers_let cfg st.timers t) _ r) k b),
          λ i b c. leb-true _ _ (rw c at (all-at (λ (j : ℕ). slot_lets t (slot_in st.slots j)) max_slots (both_right (timers_let cfg st.timers t) _ r) i b)),
        )

    lets : (x : Operation) → (x.calling ≡ true → t ≤ x.count) → operation_lets t x ≡ true
    lets x h = go x.calling refl
      where
        go : (c : Bool) → x.calling ≡ c → operation_lets t x ≡ true
        go true e = rw e (le-leb _ _ (h e))
        go false e = rw e

    holds : (x : Slot) → (is_held x.life ≡ true → t ≤ x.life.awaited.left) → slot_lets t x ≡ true
    holds x h = go (is_held x.life) refl
      where
        go : (c : Bool) → is_held x.life ≡ c → slot_lets t x ≡ true
        go true e = rw e (le-leb _ _ (h e))
        go false e = rw e

    from : Bounds → (st' : State) × Accepted cfg st (wait_for t ∷ []) st'
    from h =
        let e : all_let cfg st t ≡ true =
        both-make _ _ (all-of (λ (j : ℕ). operation_lets t (operation_in st.operations j)) cfg.operations.n (λ o b. lets (operation_in st.operations o) (h.0 o b)))
        (both-make _ _ (all-of (λ (j : ℕ). timer_lets t (timer_in st.timers j)) cfg.timers.n (λ k b. le-leb _ _ (h.1 k b)))
        (all-of (λ (j : ℕ). slot_lets t (slot_in st.slots j)) max_slots (λ i b. holds (slot_in st.slots i) (h.2 i b)))) in
        (waited cfg st t, rw (wait-step cfg st t, s, e) ((refl, refl), refl))

pub intervals-stop : IntervalsStop
unfolding Accepted waited runnables_after place_in no_runnable
intervals-stop cfg st st' t r h b =
    let e : st' ≡ waited cfg st t = sym h.1 ∙ (told-wait cfg st t h.0).1 in
    rw e (go (dec_lt r (length st.runnables.at)))
  where
    go : Dec (r < length st.runnables.at) → (get_or (each_below (λ (k : ℕ) (x : Runnable). runnable_after t x) no_runnable cfg.runnables.n st.runnables.at) r no_runnable).interval ≡ (get_or st.runnables.at r no_runnable).interval - t
    go (yes l) = ap (λ (x : Runnable). x.interval) (each_at (λ (k : ℕ) (x : Runnable). runnable_after t x) no_runnable cfg.runnables.n st.runnables.at r b l)
    go (no l) =
        let u : get_or st.runnables.at r no_runnable ≡ no_runnable = get_or-eq_default st.runnables.at no_runnable (omega (arith, l)) in
        let v : get_or (each_below (λ (k : ℕ) (x : Runnable). runnable_after t x) no_runnable cfg.runnables.n st.runnables.at) r no_runnable ≡ no_runnable = get_or-eq_default (each_below (λ (k : ℕ) (x : Runnable). runnable_after t x) no_runnable cfg.runnables.n st.runnables.at) no_runnable (omega (arith, l, each-length (λ (k : ℕ) (x : Runnable). runnable_after t x) no_runnable cfg.runnables.n st.runnables.at)) in
        rw (u, v) (omega arith)

-- ---- two waits

-- by what the state lets pass: both and so their sum, the first alone, neither, or the state is not sound
pub data Two (cfg : Config) (st : State) (a b : ℕ) : Type 0 where
  both-pass : step_of cfg st (wait_for a) ≡ took void_v (waited cfg st a) → step_of cfg (waited cfg st a) (wait_for b) ≡ took void_v (waited cfg st (a + b)) → step_of cfg st (wait_for (a + b)) ≡ took void_v (waited cfg st (a + b)) → Two cfg st a b
  first_passes : step_of cfg st (wait_for a) ≡ took void_v (waited cfg st a) → step_of cfg (waited cfg st a) (wait_for b) ≡ refused too_far (waited cfg st a) → step_of cfg st (wait_for (a + b)) ≡ refused too_far st → Two cfg st a b
  none_passes : step_of cfg st (wait_for a) ≡ refused too_far st → step_of cfg st (wait_for (a + b)) ≡ refused too_far st → Two cfg st a b
  unsound : sound_of cfg st ≡ false → step_of cfg st (wait_for a) ≡ refused not_sound st → step_of cfg st (wait_for (a + b)) ≡ refused not_sound st → Two cfg st a b

pub two : (cfg : Config) (st : State) (a b : ℕ) → Two cfg st a b
two cfg st a b = go (sound_of cfg st) refl (all_let cfg st a) refl (all_let cfg (waited cfg st a) b) refl
  where
    sum : (x y : Bool) → all_let cfg st a ≡ x → all_let cfg (waited cfg st a) b ≡ y → all_let cfg st (a + b) ≡ both x y
    sum x y e f = rw (lets-add cfg st a b, e, f)

    go : (s : Bool) → sound_of cfg st ≡ s → (x : Bool) → all_let cfg st a ≡ x → (y : Bool) → all_let cfg (waited cfg st a) b ≡ y → Two cfg st a b
    go true s true e true f =
        both-pass (wait-step cfg st a ∙ rw (s, e)) (wait-step cfg (waited cfg st a) b ∙ rw (waited-sound cfg st a s e, f, waited-add cfg st a b))
        (wait-step cfg st (a + b) ∙ rw (s, sum true true e f))
    go true s true e false f =
        first_passes (wait-step cfg st a ∙ rw (s, e)) (wait-step cfg (waited cfg st a) b ∙ rw (waited-sound cfg st a s e, f))
        (wait-step cfg st (a + b) ∙ rw (s, sum true false e f))
    go true s false e y f = none_passes (wait-step cfg st a ∙ rw (s, e)) (wait-step cfg st (a + b) ∙ rw (s, sum false y e f))
    go false s x e y f = unsound s (wait-step cfg st a ∙ rw s) (wait-step cfg st (a + b) ∙ rw s)

-- ---- what is said of them

module _ (cfg : Config) (st st' : State) (a b : ℕ) (after : List Step) where
  -- whatever follows
  pub waits-follow : (Accepted cfg st (wait_for a ∷ wait_for b ∷ after) st' → Accepted cfg st (wait_for (a + b) ∷ after) st') × (Accepted cfg st (wait_for (a + b) ∷ after) st' → Accepted cfg st (wait_for a ∷ wait_for b ∷ after) st')
  unfolding Accepted agrees same_value
  waits-follow = go (two cfg st a b)
    where
      go : Two cfg st a b → (Accepted cfg st (wait_for a ∷ wait_for b ∷ after) st' → Accepted cfg st (wait_for (a + b) ∷ after) st') × (Accepted cfg st (wait_for (a + b) ∷ after) st' → Accepted cfg st (wait_for a ∷ wait_for b ∷ after) st')
      go (both-pass x y z) = rw (z, x, y) (λ h. ((refl, refl), h.1.1), λ h. ((refl, refl), ((refl, refl), h.1)))
      go (first_passes x y z) = rw (z, x, y) (λ h. absurd (omega (arith, h.1.0.0)), λ h. absurd (omega (arith, h.0.0)))
      go (none_passes x z) = rw (z, x) (λ h. absurd (omega (arith, h.0.0)), λ h. absurd (omega (arith, h.0.0)))
      go (unsound s x z) = rw (z, x) (λ h. absurd (omega (arith, h.0.0)), λ h. absurd (omega (arith, h.0.0)))

pub waits-add-up : WaitsAddUp
waits-add-up cfg st st' a b = waits-follow cfg st st' a b []

pub waits-stop-alike : WaitsStopAlike
unfolding agrees same_value
waits-stop-alike cfg st a b k l = go (two cfg st a b)
  where
    One : Type 0
    One = answer_refusal (step_of cfg st (wait_for (a + b))).answer ≡ k

    Pair : Type 0
    Pair = (answer_refusal (step_of cfg st (wait_for a)).answer ≡ k) ⊎ (Answers (step_of cfg st (wait_for a)).answer (wait_for a) × (answer_refusal (step_of cfg (step_of cfg st (wait_for a)).state (wait_for b)).answer ≡ k))

    -- taken steps have the number 0, which k is not
    go : Two cfg st a b → (One → Pair) × (Pair → One)
    go (both-pass x y z) = rw (z, x, y) (λ h. absurd (omega (arith, h, l)), back)
      where
        back : (0 ≡ k) ⊎ (((◌≡◌ {A = ℕ} 0 0) × (agrees wait_code void_v void_v ≡ true)) × (0 ≡ k)) → 0 ≡ k
        back (inl h) = h
        back (inr h) = h.1
    go (first_passes x y z) = rw (z, x, y) (λ h. inr ((refl, refl), h), back)
      where
        back : (0 ≡ k) ⊎ (((◌≡◌ {A = ℕ} 0 0) × (agrees wait_code void_v void_v ≡ true)) × (too_far ≡ k)) → too_far ≡ k
        back (inl h) = absurd (omega (arith, h, l))
        back (inr h) = h.1
    go (none_passes x z) = rw (z, x) (λ h. inl h, back)
      where
        back : (too_far ≡ k) ⊎ (((too_far ≡ 0) × (agrees wait_code void_v void_v ≡ true)) × (answer_refusal (step_of cfg st (wait_for b)).answer ≡ k)) → too_far ≡ k
        back (inl h) = h
        back (inr h) = absurd (omega (arith, h.0.0))
    go (unsound s x z) = rw (z, x) (λ h. inl h, back)
      where
        back : (not_sound ≡ k) ⊎ (((not_sound ≡ 0) × (agrees wait_code void_v void_v ≡ true)) × (answer_refusal (step_of cfg st (wait_for b)).answer ≡ k)) → not_sound ≡ k
        back (inl h) = h
        back (inr h) = absurd (omega (arith, h.0.0))

pub waits-stop-far : WaitsStopFar
waits-stop-far cfg st t k s l h = go (all_let cfg st t) (rw (wait-step cfg st t, s) at h)
  where
    go : (b : Bool) → answer_refusal (waiting cfg st t true b).answer ≡ k → k ≡ too_far
    go true e = absurd (omega (arith, e, l))
    go false e = sym e

-- ---- anywhere

pub waits-merge : WaitsMerge
waits-merge cfg st st' before after a b = (
  λ h. let m = halves cfg st st' before (wait_for a ∷ wait_for b ∷ after) h in joined cfg st m.mid st' before _ m.before ((waits-follow cfg m.mid st' a b after).0 m.after),
  λ h. let m = halves cfg st st' before (wait_for (a + b) ∷ after) h in joined cfg st m.mid st' before _ m.before ((waits-follow cfg m.mid st' a b after).1 m.after),
)

pub merged_keeps : MergedKeeps
merged_keeps cfg st before after a b s = (
  λ h. demand3 cfg _ st s ((waits-merge cfg _ st before after a b).0 h),
  λ h. demand3 cfg _ st s ((waits-merge cfg _ st before after a b).1 h),
)
