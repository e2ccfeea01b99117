-- The list of sequences, what fills a gap, and that the first that does is inserted.
-- Assumes nothing.
use Prim.Native.Nat.{ℕ, ◌*◌, ◌≤◌, ◌<◌}
use mathlib.Core.Bool.{true, false}
use mathlib.Core.List.{List, [], ◌∷◌, ◌++◌}
use mathlib.Core.Path.{◌≡◌, refl, sym, ap, subst, ◌∙◌}
use native.Mathlib.Nat.{mul-le-mul}
use native.Mathlib.Omega.{arith}
use lib.ListN.{length, get_or}
use borrow.Author.Tests.{ltb-true}
use Rattle.faces.specs.Types.{Step, Config, State}
use Rattle.entries.specs.Entries.{max_of, count_of}
use Rattle.entries.specs.Faults.{config_sound}
use Rattle.entries.proofs.Kind.{config-told}
use Rattle.effects.specs.Step.{step_of}
use Rattle.rules.proofs.Configured.{runnables-most, operations-most}
use Rattle.history.specs.Promises.{Answers, Accepted}
use Rattle.history.proofs.Runs.{halves}
use Rattle.gaps.specs.Orders.{sequences, up_to_three}
use Rattle.gaps.specs.Gaps.{counts_of, choices_in, sequences_of, fills, rank_of, answered_all, Turn, turns_of, state_after, mended_steps}
use Rattle.gaps.proofs.Ordered.{length-all, passed-before}
use Rattle.gaps.proofs.Members.{length-choices, choices-told, choices-has, three-told, three-has}
use Rattle.gaps.proofs.Reported.{mended-append}
use Rattle.mended.specs.Claims.{ListIsAll, ListIsBounded, FillIsAccepted, FirstFill, FirstIsInserted}
use Rattle.mended.proofs.Walks.{turn_at, TurnAt}
use Rattle.mended.proofs.Fills.{is-taken, accepted-after, fill-accepted, accepted-fill, can-fills, rank-none, turns-accepted}

-- ---- the list

pub list-is-all : ListIsAll
unfolding sequences_of
list-is-all cfg q =
    let xs = choices_in (counts_of cfg) in (
      λ m. let t = three-told xs q m in (t.0, λ x k. choices-told (counts_of cfg) x (t.1 x k)),
      λ h. three-has xs q h.0 (λ x m. choices-has (counts_of cfg) x (h.1 x m)),
    )

timers-most : (cfg : Config) → config_sound cfg ≡ true → cfg.timers.n ≤ 8
unfolding count_of max_of
timers-most cfg h = (config-told cfg h 0x17 (omega arith) (omega arith)).room

few : {A : Type 0} (xs : List A) → length xs ≤ 32 → length (up_to_three xs) ≤ 33825
few xs h =
    let a : length xs * length xs ≤ 32 * 32 = mul-le-mul h h in
    let b : length xs * (length xs * length xs) ≤ 32 * (32 * 32) = mul-le-mul h a in
    omega (arith, length-all xs)

pub list-is-bounded : ListIsBounded
unfolding sequences_of up_to_three sequences
list-is-bounded cfg = (
  refl,
  λ h. few (choices_in (counts_of cfg)) (omega (arith, length-choices (counts_of cfg), runnables-most cfg h, operations-most cfg h, timers-most cfg h)),
)

-- ---- fills

pub fill-is-accepted : FillIsAccepted
fill-is-accepted cfg st s q = (
  λ h. (state_after (step_of cfg) st (answered_all (step_of cfg) cfg st q ++ (s ∷ [])), fill-accepted cfg st s q h),
  λ h. accepted-fill cfg st h.0 s q h.1,
)

-- ---- first

module _ (cfg : Config) (m : State) (t : Turn) (h : TurnAt (step_of cfg) cfg m t) where
  passed-is-rank : t.passed ≡ rank_of (step_of cfg) cfg m t.kept
  passed-is-rank = ap (λ (x : Turn). x.passed) h.turn

  fits-there : fills (step_of cfg) cfg m t.kept (get_or (sequences_of cfg) t.passed []) ≡ true
  fits-there = subst (λ (k : ℕ). fills (step_of cfg) cfg m t.kept (get_or (sequences_of cfg) k []) ≡ true) (sym passed-is-rank) (can-fills cfg m t.kept h.can)

  none_answers : t.passed ≡ 0 → Answers (step_of cfg m t.kept).answer t.kept
  unfolding fills sequences_of up_to_three sequences
  none_answers e =
      let f : fills (step_of cfg) cfg m t.kept (get_or (sequences_of cfg) 0 []) ≡ true = subst (λ (k : ℕ). fills (step_of cfg) cfg m t.kept (get_or (sequences_of cfg) k []) ≡ true) e fits-there in
      is-taken cfg m t.kept f

  inserted-is : t.inserted ≡ answered_all (step_of cfg) cfg m (get_or (sequences_of cfg) t.passed [])
  inserted-is = ap (λ (x : Turn). x.inserted) h.turn ∙ ap (λ (k : ℕ). answered_all (step_of cfg) cfg m (get_or (sequences_of cfg) k [])) (sym passed-is-rank)

  none-inserted : t.passed ≡ 0 → t.inserted ≡ []
  unfolding sequences_of up_to_three sequences answered_all
  none-inserted e = inserted-is ∙ ap (λ (k : ℕ). answered_all (step_of cfg) cfg m (get_or (sequences_of cfg) k [])) e

  before-not : (j : ℕ) → j < t.passed → fills (step_of cfg) cfg m t.kept (get_or (sequences_of cfg) j []) ≡ false
  unfolding rank_of
  before-not j l = passed-before (fills (step_of cfg) cfg m t.kept) (sequences_of cfg) [] j (subst (λ (k : ℕ). j < k) passed-is-rank l)

  pub first-fill : FirstFill cfg m t
  first-fill = record {
    there = subst (λ (k : ℕ). k < length (sequences_of cfg)) (sym passed-is-rank) (ltb-true _ _ h.can);
    inserted = inserted-is;
    fits = fits-there;
    first = before-not;
    none = (none_answers, λ a. passed-is-rank ∙ rank-none cfg m t.kept a);
    bare = none-inserted;
  }

-- the mended steps before a turn are accepted
pub before-accepted : (cfg : Config) (st : State) (rs : List Step) (before after : List Turn) → turns_of (step_of cfg) cfg st rs ≡ before ++ after
    → Accepted cfg st (mended_steps before) (state_after (step_of cfg) st (mended_steps before))
before-accepted cfg st rs before after e =
    let a = turns-accepted cfg st rs in
    let x = halves cfg st _ (mended_steps before) (mended_steps after) (subst (λ (l : List Step). Accepted cfg st l (state_after (step_of cfg) st (mended_steps (turns_of (step_of cfg) cfg st rs)))) (ap mended_steps e ∙ mended-append before after) a) in
    subst (Accepted cfg st (mended_steps before)) (sym (accepted-after cfg st x.mid (mended_steps before) x.before)) x.before

pub first-is-inserted : FirstIsInserted
first-is-inserted cfg st rs before after t e =
    (state_after (step_of cfg) st (mended_steps before), before-accepted cfg st rs before (t ∷ after) e, first-fill cfg _ t (turn_at (step_of cfg) cfg st rs before after t e))
