-- A sequence fills a gap exactly if its steps, with their answers as claims, and then the recorded step are accepted one after another; so mended steps are accepted.
-- Assumes nothing.
use mathlib.Core.Bool.{true, false}
use mathlib.Core.List.{List, [], ◌∷◌, ◌++◌}
use mathlib.Core.Path.{◌≡◌, refl, sym, ap, subst}
use borrow.Author.Tests.{ltb-true}
use Rattle.laws.proofs.Choosing.{clash, both_left, both_right, both-make}
use Rattle.faces.specs.Types.{Value, Step, Answer, Taken, Refused as Barred, Config, State}
use Rattle.effects.specs.Step.{step_of}
use Rattle.history.specs.Promises.{Answers, Accepted}
use Rattle.history.proofs.Runs.{of-taken, taken_of, joined}
use Rattle.gaps.specs.Gaps.{sequences_of, is_taken, answered, fills, rank_of, can_fill, fill_of, answered_all, state_after, turn_of, turn_steps, turns_of, mended_steps}
use Rattle.gaps.proofs.Ordered.{passed_is}
use Rattle.gaps.proofs.Turns.{rank-taken}
use Rattle.mended.proofs.Walks.{after-append, turns-each}

-- ---- a step that is taken

pub taken_is : (a : Answer) → is_taken a ≡ true → (v : Value) × (a ≡ Taken v)
taken_is (Taken v) h = (v, refl)
taken_is (Barred n) h = absurd (clash false h refl)

pub is-taken : (cfg : Config) (st : State) (s : Step) → is_taken (step_of cfg st s).answer ≡ true → Answers (step_of cfg st s).answer s
is-taken cfg st s h = of-taken cfg st s (taken_is (step_of cfg st s).answer h).1

-- ---- states

pub accepted-after : (cfg : Config) (st st' : State) (rs : List Step) → Accepted cfg st rs st' → state_after (step_of cfg) st rs ≡ st'
unfolding Accepted state_after
accepted-after cfg st st' [] h = h
accepted-after cfg st st' (s ∷ rs) h = accepted-after cfg (step_of cfg st s).state st' rs h.1

-- ---- fills, both ways

pub fill-accepted : (cfg : Config) (st : State) (s : Step) (q : List Step) → fills (step_of cfg) cfg st s q ≡ true
    → Accepted cfg st (answered_all (step_of cfg) cfg st q ++ (s ∷ [])) (state_after (step_of cfg) st (answered_all (step_of cfg) cfg st q ++ (s ∷ [])))
unfolding Accepted fills answered_all state_after
fill-accepted cfg st s [] h = (is-taken cfg st s h, refl)
fill-accepted cfg st s (x ∷ xs) h =
    let y = answered cfg st x in
    (is-taken cfg st y (both_left (is_taken (step_of cfg st y).answer) _ h), fill-accepted cfg (step_of cfg st y).state s xs (both_right (is_taken (step_of cfg st y).answer) _ h))

pub accepted-fill : (cfg : Config) (st st' : State) (s : Step) (q : List Step) → Accepted cfg st (answered_all (step_of cfg) cfg st q ++ (s ∷ [])) st' → fills (step_of cfg) cfg st s q ≡ true
unfolding Accepted fills answered_all
accepted-fill cfg st st' s [] h = ap is_taken (taken_of cfg st s h.0)
accepted-fill cfg st st' s (x ∷ xs) h =
    let y = answered cfg st x in
    both-make (is_taken (step_of cfg st y).answer) _ (ap is_taken (taken_of cfg st y h.0)) (accepted-fill cfg (step_of cfg st y).state st' s xs h.1)

-- ---- the first that fills

-- where a gap can be filled, the sequence found fills it
pub can-fills : (cfg : Config) (st : State) (s : Step) → can_fill (step_of cfg) cfg st s ≡ true → fills (step_of cfg) cfg st s (fill_of (step_of cfg) cfg st s) ≡ true
unfolding rank_of
can-fills cfg st s h = passed_is (fills (step_of cfg) cfg st s) (sequences_of cfg) [] (ltb-true _ _ h)

pub rank-none : (cfg : Config) (st : State) (s : Step) → Answers (step_of cfg st s).answer s → rank_of (step_of cfg) cfg st s ≡ 0
rank-none cfg st s a = rank-taken (step_of cfg) cfg st s (ap is_taken (taken_of cfg st s a))

pub turn-accepted : (cfg : Config) (st : State) (s : Step) → can_fill (step_of cfg) cfg st s ≡ true
    → Accepted cfg st (turn_steps (turn_of (step_of cfg) cfg st s)) (state_after (step_of cfg) st (turn_steps (turn_of (step_of cfg) cfg st s)))
turn-accepted cfg st s h = fill-accepted cfg st s (fill_of (step_of cfg) cfg st s) (can-fills cfg st s h)

-- ---- mended steps are accepted

pub turns-accepted : (cfg : Config) (st : State) (rs : List Step)
    → Accepted cfg st (mended_steps (turns_of (step_of cfg) cfg st rs)) (state_after (step_of cfg) st (mended_steps (turns_of (step_of cfg) cfg st rs)))
unfolding mended_steps Accepted state_after
turns-accepted cfg =
    turns-each (step_of cfg) cfg (λ st rs ts. Accepted cfg st (mended_steps ts) (state_after (step_of cfg) st (mended_steps ts)))
    (record {
      ended = λ st. refl;
      stuck = λ st s rs h. refl;
      went = λ st s rs ts h rest. let x = turn_steps (turn_of (step_of cfg) cfg st s) in
          subst (Accepted cfg st (x ++ mended_steps ts)) (sym (after-append (step_of cfg) st x (mended_steps ts)))
          (joined cfg st (state_after (step_of cfg) st x) _ x (mended_steps ts) (turn-accepted cfg st s h) rest);
    })
