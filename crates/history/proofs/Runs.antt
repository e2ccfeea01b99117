-- Runs taken apart and put together, and the one induction over a recording.
-- An accepted recording of two parts is accepted part by part, with a state between (`halves`), and the other way round (`joined`). Its history goes on from
-- the history of the first part (`history-append`). What holds at the start and is kept by each accepted step holds of every run and the state that it
-- reaches (`along`); a step may use all that is known of the run before it.
-- Assumes nothing.
use mathlib.Core.Bool.{true}
use mathlib.Core.List.{List, [], ◌∷◌, ◌++◌, append-nil, append_assoc}
use mathlib.Core.Path.{◌≡◌, refl, sym, ap, ◌∙◌, subst}
use native.Mathlib.Omega.{arith}
use Rattle.faces.specs.Types.{Step, Value, Answer, Taken, Refused, Config, State}
use Rattle.values.specs.Values.{answer_refusal, answer_value}
use Rattle.state.specs.Start.{start_of}
use Rattle.effects.specs.Step.{agrees, step_of}
use Rattle.stays_sound.proofs.Accepted.{answer_in, accepted}
use Rattle.stays_sound.proofs.Refusals.{never-zero}
use Rattle.history.specs.History.{History, nothing, observe, history_from, history_of}
use Rattle.history.specs.Promises.{Answers, Accepted, Run}

-- ---- an accepted step answers what agrees with its claim

pub taken_of : (cfg : Config) (st : State) (s : Step) → Answers (step_of cfg st s).answer s → (step_of cfg st s).answer ≡ Taken (answer_in cfg st s)
taken_of cfg st s h = go (step_of cfg st s).answer refl
  where
    go : (a : Answer) → (step_of cfg st s).answer ≡ a → (step_of cfg st s).answer ≡ Taken (answer_in cfg st s)
    go (Taken w) e = e ∙ ap Taken (sym (ap answer_value e))
    go (Refused n) e = absurd (omega (arith, never-zero cfg st s n e, sym (ap answer_refusal e) ∙ h.0))

pub of-taken : (cfg : Config) (st : State) (s : Step) {v : Value} → (step_of cfg st s).answer ≡ Taken v → Answers (step_of cfg st s).answer s
of-taken cfg st s e = (ap answer_refusal e, subst (λ (u : Value). agrees s.code u s.claim ≡ true) (sym (ap answer_value e)) (accepted cfg st s e).2)

-- ---- recordings of two parts

-- the state between, and both parts
pub record Halves (cfg : Config) (st st' : State) (xs ys : List Step) : Type 0 where
  pub mid : State
  pub before : Accepted cfg st xs mid
  pub after : Accepted cfg mid ys st'

pub halves : (cfg : Config) (st st' : State) (xs ys : List Step) → Accepted cfg st (xs ++ ys) st' → Halves cfg st st' xs ys
unfolding Accepted
halves cfg st st' [] ys e = record { mid = st; before = refl; after = e }
halves cfg st st' (x ∷ xs) ys e =
    let r = halves cfg (step_of cfg st x).state st' xs ys e.1 in
    record { mid = r.mid; before = (e.0, r.before); after = r.after }

pub joined : (cfg : Config) (st m st' : State) (xs ys : List Step) → Accepted cfg st xs m → Accepted cfg m ys st' → Accepted cfg st (xs ++ ys) st'
unfolding Accepted
joined cfg st m st' [] ys e f = rw e f
joined cfg st m st' (x ∷ xs) ys e f = (e.0, joined cfg (step_of cfg st x).state m st' xs ys e.1 f)

-- one step
pub one : (cfg : Config) (st : State) (s : Step) {v : Value} → (step_of cfg st s).answer ≡ Taken v → Accepted cfg st (s ∷ []) (step_of cfg st s).state
unfolding Accepted
one cfg st s e = (of-taken cfg st s e, refl)

-- the first of several
pub first : (cfg : Config) (st st' : State) (s : Step) (rs : List Step) → Accepted cfg st (s ∷ rs) st' → (step_of cfg st s).answer ≡ Taken (answer_in cfg st s)
unfolding Accepted
first cfg st st' s rs e = taken_of cfg st s e.0

-- ---- their histories

pub history-append : (cfg : Config) (h : History) (xs ys : List Step) → history_from cfg h (xs ++ ys) ≡ history_from cfg (history_from cfg h xs) ys
unfolding history_from
history-append cfg h [] ys = refl
history-append cfg h (x ∷ xs) ys = history-append cfg (observe cfg h x) xs ys

pub history-one : (cfg : Config) (before : List Step) (s : Step) → history_of cfg (before ++ (s ∷ [])) ≡ observe cfg (history_of cfg before) s
unfolding history_of history_from
history-one cfg before s = history-append cfg nothing before (s ∷ [])

-- ---- what each accepted step keeps

module _ (cfg : Config) (P : List Step → State → Type 0)
    (keeps : (before : List Step) (s : Step) (st : State) → Run cfg before st → P before st → (step_of cfg st s).answer ≡ Taken (answer_in cfg st s) → P (before ++ (s ∷ [])) (step_of cfg st s).state)
  where
    onward : (before rs : List Step) (st st' : State) → Run cfg before st → P before st → Accepted cfg st rs st' → P (before ++ rs) st'
    unfolding Accepted
    onward before [] st st' r p e = rw append-nil (subst (P before) e p)
    onward before (s ∷ rs) st st' r p e =
        rw (append_assoc before (s ∷ []) rs) at
        (onward (before ++ (s ∷ [])) rs (step_of cfg st s).state st' (joined cfg (start_of cfg) st _ before (s ∷ []) r (one cfg st s (taken_of cfg st s e.0))) (keeps before s st r p (taken_of cfg st s e.0)) e.1)

    pub along : P [] (start_of cfg) → (rs : List Step) (st : State) → Run cfg rs st → P rs st
    unfolding Accepted
    along p rs st e = onward [] rs (start_of cfg) st refl p e
