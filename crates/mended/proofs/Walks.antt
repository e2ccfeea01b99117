-- Turns, one recorded step after another: one induction over them all (`turns-each`), what each turn is (`turn_at`), and the states between.
-- Assumes nothing.
use Prim.Native.Nat.{ℕ}
use mathlib.Core.Bool.{Bool, true, false}
use mathlib.Core.List.{List, [], ◌∷◌, ◌++◌}
use mathlib.Core.Path.{◌≡◌, refl, sym, ap, subst, ◌∙◌}
use native.Mathlib.Omega.{arith}
use Rattle.faces.specs.Types.{Step, Config, State, Stepped}
use Rattle.gaps.specs.Gaps.{Turn, can_fill, state_after, turn_of, turn_steps, turns_of, mended_steps}
use Rattle.gaps.proofs.Turns.{turns-on, turns-off}

-- ---- states

pub after-append : (f : State → Step → Stepped) (st : State) (xs ys : List Step) → state_after f st (xs ++ ys) ≡ state_after f (state_after f st xs) ys
unfolding state_after
after-append f st [] ys = refl
after-append f st (x ∷ xs) ys = after-append f (f st x).state xs ys

module _ (f : State → Step → Stepped) (cfg : Config) where
  -- ---- one induction over turns

  -- what is to hold of the turns of recorded steps from a state on: if it holds in each way that they can go, it holds of all
  module _ (P : State → List Step → List Turn → Type 0) where
    pub record Ways : Type 0 where
      pub ended : (st : State) → P st [] []
      pub stuck : (st : State) (s : Step) (rs : List Step) → can_fill f cfg st s ≡ false → P st (s ∷ rs) []
      pub went : (st : State) (s : Step) (rs : List Step) (ts : List Turn) → can_fill f cfg st s ≡ true → P (state_after f st (turn_steps (turn_of f cfg st s))) rs ts → P st (s ∷ rs) (turn_of f cfg st s ∷ ts)

    pub turns-each : Ways → (st : State) (rs : List Step) → P st rs (turns_of f cfg st rs)
    unfolding turns_of
    turns-each w st [] = w.ended st
    turns-each w st (s ∷ rs) = go (can_fill f cfg st s) refl (turns-each w (state_after f st (turn_steps (turn_of f cfg st s))) rs)
      where
        m : State
        m = state_after f st (turn_steps (turn_of f cfg st s))

        go : (b : Bool) → can_fill f cfg st s ≡ b → P m rs (turns_of f cfg m rs) → P st (s ∷ rs) (turns_of f cfg st (s ∷ rs))
        go true e r = subst (P st (s ∷ rs)) (sym (turns-on f cfg st s rs e)) (w.went st s rs (turns_of f cfg m rs) e r)
        go false e r = subst (P st (s ∷ rs)) (sym (turns-off f cfg st s rs e)) (w.stuck st s rs e)

  -- ---- each turn

  -- a turn, by the state before it
  pub record TurnAt (m : State) (t : Turn) : Type 0 where
    pub can : can_fill f cfg m t.kept ≡ true
    pub turn : t ≡ turn_of f cfg m t.kept

  abbrev EachTurn : State → List Step → List Turn → Type 0
  EachTurn st rs ts = (before after : List Turn) (t : Turn) → ts ≡ before ++ (t ∷ after) → TurnAt (state_after f st (mended_steps before)) t

  none-there : {A : Type 0} (before after : List Turn) (t : Turn) → [] ≡ before ++ (t ∷ after) → A
  none-there [] after t e = absurd (let z : ◌≡◌ {A = ℕ} 0 1 = cc in omega arith)
  none-there (b ∷ bs) after t e = absurd (let z : ◌≡◌ {A = ℕ} 0 1 = cc in omega arith)

  one-turn : (st : State) (s : Step) (rs : List Step) (ts : List Turn) → can_fill f cfg st s ≡ true → EachTurn (state_after f st (turn_steps (turn_of f cfg st s))) rs ts → EachTurn st (s ∷ rs) (turn_of f cfg st s ∷ ts)
  unfolding mended_steps state_after
  one-turn st s rs ts h rest [] after t e =
      let q : t ≡ turn_of f cfg st s = cc in
      let k : s ≡ t.kept = ap (λ (x : Turn). x.kept) (sym q) in
      record { can = subst (λ (x : Step). can_fill f cfg st x ≡ true) k h; turn = q ∙ ap (turn_of f cfg st) k }
  one-turn st s rs ts h rest (b ∷ bs) after t e =
      let q : b ≡ turn_of f cfg st s = cc in
      let l : ts ≡ bs ++ (t ∷ after) = cc in
      let m : state_after f (state_after f st (turn_steps (turn_of f cfg st s))) (mended_steps bs) ≡ state_after f st (turn_steps b ++ mended_steps bs) =
      sym (after-append f st (turn_steps b) (mended_steps bs) ∙ ap (λ (x : Turn). state_after f (state_after f st (turn_steps x)) (mended_steps bs)) q) in
      subst (λ (x : State). TurnAt x t) m (rest bs after t l)

  pub turn_at : (st : State) (rs : List Step) → EachTurn st rs (turns_of f cfg st rs)
  unfolding state_after mended_steps
  turn_at =
      turns-each EachTurn
      (record {
        ended = λ st before after t e. none-there before after t e;
        stuck = λ st s rs h before after t e. none-there before after t e;
        went = one-turn;
      })
