-- Recorded steps are kept, at most three steps of the scheduler stand in one gap, and every mended step claims what the machine answers.
-- Assumes nothing.
use Prim.Native.Nat.{ℕ, ◌≤◌}
use mathlib.Core.Bool.{true}
use mathlib.Core.List.Memᴰ
use mathlib.Core.List.{List, [], ◌∷◌, Memᴰ}
use mathlib.Core.Logic.{inl, inr, ⊎_elim}
use mathlib.Core.Path.{◌≡◌, refl, sym, ap, ◌∙◌, subst}
use native.Mathlib.Omega.{arith}
use lib.ListN.{length}
use borrow.Author.Tests.{ne_eqb}
use Rattle.numbers.specs.Codes.{send_code}
use Rattle.faces.specs.Types.{Step, Taken, Config, State, Stepped}
use Rattle.effects.specs.Step.{step_of}
use Rattle.stays_sound.proofs.Accepted.{claim-told}
use Rattle.history.specs.Promises.{Accepted}
use Rattle.history.proofs.Runs.{of-taken, halves, first}
use Rattle.gaps.specs.Gaps.{choice, answered, can_fill, fill_of, answered_all, Turn, turn_of, turns_of, state_after, mended_steps}
use Rattle.gaps.proofs.Turns.{answered-length}
use Rattle.mended.specs.Claims.{ChoiceOf}
use Rattle.mended.specs.Faithful.{KeptAreRecorded, Insertable, InsertedAreFew, EachAnswers}
use Rattle.mended.proofs.Walks.{turns-each}
use Rattle.mended.proofs.Fills.{turns-accepted}
use Rattle.mended.proofs.First.{list-is-all}
use Rattle.mended.proofs.Judged.{mended-done, found_in}

pub kept-are-recorded : KeptAreRecorded
kept-are-recorded cfg st t b p n k h = (mended-done cfg st t b p n k h).kept

-- ---- inserted steps

choice-insertable : (code k : ℕ) → 15 ≤ code → code ≤ 17 → Insertable (choice code k)
choice-insertable code k l h = record { low = l; high = h; who = refl; argument = refl }

-- a claim changes nothing of it
claim-insertable : (cfg : Config) (st : State) (x : Step) → Insertable x → Insertable (answered cfg st x)
claim-insertable cfg st x h = record { low = h.low; high = h.high; who = h.who; argument = h.argument }

choice-told : (cfg : Config) (x : Step) → ChoiceOf cfg x → Insertable x
choice-told cfg x (inl h) = subst Insertable (sym h.2) (choice-insertable 15 h.0 (omega arith) (omega arith))
choice-told cfg x (inr (inl h)) = subst Insertable (sym h.2) (choice-insertable 16 h.0 (omega arith) (omega arith))
choice-told cfg x (inr (inr h)) = subst Insertable (sym h.2) (choice-insertable 17 h.0 (omega arith) (omega arith))

module _ (f : State → Step → Stepped) (cfg : Config) where
  answered-insertable : (st : State) (q : List Step) → ((x : Step) → Memᴰ x q → ChoiceOf cfg x) → (y : Step) → Memᴰ y (answered_all f cfg st q) → Insertable y
  unfolding answered_all
  answered-insertable st [] h y m = absurd (Memᴰ.not-nil m)
  answered-insertable st (x ∷ xs) h y m =
      ⊎_elim (λ (e : y ≡ answered cfg st x). subst Insertable (sym e) (claim-insertable cfg st x (choice-told cfg x (h x (Memᴰ.head refl)))))
      (λ (k : Memᴰ y (answered_all f cfg (f st (answered cfg st x)).state xs)). answered-insertable (f st (answered cfg st x)).state xs (λ z j. h z (Memᴰ.tail j)) y k)
      (Memᴰ.cases_cons m)

  abbrev pub Few : Turn → Type 0
  Few t = (length t.inserted ≤ 3) × ((x : Step) → Memᴰ x t.inserted → Insertable x)

  pub turn-few : (st : State) (s : Step) → can_fill f cfg st s ≡ true → Few (turn_of f cfg st s)
  turn-few st s h =
      let q = fill_of f cfg st s in
      let l = (list-is-all cfg q).0 (found_in f cfg st s h) in
      (omega (arith, answered-length f cfg st q, l.0), answered-insertable st q l.1)

  pub turns-few : (st : State) (rs : List Step) (t : Turn) → Memᴰ t (turns_of f cfg st rs) → (length t.inserted ≤ 3) × ((x : Step) → Memᴰ x t.inserted → Insertable x)
  turns-few =
      turns-each f cfg (λ st rs ts. (t : Turn) → Memᴰ t ts → Few t)
      (record {
        ended = λ st t m. absurd (Memᴰ.not-nil m);
        stuck = λ st s rs h t m. absurd (Memᴰ.not-nil m);
        went = λ st s rs ts h rest t m. ⊎_elim (λ (e : t ≡ turn_of f cfg st s). subst Few (sym e) (turn-few st s h)) (λ (k : Memᴰ t ts). rest t k) (Memᴰ.cases_cons m);
      })

pub inserted-are-few : InsertedAreFew
inserted-are-few cfg = turns-few (step_of cfg) cfg

-- ---- claims

pub each-answers : EachAnswers
each-answers cfg st rs before after x e =
    let a = turns-accepted cfg st rs in
    let end = state_after (step_of cfg) st (mended_steps (turns_of (step_of cfg) cfg st rs)) in
    let h = halves cfg st end before (x ∷ after) (subst (λ (l : List Step). Accepted cfg st l end) e a) in
    let t = first cfg h.mid end x after h.after in
    (h.mid, h.before, of-taken cfg h.mid x t, λ n. t ∙ ap Taken (sym (claim-told cfg h.mid x t (ne_eqb x.code send_code n))))
