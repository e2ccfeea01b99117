-- A started call that has no ending is the latest of its operation (`Unended`). The steps of a recording are those before its last and the last one (`started-older`, `started-last`).
-- Endings are only added (`grows`), and the latest calls are those of before, but for a call that starts (`latest-still`). A call starts where the operation is not Calling: its latest
-- call has ended (`unended-call`). Every deed keeps that (`unended-deed`).
-- Assumes nothing.
use Prim.Native.Nat.{ℕ, zero, suc, ◌+◌, ◌≤◌, ◌<◌}
use mathlib.Core.Bool.{false}
use mathlib.Core.List.{List, [], ◌∷◌, ◌++◌}
use mathlib.Core.Path.{◌≡◌, refl, sym, ◌∙◌, ap, subst}
use native.Mathlib.Decide.{ℕ_discrete}
use native.Mathlib.Omega.{arith}
use lib.Dec.{eqb}
use lib.ListN.{length, get_or, set}
use lib.Seq.{get_or-set_same, get_or-set_other}
use borrow.Author.Tests.{eqb-true}
use Rattle.numbers.specs.Codes.{call_code, hand_back_code, end_code, spawn_code, timeout_code, fail_code}
use Rattle.laws.proofs.Choosing.{pick-has}
use Rattle.faces.specs.Types.{Step, Config, State}
use Rattle.values.specs.Values.{ok_v, same_value}
use Rattle.entries.specs.Faults.{is_server}
use Rattle.effects.specs.Steps.{is_open}
use Rattle.effects.proofs.Agreeing.{same-value}
use Rattle.stays_sound.specs.Facts.{Sound}
use Rattle.rules.proofs.Configured.{operations-most}
use Rattle.history.specs.History.{History, nothing, call_adds, latest_on, observe, ends_of, Started}
use Rattle.history.proofs.Tied.{Tied}
use Rattle.history.proofs.Named.{Named}
use Rattle.history.proofs.Deeds.{Deed, pass, call, answer, late, end, server, plain, timeout, fail, call-adds, other-code}

-- ---- the last step, and those before it

started-fewer : (rs : List Step) (s : Step) (k o : ℕ) → (k ≡ suc (length rs) → ⊥) → Started (rs ++ (s ∷ [])) k o → Started rs k o
unfolding Started
started-fewer [] s zero o n h = absurd h
started-fewer [] s (suc zero) o n h = absurd (n refl)
started-fewer [] s (suc (suc k)) o n h = absurd h
started-fewer (x ∷ rs) s zero o n h = absurd h
started-fewer (x ∷ rs) s (suc zero) o n h = h
started-fewer (x ∷ rs) s (suc (suc k)) o n h = started-fewer rs s (suc k) o (λ e. n (ap suc e)) h

started-last : (rs : List Step) (s : Step) (o : ℕ) → Started (rs ++ (s ∷ [])) (suc (length rs)) o → (s.code ≡ call_code) × (s.what ≡ o) × (s.claim ≡ ok_v)
unfolding Started
started-last [] s o h = h
started-last (x ∷ rs) s o h = started-last rs s o h

pub started-some : (rs : List Step) (k o : ℕ) → Started rs k o → 0 < k
unfolding Started
started-some [] k o h = absurd h
started-some (s ∷ rs) zero o h = absurd h
started-some (s ∷ rs) (suc k) o h = omega arith

-- a step that starts no call on o leaves those that were started there
pub started-older : (rs : List Step) (s : Step) (k o : ℕ) → (s.code ≡ call_code → s.claim ≡ ok_v → s.what ≡ o → ⊥) → Started (rs ++ (s ∷ [])) k o → Started rs k o
started-older rs s k o q h = started-fewer rs s k o (λ e. let l = started-last rs s o (subst (λ (j : ℕ). Started (rs ++ (s ∷ [])) j o) e h) in q l.0 l.2 l.1) h

-- ---- what a step adds

pub grows : (cfg : Config) (h : History) (s : Step) (k : ℕ) → ends_of k h.endings ≤ ends_of k (observe cfg h s).endings
unfolding observe ends_of
grows cfg h s k =
    let P : History → Type 0 = λ x. ends_of k h.endings ≤ ends_of k x.endings in
    pick-has P (eqb s.code call_code) _ _ (λ c. pick-has P (same_value s.claim ok_v) _ _ (λ e. omega arith) (λ e. omega arith))
    (λ c. pick-has P (eqb s.code hand_back_code) _ _ (λ c. pick-has P (eqb s.claim.number 1) _ _ (λ e. omega arith) (λ e. omega arith))
    (λ c. pick-has P (eqb s.code end_code) _ _ (λ c. omega arith)
    (λ c. pick-has P (eqb s.code spawn_code) _ _ (λ c. pick-has P (is_server cfg s.what) _ _ (λ e. omega arith) (λ e. omega arith))
    (λ c. pick-has P (eqb s.code timeout_code) _ _ (λ c. omega arith)
    (λ c. pick-has P (eqb s.code fail_code) _ _ (λ c. omega arith) (λ c. omega arith))))))

-- the latest call on o stays unless one starts there
pub latest-still : (cfg : Config) (h : History) (s : Step) (o : ℕ) → (s.code ≡ call_code → s.claim ≡ ok_v → s.what ≡ o → ⊥) → latest_on (observe cfg h s) o ≡ latest_on h o
unfolding observe
latest-still cfg h s o q =
    let P : History → Type 0 = λ x. latest_on x o ≡ latest_on h o in
    pick-has P (eqb s.code call_code) _ _
    (λ c. pick-has P (same_value s.claim ok_v) _ _ (λ e. get_or-set_other h.latest s.what o (h.place + 1) 0 (λ z. q (eqb-true _ _ c) (same-value _ _ e) (sym z))) (λ e. refl))
    (λ c. pick-has P (eqb s.code hand_back_code) _ _ (λ c. pick-has P (eqb s.claim.number 1) _ _ (λ e. refl) (λ e. refl))
    (λ c. pick-has P (eqb s.code end_code) _ _ (λ c. refl)
    (λ c. pick-has P (eqb s.code spawn_code) _ _ (λ c. pick-has P (is_server cfg s.what) _ _ (λ e. refl) (λ e. refl))
    (λ c. pick-has P (eqb s.code timeout_code) _ _ (λ c. refl)
    (λ c. pick-has P (eqb s.code fail_code) _ _ (λ c. refl) (λ c. refl))))))

-- ---- a call without an ending is the latest

pub record Unended (rs : List Step) (h : History) : Type 0 where
  pub latest : (k o : ℕ) → Started rs k o → ends_of k h.endings ≡ 0 → k ≡ latest_on h o

pub unended-start : Unended [] nothing
unfolding Started
unended-start = record { latest = λ k o x z. absurd x }

module _ (cfg : Config) (st : State) (s : Step) (rs : List Step) (h : History) (u : Unended rs h) where
  unended-still : (s.code ≡ call_code → s.claim ≡ ok_v → ⊥) → Unended (rs ++ (s ∷ [])) (observe cfg h s)
  unended-still q = record { latest = λ k o x z. u.latest k o (started-older rs s k o (λ c e w. q c e) x) (omega (arith, z, grows cfg h s k)) ∙ sym (latest-still cfg h s o (λ c e w. q c e)) }

  unended-call : s.what < length h.latest → is_open st s.what ≡ false → Tied st h → Named rs h → Unended (rs ++ (s ∷ [])) (call_adds cfg h s.what s.argument)
  unended-call b shut t n = record { latest = λ k o x z. go k o x z (ℕ_discrete k (suc (length rs))) }
    where
      new : List ℕ
      new = set h.latest s.what (h.place + 1)

      -- the latest call there has ended
      old : (k o : ℕ) → 0 < k → k ≡ latest_on h o → ends_of k h.endings ≡ 0 → Dec (o ≡ s.what) → k ≡ get_or new o 0
      old k o p e z (yes q) =
          let l : k ≡ latest_on h s.what = e ∙ ap (latest_on h) q in
          absurd (omega (arith, p, l, z, ap (λ (j : ℕ). ends_of j h.endings) l, rw shut at (t.calls.state s.what (omega (arith, p, l)))))
      old k o p e z (no q) = e ∙ sym (get_or-set_other h.latest s.what o (h.place + 1) 0 q)

      go : (k o : ℕ) → Started (rs ++ (s ∷ [])) k o → ends_of k h.endings ≡ 0 → Dec (k ≡ suc (length rs)) → k ≡ get_or new o 0
      go k o x z (yes e) =
          let w : s.what ≡ o = (started-last rs s o (subst (λ (j : ℕ). Started (rs ++ (s ∷ [])) j o) e x)).1 in
          rw (← w) (omega (arith, e, n.place, get_or-set_same h.latest s.what (h.place + 1) 0 b))
      go k o x z (no m) =
          let y = started-fewer rs s k o m x in
          old k o (started-some rs k o y) (u.latest k o y z) z (ℕ_discrete o s.what)

pub unended-deed : (cfg : Config) (st : State) (s : Step) (st' : State) (rs : List Step) (h : History) → Sound cfg st → Deed cfg st s st' → Tied st h → Named rs h → Unended rs h
    → Unended (rs ++ (s ∷ [])) (observe cfg h s)
unended-deed cfg st s st' rs h g d t n u = go d
  where
    other : {m : ℕ} → s.code ≡ m → eqb m call_code ≡ false → Unended (rs ++ (s ∷ [])) (observe cfg h s)
    other c f = unended-still cfg st s rs h u (λ q k. other-code call_code c f q)

    go : Deed cfg st s st' → Unended (rs ++ (s ∷ [])) (observe cfg h s)
    go (pass a q m w) = unended-still cfg st s rs h u q.call
    go (call c k z e) = rw (call-adds cfg h s c k) (unended-call cfg st s rs h u (omega (arith, t.calls.size, operations-most cfg g.config, z.inside)) z.shut t n)
    go (answer c k z a e) = other c refl
    go (late c k z e) = other c refl
    go (end c z e) = other c refl
    go (server c k y z e) = other c refl
    go (plain c k y z e) = other c refl
    go (timeout c z e) = other c refl
    go (fail c z e) = other c refl
