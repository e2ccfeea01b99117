-- Accepted steps of codes 15, 16 and 17 are choices with their answers as claims, whatever they were thought to be: so what is inserted comes first of all that lead to
-- the recorded step, and where nothing is found nothing leads there.
-- Assumes nothing.
use Prim.Native.Nat.{ℕ, ◌≤◌, ◌<◌}
use mathlib.Core.Bool.{true}
use mathlib.Core.List.{List, [], ◌∷◌, ◌++◌, map, Memᴰ}
use mathlib.Core.Logic.{◌⊎◌, inl, inr, ⊎_elim}
use mathlib.Core.Path.{◌≡◌, refl, sym, ap, subst, ◌∙◌}
use native.Mathlib.Decide.{ℕ_discrete, dec_lt}
use native.Mathlib.Omega.{arith}
use lib.Dec.{eqb}
use lib.ListN.{length, get_or, length-map}
use borrow.Author.Tests.{ltb-true, eqb-true, ne_eqb}
use Rattle.numbers.specs.Codes.{send_code, spawn_code, timeout_code, tick_code}
use Rattle.laws.proofs.Choosing.{clash, both_left, both_right}
use Rattle.faces.specs.Types.{Value, Step, Taken, Config, State, Stepped}
use Rattle.values.specs.Values.{void_v, answer_value, is_void}
use Rattle.entries.specs.Entries.{count_of}
use Rattle.rules.specs.Rows.{scheduler, rows, row_of}
use Rattle.rules.specs.Refusals.{argues, formed, part_there}
use Rattle.effects.specs.Step.{possible_of, step_of}
use Rattle.effects.proofs.Codes.{possible-let}
use Rattle.stays_sound.proofs.Says.{LetRun, run-told}
use Rattle.stays_sound.proofs.Accepted.{accepted, claim-told}
use Rattle.history.specs.Promises.{Accepted}
use Rattle.history.proofs.Runs.{taken_of}
use Rattle.gaps.specs.Gaps.{choice, sequences_of, answered, fills, answered_all, Turn, turns_of, state_after}
use Rattle.gaps.proofs.Answers.{Chosen, spawn, timeout, tick}
use Rattle.gaps.proofs.Same.{possible-claimed}
use Rattle.gaps.proofs.Members.{member-at}
use Rattle.gaps.proofs.Turns.{answered-length}
use Rattle.mended.specs.Claims.{ChoiceOf, Before, shorter, sooner, FirstFill}
use Rattle.mended.specs.Plain.{Lost, Leads, InsertedComesFirst, NothingLeads}
use Rattle.mended.proofs.Fills.{accepted-fill, fill-accepted}
use Rattle.mended.proofs.First.{list-is-all, first-is-inserted}
use Rattle.mended.proofs.Order.{list-is-ordered}
use Rattle.mended.proofs.Faithful.{inserted-are-few}

-- ---- one accepted step

-- a step as a choice
bare_of : Step → Step
bare_of x = choice x.code x.what

-- its code is that of a choice
chosen : (c : ℕ) → spawn_code ≤ c → c ≤ tick_code → Chosen c
chosen c l h = go (ℕ_discrete c spawn_code) (ℕ_discrete c timeout_code)
  where
    go : Dec (c ≡ spawn_code) → Dec (c ≡ timeout_code) → Chosen c
    go (yes e) b = rw e spawn
    go (no a) (yes e) = rw e timeout
    go (no a) (no b) = let e : c ≡ tick_code = omega (arith, l, h, a, b) in rw e tick

-- a step of the scheduler, without an argument
chosen-runs : {c : ℕ} → Chosen c → (row_of c).who ≡ scheduler
unfolding row_of rows
chosen-runs spawn = refl
chosen-runs timeout = refl
chosen-runs tick = refl

chosen-void : {c : ℕ} → Chosen c → (k : ℕ) (v : Value) → formed (row_of c) k v ≡ true → is_void v ≡ true
unfolding row_of rows formed argues
chosen-void spawn k v f = f
chosen-void timeout k v f = f
chosen-void tick k v f = f

-- about a part that is configured
chosen-part : {c : ℕ} → Chosen c → (cfg : Config) (k : ℕ) → part_there cfg (row_of c).part k ≡ true → ChoiceOf cfg (choice c k)
unfolding row_of rows part_there count_of
chosen-part spawn cfg k p = inl (k, ltb-true k cfg.runnables.n p, refl)
chosen-part timeout cfg k p = inr (inl (k, ltb-true k cfg.operations.n p, refl))
chosen-part tick cfg k p = inr (inr (k, ltb-true k cfg.timers.n p, refl))

void-is : (v : Value) → is_void v ≡ true → v ≡ void_v
unfolding is_void
void-is v h =
    let k : v.kind ≡ 0 = eqb-true _ _ (both_left (eqb v.kind 0) _ h) in
    let n : v.number ≡ 0 = eqb-true _ _ (both_right (eqb v.kind 0) _ h) in
    λ i. record { kind = k i; number = n i }

module _ (cfg : Config) (st : State) (x : Step) (low : spawn_code ≤ x.code) (high : x.code ≤ tick_code) (taken : (step_of cfg st x).answer ≡ Taken x.claim) where
  possible : (possible_of cfg st x).answer ≡ Taken x.claim
  possible = sym (ap (λ (r : Stepped). r.answer) (accepted cfg st x taken).1) ∙ taken

  let_through : LetRun cfg x.code x.who x.what x.argument
  let_through = run-told cfg st x refl (possible-let cfg st x possible) (chosen-runs (chosen x.code low high))

  pub lost-choice : ChoiceOf cfg (choice x.code x.what)
  lost-choice = chosen-part (chosen x.code low high) cfg x.what let_through.part

  -- with its answer as its claim
  pub lost-answered : x ≡ answered cfg st (choice x.code x.what)
  lost-answered =
      let w = let_through.who in
      let a = void-is x.argument (chosen-void (chosen x.code low high) x.what x.argument let_through.form) in
      let y : x ≡ record { code = x.code; who = 0; what = x.what; argument = void_v; claim = x.claim } = λ i. record { code = x.code; who = w i; what = x.what; argument = a i; claim = x.claim } in
      let p : possible_of cfg st (choice x.code x.what) ≡ possible_of cfg st x = sym (possible-claimed cfg st (choice x.code x.what) x.claim) ∙ ap (possible_of cfg st) (sym y) in
      let c : x.claim ≡ answer_value (possible_of cfg st (choice x.code x.what)).answer = sym (ap (λ (r : Stepped). answer_value r.answer) p ∙ ap answer_value possible) in
      y ∙ ap (λ (v : Value). record { code = x.code; who = 0; what = x.what; argument = void_v; claim = v }) c

-- ---- all of them

-- each is a choice of the configuration, with its answer as its claim
lost-all : (cfg : Config) (st st' : State) (xs : List Step) (s : Step) → ((x : Step) → Memᴰ x xs → (15 ≤ x.code) × (x.code ≤ 17)) → Accepted cfg st (xs ++ (s ∷ [])) st'
    → (xs ≡ answered_all (step_of cfg) cfg st (map bare_of xs)) × ((y : Step) → Memᴰ y (map bare_of xs) → ChoiceOf cfg y)
unfolding Accepted answered_all bare_of
lost-all cfg st st' [] s c h = (refl, λ y m. absurd (mathlib.Core.List.Memᴰ.not-nil m))
lost-all cfg st st' (x ∷ xs) s c h =
    let l = c x (mathlib.Core.List.Memᴰ.head refl) in
    let t = taken_of cfg st x h.0 in
    let k = t ∙ ap Taken (sym (claim-told cfg st x t (ne_eqb x.code send_code (λ e. omega (arith, e, l.0))))) in
    let e = lost-answered cfg st x l.0 l.1 k in
    let r = lost-all cfg (step_of cfg st x).state st' xs s (λ z m. c z (mathlib.Core.List.Memᴰ.tail m)) h.1 in (
      ap (λ (q : List Step). x ∷ q) r.0 ∙ ap (λ (z : Step). z ∷ answered_all (step_of cfg) cfg (step_of cfg st z).state (map bare_of xs)) e,
      λ y m. ⊎_elim (λ (q : y ≡ bare_of x). subst (ChoiceOf cfg) (sym q) (lost-choice cfg st x l.0 l.1 k)) (λ (j : Memᴰ y (map bare_of xs)). r.1 y j) (mathlib.Core.List.Memᴰ.cases_cons m),
    )

-- what leads to a recorded step is a sequence of the list that fills the gap
record Found (cfg : Config) (m : State) (xs : List Step) (s : Step) : Type 0 where
  sequence : List Step
  listed : Memᴰ sequence (sequences_of cfg)
  same : xs ≡ answered_all (step_of cfg) cfg m sequence
  fits : fills (step_of cfg) cfg m s sequence ≡ true

leads-found : (cfg : Config) (m : State) (xs : List Step) (s : Step) → Leads cfg m xs s → Found cfg m xs s
leads-found cfg m xs s h =
    let q = map bare_of xs in
    let a = lost-all cfg m h.end xs s h.lost.codes h.taken in
    record {
      sequence = q;
      listed = (list-is-all cfg q).1 (subst (λ (n : ℕ). n ≤ 3) (sym (length-map xs bare_of)) h.lost.few, a.1);
      same = a.0;
      fits = accepted-fill cfg m h.end s q (subst (λ (l : List Step). Accepted cfg m (l ++ (s ∷ [])) h.end) a.0 h.taken);
    }

pub nothing-leads : NothingLeads
nothing-leads cfg st rs place u xs h = let f = leads-found cfg u.state xs u.step h in clash _ f.fits (u.none f.sequence f.listed)

-- ---- the order is that of the choices

module _ (f : State → Step → Stepped) (cfg : Config) where
  answered-append : (st : State) (p q : List Step) → answered_all f cfg st (p ++ q) ≡ answered_all f cfg st p ++ answered_all f cfg (state_after f st (answered_all f cfg st p)) q
  unfolding answered_all state_after
  answered-append st [] q = refl
  answered-append st (x ∷ p) q = ap (λ (l : List Step). answered cfg st x ∷ l) (answered-append (f st (answered cfg st x)).state p q)

  answered-before : (st : State) (p q : List Step) → Before p q → Before (answered_all f cfg st p) (answered_all f cfg st q)
  unfolding answered_all
  answered-before st p q (shorter l) = shorter (omega (arith, answered-length f cfg st p, answered-length f cfg st q))
  answered-before st p q (sooner same x y u v a b l h) =
      let m = state_after f st (answered_all f cfg st same) in
      sooner (answered_all f cfg st same) (answered cfg m x) (answered cfg m y) (answered_all f cfg (f m (answered cfg m x)).state u) (answered_all f cfg (f m (answered cfg m y)).state v)
      (ap (answered_all f cfg st) a ∙ answered-append st same (x ∷ u)) (ap (answered_all f cfg st) b ∙ answered-append st same (y ∷ v))
      (answered-length f cfg (f m (answered cfg m x)).state u ∙ l ∙ sym (answered-length f cfg (f m (answered cfg m y)).state v)) h

module _ (cfg : Config) (m : State) (t : Turn) (first : FirstFill cfg m t) where
  leads-later : (xs : List Step) → Leads cfg m xs t.kept → (xs ≡ t.inserted) ⊎ Before t.inserted xs
  leads-later xs h = by (member-at (sequences_of cfg) [] found.listed)
    where
      found : Found cfg m xs t.kept
      found = leads-found cfg m xs t.kept h

      at : ℕ → List Step
      at k = get_or (sequences_of cfg) k []

      there : (j : ℕ) → at j ≡ found.sequence → xs ≡ answered_all (step_of cfg) cfg m (at j)
      there j e = found.same ∙ ap (answered_all (step_of cfg) cfg m) (sym e)

      go : (j : ℕ) → j < length (sequences_of cfg) → at j ≡ found.sequence → Dec (j < t.passed) → Dec (t.passed < j) → (xs ≡ t.inserted) ⊎ Before t.inserted xs
      go j l e (yes a) b = absurd (clash _ (subst (λ (q : List Step). fills (step_of cfg) cfg m t.kept q ≡ true) (sym e) found.fits) (first.first j a))
      go j l e (no a) (yes b) = inr (subst (λ (z : List Step). Before z xs) (sym first.inserted) (subst (Before (answered_all (step_of cfg) cfg m (at t.passed))) (sym (there j e)) (answered-before (step_of cfg) cfg m (at t.passed) (at j) (list-is-ordered cfg t.passed j b l))))
      go j l e (no a) (no b) = let q : j ≡ t.passed = omega arith in inl (there j e ∙ ap (λ (k : ℕ). answered_all (step_of cfg) cfg m (at k)) q ∙ sym first.inserted)

      by : (k : ℕ) × (k < length (sequences_of cfg)) × (get_or (sequences_of cfg) k [] ≡ found.sequence) → (xs ≡ t.inserted) ⊎ Before t.inserted xs
      by r = go r.0 r.1 r.2 (dec_lt r.0 t.passed) (dec_lt t.passed r.0)

  inserted-leads : Lost t.inserted → Leads cfg m t.inserted t.kept
  inserted-leads l =
      let q = get_or (sequences_of cfg) t.passed [] in
      record {
        lost = l;
        end = state_after (step_of cfg) m (answered_all (step_of cfg) cfg m q ++ (t.kept ∷ []));
        taken = subst (λ (z : List Step). Accepted cfg m (z ++ (t.kept ∷ [])) (state_after (step_of cfg) m (answered_all (step_of cfg) cfg m q ++ (t.kept ∷ [])))) (sym first.inserted) (fill-accepted cfg m t.kept q first.fits);
      }

pub inserted-comes-first : InsertedComesFirst
inserted-comes-first cfg st rs before after t e =
    let f = first-is-inserted cfg st rs before after t e in
    let here : Memᴰ t (turns_of (step_of cfg) cfg st rs) = subst (λ (l : List Turn). Memᴰ t l) (sym e) (mathlib.Core.List.Memᴰ.append_right before (mathlib.Core.List.Memᴰ.head refl)) in
    let few = inserted-are-few cfg st rs t here in
    let lost : Lost t.inserted = record { few = few.0; codes = λ x m. let i = few.1 x m in (i.low, i.high) } in
    (f.0, f.1, inserted-leads cfg f.0 t f.2 lost, leads-later cfg f.0 t f.2)
