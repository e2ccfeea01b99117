-- What is shown of a recording, by what is known after its steps: the operation is Calling exactly if a call on it is open (`open-is-unended`), and else holds what the
-- latest ending gave (`done-is-delivered`), which is Timeout or a payload.
-- Assumes nothing.
use Prim.Native.Nat.{ℕ, ◌≤◌, ◌<◌}
use mathlib.Core.Bool.{Bool, true, false}
use mathlib.Core.List.{List, [], ◌∷◌, Memᴰ}
use mathlib.Core.Option.{Option, none, some}
use mathlib.Core.Path.{◌≡◌, refl, sym, ap, ◌∙◌, subst}
use native.Mathlib.Omega.{arith}
use lib.Dec.{ltb, eqb}
use lib.ListN.{length}
use borrow.Author.Tests.{lt-ltb, eq-eqb, ltb-true, eqb-true}
use Rattle.numbers.specs.Codes.{hand_back_code}
use Rattle.laws.specs.Choice.{pick}
use Rattle.laws.proofs.Choosing.{clash, both_left, both_right}
use Rattle.faces.specs.Types.{Value, Step, Taken, Config, State}
use Rattle.values.specs.Values.{void_v, number_v, is_void, is_number, is_payload}
use Rattle.state.specs.Tables.{operation_in}
use Rattle.state.specs.Start.{start_of}
use Rattle.entries.specs.Faults.{config_sound}
use Rattle.rules.proofs.Configured.{operations-most}
use Rattle.effects.specs.Step.{step_of}
use Rattle.reading.specs.Reading.{config_of}
use Rattle.reading.proofs.Sound.{read-sound, read_number}
use Rattle.recording.specs.Whole.{steps_in}
use Rattle.judging.specs.declared.Verdict.{Verdict}
use Rattle.judging.specs.declared.Verdict.TheVariants.{Accepted, Refused, Unfinished}
use Rattle.judging.specs.declared.Judged.{Judged}
use Rattle.judging.specs.Judging.{verdict_form, judge_of}
use Rattle.judging.specs.Line.{allowed}
use Rattle.history.specs.History.{How, by_timeout, by_instance, by_failure, Ending, history_of, latest_on, ends_of, last_on, is_unended, given, delivered, EndedBy}
use Rattle.history.specs.Promises.{Ended}
use Rattle.history.proofs.Runs.{halves, first}
use Rattle.history.proofs.Deeds.{Deed, pass, call, answer, late, end, server, plain, timeout, fail, other-code}
use Rattle.history.proofs.Accepts.{deed}
use Rattle.history.proofs.Unended.{started-some}
use Rattle.history.proofs.Proofs.{ends-properly, done-is-delivered, open-is-unended, unended-is-latest, latest-started}
use Rattle.claims.proofs.Verdicts.{accepted-is-whole}
use Rattle.posting.specs.declared.Shown.{Shown}
use Rattle.posting.specs.declared.Shown.TheVariants.{Final, Wait, NoPlan, None, Unjudged}
use Rattle.posting.specs.Posting.{is_unplanned, done_shown, operation_shown}
use Rattle.showing.specs.Showing.{judged_shown, recording_shown}
use Rattle.shown.specs.Claims.{There, Whole, after_all, Open, NoneOpen, NoneYet, Unplanned, Means}

-- ---- endings

-- the last ending on o is an ending, and on o
pub last-in : (o : ℕ) (l : List Ending) (x : Ending) → last_on o l ≡ some x → Memᴰ x l × (x.on ≡ o)
unfolding last_on
last-in o [] x e = absurd (let z : ◌≡◌ {A = ℕ} 0 1 = cc in omega arith)
last-in o (y ∷ l) x e = go (eqb y.on o) refl e (λ f. last-in o l x f)
  where
    go : (b : Bool) → eqb y.on o ≡ b → pick b (some y) (last_on o l) ≡ some x → (last_on o l ≡ some x → Memᴰ x l × (x.on ≡ o)) → Memᴰ x (y ∷ l) × (x.on ≡ o)
    go true p q r = let s : x ≡ y = cc in (Memᴰ.head s, ap (λ (z : Ending). z.on) s ∙ eqb-true y.on o p)
    go false p q r = let s = r q in (Memᴰ.tail s.0, s.1)

-- what is handed back is a payload
back-payload : (cfg : Config) (st : State) (s : Step) {v : Value} → (step_of cfg st s).answer ≡ Taken v → s.code ≡ hand_back_code → is_payload s.argument ≡ true
back-payload cfg st s a q = go (deed cfg st s a)
  where
    go : {st' : State} → Deed cfg st s st' → is_payload s.argument ≡ true
    go (pass x y z w) = absurd (y.back q)
    go (call c k z e) = absurd (other-code hand_back_code c refl q)
    go (answer c k z e w) = z.payload
    go (late c k z e) = z.payload
    go (end c z e) = absurd (other-code hand_back_code c refl q)
    go (server c k i z e) = absurd (other-code hand_back_code c refl q)
    go (plain c k i z e) = absurd (other-code hand_back_code c refl q)
    go (timeout c z e) = absurd (other-code hand_back_code c refl q)
    go (fail c z e) = absurd (other-code hand_back_code c refl q)

-- ---- the verdict

is-accepted : (v : Verdict) → verdict_form v ≡ 0 → v ≡ Accepted
is-accepted Accepted h = refl
is-accepted (Refused p k) h = absurd (omega (arith, h))
is-accepted Unfinished h = absurd (omega (arith, h))

module _ (c : List ℕ) (o : ℕ) (t : List ℕ) (h : There c o) where
  abbrev cfg : Config
  cfg = (config_of c).config

  abbrev j : Judged
  j = judge_of (config_of c).config (start_of (config_of c).config) t allowed

  pub config-sound : config_sound (config_of c).config ≡ true
  config-sound = read-sound c (read_number c h.read)

  pub inside : o < 8
  inside = omega (arith, operations-most cfg config-sound, h.there)

  -- a recording that is not accepted whole
  pub shown-unjudged : (Whole c t → ⊥) → recording_shown (config_of c).config o t allowed ≡ Unjudged
  unfolding recording_shown judged_shown
  shown-unjudged n = go j.verdict refl
    where
      go : (v : Verdict) → j.verdict ≡ v → judged_shown o j ≡ Unjudged
      go Accepted e = let w = (accepted-is-whole cfg t allowed j.count j.state config-sound).0 (ap verdict_form e, refl, refl) in absurd (n (record { whole = w.0; few = subst (λ (m : ℕ). m ≤ allowed) w.1 w.2; state = j.state; run = w.3 }))
      go (Refused p k) e = rw e
      go Unfinished e = rw e

  -- whether it is
  pub whole-or : Dec (Whole c t)
  whole-or = go j.verdict refl
    where
      other : verdict_form j.verdict ≡ 0 → Whole c t
      other e = let w = (accepted-is-whole cfg t allowed j.count j.state config-sound).0 (e, refl, refl) in record { whole = w.0; few = subst (λ (m : ℕ). m ≤ allowed) w.1 w.2; state = j.state; run = w.3 }

      never : (verdict_form j.verdict ≡ 0 → ⊥) → Whole c t → ⊥
      never n w = n ((accepted-is-whole cfg t allowed (length (steps_in t)) w.state config-sound).1 (w.whole, refl, w.few, w.run)).0

      go : (v : Verdict) → j.verdict ≡ v → Dec (Whole c t)
      go Accepted e = yes (other (ap verdict_form e))
      go (Refused p k) e = no (never (λ z. omega (arith, sym (ap verdict_form e) ∙ z)))
      go Unfinished e = no (never (λ z. omega (arith, sym (ap verdict_form e) ∙ z)))

  module _ (w : Whole c t) where
    abbrev st : State
    st = w.state

    -- what is shown, by the history
    pub shown_by : recording_shown (config_of c).config o t allowed ≡ pick (is_unended (after_all c t) o) Wait (done_shown (delivered (last_on o (after_all c t).endings)))
    unfolding recording_shown judged_shown operation_shown
    shown_by = let s = (accepted-is-whole cfg t allowed (length (steps_in t)) st config-sound).1 (w.whole, refl, w.few, w.run) in rw (is-accepted j.verdict s.0, s.2) (go (operation_in st.operations o).calling refl)
      where
        u : (operation_in st.operations o).calling ≡ is_unended (after_all c t) o
        u = open-is-unended cfg (steps_in t) st config-sound w.run o inside

        go : (b : Bool) → (operation_in st.operations o).calling ≡ b
            → pick (operation_in st.operations o).calling Wait (done_shown (operation_in st.operations o).done) ≡ pick (is_unended (after_all c t) o) Wait (done_shown (delivered (last_on o (after_all c t).endings)))
        go true e = rw (e, sym u ∙ e)
        go false e = rw (e, sym u ∙ e) (ap done_shown (done-is-delivered cfg (steps_in t) st config-sound w.run o inside e).0)

    -- ---- open calls

    pub unended-open : is_unended (after_all c t) o ≡ true → (k : ℕ) × Open c o t k
    unfolding is_unended
    unended-open e =
        let m = latest_on (after_all c t) o in
        let x = ltb 0 m in
        let y = eqb (ends_of m (after_all c t).endings) 0 in
        let b = ltb-true 0 m (both_left x y e) in
        (latest_on (after_all c t) o, (latest-started cfg (steps_in t) st config-sound w.run o inside b, eqb-true (ends_of m (after_all c t).endings) 0 (both_right x y e)))

    pub open-unended : (k : ℕ) → Open c o t k → is_unended (after_all c t) o ≡ true
    unfolding is_unended
    open-unended k p =
        let l = unended-is-latest cfg (steps_in t) st config-sound w.run k o p.0 p.1 in
        let b : 0 < latest_on (after_all c t) o = omega (arith, l, started-some (steps_in t) k o p.0) in
        let z : ends_of (latest_on (after_all c t) o) (after_all c t).endings ≡ 0 = ap (λ (m : ℕ). ends_of m (after_all c t).endings) (sym l) ∙ p.1 in
        rw (lt-ltb 0 (latest_on (after_all c t) o) b, eq-eqb _ _ z)

    pub none-unended : NoneOpen c o t → is_unended (after_all c t) o ≡ false
    none-unended n = go (is_unended (after_all c t) o) refl
      where
        go : (b : Bool) → is_unended (after_all c t) o ≡ b → is_unended (after_all c t) o ≡ false
        go true e = let p = unended-open e in absurd (n p.0 p.1)
        go false e = e

    unended-none : is_unended (after_all c t) o ≡ false → NoneOpen c o t
    unended-none e k p = clash (is_unended (after_all c t) o) (open-unended k p) e

    -- ---- the last ending

    pub last-ended : (x : Ending) → last_on o (after_all c t).endings ≡ some x → Ended (config_of c).config (steps_in t) x
    last-ended x q = ends-properly cfg (steps_in t) st config-sound w.run x (last-in o (after_all c t).endings x q).0

    -- what an instance handed back is Void or a Number, and it was spawned for the call that ended
    by_call : (x : Ending) (k : ℕ) (v : Value) → Ended cfg (steps_in t) x → x.how ≡ by_instance k v → (k ≡ x.call) × (is_payload v ≡ true)
    by_call x k v d e =
        let b : EndedBy (history_of cfg d.before) d.step x.on x.call (by_instance k v) = subst (λ (y : How). EndedBy (history_of cfg d.before) d.step x.on x.call y) e d.by in
        let m = halves cfg (start_of cfg) st d.before (d.step ∷ d.after) (rw d.whole at w.run) in
        (b.1, ap is_payload (sym b.2) ∙ back-payload cfg m.mid d.step (first cfg m.mid st d.step d.after m.after) b.0.0)

    payload-kinds : (x : Ending) (v : Value) → last_on o (after_all c t).endings ≡ some x → NoneOpen c o t → x.how ≡ by_instance x.call v → is_payload v ≡ true → Means c o t (done_shown v)
    unfolding is_payload is_void done_shown is_unplanned
    payload-kinds x v q n e p = go (is_number v) refl p
      where
        go : (b : Bool) → is_number v ≡ b → is_payload v ≡ true → Means c o t (pick b (Final v.number) (pick (is_unplanned v) NoPlan None))
        go true k p = let s : v ≡ number_v v.number = ap (λ (i : ℕ). record { kind = i; number = v.number }) (eqb-true v.kind 1 k) in (w, n, x, q, e ∙ ap (by_instance x.call) s)
        go false k p =
            let z : is_void v ≡ true = rw k at p in
            let s : v ≡ void_v = ap (λ (i : ℕ). record { kind = i; number = v.number }) (eqb-true v.kind 0 (both_left (eqb v.kind 0) (eqb v.number 0) z)) ∙ ap (λ (i : ℕ). record { kind = 0; number = i }) (eqb-true v.number 0 (both_right (eqb v.kind 0) (eqb v.number 0) z)) in
            rw s (w, n, subst NoneYet (sym q) (e ∙ ap (by_instance x.call) s))

    last-kinds : (x : Ending) → last_on o (after_all c t).endings ≡ some x → NoneOpen c o t → (y : How) → x.how ≡ y → Means c o t (done_shown (given x.how))
    unfolding done_shown is_unplanned
    last-kinds x q n by_timeout e = rw e (w, n, x, q, subst Unplanned (sym e) tt)
    last-kinds x q n (by_failure k) e = rw e (w, n, x, q, subst Unplanned (sym e) tt)
    last-kinds x q n (by_instance k v) e =
        let b = by_call x k v (last-ended x q) e in
        subst (λ (y : How). Means c o t (done_shown (given y))) (sym e) (payload-kinds x v q n (e ∙ ap (λ (i : ℕ). by_instance i v) b.0) b.1)

    -- ---- both ways

    pub shown-means : Means c o t (pick (is_unended (after_all c t) o) Wait (done_shown (delivered (last_on o (after_all c t).endings))))
    unfolding done_shown is_unplanned
    shown-means = go (is_unended (after_all c t) o) refl (last_on o (after_all c t).endings) refl
      where
        go : (b : Bool) → is_unended (after_all c t) o ≡ b → (l : Option Ending) → last_on o (after_all c t).endings ≡ l → Means c o t (pick b Wait (done_shown (delivered l)))
        go true e l q = let p = unended-open e in (w, p.0, p.1)
        go false e none q = (w, unended-none e, subst NoneYet (sym q) tt)
        go false e (some x) q = last-kinds x q (unended-none e) x.how refl

  pub means-shown : (x : Shown) → Means c o t x → recording_shown (config_of c).config o t allowed ≡ x
  unfolding done_shown is_unplanned
  means-shown (Final n) m = shown_by m.0 ∙ rw (none-unended m.0 m.1, m.3, m.4)
  means-shown Wait m = shown_by m.0 ∙ rw (open-unended m.0 m.1 m.2)
  means-shown NoPlan m = go m.2.how refl m.4
    where
      go : (y : How) → m.2.how ≡ y → Unplanned y → recording_shown (config_of c).config o t allowed ≡ NoPlan
      go by_timeout e u = shown_by m.0 ∙ rw (none-unended m.0 m.1, m.3, e)
      go (by_instance k v) e u = absurd u
      go (by_failure k) e u = shown_by m.0 ∙ rw (none-unended m.0 m.1, m.3, e)
  means-shown None m = go (last_on o (after_all c t).endings) refl m.2
    where
      go : (l : Option Ending) → last_on o (after_all c t).endings ≡ l → NoneYet l → recording_shown (config_of c).config o t allowed ≡ None
      go none e u = shown_by m.0 ∙ rw (none-unended m.0 m.1, e)
      go (some x) e u = shown_by m.0 ∙ rw (none-unended m.0 m.1, e, u)
  means-shown Unjudged m = shown-unjudged m
