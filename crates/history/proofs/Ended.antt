-- Every ending stands at its place, behind its call, and in time (`AllEnded`): it was made there, by a step that the history before it explains.
-- A hand back that ends a call is by an instance that took the request of the latest call on an operation that is Calling (`answer-latest`); one that has failed hands back Void (`back-void`). While it is Calling, the time since
-- that call is no more than the timeout, and with nothing left on the count, as at a timeout, it is the timeout (`Timed`). Every deed keeps what stands (`ended-more`).
-- Assumes nothing.
use Prim.Native.Nat.{ℕ, ◌+◌, ◌≤◌}
use mathlib.Core.Bool.{Bool, true, false}
use mathlib.Core.List.Memᴰ
use mathlib.Core.List.{List, [], ◌∷◌, ◌++◌, append_assoc, Memᴰ}
use mathlib.Core.Logic.{⊎_elim}
use mathlib.Core.Path.{◌≡◌, refl, sym, ◌∙◌, ap}
use native.Mathlib.Omega.{arith}
use borrow.Author.Tests.{eqb-true}
use Rattle.laws.specs.Choice.{pick}
use Rattle.laws.proofs.Choosing.{both_left, both_right}
use Rattle.faces.specs.Types.{Value, Step, Config, Client, State}
use Rattle.values.specs.Values.{void_v, is_number, is_void, is_payload, same_value}
use Rattle.state.specs.Tables.{operation_in}
use Rattle.effects.specs.Steps.{answers, serves, client_of, has_failed}
use Rattle.effects.proofs.Agreeing.{same-value}
use Rattle.stays_sound.specs.Facts.{CanHandBack}
use Rattle.history.specs.History.{by_instance, by_failure, Ending, History, nothing, history_of, taken_by, failed_by, latest_on, observe, HandedBack, EndedBy, InTime}
use Rattle.history.specs.Promises.{Ended}
use Rattle.history.proofs.Tied.{Tag, Tied}
use Rattle.history.proofs.Named.{Named}
use Rattle.history.proofs.Deeds.{Deed, pass, call, answer, late, end, server, plain, timeout, fail, pass-adds, call-adds, answer-adds, late-adds, end-adds, server-adds, plain-adds, timeout-adds, fail-adds}
use Rattle.history.proofs.Timed.{Timed}

-- ---- every ending stands at its step, in time

-- each ending of a list
unfoldable pub AllEnded : Config → List Step → List Ending → Type 0
AllEnded cfg rs [] = Unit {0}
AllEnded cfg rs (e ∷ es) = Ended cfg rs e × AllEnded cfg rs es

ended-more : (cfg : Config) (rs xs : List Step) (e : Ending) → Ended cfg rs e → Ended cfg (rs ++ xs) e
ended-more cfg rs xs e h = record {
  before = h.before;
  step = h.step;
  after = h.after ++ xs;
  whole = ap (λ l. l ++ xs) h.whole ∙ append_assoc h.before (h.step ∷ h.after) xs;
  place = h.place;
  call = h.call;
  by = h.by;
  time = h.time;
}

all_more : (cfg : Config) (rs xs : List Step) (es : List Ending) → AllEnded cfg rs es → AllEnded cfg (rs ++ xs) es
unfolding AllEnded
all_more cfg rs xs [] h = tt
all_more cfg rs xs (e ∷ es) h = (ended-more cfg rs xs e h.0, all_more cfg rs xs es h.1)

all_cons : (cfg : Config) (rs : List Step) (e : Ending) (es : List Ending) → Ended cfg rs e → AllEnded cfg rs es → AllEnded cfg rs (e ∷ es)
unfolding AllEnded
all_cons cfg rs e es p h = (p, h)

pub ended-start : (cfg : Config) → AllEnded cfg [] nothing.endings
unfolding nothing AllEnded
ended-start cfg = tt

pub ended_at : (cfg : Config) (rs : List Step) (e : Ending) (l : List Ending) → AllEnded cfg rs l → Memᴰ e l → Ended cfg rs e
unfolding AllEnded
ended_at cfg rs e [] p m = absurd (Memᴰ.not-nil m)
ended_at cfg rs e (x ∷ xs) p m = ⊎_elim (λ q. rw q p.0) (λ q. ended_at cfg rs e xs p.1 q) (Memᴰ.cases_cons m)

-- the client of a hand back that ends a call: its operation is Calling, and the request taken is the latest call's
pub record Answered (st : State) (h : History) (i : ℕ) : Type 0 where
  pub calling : (operation_in st.operations (taken_by h i).on).calling ≡ true
  pub latest : (taken_by h i).at ≡ latest_on h (taken_by h i).on

pub answer-latest : (st : State) (h : History) (i : ℕ) → serves st i ≡ true → answers st.operations (client_of st i) ≡ true → Tied st h → Answered st h i
unfolding answers
answer-latest st h i v a t =
    let c : Client = client_of st i in
    let tag : Tag st.operations h.latest h.endings c (taken_by h i) = t.served.each i v in
    let open-still = both_left (operation_in st.operations c.operation).calling _ a in
    let its-number = sym (eqb-true _ _ (both_right (operation_in st.operations c.operation).calling _ a)) in
    record { calling = rw tag.same open-still; latest = rw tag.same (tag.newest open-still its-number) }

-- an instance that has failed hands back Void
pub back-void : (cfg : Config) (st : State) (i : ℕ) (v : Value) → CanHandBack cfg st i v → has_failed st i ≡ true → v ≡ void_v
unfolding is_payload is_void same_value
back-void cfg st i v z f =
    let n : is_number v ≡ false = rw f at z.honest in
    same-value v void_v (rw n at z.payload)

-- a hand back that ends a call ends it by the failure of its instance or with its value, and in time
back_by : (h : History) (s : Step) (o k : ℕ) (b : Bool) → failed_by h s.who ≡ b → HandedBack h s o k → (b ≡ true → s.argument ≡ void_v)
    → EndedBy h s o k (pick b (by_failure (taken_by h s.who).at) (by_instance (taken_by h s.who).at s.argument))
back_by h s o k true e q v = (q, q.3, v refl, e)
back_by h s o k false e q v = (q, q.3, refl, e)

back-time : (t top j : ℕ) (v : Value) (b : Bool) → t ≤ top → InTime t top (pick b (by_failure j) (by_instance j v))
back-time t top j v true l = l
back-time t top j v false l = l

pub ended-deed : (cfg : Config) (st : State) (s : Step) (st' : State) (rs : List Step) → Deed cfg st s st' → Tied st (history_of cfg rs) → Named rs (history_of cfg rs)
    → Timed cfg st.operations (history_of cfg rs).latest rs → AllEnded cfg rs (history_of cfg rs).endings → AllEnded cfg (rs ++ (s ∷ [])) (observe cfg (history_of cfg rs) s).endings
ended-deed cfg st s st' rs d t n k l = go d
  where
    h : History
    h = history_of cfg rs

    kept : AllEnded cfg (rs ++ (s ∷ [])) h.endings
    kept = all_more cfg rs (s ∷ []) h.endings l

    go : Deed cfg st s st' → AllEnded cfg (rs ++ (s ∷ [])) (observe cfg h s).endings
    go (pass a q m w) = rw (pass-adds cfg h s q) kept
    go (call c q z e) = rw (call-adds cfg h s c q) kept
    go (answer c q z a e) =
        let w = answer-latest st h s.who z.serving a t in
        let o = (taken_by h s.who).on in
        rw (answer-adds cfg h s c q)
        (all_cons cfg (rs ++ (s ∷ [])) _ h.endings
        (record {
          before = rs;
          step = s;
          after = [];
          whole = refl;
          place = ap (λ m. m + 1) n.place;
          call = n.latest o (t.calls.begun o w.calling);
          by = back_by h s o (latest_on h o) (failed_by h s.who) refl (c, q, refl, w.latest) (λ f. back-void cfg st s.who s.argument z (t.failed.each s.who ∙ f));
          time = back-time _ _ (taken_by h s.who).at s.argument (failed_by h s.who) (omega (arith, k.rest o w.calling));
        })
        kept)
    go (late c q z e) = rw (late-adds cfg h s c q) kept
    go (end c z e) = rw (end-adds cfg h s c) kept
    go (server c q y z e) = rw (server-adds cfg h s c y) kept
    go (plain c q y z e) = rw (plain-adds cfg h s c y) kept
    go (timeout c z e) =
        let o = s.what in
        rw (timeout-adds cfg h s c)
        (all_cons cfg (rs ++ (s ∷ [])) _ h.endings
        (record {
          before = rs;
          step = s;
          after = [];
          whole = refl;
          place = ap (λ m. m + 1) n.place;
          call = n.latest o (t.calls.begun o z.calling);
          by = (c, refl);
          time = omega (arith, k.rest o z.calling, z.zero);
        })
        kept)
    go (fail c z e) = rw (fail-adds cfg h s c) kept
