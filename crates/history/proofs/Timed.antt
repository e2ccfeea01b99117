-- Time, as the waits of the recording tell it: while an operation is Calling, the time since its latest call and the count that is left are its timeout (`Timed`).
-- Time adds up along a recording (`since-more`), and none has passed since its last step (`since-now`). A call starts with the whole timeout (`timed-call`), a
-- call that ended is not asked about (`timed-closed`), and any other step takes from every open call the time that it lets pass (`timed-passed`): a wait its
-- argument, all others none. Every deed is of these kinds (`timed-deed`).
-- Assumes nothing.
use Prim.Native.Nat.{ℕ, ◌+◌, ◌≤◌, ◌<◌}
use mathlib.Core.Bool.{Bool, true, false}
use mathlib.Core.List.{List, [], ◌∷◌, ◌++◌}
use mathlib.Core.Path.{◌≡◌, refl, sym, ◌∙◌, ap}
use native.Mathlib.Omega.{arith}
use lib.Dec.{eqb}
use lib.ListN.{length, get_or, set, drop, length-append}
use lib.Seq.{drop-append-le, drop-length}
use borrow.Author.Tests.{ne_eqb}
use Rattle.numbers.specs.Codes.{wait_code}
use Rattle.laws.specs.Choice.{pick}
use Rattle.laws.proofs.Choosing.{clash, both_left}
use Rattle.faces.specs.Types.{Step, Config, Operation, Operations, State}
use Rattle.config.specs.Tables.{operation_conf_in}
use Rattle.state.specs.Parts.{no_operation}
use Rattle.state.specs.Start.{start_of}
use Rattle.state.specs.Tables.{operation_in, with_operation}
use Rattle.effects.specs.Steps.{opening, called, closing, closed, answers, client_of, spawned}
use Rattle.stays_sound.specs.Facts.{Sound}
use Rattle.rules.proofs.Configured.{operations-most}
use Rattle.stays_sound.proofs.Told.{operations-length}
use Rattle.stays_sound.proofs.Clients.{calling-inside}
use Rattle.history.specs.History.{History, nothing, latest_on, observe, time_of, time_in, time_since}
use Rattle.history.proofs.Beside.{all_alike}
use Rattle.history.proofs.Tied.{SameCalls, Tied}
use Rattle.history.proofs.Calls.{operation-each, operation-both}
use Rattle.history.proofs.Passes.{same-calls}
use Rattle.history.proofs.Named.{Named}
use Rattle.state.specs.Places.{no_places, place_in}
use Rattle.history.proofs.Deeds.{Deed, pass, call, answer, late, end, server, plain, timeout, fail, pass-adds, call-adds, answer-adds, late-adds, end-adds, server-adds, plain-adds, timeout-adds, fail-adds, other-code}

-- ---- time adds up

time-append : (xs ys : List Step) → time_in (xs ++ ys) ≡ time_in xs + time_in ys
unfolding time_in
time-append [] ys = omega arith
time-append (x ∷ xs) ys = omega (arith, time-append xs ys)

time-one : (s : Step) → time_in (s ∷ []) ≡ time_of s
unfolding time_in
time-one s = omega arith

pub since-more : (k : ℕ) (rs : List Step) (s : Step) → k ≤ length rs → time_since k (rs ++ (s ∷ [])) ≡ time_since k rs + time_of s
since-more k rs s b = rw (drop-append-le k rs (s ∷ []) b) (omega (arith, time-append (drop k rs) (s ∷ []), time-one s))

pub since-now : (k : ℕ) (rs : List Step) → length rs ≡ k → time_since k rs ≡ 0
unfolding time_in
since-now k rs e = rw (← e, drop-length rs)

-- a step that is no wait
pub still : (s : Step) → (s.code ≡ wait_code → ⊥) → time_of s ≡ 0
unfolding time_of
still s n = ap (λ (b : Bool). pick b s.argument.number 0) (ne_eqb s.code wait_code n)

-- ---- what is left of each open call

pub record Timed (cfg : Config) (os : Operations) (latest : List ℕ) (rs : List Step) : Type 0 where
  pub rest : (o : ℕ) → (operation_in os o).calling ≡ true → time_since (get_or latest o 0) rs + (operation_in os o).count ≡ (operation_conf_in cfg.operations o).timeout

pub timed-start : (cfg : Config) → Timed cfg (start_of cfg).operations nothing.latest []
unfolding start_of no_places place_in
timed-start cfg = record {
  rest = λ o.
      all_alike (λ y. y.calling ≡ true → time_since (get_or nothing.latest o 0) [] + y.count ≡ (operation_conf_in cfg.operations o).timeout) 8 no_operation o
      (λ e. absurd (clash false e refl));
}

module _ (cfg : Config) (os : Operations) (latest : List ℕ) (rs : List Step) (s : Step) (p : (o : ℕ) → get_or latest o 0 ≤ length rs) (t : Timed cfg os latest rs) where
  timed-passed : (os' : Operations) → SameCalls (time_of s) os os' → Timed cfg os' latest (rs ++ (s ∷ []))
  timed-passed os' a = record {
    rest = λ o e.
        let c : (operation_in os o).calling ≡ true = sym (a.calling o) ∙ e in
        omega (arith, since-more (get_or latest o 0) rs s (p o), a.count o c, t.rest o c);
  }

  -- no wait, and the operations as they were
  timed-still : (s.code ≡ wait_code → ⊥) → Timed cfg os latest (rs ++ (s ∷ []))
  timed-still n = timed-passed os (rw (still s n) (same-calls os))

  timed-call : (o : ℕ) (x : Operation) → (s.code ≡ wait_code → ⊥) → o < length os.at → o < length latest → x.count ≡ (operation_conf_in cfg.operations o).timeout
      → Timed cfg (with_operation os o x) (set latest o (length rs + 1)) (rs ++ (s ∷ []))
  timed-call o x n b c e = record {
    rest =
        operation-both (λ j y k. y.calling ≡ true → time_since k (rs ++ (s ∷ [])) + y.count ≡ (operation_conf_in cfg.operations j).timeout) os latest o x (length rs + 1) b c
        (λ q. omega (arith, since-now (length rs + 1) (rs ++ (s ∷ [])) (length-append rs (s ∷ [])), e))
        (λ j m. (timed-still n).rest j);
  }

  timed-closed : (o : ℕ) (x : Operation) → (s.code ≡ wait_code → ⊥) → o < length os.at → x.calling ≡ false → Timed cfg (with_operation os o x) latest (rs ++ (s ∷ []))
  timed-closed o x n b e = record {
    rest =
        operation-each (λ j y. y.calling ≡ true → time_since (get_or latest j 0) (rs ++ (s ∷ [])) + y.count ≡ (operation_conf_in cfg.operations j).timeout) os o x b
        (λ q. absurd (clash x.calling q e)) (λ j m. (timed-still n).rest j);
  }

pub timed-deed : (cfg : Config) (st : State) (s : Step) (st' : State) (rs : List Step) (h : History) → Sound cfg st → Deed cfg st s st' → Tied st h → Named rs h
    → Timed cfg st.operations h.latest rs → Timed cfg st'.operations (observe cfg h s).latest (rs ++ (s ∷ []))
unfolding called closed closing answers spawned
timed-deed cfg st s st' rs h g d t n k = go d
  where
    past : (o : ℕ) → latest_on h o ≤ length rs
    past o = omega (arith, t.calls.past o, n.place)

    os : Operations
    os = st.operations

    still-so : {m : ℕ} → eqb m wait_code ≡ false → s.code ≡ m → Timed cfg os h.latest (rs ++ (s ∷ []))
    still-so f c = timed-still cfg os h.latest rs s past k (other-code wait_code c f)

    go : Deed cfg st s st' → Timed cfg st'.operations (observe cfg h s).latest (rs ++ (s ∷ []))
    go (pass a q m w) = rw (pass-adds cfg h s q) (timed-passed cfg os h.latest rs s past k st'.operations a.operations)
    go (call c q z e) =
        rw (call-adds cfg h s c q, e, n.place)
        (timed-call cfg os h.latest rs s past k s.what (opening (operation_conf_in cfg.operations s.what).timeout (operation_in os s.what)) (other-code wait_code c refl) (omega (arith, operations-length cfg st g, operations-most cfg g.config, z.inside))
        (omega (arith, t.calls.size, operations-most cfg g.config, z.inside)) refl)
    go (answer c q z a e) =
        let o = (client_of st s.who).operation in
        rw (answer-adds cfg h s c q, e)
        (timed-closed cfg os h.latest rs s past k o _ (other-code wait_code c refl) (calling-inside os o (both_left (operation_in os o).calling _ a)) refl)
    go (late c q z e) = rw (late-adds cfg h s c q, e) (still-so refl c)
    go (end c z e) = rw (end-adds cfg h s c, e.operations) (still-so refl c)
    go (server c q y z e) = rw (server-adds cfg h s c y, e.operations) (still-so refl c)
    go (plain c q y z e) = rw (plain-adds cfg h s c y, e.operations) (still-so refl c)
    go (timeout c z e) = rw (timeout-adds cfg h s c, e) (timed-closed cfg os h.latest rs s past k s.what _ (other-code wait_code c refl) (calling-inside os s.what z.calling) refl)
    go (fail c z e) = rw (fail-adds cfg h s c, e) (still-so refl c)
