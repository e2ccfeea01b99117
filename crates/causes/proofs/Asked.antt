-- What is asked about a code, a slot and a part holds of every step of theirs: the answer does not depend on what is handed over, as long as it is of the
-- kind that the code takes. Two steps have an argument that counts: a wait (`wait-goes`), and a hand back by an instance that has failed, of a Number
-- (`failed-number`).
-- Assumes nothing.
use Prim.Native.Nat.{ℕ}
use mathlib.Core.Bool.{Bool, true, false}
use mathlib.Core.Path.{◌≡◌, refl, sym, ap, ◌∙◌}
use native.Mathlib.Decide.{ℕ_discrete}
use lib.Dec.{ltb, eqb}
use Rattle.numbers.specs.Refusals.{malformed}
use Rattle.numbers.specs.Codes.{hand_back_code, wait_code}
use Rattle.laws.specs.Choice.{pick, both, either}
use Rattle.values.specs.Values.{void_v, number_v, is_void, is_payload, is_number}
use Rattle.faces.specs.Types.{Value, Step, Refused, Config, State, Stepped}
use Rattle.config.specs.Tables.{operation_conf_in}
use Rattle.rules.specs.declared.Row.{Row}
use Rattle.rules.specs.Rows.{no_part, row_of, rows}
use Rattle.rules.specs.Refusals.{argues, formed, instance_refusal, scheduler_refusal, refusal_by, refusal_of}
use Rattle.entries.specs.Faults.{is_time}
use Rattle.effects.specs.Steps.{requests_full, is_busy, is_borne, serves, client_of, answers, has_failed, hands_number, write_variable_of, write_of, send_of, call_of, hand_back_of, hold_of, write_copy_of}
use Rattle.effects.specs.Step.{possible_of}
use Rattle.effects.proofs.Codes.{Code, coded, act_by, possible-by, possible-barred}
use Rattle.effects.proofs.Codes as code
use Rattle.causes.specs.Allowed.{sample_of, probe_of, allowed_of}

-- the sample is of its kind
sample-argues : (k : ℕ) → argues k (sample_of k) ≡ true
unfolding argues sample_of is_void is_payload
sample-argues k = go (eqb k 0) (eqb k 1) (eqb k 3)
  where
    sample : Bool → Bool → Bool → Value
    sample a b c = pick a void_v (pick b void_v (pick c (number_v 1) (number_v 0)))

    go : (a b c : Bool) → pick a (is_void (sample a b c)) (pick b (is_payload (sample a b c)) (pick c (both (is_number (sample a b c)) (is_time (sample a b c).number)) (is_number (sample a b c)))) ≡ true
    go true b c = refl
    go false true c = refl
    go false false true = refl
    go false false false = refl

-- two arguments of the kind are as good as each other
formed-same : (r : Row) (what : ℕ) (v w : Value) → argues r.argument v ≡ true → argues r.argument w ≡ true → formed r what v ≡ formed r what w
unfolding formed
formed-same r what v w h k = ap (both (either (ltb no_part r.part) (eqb what 0))) (h ∙ sym k)

-- a choice between outcomes that answer alike
answer-pick : (b : Bool) (x y z w : Stepped) → x.answer ≡ z.answer → y.answer ≡ w.answer → (pick b x y).answer ≡ (pick b z w).answer
answer-pick true x y z w p q = p
answer-pick false x y z w p q = q

-- both tests fail if the second does
both-fails : (b c : Bool) → c ≡ false → both b c ≡ false
both-fails true c e = e
both-fails false c e = refl

module _ (cfg : Config) (st : State) where
  -- the code n does not hand back a Number v from an instance i that has failed
  abbrev Spoken : ℕ → ℕ → Value → Type 0
  Spoken n i v = n ≡ hand_back_code → hands_number st i v ≡ false

  -- what a step answers does not depend on what it hands over, but for a wait, and for a Number from an instance that has failed
  act-answers : {n : ℕ} (c : Code n) → (n ≡ wait_code → ⊥) → (i k : ℕ) (v w : Value) → Spoken n i v → Spoken n i w → (act_by c cfg st i k v).answer ≡ (act_by c cfg st i k w).answer
  unfolding write_variable_of write_of send_of call_of hand_back_of hold_of write_copy_of
  act-answers code.read_variable l i k v w p q = refl
  act-answers code.write_variable l i k v w p q = refl
  act-answers code.enter l i k v w p q = refl
  act-answers code.exit l i k v w p q = refl
  act-answers code.read l i k v w p q = refl
  act-answers code.write l i k v w p q = refl
  act-answers code.updated l i k v w p q = refl
  act-answers code.invalidate l i k v w p q = refl
  act-answers code.receive l i k v w p q = refl
  act-answers code.send l i k v w p q = refl
  act-answers code.call l i k v w p q =
      answer-pick (is_busy st k) _ _ _ _ refl
      (answer-pick (is_borne st k) _ _ _ _ refl
      (answer-pick (requests_full cfg st.runnables (operation_conf_in cfg.operations k).server) _ _ _ _ refl refl))
  act-answers code.result l i k v w p q = refl
  act-answers code.hand_back l i k v w p q =
      rw (p refl, q refl) (answer-pick (serves st i) _ _ _ _ (answer-pick (answers st.operations (client_of st i)) _ _ _ _ refl refl) refl)
  act-answers code.end l i k v w p q = refl
  act-answers code.spawn l i k v w p q = refl
  act-answers code.timeout l i k v w p q = refl
  act-answers code.tick l i k v w p q = refl
  act-answers code.wait l i k v w p q = absurd (l refl)
  act-answers code.fail l i k v w p q = refl
  act-answers code.hold l i k v w p q = refl
  act-answers code.give_up l i k v w p q = refl
  act-answers code.read_copy l i k v w p q = refl
  act-answers code.write_copy l i k v w p q = refl

  module _ (s : Step) (h : argues (row_of s.code).argument s.argument ≡ true) where
    -- the step that is asked about
    abbrev asked : Step
    asked = probe_of s.code s.who s.what

    refused-alike : refusal_of cfg st.slots s ≡ refusal_of cfg st.slots asked
    unfolding refusal_of refusal_by instance_refusal scheduler_refusal probe_of
    refused-alike = rw (formed-same (row_of s.code) s.what s.argument (sample_of (row_of s.code).argument) h (sample-argues (row_of s.code).argument))

    -- what is asked about hands back Void
    asked-spoken : Spoken s.code s.who (sample_of (row_of s.code).argument)
    unfolding sample_of row_of rows
    asked-spoken e = rw e (both-fails (has_failed st s.who) _ refl)

    -- the answer of any step whose argument is of its kind is the one that was asked for, unless it is a wait, or hands back a Number from an instance that has failed
    pub allowed-is-possible : (s.code ≡ wait_code → ⊥) → (s.code ≡ hand_back_code → hands_number st s.who s.argument ≡ false) → (possible_of cfg st s).answer ≡ allowed_of cfg st s.code s.who s.what
    unfolding allowed_of probe_of
    allowed-is-possible l p = go (ℕ_discrete (refusal_of cfg st.slots s) 0)
      where
        go : Dec (refusal_of cfg st.slots s ≡ 0) → (possible_of cfg st s).answer ≡ (possible_of cfg st asked).answer
        go (yes e) =
            let c = coded cfg st.slots s e in
            rw (possible-by cfg st s c refl e, possible-by cfg st asked c refl (sym refused-alike ∙ e)) (act-answers c l s.who s.what s.argument (sample_of (row_of s.code).argument) p asked-spoken)
        go (no n) = rw (possible-barred cfg st s n, possible-barred cfg st asked (λ e. n (refused-alike ∙ e)), refused-alike)

  -- and such a hand back is refused with 2, where 2 to 5 would let it through
  pub failed-number : (s : Step) → s.code ≡ hand_back_code → hands_number st s.who s.argument ≡ true → refusal_of cfg st.slots s ≡ 0 → (possible_of cfg st s).answer ≡ Refused malformed
  unfolding hand_back_of
  failed-number s e h z = rw (possible-by cfg st s code.hand_back e z, h)
