-- A step that passes refusal 2 fills no entry that its code does not use, so it has a short form: one statement over any row of the table.
-- Assumes nothing.
use Prim.Native.Nat.{ℕ, ◌<◌}
use mathlib.Core.Bool.{Bool, true, false}
use mathlib.Core.List.{[], ◌∷◌}
use mathlib.Core.Path.{◌≡◌, refl, sym, ap, ◌∙◌}
use native.Mathlib.Decide.{dec_lt}
use native.Mathlib.Omega.{arith}
use borrow.Author.Tests.{lt-ltb, eqb-true}
use lib.Dec.{ltb, eqb}
use Rattle.laws.specs.Choice.{both, either, all_of}
use Rattle.laws.proofs.Choosing.{pick-on, both_left, both_right, either-more}
use Rattle.values.specs.Values.{is_void}
use Rattle.values.specs.declared.Value.{Value}
use Rattle.values.specs.declared.Step.{Step}
use Rattle.faces.specs.Types.{Config, Slots}
use Rattle.rules.specs.declared.Row.{Row}
use Rattle.rules.specs.Rows.{row_of}
use Rattle.rules.specs.Refusals.{argues, formed, instance_refusal, scheduler_refusal, refusal_by, refusal_of}
use Rattle.forms.specs.Short.{is_code, is_sparing, uses_who, uses_what, uses_argument, has_short}

no-pass : {A : Type 0} {k : ℕ} → 0 < k → k ≡ 0 → A
no-pass l e = absurd (omega (arith, l, e))

-- an argument that is not used is Void
argument-spared : (k : ℕ) (v : Value) → argues k v ≡ true → either (ltb 0 k) (is_void v) ≡ true
unfolding argues
argument-spared k v e = go (dec_lt 0 k)
  where
    go : Dec (0 < k) → either (ltb 0 k) (is_void v) ≡ true
    go (yes l) = rw (lt-ltb 0 k l)
    go (no l) = let z : k ≡ 0 = omega (arith, l) in either-more (ltb 0 k) (is_void v) (sym (ap (λ (n : ℕ). argues n v) z) ∙ e)

-- what and argument as the row has them are spared where it has none
formed-spared : (r : Row) (s : Step) → formed r s.what s.argument ≡ true → (either (uses_what r) (eqb s.what 0) ≡ true) × (either (uses_argument r) (is_void s.argument) ≡ true)
unfolding formed
formed-spared r s e =
    (both_left (either (ltb 0 r.part) (eqb s.what 0)) (argues r.argument s.argument) e, argument-spared r.argument s.argument (both_right (either (ltb 0 r.part) (eqb s.what 0)) (argues r.argument s.argument) e))

-- a step of a slot, and one of the scheduler
instance-formed : (cfg : Config) (ss : Slots) (r : Row) (s : Step) → instance_refusal cfg ss r s ≡ 0 → formed r s.what s.argument ≡ true
unfolding instance_refusal
instance-formed cfg ss r s e = (pick-on (formed r s.what s.argument) _ 2 0 e (no-pass (omega arith))).0

scheduler-formed : (cfg : Config) (r : Row) (s : Step) → scheduler_refusal cfg r s ≡ 0 → (eqb s.who 0 ≡ true) × (formed r s.what s.argument ≡ true)
unfolding scheduler_refusal
scheduler-formed cfg r s e =
    let p = (pick-on (both (eqb s.who 0) (formed r s.what s.argument)) _ 2 0 e (no-pass (omega arith))).0 in
    (both_left (eqb s.who 0) (formed r s.what s.argument) p, both_right (eqb s.who 0) (formed r s.what s.argument) p)

-- whatever the row
pub let-spared : (cfg : Config) (ss : Slots) (r : Row) (s : Step) → refusal_by cfg ss r s ≡ 0 → both (is_code r) (is_sparing r s) ≡ true
unfolding refusal_by is_sparing all_of
let-spared cfg ss r s e = go (eqb r.who 1) refl (eqb r.who 2) refl
  where
    spared : is_code r ≡ true → either (uses_who r) (eqb s.who 0) ≡ true → formed r s.what s.argument ≡ true → both (is_code r) (all_of (either (uses_who r) (eqb s.who 0) ∷ either (uses_what r) (eqb s.what 0) ∷ either (uses_argument r) (is_void s.argument) ∷ [])) ≡ true
    spared c w f = let p = formed-spared r s f in rw (c, w, p.0, p.1)

    go : (a : Bool) → eqb r.who 1 ≡ a → (b : Bool) → eqb r.who 2 ≡ b → both (is_code r) (all_of (either (uses_who r) (eqb s.who 0) ∷ either (uses_what r) (eqb s.what 0) ∷ either (uses_argument r) (is_void s.argument) ∷ [])) ≡ true
    go true p b q = spared (lt-ltb 0 r.who (omega (arith, eqb-true r.who 1 p))) (rw p) (instance-formed cfg ss r s (sym (rw p) ∙ e))
    go false p true q =
        let f = scheduler-formed cfg r s (sym (rw (p, q)) ∙ e) in
        spared (lt-ltb 0 r.who (omega (arith, eqb-true r.who 2 q))) (either-more (uses_who r) (eqb s.who 0) f.0) f.1
    go false p false q = no-pass {k = 2} (omega arith) (sym (rw (p, q)) ∙ e)

-- a step that is not refused with 2 to 5 or 30 has a short form
pub let-has-short : (cfg : Config) (ss : Slots) (s : Step) → refusal_of cfg ss s ≡ 0 → has_short s ≡ true
unfolding refusal_of has_short
let-has-short cfg ss s e = let-spared cfg ss (row_of s.code) s e
