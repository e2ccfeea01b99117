-- What a text says that reads as a field of the short form: as a step, as the end, or as none (W-207).
-- Assumes nothing.
use Prim.Native.Nat.{ℕ, ◌+◌, ◌<◌, ◌≤◌, ◌^◌}
use mathlib.Core.Bool.{Bool, true, false}
use mathlib.Core.List.{List, [], ◌∷◌, ◌++◌}
use mathlib.Core.Path.{◌≡◌, refl, sym, ap, subst, ◌∙◌}
use native.Mathlib.Omega.{arith}
use lib.ListN.{length, get_or, drop, drop_of_length-le}
use lib.Dec.{eqb, leb, ltb}
use borrow.Author.Tests.{eqb-true, eq-eqb, leb-true}
use Rattle.laws.specs.Choice.{pick, either, all_of}
use Rattle.laws.proofs.Choosing.{bit-most, both-make, all_told, all_made, pick-on, pick-off, pick-has}
use Rattle.values.specs.declared.Value.{Value}
use Rattle.values.specs.declared.Step.{Step}
use Rattle.values.specs.Values.{void_v, is_void}
use Rattle.rules.specs.declared.Row.{Row}
use Rattle.rules.specs.Rows.{row_of}
use Rattle.wire.specs.Bytes.{end_bytes, length_of}
use Rattle.wire.proofs.Laws.{Bytes, be32-fits}
use Rattle.recording.specs.declared.Field.{Field}
use Rattle.recording.specs.declared.Field.TheVariants.{Step as IsStep, End, Refused}
use Rattle.recording.specs.Recording.{values_good, value_at, end_in, Recorded}
use Rattle.forms.specs.Short.{is_code, uses_who, uses_what, uses_argument, is_sparing, has_short, keeps_number}
use Rattle.forms.specs.Short.{short_value_at, what_at, argument_at, claim_at, end_at, short_step_at, short_step_by, short_step_in, short_field_of}
use Rattle.forms.proofs.Pieces.{size-within, maybe-within, three}

-- ---- a step

-- the tests of a step's field, by the row of its code
abbrev pub tests_of : Row → List ℕ → List Bool
tests_of r t = is_code r ∷ eqb (end_at r t) (3 + length_of (get_or t 1 0) (get_or t 2 0)) ∷ leb (end_at r t) (length t) ∷ values_good (short_step_at r t) ∷ []

-- what is known of a text that reads as a step
pub record ShortField (t : List ℕ) (s : Step) (n : ℕ) : Type 0 where
  pub tag : get_or t 0 0 ≡ 0x41
  pub step : s ≡ short_step_at (row_of s.code) t
  pub code : get_or t 3 0 ≡ s.code
  pub end : n ≡ end_at (row_of s.code) t
  pub body : n ≡ 3 + length_of (get_or t 1 0) (get_or t 2 0)
  pub long : n ≤ length t
  pub good : values_good s ≡ true
  pub known : is_code (row_of s.code) ≡ true
  pub least : 5 ≤ n
  pub most : n ≤ 16

-- where the reader of a row ends
pub end-within : (r : Row) (t : List ℕ) → (5 ≤ end_at r t) × (end_at r t ≤ 16)
end-within r t =
    let a = bit-most (uses_who r) in
    let b = bit-most (uses_what r) in
    let c = maybe-within (uses_argument r) (get_or t (argument_at r) 0) in
    let d = size-within (keeps_number (get_or t (claim_at r t) 0)) in
    (omega arith, omega arith)

no_step : {A : Type 0} {r p n : ℕ} {s : Step} → Refused p r ≡ IsStep s n → A
no_step e = let z : ◌≡◌ {A = ℕ} 0 1 = cc in absurd (omega arith)

-- the branch of the end gives no step
end-no-step : (a b c : Bool) {s : Step} {n : ℕ} → pick a (pick b (pick c End (Refused 1 18)) (Refused 0 18)) (Refused 0 18) ≡ IsStep s n → ⊥
end-no-step true true true e = let z : ◌≡◌ {A = ℕ} 0 1 = cc in omega arith
end-no-step true true false e = no_step e
end-no-step true false c e = no_step e
end-no-step false b c e = no_step e

same_step : {x s : Step} {m n : ℕ} → IsStep x m ≡ IsStep s n → s ≡ x
same_step e = cc

same_size : {x s : Step} {m n : ℕ} → IsStep x m ≡ IsStep s n → n ≡ m
same_size e = cc

-- a step's field, read by the row of the code that stands there, told apart
told-by : (r : Row) (t : List ℕ) (s : Step) (n : ℕ) → r ≡ row_of (get_or t 3 0) → get_or t 0 0 ≡ 0x41 → short_step_by r t ≡ IsStep s n → ShortField t s n
told-by r t s n q tag e =
    let p = pick-on (all_of (tests_of r t)) (IsStep (short_step_at r t) (end_at r t)) (Refused 0 18) (IsStep s n) e no_step in
    let u = all_told (tests_of r t) p.0 in
    let step : s ≡ short_step_at r t = same_step p.1 in
    let size : n ≡ end_at r t = same_size p.1 in
    let code : s.code ≡ get_or t 3 0 = ap (λ (x : Step). x.code) step in
    let row : r ≡ row_of s.code = q ∙ ap row_of (sym code) in
    let same = eqb-true (end_at r t) (3 + length_of (get_or t 1 0) (get_or t 2 0)) u.1.0 in
    let inside = leb-true (end_at r t) (length t) u.1.1.0 in
    let w = end-within r t in
    record {
      tag = tag;
      step = step ∙ ap (λ (x : Row). short_step_at x t) row;
      code = sym code;
      end = size ∙ ap (λ (x : Row). end_at x t) row;
      body = size ∙ same;
      long = omega (arith, size, inside);
      good = ap values_good step ∙ u.1.1.1.0;
      known = ap is_code (sym row) ∙ u.0;
      least = omega (arith, size, w.0);
      most = omega (arith, size, w.1);
    }

-- a text that reads as a step, told apart
pub short-told : (t : List ℕ) (s : Step) (n : ℕ) → short_field_of t ≡ IsStep s n → ShortField t s n
unfolding short_field_of short_step_in end_in
short-told t s n e =
    let p₀ = pick-off (ltb (length t) 3) _ _ (IsStep s n) e no_step in
    let p₁ = pick-on (eqb (get_or t 0 0) 0x41) _ _ (IsStep s n) p₀.1 (end-no-step (eqb (get_or t 0 0) 0x7f) (eqb (length_of (get_or t 1 0) (get_or t 2 0)) 0) (eqb (length t) 3)) in
    told-by (row_of (get_or t 3 0)) t s n refl (eqb-true (get_or t 0 0) 0x41 p₁.0) p₁.1

-- a number that was read has 32 bits
value-fits : (t : List ℕ) (i : ℕ) → Bytes t → (short_value_at t i).number < 2 ^ 32
value-fits t i h =
    pick-has (λ (v : Value). v.number < 2 ^ 32) (keeps_number (get_or t i 0)) (value_at t i) (record { kind = get_or t i 0; number = 0 })
    (λ e. be32-fits _ _ _ _ (h (i + 1)) (h (i + 2)) (h (i + 3)) (h (i + 4)))
    (λ e. omega arith)

-- a step that was read can be held by a recording
pub short-recorded : (t : List ℕ) (s : Step) (n : ℕ) → Bytes t → short_field_of t ≡ IsStep s n → Recorded s
short-recorded t s n h e =
    let f = short-told t s n e in
    let r : Row = row_of s.code in
    let a : s.argument ≡ pick (uses_argument r) (short_value_at t (argument_at r)) void_v = ap (λ (x : Step). x.argument) f.step in
    let c : s.claim ≡ short_value_at t (claim_at r t) = ap (λ (x : Step). x.claim) f.step in
    record {
      good = f.good;
      argument = subst (λ (v : Value). v.number < 2 ^ 32) (sym a)
          (pick-has (λ (v : Value). v.number < 2 ^ 32) (uses_argument r) (short_value_at t (argument_at r)) void_v (λ q. value-fits t (argument_at r) h) (λ q. omega arith));
      claim = subst (λ (v : Value). v.number < 2 ^ 32) (sym c) (value-fits t (claim_at r t) h);
    }

spare-byte : (b : Bool) (x y : ℕ) → y ≡ pick b x 0 → either b (eqb y 0) ≡ true
spare-byte true x y e = refl
spare-byte false x y e = eq-eqb y 0 e

spare-value : (b : Bool) (v w : Value) → w ≡ pick b v void_v → either b (is_void w) ≡ true
unfolding is_void
spare-value true v w e = refl
spare-value false v w e = ap is_void e

-- a step that was read has a short form: what its code does not use is empty
pub short_has : (t : List ℕ) (s : Step) (n : ℕ) → short_field_of t ≡ IsStep s n → has_short s ≡ true
unfolding has_short is_sparing
short_has t s n e =
    let f = short-told t s n e in
    let r : Row = row_of s.code in
    let a = spare-byte (uses_who r) (get_or t 4 0) s.who (ap (λ (x : Step). x.who) f.step) in
    let b = spare-byte (uses_what r) (get_or t (what_at r) 0) s.what (ap (λ (x : Step). x.what) f.step) in
    let c = spare-value (uses_argument r) (short_value_at t (argument_at r)) s.argument (ap (λ (x : Step). x.argument) f.step) in
    both-make (is_code r) (is_sparing r s) f.known
    (all_made (either (uses_who r) (eqb s.who 0) ∷ either (uses_what r) (eqb s.what 0) ∷ either (uses_argument r) (is_void s.argument) ∷ []) (a, (b, (c, tt))))

-- ---- the end

no_end : {A : Type 0} {r p : ℕ} → Refused p r ≡ End → A
no_end e = let z : ◌≡◌ {A = ℕ} 0 1 = cc in absurd (omega arith)

-- a step is not the end
step-no-end : (b : Bool) (s : Step) (n : ℕ) → pick b (IsStep s n) (Refused 0 18) ≡ End → ⊥
step-no-end true s n e = let z : ◌≡◌ {A = ℕ} 0 1 = cc in omega arith
step-no-end false s n e = no_end e

-- the end is its three bytes, and nothing follows
pub short-end : (t : List ℕ) → short_field_of t ≡ End → t ≡ end_bytes
unfolding short_field_of short_step_in end_in
short-end t e =
    let r : Row = row_of (get_or t 3 0) in
    let p₀ = pick-off (ltb (length t) 3) _ _ End e no_end in
    let p₁ = pick-off (eqb (get_or t 0 0) 0x41) (short_step_by r t) _ End p₀.1 (step-no-end (all_of (tests_of r t)) (short_step_at r t) (end_at r t)) in
    let p₂ = pick-on (eqb (get_or t 0 0) 0x7f) _ _ End p₁.1 no_end in
    let p₃ = pick-on (eqb (length_of (get_or t 1 0) (get_or t 2 0)) 0) _ _ End p₂.1 no_end in
    let p₄ = pick-on (eqb (length t) 3) _ _ End p₃.1 no_end in
    let l : length t ≡ 3 = eqb-true (length t) 3 p₄.0 in
    let tag : get_or t 0 0 ≡ 0x7f = eqb-true (get_or t 0 0) 0x7f p₂.0 in
    let z : length_of (get_or t 1 0) (get_or t 2 0) ≡ 0 = eqb-true (length_of (get_or t 1 0) (get_or t 2 0)) 0 p₃.0 in
    let high : get_or t 1 0 ≡ 0 = omega arith in
    let low : get_or t 2 0 ≡ 0 = omega arith in
    let d : drop 3 t ≡ [] = drop_of_length-le t {i = 3} (omega arith) in
    three t 0x7f 0 0 (omega arith) tag high low ∙ ap (λ (l : List ℕ). end_bytes ++ l) d

-- the end's bytes read as the end
pub short-end-reads : short_field_of end_bytes ≡ End
unfolding short_field_of end_in
short-end-reads = refl

-- ---- refused: 18, at the place asked for or one past it

abbrev Numbered : Field → Type 0
Numbered (IsStep s n) = Unit {0}
Numbered End = Unit {0}
Numbered (Refused p r) = (r ≡ 18) × (p ≤ 1)

here : Numbered (Refused 0 18)
here = (refl, omega arith)

numbered : (t : List ℕ) → Numbered (short_field_of t)
unfolding short_field_of short_step_in end_in
numbered t =
    let r : Row = row_of (get_or t 3 0) in
    let step : Numbered (short_step_by r t) = pick-has Numbered (all_of (tests_of r t)) (IsStep (short_step_at r t) (end_at r t)) (Refused 0 18) (λ e. tt) (λ e. here) in
    let end : Numbered (end_in t) = pick-has Numbered (eqb (length t) 3) End (Refused 1 18) (λ e. tt) (λ e. (refl, omega arith)) in
    pick-has Numbered (ltb (length t) 3) (Refused 0 18) _ (λ e. here)
    (λ e. pick-has Numbered (eqb (get_or t 0 0) 0x41) (short_step_by r t) _ (λ d. step)
    (λ d. pick-has Numbered (eqb (get_or t 0 0) 0x7f) _ (Refused 0 18)
    (λ q. pick-has Numbered (eqb (length_of (get_or t 1 0) (get_or t 2 0)) 0) (end_in t) (Refused 0 18) (λ z. end) (λ z. here))
    (λ q. here)))

-- a field that is refused is refused with 18
pub short-refused-18 : (t : List ℕ) (r p : ℕ) → short_field_of t ≡ Refused p r → (r ≡ 18) × (p ≤ 1)
short-refused-18 t r p e = subst Numbered e (numbered t)
