-- One field, both ways: the bytes of a step read as that step, and what reads as a step or as the end is its bytes.
-- Assumes nothing.
use Prim.Native.Nat.{ℕ, ◌≤◌}
use mathlib.Core.Bool.{Bool, true, false}
use mathlib.Core.List.{List, [], ◌++◌}
use mathlib.Core.Path.{◌≡◌, refl, sym, ap, ap₂, subst, ◌∙◌}
use native.Mathlib.Omega.{arith}
use lib.ListN.{length, get_or, drop, drop_of_length-le}
use lib.Dec.{eqb, ltb}
use borrow.Author.Tests.{eqb-true, ltb-false, le-ltb}
use Rattle.numbers.specs.Tags.{step_size}
use Rattle.laws.specs.Choice.{pick}
use Rattle.laws.proofs.Choosing.{pick-on, pick-off, pick-has}
use Rattle.values.specs.declared.Step.{Step}
use Rattle.wire.specs.Bytes.{end_bytes, length_of, number_of}
use Rattle.wire.proofs.Laws.{be32-bytes, bytes32-be, be32-fits, front_read}
use Rattle.wire.proofs.Laws.{Bytes}
use Rattle.recording.specs.Recording.{values_good, tested, step_at, step_in, end_in, field_of, bytes_of, Recorded}
use Rattle.recording.specs.declared.Field.{Field}
use Rattle.recording.specs.declared.Field.TheVariants.{Step as IsStep, End, Refused}

-- ---- written, then read

-- nothing is ahead: refused at the place asked for
pub none_ahead : field_of [] ≡ Refused 0 18
unfolding field_of
none_ahead = refl

pub end_reads : field_of end_bytes ≡ End
unfolding field_of end_in
end_reads = refl

pub step_back : (s : Step) (rest : List ℕ) → Recorded s → step_at (bytes_of s ++ rest) ≡ s
step_back s rest h =
    ap₂
    (λ (m n : ℕ). record { code = s.code; who = s.who; what = s.what; argument = record { kind = s.argument.kind; number = m }; claim = record { kind = s.claim.kind; number = n } })
    (be32-bytes s.argument.number h.argument)
    (be32-bytes s.claim.number h.claim)

pub step-reads : (s : Step) (rest : List ℕ) → Recorded s → field_of (bytes_of s ++ rest) ≡ IsStep s step_size
unfolding field_of step_in tested
step-reads s rest h =
    let t : List ℕ = bytes_of s ++ rest in
    let l₃ : ltb (length t) 3 ≡ false = le-ltb (length t) 3 (omega arith) in
    let l₁₆ : ltb (length t) step_size ≡ false = le-ltb (length t) step_size (omega arith) in
    rw (l₃, l₁₆, step_back s rest h, h.good)

-- ---- read, then written

-- what is known of a text that reads as a step
pub record StepField (t : List ℕ) (s : Step) (n : ℕ) : Type 0 where
  pub size : n ≡ step_size
  pub long : step_size ≤ length t
  pub step : step_at t ≡ s
  pub good : values_good s ≡ true
  pub tag : get_or t 0 0 ≡ 0x40
  pub body : length_of (get_or t 1 0) (get_or t 2 0) ≡ 13

no_step : {A : Type 0} {r p n : ℕ} {s : Step} → Refused p r ≡ IsStep s n → A
no_step e = let z : ◌≡◌ {A = ℕ} 0 1 = cc in absurd (omega arith)

-- the branch of the end gives no step
end-no-step : (a b c : Bool) {s : Step} {n : ℕ} → pick a (pick b (pick c End (Refused 1 18)) (Refused 0 18)) (Refused 0 18) ≡ IsStep s n → ⊥
end-no-step true true true e = let z : ◌≡◌ {A = ℕ} 0 1 = cc in omega arith
end-no-step true true false e = no_step e
end-no-step true false c e = no_step e
end-no-step false b c e = no_step e

pub step-told : (t : List ℕ) (s : Step) (n : ℕ) → field_of t ≡ IsStep s n → StepField t s n
unfolding field_of step_in end_in tested
step-told t s n e =
    let p₀ = pick-off (ltb (length t) 3) _ _ (IsStep s n) e no_step in
    let p₁ = pick-on (eqb (get_or t 0 0) 0x40) _ _ (IsStep s n) p₀.1 (end-no-step (eqb (get_or t 0 0) 0x7f) (eqb (length_of (get_or t 1 0) (get_or t 2 0)) 0) (eqb (length t) 3)) in
    let p₂ = pick-on (eqb (length_of (get_or t 1 0) (get_or t 2 0)) 13) _ _ (IsStep s n) p₁.1 no_step in
    let p₃ = pick-off (ltb (length t) step_size) _ _ (IsStep s n) p₂.1 no_step in
    let p₄ = pick-on (values_good (step_at t)) _ _ (IsStep s n) p₃.1 no_step in
    let same : step_at t ≡ s = let q = p₄.1 in cc in
    record {
      size = let q = p₄.1 in cc;
      long = ltb-false (length t) step_size p₃.0;
      step = same;
      good = ap values_good (sym same) ∙ p₄.0;
      tag = eqb-true (get_or t 0 0) 0x40 p₁.0;
      body = eqb-true (length_of (get_or t 1 0) (get_or t 2 0)) 13 p₂.0;
    }

-- a step that was read can be held by a recording
pub step-recorded : (t : List ℕ) (s : Step) (n : ℕ) → Bytes t → field_of t ≡ IsStep s n → Recorded s
step-recorded t s n h e =
    let f = step-told t s n e in
    let a : s.argument.number ≡ number_of (get_or t 7 0) (get_or t 8 0) (get_or t 9 0) (get_or t 10 0) = ap (λ (x : Step). x.argument.number) (sym f.step) in
    let c : s.claim.number ≡ number_of (get_or t 12 0) (get_or t 13 0) (get_or t 14 0) (get_or t 15 0) = ap (λ (x : Step). x.claim.number) (sym f.step) in
    record {
      good = f.good;
      argument = rw a (be32-fits _ _ _ _ (h 7) (h 8) (h 9) (h 10));
      claim = rw c (be32-fits _ _ _ _ (h 12) (h 13) (h 14) (h 15));
    }

-- a step that was read has these very bytes
pub step-bytes : (t : List ℕ) (s : Step) (n : ℕ) → Bytes t → field_of t ≡ IsStep s n → t ≡ bytes_of s ++ drop step_size t
step-bytes t s n h e =
    let f = step-told t s n e in
    let u = f.step in
    let high : get_or t 1 0 ≡ 0 = omega (arith, h 1, h 2, f.body) in
    let low : get_or t 2 0 ≡ 13 = omega (arith, h 1, h 2, f.body) in
    let tag = f.tag in
    let a₀ : s.argument.kind ≡ get_or t 6 0 = ap (λ (x : Step). x.argument.kind) (sym u) in
    let c₀ : s.claim.kind ≡ get_or t 11 0 = ap (λ (x : Step). x.claim.kind) (sym u) in
    let k₁ : s.code ≡ get_or t 3 0 = ap (λ (x : Step). x.code) (sym u) in
    let k₂ : s.who ≡ get_or t 4 0 = ap (λ (x : Step). x.who) (sym u) in
    let k₃ : s.what ≡ get_or t 5 0 = ap (λ (x : Step). x.what) (sym u) in
    let a = bytes32-be s.argument.number (get_or t 7 0) (get_or t 8 0) (get_or t 9 0) (get_or t 10 0) (ap (λ (x : Step). x.argument.number) (sym u)) (h 7) (h 8) (h 9) (h 10) in
    let c = bytes32-be s.claim.number (get_or t 12 0) (get_or t 13 0) (get_or t 14 0) (get_or t 15 0) (ap (λ (x : Step). x.claim.number) (sym u)) (h 12) (h 13) (h 14) (h 15) in
    front_read step_size t (bytes_of s) f.long (cc)

no_end : {A : Type 0} {r p : ℕ} → Refused p r ≡ End → A
no_end e = let z : ◌≡◌ {A = ℕ} 0 1 = cc in absurd (omega arith)

-- the branch of a step gives no end
step-no-end : (a b c : Bool) (s : Step) → pick a (pick b (Refused 0 18) (pick c (IsStep s step_size) (Refused 0 18))) (Refused 0 18) ≡ End → ⊥
step-no-end true true c s e = no_end e
step-no-end true false true s e = let z : ◌≡◌ {A = ℕ} 0 1 = cc in omega arith
step-no-end true false false s e = no_end e
step-no-end false b c s e = no_end e

-- the end is its three bytes, and nothing follows
pub end-bytes : (t : List ℕ) → field_of t ≡ End → t ≡ end_bytes
unfolding field_of step_in end_in tested
end-bytes t e =
    let p₀ = pick-off (ltb (length t) 3) _ _ End e no_end in
    let p₁ = pick-off (eqb (get_or t 0 0) 0x40) _ _ End p₀.1 (step-no-end (eqb (length_of (get_or t 1 0) (get_or t 2 0)) 13) (ltb (length t) step_size) (values_good (step_at t)) (step_at t)) in
    let p₂ = pick-on (eqb (get_or t 0 0) 0x7f) _ _ End p₁.1 no_end in
    let p₃ = pick-on (eqb (length_of (get_or t 1 0) (get_or t 2 0)) 0) _ _ End p₂.1 no_end in
    let p₄ = pick-on (eqb (length t) 3) _ _ End p₃.1 no_end in
    let l : length t ≡ 3 = eqb-true (length t) 3 p₄.0 in
    let tag : get_or t 0 0 ≡ 0x7f = eqb-true (get_or t 0 0) 0x7f p₂.0 in
    let z : length_of (get_or t 1 0) (get_or t 2 0) ≡ 0 = eqb-true (length_of (get_or t 1 0) (get_or t 2 0)) 0 p₃.0 in
    let high : get_or t 1 0 ≡ 0 = omega arith in
    let low : get_or t 2 0 ≡ 0 = omega arith in
    let d : drop 3 t ≡ [] = drop_of_length-le t {i = 3} (omega arith) in
    front_read 3 t end_bytes (omega arith) (cc) ∙ ap (λ (l : List ℕ). end_bytes ++ l) d

-- ---- refused: 18, at the place asked for or one past it

abbrev Numbered : Field → Type 0
Numbered (IsStep s n) = Unit {0}
Numbered End = Unit {0}
Numbered (Refused p r) = (r ≡ 18) × (p ≤ 1)

here : Numbered (Refused 0 18)
here = (refl, omega arith)

numbered : (t : List ℕ) → Numbered (field_of t)
unfolding field_of step_in end_in tested
numbered t =
    let step : Numbered (step_in t) = pick-has Numbered (ltb (length t) step_size) (Refused 0 18) (tested (step_at t)) (λ e. here)
    (λ e. pick-has Numbered (values_good (step_at t)) (IsStep (step_at t) step_size) (Refused 0 18) (λ d. tt) (λ d. here)) in
    let end : Numbered (end_in t) = pick-has Numbered (eqb (length t) 3) End (Refused 1 18) (λ e. tt) (λ e. (refl, omega arith)) in
    pick-has Numbered (ltb (length t) 3) (Refused 0 18) _ (λ e. here)
    (λ e. pick-has Numbered (eqb (get_or t 0 0) 0x40) _ _
    (λ d. pick-has Numbered (eqb (length_of (get_or t 1 0) (get_or t 2 0)) 13) (step_in t) (Refused 0 18) (λ q. step) (λ q. here))
    (λ d. pick-has Numbered (eqb (get_or t 0 0) 0x7f) _ (Refused 0 18)
    (λ q. pick-has Numbered (eqb (length_of (get_or t 1 0) (get_or t 2 0)) 0) (end_in t) (Refused 0 18) (λ z. end) (λ z. here))
    (λ q. here)))

pub refused-18 : (t : List ℕ) (r p : ℕ) → field_of t ≡ Refused p r → (r ≡ 18) × (p ≤ 1)
refused-18 t r p e = subst Numbered e (numbered t)
