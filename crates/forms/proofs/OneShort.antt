-- One field of the short form, both ways: the bytes of a step read as that step, and what reads as a step is its bytes (W-207).
-- A field is taken piece by piece, for any row: no law here looks at the table of steps.
-- Assumes nothing.
use Prim.Native.Nat.{ℕ, ◌+◌, ◌≤◌}
use mathlib.Core.Bool.{Bool, true, false}
use mathlib.Core.List.{List, [], ◌∷◌, ◌++◌}
use mathlib.Core.Path.{◌≡◌, refl, sym, ap, ap₂, subst, ◌∙◌}
use native.Mathlib.Omega.{arith}
use lib.ListN.{length, get_or, drop, length-append, length-drop}
use lib.Seq.{drop-cons}
use lib.Dec.{eqb, ltb}
use borrow.Author.Tests.{eq-eqb, le-leb, le-ltb}
use Rattle.laws.specs.Choice.{pick, either, bit, all_of}
use Rattle.laws.proofs.Choosing.{bit-most, both_left, both_right, all_told, all_made}
use Rattle.values.specs.declared.Step.{Step}
use Rattle.values.specs.Values.{void_v, is_void, is_good}
use Rattle.rules.specs.declared.Row.{Row}
use Rattle.rules.specs.Rows.{row_of}
use Rattle.wire.specs.Bytes.{length_of}
use Rattle.wire.proofs.Laws.{Bytes}
use Rattle.recording.specs.declared.Field.TheVariants.{Step as IsStep, Refused}
use Rattle.recording.specs.Recording.{values_good, Recorded}
use Rattle.forms.specs.Short.{is_code, uses_who, uses_what, uses_argument, is_sparing, has_short, keeps_number, short_value, if_used, body_of, short_bytes}
use Rattle.forms.specs.Short.{value_size, short_value_at, what_at, argument_at, claim_at, end_at, short_step_at, short_step_in, short_field_of}
use Rattle.forms.proofs.Pieces.{past, regroup, byte-size, value-size, maybe-size, size-within, maybe-within, byte-back, value-back, maybe_back, maybe-long, byte-is, value-is, maybe-is, three}
use Rattle.forms.proofs.Told.{tests_of, end-within, short-told}

-- ---- a field written, then read

-- two steps whose entries agree
step_same : (x y : Step) → x.code ≡ y.code → x.who ≡ y.who → x.what ≡ y.what → x.argument ≡ y.argument → x.claim ≡ y.claim → x ≡ y
step_same x y a b c d e = λ i. record { code = a i; who = b i; what = c i; argument = d i; claim = e i }

-- what the reader of a row finds in the bytes that its writer made of a step
whole_back : (r : Row) (s : Step) (n : ℕ) (rest : List ℕ) → Recorded s → is_sparing r s ≡ true
    → (short_step_at r ((0x41 ∷ 0 ∷ n ∷ body_of r s) ++ rest) ≡ s) × (end_at r ((0x41 ∷ 0 ∷ n ∷ body_of r s) ++ rest) ≡ 3 + length (body_of r s))
unfolding is_sparing values_good
whole_back r s n rest h spare =
    let text : List ℕ = (0x41 ∷ 0 ∷ n ∷ body_of r s) ++ rest in
    let A : List ℕ = if_used (uses_who r) (s.who ∷ []) in
    let B : List ℕ = if_used (uses_what r) (s.what ∷ []) in
    let C : List ℕ = if_used (uses_argument r) (short_value s.argument) in
    let D : List ℕ = short_value s.claim in
    let u = all_told (either (uses_who r) (eqb s.who 0) ∷ either (uses_what r) (eqb s.what 0) ∷ either (uses_argument r) (is_void s.argument) ∷ []) spare in
    let ga = both_left (is_good s.argument) (is_good s.claim) h.good in
    let gc = both_right (is_good s.argument) (is_good s.claim) h.good in
    let e₁ : drop 4 text ≡ A ++ (B ++ (C ++ (D ++ rest))) = regroup A B C D rest in
    let e₂ : drop (what_at r) text ≡ B ++ (C ++ (D ++ rest)) = past text A (B ++ (C ++ (D ++ rest))) 4 (bit (uses_who r)) (byte-size (uses_who r) s.who) e₁ in
    let e₃ : drop (argument_at r) text ≡ C ++ (D ++ rest) = past text B (C ++ (D ++ rest)) (what_at r) (bit (uses_what r)) (byte-size (uses_what r) s.what) e₂ in
    let l₃ : length C ≡ pick (uses_argument r) (value_size (get_or text (argument_at r) 0)) 0 = maybe-long (uses_argument r) s.argument text (D ++ rest) (argument_at r) e₃ in
    let e₄ : drop (claim_at r text) text ≡ D ++ rest = past text C (D ++ rest) (argument_at r) (pick (uses_argument r) (value_size (get_or text (argument_at r) 0)) 0) l₃ e₃ in
    let l₄ : length D ≡ value_size (get_or text (claim_at r text) 0) = maybe-long true s.claim text rest (claim_at r text) e₄ in
    let who : pick (uses_who r) (get_or text 4 0) 0 ≡ s.who = byte-back (uses_who r) text (B ++ (C ++ (D ++ rest))) 4 s.who e₁ u.0 in
    let what : pick (uses_what r) (get_or text (what_at r) 0) 0 ≡ s.what = byte-back (uses_what r) text (C ++ (D ++ rest)) (what_at r) s.what e₂ u.1.0 in
    let argument : pick (uses_argument r) (short_value_at text (argument_at r)) void_v ≡ s.argument =
    maybe_back (uses_argument r) s.argument text (D ++ rest) (argument_at r) e₃ u.1.1.0 ga h.argument in
    let claim : short_value_at text (claim_at r text) ≡ s.claim = value-back s.claim text rest (claim_at r text) e₄ gc h.claim in
    (step_same (short_step_at r text) s refl who what argument claim, omega (arith, length-append (A ++ B ++ C) D, length-append (A ++ B) C, length-append A B, byte-size (uses_who r) s.who, byte-size (uses_what r) s.what))

-- they hold: the step is taken
taken : (b : Bool) (x y : Step) (m n : ℕ) → b ≡ true → x ≡ y → m ≡ n → pick b (IsStep x m) (Refused 0 18) ≡ IsStep y n
taken b x y m n e p q = rw (e, p, q)

-- the bytes of a step, with anything behind them, read as that step
pub short-reads : (s : Step) (rest : List ℕ) → Recorded s → has_short s ≡ true → short_field_of (short_bytes s ++ rest) ≡ IsStep s (length (short_bytes s))
unfolding short_field_of short_step_in short_bytes has_short
short-reads s rest h has =
    let r : Row = row_of s.code in
    let m : ℕ = length (body_of r s) in
    let t : List ℕ = (0x41 ∷ 0 ∷ m ∷ body_of r s) ++ rest in
    let w = whole_back r s m rest h (both_right (is_code r) (is_sparing r s) has) in
    let l = length-append (body_of r s) rest in
    let l₃ : ltb (length t) 3 ≡ false = le-ltb (length t) 3 (omega arith) in
    let same : end_at r t ≡ 3 + length_of 0 m = omega arith in
    let inside : end_at r t ≤ length t = omega arith in
    let all : all_of (tests_of r t) ≡ true =
    all_made (tests_of r t) (both_left (is_code r) (is_sparing r s) has, (eq-eqb (end_at r t) (3 + length_of 0 m) same, (le-leb (end_at r t) (length t) inside, (ap values_good w.0 ∙ h.good, tt)))) in
    let to : end_at r t ≡ length (0x41 ∷ 0 ∷ m ∷ body_of r s) = omega arith in
    rw l₃ (taken (all_of (tests_of r t)) (short_step_at r t) s (end_at r t) (length (0x41 ∷ 0 ∷ m ∷ body_of r s)) all w.0 to)

-- ---- how long a field is

-- the bytes of a step are 5 at least, and no more than in the old form
pub short-size : (s : Step) → (5 ≤ length (short_bytes s)) × (length (short_bytes s) ≤ 16)
unfolding short_bytes
short-size s =
    let r : Row = row_of s.code in
    let A : List ℕ = if_used (uses_who r) (s.who ∷ []) in
    let B : List ℕ = if_used (uses_what r) (s.what ∷ []) in
    let C : List ℕ = if_used (uses_argument r) (short_value s.argument) in
    let D : List ℕ = short_value s.claim in
    let l : length (A ++ B ++ C ++ D) ≡ length A + length B + length C + length D = omega (arith, length-append (A ++ B ++ C) D, length-append (A ++ B) C, length-append A B) in
    let a : length A ≤ 1 = omega (arith, byte-size (uses_who r) s.who, bit-most (uses_who r)) in
    let b : length B ≤ 1 = omega (arith, byte-size (uses_what r) s.what, bit-most (uses_what r)) in
    let c : length C ≤ 5 = omega (arith, maybe-size (uses_argument r) s.argument, maybe-within (uses_argument r) s.argument.kind) in
    let d₁ : 1 ≤ length D = omega (arith, value-size s.claim, (size-within (keeps_number s.claim.kind)).0) in
    let d₅ : length D ≤ 5 = omega (arith, value-size s.claim, (size-within (keeps_number s.claim.kind)).1) in
    (omega arith, omega arith)

-- ---- a field read, then written

-- what the reader of a row finds has these very bytes as its body
whole_is : (r : Row) (t : List ℕ) → Bytes t → end_at r t ≤ length t → drop 3 t ≡ body_of r (short_step_at r t) ++ drop (end_at r t) t
whole_is r t h l =
    let s : Step = short_step_at r t in
    let A : List ℕ = if_used (uses_who r) (s.who ∷ []) in
    let B : List ℕ = if_used (uses_what r) (s.what ∷ []) in
    let C : List ℕ = if_used (uses_argument r) (short_value s.argument) in
    let D : List ℕ = short_value s.claim in
    let w = end-within r t in
    let z : List ℕ = drop (end_at r t) t in
    let e₀ : drop 3 t ≡ get_or t 3 0 ∷ drop 4 t = drop-cons t 3 0 (omega arith) in
    let e₁ : drop 4 t ≡ A ++ drop (what_at r) t = byte-is (uses_who r) t 4 (omega arith) in
    let e₂ : drop (what_at r) t ≡ B ++ drop (argument_at r) t = byte-is (uses_what r) t (what_at r) (omega arith) in
    let e₃ : drop (argument_at r) t ≡ C ++ drop (claim_at r t) t = maybe-is (uses_argument r) t (argument_at r) h (omega arith) in
    let e₄ : drop (claim_at r t) t ≡ D ++ z = value-is t (claim_at r t) h l in
    let all : drop 4 t ≡ A ++ (B ++ (C ++ (D ++ z))) =
    e₁ ∙ ap (λ (x : List ℕ). A ++ x) (e₂ ∙ ap (λ (x : List ℕ). B ++ x) (e₃ ∙ ap (λ (x : List ℕ). C ++ x) e₄)) in
    e₀ ∙ ap (λ (x : List ℕ). get_or t 3 0 ∷ x) (all ∙ sym (regroup A B C D z))

-- a step that was read has these very bytes, and the field is as long as they are
pub short-bytes : (t : List ℕ) (s : Step) (n : ℕ) → Bytes t → short_field_of t ≡ IsStep s n → (t ≡ short_bytes s ++ drop n t) × (n ≡ length (short_bytes s))
unfolding short_bytes
short-bytes t s n h e =
    let f = short-told t s n e in
    let r : Row = row_of s.code in
    let long = f.long in
    let w : drop 3 t ≡ body_of r s ++ drop n t =
    whole_is r t h (subst (λ (k : ℕ). k ≤ length t) f.end long) ∙ ap₂ (λ (x : Step) (k : ℕ). body_of r x ++ drop k t) (sym f.step) (sym f.end) in
    let m : ℕ = length (body_of r s) in
    let size : 3 + m ≡ n = omega (arith, ap length w, length-append (body_of r s) (drop n t), length-drop 3 t, length-drop n t, f.least) in
    let high : get_or t 1 0 ≡ 0 = omega (arith, f.body, f.most) in
    let low : get_or t 2 0 ≡ m = omega (arith, f.body, high) in
    (three t 0x41 0 m (omega (arith, f.least)) f.tag high low ∙ ap (λ (x : List ℕ). 0x41 ∷ 0 ∷ m ∷ x) w, omega arith)
