-- What is told, by its numbers: a line and a refusal are each the one that their numbers name (`told-by-numbers`).
-- Assumes nothing.
use Prim.Native.Nat.{ℕ}
use mathlib.Core.Path.{◌≡◌, refl, ap}
use native.Mathlib.Omega.{arith}
use Rattle.posting.specs.declared.Shown.{Shown}
use Rattle.posting.specs.declared.Shown.TheVariants.{Final, Wait, NoPlan, None, Unjudged}
use Rattle.posting.specs.declared.Told.{Told}
use Rattle.posting.specs.declared.Told.TheVariants.{Line, Refused, Configuration, TooLong}
use Rattle.shown.specs.Claims.{told_form, told_refusal, shown_form, shown_plan, told_shown, ToldByNumbers}

-- two lines with the same numbers
same-shown : (x y : Shown) → shown_form x ≡ shown_form y → shown_plan x ≡ shown_plan y → x ≡ y
same-shown (Final n) (Final m) e f = ap Final f
same-shown (Final n) Wait e f = absurd (omega (arith, e))
same-shown (Final n) NoPlan e f = absurd (omega (arith, e))
same-shown (Final n) None e f = absurd (omega (arith, e))
same-shown (Final n) Unjudged e f = absurd (omega (arith, e))
same-shown Wait (Final m) e f = absurd (omega (arith, e))
same-shown Wait Wait e f = refl
same-shown Wait NoPlan e f = absurd (omega (arith, e))
same-shown Wait None e f = absurd (omega (arith, e))
same-shown Wait Unjudged e f = absurd (omega (arith, e))
same-shown NoPlan (Final m) e f = absurd (omega (arith, e))
same-shown NoPlan Wait e f = absurd (omega (arith, e))
same-shown NoPlan NoPlan e f = refl
same-shown NoPlan None e f = absurd (omega (arith, e))
same-shown NoPlan Unjudged e f = absurd (omega (arith, e))
same-shown None (Final m) e f = absurd (omega (arith, e))
same-shown None Wait e f = absurd (omega (arith, e))
same-shown None NoPlan e f = absurd (omega (arith, e))
same-shown None None e f = refl
same-shown None Unjudged e f = absurd (omega (arith, e))
same-shown Unjudged (Final m) e f = absurd (omega (arith, e))
same-shown Unjudged Wait e f = absurd (omega (arith, e))
same-shown Unjudged NoPlan e f = absurd (omega (arith, e))
same-shown Unjudged None e f = absurd (omega (arith, e))
same-shown Unjudged Unjudged e f = refl

line-by : (x : Told) (y : Shown) → (told_form x ≡ 0) × (shown_form (told_shown x) ≡ shown_form y) × (shown_plan (told_shown x) ≡ shown_plan y) → x ≡ Line y
line-by (Line x) y h = ap Line (same-shown x y h.1 h.2)
line-by (Refused k) y h = absurd (omega (arith, h.0))
line-by (Configuration p k) y h = absurd (omega (arith, h.0))
line-by TooLong y h = absurd (omega (arith, h.0))

refusal-by : (x : Told) (k : ℕ) → (told_form x ≡ 1) × (told_refusal x ≡ k) → x ≡ Refused k
refusal-by (Line x) k h = absurd (omega (arith, h.0))
refusal-by (Refused j) k h = ap Refused h.1
refusal-by (Configuration p j) k h = absurd (omega (arith, h.0))
refusal-by TooLong k h = absurd (omega (arith, h.0))

pub told-by-numbers : ToldByNumbers
told-by-numbers x = (
  λ y. (line-by x y, λ e. (ap told_form e, ap (λ (z : Told). shown_form (told_shown z)) e, ap (λ (z : Told). shown_plan (told_shown z)) e)),
  λ k. (refusal-by x k, λ e. (ap told_form e, ap told_refusal e)),
)
