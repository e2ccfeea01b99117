-- Answers that agree with claims: an answer agrees with itself (`agrees-self`), and what agrees is the same, for every code but send (`agrees-same`); for a send it is the same, or a Full
-- claimed as Limit (`agrees-send`). Ok is not claimed as Limit (`ok-no-limit`).
-- Assumes nothing.
use Prim.Native.Nat.{ℕ}
use mathlib.Core.Bool.{Bool, true, false}
use mathlib.Core.Logic.{◌⊎◌, inl, inr}
use mathlib.Core.Path.{◌≡◌, refl}
use lib.Dec.{eqb}
use borrow.Author.Tests.{eqb-true, eq-eqb}
use Rattle.numbers.specs.Codes.{send_code}
use Rattle.laws.specs.Choice.{both, either}
use Rattle.laws.proofs.Choosing.{both_left, both_right, either-more}
use Rattle.faces.specs.Types.{Value}
use Rattle.values.specs.Values.{ok_v, limit_v, full_v, says_full, same_value}
use Rattle.effects.specs.Step.{is_older, agrees}

-- two values that are the same
pub same-value : (v w : Value) → same_value v w ≡ true → v ≡ w
unfolding same_value
same-value v w h =
    let k : v.kind ≡ w.kind = eqb-true _ _ (both_left (eqb v.kind w.kind) _ h) in
    let n : v.number ≡ w.number = eqb-true _ _ (both_right (eqb v.kind w.kind) _ h) in
    λ i. record { kind = k i; number = n i }

same_self : (v : Value) → same_value v v ≡ true
unfolding same_value
same_self v = rw (eq-eqb v.kind v.kind refl, eq-eqb v.number v.number refl)

-- an answer agrees with itself
pub agrees-self : (code : ℕ) (v : Value) → agrees code v v ≡ true
unfolding agrees
agrees-self code v = either-more (is_older code v v) (same_value v v) (same_self v)

-- what agrees is the same, for every code but send
pub agrees-same : (code : ℕ) (v claim : Value) → eqb code send_code ≡ false → agrees code v claim ≡ true → v ≡ claim
unfolding agrees
agrees-same code v claim f h = same-value v claim (rw f at h)

-- a Full that is claimed as Limit
pub record Older (v w : Value) : Type 0 where
  pub answer : v ≡ full_v v.number
  pub claim : w ≡ limit_v

-- and for send the same, or a Full claimed as Limit
pub agrees-send : (v claim : Value) → agrees send_code v claim ≡ true → (v ≡ claim) ⊎ Older v claim
unfolding agrees
agrees-send v claim h = go (both (says_full v) (same_value claim limit_v)) refl
  where
    go : (b : Bool) → both (says_full v) (same_value claim limit_v) ≡ b → (v ≡ claim) ⊎ Older v claim
    go true e =
        let k : v.kind ≡ 8 = eqb-true _ _ (both_left (says_full v) _ e) in
        inr (record { answer = λ i. record { kind = k i; number = v.number }; claim = same-value claim limit_v (both_right (says_full v) _ e) })
    go false e = inl (same-value v claim (rw e at h))

-- Ok answered and Limit claimed do not agree
pub ok-no-limit : (code : ℕ) → agrees code ok_v limit_v ≡ false
unfolding agrees same_value
ok-no-limit code = go (eqb code send_code)
  where
    go : (b : Bool) → either (both b (both (says_full ok_v) (same_value limit_v limit_v))) (same_value ok_v limit_v) ≡ false
    go true = refl
    go false = refl
