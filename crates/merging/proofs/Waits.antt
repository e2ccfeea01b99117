-- Waits as recorders write them, and two that add up.
-- Assumes nothing.
use Prim.Native.Nat.{ℕ, ◌+◌, ◌*◌, ◌-◌, ◌/◌, ◌≤◌}
use mathlib.Core.Bool.{Bool, true, false}
use mathlib.Core.List.{List, [], ◌∷◌}
use mathlib.Core.Path.{◌≡◌, refl, sym, ap, ap₂, ◌∙◌}
use native.Mathlib.Decide.{dec_le}
use native.Mathlib.Omega.{arith}
use lib.Dec.{leb, eqb}
use borrow.Author.Tests.{eqb-true, leb-true, le-leb, lt-leb}
use Rattle.numbers.specs.Tags.{step_size, end_size}
use Rattle.laws.specs.Choice.{pick}
use Rattle.laws.proofs.Choosing.{both_left, both_right}
use Rattle.values.specs.declared.Step.{Step}
use Rattle.values.specs.declared.Value.{Value}
use Rattle.values.specs.Values.{void_v, number_v, is_void, is_number, is_kind, is_good}
use Rattle.recording.specs.Recording.{values_good, Recorded}
use Rattle.recording.specs.Whole.{EachRecorded}
use Rattle.merging.specs.Waits.{wait_for, longest, is_wait, adds_up, joined, merged_from, merged_of}

-- ---- a wait

void-is : (v : Value) → is_void v ≡ true → v ≡ void_v
unfolding is_void
void-is v h = let k = eqb-true _ _ (both_left (eqb v.kind 0) _ h) in let n = eqb-true _ _ (both_right (eqb v.kind 0) _ h) in ap₂ (λ (x y : ℕ). record { kind = x; number = y }) k n

number_is : (v : Value) → is_number v ≡ true → v ≡ number_v v.number
number_is v h = ap (λ (x : ℕ). record { kind = x; number = v.number }) (eqb-true _ _ h)

-- a step that is one is the wait for its argument
pub wait-is : (s : Step) → is_wait s ≡ true → s ≡ wait_for s.argument.number
unfolding is_wait
wait-is s h =
    let r = both_right (eqb s.code 18) _ h in
    let r2 = both_right (eqb s.who 0) _ r in
    let r3 = both_right (eqb s.what 0) _ r2 in
    let c = eqb-true _ _ (both_left (eqb s.code 18) _ h) in
    let i = eqb-true _ _ (both_left (eqb s.who 0) _ r) in
    let k = eqb-true _ _ (both_left (eqb s.what 0) _ r2) in
    let v = number_is s.argument (both_left (is_number s.argument) _ r3) in
    let w = void-is s.claim (both_right (is_number s.argument) _ r3) in
    ap₂ (λ (x y : ℕ). record { code = x; who = y; what = s.what; argument = s.argument; claim = s.claim }) c i
    ∙ ap (λ (x : ℕ). record { code = 18; who = 0; what = x; argument = s.argument; claim = s.claim }) k
    ∙ ap₂ (λ (x y : Value). record { code = 18; who = 0; what = 0; argument = x; claim = y }) v w

-- two that add up are both waits, and their sum fits
pub record AddsUp (s x : Step) : Type 0 where
  pub first : s ≡ wait_for s.argument.number
  pub second : x ≡ wait_for x.argument.number
  pub fits : s.argument.number + x.argument.number ≤ longest

pub adds-up : (s x : Step) → adds_up s x ≡ true → AddsUp s x
unfolding adds_up
adds-up s x h =
    let r = both_right (is_wait s) _ h in
    record { first = wait-is s (both_left (is_wait s) _ h); second = wait-is x (both_left (is_wait x) _ r); fits = leb-true _ _ (both_right (is_wait x) _ r) }

-- ---- room, as code asks for it

pub room-left : (n m : ℕ) → end_size ≤ m → leb n ((m - end_size) / step_size) ≡ leb (n * step_size + end_size) m
room-left n m h = go (dec_le n ((m - end_size) / step_size))
  where
    go : Dec (n ≤ (m - end_size) / step_size) → leb n ((m - end_size) / step_size) ≡ leb (n * step_size + end_size) m
    go (yes l) = le-leb n ((m - end_size) / step_size) l ∙ sym (le-leb (n * step_size + end_size) m (omega (arith, l, h)))
    go (no l) = lt-leb n ((m - end_size) / step_size) (omega (arith, l)) ∙ sym (lt-leb (n * step_size + end_size) m (omega (arith, l, h)))

-- ---- merged steps can be written down

pub wait-good : (t : ℕ) → values_good (wait_for t) ≡ true
unfolding values_good is_good is_kind
wait-good t = refl

pub wait-recorded : (t : ℕ) → t ≤ longest → Recorded (wait_for t)
wait-recorded t h = record { good = wait-good t; argument = omega (arith, h); claim = omega arith }

pub merged-recorded : (s : Step) (xs : List Step) → Recorded s → EachRecorded xs → EachRecorded (merged_from s xs)
unfolding merged_from
merged-recorded s [] h hs = (h, tt)
merged-recorded s (x ∷ xs) h hs = go (adds_up s x) refl (λ y g. merged-recorded y xs g hs.1)
  where
    go : (b : Bool) → adds_up s x ≡ b → ((y : Step) → Recorded y → EachRecorded (merged_from y xs)) → EachRecorded (pick b (merged_from (joined s x) xs) (s ∷ merged_from x xs))
    go true e rest = rest (joined s x) (wait-recorded _ (adds-up s x e).fits)
    go false e rest = (h, rest x hs.0)

pub all-recorded : (xs : List Step) → EachRecorded xs → EachRecorded (merged_of xs)
unfolding merged_of
all-recorded [] hs = tt
all-recorded (x ∷ xs) hs = merged-recorded x xs hs.0 hs.1
