-- How far time may go: laws of the least, as a loop finds it.
-- Assumes nothing.
use Prim.Native.Nat.{ℕ, zero, suc, ◌+◌, ◌≤◌, ◌<◌, min}
use mathlib.Core.Bool.{Bool, true, false, not}
use mathlib.Core.Path.{◌≡◌, refl, sym, ap, ap₂, ◌∙◌}
use native.Mathlib.Decide.{dec_lt, dec_le}
use native.Mathlib.Numerals.{add-one}
use native.Mathlib.Omega.{arith}
use lib.Dec.{leb}
use borrow.Author.Tests.{lt-ltb, le-ltb, le-leb, lt-leb}
use Rattle.laws.specs.Choice.{pick, both, either}
use Rattle.laws.specs.Loop.{all_below}
use Rattle.laws.proofs.Choosing.{both-no}
use Rattle.numbers.specs.Refusals.{too_far}
use Rattle.values.specs.Values.{answer_refusal, void_v}
use Rattle.faces.specs.Types.{Config, Operation, Timer, Slot, State}
use Rattle.state.specs.Tables.{max_slots, operation_in, timer_in, slot_in}
use Rattle.rules.specs.Sound.{is_held}
use Rattle.effects.specs.Steps.{refused, took, operation_lets, timer_lets, slot_lets, operations_let, timers_let, slots_let, all_let, waited, wait_of}
use Rattle.passing.specs.Passing.{least, least_below, operation_left, slot_left, operations_pass, timers_pass, slots_pass, passes_of}

pub least-none : (f : ℕ → ℕ) (top : ℕ) → least_below f top 0 ≡ top
unfolding least_below
least-none f top = refl

pub least_more : (f : ℕ → ℕ) (top i : ℕ) → least_below f top (i + 1) ≡ least (least_below f top i) (f i)
unfolding least_below
least_more f top i = rw add-one

-- the code's `min` is the least
pub min_least : (a b : ℕ) → min a b ≡ least a b
min_least a b = go (dec_lt b a)
  where
    go : Dec (b < a) → min a b ≡ least a b
    go (yes l) = rw (lt-ltb b a l) (omega (arith, l))
    go (no l) = rw (le-ltb b a (omega (arith, l))) (omega (arith, l))

-- ---- it is the least that counts: so much may pass, and no more

least-lets : (u a b : ℕ) → leb u (least a b) ≡ both (leb u a) (leb u b)
least-lets u a b = go (dec_lt b a)
  where
    go : Dec (b < a) → leb u (least a b) ≡ both (leb u a) (leb u b)
    go (yes l) = rw (lt-ltb b a l) (low (dec_le u b))
      where
        low : Dec (u ≤ b) → leb u b ≡ both (leb u a) (leb u b)
        low (yes m) = rw (le-leb u b m, le-leb u a (omega (arith, l, m)))
        low (no m) = let f : leb u b ≡ false = lt-leb u b (omega (arith, m)) in f ∙ sym (both-no (leb u a) (leb u b) f)
    go (no l) = rw (le-ltb b a (omega (arith, l))) (low (dec_le u a))
      where
        low : Dec (u ≤ a) → leb u a ≡ both (leb u a) (leb u b)
        low (yes m) = rw (le-leb u a m, le-leb u b (omega (arith, l, m)))
        low (no m) = rw (lt-leb u a (omega (arith, m)))

least-all : (f : ℕ → ℕ) (top u n : ℕ) → leb u top ≡ true → leb u (least_below f top n) ≡ all_below (λ (k : ℕ). leb u (f k)) n
unfolding least_below all_below
least-all f top u zero h = h
least-all f top u (suc n) h = least-lets u (least_below f top n) (f n) ∙ ap (λ (b : Bool). both b (leb u (f n))) (least-all f top u n h)

all_same : (p q : ℕ → Bool) (n : ℕ) → ((k : ℕ) → p k ≡ q k) → all_below p n ≡ all_below q n
unfolding all_below
all_same p q zero h = refl
all_same p q (suc n) h = ap₂ both (all_same p q n h) (h n)

operation-left : (t u : ℕ) (x : Operation) → leb u t ≡ true → leb u (operation_left t x) ≡ operation_lets u x
unfolding operation_left operation_lets
operation-left t u x h = go x.calling
  where
    go : (b : Bool) → leb u (pick b x.count t) ≡ either (not b) (leb u x.count)
    go true = refl
    go false = h

timer-left : (u : ℕ) (x : Timer) → leb u x.count ≡ timer_lets u x
unfolding timer_lets
timer-left u x = refl

slot-left : (t u : ℕ) (x : Slot) → leb u t ≡ true → leb u (slot_left t x) ≡ slot_lets u x
unfolding slot_left slot_lets
slot-left t u x h = go (is_held x.life)
  where
    go : (b : Bool) → leb u (pick b x.life.awaited.left t) ≡ either (not b) (leb u x.life.awaited.left)
    go true = refl
    go false = h

-- of any time up to t, just that may pass which is no more than this
pub passes-exactly : (cfg : Config) (st : State) (t u : ℕ) → leb u t ≡ true → leb u (passes_of cfg st t) ≡ all_let cfg st u
unfolding all_let passes_of operations_pass timers_pass slots_pass operations_let timers_let slots_let
passes-exactly cfg st t u h =
    let a = least-all (λ (o : ℕ). operation_left t (operation_in st.operations o)) t u cfg.operations.n h ∙ all_same (λ (o : ℕ). leb u (operation_left t (operation_in st.operations o))) (λ (o : ℕ). operation_lets u (operation_in st.operations o)) cfg.operations.n (λ o. operation-left t u (operation_in st.operations o) h) in
    let b = least-all (λ (k : ℕ). (timer_in st.timers k).count) t u cfg.timers.n h ∙ all_same (λ (k : ℕ). leb u (timer_in st.timers k).count) (λ (k : ℕ). timer_lets u (timer_in st.timers k)) cfg.timers.n (λ k. timer-left u (timer_in st.timers k)) in
    let c = least-all (λ (i : ℕ). slot_left t (slot_in st.slots i)) t u max_slots h ∙ all_same (λ (i : ℕ). leb u (slot_left t (slot_in st.slots i))) (λ (i : ℕ). slot_lets u (slot_in st.slots i)) max_slots (λ i. slot-left t u (slot_in st.slots i) h) in
    least-lets u (operations_pass cfg st.operations t) (least (timers_pass cfg st.timers t) (slots_pass st.slots t))
    ∙ ap₂ both a (least-lets u (timers_pass cfg st.timers t) (slots_pass st.slots t) ∙ ap₂ both b c)

-- a wait of up to t is taken exactly if it is no longer than may pass of t; else it is 13
pub wait-goes : (cfg : Config) (st : State) (t u : ℕ) → leb u t ≡ true → answer_refusal (wait_of cfg st u).answer ≡ pick (leb u (passes_of cfg st t)) 0 too_far
unfolding wait_of
wait-goes cfg st t u h = rw (passes-exactly cfg st t u h) (go (all_let cfg st u))
  where
    go : (b : Bool) → answer_refusal (pick b (took void_v (waited cfg st u)) (refused too_far st)).answer ≡ pick b 0 too_far
    go true = refl
    go false = refl
