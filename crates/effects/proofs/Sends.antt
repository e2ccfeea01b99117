-- What a send says. Bit q of its mask is set exactly if the required element q is linked and its queue was full (`bit-is-full`); a queue that is named keeps what it had, and every other linked one has got the
-- value (`named-kept`, `unnamed-fed`). It answers Ok exactly if none was full, and else Full with that mask, which is one that a recording may hold (`sent-ok`, `sent-full`, `sent-good`); it never answers Limit.
-- Assumes nothing.
use Prim.Native.Nat.{ℕ, ◌≤◌, ◌<◌, ◌^◌}
use mathlib.Core.Bool.{Bool, true, false, not}
use mathlib.Core.Logic.{◌↔◌}
use mathlib.Core.Path.{◌≡◌, refl, sym, ap, ◌∙◌}
use native.Mathlib.Decide.{ℕ_discrete}
use native.Mathlib.Nat.{pow-le-pow_right}
use native.Mathlib.Omega.{arith}
use lib.Dec.{ltb}
use lib.ListN.{length}
use borrow.Author.Tests.{lt-ltb, le-ltb, le-leb, ltb-true, ltb-false, eq-eqb, ne_eqb}
use Rattle.laws.specs.Choice.{both}
use Rattle.laws.specs.Mask.{is_set}
use Rattle.laws.proofs.Choosing.{clash, both_left, both_right}
use Rattle.laws.proofs.Masks.{mask-small, mask-set}
use Rattle.laws.proofs.Places.{each_at}
use Rattle.faces.specs.Types.{Value, Config, Element, Elements}
use Rattle.values.specs.Values.{ok_v, limit_v, full_v, is_kind, is_mask, is_good}
use Rattle.config.specs.Tables.{required_conf_in}
use Rattle.entries.specs.Faults.{is_queued}
use Rattle.state.specs.Parts.{no_element}
use Rattle.state.specs.Tables.{element_in}
use Rattle.effects.specs.Fullness.{FullQueue}
use Rattle.state.specs.Places.{place_in}
use Rattle.effects.specs.Steps.{linked, accepts, queueing, fed_element, fed_elements, is_full, full_mask, sent_of}

not-true : (b : Bool) → not b ≡ true → b ≡ false
not-true true h = absurd (clash false h refl)
not-true false h = refl

not-false : (b : Bool) → not b ≡ false → b ≡ true
not-false true h = refl
not-false false h = absurd (clash true refl h)

-- ---- one place

module _ (cfg : Config) (t : Elements) (p q : ℕ) where
  abbrev here : Element
  here = element_in t q

  abbrev room : ℕ
  room = (required_conf_in cfg.required q).capacity

  full-told : is_full cfg t p q ≡ true → (linked cfg p q ≡ true) × (accepts cfg q here ≡ false)
  unfolding is_full
  full-told h = (both_left (linked cfg p q) _ h, not-true (accepts cfg q here) (both_right (linked cfg p q) _ h))

  -- an element that takes no more has a queue, and it is full
  spent-told : accepts cfg q here ≡ false → (is_queued cfg q ≡ true) × (room ≤ here.queue.queued)
  unfolding accepts
  spent-told h = go (is_queued cfg q) refl
    where
      go : (b : Bool) → is_queued cfg q ≡ b → (is_queued cfg q ≡ true) × (room ≤ here.queue.queued)
      go true e = (e, ltb-false here.queue.queued room (rw e at h))
      go false e = absurd (clash true refl (rw e at h))

  spent-made : is_queued cfg q ≡ true → room ≤ here.queue.queued → accepts cfg q here ≡ false
  unfolding accepts
  spent-made e l = rw (e, le-ltb here.queue.queued room l)

  bit-told : is_set (full_mask cfg t p) q ≡ both (ltb q cfg.required.n) (is_full cfg t p q)
  unfolding full_mask
  bit-told = mask-set (is_full cfg t p) cfg.required.n q

  -- bit q of the mask is set exactly if q is linked and its queue is full
  pub bit-is-full : (is_set (full_mask cfg t p) q ≡ true) ↔ FullQueue cfg t p q
  unfolding is_full
  bit-is-full = (to, from)
    where
      to : is_set (full_mask cfg t p) q ≡ true → FullQueue cfg t p q
      to h =
          let b = sym bit-told ∙ h in
          let f = full-told (both_right (ltb q cfg.required.n) _ b) in
          let s = spent-told f.1 in
          record { there = ltb-true q cfg.required.n (both_left (ltb q cfg.required.n) _ b); link = f.0; queue = s.0; spent = s.1 }

      from : FullQueue cfg t p q → is_set (full_mask cfg t p) q ≡ true
      from f = bit-told ∙ rw (lt-ltb q cfg.required.n f.there, f.link, spent-made f.queue f.spent)

  module _ (v : Value) where
    -- what is named keeps what it had
    pub named-kept : is_set (full_mask cfg t p) q ≡ true → fed_element cfg p v q here ≡ here
    unfolding fed_element
    named-kept h = let f = full-told (both_right (ltb q cfg.required.n) _ (sym bit-told ∙ h)) in rw (f.0, f.1)

    -- every other linked queue has the value as its last
    pub unnamed-fed : q < cfg.required.n → linked cfg p q ≡ true → is_queued cfg q ≡ true → is_set (full_mask cfg t p) q ≡ false → fed_element cfg p v q here ≡ queueing v here
    unfolding fed_element is_full
    unnamed-fed l k z h =
        let a : accepts cfg q here ≡ true = not-false (accepts cfg q here) (rw (lt-ltb q cfg.required.n l, k) at (sym bit-told ∙ h)) in
        rw (k, a, z)

    -- and what is not linked keeps what it had
    pub unlinked-kept : linked cfg p q ≡ false → fed_element cfg p v q here ≡ here
    unfolding fed_element
    unlinked-kept k = rw k

    -- the element is so after the send
    pub fed-at : q < cfg.required.n → q < length t.at → element_in (fed_elements cfg p v t) q ≡ fed_element cfg p v q here
    unfolding place_in fed_elements
    fed-at l b = each_at (fed_element cfg p v) no_element cfg.required.n t.at q l b

-- ---- the answer

-- Ok stands for no queue, Full for its mask, and Limit for nothing that a send says
pub sent-ok : (m : ℕ) → sent_of m ≡ ok_v → m ≡ 0
unfolding sent_of
sent-ok m h = go (ℕ_discrete m 0)
  where
    go : Dec (m ≡ 0) → m ≡ 0
    go (yes e) = e
    go (no n) = let e = rw (ne_eqb m 0 n) at h in absurd (omega (arith, ap (λ (v : Value). v.kind) e))

pub sent-full : (m k : ℕ) → sent_of m ≡ full_v k → (m ≡ k) × (0 < k)
unfolding sent_of
sent-full m k h = go (ℕ_discrete m 0)
  where
    go : Dec (m ≡ 0) → (m ≡ k) × (0 < k)
    go (yes e) = let z = rw (eq-eqb m 0 e) at h in absurd (omega (arith, ap (λ (v : Value). v.kind) z))
    go (no n) = let z = ap (λ (v : Value). v.number) (rw (ne_eqb m 0 n) at h) in (z, omega (arith, n, z))

pub sent-no-limit : (m : ℕ) → sent_of m ≡ limit_v → ⊥
unfolding sent_of
sent-no-limit m h = go (ℕ_discrete m 0)
  where
    go : Dec (m ≡ 0) → ⊥
    go (yes e) = let z = rw (eq-eqb m 0 e) at h in omega (arith, ap (λ (v : Value). v.kind) z)
    go (no n) = let z = rw (ne_eqb m 0 n) at h in omega (arith, ap (λ (v : Value). v.kind) z)

-- a recording may hold what a send answers
good-below : (m : ℕ) → m < 65536 → is_good (sent_of m) ≡ true
unfolding sent_of is_kind is_mask is_good
good-below m l = go (ℕ_discrete m 0)
  where
    go : Dec (m ≡ 0) → is_good (sent_of m) ≡ true
    go (yes e) = rw (eq-eqb m 0 e)
    go (no n) = rw (ne_eqb m 0 n, lt-ltb 0 m (omega (arith, n)), le-leb m 65535 (omega (arith, l)))

mask_below : (cfg : Config) (t : Elements) (p : ℕ) → cfg.required.n ≤ 16 → full_mask cfg t p < 65536
unfolding full_mask
mask_below cfg t p l =
    let w : 2 ^ cfg.required.n ≤ 2 ^ 16 = pow-le-pow_right (omega arith) l in
    omega (arith, mask-small (is_full cfg t p) cfg.required.n, w)

pub sent-good : (cfg : Config) (t : Elements) (p : ℕ) → cfg.required.n ≤ 16 → is_good (sent_of (full_mask cfg t p)) ≡ true
sent-good cfg t p l = good-below (full_mask cfg t p) (mask_below cfg t p l)
