-- What a call that starts and a call that ends do to `Calls`: operations and endings stay as the tie says.
-- A call that starts (`calls-start`) is named by a place that no ending bears yet (`future`) and that no other operation's latest call bears (`past`).
-- A call that ends (`calls-close`) is the latest of its operation: it had no ending (`state`) and has one now, and no other operation's latest call is that one
-- (`apart`). The new ending is the last on its operation (`last-same`) and none on any other (`last-other`).
-- Assumes nothing.
use Prim.Native.Nat.{ℕ, ◌+◌, ◌%◌, ◌≤◌, ◌<◌}
use mathlib.Core.Bool.{true, false}
use mathlib.Core.List.{List, ◌∷◌}
use mathlib.Core.Option.{some}
use mathlib.Core.Path.{◌≡◌, refl, sym, ◌∙◌, ap}
use native.Mathlib.Decide.{ℕ_discrete}
use native.Mathlib.Omega.{arith}
use lib.Dec.{eqb}
use lib.ListN.{length, get_or, set, length-set}
use borrow.Author.Tests.{eq-eqb, ne_eqb}
use Rattle.laws.specs.Choice.{bit}
use Rattle.laws.proofs.Choosing.{clash, bit-most}
use Rattle.faces.specs.Types.{Operation, Operations}
use Rattle.state.specs.Parts.{last_number, no_operation}
use Rattle.state.specs.Tables.{operation_in, with_operation}
use Rattle.stays_sound.proofs.Clients.{calling-inside}
use Rattle.history.specs.History.{How, Ending, ends_of, ended_on, last_on, given, delivered, ended_call}
use Rattle.history.proofs.Beside.{set-each, set_both}
use Rattle.state.specs.Places.{place_in, with_place}
use Rattle.history.proofs.Tied.{AllProper, Calls, Proper}

-- ---- one ending more

pub ends_more : (k : ℕ) (e : Ending) (es : List Ending) → ends_of k (e ∷ es) ≡ bit (eqb e.call k) + ends_of k es
unfolding ends_of
ends_more k e es = refl

ended-more : (o : ℕ) (e : Ending) (es : List Ending) → ended_on o (e ∷ es) ≡ bit (eqb e.on o) + ended_on o es
unfolding ended_on
ended-more o e es = refl

last-same : (o : ℕ) (e : Ending) (es : List Ending) → e.on ≡ o → last_on o (e ∷ es) ≡ some e
unfolding last_on
last-same o e es p = rw (eq-eqb _ _ p)

last-other : (o : ℕ) (e : Ending) (es : List Ending) → (e.on ≡ o → ⊥) → last_on o (e ∷ es) ≡ last_on o es
unfolding last_on
last-other o e es n = rw (ne_eqb _ _ n)

proper-more : (e : Ending) (es : List Ending) → 0 < e.call → Proper e.call e.how → AllProper es → AllProper (e ∷ es)
unfolding AllProper
proper-more e es b p h = ((b, p), h)

-- ---- an operation replaced

pub operation-each : (P : ℕ → Operation → Type 0) (os : Operations) (o : ℕ) (x : Operation) → o < length os.at → P o x → ((j : ℕ) → (j ≡ o → ⊥) → P j (operation_in os j)) → (j : ℕ)
    → P j (operation_in (with_operation os o x) j)
unfolding place_in with_place
operation-each P os o x b p h = set-each P os.at o x no_operation b p h

-- with the row of latest calls replaced at the same place
pub operation-both : (P : ℕ → Operation → ℕ → Type 0) (os : Operations) (ks : List ℕ) (o : ℕ) (x : Operation) (k : ℕ) → o < length os.at → o < length ks → P o x k
    → ((j : ℕ) → (j ≡ o → ⊥) → P j (operation_in os j) (get_or ks j 0)) → (j : ℕ) → P j (operation_in (with_operation os o x) j) (get_or (set ks o k) j 0)
unfolding place_in with_place
operation-both P os ks o x k b c p h = set_both P os.at ks o x no_operation k 0 b c p h

-- ---- the open call of o ends

module _ (os : Operations) (latest : List ℕ) (es : List Ending) (p o a : ℕ) (w : How) (x : Operation) where
  pub calls-close : Calls os latest es p → (operation_in os o).calling ≡ true → Proper (get_or latest o 0) w → x.number ≡ ((operation_in os o).number + 1) % (last_number + 1) → x.calling ≡ false → x.done ≡ given w
      → Calls (with_operation os o x) latest (record { on = o; call = get_or latest o 0; at = a; how = w } ∷ es) (p + 1)
  calls-close h e pr m c g = record {
    size = h.size;
    state = operation-each (λ j y. 0 < get_or latest j 0 → ends_of (get_or latest j 0) (new ∷ es) + bit y.calling ≡ 1) os o x inside
        (λ q. omega (arith, ends_more (get_or latest o 0) new es, ap bit (eq-eqb (get_or latest o 0) (get_or latest o 0) refl), none_yet, ap bit c))
        (λ j n q. omega (arith, ends_more (get_or latest j 0) new es, ap bit (ne_eqb (get_or latest o 0) (get_or latest j 0) (λ z. n (sym (h.apart o j begun z)))), h.state j q));
    begun = operation-each (λ j y. y.calling ≡ true → 0 < get_or latest j 0) os o x inside (λ q. begun) (λ j n q. h.begun j q);
    number = operation-each (λ j y. y.number ≡ ended_on j (new ∷ es) % (last_number + 1)) os o x inside
        (omega (arith, m, h.number o, ended-more o new es, ap bit (eq-eqb o o refl)))
        (λ j n. omega (arith, h.number j, ended-more j new es, ap bit (ne_eqb o j (λ z. n (sym z)))));
    past = λ j. omega (arith, h.past j);
    future = λ k q. omega (arith, ends_more k new es, ap bit (ne_eqb (get_or latest o 0) k (λ z. omega (arith, h.past o, z))), h.future k (omega arith));
    apart = h.apart;
    once = λ k. once k (ℕ_discrete (get_or latest o 0) k);
    proper = proper-more new es begun pr h.proper;
    last = operation-each (λ j y. y.calling ≡ false → y.done ≡ delivered (last_on j (new ∷ es))) os o x inside
        (λ q. rw (last-same o new es refl) g)
        (λ j n q. rw (last-other j new es (λ z. n (sym z))) (h.last j q));
    ended = operation-each (λ j y. y.calling ≡ false → ended_call (last_on j (new ∷ es)) ≡ get_or latest j 0) os o x inside
        (λ q. rw (last-same o new es refl))
        (λ j n q. rw (last-other j new es (λ z. n (sym z))) (h.ended j q));
  }
    where
      new : Ending
      new = record { on = o; call = get_or latest o 0; at = a; how = w }

      inside : o < length os.at
      inside = calling-inside os o e

      begun : 0 < get_or latest o 0
      begun = h.begun o e

      none_yet : ends_of (get_or latest o 0) es ≡ 0
      none_yet = omega (arith, rw e at (h.state o begun))

      once : (k : ℕ) → Dec (get_or latest o 0 ≡ k) → ends_of k (new ∷ es) ≤ 1
      once k (yes q) = omega (arith, ends_more k new es, bit-most (eqb (get_or latest o 0) k), none_yet, ap (λ j. ends_of j es) q)
      once k (no q) = omega (arith, ends_more k new es, ap bit (ne_eqb (get_or latest o 0) k q), h.once k)

-- ---- a call of o starts

module _ (os : Operations) (latest : List ℕ) (es : List Ending) (p o : ℕ) (x : Operation) where
  pub calls-start : Calls os latest es p → o < length os.at → o < 8 → x.number ≡ (operation_in os o).number → x.calling ≡ true → Calls (with_operation os o x) (set latest o (p + 1)) es (p + 1)
  calls-start h b b8 m c = record {
    size = length-set latest o (p + 1) ∙ h.size;
    state = operation-both (λ j y k. 0 < k → ends_of k es + bit y.calling ≡ 1) os latest o x (p + 1) b inside
        (λ q. omega (arith, h.future (p + 1) (omega arith), ap bit c))
        (λ j n q. h.state j q);
    begun = operation-both (λ j y k. y.calling ≡ true → 0 < k) os latest o x (p + 1) b inside (λ q. omega arith) (λ j n q. h.begun j q);
    number = operation-each (λ j y. y.number ≡ ended_on j es % (last_number + 1)) os o x b (m ∙ h.number o) (λ j n. h.number j);
    past = set-each (λ j k. k ≤ p + 1) latest o (p + 1) 0 inside (omega arith) (λ j n. omega (arith, h.past j));
    future = λ k q. h.future k (omega arith);
    apart = set-each (λ j k. (i : ℕ) → 0 < k → k ≡ get_or (set latest o (p + 1)) i 0 → j ≡ i) latest o (p + 1) 0 inside
        (set-each (λ i k. 0 < p + 1 → p + 1 ≡ k → o ≡ i) latest o (p + 1) 0 inside (λ q z. refl) (λ i n q z. absurd (omega (arith, h.past i, z))))
        (λ j n. set-each (λ i k. 0 < get_or latest j 0 → get_or latest j 0 ≡ k → j ≡ i) latest o (p + 1) 0 inside (λ q z. absurd (omega (arith, h.past j, z))) (λ i m q z. h.apart j i q z));
    once = h.once;
    proper = h.proper;
    last = operation-each (λ j y. y.calling ≡ false → y.done ≡ delivered (last_on j es)) os o x b (λ q. absurd (clash x.calling c q)) (λ j n q. h.last j q);
    ended = operation-both (λ j y k. y.calling ≡ false → ended_call (last_on j es) ≡ k) os latest o x (p + 1) b inside (λ q. absurd (clash x.calling c q)) (λ j n q. h.ended j q);
  }
    where
      inside : o < length latest
      inside = omega (arith, h.size)
