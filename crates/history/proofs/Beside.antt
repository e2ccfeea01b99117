-- Rows that change at one place, and a queue in the first places of an array with a list that follows it entry by entry. No machine in them.
-- A row read after one place is replaced is read there or elsewhere (`set-each`, `set_both` for two rows at one place).
-- A queue and the list beside it stay beside each other when both grow at the end (`beside-push`) and when the oldest of both is taken (`beside-pop`).
-- Assumes nothing.
use Prim.Native.Nat.{ℕ, zero, suc, ◌+◌, ◌-◌, ◌≤◌, ◌<◌}
use mathlib.Core.List.{List, [], ◌∷◌, ◌++◌}
use mathlib.Core.Path.{◌≡◌, refl, ◌∙◌}
use native.Mathlib.Decide.{ℕ_discrete}
use native.Mathlib.Omega.{arith}
use lib.ListN.{length, get_or, set, drop, replicate, length-append, length-drop, get_or-append}
use lib.Seq.{get_or-set_same, get_or-set_other, get_or_at, get_or-drop}
use native.Mathlib.Nat.{add_comm}
use Rattle.laws.specs.Row.{shifted}
use Rattle.laws.proofs.Places.{shifted_at}

-- ---- one place replaced

-- what holds of each entry holds after one is replaced, if it holds of the new one
pub set-each : {A : Type 0} (P : ℕ → A → Type 0) (l : List A) (i : ℕ) (x d : A) → i < length l → P i x → ((j : ℕ) → (j ≡ i → ⊥) → P j (get_or l j d)) → (j : ℕ) → P j (get_or (set l i x) j d)
set-each P l i x d b p h j = go (ℕ_discrete j i)
  where
    go : Dec (j ≡ i) → P j (get_or (set l i x) j d)
    go (yes e) = rw (e, get_or-set_same l i x d b) p
    go (no n) = rw (get_or-set_other l i j x d n) (h j n)

-- the same over two rows, replaced at one place
pub set_both : {A B : Type 0} (P : ℕ → A → B → Type 0) (l : List A) (m : List B) (i : ℕ) (x d : A) (y e : B) → i < length l → i < length m → P i x y
    → ((j : ℕ) → (j ≡ i → ⊥) → P j (get_or l j d) (get_or m j e)) → (j : ℕ) → P j (get_or (set l i x) j d) (get_or (set m i y) j e)
set_both P l m i x d y e b c p h j = go (ℕ_discrete j i)
  where
    go : Dec (j ≡ i) → P j (get_or (set l i x) j d) (get_or (set m i y) j e)
    go (yes z) = rw (z, get_or-set_same l i x d b, get_or-set_same m i y e c) p
    go (no n) = rw (get_or-set_other l i j x d n, get_or-set_other m i j y e n) (h j n)

-- a row of one entry alone
pub all_alike : {A : Type 0} (P : A → Type 0) (n : ℕ) (x : A) (i : ℕ) → P x → P (get_or (replicate n x) i x)
all_alike P zero x i p = p
all_alike P (suc n) x zero p = p
all_alike P (suc n) x (suc i) p = all_alike P n x i p

-- ---- a queue in the first n places of l, and w beside it: as long, and R between the entries at each place

pub record Beside {A B : Type 0} (R : A → B → Type 0) (d : A) (e : B) (n : ℕ) (l : List A) (w : List B) : Type 0 where
  pub size : length w ≡ n
  pub each : (j : ℕ) → j < n → R (get_or l j d) (get_or w j e)

module _ {A B : Type 0} (R : A → B → Type 0) (d : A) (e : B) where
  pub beside_none : (l : List A) → Beside R d e 0 l []
  beside_none l = record { size = refl; each = λ j b. absurd (omega arith) }

  -- the newest joins at the end
  pub beside-push : (n : ℕ) (l : List A) (w : List B) (x : A) (y : B) → n < length l → R x y → Beside R d e n l w → Beside R d e (n + 1) (set l n x) (w ++ (y ∷ []))
  beside-push n l w x y b r h = record { size = length-append w (y ∷ []) ∙ omega (arith, h.size); each = λ j c. go j c (ℕ_discrete j n) }
    where
      go : (j : ℕ) → j < n + 1 → Dec (j ≡ n) → R (get_or (set l n x) j d) (get_or (w ++ (y ∷ [])) j e)
      go j c (yes q) = rw (q, get_or-set_same l n x d b, get_or_at w y [] e n h.size) r
      go j c (no q) = rw (get_or-set_other l n j x d q, get_or-append w (y ∷ []) e j (omega (arith, q, h.size))) (h.each j (omega (arith, q)))

  -- the oldest is taken
  pub beside-pop : (n : ℕ) (l : List A) (w : List B) → n ≤ length l → Beside R d e n l w → Beside R d e (n - 1) (shifted d l) (drop 1 w)
  beside-pop n l w b h = record {
    size = length-drop 1 w ∙ omega (arith, h.size);
    each = λ j c. rw (shifted_at d l j (omega arith), get_or-drop 1 w j e, add_comm 1 j) (h.each (j + 1) (omega arith));
  }

  -- each pair carried over
  pub beside-map : (S : A → B → Type 0) (n : ℕ) (l : List A) (w : List B) → ((j : ℕ) → j < n → R (get_or l j d) (get_or w j e) → S (get_or l j d) (get_or w j e)) → Beside R d e n l w
      → Beside S d e n l w
  beside-map S n l w f h = record { size = h.size; each = λ j c. f j c (h.each j c) }
