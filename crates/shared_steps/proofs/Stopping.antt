-- Loops over a table that stop at its last place: what stands past it changes nothing. And what stands inside, whatever would stand past the end.
-- Assumes nothing.
use Prim.Native.Nat.{ℕ, zero, suc, ◌+◌, ◌≤◌, ◌<◌}
use mathlib.Core.List.{List}
use mathlib.Core.Path.{◌≡◌, sym, ◌∙◌, ap}
use native.Mathlib.Decide.{ℕ_discrete, dec_lt}
use native.Mathlib.Omega.{arith}
use lib.Dec.{ltb}
use lib.ListN.{length, get_or, set}
use lib.Seq.{set_out}
use borrow.Author.Tests.{lt-ltb, le-ltb}
use Rattle.laws.specs.Choice.{pick}
use Rattle.laws.specs.Row.{each_below}
use Rattle.laws.proofs.Places.{inside, each-length, each_more}
use Rattle.faces.specs.Types.{Runnable, Runnables, Element, Elements}
use Rattle.state.specs.Parts.{no_element}
use Rattle.state.specs.Places.{place_in}
use Rattle.state.specs.Tables.{element_in}

-- ---- a row that ends at m

each-past : {A : Type 0} (m : ℕ) (f : ℕ → A → A) (d : A) (n : ℕ) (l : List A) → length l ≤ m → m ≤ n → each_below f d n l ≡ each_below f d m l
unfolding each_below
each-past m f d zero l a b = let e : 0 ≡ m = omega arith in ap (λ (k : ℕ). each_below f d k l) e
each-past m f d (suc n) l a b = go (ℕ_discrete m (suc n)) (λ c. each-past m f d n l a c)
  where
    go : Dec (m ≡ suc n) → (m ≤ n → each_below f d n l ≡ each_below f d m l) → set (each_below f d n l) n (f n (get_or (each_below f d n l) n d)) ≡ each_below f d m l
    go (yes e) rest = ap (λ (k : ℕ). each_below f d k l) (sym e)
    go (no k) rest = set_out (each_below f d n l) n (f n (get_or (each_below f d n l) n d)) (omega (arith, each-length f d n l, k)) ∙ rest (omega (arith, k))

pub each_within : {A : Type 0} (m : ℕ) (f : ℕ → A → A) (d : A) (n : ℕ) (l : List A) → length l ≡ m → each_below f d (pick (ltb n m) n m) l ≡ each_below f d n l
each_within m f d n l e = go (dec_lt n m)
  where
    go : Dec (n < m) → each_below f d (pick (ltb n m) n m) l ≡ each_below f d n l
    go (yes b) = rw (lt-ltb n m b)
    go (no b) = let a : length l ≤ m = omega arith in rw (le-ltb n m (omega (arith, b))) (sym (each-past m f d n l a (omega (arith, b))))

-- one place more, read whatever would stand past the end
pub each-put : {A : Type 0} {m : ℕ} (f : ℕ → A → A) (d : A) (l : List A) (u : List A) (k : ℕ) (z : A) → length l ≡ m → k < m → u ≡ each_below f d k l → set u k (f k (get_or u k z)) ≡ each_below f d (k + 1) l
each-put {m = m} f d l u k z e b q =
    let n : length u ≡ m = ap length q ∙ each-length f d k l ∙ e in
    rw (inside u k m z d n b, q, each_more)

-- ---- tables of a state

-- a table is its row
pub runnables-made : {u : Runnables} {l : List Runnable} → u.at ≡ l → ◌≡◌ {A = Runnables} u (record { at = l })
runnables-made h = rw (← h)

pub elements-made : {u : Elements} {l : List Element} → u.at ≡ l → ◌≡◌ {A = Elements} u (record { at = l })
elements-made h = rw (← h)

pub element-here : (t : Elements) (i : ℕ) (d : Element) → length t.at ≡ 16 → i < 16 → get_or t.at i d ≡ element_in t i
unfolding place_in
element-here t i d e l = inside t.at i 16 d no_element e l
