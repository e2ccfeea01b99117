-- The lists of elements (W-211). A kind whose next entry is not one too many has a place for it (`has-place`): of the lists only the pairs of one runnable are counted, so that a list is shown to have room by counting its pairs runnable by runnable (`row_room`).
-- In a sound configuration every pair of a list is found by its runnable and its element (`pairs-are-listed`): the pairs of a runnable stand together, as they rise, and are at most four.
-- Assumes nothing.
use Prim.Native.Nat.{ℕ, zero, suc, ◌+◌, ◌-◌, ◌*◌, ◌≤◌, ◌<◌}
use mathlib.Core.Bool.{Bool, true, false}
use mathlib.Core.Logic.{⊎_elim}
use mathlib.Core.Path.{◌≡◌, refl, sym, ap, ◌∙◌}
use native.Mathlib.Decide.{ℕ_discrete, dec_lt}
use native.Mathlib.Nat.{eq-or-lt_of_le, le_of_suc-le-suc, not-suc-le-zero}
use native.Mathlib.Omega.{arith}
use lib.Dec.{ltb, eqb}
use borrow.Author.Tests.{ne_eqb, eq-eqb, eqb-true, ltb-true, lt-ltb}
use Rattle.numbers.specs.Tags.{last_tag}
use Rattle.laws.specs.Choice.{pick, bit, both}
use Rattle.laws.specs.Loop.{sum_below, count_below, first_below}
use Rattle.laws.proofs.Choosing.{both_left, both_right, either-right, bit-most}
use Rattle.laws.proofs.Looping.{spread, sum_bound, first-is}
use Rattle.config.specs.declared.Config.{Config}
use Rattle.config.specs.Tables.{Lists}
use Rattle.config.specs.Tables.{max_listed, max_runnable_confs, listed_in}
use Rattle.config.specs.Lists.{listed_below, first_listed, lists_at, element_at, place_of, is_listed}
use Rattle.entries.specs.declared.Entry.{Entry}
use Rattle.entries.specs.Entries.{max_of, count_of, entry_of, listed_entry}
use Rattle.entries.specs.Faults.{has_room, names_there, rises, rises_at, lists_well, pairs_well, config_sound}
use Rattle.entries.proofs.Kind.{Well, fault-told, Kind, config-told}
use Rattle.entries.proofs.Tags.{kind-tag}

-- ---- numbers in a row, each fewer than m times before its own place

-- none of them stands there more than m times
each-few : (f : ℕ → ℕ) (m n : ℕ) → ((k : ℕ) → k < n → count_below (λ (j : ℕ). eqb (f j) (f k)) k < m) → (r : ℕ) → count_below (λ (j : ℕ). eqb (f j) r) n ≤ m
unfolding sum_below
each-few f m zero h r = omega arith
each-few f m (suc n) h r = go (ℕ_discrete (f n) r) (each-few f m n (λ k l. h k (omega arith)) r)
  where
    go : Dec (f n ≡ r) → count_below (λ (j : ℕ). eqb (f j) r) n ≤ m → count_below (λ (j : ℕ). eqb (f j) r) n + bit (eqb (f n) r) ≤ m
    go (yes q) rest = let b : count_below (λ (j : ℕ). eqb (f j) r) n < m = rw q at (h n (omega arith)) in omega (arith, b, bit-most (eqb (f n) r))
    go (no d) rest = omega (arith, rest, ap bit (ne_eqb (f n) r d))

-- terms that are each at most m, one of them less
sum_less : (g : ℕ → ℕ) (m a n : ℕ) → ((b : ℕ) → b < n → g b ≤ m) → a < n → g a < m → sum_below g n < n * m
unfolding sum_below
sum_less g m a zero h l z = absurd (not-suc-le-zero l)
sum_less g m a (suc n) h l z =
    ⊎_elim
    (λ e. omega (arith, ap g e, z, sum_bound g m n (λ k b. h k (omega arith))))
    (λ b. omega (arith, h n (omega arith), sum_less g m a n (λ k q. h k (omega arith)) b z))
    (eq-or-lt_of_le (le_of_suc-le-suc l))

-- there are fewer than p * m of them, where all are below p and one of those stands there fewer than m times
row_room : (f : ℕ → ℕ) (m p n : ℕ) → ((k : ℕ) → k < n → count_below (λ (j : ℕ). eqb (f j) (f k)) k < m) → ((k : ℕ) → k < n → f k < p)
    → (a : ℕ) → a < p → count_below (λ (j : ℕ). eqb (f j) a) n < m → n < p * m
row_room f m p n few small a l b =
    let s : sum_below (λ (r : ℕ). count_below (λ (j : ℕ). eqb (f j) r) n) p ≡ n = spread f p n small in
    let t = sum_less (λ (r : ℕ). count_below (λ (j : ℕ). eqb (f j) r) n) m a p (λ r _. each-few f m n few r) l b in
    omega (arith, s, t)

-- ---- a list of a configuration

-- t is the list of the kind, and these are the tests of its pairs
pub record IsList (cfg : Config) (tag : ℕ) (t : Lists) : Type 0 where
  pub low : 0x10 ≤ tag
  pub high : tag ≤ last_tag
  pub most : max_of tag ≡ max_runnable_confs * max_listed
  pub count : count_of cfg tag ≡ t.n
  pub entry : (k : ℕ) → entry_of cfg tag k ≡ listed_entry (listed_in t k)
  pub room : (i : ℕ) (e : Entry) → has_room cfg tag i e ≡ ltb (count_below (λ (j : ℕ). eqb (listed_in t j).runnable e.first) i) max_listed
  pub names : (e : Entry) → names_there cfg tag e ≡ true → e.first < cfg.runnables.n
  pub pairs : (i : ℕ) (e : Entry) → pairs_well cfg tag i e ≡ true → rises_at cfg tag i e ≡ true

pub incoming-is : (cfg : Config) → IsList cfg 0x1a cfg.incoming
unfolding count_of max_of entry_of has_room listed_below names_there pairs_well
incoming-is cfg = record {
  low = omega arith;
  high = omega arith;
  most = refl;
  count = refl;
  entry = λ k. refl;
  room = λ i e. refl;
  names = λ e h. ltb-true e.first cfg.runnables.n (both_left (ltb e.first cfg.runnables.n) _ h);
  pairs = λ i e h. both_right (lists_well cfg e.first (entry_of cfg 0x13 e.second)) _ h;
}

pub outgoing-is : (cfg : Config) → IsList cfg 0x1b cfg.outgoing
unfolding count_of max_of entry_of has_room listed_below names_there pairs_well
outgoing-is cfg = record {
  low = omega arith;
  high = omega arith;
  most = refl;
  count = refl;
  entry = λ k. refl;
  room = λ i e. refl;
  names = λ e h. ltb-true e.first cfg.runnables.n (both_left (ltb e.first cfg.runnables.n) _ h);
  pairs = λ i e h. both_right (lists_well cfg e.first (entry_of cfg 0x14 e.second)) _ h;
}

module _ {cfg : Config} {tag : ℕ} {t : Lists} (is : IsList cfg tag t) (runs : Kind cfg 0x10) where
  -- a runnable that a pair names is below 16
  named : (i : ℕ) (e : Entry) → Well cfg tag i e → e.first < max_runnable_confs
  unfolding count_of max_of
  named i e w = omega (arith, runs.room, is.names e w.names)

  -- fewer than 4 pairs of that runnable stand before it
  before : (i : ℕ) (e : Entry) → Well cfg tag i e → count_below (λ (j : ℕ). eqb (listed_in t j).runnable e.first) i < max_listed
  before i e w = ltb-true _ 4 (sym (is.room i e) ∙ w.room)

  module _ (g : Kind cfg tag) where
    -- of each pair of the list
    well : (k : ℕ) → k < t.n → Well cfg tag k (listed_entry (listed_in t k))
    well k l = rw (is.entry k) at (fault-told cfg tag k (entry_of cfg tag k) (g.used k (omega (arith, l, is.count))))

    -- a place for one more pair
    list-place : (e : Entry) → Well cfg tag (count_of cfg tag) e → count_of cfg tag < max_of tag
    list-place e w =
        let v : Well cfg tag t.n e = rw is.count at w in
        let r : t.n < max_runnable_confs * max_listed =
        row_room (λ (k : ℕ). (listed_in t k).runnable) 4 16 t.n (λ k l. before k _ (well k l)) (λ k l. named k _ (well k l)) e.first (named t.n e v) (before t.n e v) in
        omega (arith, r, is.count, is.most)

-- ---- one more of a kind

-- an entry that is not one too many is of a kind
pub room-tag : (cfg : Config) (tag i : ℕ) (e : Entry) → has_room cfg tag i e ≡ true → (0x10 ≤ tag) × (tag ≤ last_tag)
unfolding has_room
room-tag cfg tag i e h = go (ℕ_discrete tag 0x1a) (ℕ_discrete tag 0x1b)
  where
    go : Dec (tag ≡ 0x1a) → Dec (tag ≡ 0x1b) → (0x10 ≤ tag) × (tag ≤ last_tag)
    go (yes q) d = (omega (arith, q), omega (arith, q))
    go (no n) (yes q) = (omega (arith, q), omega (arith, q))
    go (no n) (no d) = kind-tag tag (omega (arith, ltb-true i (max_of tag) (rw (ne_eqb tag 0x1a n, ne_eqb tag 0x1b d) at h)))

-- a place for the next entry of a kind, where it has no fault
pub has-place : (cfg : Config) → Kind cfg 0x10 → (tag : ℕ) (e : Entry) → Kind cfg tag → Well cfg tag (count_of cfg tag) e → count_of cfg tag < max_of tag
unfolding has_room
has-place cfg runs tag e g w = go (ℕ_discrete tag 0x1a) (ℕ_discrete tag 0x1b)
  where
    go : Dec (tag ≡ 0x1a) → Dec (tag ≡ 0x1b) → count_of cfg tag < max_of tag
    go (yes q) d = rw q (list-place (incoming-is cfg) runs (rw q at g) e (rw q at w))
    go (no n) (yes q) = rw q (list-place (outgoing-is cfg) runs (rw q at g) e (rw q at w))
    go (no n) (no d) = ltb-true (count_of cfg tag) (max_of tag) (rw (ne_eqb tag 0x1a n, ne_eqb tag 0x1b d) at w.room)

-- ---- the pairs of a list are found

-- the first place that passes is not behind another
first-most : (p : ℕ → Bool) (n k : ℕ) → k < n → p k ≡ true → first_below p n ≤ k
unfolding first_below
first-most p zero k l h = absurd (not-suc-le-zero l)
first-most p (suc n) k l h =
    ⊎_elim (λ e. go (ltb (first_below p n) n) refl e) (λ b. let r = first-most p n k b h in rw (lt-ltb (first_below p n) n (omega arith)) r) (eq-or-lt_of_le (le_of_suc-le-suc l))
  where
    go : (b : Bool) → ltb (first_below p n) n ≡ b → k ≡ n → pick b (first_below p n) (pick (p n) n (suc n)) ≤ k
    go true e q = omega (arith, q, ltb-true (first_below p n) n e)
    go false e q = let z : p n ≡ true = rw q at h in rw z (omega (arith, q))

-- places that pass one behind the other
count-run : (p : ℕ → Bool) (a n : ℕ) → ((j : ℕ) → a ≤ j → j < n → p j ≡ true) → n ≤ a + count_below p n
unfolding sum_below
count-run p a zero h = omega arith
count-run p a (suc n) h = go (dec_lt n a) (count-run p a n (λ j l m. h j l (omega arith)))
  where
    go : Dec (n < a) → n ≤ a + count_below p n → suc n ≤ a + (count_below p n + bit (p n))
    go (yes q) rest = omega (arith, q)
    go (no b) rest = omega (arith, rest, ap bit (h n (omega (arith, b)) (omega arith)))

-- the runnable of a pair that lies above another's is not lower
rises-up : (d e : Entry) → rises d e ≡ true → d.first ≤ e.first
unfolding rises
rises-up d e h = go (ltb d.first e.first) refl
  where
    go : (b : Bool) → ltb d.first e.first ≡ b → d.first ≤ e.first
    go true q = omega (arith, ltb-true d.first e.first q)
    go false q = omega (arith, eqb-true d.first e.first (both_left (eqb d.first e.first) (ltb d.second e.second) (either-right (ltb d.first e.first) _ h q)))

module _ {cfg : Config} {tag : ℕ} {t : Lists} (is : IsList cfg tag t) (runs : Kind cfg 0x10) (g : Kind cfg tag) where
  one_up : (k : ℕ) → suc k < t.n → (listed_in t k).runnable ≤ (listed_in t (suc k)).runnable
  unfolding rises_at
  one_up k l =
      let r = either-right (eqb (suc k) 0) _ (is.pairs (suc k) _ (well is runs g (suc k) l).pairs) (ne_eqb (suc k) 0 (λ q. omega (arith, q))) in
      let e : suc k - 1 ≡ k = omega arith in
      rises-up (listed_entry (listed_in t k)) (listed_entry (listed_in t (suc k))) (rw (e, is.entry k) at r)

  up : (j k : ℕ) → j ≤ k → k < t.n → (listed_in t j).runnable ≤ (listed_in t k).runnable
  up j zero l b = let z : j ≡ 0 = omega arith in rw z (omega arith)
  up j (suc k) l b =
      ⊎_elim (λ q. rw q (omega arith)) (λ m. omega (arith, one_up k b, up j k (omega (arith, m)) (omega (arith, b)))) (eq-or-lt_of_le l)

  found : (k : ℕ) → k < t.n → is_listed t (listed_in t k).runnable (listed_in t k).element ≡ true
  unfolding is_listed place_of lists_at element_at first_listed
  found k l =
      let r : ℕ = (listed_in t k).runnable in
      let own : ℕ → Bool = λ (j : ℕ). eqb (listed_in t j).runnable r in
      let a : ℕ = first_below own t.n in
      let low : a ≤ k = first-most own t.n k l (eq-eqb r r refl) in
      let first : (listed_in t a).runnable ≡ r = eqb-true (listed_in t a).runnable r (first-is own t.n (omega (arith, low, l))) in
      let same : (j : ℕ) → a ≤ j → j < k → own j ≡ true = λ j m b. eq-eqb (listed_in t j).runnable r (omega (arith, up a j m (omega (arith, b, l)), up j k (omega (arith, b)) l, first)) in
      let run : k ≤ a + count_below own k = count-run own a k same in
      let few : count_below own k < 4 = before is runs k _ (well is runs g k l) in
      let here : a + (k - a) ≡ k = omega (arith, low) in
      let has : ℕ → Bool = λ (j : ℕ). both (both (ltb (a + j) t.n) (eqb (listed_in t (a + j)).runnable r)) (eqb (listed_in t (a + j)).element (listed_in t k).element) in
      let at : has (k - a) ≡ true = rw (here, lt-ltb k t.n l, eq-eqb r r refl, eq-eqb (listed_in t k).element (listed_in t k).element refl) in
      let near : k - a < 4 = omega (arith, run, few) in
      lt-ltb (first_below has 4) 4 (omega (arith, near, first-most has 4 (k - a) near at))

-- every pair of a list of a sound configuration is found by its runnable and its element
pub pairs-are-listed : (cfg : Config) → config_sound cfg ≡ true → {tag : ℕ} {t : Lists} → IsList cfg tag t → (k : ℕ) → k < t.n → is_listed t (listed_in t k).runnable (listed_in t k).element ≡ true
pairs-are-listed cfg s {tag} is k l = found is (config-told cfg s 0x10 (omega arith) (omega arith)) (config-told cfg s tag is.low is.high) k l
