-- What the tally of the first k slots is: the counts over them, as long as each of them is sound.
-- Assumes nothing.
use Rattle.std.proofs.Common.{◌≡◌, ℕ, zero, suc, ◌+◌, ◌%◌, ◌<◌, ◌≤◌, Bool, true, false, not, eqb, leb, List, [], ◌∷◌, length, get_or, set, sym, refl, ap, ◌∙◌, add-one, arith, length-set, get_or-set_other, get_or-set_same, eq-eqb, ne_eqb, eqb-true, leb-true}
use native.Mathlib.Decide.{ℕ_discrete}
use lib.ListN.{get_or-replicate}
use Rattle.laws.specs.Choice.{pick, both, either, bit, all_of}
use Rattle.laws.specs.Loop.{all_below, sum_below, count_below}
use Rattle.laws.proofs.Choosing.{both_left, both_true, all_told}
use Rattle.laws.proofs.Looping.{all-at, all_same, sum_more, sum_same, sum_bound, count_most}
use Rattle.faces.specs.Types.{Config, Client, Owed, Stack, Slot, Slots}
use Rattle.state.specs.Tables.{slot_in}
use Rattle.rules.specs.Sound.{is_caller, slot_sound, life_sound, owed_sound, stack_sound, is_no_stack, is_no_slot, of_runnable, times_in, is_client, served_as, waits_on}
use Rattle.sound.specs.declared.Held.{Held}
use Rattle.sound.specs.declared.Noted.{Noted}
use Rattle.sound.specs.Tally.{no_tally, counted, entered, held_below, noting, tallied, tally_of, noted_at, noted_as, Tallies}

-- ---- one slot more

counted-long : (l : List ℕ) (used : Bool) (r : ℕ) → length (counted l used r) ≡ length l
unfolding counted
counted-long l true r = length-set l r _
counted-long l false r = refl

-- a count goes up at its own place
counted-at : (l : List ℕ) (used : Bool) (r i : ℕ) → i < length l → get_or l i 0 < 255 → get_or (counted l used r) i 0 ≡ get_or l i 0 + bit (both used (eqb r i))
unfolding counted
counted-at l false r i b h = omega arith
counted-at l true r i b h = go (ℕ_discrete r i)
  where
    go : Dec (r ≡ i) → get_or (counted l true r) i 0 ≡ get_or l i 0 + bit (eqb r i)
    go (yes e) = rw (e, get_or-set_same l i _ 0 b, eq-eqb i i refl) (omega arith)
    go (no n) = rw (get_or-set_other l r i _ 0 (λ e. n (sym e)), ne_eqb r i n) (omega arith)

-- a count of the first k slots, one slot on
counted-more : (l : List ℕ) (more : Bool) (r i : ℕ) (p : ℕ → Bool) (k : ℕ) → k < 32 → i < length l → get_or l i 0 ≡ count_below p k → get_or (counted l more r) i 0 ≡ count_below p k + bit (both more (eqb r i))
counted-more l more r i p k b c e = counted-at l more r i c (omega (arith, e, count_most p k)) ∙ omega (arith, e)

entered_at : (l : Held) (a i : ℕ) → i < length l.at → get_or l.at i 0 < 65535 → get_or (entered l a).at i 0 ≡ get_or l.at i 0 + bit (eqb a i)
unfolding entered
entered_at l a i b h = go (ℕ_discrete a i)
  where
    go : Dec (a ≡ i) → get_or (entered l a).at i 0 ≡ get_or l.at i 0 + bit (eqb a i)
    go (yes e) = rw (e, get_or-set_same l.at i _ 0 b, eq-eqb i i refl) (omega arith)
    go (no n) = rw (get_or-set_other l.at a i _ 0 (λ e. n (sym e)), ne_eqb a i n) (omega arith)

held-long : (s : Stack) (n : ℕ) (l : Held) → length (held_below s n l).at ≡ length l.at
unfolding held_below entered
held-long s zero l = refl
held-long s (suc n) l = length-set (held_below s n l).at _ _ ∙ held-long s n l

held_at : (s : Stack) (n : ℕ) (l : Held) (i : ℕ) → i < length l.at → get_or l.at i 0 + n < 65536 → get_or (held_below s n l).at i 0 ≡ get_or l.at i 0 + count_below (λ (j : ℕ). eqb (get_or s.at j 0) i) n
unfolding held_below sum_below
held_at s zero l i b h = omega arith
held_at s (suc n) l i b h =
    let e = held_at s n l i b (omega (arith, h)) in
    let m = count_most (λ (j : ℕ). eqb (get_or s.at j 0) i) n in
    entered_at (held_below s n l) (get_or s.at n 0) i (omega (arith, b, held-long s n l)) (omega (arith, e, m, h)) ∙ omega (arith, e)

-- ---- the clients noted

-- one client more, behind the others
abbrev grown : Noted → Client → Noted
grown l c = record { n = l.n + 1; operations = set l.operations l.n c.operation; numbers = set l.numbers l.n c.number }

noting-on : (l : Noted) (w : Owed) → w.serving ≡ true → l.n < 32 → noting l w ≡ grown l w.client
unfolding noting
noting-on l w e b =
    let z : (l.n + 1) % 256 ≡ l.n + 1 = omega arith in
    rw e (ap (λ (k : ℕ). record { n = k; operations = set l.operations l.n w.client.operation; numbers = set l.numbers l.n w.client.number }) z)

noting-off : (l : Noted) (w : Owed) → w.serving ≡ false → noting l w ≡ l
unfolding noting
noting-off l w e = rw e

module _ (l : Noted) (c : Client) (ops : length l.operations ≡ 32) (nums : length l.numbers ≡ 32) (few : l.n < 32) where
  grown-before : (j : ℕ) → j < l.n → noted_at (grown l c) j ≡ noted_at l j
  unfolding noted_at
  grown-before j b =
      rw (get_or-set_other l.operations l.n j c.operation 0 (λ e. omega (arith, e, b)), get_or-set_other l.numbers l.n j c.number 0 (λ e. omega (arith, e, b)))

  grown-last : {A : Type 0} (f : ℕ → ℕ → A) → f (noted_at (grown l c) l.n).operation (noted_at (grown l c) l.n).number ≡ f c.operation c.number
  unfolding noted_at
  grown-last f = rw (get_or-set_same l.operations l.n c.operation 0 (omega (arith, ops)), get_or-set_same l.numbers l.n c.number 0 (omega (arith, nums)))

  grown-sum : (f : ℕ → ℕ → ℕ) → sum_below (λ (j : ℕ). f (noted_at (grown l c) j).operation (noted_at (grown l c) j).number) (l.n + 1) ≡ sum_below (λ (j : ℕ). f (noted_at l j).operation (noted_at l j).number) l.n + f c.operation c.number
  grown-sum f =
      sum_more (λ (j : ℕ). f (noted_at (grown l c) j).operation (noted_at (grown l c) j).number) l.n
      ∙ omega (arith, sum_same (λ (j : ℕ). f (noted_at (grown l c) j).operation (noted_at (grown l c) j).number) (λ (j : ℕ). f (noted_at l j).operation (noted_at l j).number) l.n (λ j b. ap (λ (x : Client). f x.operation x.number) (grown-before j b)), grown-last f)

  grown-all : (p : ℕ → ℕ → Bool) → all_below (λ (j : ℕ). p (noted_at (grown l c) j).operation (noted_at (grown l c) j).number) (l.n + 1) ≡ both (all_below (λ (j : ℕ). p (noted_at l j).operation (noted_at l j).number) l.n) (p c.operation c.number)
  unfolding all_below noted_at
  grown-all p =
      rw add-one
      (rw (all_same (λ (j : ℕ). p (noted_at (grown l c) j).operation (noted_at (grown l c) j).number) (λ (j : ℕ). p (noted_at l j).operation (noted_at l j).number) l.n (λ j b. ap (λ (x : Client). p x.operation x.number) (grown-before j b)), grown-last p))

module _ (l : Noted) (w : Owed) (ops : length l.operations ≡ 32) (nums : length l.numbers ≡ 32) (few : l.n < 32) where
  -- what one instance adds: nothing, or its client
  noting-count : (o m : ℕ) → noted_as o m (noting l w) ≡ noted_as o m l + served_as o m w
  unfolding noted_as served_as is_client
  noting-count o m = go w.serving refl
    where
      go : (b : Bool) → w.serving ≡ b → noted_as o m (noting l w) ≡ noted_as o m l + served_as o m w
      go false e = rw (noting-off l w e, e) (omega arith)
      go true e = rw (noting-on l w e few, e) (grown-sum l w.client ops nums few (λ (a b : ℕ). bit (both (eqb a o) (eqb b m))))

  noting-all : (p : ℕ → ℕ → Bool) → all_below (λ (j : ℕ). p (noted_at (noting l w) j).operation (noted_at (noting l w) j).number) (noting l w).n ≡ both (all_below (λ (j : ℕ). p (noted_at l j).operation (noted_at l j).number) l.n) (either (not w.serving) (p w.client.operation w.client.number))
  noting-all p = go w.serving refl
    where
      go : (b : Bool) → w.serving ≡ b → all_below (λ (j : ℕ). p (noted_at (noting l w) j).operation (noted_at (noting l w) j).number) (noting l w).n ≡ both (all_below (λ (j : ℕ). p (noted_at l j).operation (noted_at l j).number) l.n) (either (not w.serving) (p w.client.operation w.client.number))
      go false e = rw (noting-off l w e, e) (both_true _)
      go true e = rw (noting-on l w e few, e) (grown-all l w.client ops nums few p)

  noting-long : (length (noting l w).operations ≡ 32) × (length (noting l w).numbers ≡ 32) × ((noting l w).n ≤ l.n + 1)
  noting-long = go w.serving refl
    where
      go : (b : Bool) → w.serving ≡ b → (length (noting l w).operations ≡ 32) × (length (noting l w).numbers ≡ 32) × ((noting l w).n ≤ l.n + 1)
      go false e = rw (noting-off l w e) (ops, nums, omega arith)
      go true e = rw (noting-on l w e few) (length-set l.operations l.n _ ∙ ops, length-set l.numbers l.n _ ∙ nums, omega arith)

-- ---- the first k slots

-- a sound slot holds as many areas as there are at most
slot_held : (cfg : Config) (x : Slot) → slot_sound cfg x ≡ true → x.stack.held ≤ 16
unfolding slot_sound stack_sound is_no_slot is_no_stack
slot_held cfg x h = go x.used refl h
  where
    go : (b : Bool) → x.used ≡ b → pick b (all_of (life_sound cfg x.life ∷ owed_sound cfg x.life x.owed ∷ stack_sound cfg x.life x.stack ∷ [])) (is_no_slot x) ≡ true → x.stack.held ≤ 16
    go true e q = leb-true _ _ (both_left (leb x.stack.held 16) _ (all_told _ q).1.1.0)
    go false e q =
        let z : x.stack.held ≡ 0 = eqb-true _ _ (both_left (eqb x.stack.held 0) _ (all_told _ q).1.1.0) in
        omega arith

module _ (cfg : Config) (ss : Slots) where
  abbrev Sound : ℕ → Type 0
  Sound k = all_below (λ (j : ℕ). slot_sound cfg (slot_in ss j)) k ≡ true

  sound-before : (k : ℕ) → Sound (suc k) → Sound k
  unfolding all_below
  sound-before k h = both_left (all_below (λ (j : ℕ). slot_sound cfg (slot_in ss j)) k) (slot_sound cfg (slot_in ss k)) h

  tally-long : (k : ℕ) → (length (tally_of ss k).instances ≡ 16) × (length (tally_of ss k).waiters ≡ 8) × (length (tally_of ss k).held.at ≡ 16)
  unfolding tally_of tallied no_tally
  tally-long zero = (refl, refl, refl)
  tally-long (suc k) = (
    counted-long (tally_of ss k).instances (slot_in ss k).used (slot_in ss k).life.runnable ∙ (tally-long k).0,
    counted-long (tally_of ss k).waiters (is_caller (slot_in ss k).life) (slot_in ss k).life.awaited.on ∙ (tally-long k).1,
    held-long (slot_in ss k).stack (slot_in ss k).stack.held (tally_of ss k).held ∙ (tally-long k).2,
  )

  tally-few : (k : ℕ) → k ≤ 32 → (length (tally_of ss k).noted.operations ≡ 32) × (length (tally_of ss k).noted.numbers ≡ 32) × ((tally_of ss k).noted.n ≤ k)
  unfolding tally_of tallied no_tally
  tally-few zero b = (refl, refl, omega arith)
  tally-few (suc k) b =
      let r = tally-few k (omega arith) in
      let q = noting-long (tally_of ss k).noted (slot_in ss k).owed r.0 r.1 (omega (arith, r.2)) in
      (q.0, q.1, omega (arith, q.2, r.2))

  tally-instances : (k : ℕ) → k ≤ 32 → (r : ℕ) → r < 16 → get_or (tally_of ss k).instances r 0 ≡ count_below (λ (j : ℕ). of_runnable r (slot_in ss j)) k
  unfolding tally_of tallied no_tally sum_below of_runnable
  tally-instances zero b r l = get_or-replicate 16 r 0 0 l
  tally-instances (suc k) b r l =
      counted-more (tally_of ss k).instances (slot_in ss k).used (slot_in ss k).life.runnable r (λ (j : ℕ). of_runnable r (slot_in ss j)) k (omega arith) (omega (arith, (tally-long k).0)) (tally-instances k (omega arith) r l)

  tally-waiters : (k : ℕ) → k ≤ 32 → (o : ℕ) → o < 8 → get_or (tally_of ss k).waiters o 0 ≡ count_below (λ (j : ℕ). waits_on o (slot_in ss j)) k
  unfolding tally_of tallied no_tally sum_below waits_on
  tally-waiters zero b o l = get_or-replicate 8 o 0 0 l
  tally-waiters (suc k) b o l =
      counted-more (tally_of ss k).waiters (is_caller (slot_in ss k).life) (slot_in ss k).life.awaited.on o (λ (j : ℕ). waits_on o (slot_in ss j)) k (omega arith) (omega (arith, (tally-long k).1)) (tally-waiters k (omega arith) o l)

  tally-held : (k : ℕ) → k ≤ 32 → Sound k → (a : ℕ) → a < 16 → get_or (tally_of ss k).held.at a 0 ≡ sum_below (λ (j : ℕ). times_in a (slot_in ss j).stack) k
  unfolding tally_of tallied no_tally sum_below times_in
  tally-held zero b h a l = get_or-replicate 16 a 0 0 l
  tally-held (suc k) b h a l =
      let g : (j : ℕ) → j < suc k → (slot_in ss j).stack.held ≤ 16 = λ j c. slot_held cfg (slot_in ss j) (all-at (λ (j : ℕ). slot_sound cfg (slot_in ss j)) (suc k) h j c) in
      let e = tally-held k (omega arith) (sound-before k h) a l in
      let m = sum_bound (λ (j : ℕ). times_in a (slot_in ss j).stack) 16 k (λ j c. omega (arith, count_most (λ (i : ℕ). eqb (get_or (slot_in ss j).stack.at i 0) a) (slot_in ss j).stack.held, g j (omega arith))) in
      held_at (slot_in ss k).stack (slot_in ss k).stack.held (tally_of ss k).held a (omega (arith, (tally-long k).2)) (omega (arith, e, m, g k (omega arith))) ∙ omega (arith, e)

  tally-clients : (k : ℕ) → k ≤ 32 → (o m : ℕ) → noted_as o m (tally_of ss k).noted ≡ sum_below (λ (j : ℕ). served_as o m (slot_in ss j).owed) k
  unfolding tally_of tallied no_tally sum_below noted_as
  tally-clients zero b o m = refl
  tally-clients (suc k) b o m =
      let r = tally-few k (omega arith) in
      noting-count (tally_of ss k).noted (slot_in ss k).owed r.0 r.1 (omega (arith, r.2)) o m ∙ omega (arith, tally-clients k (omega arith) o m)

  -- as the walk goes on, the tally means what it is said to
  pub tally-tallies : (k : ℕ) → k ≤ 32 → Sound k → Tallies ss k (tally_of ss k)
  tally-tallies k b h = record { instances = tally-instances k b; waiters = tally-waiters k b; held = tally-held k b h; clients = tally-clients k b }

  -- a test of the clients noted is one of the clients of the slots
  pub tally-all : (p : ℕ → ℕ → Bool) (k : ℕ) → k ≤ 32 → all_below (λ (j : ℕ). p (noted_at (tally_of ss k).noted j).operation (noted_at (tally_of ss k).noted j).number) (tally_of ss k).noted.n ≡ all_below (λ (j : ℕ). either (not (slot_in ss j).owed.serving) (p (slot_in ss j).owed.client.operation (slot_in ss j).owed.client.number)) k
  unfolding tally_of tallied no_tally all_below
  tally-all p zero b = refl
  tally-all p (suc k) b =
      let r = tally-few k (omega arith) in
      noting-all (tally_of ss k).noted (slot_in ss k).owed r.0 r.1 (omega (arith, r.2)) p ∙ rw (tally-all p k (omega arith))
