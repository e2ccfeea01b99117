-- What the tests of soundness tell: of an entry without fault, of a blank one, of a kind place by place, and of a configuration kind by kind; what the test of a kind comes to, from what its loop finds; and that a configuration whose tables are full length has as many places of each kind as there may be.
-- Assumes nothing.
use Prim.Native.Nat.{ℕ, ◌+◌, ◌-◌, ◌≤◌, ◌<◌}
use mathlib.Core.Bool.{true, false}
use mathlib.Core.Path.{◌≡◌}
use native.Mathlib.Decide.{dec_lt}
use native.Mathlib.Omega.{arith}
use lib.Dec.{leb, eqb}
use lib.ListN.{length}
use borrow.Author.Tests.{lt-ltb, le-ltb, le-leb, lt-leb, eq-eqb, leb-true, eqb-true}
use Rattle.numbers.specs.Tags.{last_tag, part_kinds}
use Rattle.laws.specs.Choice.{both}
use Rattle.laws.specs.Loop.{all_below}
use Rattle.laws.proofs.Choosing.{both_left, both_right, both-no, pick-on}
use Rattle.laws.proofs.Looping.{all-at, all-of}
use Rattle.config.specs.declared.Config.{Config}
use Rattle.config.specs.Editions.{is_edition, has_field}
use Rattle.entries.specs.declared.Entry.{Entry}
use Rattle.entries.specs.Entries.{max_of, count_of, places_of, entry_of}
use Rattle.entries.specs.Faults.{has_room, in_range, names_there, pairs_well, entry_fault, is_no_entry, place_sound, kind_sound, parts_sound, config_sound}

-- ---- an entry

-- an entry without fault
pub record Well (cfg : Config) (tag i : ℕ) (e : Entry) : Type 0 where
  pub field : has_field cfg.edition tag ≡ true
  pub room : has_room cfg tag i e ≡ true
  pub range : in_range tag e ≡ true
  pub names : names_there cfg tag e ≡ true
  pub pairs : pairs_well cfg tag i e ≡ true

pub fault-told : (cfg : Config) (tag i : ℕ) (e : Entry) → entry_fault cfg tag i e ≡ 0 → Well cfg tag i e
unfolding entry_fault
fault-told cfg tag i e h =
    let f = pick-on (has_field cfg.edition tag) _ 21 0 h (λ q. omega (arith, q)) in
    let a = pick-on (has_room cfg tag i e) _ 23 0 f.1 (λ q. omega (arith, q)) in
    let b = pick-on (in_range tag e) _ 24 0 a.1 (λ q. omega (arith, q)) in
    let c = pick-on (names_there cfg tag e) _ 25 0 b.1 (λ q. omega (arith, q)) in
    let d = pick-on (pairs_well cfg tag i e) _ 26 0 c.1 (λ q. omega (arith, q)) in
    record { field = f.0; room = a.0; range = b.0; names = c.0; pairs = d.0 }

-- an entry of zeros
pub record Blank (e : Entry) : Type 0 where
  pub first : e.first ≡ 0
  pub second : e.second ≡ 0
  pub third : e.third ≡ 0
  pub number : e.number ≡ 0

pub blank-told : (e : Entry) → is_no_entry e ≡ true → Blank e
unfolding is_no_entry
blank-told e h =
    let b = both_right (eqb e.first 0) _ h in
    let c = both_right (eqb e.second 0) _ b in
    record {
      first = eqb-true _ _ (both_left (eqb e.first 0) _ h);
      second = eqb-true _ _ (both_left (eqb e.second 0) _ b);
      third = eqb-true _ _ (both_left (eqb e.third 0) _ c);
      number = eqb-true _ _ (both_right (eqb e.third 0) _ c);
    }

-- ---- a kind

-- the length of its table, how many are in use, and each place
pub record Kind (cfg : Config) (k : ℕ) : Type 0 where
  pub places : places_of cfg k ≡ max_of k
  pub room : count_of cfg k ≤ max_of k
  pub used : (i : ℕ) → i < count_of cfg k → entry_fault cfg k i (entry_of cfg k i) ≡ 0
  pub blank : (i : ℕ) → i < max_of k → count_of cfg k ≤ i → is_no_entry (entry_of cfg k i) ≡ true

kind-told : (cfg : Config) (k : ℕ) → kind_sound cfg k ≡ true → Kind cfg k
unfolding kind_sound place_sound
kind-told cfg k h =
    let p = both_left (eqb (places_of cfg k) (max_of k)) _ h in
    let q = both_right (eqb (places_of cfg k) (max_of k)) _ h in
    let c : count_of cfg k ≤ max_of k = leb-true (count_of cfg k) (max_of k) (both_left (leb (count_of cfg k) (max_of k)) _ q) in
    let a = all-at (place_sound cfg k) (max_of k) (both_right (leb (count_of cfg k) (max_of k)) _ q) in
    record {
      places = eqb-true (places_of cfg k) (max_of k) p;
      room = c;
      used = λ i l. eqb-true (entry_fault cfg k i (entry_of cfg k i)) 0 (rw (lt-ltb i (count_of cfg k) l) at (a i (omega arith)));
      blank = λ i l m. rw (le-ltb i (count_of cfg k) m) at (a i l);
    }

kind-made : (cfg : Config) (k : ℕ) → Kind cfg k → kind_sound cfg k ≡ true
unfolding kind_sound place_sound
kind-made cfg k f =
    rw (eq-eqb (places_of cfg k) (max_of k) f.places, le-leb (count_of cfg k) (max_of k) f.room)
    (all-of (place_sound cfg k) (max_of k) (λ i l. place i l (dec_lt i (count_of cfg k))))
  where
    place : (i : ℕ) → i < max_of k → Dec (i < count_of cfg k) → place_sound cfg k i ≡ true
    place i l (yes c) = rw (lt-ltb i (count_of cfg k) c, f.used i c)
    place i l (no c) = rw (le-ltb i (count_of cfg k) (omega (arith, c))) (f.blank i l (omega (arith, c)))

-- ---- a configuration

pub edition-told : (cfg : Config) → config_sound cfg ≡ true → is_edition cfg.edition ≡ true
unfolding config_sound
edition-told cfg h = both_left (is_edition cfg.edition) _ h

pub config-told : (cfg : Config) → config_sound cfg ≡ true → (k : ℕ) → 0x10 ≤ k → k ≤ last_tag → Kind cfg k
unfolding config_sound parts_sound
config-told cfg h k a b =
    let e : 0x10 + (k - 0x10) ≡ k = omega arith in
    kind-told cfg k (rw e at (all-at (λ (j : ℕ). kind_sound cfg (0x10 + j)) part_kinds (both_right (is_edition cfg.edition) _ h) (k - 0x10) (omega arith)))

pub config-made : (cfg : Config) → is_edition cfg.edition ≡ true → ((k : ℕ) → 0x10 ≤ k → k ≤ last_tag → Kind cfg k) → config_sound cfg ≡ true
unfolding config_sound parts_sound
config-made cfg e f = rw e (all-of (λ (j : ℕ). kind_sound cfg (0x10 + j)) part_kinds (λ j l. kind-made cfg (0x10 + j) (f (0x10 + j) (omega arith) (omega arith))))

-- ---- from what a loop finds

-- each table has all its places
pub record Full (cfg : Config) : Type 0 where
  pub runnables : length cfg.runnables.at ≡ 16
  pub variables : length cfg.variables.at ≡ 16
  pub areas : length cfg.areas.at ≡ 16
  pub required : length cfg.required.at ≡ 16
  pub provided : length cfg.provided.at ≡ 16
  pub links : length cfg.links.at ≡ 32
  pub operations : length cfg.operations.at ≡ 8
  pub timers : length cfg.timers.at ≡ 8
  pub devents : length cfg.devents.at ≡ 32
  pub revents : length cfg.revents.at ≡ 16
  pub incoming : length cfg.incoming.at ≡ 64
  pub outgoing : length cfg.outgoing.at ≡ 64

pub places-full : (cfg : Config) (tag : ℕ) → Full cfg → places_of cfg tag ≡ max_of tag
unfolding places_of max_of
places-full cfg tag f =
    rw (f.runnables, f.variables, f.areas, f.required, f.provided, f.links, f.operations, f.timers, f.devents, f.revents, f.incoming, f.outgoing)

module _ (cfg : Config) (tag : ℕ) where
  pub kind-over : max_of tag < count_of cfg tag → kind_sound cfg tag ≡ false
  unfolding kind_sound
  kind-over h =
      both-no (eqb (places_of cfg tag) (max_of tag)) (both (leb (count_of cfg tag) (max_of tag)) (all_below (place_sound cfg tag) (max_of tag)))
      (rw (lt-leb (count_of cfg tag) (max_of tag) h))

  -- where there are no more than there may be, the places decide
  pub kind-places : Full cfg → count_of cfg tag ≤ max_of tag → kind_sound cfg tag ≡ all_below (place_sound cfg tag) (max_of tag)
  unfolding kind_sound
  kind-places f l = rw (eq-eqb (places_of cfg tag) (max_of tag) (places-full cfg tag f), le-leb (count_of cfg tag) (max_of tag) l)
