-- Tags that name no kind, and the blank configuration.
-- Assumes nothing.
use Prim.Native.Nat.{ℕ, ◌≤◌, ◌<◌}
use mathlib.Core.Bool.{true, false}
use mathlib.Core.Path.{◌≡◌, refl}
use native.Mathlib.Decide.{dec_lt}
use native.Mathlib.Omega.{arith}
use lib.Dec.{eqb}
use borrow.Author.Tests.{ne_eqb}
use Rattle.numbers.specs.Tags.{last_tag}
use Rattle.laws.specs.Choice.{pick}
use Rattle.laws.specs.Loop.{all_below}
use Rattle.laws.proofs.Choosing.{pick-alike}
use Rattle.config.specs.declared.Config.{Config}
use Rattle.config.specs.Editions.{is_edition}
use Rattle.config.specs.Tables.{no_config}
use Rattle.entries.specs.Entries.{no_entry, max_of, count_of, places_of, entry_of}
use Rattle.config.specs.Table.{part_in}
use Rattle.entries.specs.Faults.{in_range, names_there, pairs_well, entry_fault, is_no_entry, place_sound, kind_sound, parts_sound, config_sound}

module _ (k : ℕ) (n : 0x10 ≤ k → k ≤ last_tag → ⊥) where
  -- a choice by the tags of all kinds comes to its last
  falls : {A : Type 0} (a b c d e f g h i j k₁ k₂ z : A) → pick (eqb k 0x10) a (pick (eqb k 0x11) b (pick (eqb k 0x12) c (pick (eqb k 0x13) d (pick (eqb k 0x14) e (pick (eqb k 0x15) f (pick (eqb k 0x16) g (pick (eqb k 0x17) h (pick (eqb k 0x18) i (pick (eqb k 0x19) j (pick (eqb k 0x1a) k₁ (pick (eqb k 0x1b) k₂ z))))))))))) ≡ z
  falls a b c d e f g h i j k₁ k₂ z =
      rw (
        off 0x10 (omega arith) (omega arith),
        off 0x11 (omega arith) (omega arith),
        off 0x12 (omega arith) (omega arith),
        off 0x13 (omega arith) (omega arith),
        off 0x14 (omega arith) (omega arith),
        off 0x15 (omega arith) (omega arith),
        off 0x16 (omega arith) (omega arith),
        off 0x17 (omega arith) (omega arith),
        off 0x18 (omega arith) (omega arith),
        off 0x19 (omega arith) (omega arith),
        off 0x1a (omega arith) (omega arith),
        off 0x1b (omega arith) (omega arith),
      )
    where
      off : (t : ℕ) → 0x10 ≤ t → t ≤ last_tag → eqb k t ≡ false
      off t l m = ne_eqb k t (λ q. n (omega (arith, q)) (omega (arith, q)))

  pub no-kind-max : max_of k ≡ 0
  unfolding max_of
  no-kind-max = falls _ _ _ _ _ _ _ _ _ _ _ _ 0

  pub no-kind-count : (cfg : Config) → count_of cfg k ≡ 0
  unfolding count_of
  no-kind-count cfg = falls _ _ _ _ _ _ _ _ _ _ _ _ 0

  pub no-kind-entry : (cfg : Config) (i : ℕ) → entry_of cfg k i ≡ no_entry
  unfolding entry_of
  no-kind-entry cfg i = falls _ _ _ _ _ _ _ _ _ _ _ _ no_entry

-- a tag of which there may be a part is that of a kind
pub kind-tag : (tag : ℕ) → 0 < max_of tag → (0x10 ≤ tag) × (tag ≤ last_tag)
kind-tag tag h = go (dec_lt tag 0x10) (dec_lt last_tag tag)
  where
    go : Dec (tag < 0x10) → Dec (last_tag < tag) → (0x10 ≤ tag) × (tag ≤ last_tag)
    go (yes l) b = absurd (omega (arith, no-kind-max tag (λ a b. omega (arith, l, a))))
    go (no n) (yes l) = absurd (omega (arith, no-kind-max tag (λ a b. omega (arith, l, b))))
    go (no n) (no m) = (omega (arith, n), omega (arith, m))

-- a blank configuration has no part of any kind, and is sound
pub blank_none : (k : ℕ) → count_of no_config k ≡ 0
unfolding count_of no_config
blank_none k = simp pick-alike

pub blank-sound : config_sound no_config ≡ true
unfolding config_sound is_edition parts_sound kind_sound all_below place_sound entry_fault is_no_entry in_range names_there pairs_well max_of count_of places_of entry_of no_config part_in
blank-sound = refl
