-- Another edition leaves all parts of a configuration as they were: how many, and which; and a kind of which there are none is sound in any edition.
-- Assumes nothing.
use Prim.Native.Nat.{ℕ}
use mathlib.Core.Path.{◌≡◌, refl}
use native.Mathlib.Omega.{arith}
use Rattle.config.specs.declared.Config.{Config}
use Rattle.entries.specs.Entries.{count_of, places_of, entry_of, with_edition}
use Rattle.entries.proofs.Kind.{Kind}

module _ (cfg : Config) (e k : ℕ) where
  pub edition-count : count_of (with_edition cfg e) k ≡ count_of cfg k
  unfolding count_of
  edition-count = refl

  pub edition-places : places_of (with_edition cfg e) k ≡ places_of cfg k
  unfolding places_of
  edition-places = refl

  pub edition-entry : (i : ℕ) → entry_of (with_edition cfg e) k i ≡ entry_of cfg k i
  unfolding entry_of
  edition-entry i = refl

  pub edition-kind : count_of cfg k ≡ 0 → Kind cfg k → Kind (with_edition cfg e) k
  unfolding count_of places_of entry_of
  edition-kind z f = record { places = f.places; room = f.room; used = λ i l. absurd (omega (arith, z, l)); blank = f.blank }
