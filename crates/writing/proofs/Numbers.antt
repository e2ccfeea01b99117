-- What writing a configuration answers, by document 01's numbers: 1, then 27, and else how long the text is, which stands first in the buffer.
-- Assumes nothing.
use Prim.Native.Nat.{ℕ, ◌+◌, ◌≤◌, ◌<◌}
use mathlib.Core.Bool.{true, false}
use mathlib.Core.List.{List, ◌++◌}
use mathlib.Core.Path.{◌≡◌, ap}
use native.Mathlib.Omega.{arith}
use lib.ListN.{length, drop}
use borrow.Author.Tests.{le-leb, lt-leb}
use Rattle.config.specs.declared.Config.{Config}
use Rattle.wire.specs.Bytes.{wrote_refusal, wrote_length}
use Rattle.entries.specs.Faults.{config_sound}
use Rattle.writing.specs.Writing.{text_of, config_to, config_written}

module _ (b : List ℕ) (cfg : Config) where
  pub unsound-refused : config_sound cfg ≡ false → (wrote_refusal (config_to b cfg) ≡ 1) × (config_written b cfg ≡ b)
  unsound-refused s = (rw s, rw s)

  pub short-refused : config_sound cfg ≡ true → length b < length (text_of cfg) → (wrote_refusal (config_to b cfg) ≡ 27) × (config_written b cfg ≡ b)
  short-refused s h = let t = lt-leb (0 + length (text_of cfg)) (length b) (omega arith) in (rw (s, t), rw (s, t))

  pub config-written : config_sound cfg ≡ true → length (text_of cfg) ≤ length b
      → (wrote_refusal (config_to b cfg) ≡ 0) × (wrote_length (config_to b cfg) ≡ length (text_of cfg)) × (config_written b cfg ≡ text_of cfg ++ drop (length (text_of cfg)) b)
  config-written s h =
      let t = le-leb (0 + length (text_of cfg)) (length b) (omega arith) in
      let z : 0 + length (text_of cfg) ≡ length (text_of cfg) = omega arith in
      (rw (s, t), rw (s, t) z, rw (s, t) (ap (λ (k : ℕ). text_of cfg ++ drop k b) z))
