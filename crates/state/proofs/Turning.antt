-- An array turned by one place, whose last entry is then replaced, is its entries moved up and that one behind them.
-- Assumes nothing.
use Rattle.std.proofs.Common.{◌≡◌, ℕ, ◌+◌, List, [], ◌∷◌, ◌++◌, length, arith}
use lib.ListN.{set, take, drop}
use Rattle.std.proofs.Math.Seq.{set-append_seam}

pub turned : {A : Type 0} (l : List A) (n : ℕ) (b : A) → length l ≡ n + 1 → set (drop 1 l ++ take 1 l) n b ≡ drop 1 l ++ (b ∷ [])
turned [] n b e = absurd (omega arith)
turned (x ∷ l) n b e =
    let h : n ≡ length l = omega arith in
    rw h (set-append_seam l x [] b)
