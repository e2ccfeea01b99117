-- Laws of pending activations, for any top: one more below it is one more exactly, and at it nothing changes (W-212).
-- Assumes nothing.
use Prim.Native.Nat.{ℕ, ◌+◌, ◌≤◌, ◌<◌}
use mathlib.Core.Path.{◌≡◌}
use native.Mathlib.Omega.{arith}
use lib.Dec.{ltb}
use borrow.Author.Tests.{lt-ltb, le-ltb, ltb-true}
use Rattle.laws.proofs.Choosing.{pick-has}
use Rattle.faces.specs.Types.{RunnableConf}
use Rattle.config.specs.Tables.{max_pending, top_of}
use Rattle.effects.specs.Steps.{one_more}

-- a top is 1 at least
pub top-some : (c : RunnableConf) → 1 ≤ top_of c
unfolding top_of
top-some c = pick-has (λ n. 1 ≤ n) c.counting max_pending 1 (λ e. omega arith) (λ e. omega arith)

-- one more where there is room, and none at the top
pub more-below : (top n : ℕ) → n < top → one_more top n ≡ n + 1
unfolding one_more
more-below top n b = rw (lt-ltb n top b)

pub more-above : (top n : ℕ) → top ≤ n → one_more top n ≡ n
unfolding one_more
more-above top n b = rw (le-ltb n top b)

-- the top is never passed
pub more-fits : (top n : ℕ) → n ≤ top → one_more top n ≤ top
unfolding one_more
more-fits top n b = pick-has (λ m. m ≤ top) (ltb n top) (n + 1) n (λ e. omega (arith, ltb-true n top e)) (λ e. b)
