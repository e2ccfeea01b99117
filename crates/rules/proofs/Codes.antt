-- Which codes are a slot's, and which the scheduler's: the column of who in the table of steps, range by range. A new row at the end moves the bounds of `added-codes` and `high-codes` alone.
-- Assumes nothing.
use Prim.Native.Nat.{ℕ, ◌≤◌, ◌<◌}
use mathlib.Core.Bool.{true}
use mathlib.Core.Path.{◌≡◌, refl}
use native.Mathlib.Omega.{arith}
use lib.Dec.{ltb, eqb}
use borrow.Author.Tests.{le-ltb, eqb-true}
use Rattle.numbers.specs.Codes.{read_variable_code, end_code, spawn_code, wait_code, fail_code, write_copy_code}
use Rattle.laws.specs.Choice.{either}
use Rattle.laws.specs.Loop.{all_below}
use Rattle.laws.proofs.Choosing.{either-right}
use Rattle.laws.proofs.Looping.{all-at}
use Rattle.laws.proofs.Places.{past}
use Rattle.rules.specs.Rows.{nobody, a_slot, scheduler, no_row, rows, row_of}

-- the rows from a up to b are those of w, computed
ranged : (w a b : ℕ) → all_below (λ (n : ℕ). either (ltb n a) (eqb (row_of n).who w)) b ≡ true → (n : ℕ) → a ≤ n → n < b → (row_of n).who ≡ w
ranged w a b h n l m =
    eqb-true (row_of n).who w (either-right (ltb n a) (eqb (row_of n).who w) (all-at (λ (n : ℕ). either (ltb n a) (eqb (row_of n).who w)) b h n m) (le-ltb n a l))

-- the codes of a slot
pub slot-codes : (n : ℕ) → read_variable_code ≤ n → n ≤ end_code → (row_of n).who ≡ a_slot
unfolding all_below row_of rows
slot-codes n l m = ranged a_slot 1 15 refl n l (omega arith)

-- the codes of the scheduler
pub scheduler-codes : (n : ℕ) → spawn_code ≤ n → n ≤ wait_code → (row_of n).who ≡ scheduler
unfolding all_below row_of rows
scheduler-codes n l m = ranged scheduler 15 19 refl n l (omega arith)

-- the codes of a slot that were added
pub added-codes : (n : ℕ) → fail_code ≤ n → n ≤ write_copy_code → (row_of n).who ≡ a_slot
unfolding all_below row_of rows
added-codes n l m = ranged a_slot 19 24 refl n l (omega arith)

-- no code below is a step's
pub low-codes : (n : ℕ) → n < read_variable_code → (row_of n).who ≡ nobody
unfolding all_below row_of rows
low-codes n m = ranged nobody 0 1 refl n (omega arith) m

-- and none above
pub high-codes : (n : ℕ) → write_copy_code < n → (row_of n).who ≡ nobody
unfolding row_of rows
high-codes n l = rw (past rows n 24 no_row refl (omega arith))
