-- The plan board itself: the line that it shows of an operation, and the last eight lines, newest first (W-213).
-- Assumes nothing.
use Rattle.std.specs.Prelude.{ℕ, ◌+◌, Bool, ◌∷◌, ltb, eqb, take, get_or, replicate}
use Rattle.laws.specs.Choice.{pick, either}
use Rattle.values.specs.declared.Value.{Value}
use Rattle.values.specs.Values.{is_number, timeout_v, server_err_v}
use Rattle.state.specs.declared.Operation.{Operation}
use Rattle.posting.specs.declared.Shown.{Shown}
use Rattle.posting.specs.declared.Shown.TheVariants.{Final, Wait, NoPlan, None, Unjudged}
use Rattle.posting.specs.declared.Row.{Row}
use Rattle.posting.specs.declared.Board.{Board}
use Rattle.posting.specs.declared.Told.{Told}
use Rattle.posting.specs.declared.Told.TheVariants.{Line}
use Rattle.posting.specs.declared.Posted.{Posted}

-- ---- the line

-- a call that ended so brought no plan: by its timeout, or by the failure of its instance (W-213, NO PLAN)
unfoldable pub is_unplanned : Value → Bool
is_unplanned v = either (eqb v.kind timeout_v.kind) (eqb v.kind server_err_v.kind)

-- what is shown of a result: a Number is final; else there is no plan, or there is none at all yet (W-213)
unfoldable pub done_shown : Value → Shown
done_shown v = pick (is_number v) (Final v.number) (pick (is_unplanned v) NoPlan None)

-- what is shown of an operation: nothing of its result while its call is open (W-213)
unfoldable pub operation_shown : Operation → Shown
operation_shown x = pick x.calling Wait (done_shown x.done)

-- ---- the last eight lines

-- how many lines the board keeps (W-213)
abbrev pub max_rows : ℕ
max_rows = 8

-- a row without a line holds UNJUDGED, so that nothing else can ever be read off it (W-213)
abbrev pub no_row : Row
no_row = record { shown = Unjudged }

-- a board that has shown nothing (W-213)
unfoldable pub no_board : Board
no_board = record { count = 0; at = replicate max_rows no_row }

-- how many of its rows have a line: never more than there are (W-213)
unfoldable pub rows_of : Board → ℕ
rows_of b = pick (ltb b.count max_rows) b.count max_rows

-- the line in the row i, the newest in row 0 (W-213)
unfoldable pub row_in : Board → ℕ → Shown
row_in b i = (get_or b.at i no_row).shown

-- one line more, in front of the others, of which the eighth falls out (W-213)
unfoldable pub post_of : Board → Shown → Board
post_of b x = record { count = pick (ltb b.count max_rows) (b.count + 1) max_rows; at = record { shown = x } ∷ take 7 b.at }

-- ---- a showing

-- a line is shown, and enters the history (W-213)
abbrev pub enters : Board → Shown → Posted
enters b x = record { told = Line x; board = post_of b x }

-- something else is told, and the history stays as it was (W-213)
abbrev pub leaves : Board → Told → Posted
leaves b x = record { told = x; board = b }
