-- Choices by a test, and tests joined.
-- Assumes nothing.
use Rattle.std.specs.Prelude.{ℕ, Bool, true, false, List, [], ◌∷◌, ◌≡◌}

-- the first where the test holds, else the second
abbrev pub pick : {A : Type 0} → Bool → A → A → A
pick true a b = a
pick false a b = b

-- both tests hold
abbrev pub both : Bool → Bool → Bool
both true b = b
both false b = false

-- one of two tests holds, or both
abbrev pub either : Bool → Bool → Bool
either true b = true
either false b = b

-- two flags agree
abbrev pub alike : Bool → Bool → Bool
alike true b = b
alike false true = false
alike false false = true

-- a test as a number
abbrev pub bit : Bool → ℕ
bit true = 1
bit false = 0

-- every test of a list holds
unfoldable pub all_of : List Bool → Bool
all_of [] = true
all_of (b ∷ bs) = both b (all_of bs)

-- the same as facts, one beside the other
abbrev pub AllOf : List Bool → Type 0
AllOf [] = Unit {0}
AllOf (b ∷ bs) = (b ≡ true) × AllOf bs
