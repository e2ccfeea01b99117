-- Lists in order: what is passed over before the first that will do, and all sequences of so many choices, the first difference deciding (W-209, the order of sequences).
-- Assumes nothing.
use Rattle.std.specs.Prelude.{ℕ, zero, suc, Bool, List, [], ◌∷◌, ◌++◌, map}
use Rattle.laws.specs.Choice.{pick}

-- f at each number below n, in order
unfoldable pub each : {A : Type 0} → (ℕ → A) → ℕ → List A
each f zero = []
each f (suc n) = each f n ++ (f n ∷ [])

-- how many of a list stand before the first that will do; all of them if none will (W-209, the number passed over)
unfoldable pub passed_over : {A : Type 0} → (A → Bool) → List A → ℕ
passed_over p [] = 0
passed_over p (x ∷ l) = pick (p x) 0 (suc (passed_over p l))

-- each of some choices in turn, and behind it each sequence of a list in turn (W-209, first difference)
unfoldable pub behind : {A : Type 0} → List A → List (List A) → List (List A)
behind {A = A} [] ls = []
behind {A = A} (x ∷ xs) ls = map (λ (l : List A). x ∷ l) ls ++ behind xs ls

-- all sequences of n choices (W-209, first difference)
unfoldable pub sequences : {A : Type 0} → List A → ℕ → List (List A)
sequences xs zero = [] ∷ []
sequences xs (suc n) = behind xs (sequences xs n)

-- all sequences of at most three choices, shorter first (W-209, shorter first)
unfoldable pub up_to_three : {A : Type 0} → List A → List (List A)
up_to_three xs = sequences xs 0 ++ (sequences xs 1 ++ (sequences xs 2 ++ sequences xs 3))
