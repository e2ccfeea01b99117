-- Laws of the rows: turned by one, with a new row in front.
-- Assumes nothing.
use Rattle.std.proofs.Common.{◌≡◌, List, [], ◌∷◌, ◌++◌, length, take, drop, slice_set, refl, arith, length-drop}

-- one row more, in front of the others, of which the last falls out
pub turned : {A : Type 0} (l : List A) (x : A) → length l ≡ 8 → slice_set (drop 7 l ++ take 7 l) 0 x ≡ x ∷ take 7 l
turned {A} l x h = go (drop 7 l) (omega (arith, h, length-drop 7 l))
  where
    go : (last : List A) → length last ≡ 1 → slice_set (last ++ take 7 l) 0 x ≡ x ∷ take 7 l
    go [] e = absurd (omega (arith, e))
    go (y ∷ []) e = refl
    go (y ∷ (z ∷ rest)) e = absurd (omega (arith, e))
