-- Numbers as bytes, the high byte first ("The files"), and bytes written into a lent buffer ("Numbers of refusal", writing).
-- Assumes nothing.
use Rattle.std.specs.Prelude.{ℕ, zero, suc, ◌+◌, ◌*◌, ◌/◌, ◌%◌, List, [], ◌∷◌, ◌++◌, ◌≡◌, length, take, drop, leb}
use Rattle.numbers.specs.Refusals.{no_room}
use Rattle.numbers.specs.Tags.{end_tag}
use Rattle.laws.specs.Choice.{pick}
use Rattle.wire.specs.declared.Wrote.{Wrote}
use Rattle.wire.specs.declared.Wrote.TheVariants.{To, Refused}

-- the number of refusal that an answer to writing stands for; 0 where the text was written ("Numbers of refusal", writing)
abbrev pub wrote_refusal : Wrote → ℕ
wrote_refusal (To n) = 0
wrote_refusal (Refused r) = r

-- how far the text reaches; 0 beside a refusal ("Numbers of refusal", writing)
abbrev pub wrote_length : Wrote → ℕ
wrote_length (To n) = n
wrote_length (Refused r) = 0

-- the number of two bytes ("The files")
abbrev pub length_of : ℕ → ℕ → ℕ
length_of a b = a * 256 + b

-- the number of four bytes ("The files")
abbrev pub number_of : ℕ → ℕ → ℕ → ℕ → ℕ
number_of a b c d = a * 16777216 + b * 65536 + c * 256 + d

-- the four bytes of a number ("The files")
abbrev pub bytes32 : ℕ → List ℕ
bytes32 n = n / 256 / 256 / 256 % 256 ∷ n / 256 / 256 % 256 ∷ n / 256 % 256 ∷ n % 256 ∷ []

-- the end field, which both files have: its tag, and no body ("The files", tag 7F)
abbrev pub end_bytes : List ℕ
end_bytes = end_tag ∷ 0 ∷ 0 ∷ []

-- a buffer with xs from a place on; before them and behind them it is as it was ("Numbers of refusal", writing)
abbrev pub put_at : List ℕ → ℕ → List ℕ → List ℕ
put_at b at xs = (take at b ++ xs) ++ drop (at + length xs) b

-- the answer to writing so many bytes: 27 exactly where the buffer ends before them ("Numbers of refusal", writing)
abbrev pub wrote_to : List ℕ → ℕ → ℕ → Wrote
wrote_to b at size = pick (leb (at + size) (length b)) (To (at + size)) (Refused no_room)

-- the buffer after writing: untouched by a refusal ("Numbers of refusal", writing)
abbrev pub wrote_bytes : List ℕ → ℕ → List ℕ → List ℕ
wrote_bytes b at xs = pick (leb (at + length xs) (length b)) (put_at b at xs) b

-- what writing xs comes to: the answer r, and b' for each byte of the buffer ("Numbers of refusal", writing)
pub record Written (b : List ℕ) (at : ℕ) (xs : List ℕ) (r : Wrote) (b' : List ℕ) : Type 0 where
  pub answer : r ≡ wrote_to b at (length xs)
  pub bytes : b' ≡ wrote_bytes b at xs

-- the first n pieces of a text, one behind the other ("The files")
unfoldable pub build : (ℕ → List ℕ) → ℕ → List ℕ
build f zero = []
build f (suc n) = build f n ++ f n
