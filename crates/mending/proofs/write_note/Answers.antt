-- `write_note` meets its contract: the bytes of a number, high byte first, are those of the definitions.
-- Assumes nothing.
use Prim.Native.Nat.{ℕ, ◌/◌, ◌%◌}
use mathlib.Core.List.{List, [], ◌∷◌, ◌++◌}
use mathlib.Core.Path.{◌≡◌, ap₂, subst, ◌∙◌}
use native.Mathlib.Omega.{arith}
use Rattle.wire.specs.Bytes.{bytes32, Written}
use Rattle.wire.specs.declared.Wrote.{Wrote}
use Rattle.mending.proofs.write_note.Goals as goal

four-are : (n : ℕ) → n / 16777216 % 256 ∷ n / 65536 % 256 ∷ n / 256 % 256 ∷ n % 256 ∷ [] ≡ bytes32 n
four-are n =
    let a : n / 16777216 % 256 ≡ n / 256 / 256 / 256 % 256 = omega arith in
    let b : n / 65536 % 256 ≡ n / 256 / 256 % 256 = omega arith in
    cc

high-are : (n : ℕ) → n / 72057594037927936 % 256 ∷ n / 281474976710656 % 256 ∷ n / 1099511627776 % 256 ∷ n / 4294967296 % 256 ∷ [] ≡ bytes32 (n / 4294967296)
high-are n =
    let a : n / 72057594037927936 % 256 ≡ n / 4294967296 / 256 / 256 / 256 % 256 = omega arith in
    let b : n / 281474976710656 % 256 ≡ n / 4294967296 / 256 / 256 % 256 = omega arith in
    let d : n / 1099511627776 % 256 ≡ n / 4294967296 / 256 % 256 = omega arith in
    cc

written-as : {b b' xs ys : List ℕ} {at : ℕ} {r : Wrote} → Written b at xs r b' → xs ≡ ys → Written b at ys r b'
written-as {b} {b'} {xs} {ys} {at} {r} w e = subst (λ (l : List ℕ). Written b at l r b') e w

pub returns : goal.returns
returns c =
    let four = c.to_be_bytes.ensures ∙ four-are c.args.v.number in
    let high = high-are c.args.place in
    let low = four-are c.args.place in
    written-as c.write.ensures
    (rw (four, c.to_be_bytes-2.ensures) (ap₂ (λ (h l : List ℕ). c.args.kind ∷ c.args.code ∷ c.args.what ∷ c.args.v.kind ∷ (bytes32 c.args.v.number ++ (h ++ l))) high low))
