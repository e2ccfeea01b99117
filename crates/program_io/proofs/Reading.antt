-- What two reads took of an input whose bytes are known, one after the other, as it stands in the buffer.
-- Assumes nothing.
use Rattle.std.proofs.Common.{◌≡◌, ℕ, ◌+◌, ◌<◌, ◌≤◌, List, ◌++◌, None, Some, Option, length, take, sym, ap, ◌∙◌, subst, append_assoc, arith}
use Rattle.std.proofs.Math.Seq.{take-append-add}
use Rattle.std.proofs.lemmas.List.{length-take-le, take-append-le}
use Rattle.std.specs.Io.KnownBytes.{Consumes, IsAtEnd}
use Rattle.program_io.specs.Packed.{IsNumber, IsText}

-- the bytes of both
taken-both : (a b c : Option (List ℕ)) (bs cs : List ℕ) → Consumes a b bs → Consumes b c cs → Consumes a c (bs ++ cs)
taken-both None b c bs cs p q = tt
taken-both (Some x) None c bs cs p q = absurd p
taken-both (Some x) (Some y) None bs cs p q = absurd q
taken-both (Some x) (Some y) (Some z) bs cs p q = p ∙ ap (λ l. bs ++ l) q ∙ sym (append_assoc bs cs z)

-- what came behind the first bytes of a buffer stands there
stands-behind : (at n : ℕ) (buf part rest : List ℕ) → at ≤ length buf → n ≤ length part → take (at + n) (take at buf ++ (part ++ rest)) ≡ take at buf ++ take n part
stands-behind at n buf part rest in-buf in-part =
    ap (λ k. take (k + n) (take at buf ++ (part ++ rest))) (sym (length-take-le at buf in-buf)) ∙ take-append-add (take at buf) (part ++ rest) n ∙ ap (λ l. take at buf ++ l) (take-append-le n part rest in-part)

-- a read behind the first bytes of a buffer
pub read-behind : (a b c : Option (List ℕ)) (at n : ℕ) (buf part rest : List ℕ) → at ≤ length buf → n ≤ length part → Consumes a b (take at buf) → Consumes b c (take n part)
    → Consumes a c (take (at + n) (take at buf ++ (part ++ rest)))
read-behind a b c at n buf part rest in-buf in-part before then =
    subst (Consumes a c) (sym (stands-behind at n buf part rest in-buf in-part)) (taken-both a b c _ _ before then)

-- a text behind its length
pub text-behind : (a b c : Option (List ℕ)) (size n : ℕ) (part rest : List ℕ) → IsNumber a b size → n ≤ length part → length part ≡ size → Consumes b c (take n part) → (n < length part → IsAtEnd c)
    → IsText a c (take n (part ++ rest))
text-behind a b c size n part rest number in-part whole then end =
    let came : length (take n part) ≡ n = length-take-le n part in-part in
    rw (take-append-le n part rest in-part) (number.0, number.1, taken-both a b c number.0 (take n part) number.2 then, omega (arith, came, whole, number.3), λ short. end (omega (arith, came, whole, number.3, short)))
