-- Laws of the short form: how long its parts are, what the tests of a field come to, and parts put one behind another.
-- Assumes nothing.
use Prim.Native.Nat.{ℕ, ◌+◌, ◌≤◌}
use mathlib.Core.Bool.{Bool, true, false}
use mathlib.Core.List.{List, [], ◌∷◌, ◌++◌}
use mathlib.Core.Path.{◌≡◌, refl, sym, ap, subst, ◌∙◌}
use native.Mathlib.Omega.{arith}
use lib.Dec.{leb}
use lib.ListN.{length, get_or, length-append}
use borrow.Author.Tests.{le-leb}
use Rattle.laws.specs.Choice.{pick}
use Rattle.laws.proofs.Choosing.{bit-most}
use Rattle.values.specs.declared.Value.{Value}
use Rattle.values.specs.declared.Step.{Step}
use Rattle.rules.specs.declared.Row.{Row}
use Rattle.wire.specs.Bytes.{bytes32, put_at}
use Rattle.wire.proofs.Pieces.{Put, put-more, put_same}
use Rattle.forms.specs.Short.{uses_who, uses_what, uses_argument, short_value, if_used, keeps_number, body_of, value_size, what_at, argument_at, claim_at}

-- ---- how far a field's places are

-- an entry is at most so long, used or not
pub used-most : (b : Bool) (n m : ℕ) → n ≤ m → pick b n 0 ≤ m
used-most true n m h = h
used-most false n m h = omega arith

size-most : (b : Bool) → pick b 5 1 ≤ 5
size-most true = omega arith
size-most false = omega arith

pub value-size-most : (k : ℕ) → value_size k ≤ 5
value-size-most k = size-most (keeps_number k)

pub what-most : (r : Row) → what_at r ≤ 5
what-most r = omega (arith, bit-most (uses_who r))

pub argument-most : (r : Row) → argument_at r ≤ 6
argument-most r = omega (arith, what-most r, bit-most (uses_what r))

pub claim-most : (r : Row) (t : List ℕ) → claim_at r t ≤ 11
claim-most r t = omega (arith, argument-most r, used-most (uses_argument r) (value_size (get_or t (argument_at r) 0)) 5 (value-size-most (get_or t (argument_at r) 0)))

-- ---- how long the parts of a field are

used-length : (b : Bool) (l : List ℕ) → length (if_used b l) ≡ pick b (length l) 0
used-length true l = refl
used-length false l = refl

one-length : (b : Bool) (k n : ℕ) → length (k ∷ pick b (bytes32 n) []) ≡ pick b 5 1
one-length true k n = refl
one-length false k n = refl

value-length : (v : Value) → length (short_value v) ≡ value_size v.kind
value-length v = one-length (keeps_number v.kind) v.kind v.number

parts-length : (k : ℕ) (w x a c : List ℕ) → length (k ∷ (w ++ x ++ a ++ c)) ≡ 1 + length w + length x + length a + length c
parts-length k w x a c = omega (arith, length-append (w ++ x ++ a) c, length-append (w ++ x) a, length-append w x)

pub body-length : (r : Row) (s : Step)
    → length (body_of r s) ≡ 1 + pick (uses_who r) 1 0 + pick (uses_what r) 1 0 + pick (uses_argument r) (value_size s.argument.kind) 0 + value_size s.claim.kind
body-length r s =
    parts-length s.code (if_used (uses_who r) (s.who ∷ [])) (if_used (uses_what r) (s.what ∷ [])) (if_used (uses_argument r) (short_value s.argument)) (short_value s.claim)
    ∙ rw (used-length (uses_who r) (s.who ∷ []), used-length (uses_what r) (s.what ∷ []), used-length (uses_argument r) (short_value s.argument), value-length s.argument, value-length s.claim)

pub body-most : (r : Row) (s : Step) → length (body_of r s) ≤ 13
body-most r s =
    omega (arith, body-length r s, used-most (uses_who r) 1 1 (omega arith), used-most (uses_what r) 1 1 (omega arith), used-most (uses_argument r) (value_size s.argument.kind) 5 (value-size-most s.argument.kind), value-size-most s.claim.kind)

-- ---- parts put one behind another

-- where a text has room, so has its front
pub front : (xs ys : List ℕ) (at n : ℕ) → at + length (xs ++ ys) ≤ n → at + length xs ≤ n
front xs ys at n h = omega (arith, h, length-append xs ys)

module _ (b₀ b xs : List ℕ) (at o : ℕ) (p : Put b₀ at xs o b) (ys : List ℕ) (fits : at + length (xs ++ ys) ≤ length b₀) where
  -- behind xs there is room for the next part
  pub next-room : {zs : List ℕ} → zs ≡ ys → o + length zs ≤ length b
  next-room e = rw e (omega (arith, fits, length-append xs ys, p.next, put_same b₀ b xs at o p (front xs ys at (length b₀) fits)))

  -- the next part put
  pub next-put : {zs b' : List ℕ} {o' : ℕ} → zs ≡ ys → o' ≡ o + length zs → b' ≡ put_at b o zs → Put b₀ at (xs ++ ys) o' b'
  next-put {zs} {b'} {o'} e n w =
      let t : leb (o + length zs) (length b) ≡ true = le-leb (o + length zs) (length b) (next-room e) in
      let f : xs ++ zs ≡ xs ++ ys = ap (λ (l : List ℕ). xs ++ l) e in
      subst (λ (l : List ℕ). Put b₀ at l o' b') f
      (put-more b₀ b xs at o p (front xs ys at (length b₀) fits) b' zs o' (omega (arith, fits, ap length f)) (w ∙ sym (ap (λ (x : Bool). pick x (put_at b o zs) b) t)) n)

-- the body of a field up to an entry, and with it

abbrev pub up_to_who : Row → Step → List ℕ
up_to_who r s = (s.code ∷ []) ++ if_used (uses_who r) (s.who ∷ [])

abbrev pub up_to_what : Row → Step → List ℕ
up_to_what r s = up_to_who r s ++ if_used (uses_what r) (s.what ∷ [])

abbrev pub up_to_argument : Row → Step → List ℕ
up_to_argument r s = up_to_what r s ++ if_used (uses_argument r) (short_value s.argument)

module _ (r : Row) (s : Step) (at n : ℕ) (h : at + length (body_of r s) ≤ n) where
  pub room-argument : at + length (up_to_argument r s) ≤ n
  room-argument = front (up_to_argument r s) (short_value s.claim) at n h

  pub room-what : at + length (up_to_what r s) ≤ n
  room-what = front (up_to_what r s) (if_used (uses_argument r) (short_value s.argument)) at n room-argument

  pub room-who : at + length (up_to_who r s) ≤ n
  room-who = front (up_to_who r s) (if_used (uses_what r) (s.what ∷ [])) at n room-what

  pub room-code : at + 1 ≤ n
  room-code = front (s.code ∷ []) (if_used (uses_who r) (s.who ∷ [])) at n room-who
