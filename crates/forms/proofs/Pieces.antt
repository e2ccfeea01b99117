-- The pieces of a field in the short form, one by one: how long each is, written and then read, read and then written (W-207).
-- Assumes nothing.
use Prim.Native.Nat.{ℕ, suc, ◌+◌, ◌<◌, ◌≤◌, ◌^◌}
use mathlib.Core.Bool.{Bool, true, false}
use mathlib.Core.List.{List, [], ◌∷◌, ◌++◌, append_assoc}
use mathlib.Core.Path.{◌≡◌, refl, sym, ap, ap₂, ◌∙◌}
use native.Mathlib.Omega.{arith}
use lib.ListN.{length, get_or, drop, length-drop}
use lib.Seq.{drop-cons, drop-drop, drop_at, get_or-drop}
use lib.Dec.{eqb}
use borrow.Author.Tests.{eqb-true}
use Rattle.laws.specs.Choice.{pick, both, either, bit}
use Rattle.laws.proofs.Choosing.{clash, both_left, both_right}
use Rattle.values.specs.declared.Value.{Value}
use Rattle.values.specs.Values.{void_v, is_void, is_good, is_mask, is_kind, is_number, says_full}
use Rattle.wire.specs.Bytes.{number_of, bytes32}
use Rattle.wire.proofs.Laws.{Bytes, be32-bytes, bytes32-be, front_read}
use Rattle.recording.specs.Recording.{value_at}
use Rattle.forms.specs.Short.{keeps_number, short_value, if_used}
use Rattle.forms.specs.Short.{value_size, short_value_at}

-- ---- the bytes from a place on

ahead : (t xs : List ℕ) (i j : ℕ) → drop i t ≡ xs → get_or t (i + j) 0 ≡ get_or xs j 0
ahead t xs i j e = sym (get_or-drop i t j 0) ∙ ap (λ (l : List ℕ). get_or l j 0) e

first : (t xs : List ℕ) (i : ℕ) → drop i t ≡ xs → get_or t i 0 ≡ get_or xs 0 0
first t xs i e = let z : i ≡ i + 0 = omega arith in ap (λ (k : ℕ). get_or t k 0) z ∙ ahead t xs i 0 e

pub past : (t xs ys : List ℕ) (i n : ℕ) → length xs ≡ n → drop i t ≡ xs ++ ys → drop (i + n) t ≡ ys
past t xs ys i n l e = sym (drop-drop n i t) ∙ ap (drop n) e ∙ drop_at xs ys n l

-- four pieces and what is behind them, one after the other
pub regroup : (a b c d e : List ℕ) → (a ++ b ++ c ++ d) ++ e ≡ a ++ (b ++ (c ++ (d ++ e)))
regroup a b c d e = simp append_assoc

-- ---- how long a piece is

pub byte-size : (b : Bool) (x : ℕ) → length (if_used b (x ∷ [])) ≡ bit b
byte-size true x = refl
byte-size false x = refl

tail-size : (b : Bool) (n : ℕ) → suc (length (pick b (bytes32 n) [])) ≡ pick b 5 1
tail-size true n = refl
tail-size false n = refl

pub value-size : (v : Value) → length (short_value v) ≡ value_size v.kind
value-size v = tail-size (keeps_number v.kind) v.number

pub maybe-size : (b : Bool) (v : Value) → length (if_used b (short_value v)) ≡ pick b (value_size v.kind) 0
maybe-size true v = value-size v
maybe-size false v = refl

pub size-within : (b : Bool) → (1 ≤ pick b 5 1) × (pick b 5 1 ≤ 5)
size-within true = (omega arith, omega arith)
size-within false = (omega arith, omega arith)

pub maybe-within : (b : Bool) (k : ℕ) → pick b (value_size k) 0 ≤ 5
maybe-within true k = (size-within (keeps_number k)).1
maybe-within false k = omega arith

-- ---- a piece written, then read

pub byte-back : (b : Bool) (t rest : List ℕ) (i x : ℕ) → drop i t ≡ if_used b (x ∷ []) ++ rest → either b (eqb x 0) ≡ true → pick b (get_or t i 0) 0 ≡ x
byte-back true t rest i x e h = first t (x ∷ rest) i e
byte-back false t rest i x e h = sym (eqb-true x 0 h)

-- the tests of a good value whose kind keeps no number
no_number : (a f m k z : Bool) → either a (pick f m (both k z)) ≡ true → either a f ≡ false → z ≡ true
no_number true f m k z h e = absurd (clash true refl e)
no_number false true m k z h e = absurd (clash true refl e)
no_number false false m k z h e = both_right k z h

good-zero : (v : Value) → is_good v ≡ true → keeps_number v.kind ≡ false → v.number ≡ 0
unfolding is_good
good-zero v g e = eqb-true v.number 0 (no_number (is_number v) (says_full v) (is_mask v.number) (is_kind v.kind) (eqb v.number 0) g e)

value-back-by : (b : Bool) (v : Value) (t rest : List ℕ) (i : ℕ) → keeps_number v.kind ≡ b → drop i t ≡ (v.kind ∷ pick b (bytes32 v.number) []) ++ rest
    → is_good v ≡ true → v.number < 2 ^ 32 → pick b (value_at t i) (record { kind = get_or t i 0; number = 0 }) ≡ v
value-back-by true v t rest i k e g h =
    let l : List ℕ = (v.kind ∷ bytes32 v.number) ++ rest in
    let n : number_of (get_or t (i + 1) 0) (get_or t (i + 2) 0) (get_or t (i + 3) 0) (get_or t (i + 4) 0) ≡ v.number =
    rw (ahead t l i 1 e, ahead t l i 2 e, ahead t l i 3 e, ahead t l i 4 e) (be32-bytes v.number h) in
    ap₂ (λ (x y : ℕ). record { kind = x; number = y }) (first t l i e) n
value-back-by false v t rest i k e g h =
    ap₂ (λ (x y : ℕ). record { kind = x; number = y }) (first t (v.kind ∷ rest) i e) (sym (good-zero v g k))

pub value-back : (v : Value) (t rest : List ℕ) (i : ℕ) → drop i t ≡ short_value v ++ rest → is_good v ≡ true → v.number < 2 ^ 32 → short_value_at t i ≡ v
value-back v t rest i e g h =
    let k : get_or t i 0 ≡ v.kind = first t (short_value v ++ rest) i e in
    ap (λ (x : ℕ). pick (keeps_number x) (value_at t i) (record { kind = get_or t i 0; number = 0 })) k
    ∙ value-back-by (keeps_number v.kind) v t rest i refl e g h

void-is : (v : Value) → is_void v ≡ true → void_v ≡ v
unfolding is_void
void-is v h =
    ap₂ (λ (x y : ℕ). record { kind = x; number = y })
    (sym (eqb-true v.kind 0 (both_left (eqb v.kind 0) (eqb v.number 0) h)))
    (sym (eqb-true v.number 0 (both_right (eqb v.kind 0) (eqb v.number 0) h)))

pub maybe_back : (b : Bool) (v : Value) (t rest : List ℕ) (i : ℕ) → drop i t ≡ if_used b (short_value v) ++ rest → either b (is_void v) ≡ true
    → is_good v ≡ true → v.number < 2 ^ 32 → pick b (short_value_at t i) void_v ≡ v
maybe_back true v t rest i e u g h = value-back v t rest i e g h
maybe_back false v t rest i e u g h = void-is v u

-- the size that a reader goes by is that of what was written
pub maybe-long : (b : Bool) (v : Value) (t rest : List ℕ) (i : ℕ) → drop i t ≡ if_used b (short_value v) ++ rest
    → length (if_used b (short_value v)) ≡ pick b (value_size (get_or t i 0)) 0
maybe-long true v t rest i e = value-size v ∙ ap value_size (sym (first t (short_value v ++ rest) i e))
maybe-long false v t rest i e = refl

-- ---- a piece read, then written

pub byte-is : (b : Bool) (t : List ℕ) (i : ℕ) → i + bit b ≤ length t → drop i t ≡ if_used b (pick b (get_or t i 0) 0 ∷ []) ++ drop (i + bit b) t
byte-is true t i h =
    let e : suc i ≡ i + 1 = omega arith in
    drop-cons t i 0 (omega arith) ∙ ap (λ (k : ℕ). get_or t i 0 ∷ drop k t) e
byte-is false t i h = let e : i ≡ i + 0 = omega arith in ap (λ (k : ℕ). drop k t) e

value-five : (t : List ℕ) (i n : ℕ) → n ≡ (value_at t i).number → Bytes t → i + 5 ≤ length t → drop i t ≡ (get_or t i 0 ∷ bytes32 n) ++ drop (i + 5) t
value-five t i n e h l =
    let q = bytes32-be n (get_or t (i + 1) 0) (get_or t (i + 2) 0) (get_or t (i + 3) 0) (get_or t (i + 4) 0) e (h (i + 1)) (h (i + 2)) (h (i + 3)) (h (i + 4)) in
    let g₀ : get_or (drop i t) 0 0 ≡ get_or t i 0 = sym (first t (drop i t) i refl) in
    let g₁ = get_or-drop i t 1 0 in
    let g₂ = get_or-drop i t 2 0 in
    let g₃ = get_or-drop i t 3 0 in
    let g₄ = get_or-drop i t 4 0 in
    front_read 5 (drop i t) (get_or t i 0 ∷ bytes32 n) (omega (arith, length-drop i t)) (cc)
    ∙ ap (λ (l : List ℕ). (get_or t i 0 ∷ bytes32 n) ++ l) (drop-drop 5 i t)

value-is-by : (b : Bool) (t : List ℕ) (i : ℕ) → keeps_number (get_or t i 0) ≡ b → Bytes t → i + pick b 5 1 ≤ length t
    → drop i t ≡ short_value (pick b (value_at t i) (record { kind = get_or t i 0; number = 0 })) ++ drop (i + pick b 5 1) t
value-is-by true t i e h l = rw e (value-five t i (value_at t i).number refl h l)
value-is-by false t i e h l = rw e (byte-is true t i l)

pub value-is : (t : List ℕ) (i : ℕ) → Bytes t → i + value_size (get_or t i 0) ≤ length t → drop i t ≡ short_value (short_value_at t i) ++ drop (i + value_size (get_or t i 0)) t
value-is t i h l = value-is-by (keeps_number (get_or t i 0)) t i refl h l

pub maybe-is : (b : Bool) (t : List ℕ) (i : ℕ) → Bytes t → i + pick b (value_size (get_or t i 0)) 0 ≤ length t
    → drop i t ≡ if_used b (short_value (pick b (short_value_at t i) void_v)) ++ drop (i + pick b (value_size (get_or t i 0)) 0) t
maybe-is true t i h l = value-is t i h l
maybe-is false t i h l = let e : i ≡ i + 0 = omega arith in ap (λ (k : ℕ). drop k t) e

-- the first three bytes
pub three : (t : List ℕ) (a b c : ℕ) → 3 ≤ length t → get_or t 0 0 ≡ a → get_or t 1 0 ≡ b → get_or t 2 0 ≡ c → t ≡ (a ∷ b ∷ c ∷ []) ++ drop 3 t
three t a b c l p q r = front_read 3 t (a ∷ b ∷ c ∷ []) l (cc)
