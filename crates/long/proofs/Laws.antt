-- What is held of a part is its last 16 bytes, moved to the front.
-- Assumes nothing.
use Prim.Native.Nat.{ℕ, ◌+◌, ◌<◌}
use mathlib.Core.List.{List, ◌++◌}
use mathlib.Core.Path.{◌≡◌, sym, ap, ◌∙◌}
use native.Mathlib.Numerals.{add-one}
use native.Mathlib.Omega.{arith}
use lib.ListN.{length, take, drop, get_or, set, length-drop}
use lib.Seq.{paste, paste-suc, length_paste_head, get_or-append-add, get_or-drop}
use Rattle.numbers.specs.Tags.{step_size}

-- a byte that is still to be moved stands where it stood
held-byte : (b : List ℕ) (i : ℕ) → length b ≡ 65536 → i < step_size → get_or (paste b 0 (drop 65520 b) i) (65520 + i) 0 ≡ get_or (drop 65520 b) i 0
held-byte b i l h =
    let m = length-drop 65520 b in
    let n = length_paste_head b 0 (drop 65520 b) i (omega arith) (omega arith) in
    let e : 65520 + i ≡ length (take 0 b ++ take i (drop 65520 b)) + 65520 = omega arith in
    let f : 0 + i + 65520 ≡ 65520 + i = omega arith in
    ap (λ (k : ℕ). get_or (paste b 0 (drop 65520 b) i) k 0) e
    ∙ get_or-append-add (take 0 b ++ take i (drop 65520 b)) (drop (0 + i) b) 65520 0
    ∙ get_or-drop (0 + i) b 65520 0 ∙ ap (λ (k : ℕ). get_or b k 0) f ∙ sym (get_or-drop 65520 b i 0)

-- one byte more
pub held_more : (b₀ b : List ℕ) (i : ℕ) → length b₀ ≡ 65536 → i < step_size → b ≡ paste b₀ 0 (drop 65520 b₀) i → set b i (get_or b (65520 + i) 0) ≡ paste b₀ 0 (drop 65520 b₀) (i + 1)
held_more b₀ b i l h e =
    let m = length-drop 65520 b₀ in
    let z : i ≡ 0 + i = omega arith in
    ap (λ (x : List ℕ). set x i (get_or x (65520 + i) 0)) e
    ∙ ap (set (paste b₀ 0 (drop 65520 b₀) i) i) (held-byte b₀ i l h)
    ∙ ap (λ (k : ℕ). set (paste b₀ 0 (drop 65520 b₀) i) k (get_or (drop 65520 b₀) i 0)) z
    ∙ paste-suc b₀ 0 (drop 65520 b₀) i 0 (omega arith) (omega arith)
    ∙ ap (paste b₀ 0 (drop 65520 b₀)) (sym (add-one i))
