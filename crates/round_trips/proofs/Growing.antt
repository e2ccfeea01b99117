-- One part more of the last kind that has any: its field comes last in the text of the parts.
-- Assumes nothing.
use Prim.Native.Nat.{ℕ, zero, suc, ◌+◌, ◌-◌, ◌<◌, ◌≤◌}
use mathlib.Core.List.{List, [], ◌++◌, append_assoc, append-nil}
use mathlib.Core.Path.{◌≡◌, sym, ap, ap₂, subst, ◌∙◌}
use native.Mathlib.Decide.{ℕ_discrete}
use native.Mathlib.Nat.{not-suc-le-zero}
use native.Mathlib.Omega.{arith}
use Rattle.numbers.specs.Tags.{last_tag, part_kinds}
use Rattle.config.specs.declared.Config.{Config}
use Rattle.wire.specs.Bytes.{build}
use Rattle.wire.proofs.Laws.{build-same}
use Rattle.entries.specs.declared.Entry.{Entry}
use Rattle.entries.specs.Entries.{count_of, entry_of}
use Rattle.reading.proofs.Adding.{Adds}
use Rattle.writing.specs.Writing.{entry_bytes, part_bytes, kind_bytes, block_of, parts_bytes}
use Rattle.wire.proofs.Pieces.{build-one}

-- ---- one part more: its field comes last

-- one piece grows, and those behind it are empty
build-grow : (f g : ℕ → List ℕ) (x : List ℕ) (m n : ℕ) → m < n → ((k : ℕ) → (k ≡ m → ⊥) → g k ≡ f k) → g m ≡ f m ++ x → ((k : ℕ) → m < k → k < n → f k ≡ [])
    → build g n ≡ build f n ++ x
unfolding build
build-grow f g x m zero l same own none = absurd (not-suc-le-zero l)
build-grow f g x m (suc n) l same own none = go (ℕ_discrete n m) (λ h. build-grow f g x m n h same own (λ k a b. none k a (omega arith)))
  where
    go : Dec (n ≡ m) → (m < n → build g n ≡ build f n ++ x) → build g n ++ g n ≡ (build f n ++ f n) ++ x
    go (yes q) rest =
        ap₂ (λ (u v : List ℕ). u ++ v) (build-same g f n (λ k b. same k (λ e. omega (arith, e, b, q)))) (subst (λ (k : ℕ). g k ≡ f k ++ x) (sym q) own)
        ∙ sym (append_assoc (build f n) (f n) x)
    go (no d) rest =
        let z : f n ≡ [] = none n (omega (arith, d)) (omega arith) in
        let y : g n ≡ [] = same n d ∙ z in
        ap₂ (λ (u v : List ℕ). u ++ v) (rest (omega (arith, d))) y ∙ append-nil (build f n ++ x)
        ∙ ap (λ (u : List ℕ). u ++ x) (sym (ap (λ (v : List ℕ). build f n ++ v) z ∙ append-nil (build f n)))

module _ (cfg cfg' : Config) (tag : ℕ) (e : Entry) (a : Adds cfg cfg' tag e) where
  other-kind : (k : ℕ) → (k ≡ tag → ⊥) → kind_bytes cfg' k ≡ kind_bytes cfg k
  unfolding kind_bytes part_bytes
  other-kind k n =
      ap (build (λ (i : ℕ). entry_bytes k (entry_of cfg' k i))) (a.counts k n)
      ∙ build-same (λ (i : ℕ). entry_bytes k (entry_of cfg' k i)) (λ (i : ℕ). entry_bytes k (entry_of cfg k i)) (count_of cfg k) (λ i b. ap (entry_bytes k) (a.others k i n))

  own-kind : kind_bytes cfg' tag ≡ kind_bytes cfg tag ++ entry_bytes tag e
  unfolding kind_bytes part_bytes
  own-kind =
      ap (build (λ (i : ℕ). entry_bytes tag (entry_of cfg' tag i))) a.own
      ∙ build-one (λ (i : ℕ). entry_bytes tag (entry_of cfg' tag i)) (count_of cfg tag)
      ∙ ap₂ (λ (u v : List ℕ). u ++ v)
      (build-same (λ (i : ℕ). entry_bytes tag (entry_of cfg' tag i)) (λ (i : ℕ). entry_bytes tag (entry_of cfg tag i)) (count_of cfg tag) (λ i b. ap (entry_bytes tag) (a.earlier i (λ q. omega (arith, q, b)))))
      (ap (entry_bytes tag) a.entry)

-- a kind without a part has no field
pub no_part : (cfg : Config) (k : ℕ) → count_of cfg k ≡ 0 → kind_bytes cfg k ≡ []
unfolding kind_bytes build
no_part cfg k z = ap (build (part_bytes cfg k)) z

pub parts-grow : (cfg cfg' : Config) (tag : ℕ) (e : Entry) → Adds cfg cfg' tag e → 0x10 ≤ tag → tag ≤ last_tag → ((k : ℕ) → 0x10 ≤ k → k ≤ last_tag → tag < k → count_of cfg k ≡ 0)
    → parts_bytes cfg' ≡ parts_bytes cfg ++ entry_bytes tag e
unfolding parts_bytes block_of
parts-grow cfg cfg' tag e a low high none =
    let q : 0x10 + (tag - 0x10) ≡ tag = omega arith in
    build-grow (λ (j : ℕ). kind_bytes cfg (0x10 + j)) (λ (j : ℕ). kind_bytes cfg' (0x10 + j)) (entry_bytes tag e) (tag - 0x10) part_kinds (omega arith)
    (λ j n. other-kind cfg cfg' tag e a (0x10 + j) (λ z. n (omega (arith, z))))
    (subst (λ (k : ℕ). kind_bytes cfg' k ≡ kind_bytes cfg k ++ entry_bytes tag e) (sym q) (own-kind cfg cfg' tag e a))
    (λ j l b. no_part cfg (0x10 + j) (none (0x10 + j) (omega arith) (omega arith) (omega arith)))
