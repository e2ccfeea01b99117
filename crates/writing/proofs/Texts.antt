-- The text of a configuration: how long it is, and how it is put into a buffer field by field.
-- Assumes nothing.
use Prim.Native.Nat.{ℕ, ◌+◌, ◌<◌, ◌≤◌}
use mathlib.Core.Bool.{Bool, true, false}
use mathlib.Core.List.{List, [], ◌++◌}
use mathlib.Core.Path.{◌≡◌, refl, sym, ap, subst, ◌∙◌}
use native.Mathlib.Omega.{arith}
use lib.ListN.{length, length-append}
use lib.Dec.{leb, eqb}
use borrow.Author.Tests.{le-leb, leb-true, leb-false}
use Rattle.numbers.specs.Tags.{part_kinds}
use Rattle.laws.specs.Choice.{pick}
use Rattle.laws.proofs.Looping.{sum_same}
use Rattle.config.specs.declared.Config.{Config}
use Rattle.wire.specs.Bytes.{end_bytes, wrote_to, wrote_bytes, Written}
use Rattle.wire.specs.declared.Wrote.{Wrote}
use Rattle.wire.specs.declared.Wrote.TheVariants.{To, Refused}
use Rattle.entries.specs.declared.Entry.{Entry}
use Rattle.entries.specs.Entries.{count_of, entry_of}
use Rattle.entries.specs.Faults.{config_sound}
use Rattle.writing.specs.Writing.{runnable_bytes, variable_bytes, area_bytes, operation_bytes, timer_bytes, pair_bytes, entry_bytes, field_size, part_bytes, kind_bytes, kind_size, edition_bytes, parts_bytes, parts_size, block_of, text_of, config_to, config_written}
use Rattle.wire.proofs.Pieces.{Put, put-none, put_same, put-more, put_written, short-written, build-sum, build-size}

-- ---- the length of a text

pub field-size : (tag : ℕ) (e : Entry) → length (entry_bytes tag e) ≡ field_size tag
unfolding entry_bytes field_size
field-size tag e = go (eqb tag 0x10) (eqb tag 0x11) (eqb tag 0x12) (eqb tag 0x16) (eqb tag 0x17)
  where
    go : (a b c d f : Bool)
        → length (pick a (runnable_bytes e) (pick b (variable_bytes e) (pick c (area_bytes e) (pick d (operation_bytes e) (pick f (timer_bytes e) (pair_bytes tag e))))))
        ≡ pick a 10 (pick b 9 (pick c 4 (pick d 10 (pick f 8 5))))
    go true b c d f = refl
    go false true c d f = refl
    go false false true d f = refl
    go false false false true f = refl
    go false false false false true = refl
    go false false false false false = refl

-- the field of a part, and what writing its entry comes to
pub part-size : (cfg : Config) (tag i : ℕ) → length (part_bytes cfg tag i) ≡ field_size tag
unfolding part_bytes
part-size cfg tag i = field-size tag (entry_of cfg tag i)

pub part-written : (cfg : Config) (tag i : ℕ) (e : Entry) → e ≡ entry_of cfg tag i → (b : List ℕ) (o : ℕ) (r : Wrote) (b' : List ℕ) → Written b o (entry_bytes tag e) r b' → Written b o (part_bytes cfg tag i) r b'
unfolding part_bytes
part-written cfg tag i e q b o r b' w = subst (λ (x : Entry). Written b o (entry_bytes tag x) r b') q w

pub kind-size : (cfg : Config) (tag : ℕ) → length (kind_bytes cfg tag) ≡ kind_size cfg tag
unfolding kind_bytes kind_size
kind-size cfg tag = build-size (part_bytes cfg tag) (field_size tag) (count_of cfg tag) (part-size cfg tag)

pub block_size : (cfg : Config) (j : ℕ) → length (block_of cfg j) ≡ kind_size cfg (0x10 + j)
unfolding block_of
block_size cfg j = kind-size cfg (0x10 + j)

pub parts-size : (cfg : Config) → length (parts_bytes cfg) ≡ parts_size cfg
unfolding parts_bytes parts_size
parts-size cfg =
    build-sum (block_of cfg) part_kinds ∙ sum_same (λ (j : ℕ). length (block_of cfg j)) (λ (j : ℕ). kind_size cfg (0x10 + j)) part_kinds (λ j l. block_size cfg j)

pub text-size : (cfg : Config) → length (text_of cfg) ≡ parts_size cfg + 7
unfolding text_of
text-size cfg = omega (arith, parts-size cfg, length-append (edition_bytes cfg.edition ++ parts_bytes cfg) end_bytes, length-append (edition_bytes cfg.edition) (parts_bytes cfg))

-- ---- whether a run of pieces fits, as the code tests it

module _ (b xs : List ℕ) (at k : ℕ) (size : length xs ≡ k) where
  pub run_short : leb (at + k) (length b) ≡ false → Written b at xs (Refused 27) b
  run_short h = short-written b xs at (omega (arith, size, leb-false (at + k) (length b) h))

  pub run_room : leb (at + k) (length b) ≡ true → at + length xs ≤ length b
  run_room h = omega (arith, size, leb-true (at + k) (length b) h)

-- ---- edition, parts and end

module _ (cfg : Config) (b b₁ b₂ b₃ : List ℕ) (r₁ r₂ r : Wrote) (k : ℕ) (size : k ≡ parts_size cfg) (room : k + 7 ≤ length b)
    (w₁ : Written b 0 (edition_bytes cfg.edition) r₁ b₁) (w₂ : Written b₁ 4 (parts_bytes cfg) r₂ b₂) (w₃ : Written b₂ (k + 4) end_bytes r b₃) (sound : config_sound cfg ≡ true) where
  first : Put b 0 (edition_bytes cfg.edition) 4 b₁
  first = put-more b b [] 0 0 (put-none b 0) (omega arith) b₁ (edition_bytes cfg.edition) 4 (omega arith) w₁.bytes refl

  second : Put b 0 (edition_bytes cfg.edition ++ parts_bytes cfg) (k + 4) b₂
  second =
      let l = parts-size cfg in
      put-more b b₁ (edition_bytes cfg.edition) 0 4 first (omega arith) b₂ (parts_bytes cfg) (k + 4) (omega (arith, length-append (edition_bytes cfg.edition) (parts_bytes cfg))) w₂.bytes (omega arith)

  fitted : 0 + length (edition_bytes cfg.edition ++ parts_bytes cfg) + 3 ≤ length b
  fitted = omega (arith, parts-size cfg, length-append (edition_bytes cfg.edition) (parts_bytes cfg))

  third : Put b 0 (text_of cfg) (k + 7) b₃
  unfolding text_of
  third =
      let f = fitted in
      put-more b b₂ (edition_bytes cfg.edition ++ parts_bytes cfg) 0 (k + 4) second (omega arith) b₃ end_bytes (k + 7) (omega (arith, length-append (edition_bytes cfg.edition ++ parts_bytes cfg) end_bytes)) w₃.bytes (omega arith)

  ended : r ≡ To (k + 7)
  ended =
      let s = put_same b b₂ (edition_bytes cfg.edition ++ parts_bytes cfg) 0 (k + 4) second (omega (arith, fitted)) in
      let t : leb (k + 4 + 3) (length b₂) ≡ true = le-leb (k + 4 + 3) (length b₂) (omega arith) in
      let e : k + 4 + 3 ≡ k + 7 = omega arith in
      w₃.answer ∙ ap (λ (x : Bool). pick x (To (k + 4 + 3)) (Refused 27)) t ∙ ap To e

  pub all-written : (r ≡ config_to b cfg) × (b₃ ≡ config_written b cfg)
  all-written =
      let v = put_written b b₃ (text_of cfg) 0 (k + 7) third (omega (arith, text-size cfg)) in (
        ended ∙ v.answer ∙ ap (λ (x : Bool). pick x (wrote_to b 0 (length (text_of cfg))) (Refused 1)) (sym sound),
        v.bytes ∙ ap (λ (x : Bool). pick x (wrote_bytes b 0 (text_of cfg)) b) (sym sound),
      )

-- ---- refused

pub config-short : (cfg : Config) (b : List ℕ) → config_sound cfg ≡ true → length b < parts_size cfg + 7 → (Refused 27 ≡ config_to b cfg) × (b ≡ config_written b cfg)
config-short cfg b s h =
    let v = short-written b (text_of cfg) 0 (omega (arith, text-size cfg)) in (
      v.answer ∙ ap (λ (x : Bool). pick x (wrote_to b 0 (length (text_of cfg))) (Refused 1)) (sym s),
      v.bytes ∙ ap (λ (x : Bool). pick x (wrote_bytes b 0 (text_of cfg)) b) (sym s),
    )

pub config-unsound : (cfg : Config) (b : List ℕ) → config_sound cfg ≡ false → (Refused 1 ≡ config_to b cfg) × (b ≡ config_written b cfg)
config-unsound cfg b s = (rw s, rw s)
