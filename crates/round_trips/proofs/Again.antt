-- Bytes that were read as a configuration are its text.
-- While a text is read, the text of what stands so far is what was read: no kind above the last tag has a part (`Sofar`), so the field of one part more comes last.
-- Assumes nothing.
use Prim.Native.Nat.{ℕ, zero, suc, ◌+◌, ◌-◌, ◌<◌, ◌≤◌}
use mathlib.Core.Bool.{Bool, true, false, not}
use mathlib.Core.List.{List, [], ◌++◌, append_assoc}
use mathlib.Core.Path.{◌≡◌, refl, sym, ap, ap₂, subst, ◌∙◌}
use native.Mathlib.Decide.{ℕ_discrete}
use native.Mathlib.Omega.{arith}
use lib.ListN.{length, get_or, drop, drop_of_length-le}
use lib.Seq.{get_or-drop}
use lib.Dec.{eqb, leb, ltb}
use borrow.Author.Tests.{eq-eqb, ne_eqb, eqb-true, leb-true, ltb-false}
use Rattle.numbers.specs.Tags.{part_kinds}
use Rattle.laws.specs.Choice.{pick, both}
use Rattle.laws.proofs.Choosing.{both_left, both_right, pick-on, pick-off, pick-has, clash}
use Rattle.config.specs.declared.Config.{Config}
use Rattle.config.specs.Editions.{has_field}
use Rattle.config.specs.Tables.{no_config}
use Rattle.wire.specs.Bytes.{end_bytes, length_of, wrote_to, wrote_bytes, build}
use Rattle.wire.specs.declared.Wrote.{Wrote}
use Rattle.wire.specs.declared.Wrote.TheVariants.{Refused as NotWritten}
use Rattle.wire.proofs.Laws.{Bytes, front_read, build-same}
use Rattle.entries.specs.Entries.{count_of, placed, with_edition}
use Rattle.entries.specs.Faults.{entry_fault}
use Rattle.entries.proofs.Kind.{fault-told}
use Rattle.entries.proofs.Editions.{edition-count}
use Rattle.entries.proofs.Listing.{room-tag, has-place}
use Rattle.reading.specs.Reading.{size_of, size_in, entry_read, in_order, head_of, body_fault, whole_of, refused_at, on_head, read_from, config_of}
use Rattle.reading.specs.declared.Outcome.{Outcome}
use Rattle.reading.specs.declared.Outcome.TheVariants.{Whole, Refused}
use Rattle.reading.specs.declared.Reading.{Reading}
use Rattle.reading.specs.declared.Head.{Head}
use Rattle.reading.specs.declared.Head.TheVariants.{Field, End, Bad}
use Rattle.reading.proofs.Ahead.{size-there, Framed, field-frame}
use Rattle.reading.proofs.Adding.{Adds, adds, back_read}
use Rattle.writing.specs.Writing.{entry_bytes, kind_bytes, block_of, parts_bytes, edition_bytes, text_of, config_to, config_written}
use Rattle.reading.proofs.Sound.{Sofar, sofar-starts, sofar-field, read-sound}
use Rattle.round_trips.specs.Trip.{rewrite_to, rewrite_written}
use Rattle.round_trips.proofs.Growing.{no_part, parts-grow}
use Rattle.round_trips.proofs.EachEntry.{entry-front}

-- ---- while reading

-- what was read: nothing yet, or the edition and the fields of the parts that stand
abbrev before : Config → ℕ → List ℕ
before cfg last = pick (eqb last 0) [] (edition_bytes cfg.edition ++ parts_bytes cfg)

-- nothing stands before the first field
no-parts : (cfg : Config) → ((k : ℕ) → 0x10 ≤ k → count_of cfg k ≡ 0) → parts_bytes cfg ≡ []
unfolding parts_bytes block_of build
no-parts cfg f =
    let z : (j : ℕ) → j < part_kinds → kind_bytes cfg (0x10 + j) ≡ [] = λ j l. no_part cfg (0x10 + j) (f (0x10 + j) (omega arith)) in
    build-same (λ (j : ℕ). kind_bytes cfg (0x10 + j)) (λ (j : ℕ). []) part_kinds z

-- what the order of tags says
order-first : (tag : ℕ) → in_order 0 tag ≡ true → tag ≡ 0x01
unfolding in_order
order-first tag h = eqb-true tag 0x01 h

order-later : (last tag : ℕ) → (last ≡ 0 → ⊥) → in_order last tag ≡ true → (last ≤ tag) × (tag ≡ 0x01 → ⊥)
unfolding in_order
order-later last tag n h =
    let g : both (leb last tag) (not (eqb tag 0x01)) ≡ true = rw (ne_eqb last 0 n) at h in
    (leb-true last tag (both_left (leb last tag) _ g), λ q. clash (not (eqb tag 0x01)) (both_right (leb last tag) (not (eqb tag 0x01)) g) (ap not (eq-eqb tag 0x01 q)))

module _ (t : List ℕ) (h : Bytes t) (cfg : Config) (last tag size : ℕ) (fr : Framed cfg.edition t last tag size) (f : Sofar cfg last) (fault : body_fault cfg tag t ≡ 0) where
  -- the field that was read, behind what was read before it
  record Step : Type 0 where
    sofar : Sofar (placed cfg tag (entry_read tag t)) tag
    text : before (placed cfg tag (entry_read tag t)) tag ++ drop (3 + size) t ≡ before cfg last ++ t

  edition-step : tag ≡ 0x01 → last ≡ 0 → Step
  unfolding placed size_of size_in has_field entry_read
  edition-step q z =
      let e : ℕ = get_or t 3 0 in
      let c : placed cfg tag (entry_read tag t) ≡ with_edition cfg e = rw q (refl {a = with_edition cfg e}) in
      let s : size ≡ 1 = sym fr.kind ∙ ap (size_in cfg.edition) q in
      let front : t ≡ edition_bytes e ++ drop 4 t = edition-front (fr.first ∙ q) (fr.said ∙ s) (omega (arith, fr.room, s)) in
      let b₁ : before (placed cfg tag (entry_read tag t)) tag ≡ edition_bytes e = ap₂ before c q ∙ ap (λ (x : List ℕ). edition_bytes e ++ x) (no-parts (with_edition cfg e) (λ k l. edition-count cfg e k ∙ f.above k (omega (arith, z, l)))) in
      record {
        sofar = sofar-field cfg last tag t f (omega (arith, z)) fault;
        text = ap₂ (λ (x : List ℕ) (k : ℕ). x ++ drop (3 + k) t) b₁ s ∙ sym front ∙ ap (λ (x : List ℕ). x ++ t) (sym (ap (before cfg) z));
      }
    where
      edition-front : get_or t 0 0 ≡ 0x01 → length_of (get_or t 1 0) (get_or t 2 0) ≡ 1 → 4 ≤ length t → t ≡ edition_bytes (get_or t 3 0) ++ drop 4 t
      edition-front first said room =
          let high : get_or t 1 0 ≡ 0 = omega (arith, h 1, h 2) in
          let low : get_or t 2 0 ≡ 1 = omega (arith, h 1, h 2) in
          front_read 4 t (edition_bytes (get_or t 3 0)) room (cc)

  part_step : (tag ≡ 0x01 → ⊥) → (last ≡ 0 → ⊥) → Step
  unfolding body_fault
  part_step n m =
      let w : entry_fault cfg tag (count_of cfg tag) (entry_read tag t) ≡ 0 = rw (ne_eqb tag 0x01 n) at fault in
      let r = fault-told cfg tag (count_of cfg tag) (entry_read tag t) w in
      let k = room-tag cfg tag (count_of cfg tag) (entry_read tag t) r.room in
      let more = has-place cfg (f.kinds 0x10 (omega arith) (omega arith)) tag (entry_read tag t) (f.kinds tag k.0 k.1) r in
      let kind : size_of tag ≡ size = sym (size-there cfg.edition tag r.field) ∙ fr.kind in
      let a : Adds cfg (placed cfg tag (entry_read tag t)) tag (entry_read tag t) =
      rw (back_read tag k.0 k.1 t r.range) at (adds cfg (entry_read tag t) tag k.0 k.1 more (f.kinds tag k.0 k.1).places) in
      let up = (order-later last tag m fr.order).0 in
      let grow : parts_bytes (placed cfg tag (entry_read tag t)) ≡ parts_bytes cfg ++ entry_bytes tag (entry_read tag t) =
      parts-grow cfg (placed cfg tag (entry_read tag t)) tag (entry_read tag t) a k.0 k.1 (λ j l b d. f.above j (omega arith)) in
      let front : t ≡ entry_bytes tag (entry_read tag t) ++ drop (3 + size_of tag) t = entry-front t h tag k.0 k.1 fr.first (fr.said ∙ sym kind) (omega (arith, fr.room, kind)) in
      let zt : eqb tag 0 ≡ false = ne_eqb tag 0 (λ q. omega (arith, q, k.0)) in
      let zl : eqb last 0 ≡ false = ne_eqb last 0 m in
      record {
        sofar = sofar-field cfg last tag t f up fault;
        text =
            ap₂ (λ (x : Bool) (e : ℕ). pick x [] (edition_bytes e ++ parts_bytes (placed cfg tag (entry_read tag t))) ++ drop (3 + size) t) zt a.edition
            ∙ ap₂ (λ (x : List ℕ) (j : ℕ). (edition_bytes cfg.edition ++ x) ++ drop (3 + j) t) grow (sym kind)
            ∙ regroup (edition_bytes cfg.edition) (parts_bytes cfg) (entry_bytes tag (entry_read tag t)) (drop (3 + size_of tag) t)
            ∙ ap (λ (x : List ℕ). (edition_bytes cfg.edition ++ parts_bytes cfg) ++ x) (sym front)
            ∙ ap (λ (x : Bool). pick x [] (edition_bytes cfg.edition ++ parts_bytes cfg) ++ t) (sym zl);
      }
    where
      regroup : (a b c d : List ℕ) → (a ++ (b ++ c)) ++ d ≡ (a ++ b) ++ (c ++ d)
      regroup a b c d = simp append_assoc

  one-step : Step
  one-step = go (ℕ_discrete last 0)
    where
      go : Dec (last ≡ 0) → Step
      go (yes z) = edition-step (order-first tag (subst (λ (x : ℕ). in_order x tag ≡ true) z fr.order)) z
      go (no m) = part_step (order-later last tag m fr.order).1 m

-- ---- the end

-- the end field, in its order
record Ended (t : List ℕ) (last : ℕ) : Type 0 where
  room : 3 ≤ length t
  tag : get_or t 0 0 ≡ 0x7f
  said : length_of (get_or t 1 0) (get_or t 2 0) ≡ 0
  later : last ≡ 0 → ⊥

no_end : {A : Type 0} {number : ℕ} → Bad number ≡ End → A
no_end e = let z : ◌≡◌ {A = ℕ} 0 1 = cc in absurd (omega arith)

end_frame : (v : ℕ) (t : List ℕ) (last : ℕ) → head_of v t last ≡ End → Ended t last
unfolding head_of size_of size_in has_field
end_frame v t last e =
    let p₀ = pick-off (ltb (length t) 3) _ _ End e no_end in
    let p₁ = pick-on (eqb (length_of (get_or t 1 0) (get_or t 2 0)) (size_in v (get_or t 0 0))) _ _ End p₀.1 no_end in
    let p₂ = pick-on (leb (size_in v (get_or t 0 0)) (length t - 3)) _ _ End p₁.1 no_end in
    let p₃ = pick-on (in_order last (get_or t 0 0)) _ _ End p₂.1 no_end in
    let p₄ = pick-on (eqb (get_or t 0 0) 0x7f) _ _ End p₃.1 field-no-end in
    let q = eqb-true (get_or t 0 0) 0x7f p₄.0 in
    record {
      room = ltb-false (length t) 3 p₀.0;
      tag = q;
      said = eqb-true _ _ p₁.0 ∙ ap (size_in v) q;
      later = λ z. let o = order-first (get_or t 0 0) (subst (λ (x : ℕ). in_order x (get_or t 0 0) ≡ true) z p₃.0) in omega (arith, q, o);
    }
  where
    field-no-end : {tag size : ℕ} → Field tag size ≡ End → ⊥
    field-no-end g = let z : ◌≡◌ {A = ℕ} 0 1 = cc in omega arith

end-text : (t : List ℕ) (cfg : Config) (last : ℕ) → head_of cfg.edition t last ≡ End → length t ≡ 3 → text_of cfg ≡ before cfg last ++ t
unfolding text_of
end-text t cfg last e l =
    let f = end_frame cfg.edition t last e in
    let tag = f.tag in
    let high : get_or t 1 0 ≡ 0 = omega (arith, f.said) in
    let low : get_or t 2 0 ≡ 0 = omega (arith, f.said) in
    let d : drop 3 t ≡ [] = drop_of_length-le t {i = 3} (omega arith) in
    let w : t ≡ end_bytes = front_read 3 t end_bytes (omega arith) (cc) ∙ ap (λ (x : List ℕ). end_bytes ++ x) d in
    ap (λ (x : List ℕ). (edition_bytes cfg.edition ++ parts_bytes cfg) ++ x) (sym w) ∙ ap (λ (x : Bool). pick x [] (edition_bytes cfg.edition ++ parts_bytes cfg) ++ t) (sym (ne_eqb last 0 f.later))

-- ---- the whole text

-- a whole reading gives the configuration whose text this is
abbrev IsTextOf : List ℕ → Reading → Type 0
IsTextOf s r = r.outcome ≡ Whole → text_of r.config ≡ s

not-whole : (s : List ℕ) (number place : ℕ) → IsTextOf s (refused_at place number)
unfolding refused_at
not-whole s number place q = let z : ◌≡◌ {A = ℕ} 0 1 = cc in absurd (omega arith)

again-from : (fuel : ℕ) (t : List ℕ) (cfg : Config) (last place : ℕ) → Bytes t → Sofar cfg last → IsTextOf (before cfg last ++ t) (read_from fuel t cfg last place)
unfolding read_from
again-from zero t cfg last place h f = not-whole (before cfg last ++ t) 21 place
again-from (suc fuel) t cfg last place h f =
    go (λ tag size g. again-from fuel (drop (3 + size) t) (placed cfg tag (entry_read tag t)) tag (place + 1) (λ i. rw get_or-drop (h (3 + size + i))) g) (head_of cfg.edition t last) refl
  where
    next : ℕ → ℕ → Reading
    next tag size = read_from fuel (drop (3 + size) t) (placed cfg tag (entry_read tag t)) tag (place + 1)

    go : ((tag size : ℕ) → Sofar (placed cfg tag (entry_read tag t)) tag → IsTextOf (before (placed cfg tag (entry_read tag t)) tag ++ drop (3 + size) t) (next tag size))
        → (x : Head) → head_of cfg.edition t last ≡ x → IsTextOf (before cfg last ++ t) (on_head x t cfg place next)
    go rest (Bad number) e = not-whole (before cfg last ++ t) number place
    go rest End e =
        pick-has (IsTextOf (before cfg last ++ t)) (eqb (length t) 3) (whole_of cfg) (refused_at (place + 1) 21)
        (λ l q. end-text t cfg last e (eqb-true (length t) 3 l)) (λ l. not-whole (before cfg last ++ t) 21 (place + 1))
    go rest (Field tag size) e =
        pick-has (IsTextOf (before cfg last ++ t)) (eqb (body_fault cfg tag t) 0) (next tag size) (refused_at place (body_fault cfg tag t))
        (λ z q. let s = one-step t h cfg last tag size (field-frame cfg.edition t last e) f (eqb-true (body_fault cfg tag t) 0 z) in rest tag size s.sofar q ∙ s.text)
        (λ z. not-whole (before cfg last ++ t) (body_fault cfg tag t) place)

-- bytes that are read as a configuration are its text
pub text-again : (s : List ℕ) → Bytes s → (config_of s).outcome ≡ Whole → text_of (config_of s).config ≡ s
unfolding config_of
text-again s h q = again-from (suc (length s)) s no_config 0 1 h sofar-starts q

-- ---- read and written again, from the contracts of the reader and the writer

module _ (s b : List ℕ) (x : Reading) (q : x ≡ config_of s) where
  pub again-whole : Bytes s → x.outcome ≡ Whole → (r : Wrote) (b' : List ℕ) → r ≡ config_to b x.config → b' ≡ config_written b x.config
      → (r ≡ rewrite_to (config_of s).outcome s b) × (b' ≡ rewrite_written (config_of s).outcome s b)
  again-whole h w r b' e f =
      let o : (config_of s).outcome ≡ Whole = ap (λ (y : Reading). y.outcome) (sym q) ∙ w in
      let sound = read-sound s o in
      let text = text-again s h o in (
        e ∙ ap (λ (y : Reading). config_to b y.config) q
            ∙ ap (λ (y : Bool). pick y (wrote_to b 0 (length (text_of (config_of s).config))) (NotWritten 1)) sound
            ∙ ap (λ (y : List ℕ). wrote_to b 0 (length y)) text
            ∙ ap (λ (y : Outcome). rewrite_to y s b) (sym o),
        f ∙ ap (λ (y : Reading). config_written b y.config) q
            ∙ ap (λ (y : Bool). pick y (wrote_bytes b 0 (text_of (config_of s).config)) b) sound
            ∙ ap (λ (y : List ℕ). wrote_bytes b 0 y) text
            ∙ ap (λ (y : Outcome). rewrite_written y s b) (sym o),
      )

  pub again-refused : (n p : ℕ) → x.outcome ≡ Refused p n → (NotWritten n ≡ rewrite_to (config_of s).outcome s b) × (b ≡ rewrite_written (config_of s).outcome s b)
  again-refused n p w =
      let o : Refused p n ≡ (config_of s).outcome = sym w ∙ ap (λ (y : Reading). y.outcome) q in
      (ap (λ (y : Outcome). rewrite_to y s b) o, ap (λ (y : Outcome). rewrite_written y s b) o)
