-- Written and read back, a sound configuration is the same.
-- Reading it places the parts one by one in their order, so that at any time a part of the configuration stands: the kinds below the one that is read, and its first parts.
-- The faults of the next part rest on what stands already, and the whole configuration has none.
-- Assumes nothing.
use Prim.Native.Nat.{ℕ, zero, suc, ◌+◌, ◌-◌, ◌<◌, ◌≤◌, ◌^◌}
use mathlib.Core.Bool.{Bool, true, false}
use mathlib.Core.List.{List, ◌++◌, append_assoc}
use mathlib.Core.Path.{◌≡◌, sym, ap, ap₂, subst, ◌∙◌}
use native.Mathlib.Nat.{not-suc-le-zero}
use native.Mathlib.Numerals.{add-one}
use native.Mathlib.Omega.{arith}
use lib.ListN.{length, get_or, take, drop, length-append, length-drop}
use lib.Seq.{take_at}
use lib.Dec.{leb, ltb}
use borrow.Author.Tests.{eq-eqb, ne_eqb, le-leb, le-ltb}
use Rattle.numbers.specs.Tags.{last_tag, part_kinds}
use Rattle.laws.specs.Choice.{pick}
use Rattle.laws.proofs.Choosing.{pick-on}
use Rattle.config.specs.declared.Config.{Config}
use Rattle.config.specs.Editions.{is_edition, has_field}
use Rattle.config.specs.Tables.{no_config, no_variable_conf}
use Rattle.wire.specs.Bytes.{end_bytes, put_at, wrote_to, build}
use Rattle.wire.specs.declared.Wrote.{Wrote}
use Rattle.wire.specs.declared.Wrote.TheVariants.{To, Refused as NotWritten}
use Rattle.entries.specs.declared.Entry.{Entry}
use Rattle.entries.specs.Entries.{max_of, count_of, entry_of, placed, with_edition}
use Rattle.entries.specs.Faults.{entry_fault, config_sound}
use Rattle.entries.proofs.Kind.{fault-told, edition-told, config-told}
use Rattle.reading.specs.Reading.{size_of, size_in, entry_read, in_order, head_of, body_fault, whole_of, refused_at, on_head, read_from, config_of}
use Rattle.reading.specs.declared.Head.{Head}
use Rattle.reading.specs.declared.Head.TheVariants.{Field}
use Rattle.reading.proofs.Adding.{Adds, adds, back_read}
use Rattle.reading.proofs.Kept.{fault-kept}
use Rattle.writing.specs.Writing.{entry_bytes, part_bytes, kind_bytes, block_of, parts_bytes, edition_bytes, text_of, config_to, config_written}
use Rattle.round_trips.specs.Trip.{write_and_read_of as read_back}
use Rattle.round_trips.proofs.EachEntry.{entry-back, part-shaped, part-fits, frame-head, entry-leads, leads-frame}
use Rattle.round_trips.proofs.Standing.{Stands, stands-start, stands-grow, stands-next, stands-all}

-- ---- reading goes on

-- reading u, where a part of cfg stands, gives cfg
Reads : Config → ℕ → ℕ → List ℕ → Type 0
Reads cfg tag i u = (fuel : ℕ) (p : Config) (last place : ℕ) → length u < fuel → Stands cfg p tag i → (last ≡ 0 → ⊥) → last ≤ tag → read_from fuel u p last place ≡ whole_of cfg

in-order : (last tag : ℕ) → (last ≡ 0 → ⊥) → last ≤ tag → (tag ≡ 0x01 → ⊥) → in_order last tag ≡ true
unfolding in_order
in-order last tag n l d = rw (ne_eqb last 0 n, le-leb last tag l, ne_eqb tag 0x01 d)

-- a turn of the reading at a field without fault
turn : (fuel : ℕ) (t : List ℕ) (p : Config) (last place tag size : ℕ) → head_of p.edition t last ≡ Field tag size → body_fault p tag t ≡ 0
    → read_from (suc fuel) t p last place ≡ read_from fuel (drop (3 + size) t) (placed p tag (entry_read tag t)) tag (place + 1)
unfolding read_from
turn fuel t p last place tag size e z =
    ap (λ (x : Head). on_head x t p place (λ (k m : ℕ). read_from fuel (drop (3 + m) t) (placed p k (entry_read k t)) k (place + 1))) e
    ∙ ap (λ (b : Bool). pick b (read_from fuel (drop (3 + size) t) (placed p tag (entry_read tag t)) tag (place + 1)) (refused_at place (body_fault p tag t))) (eq-eqb (body_fault p tag t) 0 z)

-- the edition comes first, and places no part
first : (e : ℕ) → is_edition e ≡ true → (rest : List ℕ) (fuel : ℕ) → read_from (suc fuel) (edition_bytes e ++ rest) no_config 0 1 ≡ read_from fuel rest (with_edition no_config e) 0x01 2
unfolding head_of size_of size_in has_field in_order body_fault placed entry_read
first e one rest fuel =
    let l : ltb (length (edition_bytes e ++ rest)) 3 ≡ false = le-ltb (length (edition_bytes e ++ rest)) 3 (omega arith) in
    let m : leb 1 (length (edition_bytes e ++ rest) - 3) ≡ true = le-leb 1 (length (edition_bytes e ++ rest) - 3) (omega arith) in
    turn fuel (edition_bytes e ++ rest) no_config 0 1 0x01 1 (rw (l, m)) (rw one)

module _ (cfg : Config) (s : config_sound cfg ≡ true) (v : (i : ℕ) → (get_or cfg.variables.at i no_variable_conf).initial < 2 ^ 32) where
  module _ (tag i : ℕ) (low : 0x10 ≤ tag) (high : tag ≤ last_tag) (l : i < count_of cfg tag) (p : Config) (f : Stands cfg p tag i) (u : List ℕ) where
    abbrev e : Entry
    e = entry_of cfg tag i

    abbrev t : List ℕ
    t = entry_bytes tag e ++ u

    no-fault : entry_fault cfg tag i e ≡ 0
    no-fault = (config-told cfg s tag low high).used i l

    reads-entry : entry_read tag t ≡ e
    reads-entry = entry-back tag e u (part-fits cfg v tag low high i (fault-told cfg tag i e no-fault).range) ∙ part-shaped tag low high cfg i

    -- the same fault is found with what stands
    found : entry_fault p tag (count_of p tag) (entry_read tag t) ≡ 0
    found =
        ap₂ (λ (n : ℕ) (x : Entry). entry_fault p tag n x) f.own reads-entry
        ∙ fault-kept cfg p tag f.counts f.lower i f.same f.edition e ∙ no-fault

    -- and the edition has such fields (W-211)
    there : has_field p.edition tag ≡ true
    there = (fault-told p tag (count_of p tag) (entry_read tag t) found).field

    body : body_fault p tag t ≡ 0
    unfolding body_fault
    body = rw (ne_eqb tag 0x01 (λ q. omega (arith, q, low))) found

    grows : Adds p (placed p tag (entry_read tag t)) tag e
    grows =
        let r = fault-told p tag (count_of p tag) (entry_read tag t) found in
        let b = back_read tag low high t r.range ∙ reads-entry in
        let m : count_of p tag < max_of tag = omega (arith, f.own, l, (config-told cfg s tag low high).room) in
        subst (Adds p (placed p tag (entry_read tag t)) tag) b (adds p (entry_read tag t) tag low high m (f.places tag low high))

  part-reads : (tag i : ℕ) → 0x10 ≤ tag → tag ≤ last_tag → i < count_of cfg tag → (u : List ℕ) → Reads cfg tag (i + 1) u → Reads cfg tag i (part_bytes cfg tag i ++ u)
  unfolding Reads part_bytes
  part-reads tag i low high l u rest zero p last place b f n up = absurd (not-suc-le-zero b)
  part-reads tag i low high l u rest (suc fuel) p last place b f n up =
      let lead = entry-leads tag low high (entry_of cfg tag i) u in
      let m : length u < fuel = omega (arith, b, lead.room, length-append (entry_bytes tag (entry_of cfg tag i)) u, ap length lead.behind, length-drop (3 + size_of tag) (entry_bytes tag (entry_of cfg tag i) ++ u)) in
      turn fuel (entry_bytes tag (entry_of cfg tag i) ++ u) p last place tag (size_of tag) (frame-head p.edition _ last tag (size_of tag) (leads-frame p.edition tag (entry_of cfg tag i) u last lead (there tag i low high l p f u) (in-order last tag n up (λ q. omega (arith, q, low))))) (body tag i low high l p f u)
      ∙ ap (λ (x : List ℕ). read_from fuel x (placed p tag (entry_read tag (entry_bytes tag (entry_of cfg tag i) ++ u))) tag (place + 1)) lead.behind
      ∙ rest fuel (placed p tag (entry_read tag (entry_bytes tag (entry_of cfg tag i) ++ u))) tag (place + 1) m
      (stands-grow cfg p (placed p tag (entry_read tag (entry_bytes tag (entry_of cfg tag i) ++ u))) tag i f (grows tag i low high l p f u))
      (λ q. omega (arith, q, low)) (omega arith)

  -- the first n parts of a kind
  parts-read : (tag n : ℕ) → 0x10 ≤ tag → tag ≤ last_tag → n ≤ count_of cfg tag → (u : List ℕ) → Reads cfg tag n u → Reads cfg tag 0 (build (part_bytes cfg tag) n ++ u)
  unfolding build
  parts-read tag zero low high l u rest = rest
  parts-read tag (suc n) low high l u rest =
      subst (Reads cfg tag 0) (sym (append_assoc (build (part_bytes cfg tag) n) (part_bytes cfg tag n) u))
      (parts-read tag n low high (omega arith) (part_bytes cfg tag n ++ u)
      (part-reads tag n low high (omega arith) u (subst (λ (k : ℕ). Reads cfg tag k u) (sym (add-one n)) rest)))

  -- a whole kind
  next-kind : (tag : ℕ) → 0x10 ≤ tag → tag ≤ last_tag → (u : List ℕ) → Reads cfg (tag + 1) 0 u → Reads cfg tag (count_of cfg tag) u
  unfolding Reads
  next-kind tag low high u rest fuel p last place b f n up = rest fuel p last place b (stands-next cfg p tag s low high f) n (omega arith)

  kind-reads : (tag : ℕ) → 0x10 ≤ tag → tag ≤ last_tag → (u : List ℕ) → Reads cfg (tag + 1) 0 u → Reads cfg tag 0 (kind_bytes cfg tag ++ u)
  unfolding kind_bytes
  kind-reads tag low high u rest = parts-read tag (count_of cfg tag) low high (omega arith) u (next-kind tag low high u rest)

  -- the first m kinds
  kinds-read : (m : ℕ) → m ≤ part_kinds → (u : List ℕ) → Reads cfg (0x10 + m) 0 u → Reads cfg 0x10 0 (build (block_of cfg) m ++ u)
  unfolding build block_of
  kinds-read zero l u rest = rest
  kinds-read (suc m) l u rest =
      subst (Reads cfg 0x10 0) (sym (append_assoc (build (λ (j : ℕ). kind_bytes cfg (0x10 + j)) m) (kind_bytes cfg (0x10 + m)) u))
      (kinds-read m (omega arith) (kind_bytes cfg (0x10 + m) ++ u)
      (kind-reads (0x10 + m) (omega arith) (omega arith) u (subst (λ (k : ℕ). Reads cfg k 0 u) (omega arith) rest)))

  -- the end
  end_reads : Reads cfg 0x1c 0 end_bytes
  unfolding Reads read_from head_of size_of size_in has_field
  end_reads zero p last place b f n up = absurd (not-suc-le-zero b)
  end_reads (suc fuel) p last place b f n up =
      let o = in-order last 0x7f n (omega arith) (λ q. omega (arith, q)) in
      rw o (ap whole_of (stands-all cfg p s f))

  -- the edition, and then all parts
  pub text-back : config_of (text_of cfg) ≡ whole_of cfg
  unfolding config_of text_of parts_bytes Reads
  text-back =
      let rest : List ℕ = build (block_of cfg) part_kinds ++ end_bytes in
      let r : (fuel : ℕ) (p : Config) (last place : ℕ) → length rest < fuel → Stands cfg p 0x10 0 → (last ≡ 0 → ⊥) → last ≤ 0x10 → read_from fuel rest p last place ≡ whole_of cfg =
      kinds-read part_kinds (omega arith) end_bytes end_reads in
      first cfg.edition (edition-told cfg s) rest (length (edition_bytes cfg.edition ++ rest))
      ∙ r (length (edition_bytes cfg.edition ++ rest)) (with_edition no_config cfg.edition) 0x01 2 (omega arith) (stands-start cfg) (λ q. omega (arith, q)) (omega arith)

-- ---- written and read back, from the contracts of the writer and the reader

module _ (b b' : List ℕ) (cfg : Config) (r : Wrote) (to : r ≡ config_to b cfg) (bytes : b' ≡ config_written b cfg) (n : ℕ) where
  -- the text stands first, and is sound
  record Written : Type 0 where
    sound : config_sound cfg ≡ true
    size : length (text_of cfg) ≡ n
    text : b' ≡ text_of cfg ++ drop (0 + length (text_of cfg)) b

  not-to : {k : ℕ} → NotWritten k ≡ To n → ⊥
  not-to e = let z : ◌≡◌ {A = ℕ} 0 1 = cc in omega arith

  written : r ≡ To n → Written
  written e =
      let p = pick-on (config_sound cfg) (wrote_to b 0 (length (text_of cfg))) (NotWritten 1) (To n) (sym to ∙ e) not-to in
      let q = pick-on (leb (0 + length (text_of cfg)) (length b)) (To (0 + length (text_of cfg))) (NotWritten 27) (To n) p.1 not-to in
      let m : 0 + length (text_of cfg) ≡ n = let z = q.1 in cc in
      record {
        sound = p.0;
        size = omega (arith, m);
        text = bytes ∙ ap₂ (λ (x y : Bool). pick x (pick y (put_at b 0 (text_of cfg)) b) b) p.0 q.0;
      }

  pub back-size : r ≡ To n → n ≤ length b'
  back-size e = let w = written e in omega (arith, w.size, ap length w.text ∙ length-append (text_of cfg) _)

  back-text : r ≡ To n → take n b' ≡ text_of cfg
  back-text e = let w = written e in ap (take n) w.text ∙ take_at (text_of cfg) _ n w.size

  pub back_whole : ((i : ℕ) → (get_or cfg.variables.at i no_variable_conf).initial < 2 ^ 32) → r ≡ To n → config_of (take n b') ≡ read_back (config_to b cfg) cfg
  back_whole v e = ap config_of (back-text e) ∙ text-back cfg (written e).sound v ∙ ap (λ (x : Wrote). read_back x cfg) (sym e ∙ to)

  pub back-refused : r ≡ NotWritten n → refused_at 0 n ≡ read_back (config_to b cfg) cfg
  back-refused e = ap (λ (x : Wrote). read_back x cfg) (sym e ∙ to)
