-- An entry and its field, both ways, over the tag of any kind: an entry's field reads as that entry, and a field that was read is the field of its entry.
-- Assumes nothing.
use Prim.Native.Nat.{ℕ, ◌+◌, ◌-◌, ◌<◌, ◌≤◌, ◌^◌}
use mathlib.Core.Bool.{Bool, true, false}
use mathlib.Core.List.{List, ◌++◌}
use mathlib.Core.Path.{◌≡◌, refl, sym, ap, ◌∙◌}
use native.Mathlib.Omega.{arith}
use lib.ListN.{length, get_or, drop}
use lib.Dec.{eqb, leb, ltb}
use borrow.Author.Tests.{eq-eqb, le-ltb, le-leb, leb-true}
use Rattle.numbers.specs.Tags.{last_tag}
use Rattle.laws.specs.Choice.{pick, both}
use Rattle.laws.proofs.Choosing.{both_left, both_right}
use Rattle.config.specs.declared.Config.{Config}
use Rattle.config.specs.Editions.{has_field}
use Rattle.config.specs.Tables.{no_variable_conf}
use Rattle.wire.specs.Bytes.{length_of}
use Rattle.wire.proofs.Laws.{Bytes, be32-bytes, bytes32-be, front_read}
use Rattle.entries.specs.declared.Entry.{Entry}
use Rattle.entries.specs.Entries.{entry_of}
use Rattle.entries.specs.Faults.{in_range, is_time}
use Rattle.reading.specs.Reading.{size_of, size_in, runnable_read, variable_read, area_read, operation_read, timer_read, pair_read, entry_read, in_order, head_of}
use Rattle.reading.specs.declared.Head.TheVariants.{Field}
use Rattle.reading.proofs.Ahead.{size-there, Framed}
use Rattle.reading.proofs.Adding.{each-kind}
use Rattle.config.specs.Table.{part_in}
use Rattle.writing.specs.Writing.{runnable_bytes, variable_bytes, area_bytes, operation_bytes, timer_bytes, pair_bytes, entry_bytes}

-- ---- written, then read

-- an entry with 0 for each number that its kind has not, by the five tests on its tag
abbrev shape_by : (a b c d f : Bool) → Entry → Entry
shape_by a b c d f e =
    pick a e
    (pick b (record { first = e.first; second = e.second; third = 0; number = e.number })
    (pick c (record { first = e.first; second = 0; third = 0; number = 0 })
    (pick d e
    (pick f (record { first = e.first; second = 0; third = 0; number = e.number })
    (record { first = e.first; second = e.second; third = 0; number = 0 })))))

abbrev pub shape_of : ℕ → Entry → Entry
shape_of tag = shape_by (eqb tag 0x10) (eqb tag 0x11) (eqb tag 0x12) (eqb tag 0x16) (eqb tag 0x17)

abbrev bytes_by : (a b c d f : Bool) → ℕ → Entry → List ℕ
bytes_by a b c d f tag e = pick a (runnable_bytes e) (pick b (variable_bytes e) (pick c (area_bytes e) (pick d (operation_bytes e) (pick f (timer_bytes e) (pair_bytes tag e)))))

abbrev in_by : (a b c d f : Bool) → List ℕ → Entry
in_by a b c d f t = pick a (runnable_read t) (pick b (variable_read t) (pick c (area_read t) (pick d (operation_read t) (pick f (timer_read t) (pair_read t)))))

-- the field of an entry reads as the entry, whatever the tag
pub entry-back : (tag : ℕ) (e : Entry) (rest : List ℕ) → e.number < 2 ^ 32 → entry_read tag (entry_bytes tag e ++ rest) ≡ shape_of tag e
unfolding entry_read entry_bytes
entry-back tag e rest h = go (eqb tag 0x10) (eqb tag 0x11) (eqb tag 0x12) (eqb tag 0x16) (eqb tag 0x17)
  where
    go : (a b c d f : Bool) → in_by a b c d f (bytes_by a b c d f tag e ++ rest) ≡ shape_by a b c d f e
    go true b c d f = ap (λ (n : ℕ). record { first = e.first; second = e.second; third = e.third; number = n }) (be32-bytes e.number h)
    go false true c d f = ap (λ (n : ℕ). record { first = e.first; second = e.second; third = 0; number = n }) (be32-bytes e.number h)
    go false false true d f = refl
    go false false false true f = ap (λ (n : ℕ). record { first = e.first; second = e.second; third = e.third; number = n }) (be32-bytes e.number h)
    go false false false false true = ap (λ (n : ℕ). record { first = e.first; second = 0; third = 0; number = n }) (be32-bytes e.number h)
    go false false false false false = refl

-- the entry of a part has no number that its kind has not
pub part-shaped : (tag : ℕ) → 0x10 ≤ tag → tag ≤ last_tag → (cfg : Config) (i : ℕ) → shape_of tag (entry_of cfg tag i) ≡ entry_of cfg tag i
unfolding entry_of
part-shaped =
    each-kind (λ tag. (cfg : Config) (i : ℕ) → shape_of tag (entry_of cfg tag i) ≡ entry_of cfg tag i)
    (λ cfg i. refl) (λ cfg i. refl) (λ cfg i. refl) (λ cfg i. refl) (λ cfg i. refl) (λ cfg i. refl) (λ cfg i. refl) (λ cfg i. refl) (λ cfg i. refl) (λ cfg i. refl) (λ cfg i. refl) (λ cfg i. refl)

-- its number has 32 bits: a time is at most an hour, and the initial of a variable fits by its type
time-fits : (n : ℕ) → is_time n ≡ true → n < 2 ^ 32
time-fits n h = omega (arith, leb-true n 3600000 (both_right (ltb 0 n) (leb n 3600000) h))

interval-fits : (e : Entry) → in_range 0x10 e ≡ true → e.number < 2 ^ 32
unfolding in_range
interval-fits e h =
    let p = both_right (leb e.second 7) (both (leb e.number 3600000) (leb e.third 16)) (both_right (leb e.first 15) _ h) in
    omega (arith, leb-true e.number 3600000 (both_left (leb e.number 3600000) (leb e.third 16) p))

timeout-fits : (e : Entry) → in_range 0x16 e ≡ true → e.number < 2 ^ 32
unfolding in_range
timeout-fits e h = time-fits e.number (both_right (leb e.second 1) (is_time e.number) (both_right (leb e.first 15) _ h))

period-fits : (e : Entry) → in_range 0x17 e ≡ true → e.number < 2 ^ 32
unfolding in_range
period-fits e h = time-fits e.number h

pub part-fits : (cfg : Config) → ((i : ℕ) → (get_or cfg.variables.at i no_variable_conf).initial < 2 ^ 32)
    → (tag : ℕ) → 0x10 ≤ tag → tag ≤ last_tag → (i : ℕ) → in_range tag (entry_of cfg tag i) ≡ true → (entry_of cfg tag i).number < 2 ^ 32
unfolding entry_of part_in
part-fits cfg v =
    each-kind (λ tag. (i : ℕ) → in_range tag (entry_of cfg tag i) ≡ true → (entry_of cfg tag i).number < 2 ^ 32)
    (λ i h. interval-fits (entry_of cfg 0x10 i) h)
    (λ i h. v i)
    (λ i h. omega arith)
    (λ i h. omega arith)
    (λ i h. omega arith)
    (λ i h. omega arith)
    (λ i h. timeout-fits (entry_of cfg 0x16 i) h)
    (λ i h. period-fits (entry_of cfg 0x17 i) h)
    (λ i h. omega arith)
    (λ i h. omega arith)
    (λ i h. omega arith)
    (λ i h. omega arith)

-- the frame of a field leads to it
pub frame-head : (v : ℕ) (t : List ℕ) (last tag size : ℕ) → Framed v t last tag size → head_of v t last ≡ Field tag size
unfolding head_of
frame-head v t last tag size f =
    let l : ltb (length t) 3 ≡ false = le-ltb (length t) 3 (omega (arith, f.room)) in
    let s : eqb (length_of (get_or t 1 0) (get_or t 2 0)) (size_in v tag) ≡ true = eq-eqb (length_of (get_or t 1 0) (get_or t 2 0)) (size_in v tag) (f.said ∙ sym f.kind) in
    let r : leb (size_in v tag) (length t - 3) ≡ true = le-leb (size_in v tag) (length t - 3) (omega (arith, f.room, f.kind)) in
    rw (l, f.first, s, r, f.order, f.more) (ap (Field tag) f.kind)

-- an entry's field at the front: its tag, its length, and what is behind it
pub record Leads (tag : ℕ) (e : Entry) (rest : List ℕ) : Type 0 where
  pub room : 3 + size_of tag ≤ length (entry_bytes tag e ++ rest)
  pub first : get_or (entry_bytes tag e ++ rest) 0 0 ≡ tag
  pub said : length_of (get_or (entry_bytes tag e ++ rest) 1 0) (get_or (entry_bytes tag e ++ rest) 2 0) ≡ size_of tag
  pub more : eqb tag 0x7f ≡ false
  pub behind : drop (3 + size_of tag) (entry_bytes tag e ++ rest) ≡ rest

pub entry-leads : (tag : ℕ) → 0x10 ≤ tag → tag ≤ last_tag → (e : Entry) (rest : List ℕ) → Leads tag e rest
unfolding entry_bytes size_of
entry-leads =
    each-kind (λ tag. (e : Entry) (rest : List ℕ) → Leads tag e rest)
    (λ e rest. record { room = omega arith; first = refl; said = refl; more = refl; behind = refl })
    (λ e rest. record { room = omega arith; first = refl; said = refl; more = refl; behind = refl })
    (λ e rest. record { room = omega arith; first = refl; said = refl; more = refl; behind = refl })
    (λ e rest. record { room = omega arith; first = refl; said = refl; more = refl; behind = refl })
    (λ e rest. record { room = omega arith; first = refl; said = refl; more = refl; behind = refl })
    (λ e rest. record { room = omega arith; first = refl; said = refl; more = refl; behind = refl })
    (λ e rest. record { room = omega arith; first = refl; said = refl; more = refl; behind = refl })
    (λ e rest. record { room = omega arith; first = refl; said = refl; more = refl; behind = refl })
    (λ e rest. record { room = omega arith; first = refl; said = refl; more = refl; behind = refl })
    (λ e rest. record { room = omega arith; first = refl; said = refl; more = refl; behind = refl })
    (λ e rest. record { room = omega arith; first = refl; said = refl; more = refl; behind = refl })
    (λ e rest. record { room = omega arith; first = refl; said = refl; more = refl; behind = refl })

-- its frame, in an edition that has such fields (W-211)
pub leads-frame : (v tag : ℕ) (e : Entry) (rest : List ℕ) (last : ℕ) → Leads tag e rest → has_field v tag ≡ true → in_order last tag ≡ true → Framed v (entry_bytes tag e ++ rest) last tag (size_of tag)
leads-frame v tag e rest last l h o = record { room = l.room; first = l.first; said = l.said; kind = size-there v tag h; order = o; more = l.more }

-- ---- read, then written

module _ (t : List ℕ) (h : Bytes t) where
  -- the length that a frame says stands in its low byte
  low_byte : (size : ℕ) → size < 256 → length_of (get_or t 1 0) (get_or t 2 0) ≡ size → (get_or t 1 0 ≡ 0) × (get_or t 2 0 ≡ size)
  low_byte size l e = omega (arith, h 1, h 2)

  runnable-front : get_or t 0 0 ≡ 0x10 → length_of (get_or t 1 0) (get_or t 2 0) ≡ 7 → 10 ≤ length t → t ≡ runnable_bytes (runnable_read t) ++ drop 10 t
  runnable-front tag said room =
      let l = low_byte 7 (omega arith) said in
      let q = bytes32-be (runnable_read t).number (get_or t 5 0) (get_or t 6 0) (get_or t 7 0) (get_or t 8 0) refl (h 5) (h 6) (h 7) (h 8) in
      front_read 10 t (runnable_bytes (runnable_read t)) room (cc)

  variable-front : get_or t 0 0 ≡ 0x11 → length_of (get_or t 1 0) (get_or t 2 0) ≡ 6 → 9 ≤ length t → t ≡ variable_bytes (variable_read t) ++ drop 9 t
  variable-front tag said room =
      let l = low_byte 6 (omega arith) said in
      let q = bytes32-be (variable_read t).number (get_or t 5 0) (get_or t 6 0) (get_or t 7 0) (get_or t 8 0) refl (h 5) (h 6) (h 7) (h 8) in
      front_read 9 t (variable_bytes (variable_read t)) room (cc)

  area-front : get_or t 0 0 ≡ 0x12 → length_of (get_or t 1 0) (get_or t 2 0) ≡ 1 → 4 ≤ length t → t ≡ area_bytes (area_read t) ++ drop 4 t
  area-front tag said room =
      let l = low_byte 1 (omega arith) said in
      front_read 4 t (area_bytes (area_read t)) room (cc)

  operation-front : get_or t 0 0 ≡ 0x16 → length_of (get_or t 1 0) (get_or t 2 0) ≡ 7 → 10 ≤ length t → t ≡ operation_bytes (operation_read t) ++ drop 10 t
  operation-front tag said room =
      let l = low_byte 7 (omega arith) said in
      let q = bytes32-be (operation_read t).number (get_or t 6 0) (get_or t 7 0) (get_or t 8 0) (get_or t 9 0) refl (h 6) (h 7) (h 8) (h 9) in
      front_read 10 t (operation_bytes (operation_read t)) room (cc)

  timer-front : get_or t 0 0 ≡ 0x17 → length_of (get_or t 1 0) (get_or t 2 0) ≡ 5 → 8 ≤ length t → t ≡ timer_bytes (timer_read t) ++ drop 8 t
  timer-front tag said room =
      let l = low_byte 5 (omega arith) said in
      let q = bytes32-be (timer_read t).number (get_or t 4 0) (get_or t 5 0) (get_or t 6 0) (get_or t 7 0) refl (h 4) (h 5) (h 6) (h 7) in
      front_read 8 t (timer_bytes (timer_read t)) room (cc)

  pair-front : (tag : ℕ) → get_or t 0 0 ≡ tag → length_of (get_or t 1 0) (get_or t 2 0) ≡ 2 → 5 ≤ length t → t ≡ pair_bytes tag (pair_read t) ++ drop 5 t
  pair-front tag first said room =
      let l = low_byte 2 (omega arith) said in
      front_read 5 t (pair_bytes tag (pair_read t)) room (cc)

  -- a field that was read is the field of its entry
  pub entry-front : (tag : ℕ) → 0x10 ≤ tag → tag ≤ last_tag → get_or t 0 0 ≡ tag → length_of (get_or t 1 0) (get_or t 2 0) ≡ size_of tag → 3 + size_of tag ≤ length t
      → t ≡ entry_bytes tag (entry_read tag t) ++ drop (3 + size_of tag) t
  unfolding entry_read entry_bytes size_of
  entry-front =
      each-kind (λ tag. get_or t 0 0 ≡ tag → length_of (get_or t 1 0) (get_or t 2 0) ≡ size_of tag → 3 + size_of tag ≤ length t → t ≡ entry_bytes tag (entry_read tag t) ++ drop (3 + size_of tag) t)
      runnable-front variable-front area-front (pair-front 0x13) (pair-front 0x14) (pair-front 0x15) operation-front timer-front (pair-front 0x18) (pair-front 0x19) (pair-front 0x1a) (pair-front 0x1b)
