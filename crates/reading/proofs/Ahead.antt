-- What a field's frame tells, and what a turn of the reading does to what is left of it.
-- Assumes nothing.
use Prim.Native.Nat.{ℕ, suc, ◌+◌, ◌-◌, ◌≤◌}
use mathlib.Core.Path.{◌≡◌, sym, ap, ◌∙◌}
use mathlib.Core.Bool.{true, false}
use mathlib.Core.List.{List}
use native.Mathlib.Omega.{arith}
use lib.ListN.{length, get_or, drop, length-drop}
use lib.Dec.{ltb, leb, eqb}
use borrow.Author.Tests.{eqb-true, leb-true, ltb-false, eq-eqb, ne_eqb}
use Rattle.laws.proofs.Choosing.{pick-on, pick-off}
use Rattle.config.specs.declared.Config.{Config}
use Rattle.config.specs.Editions.{has_field}
use Rattle.config.specs.Tables.{no_config}
use Rattle.entries.specs.Entries.{placed}
use Rattle.wire.specs.Bytes.{length_of}
use Rattle.reading.specs.Reading.{size_of, size_in, in_order, head_of, entry_read, body_fault, whole_of, refused_at, on_head, read_from, config_of}
use Rattle.reading.specs.declared.Reading.{Reading}
use Rattle.reading.specs.declared.Head.{Head}
use Rattle.reading.specs.declared.Head.TheVariants.{Field, End, Bad}

-- ---- a field's frame

module _ (tag size : ℕ) where
  bad-no-field : {number : ℕ} → Bad number ≡ Field tag size → ⊥
  bad-no-field e = let z : ◌≡◌ {A = ℕ} 0 1 = cc in omega arith

  end-no-field : End ≡ Field tag size → ⊥
  end-no-field e = let z : ◌≡◌ {A = ℕ} 0 1 = cc in omega arith

-- a field that the edition has is as long as its tag says (W-211)
pub size-there : (v tag : ℕ) → has_field v tag ≡ true → size_in v tag ≡ size_of tag
unfolding size_in
size-there v tag h = rw h

-- the front of t is a field of this tag and length, whole and in its order, in the edition v
pub record Framed (v : ℕ) (t : List ℕ) (last tag size : ℕ) : Type 0 where
  pub room : 3 + size ≤ length t
  pub first : get_or t 0 0 ≡ tag
  pub said : length_of (get_or t 1 0) (get_or t 2 0) ≡ size
  pub kind : size_in v tag ≡ size
  pub order : in_order last tag ≡ true
  pub more : eqb tag 0x7f ≡ false

pub field-frame : (v : ℕ) (t : List ℕ) (last : ℕ) {tag size : ℕ} → head_of v t last ≡ Field tag size → Framed v t last tag size
unfolding head_of
field-frame v t last {tag} {size} e =
    let p₀ = pick-off (ltb (length t) 3) _ _ _ e (bad-no-field tag size) in
    let p₁ = pick-on (eqb (length_of (get_or t 1 0) (get_or t 2 0)) (size_in v (get_or t 0 0))) _ _ _ p₀.1 (bad-no-field tag size) in
    let p₂ = pick-on (leb (size_in v (get_or t 0 0)) (length t - 3)) _ _ _ p₁.1 (bad-no-field tag size) in
    let p₃ = pick-on (in_order last (get_or t 0 0)) _ _ _ p₂.1 (bad-no-field tag size) in
    let p₄ = pick-off (eqb (get_or t 0 0) 0x7f) _ _ _ p₃.1 (end-no-field tag size) in
    let l₀ = ltb-false (length t) 3 p₀.0 in
    let l₂ = leb-true (size_in v (get_or t 0 0)) (length t - 3) p₂.0 in
    let f = p₄.1 in
    let a : get_or t 0 0 ≡ tag = cc in
    let b : size_in v (get_or t 0 0) ≡ size = cc in
    record {
      room = omega arith;
      first = a;
      said = eqb-true (length_of (get_or t 1 0) (get_or t 2 0)) (size_in v (get_or t 0 0)) p₁.0 ∙ b;
      kind = ap (size_in v) (sym a) ∙ b;
      order = ap (in_order last) (sym a) ∙ p₃.0;
      more = ap (λ (k : ℕ). eqb k 0x7f) (sym a) ∙ p₄.0;
    }

-- ---- the loop

-- what was read stands in cfg; t is left of the text, and its first field has this place
pub record Ahead (s t : List ℕ) (cfg : Config) (last place : ℕ) : Type 0 where
  pub from_one : 1 ≤ place
  pub count : place + length t ≤ length s + 1
  pub read : config_of s ≡ read_from (length s + 2 - place) t cfg last place

pub ahead-starts : (s : List ℕ) → Ahead s s no_config 0 1
unfolding config_of
ahead-starts s =
    let e : suc (length s) ≡ length s + 2 - 1 = omega arith in
    record { from_one = omega arith; count = omega arith; read = ap (λ (k : ℕ). read_from k s no_config 0 1) e }

module _ (s t : List ℕ) (cfg : Config) (last place : ℕ) (a : Ahead s t cfg last place) where
  next : ℕ → ℕ → Reading
  next tag size = read_from (length s + 2 - (place + 1)) (drop (3 + size) t) (placed cfg tag (entry_read tag t)) tag (place + 1)

  turn : (h : Head) → head_of cfg.edition t last ≡ h → config_of s ≡ on_head h t cfg place next
  unfolding read_from next
  turn h e =
      let j = a.count in
      let f : length s + 2 - place ≡ suc (length s + 2 - (place + 1)) = omega arith in
      a.read ∙ ap (λ (k : ℕ). read_from k t cfg last place) f ∙ ap (λ (x : Head). on_head x t cfg place next) e

  pub turn-bad : {number : ℕ} → head_of cfg.edition t last ≡ Bad number → refused_at place number ≡ config_of s
  turn-bad {number} e = sym (turn (Bad number) e)

  pub turn_end : head_of cfg.edition t last ≡ End → length t ≡ 3 → whole_of cfg ≡ config_of s
  turn_end e l = sym (rw (eq-eqb (length t) 3 l) at (turn End e))

  pub turn-behind : head_of cfg.edition t last ≡ End → (length t ≡ 3 → ⊥) → refused_at (place + 1) 21 ≡ config_of s
  turn-behind e l = sym (rw (ne_eqb (length t) 3 l) at (turn End e))

  module _ {tag size : ℕ} (e : head_of cfg.edition t last ≡ Field tag size) where
    pub turn-fault : (body_fault cfg tag t ≡ 0 → ⊥) → refused_at place (body_fault cfg tag t) ≡ config_of s
    turn-fault n = sym (rw (ne_eqb (body_fault cfg tag t) 0 n) at (turn (Field tag size) e))

    pub turn-room : 3 + size ≤ length t
    turn-room = (field-frame cfg.edition t last e).room

    pub turn_on : body_fault cfg tag t ≡ 0 → (rest : List ℕ) → rest ≡ drop (3 + size) t → Ahead s rest (placed cfg tag (entry_read tag t)) tag (place + 1)
    unfolding next
    turn_on z rest er =
        let r = turn-room in
        let l : length rest + (3 + size) ≡ length t = omega (arith, ap length er, length-drop (3 + size) t) in
        let i = a.count in
        record {
          from_one = omega arith;
          count = omega arith;
          read =
              (rw (eq-eqb (body_fault cfg tag t) 0 z) at (turn (Field tag size) e))
              ∙ ap (λ (x : List ℕ). read_from (length s + 2 - (place + 1)) x (placed cfg tag (entry_read tag t)) tag (place + 1)) (sym er);
        }
