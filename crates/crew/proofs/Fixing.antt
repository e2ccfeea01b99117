-- The text of a configuration that was read leaves nothing open (`fixed`): every number has 32 bits, that of an initial too, since four bytes say it (`initials-small`), and unused places are blank.
-- Assumes nothing.
use Prim.Native.Nat.{ℕ, zero, suc, ◌+◌, ◌≤◌, ◌<◌, ◌^◌}
use mathlib.Core.Bool.{true}
use mathlib.Core.List.{List, [], ◌∷◌}
use mathlib.Core.Path.{◌≡◌}
use native.Mathlib.Decide.{dec_lt}
use native.Mathlib.Omega.{arith}
use lib.Dec.{ltb, eqb}
use lib.ListN.{length, get_or, set, drop}
use lib.Seq.{get_or-drop}
use borrow.Author.Tests.{eqb-true}
use Rattle.numbers.specs.Tags.{last_tag}
use Rattle.laws.proofs.Choosing.{pick-has}
use Rattle.faces.specs.Types.{VariableConf, VariableConfs, Config, Entry}
use Rattle.config.specs.Tables.{max_variable_confs, no_variable_conf, add_variable_conf, no_config}
use Rattle.entries.specs.Entries.{no_entry, count_of, entry_of, placed}
use Rattle.entries.specs.Faults.{config_sound}
use Rattle.entries.proofs.Kind.{fault-told, config-told}
use Rattle.entries.proofs.Tags.{no-kind-entry}
use Rattle.wire.proofs.Laws.{Bytes, be32-fits}
use Rattle.reading.specs.declared.Head.{Head}
use Rattle.reading.specs.declared.Head.TheVariants.{Field, End, Bad}
use Rattle.reading.specs.declared.Outcome.TheVariants.{Whole}
use Rattle.reading.specs.declared.Reading.{Reading}
use Rattle.reading.specs.Reading.{entry_read, head_of, body_fault, whole_of, refused_at, on_head, read_from, config_of}
use Rattle.reading.proofs.Sound.{read-sound}
use Rattle.round_trips.proofs.EachEntry.{part-fits}
use Rattle.round_trips.proofs.Sameness.{no_more}
use Rattle.history.proofs.Beside.{all_alike}
use Rattle.config.specs.Table.{add_part}
use Rattle.crew.specs.Crew.{Fixed}

-- ---- initials

record Small (cfg : Config) : Type 0 where
  each : (i : ℕ) → (get_or cfg.variables.at i no_variable_conf).initial < 2 ^ 32

-- what holds of each entry of a row, and of one that is put there
set_all : {A : Type 0} (P : A → Type 0) (l : List A) (k : ℕ) (x d : A) → P x → ((i : ℕ) → P (get_or l i d)) → (i : ℕ) → P (get_or (set l k x) i d)
set_all P [] k x d p h i = h i
set_all P (y ∷ l) zero x d p h zero = p
set_all P (y ∷ l) zero x d p h (suc i) = h (suc i)
set_all P (y ∷ l) (suc k) x d p h zero = h zero
set_all P (y ∷ l) (suc k) x d p h (suc i) = set_all P l k x d p (λ j. h (suc j)) i

blank-small : Small no_config
unfolding no_config
blank-small = record { each = λ i. all_alike (λ (x : VariableConf). x.initial < 2 ^ 32) 16 no_variable_conf i (omega arith) }

added-small : (t : VariableConfs) (x : VariableConf) → x.initial < 2 ^ 32 → ((i : ℕ) → (get_or t.at i no_variable_conf).initial < 2 ^ 32) → (i : ℕ) → (get_or (add_variable_conf t x).at i no_variable_conf).initial < 2 ^ 32
unfolding add_part
added-small t x b h i =
    pick-has (λ (u : VariableConfs). (get_or u.at i no_variable_conf).initial < 2 ^ 32) (ltb t.n max_variable_confs) (record { n = t.n + 1; at = set t.at t.n x }) t
    (λ _. set_all (λ (y : VariableConf). y.initial < 2 ^ 32) t.at t.n x no_variable_conf b h i) (λ _. h i)

-- a variable's initial is read from four bytes
read_small : (tag : ℕ) (t : List ℕ) → Bytes t → tag ≡ 0x11 → (entry_read tag t).number < 2 ^ 32
unfolding entry_read
read_small tag t b e = rw e (be32-fits _ _ _ _ (b 5) (b 6) (b 7) (b 8))

placed-small : (cfg : Config) (tag : ℕ) (t : List ℕ) → Bytes t → Small cfg → Small (placed cfg tag (entry_read tag t))
unfolding placed
placed-small cfg tag t b h =
    pick-has Small (eqb tag 0x10) _ _ (λ _. record { each = h.each })
    (λ _. pick-has Small (eqb tag 0x11) _ _ (λ e. record { each = added-small cfg.variables _ (read_small tag t b (eqb-true tag 0x11 e)) h.each })
    (λ _. pick-has Small (eqb tag 0x12) _ _ (λ _. record { each = h.each })
    (λ _. pick-has Small (eqb tag 0x13) _ _ (λ _. record { each = h.each })
    (λ _. pick-has Small (eqb tag 0x14) _ _ (λ _. record { each = h.each })
    (λ _. pick-has Small (eqb tag 0x15) _ _ (λ _. record { each = h.each })
    (λ _. pick-has Small (eqb tag 0x16) _ _ (λ _. record { each = h.each })
    (λ _. pick-has Small (eqb tag 0x17) _ _ (λ _. record { each = h.each })
    (λ _. pick-has Small (eqb tag 0x18) _ _ (λ _. record { each = h.each })
    (λ _. pick-has Small (eqb tag 0x19) _ _ (λ _. record { each = h.each })
    (λ _. pick-has Small (eqb tag 0x1a) _ _ (λ _. record { each = h.each })
    (λ _. pick-has Small (eqb tag 0x1b) _ _ (λ _. record { each = h.each })
    (λ _. pick-has Small (eqb tag 0x01) _ _ (λ _. record { each = h.each }) (λ _. h)))))))))))))

-- what a reading gives
record Holds (r : Reading) : Type 0 where
  small : Small r.config

holds-refused : (place number : ℕ) → Holds (refused_at place number)
unfolding refused_at
holds-refused place number = record { small = blank-small }

holds-from : (fuel : ℕ) (t : List ℕ) (cfg : Config) (last place : ℕ) → Bytes t → Small cfg → Holds (read_from fuel t cfg last place)
unfolding read_from
holds-from zero t cfg last place b h = holds-refused place 21
holds-from (suc fuel) t cfg last place b h =
    go (λ tag size g. holds-from fuel (drop (3 + size) t) (placed cfg tag (entry_read tag t)) tag (place + 1) (λ i. rw get_or-drop (b (3 + size + i))) g) (head_of cfg.edition t last)
  where
    next : ℕ → ℕ → Reading
    next tag size = read_from fuel (drop (3 + size) t) (placed cfg tag (entry_read tag t)) tag (place + 1)

    go : ((tag size : ℕ) → Small (placed cfg tag (entry_read tag t)) → Holds (next tag size)) → (x : Head) → Holds (on_head x t cfg place next)
    go rest (Bad number) = holds-refused place number
    go rest End = pick-has Holds (eqb (length t) 3) (whole_of cfg) (refused_at (place + 1) 21) (λ _. record { small = h }) (λ _. holds-refused (place + 1) 21)
    go rest (Field tag size) =
        pick-has Holds (eqb (body_fault cfg tag t) 0) (next tag size) (refused_at place (body_fault cfg tag t)) (λ _. rest tag size (placed-small cfg tag t b h)) (λ _. holds-refused place (body_fault cfg tag t))

pub initials-small : (s : List ℕ) → Bytes s → (i : ℕ) → (get_or (config_of s).config.variables.at i no_variable_conf).initial < 2 ^ 32
unfolding config_of
initials-small s b = (holds-from (suc (length s)) s no_config 0 1 b blank-small).small.each

-- ---- the configuration of a text

module _ (cfg : Config) (s : config_sound cfg ≡ true) (v : (i : ℕ) → (get_or cfg.variables.at i no_variable_conf).initial < 2 ^ 32) where
  blank : (tag i : ℕ) → count_of cfg tag ≤ i → entry_of cfg tag i ≡ no_entry
  blank tag i l = go (dec_lt tag 0x10) (dec_lt last_tag tag)
    where
      go : Dec (tag < 0x10) → Dec (last_tag < tag) → entry_of cfg tag i ≡ no_entry
      go (yes x) y = no-kind-entry tag (λ a b. omega (arith, x, a)) cfg i
      go (no x) (yes y) = no-kind-entry tag (λ a b. omega (arith, y, b)) cfg i
      go (no x) (no y) = no_more cfg s tag (omega (arith, x)) (omega (arith, y)) i l

  none : (e : Entry) → e ≡ no_entry → e.number < 2 ^ 32
  none e h = rw h (omega arith)

  numbers : (tag i : ℕ) → (entry_of cfg tag i).number < 2 ^ 32
  numbers tag i = go (dec_lt tag 0x10) (dec_lt last_tag tag) (dec_lt i (count_of cfg tag))
    where
      go : Dec (tag < 0x10) → Dec (last_tag < tag) → Dec (i < count_of cfg tag) → (entry_of cfg tag i).number < 2 ^ 32
      go (yes x) y z = none _ (no-kind-entry tag (λ a b. omega (arith, x, a)) cfg i)
      go (no x) (yes y) z = none _ (no-kind-entry tag (λ a b. omega (arith, y, b)) cfg i)
      go (no x) (no y) (yes z) =
          let low : 0x10 ≤ tag = omega (arith, x) in
          let high : tag ≤ last_tag = omega (arith, y) in
          part-fits cfg v tag low high i (fault-told cfg tag i (entry_of cfg tag i) ((config-told cfg s tag low high).used i z)).range
      go (no x) (no y) (no z) = none _ (blank tag i (omega (arith, z)))

  made : Fixed cfg
  made = record { blank = blank; numbers = numbers }

pub fixed : (c : List ℕ) → Bytes c → (config_of c).outcome ≡ Whole → Fixed (config_of c).config
fixed c b o = made (config_of c).config (read-sound c o) (initials-small c b)
