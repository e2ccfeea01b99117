-- A configuration that the reader gives is sound.
-- While a text is read, what stands so far is sound all the time, and no kind above the last tag has a part. A part names only kinds below its own,
-- so one more of the last kind or a higher one leaves every fault of the others as it was (fault-kept), and its own were tested with the same numbers.
-- The edition is read before any part, so that it stays what each field was tested with (W-211).
-- Assumes nothing.
use Prim.Native.Nat.{ℕ, zero, suc, ◌+◌, ◌-◌, ◌≤◌, ◌<◌}
use mathlib.Core.Bool.{true, not}
use mathlib.Core.List.{List}
use mathlib.Core.Path.{◌≡◌, refl, ap, ◌∙◌}
use native.Mathlib.Decide.{ℕ_discrete, dec_lt}
use native.Mathlib.Omega.{arith}
use lib.Dec.{ltb, eqb, leb}
use lib.ListN.{length, get_or, drop}
use borrow.Author.Tests.{ne_eqb, eqb-true, eqb-false, leb-true}
use Rattle.numbers.specs.Tags.{last_tag}
use Rattle.laws.specs.Choice.{pick}
use Rattle.laws.proofs.Choosing.{both_left, pick-on, pick-has}
use Rattle.config.specs.declared.Config.{Config}
use Rattle.config.specs.Editions.{is_edition}
use Rattle.config.specs.Tables.{no_config}
use Rattle.entries.specs.declared.Entry.{Entry}
use Rattle.entries.specs.Entries.{max_of, count_of, entry_of, placed}
use Rattle.entries.specs.Faults.{entry_fault, config_sound}
use Rattle.entries.proofs.Kind.{fault-told, Kind, edition-told, config-told, config-made}
use Rattle.entries.proofs.Editions.{edition-count, edition-kind}
use Rattle.entries.proofs.Tags.{blank_none, blank-sound}
use Rattle.entries.proofs.Listing.{room-tag, has-place}
use Rattle.wire.specs.Bytes.{length_of}
use Rattle.reading.specs.Reading.{outcome_refusal, size_in, entry_read, in_order, head_of, body_fault, whole_of, refused_at, on_head, read_from, config_of}
use Rattle.reading.specs.declared.Outcome.TheVariants.{Whole}
use Rattle.reading.specs.declared.Reading.{Reading}
use Rattle.reading.specs.declared.Head.{Head}
use Rattle.reading.specs.declared.Head.TheVariants.{Field, End, Bad}
use Rattle.reading.proofs.Ahead.{field-frame}
use Rattle.reading.proofs.Adding.{Adds, adds, back_read}
use Rattle.reading.proofs.Kept.{fault-kept}

-- ---- while reading

-- what stands behind a field with the tag last: sound, with no part of a higher kind
pub record Sofar (cfg : Config) (last : ℕ) : Type 0 where
  pub edition : is_edition cfg.edition ≡ true
  pub kinds : (k : ℕ) → 0x10 ≤ k → k ≤ last_tag → Kind cfg k
  pub above : (k : ℕ) → last < k → count_of cfg k ≡ 0

pub sofar-starts : Sofar no_config 0
sofar-starts = record { edition = edition-told no_config blank-sound; kinds = config-told no_config blank-sound; above = λ k l. blank_none k }

-- one part more, of the last kind or a higher one, that was tested without fault
module _ (cfg cfg' : Config) (last tag : ℕ) (e : Entry) (f : Sofar cfg last) (a : Adds cfg cfg' tag e) (up : last ≤ tag) (h : entry_fault cfg tag (count_of cfg tag) e ≡ 0) (more : count_of cfg tag < max_of tag) where
  -- what was found of an entry is still so
  kept : (k i : ℕ) → k ≤ tag → i ≤ count_of cfg k → (x : Entry) → entry_fault cfg' k i x ≡ entry_fault cfg k i x
  kept k i l c x =
      fault-kept cfg cfg' k (λ j m. a.counts j (λ q. omega (arith, l, m, q))) (λ j n m. a.others j n (λ q. omega (arith, l, m, q))) i (λ n m. before n m (ℕ_discrete k tag)) a.edition x
    where
      before : (n : ℕ) → n < i → Dec (k ≡ tag) → entry_of cfg' k n ≡ entry_of cfg k n
      before n m (yes q) = rw q (a.earlier n (λ r. omega (arith, r, m, c, ap (count_of cfg) q)))
      before n m (no d) = a.others k n d

  -- the kind that has grown
  grown : Kind cfg tag → Kind cfg' tag
  grown g =
      record {
        places = a.places tag ∙ g.places;
        room = omega (arith, a.own, more);
        used = λ i l. stands i (omega (arith, l, a.own)) (ℕ_discrete i (count_of cfg tag));
        blank = λ i l m. rw (a.earlier i (λ q. omega (arith, q, m, a.own))) (g.blank i l (omega (arith, m, a.own)));
      }
    where
      stands : (i : ℕ) → i ≤ count_of cfg tag → Dec (i ≡ count_of cfg tag) → entry_fault cfg' tag i (entry_of cfg' tag i) ≡ 0
      stands i l (yes q) = rw (q, a.entry) (kept tag (count_of cfg tag) (omega arith) (omega arith) e ∙ h)
      stands i l (no n) = rw (a.earlier i n) (kept tag i (omega arith) l (entry_of cfg tag i) ∙ g.used i (omega (arith, l, n)))

  -- a kind below it, and one above it
  lower : (k : ℕ) → k ≤ tag → (k ≡ tag → ⊥) → Kind cfg k → Kind cfg' k
  lower k l n g =
      record {
        places = a.places k ∙ g.places;
        room = omega (arith, a.counts k n, g.room);
        used = λ i m. rw (a.others k i n) (let c : i < count_of cfg k = omega (arith, m, a.counts k n) in kept k i l (omega arith) (entry_of cfg k i) ∙ g.used i c);
        blank = λ i m c. rw (a.others k i n) (g.blank i m (omega (arith, c, a.counts k n)));
      }

  higher : (k : ℕ) → tag < k → Kind cfg k → Kind cfg' k
  higher k l g =
      let n : k ≡ tag → ⊥ = λ q. omega (arith, l, q) in
      let z : count_of cfg' k ≡ 0 = a.counts k n ∙ f.above k (omega arith) in
      record {
        places = a.places k ∙ g.places;
        room = omega (arith, z);
        used = λ i m. absurd (omega (arith, m, z));
        blank = λ i m c. rw (a.others k i n) (g.blank i m (omega (arith, f.above k (omega arith))));
      }

  sofar-grows : 0x10 ≤ tag → tag ≤ last_tag → Sofar cfg' tag
  sofar-grows low high =
      record {
        edition = rw a.edition f.edition;
        kinds = λ k b c. which k (f.kinds k b c) (ℕ_discrete k tag) (dec_lt tag k);
        above = λ k l. a.counts k (λ q. omega (arith, l, q)) ∙ f.above k (omega arith);
      }
    where
      which : (k : ℕ) → Kind cfg k → Dec (k ≡ tag) → Dec (tag < k) → Kind cfg' k
      which k g (yes q) d = rw q (grown (rw q at g))
      which k g (no n) (yes l) = higher k l g
      which k g (no n) (no l) = lower k (omega (arith, l)) n g

-- the tags do not fall
order-up : (last tag : ℕ) → in_order last tag ≡ true → last ≤ tag
unfolding in_order
order-up last tag h = go (ℕ_discrete last 0)
  where
    go : Dec (last ≡ 0) → last ≤ tag
    go (yes z) = omega (arith, z)
    go (no n) = leb-true last tag (both_left (leb last tag) (not (eqb tag 0x01)) (rw (ne_eqb last 0 n) at h))

-- a part without fault
sofar-part : (cfg : Config) (last tag : ℕ) (t : List ℕ) → Sofar cfg last → last ≤ tag → entry_fault cfg tag (count_of cfg tag) (entry_read tag t) ≡ 0 → Sofar (placed cfg tag (entry_read tag t)) tag
sofar-part cfg last tag t f up h =
    let r = fault-told cfg tag (count_of cfg tag) (entry_read tag t) h in
    let k = room-tag cfg tag (count_of cfg tag) (entry_read tag t) r.room in
    let more = has-place cfg (f.kinds 0x10 (omega arith) (omega arith)) tag (entry_read tag t) (f.kinds tag k.0 k.1) r in
    let a = adds cfg (entry_read tag t) tag k.0 k.1 more (f.kinds tag k.0 k.1).places in
    sofar-grows cfg (placed cfg tag (entry_read tag t)) last tag (entry_read tag t) f (rw (back_read tag k.0 k.1 t r.range) at a) up h more k.0 k.1

-- an edition without fault
is_one : (e : ℕ) → pick {A = ℕ} (is_edition e) 0 24 ≡ 0 → is_edition e ≡ true
is_one e g = (pick-on (is_edition e) 0 24 0 g (λ y. omega (arith, y))).0

-- a field without fault, the edition or a part
pub sofar-field : (cfg : Config) (last tag : ℕ) (t : List ℕ) → Sofar cfg last → last ≤ tag → body_fault cfg tag t ≡ 0 → Sofar (placed cfg tag (entry_read tag t)) tag
unfolding body_fault placed entry_read
sofar-field cfg last tag t f up h = go (ℕ_discrete tag 0x01)
  where
    go : Dec (tag ≡ 0x01) → Sofar (placed cfg tag (entry_read tag t)) tag
    go (yes q) = rw q (record { edition = is_one (get_or t 3 0) (rw q at h); kinds = λ k l b. edition-kind cfg (get_or t 3 0) k (f.above k (omega (arith, q, up, l))) (f.kinds k l b); above = λ k l. edition-count cfg (get_or t 3 0) k ∙ f.above k (omega (arith, q, up, l)) })
    go (no n) = sofar-part cfg last tag t f up (rw (ne_eqb tag 0x01 n) at h)

-- ---- the whole text

-- what a reading gives: a sound configuration in any case, a blank one beside a refusal, and a number that is 0 only for a whole one
pub record Given (r : Reading) : Type 0 where
  pub sound : config_sound r.config ≡ true
  pub blank : (r.outcome ≡ Whole → ⊥) → r.config ≡ no_config
  pub number : outcome_refusal r.outcome ≡ 0 → r.outcome ≡ Whole

given-refused : (number place : ℕ) → (number ≡ 0 → ⊥) → Given (refused_at place number)
unfolding refused_at
given-refused number place n = record { sound = blank-sound; blank = λ _. refl; number = λ e. absurd (n e) }

-- a field that is refused at its head is refused with 21 or 22
bad-number : (v : ℕ) (t : List ℕ) (last number : ℕ) → head_of v t last ≡ Bad number → number ≡ 0 → ⊥
unfolding head_of
bad-number v t last number =
    pick-has P (ltb (length t) 3) _ _ (λ _. bad 21 (λ z. omega (arith, z)))
    (λ _. pick-has P (eqb (length_of (get_or t 1 0) (get_or t 2 0)) (size_in v (get_or t 0 0))) _ _
    (λ _. pick-has P (leb (size_in v (get_or t 0 0)) (length t - 3)) _ _
    (λ _. pick-has P (in_order last (get_or t 0 0)) _ _
    (λ _. pick-has P (eqb (get_or t 0 0) 0x7f) End (Field (get_or t 0 0) (size_in v (get_or t 0 0))) (λ _ h. absurd (let z : ◌≡◌ {A = ℕ} 0 1 = cc in omega arith)) (λ _ h. absurd (let z : ◌≡◌ {A = ℕ} 0 1 = cc in omega arith)))
    (λ _. bad 22 (λ z. omega (arith, z))))
    (λ _. bad 21 (λ z. omega (arith, z))))
    (λ _. bad 21 (λ z. omega (arith, z))))
  where
    P : Head → Type 0
    P x = x ≡ Bad number → number ≡ 0 → ⊥

    bad : (k : ℕ) → (k ≡ 0 → ⊥) → P (Bad k)
    bad k n h z = n (let e : k ≡ number = cc in e ∙ z)

given-from : (fuel : ℕ) (t : List ℕ) (cfg : Config) (last place : ℕ) → Sofar cfg last → Given (read_from fuel t cfg last place)
unfolding read_from
given-from zero t cfg last place f = given-refused 21 place (λ z. omega (arith, z))
given-from (suc fuel) t cfg last place f = go (λ tag size g. given-from fuel (drop (3 + size) t) (placed cfg tag (entry_read tag t)) tag (place + 1) g) (head_of cfg.edition t last) refl
  where
    next : ℕ → ℕ → Reading
    next tag size = read_from fuel (drop (3 + size) t) (placed cfg tag (entry_read tag t)) tag (place + 1)

    go : ((tag size : ℕ) → Sofar (placed cfg tag (entry_read tag t)) tag → Given (next tag size)) → (x : Head) → head_of cfg.edition t last ≡ x → Given (on_head x t cfg place next)
    go rest (Bad number) e = given-refused number place (bad-number cfg.edition t last number e)
    go rest End e =
        pick-has Given (eqb (length t) 3) (whole_of cfg) (refused_at (place + 1) 21)
        (λ _. record { sound = config-made cfg f.edition f.kinds; blank = λ n. absurd (n refl); number = λ _. refl })
        (λ _. given-refused 21 (place + 1) (λ z. omega (arith, z)))
    go rest (Field tag size) e =
        pick-has Given (eqb (body_fault cfg tag t) 0) (next tag size) (refused_at place (body_fault cfg tag t))
        (λ z. rest tag size (sofar-field cfg last tag t f (order-up last tag (field-frame cfg.edition t last e).order) (eqb-true (body_fault cfg tag t) 0 z)))
        (λ n. given-refused (body_fault cfg tag t) place (eqb-false (body_fault cfg tag t) 0 n))

-- any bytes whatever
pub given : (s : List ℕ) → Given (config_of s)
unfolding config_of
given s = given-from (suc (length s)) s no_config 0 1 sofar-starts

-- a whole configuration is sound
pub read-sound : (s : List ℕ) → (config_of s).outcome ≡ Whole → config_sound (config_of s).config ≡ true
read-sound s h = (given s).sound

-- a refused one is blank
pub read-blank : (s : List ℕ) → ((config_of s).outcome ≡ Whole → ⊥) → (config_of s).config ≡ no_config
read-blank s = (given s).blank

-- a reading whose number is 0 is whole
pub read_number : (s : List ℕ) → outcome_refusal (config_of s).outcome ≡ 0 → (config_of s).outcome ≡ Whole
read_number s = (given s).number
