-- The copies of instances stay sound: those of a slot hold what elements may hold where its runnable lists one, and are blank elsewhere. A slot is looked at here only for whether it is used, and for its runnable.
-- Assumes nothing.
use Prim.Native.Nat.{ℕ, ◌+◌, ◌<◌}
use mathlib.Core.Bool.{Bool, true, false}
use mathlib.Core.Path.{◌≡◌, refl, ◌∙◌}
use native.Mathlib.Omega.{arith}
use lib.Dec.{eqb}
use lib.ListN.{length, length-set, get_or, set, get_or-replicate}
use lib.Seq.{get_or-set_same}
use borrow.Author.Tests.{eq-eqb, eqb-true}
use Rattle.laws.specs.Choice.{pick}
use Rattle.laws.proofs.Choosing.{both_left, both_right, both-make, both-no, pick-has}
use Rattle.laws.proofs.Looping.{all-at, all-of}
use Rattle.laws.proofs.Places.{all-put, put-each, each_at, each-length}
use Rattle.values.specs.Values.{never_received_v, is_payload, is_void}
use Rattle.faces.specs.Types.{Value, Lists, Config, Slot, Slots, Copies, Copied, State, Awaited}
use Rattle.config.specs.Tables.{runnable_conf_in, listed_in}
use Rattle.config.specs.Lists.{first_listed, lists_at, element_at, place_of}
use Rattle.state.specs.Parts.{no_slot, no_copies}
use Rattle.state.specs.Tables.{max_slots, runnable_in, element_in, slot_in, with_slot, copy_in, copies_in, with_copy, with_copies}
use Rattle.rules.specs.Sound.{is_stored, has_copy, is_no_copy, copy_sound, copies_sound, copied_sound}
use Rattle.rules.proofs.Configured.{incoming-there, incoming-unqueued}
use Rattle.rules.proofs.Listing.{lists-there, place-lists, lists-none}
use Rattle.effects.specs.Steps.{entering, exiting, entered, exited, caller_after, called, awaiting, awaited, finishing, failing, failed, finished, emptied, cleared, copy_of, copies_of, instance_of, lowest_empty, spawned, slots_after, waited, uncopied, copied_into, copied_to, setting}
use Rattle.stays_sound.specs.Facts.{Copying, CopiesIn, Sound, CanSpawn, CanWriteCopy}
use Rattle.stays_sound.proofs.Told.{shape-told, slots_length}
use Rattle.stays_sound.proofs.Elements.{element-stored}
use Rattle.state.specs.Places.{place_in, with_place}
use Rattle.stays_sound.proofs.Kept.{here, lowest-empty, slot_kept, slots-after-kept, caller-kept}

-- ---- the copies of one slot

-- their tests as facts
pub record Copied' (e : ℕ) (t : Lists) (x : Slot) (c : Copies) : Type 0 where
  pub places : length c.at ≡ 4
  pub each : (j : ℕ) → j < 4 → copy_sound e t x c j ≡ true

module _ (e : ℕ) (t : Lists) (x : Slot) (c : Copies) where
  pub copies-told : copies_sound e t x c ≡ true → Copied' e t x c
  unfolding copies_sound
  copies-told h = record { places = eqb-true _ _ (both_left (eqb (length c.at) 4) _ h); each = all-at (copy_sound e t x c) 4 (both_right (eqb (length c.at) 4) _ h) }

  pub copies-made : Copied' e t x c → copies_sound e t x c ≡ true
  unfolding copies_sound
  copies-made h = both-make _ _ (eq-eqb _ _ h.places) (all-of (copy_sound e t x c) 4 h.each)

-- a slot that is used as another, by the same runnable, has its copies as that
copies-alike : (e : ℕ) (t : Lists) (x y : Slot) (c : Copies) → y.used ≡ x.used → y.life.runnable ≡ x.life.runnable → copies_sound e t x c ≡ true → copies_sound e t y c ≡ true
unfolding copies_sound copy_sound has_copy
copies-alike e t x y c u r h = rw (u, r) h

-- nothing that came is stored in any edition
never-stored : (e : ℕ) (v : Value) → is_no_copy v ≡ true → is_stored e v ≡ true
unfolding is_no_copy is_stored is_payload is_void
never-stored e v h =
    let k = eqb-true v.kind 6 (both_left (eqb v.kind 6) _ h) in
    let n = both_right (eqb v.kind 6) _ h in
    rw (k, n) refl

-- blank copies are sound in any slot
blank-copy : (e : ℕ) (t : Lists) (x : Slot) (v : Value) (j : ℕ) → is_no_copy v ≡ true → pick (has_copy t x j) (is_stored e v) (is_no_copy v) ≡ true
blank-copy e t x v j h = pick-has (λ (b : Bool). b ≡ true) (has_copy t x j) (is_stored e v) (is_no_copy v) (λ _. never-stored e v h) (λ _. h)

-- copies that are all blank
pub record Blank (c : Copies) : Type 0 where
  pub places : length c.at ≡ 4
  pub none : (j : ℕ) → j < 4 → is_no_copy (copy_in c j) ≡ true

pub no-copies-blank : Blank no_copies
unfolding no_copies copy_in is_no_copy
no-copies-blank = record { places = refl; none = λ j l. rw (get_or-replicate 4 j never_received_v never_received_v l) }

pub blank-sound : (e : ℕ) (t : Lists) (x : Slot) (c : Copies) → Blank c → copies_sound e t x c ≡ true
unfolding copy_sound
blank-sound e t x c h = copies-made e t x c (record { places = h.places; each = λ j l. blank-copy e t x (copy_in c j) j (h.none j l) })

-- of a slot that is not used, or whose runnable lists nothing, they are blank
pub unused-blank : (e : ℕ) (t : Lists) (x : Slot) (c : Copies) → ((j : ℕ) → has_copy t x j ≡ false) → copies_sound e t x c ≡ true → Blank c
unfolding copy_sound
unused-blank e t x c n h = let f = copies-told e t x c h in record { places = f.places; none = λ j l. rw (n j) at (f.each j l) }

unlisted : (t : Lists) (x : Slot) (j : ℕ) → lists_at t x.life.runnable j ≡ false → has_copy t x j ≡ false
unfolding has_copy
unlisted t x j h = both-no x.used _ h

empty : (t : Lists) (x : Slot) → x.used ≡ false → (j : ℕ) → has_copy t x j ≡ false
unfolding has_copy
empty t x h j = rw h

payload-stored : (e : ℕ) (v : Value) → is_payload v ≡ true → is_stored e v ≡ true
unfolding is_stored
payload-stored e v h = rw h

-- ---- the table

module _ (e : ℕ) (t : Lists) (ss : Slots) (cs : Copied) (h : copied_sound e t ss cs ≡ true) where
  pub copies_at : (k : ℕ) → k < max_slots → copies_sound e t (slot_in ss k) (copies_in cs k) ≡ true
  unfolding copied_sound
  copies_at = all-at (λ (k : ℕ). copies_sound e t (slot_in ss k) (copies_in cs k)) max_slots h

  -- other slots that are used alike
  same-copied : (ss' : Slots) → ((k : ℕ) → (slot_in ss' k).used ≡ (slot_in ss k).used) → ((k : ℕ) → (slot_in ss' k).life.runnable ≡ (slot_in ss k).life.runnable) → copied_sound e t ss' cs ≡ true
  unfolding copied_sound
  same-copied ss' u r = all-of _ max_slots (λ k l. copies-alike e t (slot_in ss k) (slot_in ss' k) (copies_in cs k) (u k) (r k) (copies_at k l))

  -- one slot replaced, with the copies that it has
  slot-copied : (i : ℕ) (x : Slot) → copies_sound e t x (copies_in cs i) ≡ true → copied_sound e t (with_slot ss i x) cs ≡ true
  unfolding copied_sound place_in with_place
  slot-copied i x g = all-put (λ k y. copies_sound e t y (copies_in cs k)) ss.at i max_slots x no_slot h g

  -- the copies of one slot replaced
  put-copied : (i : ℕ) (c : Copies) → copies_sound e t (slot_in ss i) c ≡ true → copied_sound e t ss (with_copies cs i c) ≡ true
  unfolding copied_sound place_in with_place
  put-copied i c g = all-put (λ k y. copies_sound e t (slot_in ss k) y) cs.at i max_slots c no_copies h g

  -- none left in the slot i, whose runnable is r: they were blank if r lists nothing
  clear-copied : (r i : ℕ) → copied_sound e t ss (cleared t r cs i) ≡ true
  unfolding cleared
  clear-copied r i = pick-has (λ y. copied_sound e t ss y ≡ true) (lists_at t r 0) (with_copies cs i no_copies) cs (λ _. put-copied i no_copies (blank-sound e t (slot_in ss i) no_copies no-copies-blank)) (λ _. h)

  clear-blank : (i : ℕ) → i < max_slots → length cs.at ≡ 32 → Blank (copies_in (cleared t (slot_in ss i).life.runnable cs i) i)
  unfolding cleared place_in with_place
  clear-blank i l m =
      pick-has (λ (y : Copied). Blank (get_or y.at i no_copies)) (lists_at t (slot_in ss i).life.runnable 0) _ cs
      (λ _. rw (same_place i l m) no-copies-blank)
      (λ n. unused-blank e t (slot_in ss i) (get_or cs.at i no_copies) (none n) (copies_at i l))
    where
      same_place : (i : ℕ) → i < 32 → length cs.at ≡ 32 → get_or (set cs.at i no_copies) i no_copies ≡ no_copies
      same_place i l m = get_or-set_same cs.at i no_copies no_copies (omega (arith, l, m))

      none : lists_at t (slot_in ss i).life.runnable 0 ≡ false → (j : ℕ) → has_copy t (slot_in ss i) j ≡ false
      none n j = unlisted t (slot_in ss i) j (lists-none t (slot_in ss i).life.runnable n j)

-- ---- step by step

module _ (cfg : Config) (st : State) (s : Sound cfg st) where
  -- a slot that keeps whether it is used, and its runnable
  kept-copies : (i : ℕ) (x : Slot) → x.used ≡ (slot_in st.slots i).used → x.life.runnable ≡ (slot_in st.slots i).life.runnable
      → Copying cfg.edition cfg.incoming cfg.outgoing (with_slot st.slots i x) st.incoming st.outgoing
  kept-copies i x u r = record { incoming = same cfg.incoming st.incoming s.copies.incoming; outgoing = same cfg.outgoing st.outgoing s.copies.outgoing }
    where
      same : (t : Lists) (cs : Copied) → copied_sound cfg.edition t st.slots cs ≡ true → copied_sound cfg.edition t (with_slot st.slots i x) cs ≡ true
      same t cs h =
          same-copied cfg.edition t st.slots cs h (with_slot st.slots i x) (slot_kept (λ (y : Slot). y.used) st.slots i x u) (slot_kept (λ (y : Slot). y.life.runnable) st.slots i x r)

  pub enter-keeps-copies : (i a : ℕ) → CopiesIn cfg (entered st i a)
  enter-keeps-copies i a = kept-copies i (entering (slot_in st.slots i) a) refl refl

  pub exit-keeps-copies : (i a : ℕ) → CopiesIn cfg (exited st i a)
  exit-keeps-copies i a = kept-copies i (exiting (slot_in st.slots i)) refl refl

  pub call-keeps-copies : (i o : ℕ) (v : Value) → CopiesIn cfg (called cfg st i o v)
  unfolding called
  call-keeps-copies i o v =
      kept-copies i (caller_after cfg o (slot_in st.slots i))
      (caller-kept (λ x. x.used) (λ x n. refl) cfg o (slot_in st.slots i)) (caller-kept (λ x. x.life.runnable) (λ x n. refl) cfg o (slot_in st.slots i))

  -- what an instance waits for, or no longer
  pub await-keeps-copies : (i : ℕ) (a : Awaited) → CopiesIn cfg (awaited st i a)
  await-keeps-copies i a = kept-copies i (awaiting (slot_in st.slots i) a) refl refl

  pub fail-keeps-copies : (i : ℕ) → CopiesIn cfg (failed st i)
  fail-keeps-copies i = kept-copies i (failing (slot_in st.slots i)) refl refl

  -- a hand back, in time or late
  pub hand-back-keeps-copies : (i : ℕ) → CopiesIn cfg (finished st st i)
  hand-back-keeps-copies i = kept-copies i (finishing (slot_in st.slots i)) refl refl

  pub wait-keeps-copies : (t : ℕ) → CopiesIn cfg (waited cfg st t)
  unfolding waited
  wait-keeps-copies t = record { incoming = same cfg.incoming st.incoming s.copies.incoming; outgoing = same cfg.outgoing st.outgoing s.copies.outgoing }
    where
      same : (l : Lists) (cs : Copied) → copied_sound cfg.edition l st.slots cs ≡ true → copied_sound cfg.edition l (slots_after st.slots t) cs ≡ true
      same l cs h = same-copied cfg.edition l st.slots cs h (slots_after st.slots t) (slots-after-kept (λ (y : Slot). y.used) t (λ x. refl) st.slots) (slots-after-kept (λ (y : Slot). y.life.runnable) t (λ x. refl) st.slots)

  -- a slot that was empty has blank copies, which are sound in the new instance's
  pub spawn-keeps-copies : (r : ℕ) → CanSpawn cfg st r → CopiesIn cfg (spawned cfg st r (lowest_empty st.slots))
  unfolding spawned
  spawn-keeps-copies r z = record { incoming = fresh cfg.incoming st.incoming _ s.copies.incoming; outgoing = fresh cfg.outgoing st.outgoing _ s.copies.outgoing }
    where
      k : ℕ
      k = lowest_empty st.slots

      fresh : (t : Lists) (cs : Copied) (x : Slot) → copied_sound cfg.edition t st.slots cs ≡ true → copied_sound cfg.edition t (with_slot st.slots k x) cs ≡ true
      fresh t cs x h =
          let b = unused-blank cfg.edition t (slot_in st.slots k) (copies_in cs k) (empty t (slot_in st.slots k) (lowest-empty st.slots z.slot)) (copies_at cfg.edition t st.slots cs h k z.slot) in
          slot-copied cfg.edition t st.slots cs h k x (blank-sound cfg.edition t x (copies_in cs k) b)

  -- an instance goes that has none left
  pub end-keeps-copies : (i : ℕ) → Blank (copies_in st.incoming i) → Blank (copies_in st.outgoing i) → CopiesIn cfg (emptied st i)
  end-keeps-copies i a b = record {
    incoming = slot-copied cfg.edition cfg.incoming st.slots st.incoming s.copies.incoming i no_slot (blank-sound _ _ no_slot _ a);
    outgoing = slot-copied cfg.edition cfg.outgoing st.slots st.outgoing s.copies.outgoing i no_slot (blank-sound _ _ no_slot _ b);
  }

  -- one set to a payload
  pub write-copy-keeps-copies : (i p : ℕ) (v : Value) → CanWriteCopy cfg st i p v → copied_sound cfg.edition cfg.outgoing st.slots (with_copies st.outgoing i (setting cfg st i p v)) ≡ true
  unfolding copy_sound copy_in with_copy has_copy
  write-copy-keeps-copies i p v z = put-copied e t st.slots st.outgoing s.copies.outgoing i _ (copies-made e t x _ (record { places = length-set c.at n v ∙ f.places; each = each }))
    where
      e : ℕ
      e = cfg.edition

      t : Lists
      t = cfg.outgoing

      x : Slot
      x = slot_in st.slots i

      c : Copies
      c = copies_in st.outgoing i

      n : ℕ
      n = place_of t x.life.runnable p

      f : Copied' e t x c
      f = copies-told e t x c (copies_at e t st.slots st.outgoing s.copies.outgoing i (here cfg st i s z.who.there))

      payload : is_stored e v ≡ true
      payload = payload-stored e v z.payload

      has : has_copy t x n ≡ true
      has = both-make _ _ z.who.there.used (place-lists t x.life.runnable p z.listed)

      each : (j : ℕ) → j < 4 → copy_sound e t x (record { at = set c.at n v }) j ≡ true
      each j l = put-each (λ k y. pick (has_copy t x k) (is_stored e y) (is_no_copy y) ≡ true) c.at n v never_received_v (rw has payload) j (f.each j l)

  -- none left in a slot
  pub uncopy-keeps-copies : (r i : ℕ) → CopiesIn cfg (uncopied cfg st r i)
  uncopy-keeps-copies r i = record {
    incoming = clear-copied cfg.edition cfg.incoming st.slots st.incoming s.copies.incoming r i;
    outgoing = clear-copied cfg.edition cfg.outgoing st.slots st.outgoing s.copies.outgoing r i;
  }

  pub uncopied-incoming : (i : ℕ) → i < max_slots → Blank (copies_in (cleared cfg.incoming (slot_in st.slots i).life.runnable st.incoming i) i)
  uncopied-incoming i l = clear-blank cfg.edition cfg.incoming st.slots st.incoming s.copies.incoming i l (shape-told st s.shape).incoming

  pub uncopied-outgoing : (i : ℕ) → i < max_slots → Blank (copies_in (cleared cfg.outgoing (slot_in st.slots i).life.runnable st.outgoing i) i)
  uncopied-outgoing i l = clear-blank cfg.edition cfg.outgoing st.slots st.outgoing s.copies.outgoing i l (shape-told st s.shape).outgoing

  -- a new instance is there, and of its runnable
  pub new-used : (r : ℕ) → CanSpawn cfg st r → (slot_in (spawned cfg st r (lowest_empty st.slots)).slots (lowest_empty st.slots)).used ≡ true
  unfolding spawned place_in with_place instance_of
  new-used r z =
      rw (get_or-set_same st.slots.at (lowest_empty st.slots) (instance_of (runnable_conf_in cfg.runnables r) r (runnable_in st.runnables r)) no_slot (omega (arith, z.slot, slots_length cfg st s)))
      (pick-has (λ (y : Slot). y.used ≡ true) (eqb (runnable_conf_in cfg.runnables r).capacity 0) _ _ (λ _. refl) (λ _. refl))

  pub new-runnable : (r : ℕ) → CanSpawn cfg st r → (slot_in (spawned cfg st r (lowest_empty st.slots)).slots (lowest_empty st.slots)).life.runnable ≡ r
  unfolding spawned place_in with_place instance_of
  new-runnable r z =
      rw (get_or-set_same st.slots.at (lowest_empty st.slots) (instance_of (runnable_conf_in cfg.runnables r) r (runnable_in st.runnables r)) no_slot (omega (arith, z.slot, slots_length cfg st s)))
      (pick-has (λ (y : Slot). y.life.runnable ≡ r) (eqb (runnable_conf_in cfg.runnables r).capacity 0) _ _ (λ _. refl) (λ _. refl))

  -- an instance of r has copied what its elements hold
  stored_at : (k : ℕ) → k < cfg.incoming.n → is_stored cfg.edition (element_in st.elements (listed_in cfg.incoming k).element).value ≡ true
  stored_at k l = element-stored cfg st (listed_in cfg.incoming k).element s (incoming-there cfg s.config k l) (incoming-unqueued cfg s.config k l)

  -- a place of the copies, by whether r lists an element there
  copy-sound : (r j : ℕ) (b : Bool) → lists_at cfg.incoming r j ≡ b
      → pick b (is_stored cfg.edition (pick b (element_in st.elements (element_at cfg.incoming r j)).value never_received_v)) (is_no_copy (pick b (element_in st.elements (element_at cfg.incoming r j)).value never_received_v)) ≡ true
  unfolding element_at is_no_copy
  copy-sound r j true h = stored_at (first_listed cfg.incoming r + j) (lists-there cfg.incoming r j h)
  copy-sound r j false h = refl

  copies-of-sound : (r : ℕ) (x : Slot) → x.used ≡ true → x.life.runnable ≡ r → copies_sound cfg.edition cfg.incoming x (copies_of cfg.incoming r st.elements) ≡ true
  unfolding copy_in copies_of copy_sound has_copy copy_of
  copies-of-sound r x u q = copies-made cfg.edition t x c (record { places = each-length f never_received_v 4 no_copies.at ∙ no-copies-blank.places; each = each })
    where
      t : Lists
      t = cfg.incoming

      c : Copies
      c = copies_of t r st.elements

      f : ℕ → Value → Value
      f j v = copy_of t r st.elements j

      each : (j : ℕ) → j < 4 → copy_sound cfg.edition t x c j ≡ true
      each j l = rw (each_at f never_received_v 4 no_copies.at j l (omega (arith, l, no-copies-blank.places)), u, q) (copy-sound r j (lists_at t r j) refl)

  pub copy-keeps-copies : (r k : ℕ) → (slot_in st.slots k).used ≡ true → (slot_in st.slots k).life.runnable ≡ r → CopiesIn cfg (copied_to cfg st r k)
  unfolding copied_into
  copy-keeps-copies r k u q = record {
    incoming =
        pick-has (λ (y : Copied). copied_sound cfg.edition cfg.incoming st.slots y ≡ true) (lists_at cfg.incoming r 0) _ st.incoming
        (λ _. put-copied cfg.edition cfg.incoming st.slots st.incoming s.copies.incoming k _ (copies-of-sound r (slot_in st.slots k) u q)) (λ _. s.copies.incoming);
    outgoing = s.copies.outgoing;
  }
