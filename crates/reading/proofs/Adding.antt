-- One part more: what placing an entry changes of a configuration, said by counts and entries, and that nothing else changes.
-- A table of any kind shows the same six facts (row-adds); above them the kind is a number from 10 to 1B, hex.
-- Assumes nothing.
use Prim.Native.Nat.{ℕ, ◌+◌, ◌≤◌, ◌<◌, zero, suc, ◌*◌, ◌%◌}
use mathlib.Core.Path.{◌≡◌, refl, sym, ap, ◌∙◌}
use native.Mathlib.Decide.{ℕ_discrete}
use native.Mathlib.Omega.{arith}
use lib.Dec.{eqb, ltb, leb}
use lib.ListN.{length, length-set, get_or, set}
use lib.Seq.{get_or-set_same, get_or-set_other}
use borrow.Author.Tests.{lt-ltb, ne_eqb, leb-true}
use Rattle.numbers.specs.Tags.{last_tag}
use Rattle.laws.specs.Choice.{pick, bit}
use Rattle.config.specs.declared.Config.{Config}
use Rattle.config.specs.Tables.{no_runnable_conf, no_variable_conf, no_area_conf, no_required_conf, no_provided_conf, no_link, no_operation_conf, no_timer_conf, no_data_event, no_return_event, no_listed}
use Rattle.entries.specs.declared.Entry.{Entry}
use Rattle.entries.specs.Entries.{max_of, count_of, places_of, entry_of, placed, no_entry, runnable_entry, runnable_part, variable_entry, variable_part, area_entry, area_part, required_entry, required_part, provided_entry, provided_part, link_entry, link_part, operation_entry, operation_part, timer_entry, timer_part, data_event_entry, data_event_part, return_event_entry, return_event_part, listed_entry, listed_part}
use mathlib.Core.Bool.{true}
use mathlib.Core.List.{List}
use Rattle.laws.proofs.Choosing.{both_left, both_right}
use Rattle.entries.specs.Faults.{in_range}
use Rattle.config.specs.Table.{add_part, part_in}
use Rattle.reading.specs.Reading.{entry_read}

-- what holds of each kind holds of any tag between the first and the last
pub each-kind : (P : ℕ → Type 0) → P 0x10 → P 0x11 → P 0x12 → P 0x13 → P 0x14 → P 0x15 → P 0x16 → P 0x17 → P 0x18 → P 0x19 → P 0x1a → P 0x1b
    → (tag : ℕ) → 0x10 ≤ tag → tag ≤ last_tag → P tag
each-kind P a b c d e f g h i j m n tag low high =
    on 0x10 low a (λ l. on 0x11 l b (λ l. on 0x12 l c (λ l. on 0x13 l d (λ l. on 0x14 l e
    (λ l. on 0x15 l f (λ l. on 0x16 l g (λ l. on 0x17 l h (λ l. on 0x18 l i (λ l. on 0x19 l j
    (λ l. on 0x1a l m (λ l. on 0x1b l n (λ l. absurd (omega arith)))))))))))))
  where
    on : (k : ℕ) → k ≤ tag → P k → (k + 1 ≤ tag → P tag) → P tag
    on k l x rest = go (ℕ_discrete tag k)
      where
        go : Dec (tag ≡ k) → P tag
        go (yes q) = rw q x
        go (no n) = rest (omega (arith, n))

-- the entry of the part that an entry says: the entry itself, where its flags are in range and its unused numbers 0
unfoldable pub back_of : ℕ → Entry → Entry
back_of tag e =
    pick (eqb tag 0x10) (runnable_entry (runnable_part e))
    (pick (eqb tag 0x11) (variable_entry (variable_part e))
    (pick (eqb tag 0x12) (area_entry (area_part e))
    (pick (eqb tag 0x13) (required_entry (required_part e))
    (pick (eqb tag 0x14) (provided_entry (provided_part e))
    (pick (eqb tag 0x15) (link_entry (link_part e))
    (pick (eqb tag 0x16) (operation_entry (operation_part e))
    (pick (eqb tag 0x17) (timer_entry (timer_part e))
    (pick (eqb tag 0x18) (data_event_entry (data_event_part e))
    (pick (eqb tag 0x19) (return_event_entry (return_event_part e))
    (pick (eqb tag 0x1a) (listed_entry (listed_part e))
    (pick (eqb tag 0x1b) (listed_entry (listed_part e))
    no_entry)))))))))))

-- cfg' has one part more of a kind, with the entry e, and is otherwise as cfg
pub record Adds (cfg cfg' : Config) (tag : ℕ) (e : Entry) : Type 0 where
  pub edition : cfg'.edition ≡ cfg.edition
  pub own : count_of cfg' tag ≡ count_of cfg tag + 1
  pub counts : (k : ℕ) → (k ≡ tag → ⊥) → count_of cfg' k ≡ count_of cfg k
  pub places : (k : ℕ) → places_of cfg' k ≡ places_of cfg k
  pub entry : entry_of cfg' tag (count_of cfg tag) ≡ e
  pub earlier : (i : ℕ) → (i ≡ count_of cfg tag → ⊥) → entry_of cfg' tag i ≡ entry_of cfg tag i
  pub others : (k i : ℕ) → (k ≡ tag → ⊥) → entry_of cfg' k i ≡ entry_of cfg k i

-- a table with one part more, of the kind whose entries it holds
row-adds : {A : Type 0} {cfg cfg' : Config} {tag : ℕ} (entry : A → Entry) (d x : A) (l : List A) (n : ℕ) → n < length l → count_of cfg tag ≡ n → count_of cfg' tag ≡ n + 1
    → ((i : ℕ) → entry_of cfg tag i ≡ entry (get_or l i d)) → ((i : ℕ) → entry_of cfg' tag i ≡ entry (get_or (set l n x) i d))
    → (length (set l n x) ≡ length l → (k : ℕ) → places_of cfg' k ≡ places_of cfg k)
    → ((k : ℕ) → (k ≡ tag → ⊥) → (count_of cfg' k ≡ count_of cfg k) × ((i : ℕ) → entry_of cfg' k i ≡ entry_of cfg k i)) → cfg'.edition ≡ cfg.edition → Adds cfg cfg' tag (entry x)
row-adds {A} {cfg} {cfg'} {tag} entry d x l n b own more was now places rest same = record {
  edition = same;
  own = more ∙ ap (λ (m : ℕ). m + 1) (sym own);
  counts = λ k q. (rest k q).0;
  places = places (length-set l n x);
  entry = ap (entry_of cfg' tag) own ∙ now n ∙ ap entry (get_or-set_same l n x d b);
  earlier = λ i q. now i ∙ ap entry (get_or-set_other l n i x d (λ e. q (e ∙ sym own))) ∙ sym (was i);
  others = λ k i q. (rest k q).1 i;
}

-- a kind with room: one part more
pub adds : (cfg : Config) (e : Entry) (tag : ℕ) → 0x10 ≤ tag → tag ≤ last_tag → count_of cfg tag < max_of tag → places_of cfg tag ≡ max_of tag → Adds cfg (placed cfg tag e) tag (back_of tag e)
unfolding count_of max_of places_of placed entry_of back_of part_in add_part
adds cfg e =
    each-kind (λ tag. count_of cfg tag < max_of tag → places_of cfg tag ≡ max_of tag → Adds cfg (placed cfg tag e) tag (back_of tag e))
    (λ h l. rw (lt-ltb cfg.runnables.n 16 h) (row-adds runnable_entry no_runnable_conf (runnable_part e) cfg.runnables.at cfg.runnables.n (omega arith) refl refl (λ i. refl) (λ i. refl) (λ q k. rw q) (λ k n. rw (ne_eqb k 0x10 n) (refl, λ i. refl)) refl))
    (λ h l. rw (lt-ltb cfg.variables.n 16 h) (row-adds variable_entry no_variable_conf (variable_part e) cfg.variables.at cfg.variables.n (omega arith) refl refl (λ i. refl) (λ i. refl) (λ q k. rw q) (λ k n. rw (ne_eqb k 0x11 n) (refl, λ i. refl)) refl))
    (λ h l. rw (lt-ltb cfg.areas.n 16 h) (row-adds area_entry no_area_conf (area_part e) cfg.areas.at cfg.areas.n (omega arith) refl refl (λ i. refl) (λ i. refl) (λ q k. rw q) (λ k n. rw (ne_eqb k 0x12 n) (refl, λ i. refl)) refl))
    (λ h l. rw (lt-ltb cfg.required.n 16 h) (row-adds required_entry no_required_conf (required_part e) cfg.required.at cfg.required.n (omega arith) refl refl (λ i. refl) (λ i. refl) (λ q k. rw q) (λ k n. rw (ne_eqb k 0x13 n) (refl, λ i. refl)) refl))
    (λ h l. rw (lt-ltb cfg.provided.n 16 h) (row-adds provided_entry no_provided_conf (provided_part e) cfg.provided.at cfg.provided.n (omega arith) refl refl (λ i. refl) (λ i. refl) (λ q k. rw q) (λ k n. rw (ne_eqb k 0x14 n) (refl, λ i. refl)) refl))
    (λ h l. rw (lt-ltb cfg.links.n 32 h) (row-adds link_entry no_link (link_part e) cfg.links.at cfg.links.n (omega arith) refl refl (λ i. refl) (λ i. refl) (λ q k. rw q) (λ k n. rw (ne_eqb k 0x15 n) (refl, λ i. refl)) refl))
    (λ h l. rw (lt-ltb cfg.operations.n 8 h) (row-adds operation_entry no_operation_conf (operation_part e) cfg.operations.at cfg.operations.n (omega arith) refl refl (λ i. refl) (λ i. refl) (λ q k. rw q) (λ k n. rw (ne_eqb k 0x16 n) (refl, λ i. refl)) refl))
    (λ h l. rw (lt-ltb cfg.timers.n 8 h) (row-adds timer_entry no_timer_conf (timer_part e) cfg.timers.at cfg.timers.n (omega arith) refl refl (λ i. refl) (λ i. refl) (λ q k. rw q) (λ k n. rw (ne_eqb k 0x17 n) (refl, λ i. refl)) refl))
    (λ h l. rw (lt-ltb cfg.devents.n 32 h) (row-adds data_event_entry no_data_event (data_event_part e) cfg.devents.at cfg.devents.n (omega arith) refl refl (λ i. refl) (λ i. refl) (λ q k. rw q) (λ k n. rw (ne_eqb k 0x18 n) (refl, λ i. refl)) refl))
    (λ h l. rw (lt-ltb cfg.revents.n 16 h) (row-adds return_event_entry no_return_event (return_event_part e) cfg.revents.at cfg.revents.n (omega arith) refl refl (λ i. refl) (λ i. refl) (λ q k. rw q) (λ k n. rw (ne_eqb k 0x19 n) (refl, λ i. refl)) refl))
    (λ h l. rw (lt-ltb cfg.incoming.n 64 h) (row-adds listed_entry no_listed (listed_part e) cfg.incoming.at cfg.incoming.n (omega arith) refl refl (λ i. refl) (λ i. refl) (λ q k. rw q) (λ k n. rw (ne_eqb k 0x1a n) (refl, λ i. refl)) refl))
    (λ h l. rw (lt-ltb cfg.outgoing.n 64 h) (row-adds listed_entry no_listed (listed_part e) cfg.outgoing.at cfg.outgoing.n (omega arith) refl refl (λ i. refl) (λ i. refl) (λ q k. rw q) (λ k n. rw (ne_eqb k 0x1b n) (refl, λ i. refl)) refl))

-- ---- the entry of a part that was read is the entry that the bytes say

flags-back : (s : ℕ) → s ≤ 7 → bit (eqb (s % 2) 1) + 2 * bit (ltb 1 (s % 4)) + 4 * bit (ltb 3 s) ≡ s
flags-back zero h = refl
flags-back (suc zero) h = refl
flags-back (suc (suc zero)) h = refl
flags-back (suc (suc (suc zero))) h = refl
flags-back (suc (suc (suc (suc zero)))) h = refl
flags-back (suc (suc (suc (suc (suc zero))))) h = refl
flags-back (suc (suc (suc (suc (suc (suc zero)))))) h = refl
flags-back (suc (suc (suc (suc (suc (suc (suc zero))))))) h = refl
flags-back (suc (suc (suc (suc (suc (suc (suc (suc s)))))))) h = absurd (omega arith)

mark-back : (s : ℕ) → s ≤ 1 → bit (eqb s 1) ≡ s
mark-back zero h = refl
mark-back (suc zero) h = refl
mark-back (suc (suc s)) h = absurd (omega arith)

pub back_read : (tag : ℕ) → 0x10 ≤ tag → tag ≤ last_tag → (t : List ℕ) → in_range tag (entry_read tag t) ≡ true → back_of tag (entry_read tag t) ≡ entry_read tag t
unfolding in_range back_of entry_read
back_read =
    each-kind (λ tag. (t : List ℕ) → in_range tag (entry_read tag t) ≡ true → back_of tag (entry_read tag t) ≡ entry_read tag t)
    (λ t h. rw (flags-back (get_or t 4 0) (leb-true (get_or t 4 0) 7 (both_left (leb (get_or t 4 0) 7) _ (both_right (leb (get_or t 3 0) 15) _ h)))))
    (λ t h. rw (mark-back (get_or t 4 0) (leb-true (get_or t 4 0) 1 (both_right (leb (get_or t 3 0) 15) _ h))))
    (λ t h. refl)
    (λ t h. refl)
    (λ t h. rw (mark-back (get_or t 4 0) (leb-true (get_or t 4 0) 1 (both_right (leb (get_or t 3 0) 15) _ h))))
    (λ t h. refl)
    (λ t h. rw (mark-back (get_or t 4 0) (leb-true (get_or t 4 0) 1 (both_left (leb (get_or t 4 0) 1) _ (both_right (leb (get_or t 3 0) 15) _ h)))))
    (λ t h. refl)
    (λ t h. refl)
    (λ t h. refl)
    (λ t h. refl)
    (λ t h. refl)
