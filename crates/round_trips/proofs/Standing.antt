-- A part of a configuration: the kinds below one, and the first parts of that kind. How it grows part by part, and that in the end it is the configuration.
-- Assumes nothing.
use Prim.Native.Nat.{ℕ, ◌+◌, ◌<◌, ◌≤◌}
use mathlib.Core.Bool.{true}
use mathlib.Core.Path.{◌≡◌, refl, sym, ap, ◌∙◌}
use native.Mathlib.Decide.{ℕ_discrete, dec_lt}
use native.Mathlib.Omega.{arith}
use Rattle.numbers.specs.Tags.{last_tag}
use Rattle.config.specs.declared.Config.{Config}
use Rattle.config.specs.Tables.{no_config}
use Rattle.entries.specs.Entries.{no_entry, max_of, count_of, places_of, entry_of, with_edition}
use Rattle.entries.specs.Faults.{config_sound}
use Rattle.entries.proofs.Kind.{config-told}
use Rattle.entries.proofs.Editions.{edition-count, edition-places, edition-entry}
use Rattle.entries.proofs.Tags.{no-kind-count, no-kind-entry, blank_none, blank-sound}
use Rattle.reading.proofs.Adding.{Adds}
use Rattle.round_trips.proofs.Sameness.{same-config, no_more}

-- ---- a part of the configuration stands: the kinds below tag, and the first i parts of that kind

pub record Stands (cfg p : Config) (tag i : ℕ) : Type 0 where
  pub counts : (k : ℕ) → k < tag → count_of p k ≡ count_of cfg k
  pub edition : p.edition ≡ cfg.edition
  pub own : count_of p tag ≡ i
  pub above : (k : ℕ) → tag < k → count_of p k ≡ 0
  pub places : (k : ℕ) → 0x10 ≤ k → k ≤ last_tag → places_of p k ≡ max_of k
  pub lower : (k n : ℕ) → k < tag → entry_of p k n ≡ entry_of cfg k n
  pub same : (n : ℕ) → n < i → entry_of p tag n ≡ entry_of cfg tag n
  pub blank : (k n : ℕ) → tag ≤ k → k ≤ last_tag → count_of p k ≤ n → entry_of p k n ≡ no_entry

-- a configuration with nothing but its edition
pub stands-start : (cfg : Config) → Stands cfg (with_edition no_config cfg.edition) 0x10 0
stands-start cfg = record {
  edition = refl;
  counts = λ k h. edition-count no_config cfg.edition k ∙ blank_none k ∙ sym (no-kind-count k (λ l _. omega arith) cfg);
  own = edition-count no_config cfg.edition 0x10 ∙ blank_none 0x10;
  above = λ k l. edition-count no_config cfg.edition k ∙ blank_none k;
  places = λ k l h. edition-places no_config cfg.edition k ∙ (config-told no_config blank-sound k l h).places;
  lower = λ k n h. no-kind-entry k (λ l _. omega arith) (with_edition no_config cfg.edition) n ∙ sym (no-kind-entry k (λ l _. omega arith) cfg n);
  same = λ n l. absurd (omega arith);
  blank = λ k n l h b. edition-entry no_config cfg.edition k n ∙ no_more no_config blank-sound k l h n (omega (arith, b, edition-count no_config cfg.edition k));
}

-- one part more
pub stands-grow : (cfg p p' : Config) (tag i : ℕ) → Stands cfg p tag i → Adds p p' tag (entry_of cfg tag i) → Stands cfg p' tag (i + 1)
stands-grow cfg p p' tag i f a = record {
  edition = a.edition ∙ f.edition;
  counts = λ k h. a.counts k (λ q. omega (arith, q, h)) ∙ f.counts k h;
  own = a.own ∙ ap (λ (n : ℕ). n + 1) f.own;
  above = λ k l. a.counts k (λ q. omega (arith, q, l)) ∙ f.above k l;
  places = λ k l h. a.places k ∙ f.places k l h;
  lower = λ k n h. a.others k n (λ q. omega (arith, q, h)) ∙ f.lower k n h;
  same = λ n l. which n l (ℕ_discrete n i);
  blank = λ k n l h b. behind k n l h b (ℕ_discrete k tag);
}
  where
    which : (n : ℕ) → n < i + 1 → Dec (n ≡ i) → entry_of p' tag n ≡ entry_of cfg tag n
    which n l (yes q) = ap (entry_of p' tag) (q ∙ sym f.own) ∙ a.entry ∙ ap (entry_of cfg tag) (sym q)
    which n l (no d) = a.earlier n (λ q. d (q ∙ f.own)) ∙ f.same n (omega (arith, l, d))

    behind : (k n : ℕ) → tag ≤ k → k ≤ last_tag → count_of p' k ≤ n → Dec (k ≡ tag) → entry_of p' k n ≡ no_entry
    behind k n l h b (yes q) =
        let c : count_of p tag + 1 ≤ n = omega (arith, b, a.own, ap (count_of p') q) in
        ap (λ (x : ℕ). entry_of p' x n) q ∙ a.earlier n (λ z. omega (arith, z, c)) ∙ f.blank tag n (omega arith) (omega (arith, h, q)) (omega arith)
    behind k n l h b (no d) = a.others k n d ∙ f.blank k n l h (omega (arith, b, a.counts k d))

-- all of a kind stands
pub stands-next : (cfg p : Config) (tag : ℕ) → config_sound cfg ≡ true → 0x10 ≤ tag → tag ≤ last_tag → Stands cfg p tag (count_of cfg tag) → Stands cfg p (tag + 1) 0
stands-next cfg p tag s low high f = record {
  edition = f.edition;
  counts = λ k h. count k h (ℕ_discrete k tag);
  own = f.above (tag + 1) (omega arith);
  above = λ k l. f.above k (omega arith);
  places = f.places;
  lower = λ k n h. entry k n h (ℕ_discrete k tag) (dec_lt n (count_of cfg tag));
  same = λ n l. absurd (omega arith);
  blank = λ k n l h b. f.blank k n (omega arith) h b;
}
  where
    count : (k : ℕ) → k < tag + 1 → Dec (k ≡ tag) → count_of p k ≡ count_of cfg k
    count k h (yes q) = ap (count_of p) q ∙ f.own ∙ ap (count_of cfg) (sym q)
    count k h (no d) = f.counts k (omega (arith, h, d))

    entry : (k n : ℕ) → k < tag + 1 → Dec (k ≡ tag) → Dec (n < count_of cfg tag) → entry_of p k n ≡ entry_of cfg k n
    entry k n h (yes q) (yes b) = ap (λ (x : ℕ). entry_of p x n) q ∙ f.same n b ∙ ap (λ (x : ℕ). entry_of cfg x n) (sym q)
    entry k n h (yes q) (no b) =
        ap (λ (x : ℕ). entry_of p x n) q ∙ f.blank tag n (omega arith) high (omega (arith, b, f.own))
        ∙ sym (ap (λ (x : ℕ). entry_of cfg x n) q ∙ no_more cfg s tag low high n (omega (arith, b)))
    entry k n h (no d) b = f.lower k n (omega (arith, h, d))

-- all kinds stand: it is the configuration
pub stands-all : (cfg p : Config) → config_sound cfg ≡ true → Stands cfg p 0x1c 0 → p ≡ cfg
stands-all cfg p s f =
    same-config p cfg f.edition (λ k l h. record {
      counts = f.counts k (omega arith);
      places = f.places k l h ∙ sym (config-told cfg s k l h).places;
      entries = λ i b. f.lower k i (omega arith);
    })
