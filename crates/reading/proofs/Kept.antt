-- The faults of an entry rest on the edition, on the counts and entries of the kinds below its own, and on the entries before it: where those agree, two configurations find the same.
-- Assumes nothing.
use Prim.Native.Nat.{ℕ, ◌-◌, ◌<◌}
use mathlib.Core.Bool.{Bool, true, false, not}
use mathlib.Core.Path.{◌≡◌, refl, sym, ap, ◌∙◌}
use native.Mathlib.Omega.{arith}
use lib.Dec.{eqb, ltb}
use borrow.Author.Tests.{eqb-true, eqb-false}
use Rattle.laws.specs.Choice.{pick, either, bit}
use Rattle.laws.proofs.Choosing.{bit-back}
use Rattle.laws.proofs.Looping.{sum_same}
use Rattle.config.specs.declared.Config.{Config}
use Rattle.config.specs.Tables.{runnable_conf_in, provided_conf_in, listed_in}
use Rattle.config.specs.Lists.{listed_below}
use Rattle.entries.specs.declared.Entry.{Entry}
use Rattle.entries.specs.Entries.{count_of, entry_of}
use Rattle.entries.specs.Faults.{has_room, names_there, is_server, is_queued, rises, rises_at, lists_well, pairs_well, entry_fault}

-- two choices by one test agree where their sides do
pub pick_same : {A : Type 0} (b : Bool) (x y x' y' : A) → (b ≡ true → x ≡ x') → (b ≡ false → y ≡ y') → pick b x y ≡ pick b x' y'
pick_same true x y x' y' f g = f refl
pick_same false x y x' y' f g = g refl

either_same : (b x x' : Bool) → (b ≡ false → x ≡ x') → either b x ≡ either b x'
either_same true x x' f = refl
either_same false x x' f = f refl

-- for one tag or another; the kinds below it agree
module _ (cfg cfg' : Config) (k : ℕ) (counts : (j : ℕ) → j < k → count_of cfg' j ≡ count_of cfg j) (entries : (j i : ℕ) → j < k → entry_of cfg' j i ≡ entry_of cfg j i) where
  below : (j m : ℕ) → m < j → eqb k j ≡ true → m < k
  below j m l h = omega (arith, eqb-true k j h)

  server-kept : (r : ℕ) → 0x10 < k → is_server cfg' r ≡ is_server cfg r
  unfolding is_server entry_of
  server-kept r h = ap (λ (e : Entry). ltb 0 e.third) (entries 0x10 r h)

  queued-kept : (q : ℕ) → 0x13 < k → is_queued cfg' q ≡ is_queued cfg q
  unfolding is_queued entry_of
  queued-kept q h = ap (λ (e : Entry). ltb 0 e.second) (entries 0x13 q h)

  provided-kept : (p : ℕ) → 0x14 < k → (provided_conf_in cfg'.provided p).queued ≡ (provided_conf_in cfg.provided p).queued
  unfolding entry_of
  provided-kept p h =
      sym (bit-back (provided_conf_in cfg'.provided p).queued) ∙ ap (λ (e : Entry). eqb e.second 1) (entries 0x14 p h) ∙ bit-back (provided_conf_in cfg.provided p).queued

  -- an element that a runnable lists (W-211)
  lists-kept : (r : ℕ) (x : Entry) → 0x10 < k → lists_well cfg' r x ≡ lists_well cfg r x
  unfolding lists_well entry_of
  lists-kept r x h =
      let c : (runnable_conf_in cfg'.runnables r).component ≡ (runnable_conf_in cfg.runnables r).component = ap (λ (e : Entry). e.first) (entries 0x10 r h) in
      rw (server-kept r h, c)

  names-kept : (e : Entry) → names_there cfg' k e ≡ names_there cfg k e
  unfolding names_there count_of
  names-kept e =
      pick_same (eqb k 0x15) _ _ _ _ (λ h. rw (counts 0x14 (below 0x15 0x14 (omega arith) h), counts 0x13 (below 0x15 0x13 (omega arith) h)))
      (λ _. pick_same (eqb k 0x16) _ _ _ _ (λ h. rw (counts 0x10 (below 0x16 0x10 (omega arith) h)))
      (λ _. pick_same (eqb k 0x17) _ _ _ _ (λ h. rw (counts 0x10 (below 0x17 0x10 (omega arith) h)))
      (λ _. pick_same (eqb k 0x18) _ _ _ _ (λ h. rw (counts 0x10 (below 0x18 0x10 (omega arith) h), counts 0x13 (below 0x18 0x13 (omega arith) h)))
      (λ _. pick_same (eqb k 0x19) _ _ _ _ (λ h. rw (counts 0x10 (below 0x19 0x10 (omega arith) h), counts 0x16 (below 0x19 0x16 (omega arith) h)))
      (λ _. pick_same (eqb k 0x1a) _ _ _ _ (λ h. rw (counts 0x10 (below 0x1a 0x10 (omega arith) h), counts 0x13 (below 0x1a 0x13 (omega arith) h)))
      (λ _. pick_same (eqb k 0x1b) _ _ _ _ (λ h. rw (counts 0x10 (below 0x1b 0x10 (omega arith) h), counts 0x14 (below 0x1b 0x14 (omega arith) h)))
      (λ _. refl)))))))

  module _ (i : ℕ) (before : (n : ℕ) → n < i → entry_of cfg' k n ≡ entry_of cfg k n) where
    -- how many pairs of a runnable stand before it (W-211)
    room-kept : (e : Entry) → has_room cfg' k i e ≡ has_room cfg k i e
    unfolding has_room listed_below entry_of
    room-kept e =
        pick_same (eqb k 0x1a) _ _ _ _ (λ h. ap (λ (n : ℕ). ltb n 4) (sum_same (λ (n : ℕ). bit (eqb (listed_in cfg'.incoming n).runnable e.first)) (λ (n : ℕ). bit (eqb (listed_in cfg.incoming n).runnable e.first)) i (λ n l. own 0x1a h n l)))
        (λ _. pick_same (eqb k 0x1b) _ _ _ _ (λ h. ap (λ (n : ℕ). ltb n 4) (sum_same (λ (n : ℕ). bit (eqb (listed_in cfg'.outgoing n).runnable e.first)) (λ (n : ℕ). bit (eqb (listed_in cfg.outgoing n).runnable e.first)) i (λ n l. own 0x1b h n l)))
        (λ _. refl))
      where
        own : (j : ℕ) → eqb k j ≡ true → (n : ℕ) → n < i → bit (eqb (entry_of cfg' j n).first e.first) ≡ bit (eqb (entry_of cfg j n).first e.first)
        own j h n l = ap (λ (x : Entry). bit (eqb x.first e.first)) (rw (eqb-true k j h) at (before n l))

    rises-kept : (e : Entry) → rises_at cfg' k i e ≡ rises_at cfg k i e
    unfolding rises_at
    rises-kept e = either_same (eqb i 0) _ _ (λ h. ap (λ (d : Entry). rises d e) (before (i - 1) (omega (arith, eqb-false i 0 h))))

    pairs-kept : (e : Entry) → pairs_well cfg' k i e ≡ pairs_well cfg k i e
    unfolding pairs_well
    pairs-kept e =
        pick_same (eqb k 0x10) _ _ _ _ (λ _. refl)
        (λ _. pick_same (eqb k 0x11) _ _ _ _ (λ _. refl)
        (λ _. pick_same (eqb k 0x15) _ _ _ _ (λ h. rw (provided-kept e.first (below 0x15 0x14 (omega arith) h), queued-kept e.second (below 0x15 0x13 (omega arith) h), rises-kept e))
        (λ _. pick_same (eqb k 0x16) _ _ _ _ (λ h. server-kept e.third (below 0x16 0x10 (omega arith) h))
        (λ _. pick_same (eqb k 0x17) _ _ _ _ (λ h. ap not (server-kept e.first (below 0x17 0x10 (omega arith) h)))
        (λ _. pick_same (eqb k 0x18) _ _ _ _ (λ h. rw (server-kept e.first (below 0x18 0x10 (omega arith) h), rises-kept e))
        (λ _. pick_same (eqb k 0x19) _ _ _ _ (λ h. rw (server-kept e.first (below 0x19 0x10 (omega arith) h), rises-kept e))
        (λ _. pick_same (eqb k 0x1a) _ _ _ _ (λ h. rw (entries 0x13 e.second (below 0x1a 0x13 (omega arith) h), lists-kept e.first (entry_of cfg 0x13 e.second) (below 0x1a 0x10 (omega arith) h), rises-kept e))
        (λ _. pick_same (eqb k 0x1b) _ _ _ _ (λ h. rw (entries 0x14 e.second (below 0x1b 0x14 (omega arith) h), lists-kept e.first (entry_of cfg 0x14 e.second) (below 0x1b 0x10 (omega arith) h), rises-kept e))
        (λ _. refl)))))))))

    pub fault-kept : cfg'.edition ≡ cfg.edition → (e : Entry) → entry_fault cfg' k i e ≡ entry_fault cfg k i e
    unfolding entry_fault
    fault-kept same e = rw (room-kept e, names-kept e, pairs-kept e, same)
