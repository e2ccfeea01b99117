-- Who lives in a slot, by the spawns and ends of the recording: one does exactly if the slot is in use (`Lives`). A spawn puts an instance into an empty slot (`lives-spawn`), an end
-- empties its own (`lives-end`), and any other step leaves all slots in use or not as they were (`lives-still`). Every deed is of these kinds (`lives-deed`).
-- Assumes nothing.
use Prim.Native.Nat.{ℕ, ◌+◌, ◌<◌}
use mathlib.Core.Bool.{true, false}
use mathlib.Core.List.{List, [], ◌∷◌, ◌++◌}
use mathlib.Core.Path.{◌≡◌, refl, sym, ◌∙◌, ap}
use native.Mathlib.Omega.{arith}
use lib.Dec.{ltb, eqb}
use lib.ListN.{length}
use borrow.Author.Tests.{lt-ltb, eqb-true, eq-eqb}
use Rattle.numbers.specs.Codes.{end_code, spawn_code}
use Rattle.laws.specs.Choice.{both}
use Rattle.laws.proofs.Choosing.{both_left, both_right, pick-has}
use Rattle.faces.specs.Types.{Value, Step, Config, Slot, Slots, State}
use Rattle.values.specs.Values.{number_v}
use Rattle.config.specs.Tables.{runnable_conf_in}
use Rattle.state.specs.Parts.{no_slot}
use Rattle.state.specs.Start.{start_of}
use Rattle.state.specs.Tables.{slot_in, runnable_in, with_slot}
use Rattle.effects.specs.Steps.{called, closed, finishing, instance_of, lowest_empty, spawned, failing}
use Rattle.stays_sound.specs.Facts.{Sound, CanSpawn}
use Rattle.stays_sound.proofs.Told.{slots_length}
use Rattle.stays_sound.proofs.Kept.{slot_kept, slot-inside, caller-kept}
use Rattle.history.specs.History.{traced_from, lives_after, lives_in}
use Rattle.history.proofs.Beside.{all_alike, set-each}
use Rattle.history.proofs.Traced.{traced-one}
use Rattle.state.specs.Places.{no_places, place_in, with_place}
use Rattle.history.proofs.Deeds.{Deed, pass, call, answer, late, end, server, plain, timeout, fail, other-code}

-- ---- who lives there, step by step

pub lives-one : (i : ℕ) (rs : List Step) (s : Step) → lives_in i (rs ++ (s ∷ [])) ≡ lives_after i (length rs + 1) (lives_in i rs) s
unfolding lives_in
lives-one i rs s = traced-one (lives_after i) 0 rs s

pub spawn-puts : (i n w : ℕ) (s : Step) → s.code ≡ spawn_code → s.claim.number ≡ i → lives_after i n w s ≡ n
unfolding lives_after
spawn-puts i n w s c e = rw (c, eq-eqb s.claim.number i e)

end_leaves : (i n w : ℕ) (s : Step) → s.code ≡ end_code → s.who ≡ i → lives_after i n w s ≡ 0
unfolding lives_after
end_leaves i n w s c e = rw (c, eq-eqb s.who i e)

-- neither a spawn into this slot, nor an end in it
pub lives-on : (i n w : ℕ) (s : Step) → (s.code ≡ spawn_code → s.claim.number ≡ i → ⊥) → (s.code ≡ end_code → s.who ≡ i → ⊥) → lives_after i n w s ≡ w
unfolding lives_after
lives-on i n w s a b =
    pick-has (λ x. x ≡ w) (both (eqb s.code spawn_code) (eqb s.claim.number i)) n _
    (λ e. absurd (a (eqb-true _ _ (both_left (eqb s.code spawn_code) _ e)) (eqb-true _ _ (both_right (eqb s.code spawn_code) _ e))))
    (λ e. pick-has (λ x. x ≡ w) (both (eqb s.code end_code) (eqb s.who i)) 0 w
    (λ e. absurd (b (eqb-true _ _ (both_left (eqb s.code end_code) _ e)) (eqb-true _ _ (both_right (eqb s.code end_code) _ e))))
    (λ e. refl))

-- ---- a slot is in use exactly while one lives there

pub record Lives (ss : Slots) (rs : List Step) : Type 0 where
  pub used : (i : ℕ) → (slot_in ss i).used ≡ ltb 0 (lives_in i rs)

pub lives-start : (cfg : Config) → Lives (start_of cfg).slots []
unfolding start_of no_places place_in no_slot lives_in traced_from
lives-start cfg = record { used = λ i. all_alike (λ (y : Slot). y.used ≡ false) 32 no_slot i refl }

module _ (ss : Slots) (rs : List Step) (s : Step) (l : Lives ss rs) where
  lives-still : (ss' : Slots) → (s.code ≡ spawn_code → ⊥) → (s.code ≡ end_code → ⊥) → ((i : ℕ) → (slot_in ss' i).used ≡ (slot_in ss i).used) → Lives ss' (rs ++ (s ∷ []))
  lives-still ss' n m k = record { used = λ i. rw (lives-one i rs s, lives-on i (length rs + 1) (lives_in i rs) s (λ c e. n c) (λ c e. m c)) (k i ∙ l.used i) }

  lives-spawn : (j : ℕ) (x : Slot) → s.code ≡ spawn_code → s.claim.number ≡ j → j < length ss.at → x.used ≡ true → Lives (with_slot ss j x) (rs ++ (s ∷ []))
  unfolding place_in with_place
  lives-spawn j x c e b u = record {
    used =
        set-each (λ i y. y.used ≡ ltb 0 (lives_in i (rs ++ (s ∷ [])))) ss.at j x no_slot b
        (rw (lives-one j rs s, spawn-puts j (length rs + 1) (lives_in j rs) s c e, lt-ltb 0 (length rs + 1) (omega arith)) u)
        (λ i n. rw (lives-one i rs s, lives-on i (length rs + 1) (lives_in i rs) s (λ q z. n (sym z ∙ e)) (λ q z. omega (arith, c, q))) (l.used i));
  }

  lives-end : s.code ≡ end_code → s.who < length ss.at → Lives (with_slot ss s.who no_slot) (rs ++ (s ∷ []))
  unfolding place_in with_place no_slot
  lives-end c b = record {
    used =
        set-each (λ i y. y.used ≡ ltb 0 (lives_in i (rs ++ (s ∷ [])))) ss.at s.who no_slot no_slot b
        (rw (lives-one s.who rs s, end_leaves s.who (length rs + 1) (lives_in s.who rs) s c refl))
        (λ i n. rw (lives-one i rs s, lives-on i (length rs + 1) (lives_in i rs) s (λ q z. omega (arith, c, q)) (λ q z. n (sym z))) (l.used i));
  }

-- ---- every deed

-- a new instance's slot is in use
new-used : (cfg : Config) (st : State) (r : ℕ) → (instance_of (runnable_conf_in cfg.runnables r) r (runnable_in st.runnables r)).used ≡ true
unfolding instance_of
new-used cfg st r = pick-has (λ (y : Slot). y.used ≡ true) (eqb (runnable_conf_in cfg.runnables r).capacity 0) _ _ (λ e. refl) (λ e. refl)

pub lives-deed : (cfg : Config) (st : State) (s : Step) (st' : State) (rs : List Step) → Sound cfg st → Deed cfg st s st' → Lives st.slots rs → Lives st'.slots (rs ++ (s ∷ []))
unfolding called closed spawned
lives-deed cfg st s st' rs g d l = go d
  where
    same : {n : ℕ} → s.code ≡ n → eqb n spawn_code ≡ false → eqb n end_code ≡ false → ((i : ℕ) → (slot_in st'.slots i).used ≡ (slot_in st.slots i).used) → Lives st'.slots (rs ++ (s ∷ []))
    same c f h k = lives-still st.slots rs s l st'.slots (other-code spawn_code c f) (other-code end_code c h) k

    comes : s.code ≡ spawn_code → s.claim ≡ number_v (lowest_empty st.slots) → CanSpawn cfg st s.what → Lives (spawned cfg st s.what (lowest_empty st.slots)).slots (rs ++ (s ∷ []))
    comes c k z = lives-spawn st.slots rs s l (lowest_empty st.slots) _ c (ap (λ (v : Value). v.number) k) (omega (arith, slots_length cfg st g, z.slot)) (new-used cfg st s.what)

    go : Deed cfg st s st' → Lives st'.slots (rs ++ (s ∷ []))
    go (pass a q m w) = lives-still st.slots rs s l st'.slots q.spawn q.end a.used
    go (call c k z e) = same c refl refl (λ i. rw e (slot_kept (λ y. y.used) st.slots s.who _ (caller-kept (λ y. y.used) (λ y o. refl) cfg s.what (slot_in st.slots s.who)) i))
    go (answer c k z a e) = same c refl refl (λ i. rw e (slot_kept (λ y. y.used) st.slots s.who (finishing (slot_in st.slots s.who)) refl i))
    go (late c k z e) = same c refl refl (λ i. rw e (slot_kept (λ y. y.used) st.slots s.who (finishing (slot_in st.slots s.who)) refl i))
    go (end c z e) = rw e.slots (lives-end st.slots rs s l c (slot-inside st.slots s.who z.there.used))
    go (server c k y z e) = rw e.slots (comes c k z)
    go (plain c k y z e) = rw e.slots (comes c k z)
    go (timeout c z e) = same c refl refl (λ i. rw e)
    go (fail c z e) = same c refl refl (λ i. rw e (slot_kept (λ y. y.used) st.slots s.who (failing (slot_in st.slots s.who)) refl i))
