-- Who has handed back, by the hand backs, spawns and ends of the recording: an instance is finished exactly if it has (`Backs`). And who has failed does not wait (`Runs`), as a
-- call, which makes one wait, is barred to it; and who was spawned for a call owes its answer or has handed back (`Paid`). Every deed keeps each (`backs-deed`, `runs-deed`, `paid-deed`).
-- Assumes nothing.
use Prim.Native.Nat.{ℕ, ◌<◌}
use mathlib.Core.Bool.{Bool, true, false}
use mathlib.Core.List.{List, [], ◌∷◌, ◌++◌}
use mathlib.Core.Path.{◌≡◌, refl, sym, ◌∙◌, ap}
use native.Mathlib.Decide.{ℕ_discrete}
use native.Mathlib.Omega.{arith}
use lib.Dec.{eqb}
use lib.ListN.{length, get_or, set}
use lib.Seq.{get_or-set_same, get_or-set_other}
use borrow.Author.Tests.{eqb-true, eq-eqb}
use Rattle.numbers.specs.Codes.{hand_back_code, end_code, spawn_code}
use Rattle.laws.specs.Choice.{pick, both, either}
use Rattle.laws.proofs.Choosing.{clash, both_left, both_right, pick-has}
use Rattle.faces.specs.Types.{Value, Step, Config, Slot, Slots, State}
use Rattle.values.specs.Values.{number_v}
use Rattle.config.specs.Tables.{runnable_conf_in, operation_conf_in}
use Rattle.state.specs.Parts.{no_slot}
use Rattle.state.specs.Start.{start_of}
use Rattle.state.specs.Tables.{max_slots, slot_in, runnable_in, with_slot}
use Rattle.rules.specs.Rows.{no_part}
use Rattle.effects.specs.Steps.{called, caller_after, waiting_on, closed, finishing, instance_of, lowest_empty, spawned, failing, has_failed}
use Rattle.stays_sound.specs.Facts.{Sound, CanSpawn}
use Rattle.stays_sound.proofs.Told.{slots_length}
use Rattle.stays_sound.proofs.Kept.{here, slot_kept, slot_has, slot-inside, caller-kept}
use Rattle.history.specs.History.{Request, no_request, History, nothing, observe, traced_from, back_after, back_in}
use Rattle.history.proofs.Tied.{Tied}
use Rattle.history.proofs.Beside.{all_alike, set-each}
use Rattle.history.proofs.Traced.{traced-one}
use Rattle.state.specs.Places.{no_places, place_in, with_place}
use Rattle.history.proofs.Deeds.{Deed, pass, call, answer, late, end, server, plain, timeout, fail, other-code, pass-adds, call-adds, answer-adds, late-adds, end-adds, server-adds, plain-adds, timeout-adds, fail-adds, server-capacity}

-- ---- who has handed back, step by step

back_one : (i : ℕ) (rs : List Step) (s : Step) → back_in i (rs ++ (s ∷ [])) ≡ back_after i (back_in i rs) s
unfolding back_in
back_one i rs s = traced-one (λ n. back_after i) false rs s

module _ (i : ℕ) (w : Bool) (s : Step) where
  back-spawn : s.code ≡ spawn_code → s.claim.number ≡ i → back_after i w s ≡ false
  unfolding back_after
  back-spawn c e = rw (c, eq-eqb s.claim.number i e)

  back_end : s.code ≡ end_code → s.who ≡ i → back_after i w s ≡ false
  unfolding back_after
  back_end c e = rw (c, eq-eqb s.who i e)

  back-hand : s.code ≡ hand_back_code → s.who ≡ i → back_after i w s ≡ true
  unfolding back_after
  back-hand c e = rw (c, eq-eqb s.who i e)

  -- none of these in this slot
  back_on : (s.code ≡ spawn_code → s.claim.number ≡ i → ⊥) → (s.code ≡ end_code → s.who ≡ i → ⊥) → (s.code ≡ hand_back_code → s.who ≡ i → ⊥) → back_after i w s ≡ w
  unfolding back_after
  back_on a b c =
      pick-has (λ x. x ≡ w) (both (eqb s.code spawn_code) (eqb s.claim.number i)) false _ (λ e. absurd (a (eqb-true _ _ (both_left (eqb s.code spawn_code) _ e)) (eqb-true _ _ (both_right (eqb s.code spawn_code) _ e))))
      (λ e. pick-has (λ x. x ≡ w) (both (eqb s.code end_code) (eqb s.who i)) false _ (λ e. absurd (b (eqb-true _ _ (both_left (eqb s.code end_code) _ e)) (eqb-true _ _ (both_right (eqb s.code end_code) _ e))))
      (λ e. pick-has (λ x. x ≡ w) (both (eqb s.code hand_back_code) (eqb s.who i)) true w (λ e. absurd (c (eqb-true _ _ (both_left (eqb s.code hand_back_code) _ e)) (eqb-true _ _ (both_right (eqb s.code hand_back_code) _ e))))
      (λ e. refl)))

-- ---- an instance is finished exactly if it has handed back

pub record Backs (ss : Slots) (rs : List Step) : Type 0 where
  pub finished : (i : ℕ) → (slot_in ss i).life.finished ≡ back_in i rs

pub backs-start : (cfg : Config) → Backs (start_of cfg).slots []
unfolding start_of no_places place_in no_slot back_in traced_from
backs-start cfg = record { finished = λ i. all_alike (λ (y : Slot). y.life.finished ≡ false) 32 no_slot i refl }

module _ (ss : Slots) (rs : List Step) (s : Step) (l : Backs ss rs) where
  backs-still : (ss' : Slots) → (s.code ≡ spawn_code → ⊥) → (s.code ≡ end_code → ⊥) → (s.code ≡ hand_back_code → ⊥) → ((i : ℕ) → (slot_in ss' i).life.finished ≡ (slot_in ss i).life.finished) → Backs ss' (rs ++ (s ∷ []))
  backs-still ss' n m b k = record { finished = λ i. rw (back_one i rs s, back_on i (back_in i rs) s (λ c e. n c) (λ c e. m c) (λ c e. b c)) (k i ∙ l.finished i) }

  -- one slot is put, of which the step tells
  backs-put : (j : ℕ) (x : Slot) → j < length ss.at → x.life.finished ≡ back_after j (back_in j rs) s
      → ((i : ℕ) → (i ≡ j → ⊥) → back_after i (back_in i rs) s ≡ back_in i rs) → Backs (with_slot ss j x) (rs ++ (s ∷ []))
  unfolding place_in with_place
  backs-put j x b e f = record {
    finished =
        set-each (λ i y. y.life.finished ≡ back_in i (rs ++ (s ∷ []))) ss.at j x no_slot b (rw (back_one j rs s) e)
        (λ i n. rw (back_one i rs s, f i n) (l.finished i));
  }

  backs-spawn : (j : ℕ) (x : Slot) → s.code ≡ spawn_code → s.claim.number ≡ j → j < length ss.at → x.life.finished ≡ false → Backs (with_slot ss j x) (rs ++ (s ∷ []))
  backs-spawn j x c e b u =
      backs-put j x b (u ∙ sym (back-spawn j (back_in j rs) s c e))
      (λ i n. back_on i (back_in i rs) s (λ q z. n (sym z ∙ e)) (λ q z. omega (arith, c, q)) (λ q z. omega (arith, c, q)))

  backs-end : s.code ≡ end_code → s.who < length ss.at → Backs (with_slot ss s.who no_slot) (rs ++ (s ∷ []))
  unfolding no_slot
  backs-end c b =
      backs-put s.who no_slot b (sym (back_end s.who (back_in s.who rs) s c refl))
      (λ i n. back_on i (back_in i rs) s (λ q z. omega (arith, c, q)) (λ q z. n (sym z)) (λ q z. omega (arith, c, q)))

  backs-hand : (x : Slot) → s.code ≡ hand_back_code → s.who < length ss.at → Backs (with_slot ss s.who (finishing x)) (rs ++ (s ∷ []))
  backs-hand x c b =
      backs-put s.who (finishing x) b (sym (back-hand s.who (back_in s.who rs) s c refl))
      (λ i n. back_on i (back_in i rs) s (λ q z. omega (arith, c, q)) (λ q z. omega (arith, c, q)) (λ q z. n (sym z)))

-- ---- every deed

-- a new instance is not finished, and does not wait
new-unfinished : (cfg : Config) (st : State) (r : ℕ) → (instance_of (runnable_conf_in cfg.runnables r) r (runnable_in st.runnables r)).life.finished ≡ false
unfolding instance_of
new-unfinished cfg st r = pick-has (λ (y : Slot). y.life.finished ≡ false) (eqb (runnable_conf_in cfg.runnables r).capacity 0) _ _ (λ e. refl) (λ e. refl)

new-running : (cfg : Config) (st : State) (r : ℕ) → (instance_of (runnable_conf_in cfg.runnables r) r (runnable_in st.runnables r)).life.awaited.part ≡ no_part
unfolding instance_of
new-running cfg st r = pick-has (λ (y : Slot). y.life.awaited.part ≡ no_part) (eqb (runnable_conf_in cfg.runnables r).capacity 0) _ _ (λ e. refl) (λ e. refl)

pub backs-deed : (cfg : Config) (st : State) (s : Step) (st' : State) (rs : List Step) → Sound cfg st → Deed cfg st s st' → Backs st.slots rs → Backs st'.slots (rs ++ (s ∷ []))
unfolding called closed spawned
backs-deed cfg st s st' rs g d l = go d
  where
    same : {n : ℕ} → s.code ≡ n → eqb n spawn_code ≡ false → eqb n end_code ≡ false → eqb n hand_back_code ≡ false → ((i : ℕ) → (slot_in st'.slots i).life.finished ≡ (slot_in st.slots i).life.finished) → Backs st'.slots (rs ++ (s ∷ []))
    same c f h b k = backs-still st.slots rs s l st'.slots (other-code spawn_code c f) (other-code end_code c h) (other-code hand_back_code c b) k

    comes : s.code ≡ spawn_code → s.claim ≡ number_v (lowest_empty st.slots) → CanSpawn cfg st s.what → Backs (spawned cfg st s.what (lowest_empty st.slots)).slots (rs ++ (s ∷ []))
    comes c k z = backs-spawn st.slots rs s l (lowest_empty st.slots) _ c (ap (λ (v : Value). v.number) k) (omega (arith, slots_length cfg st g, z.slot)) (new-unfinished cfg st s.what)

    go : Deed cfg st s st' → Backs st'.slots (rs ++ (s ∷ []))
    go (pass a q m w) = backs-still st.slots rs s l st'.slots q.spawn q.end q.back a.finished
    go (call c k z e) = same c refl refl refl (λ i. rw e (slot_kept (λ y. y.life.finished) st.slots s.who _ (caller-kept (λ y. y.life.finished) (λ y o. refl) cfg s.what (slot_in st.slots s.who)) i))
    go (answer c k z a e) = rw e (backs-hand st.slots rs s l (slot_in st.slots s.who) c (slot-inside st.slots s.who z.who.there.used))
    go (late c k z e) = rw e (backs-hand st.slots rs s l (slot_in st.slots s.who) c (slot-inside st.slots s.who z.who.there.used))
    go (end c z e) = rw e.slots (backs-end st.slots rs s l c (slot-inside st.slots s.who z.there.used))
    go (server c k y z e) = rw e.slots (comes c k z)
    go (plain c k y z e) = rw e.slots (comes c k z)
    go (timeout c z e) = same c refl refl refl (λ i. rw e)
    go (fail c z e) = same c refl refl refl (λ i. rw e (slot_kept (λ y. y.life.finished) st.slots s.who (failing (slot_in st.slots s.who)) refl i))

-- ---- who has failed does not wait

pub record Runs (ss : Slots) : Type 0 where
  pub running : (i : ℕ) → (slot_in ss i).life.failed ≡ true → (slot_in ss i).life.awaited.part ≡ no_part

pub runs-start : (cfg : Config) → Runs (start_of cfg).slots
unfolding start_of no_places place_in no_slot
runs-start cfg = record { running = λ i f. all_alike (λ (y : Slot). y.life.awaited.part ≡ no_part) 32 no_slot i refl }

-- one slot is put
runs-put : (ss : Slots) (i : ℕ) (x : Slot) → (x.life.failed ≡ true → x.life.awaited.part ≡ no_part) → Runs ss → Runs (with_slot ss i x)
runs-put ss i x f r = record { running = slot_has (λ k y. y.life.failed ≡ true → y.life.awaited.part ≡ no_part) ss i x f r.running }

pub runs-deed : (cfg : Config) (st : State) (s : Step) (st' : State) → Deed cfg st s st' → Runs st.slots → Runs st'.slots
unfolding called closed spawned caller_after no_slot
runs-deed cfg st s st' d r = go d
  where
    x : Slot
    x = slot_in st.slots s.who

    asks : has_failed st s.who ≡ false → (b : Bool) → (pick b x (waiting_on x s.what)).life.failed ≡ true → (pick b x (waiting_on x s.what)).life.awaited.part ≡ no_part
    asks f true e = r.running s.who e
    asks f false e = absurd (clash x.life.failed e f)

    go : Deed cfg st s st' → Runs st'.slots
    go (pass a q m w) = record { running = λ i f. let e = sym (a.failed i) ∙ f in a.running i e (r.running i e) }
    go (call c k z e) = rw e (runs-put st.slots s.who _ (asks z.fine (operation_conf_in cfg.operations s.what).asynchronous) r)
    go (answer c k z a e) = rw e (runs-put st.slots s.who (finishing x) (λ f. z.who.running) r)
    go (late c k z e) = rw e (runs-put st.slots s.who (finishing x) (λ f. z.who.running) r)
    go (end c z e) = rw e.slots (runs-put st.slots s.who no_slot (λ f. refl) r)
    go (server c k y z e) = rw e.slots (runs-put st.slots (lowest_empty st.slots) _ (λ f. new-running cfg st s.what) r)
    go (plain c k y z e) = rw e.slots (runs-put st.slots (lowest_empty st.slots) _ (λ f. new-running cfg st s.what) r)
    go (timeout c z e) = rw e r
    go (fail c z e) = rw e (runs-put st.slots s.who (failing x) (λ f. z.who.running) r)

-- ---- who was spawned for a call owes its answer, or has handed back

pub record Paid (ss : Slots) (ts : List Request) : Type 0 where
  pub each : (i : ℕ) → 0 < (get_or ts i no_request).at → either (slot_in ss i).owed.serving (slot_in ss i).life.finished ≡ true

pub paid-start : (cfg : Config) → Paid (start_of cfg).slots nothing.taken
unfolding nothing
paid-start cfg = record { each = λ i l. absurd (omega (arith, l, all_alike (λ (q : Request). q.at ≡ 0) 32 no_request i refl)) }

-- slots that owe and are finished as before
paid-same : (ss ss' : Slots) (ts : List Request) → ((i : ℕ) → (slot_in ss' i).owed ≡ (slot_in ss i).owed) → ((i : ℕ) → (slot_in ss' i).life.finished ≡ (slot_in ss i).life.finished) → Paid ss ts → Paid ss' ts
paid-same ss ss' ts a b p = record { each = λ i l. rw (a i, b i) (p.each i l) }

-- one that has handed back
paid-hand : (ss : Slots) (i : ℕ) (x : Slot) (ts : List Request) → Paid ss ts → Paid (with_slot ss i (finishing x)) ts
paid-hand ss i x ts p = record { each = slot_has (λ k y. 0 < (get_or ts k no_request).at → either y.owed.serving y.life.finished ≡ true) ss i (finishing x) (λ l. refl) p.each }

-- one slot is put, with what it took
paid-put : (ss : Slots) (i : ℕ) (x : Slot) (ts : List Request) (q : Request) → i < length ss.at → i < length ts → (0 < q.at → x.owed.serving ≡ true) → Paid ss ts → Paid (with_slot ss i x) (set ts i q)
unfolding place_in with_place
paid-put ss i x ts q a b f p = record { each = λ k. go k (ℕ_discrete k i) }
  where
    go : (k : ℕ) → Dec (k ≡ i) → 0 < (get_or (set ts i q) k no_request).at → either (slot_in (with_slot ss i x) k).owed.serving (slot_in (with_slot ss i x) k).life.finished ≡ true
    go k (yes e) l = rw (e, get_or-set_same ss.at i x no_slot a, f (rw (e, get_or-set_same ts i q no_request b) at l))
    go k (no n) l = rw (get_or-set_other ss.at i k x no_slot n) (p.each k (rw (get_or-set_other ts i k q no_request n) at l))

pub paid-deed : (cfg : Config) (st : State) (s : Step) (st' : State) (h : History) → Sound cfg st → Deed cfg st s st' → Tied st h → Paid st.slots h.taken → Paid st'.slots (observe cfg h s).taken
unfolding called closed spawned instance_of no_slot
paid-deed cfg st s st' h g d t p = go d
  where
    i : ℕ
    i = lowest_empty st.slots

    long : (k : ℕ) → k < max_slots → k < length st.slots.at
    long k b = omega (arith, slots_length cfg st g, b)

    go : Deed cfg st s st' → Paid st'.slots (observe cfg h s).taken
    go (pass a q m w) = rw (pass-adds cfg h s q) (paid-same st.slots st'.slots h.taken a.owed a.finished p)
    go (call c k z e) =
        rw (call-adds cfg h s c k, e)
        (paid-same st.slots _ h.taken (slot_kept (λ y. y.owed) st.slots s.who _ (caller-kept (λ y. y.owed) (λ y o. refl) cfg s.what (slot_in st.slots s.who)))
        (slot_kept (λ y. y.life.finished) st.slots s.who _ (caller-kept (λ y. y.life.finished) (λ y o. refl) cfg s.what (slot_in st.slots s.who))) p)
    go (answer c k z a e) = rw (answer-adds cfg h s c k, e) (paid-hand st.slots s.who (slot_in st.slots s.who) h.taken p)
    go (late c k z e) = rw (late-adds cfg h s c k, e) (paid-hand st.slots s.who (slot_in st.slots s.who) h.taken p)
    go (end c z e) = rw (end-adds cfg h s c, e.slots) (paid-put st.slots s.who no_slot h.taken no_request (slot-inside st.slots s.who z.there.used) (omega (arith, here cfg st s.who g z.there, t.served.size)) (λ l. absurd (omega (arith, l))) p)
    go (server c k y z e) =
        rw (server-adds cfg h s c y, k, e.slots, server-capacity cfg s.what y)
        (paid-put st.slots i _ h.taken _ (long i z.slot) (omega (arith, z.slot, t.served.size)) (λ l. refl) p)
    go (plain c k y z e) =
        rw (plain-adds cfg h s c y, k, e.slots)
        (paid-put st.slots i _ h.taken no_request (long i z.slot) (omega (arith, z.slot, t.served.size)) (λ l. absurd (omega (arith, l))) p)
    go (timeout c z e) = rw (timeout-adds cfg h s c, e) p
    go (fail c z e) =
        rw (fail-adds cfg h s c, e)
        (paid-same st.slots _ h.taken (slot_kept (λ y. y.owed) st.slots s.who (failing (slot_in st.slots s.who)) refl) (slot_kept (λ y. y.life.finished) st.slots s.who (failing (slot_in st.slots s.who)) refl) p)
