-- Clients as a tally: how many clients have an operation and a number (`Tallied`). What each kind of change does to a tally, and what each kind of change of the tables does to the count.
-- Assumes nothing.
use Prim.Native.Nat.{ℕ, ◌+◌, ◌-◌, ◌≤◌, ◌<◌}
use mathlib.Core.Bool.{true, false}
use mathlib.Core.Path.{◌≡◌, refl, sym, ◌∙◌, ap}
use native.Mathlib.Decide.{ℕ_discrete}
use native.Mathlib.Omega.{arith}
use lib.Dec.{eqb}
use lib.ListN.{length}
use lib.Seq.{get_or-set_same, get_or-set_other}
use borrow.Author.Tests.{ne_eqb}
use Rattle.laws.specs.Choice.{bit}
use Rattle.laws.proofs.Choosing.{clash, both-no}
use Rattle.laws.proofs.Looping.{sum_same}
use Rattle.laws.proofs.Places.{sum-put, sum-push, sum-shift}
use Rattle.config.specs.Tables.{max_runnable_confs}
use Rattle.faces.specs.Types.{Client, Requests, Runnable, Runnables, Operation, Operations, Owed, Slot, Slots}
use Rattle.state.specs.Parts.{no_client, max_requests, no_operation, no_runnable, no_slot}
use Rattle.state.specs.Queues.{up_one, push_request, first_request, rest_requests, oldest, pushed, without_oldest}
use Rattle.state.specs.Tables.{max_slots, runnable_in, operation_in, slot_in, with_runnable, with_operation, with_slot}
use Rattle.rules.specs.Sound.{is_client, queued_as, served_as, clients_as}
use Rattle.stays_sound.specs.Facts.{Tallied, Clients}
use Rattle.stays_sound.proofs.Told.{own-client}
use Rattle.state.specs.Places.{place_in, with_place}
use Rattle.stays_sound.proofs.Kept.{slot_kept}

-- a client counts for no other operation or number than its own
pub other-operation : (o m : ℕ) (c : Client) → (c.operation ≡ o → ⊥) → is_client o m c ≡ false
unfolding is_client
other-operation o m c n = rw (ne_eqb _ _ n)

pub other-number : (o m : ℕ) (c : Client) → (c.number ≡ m → ⊥) → is_client o m c ≡ false
unfolding is_client
other-number o m c n = both-no (eqb c.operation o) _ (ne_eqb _ _ n)

-- ---- what each kind of change does to a tally

-- one operation replaced: what holds of the new one, and of each other, holds of all
operation-put : (P : ℕ → Operation → Type 0) (os : Operations) (o : ℕ) (x : Operation) → o < length os.at → P o x → (k : ℕ) → ((k ≡ o → ⊥) → P k (operation_in os k)) → P k (operation_in (with_operation os o x) k)
unfolding place_in with_place
operation-put P os o x l p k q = go (ℕ_discrete k o)
  where
    go : Dec (k ≡ o) → P k (operation_in (with_operation os o x) k)
    go (yes e) = rw (e, get_or-set_same os.at o x no_operation l) p
    go (no n) = rw (get_or-set_other os.at o k x no_operation n) (q n)

-- the same clients, and operations with the same numbers that are Calling as before
pub tally-same : (os os' : Operations) (n n' : ℕ → ℕ → ℕ)
    → ((o : ℕ) → (operation_in os' o).number ≡ (operation_in os o).number) → ((o : ℕ) → (operation_in os' o).calling ≡ (operation_in os o).calling)
    → ((o m : ℕ) → n' o m ≡ n o m) → Tallied os n → Tallied os' n'
tally-same os os' n n' e f g h = record {
  single = λ o m. rw (g o m) (h.single o m);
  called = λ o l c. rw (e o) (g o (operation_in os o).number ∙ h.called o l (rw (f o) at c));
}

module _ (os : Operations) (n n' : ℕ → ℕ → ℕ) (h : Tallied os n) where
  -- clients go, and none of an open call
  pub tally-less : ((o m : ℕ) → n' o m ≤ n o m) → ((o : ℕ) → (operation_in os o).calling ≡ true → n' o (operation_in os o).number ≡ n o (operation_in os o).number) → Tallied os n'
  tally-less f g = record {
    single = λ o m. omega (arith, f o m, h.single o m);
    called = λ o l c. g o c ∙ h.called o l c;
  }

  -- the call of o ends: clients of o may go, those of other operations stay
  pub tally-close : (o : ℕ) (x : Operation) → o < length os.at → x.calling ≡ false
      → ((k m : ℕ) → n' k m ≤ n k m) → ((k m : ℕ) → (k ≡ o → ⊥) → n' k m ≡ n k m) → Tallied (with_operation os o x) n'
  tally-close o x b c f g = record {
    single = λ k m. omega (arith, f k m, h.single k m);
    called = λ k l. operation-put (λ k y. y.calling ≡ true → n' k y.number ≡ 1) os o x b
        (λ w. absurd (clash x.calling w c))
        k (λ d w. g k (operation_in os k).number d ∙ h.called k l w);
  }

  -- a call of o begins: one client more, with o's number, which nobody bears so far
  pub tally-open : (o : ℕ) (x : Operation) (c : Client) → o < length os.at → n o (operation_in os o).number ≡ 0 → x.number ≡ (operation_in os o).number → c.operation ≡ o → c.number ≡ (operation_in os o).number
      → ((k m : ℕ) → n' k m ≡ n k m + bit (is_client k m c)) → Tallied (with_operation os o x) n'
  tally-open o x c b z e p q f = record {
    single = λ k m. single k m (ℕ_discrete k o) (ℕ_discrete m (operation_in os o).number);
    called = λ k l. operation-put (λ k y. y.calling ≡ true → n' k y.number ≡ 1) os o x b
        (λ w. rw e now)
        k (λ d w. omega (arith, f k (operation_in os k).number, ap bit (other-operation k (operation_in os k).number c (λ y. d (sym y ∙ p))), h.called k l w));
  }
    where
      now : n' o (operation_in os o).number ≡ 1
      now = omega (arith, f o (operation_in os o).number, z, ap bit (own-client o (operation_in os o).number c p q))

      single : (k m : ℕ) → Dec (k ≡ o) → Dec (m ≡ (operation_in os o).number) → n' k m ≤ 1
      single k m (yes y) (yes w) = rw (y, w) (omega (arith, now))
      single k m (yes y) (no w) = omega (arith, f k m, h.single k m, ap bit (other-number k m c (λ d. w (sym d ∙ q))))
      single k m (no y) w = omega (arith, f k m, h.single k m, ap bit (other-operation k m c (λ d. y (sym d ∙ p))))

-- ---- what each kind of change of the tables does to how many clients there are

module _ (rs : Runnables) (ss : Slots) (o m : ℕ) where
  -- one slot replaced
  pub served-put : (i : ℕ) (x : Slot) → i < max_slots → i < length ss.at → clients_as rs (with_slot ss i x) o m + served_as o m (slot_in ss i).owed ≡ clients_as rs ss o m + served_as o m x.owed
  unfolding clients_as place_in with_place
  served-put i x b c = omega (arith, sum-put (λ k y. served_as o m y.owed) ss.at i max_slots x no_slot b c)

  -- one runnable replaced
  pub queued-put : (r : ℕ) (x : Runnable) → r < max_runnable_confs → r < length rs.at → clients_as (with_runnable rs r x) ss o m + queued_as o m (runnable_in rs r).requests ≡ clients_as rs ss o m + queued_as o m x.requests
  unfolding clients_as place_in with_place
  queued-put r x b c = omega (arith, sum-put (λ k y. queued_as o m y.requests) rs.at r max_runnable_confs x no_runnable b c)

  -- runnables with the same requests, and slots whose clients count the same
  clients-same : (rs' : Runnables) (ss' : Slots) → ((r : ℕ) → (runnable_in rs' r).requests ≡ (runnable_in rs r).requests)
      → ((k : ℕ) → served_as o m (slot_in ss' k).owed ≡ served_as o m (slot_in ss k).owed) → clients_as rs' ss' o m ≡ clients_as rs ss o m
  unfolding clients_as
  clients-same rs' ss' e f =
      omega (
        arith,
        sum_same (λ (r : ℕ). queued_as o m (runnable_in rs' r).requests) (λ (r : ℕ). queued_as o m (runnable_in rs r).requests) max_runnable_confs (λ r l. ap (queued_as o m) (e r)),
        sum_same (λ (k : ℕ). served_as o m (slot_in ss' k).owed) (λ (k : ℕ). served_as o m (slot_in ss k).owed) max_slots (λ k l. f k),
      )

-- one request more, at the end
pub asked : (o m : ℕ) (q : Requests) (c : Client) → q.queued < length q.at → q.queued < max_requests → queued_as o m (push_request q c) ≡ queued_as o m q + bit (is_client o m c)
unfolding queued_as pushed
asked o m q c l b =
    let e : up_one q.queued ≡ q.queued + 1 = omega arith in
    rw e (sum-push (λ (y : Client). bit (is_client o m y)) no_client q.queued q.at c l)

-- the oldest request taken
pub taken : (o m : ℕ) (q : Requests) → 0 < q.queued → q.queued ≤ length q.at → bit (is_client o m (first_request q)) + queued_as o m (rest_requests q) ≡ queued_as o m q
unfolding queued_as oldest without_oldest
taken o m q p l =
    let e : q.queued - 1 + 1 ≡ q.queued = omega arith in
    rw e at (sum-shift (λ (y : Client). bit (is_client o m y)) no_client (q.queued - 1) q.at (omega arith))

-- who owes nothing counts for nothing
pub idle : (o m : ℕ) (w : Owed) → w.serving ≡ false → served_as o m w ≡ 0
unfolding served_as
idle o m w e = rw e

pub busy : (o m : ℕ) (w : Owed) → w.serving ≡ true → served_as o m w ≡ bit (is_client o m w.client)
unfolding served_as
busy o m w e = rw e

-- operations with the same numbers that are Calling as before, runnables with the same requests, and slots whose clients count the same
pub clients-kept : (os os' : Operations) (rs rs' : Runnables) (ss ss' : Slots)
    → ((o : ℕ) → (operation_in os' o).number ≡ (operation_in os o).number) → ((o : ℕ) → (operation_in os' o).calling ≡ (operation_in os o).calling)
    → ((r : ℕ) → (runnable_in rs' r).requests ≡ (runnable_in rs r).requests)
    → ((o m k : ℕ) → served_as o m (slot_in ss' k).owed ≡ served_as o m (slot_in ss k).owed)
    → Clients os rs ss → Clients os' rs' ss'
clients-kept os os' rs rs' ss ss' a b c d h =
    tally-same os os' (clients_as rs ss) (clients_as rs' ss') a b (λ o m. clients-same rs ss o m rs' ss' c (d o m)) h

-- a slot that keeps what it owes
pub clients-slot : (os : Operations) (rs : Runnables) (ss : Slots) (i : ℕ) (x : Slot) → x.owed ≡ (slot_in ss i).owed → Clients os rs ss → Clients os rs (with_slot ss i x)
clients-slot os rs ss i x e h =
    clients-kept os os rs rs ss _ (λ o. refl) (λ o. refl) (λ r. refl) (λ o m. slot_kept (λ y. served_as o m y.owed) ss i x (ap (served_as o m) e)) h

-- runnables that keep their requests
pub clients-runnables : (os : Operations) (rs rs' : Runnables) (ss : Slots) → ((r : ℕ) → (runnable_in rs' r).requests ≡ (runnable_in rs r).requests) → Clients os rs ss → Clients os rs' ss
clients-runnables os rs rs' ss e h = clients-kept os os rs rs' ss ss (λ o. refl) (λ o. refl) e (λ o m k. refl) h
