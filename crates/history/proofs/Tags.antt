-- What each kind of change does to the clients and the requests beside them.
-- A call that ends asks nothing more of its operation's tags, and the client under its number is that of the call that ended (`tag-close`). A call starts only under a number that no
-- client bears (28), so nobody else is taken for its client and every other tag stands (`tag_open`); the new client is tagged with the new call (`tag-new`), and both
-- join the end of their queues (`queues-push`). A spawn takes the oldest of both (`oldest-tag`, `queues-pop`) and puts them side by side on its slot
-- (`served-put`); a slot that owes nothing asks nothing (`served-idle`). A slot whose instance has failed, or a new one that has not, is followed so (`failed-put`).
-- Assumes nothing.
use Prim.Native.Nat.{ℕ, ◌+◌, ◌≤◌, ◌<◌}
use mathlib.Core.Bool.{Bool, true, false}
use mathlib.Core.List.{List, [], ◌∷◌, ◌++◌}
use mathlib.Core.Path.{◌≡◌, refl, sym, ◌∙◌, ap}
use native.Mathlib.Omega.{arith}
use lib.ListN.{length, get_or, set, drop, length-set}
use lib.Seq.{get_or-set_same}
use borrow.Author.Tests.{eq-eqb}
use Rattle.laws.specs.Choice.{bit}
use Rattle.laws.proofs.Choosing.{clash}
use Rattle.laws.proofs.Places.{inside_of}
use Rattle.faces.specs.Types.{Client, Operation, Operations, Runnable, Runnables, Slot, Slots}
use Rattle.state.specs.Parts.{no_client, no_requests, no_runnable, no_slot}
use Rattle.state.specs.Queues.{up_one, push_request, first_request, rest_requests, oldest, pushed, without_oldest}
use Rattle.state.specs.Tables.{runnable_in, operation_in, slot_in, with_runnable, with_operation, with_slot}
use Rattle.rules.specs.Sound.{clients_as}
use Rattle.stays_sound.proofs.Told.{queued-counts, served-counts, unborne}
use Rattle.history.specs.History.{Request, no_request, Ending, ends_of}
use Rattle.history.proofs.Beside.{set-each, set_both, Beside, beside-push, beside-pop}
use Rattle.history.proofs.Tied.{Tag, Queues, Served, Failed, queues-map, served-map}
use Rattle.state.specs.Places.{place_in, with_place}
use Rattle.history.proofs.Calls.{ends_more, operation-each, operation-both}

-- ---- a place with a request or a client is inside its table

pub queued-inside : (rs : Runnables) (r j : ℕ) → j < (runnable_in rs r).requests.queued → r < length rs.at
unfolding place_in no_runnable no_requests
queued-inside rs r j b = inside_of (λ y. j < y.requests.queued) rs.at r no_runnable (λ z. omega (arith, z)) b

pub serving-inside : (ss : Slots) (k : ℕ) → (slot_in ss k).owed.serving ≡ true → k < length ss.at
unfolding place_in no_slot
serving-inside ss k e = inside_of (λ y. y.owed.serving ≡ true) ss.at k no_slot (λ z. clash false z refl) e

-- ---- an operation replaced

tag-close : (os : Operations) (latest : List ℕ) (es : List Ending) (o : ℕ) (x : Operation) (w : Ending) (c : Client) (q : Request) → o < length os.at → x.calling ≡ false → w.call ≡ get_or latest o 0
    → Tag os latest es c q → Tag (with_operation os o x) latest (w ∷ es) c q
tag-close os latest es o x w c q b e l t = record {
  same = t.same;
  argument = t.argument;
  newest = operation-each (λ j y. j ≡ c.operation → y.calling ≡ true → c.number ≡ y.number → q.at ≡ get_or latest j 0) os o x b
      (λ p z n. absurd (clash x.calling z e))
      (λ j n p. rw p t.newest)
      c.operation refl;
  unended = operation-each (λ j y. j ≡ c.operation → ends_of q.at (w ∷ es) ≡ 0 → (y.calling ≡ true) × (c.number ≡ y.number)) os o x b
      (λ p z. absurd (let m = t.unended (before z) in omega (arith, z, ends_more q.at w es, ap bit (eq-eqb w.call q.at (l ∙ ap (λ j. get_or latest j 0) p ∙ sym (t.newest m.0 m.1))))))
      (λ j n p z. rw p (t.unended (before z)))
      c.operation refl;
}
  where
    before : ends_of q.at (w ∷ es) ≡ 0 → ends_of q.at es ≡ 0
    before z = omega (arith, z, ends_more q.at w es)

tag_open : (os : Operations) (latest : List ℕ) (es : List Ending) (o p : ℕ) (x : Operation) (c : Client) (q : Request) → o < length os.at → o < length latest → (operation_in os o).calling ≡ false
    → (c.operation ≡ o → c.number ≡ x.number → ⊥) → Tag os latest es c q → Tag (with_operation os o x) (set latest o p) es c q
tag_open os latest es o p x c q b d shut n t = record {
  same = t.same;
  argument = t.argument;
  newest = operation-both (λ j y k. j ≡ c.operation → y.calling ≡ true → c.number ≡ y.number → q.at ≡ k) os latest o x p b d
      (λ a z m. absurd (n (sym a) m))
      (λ j m a. rw a t.newest)
      c.operation refl;
  unended = operation-each (λ j y. j ≡ c.operation → ends_of q.at es ≡ 0 → (y.calling ≡ true) × (c.number ≡ y.number)) os o x b
      (λ a z. absurd (clash (operation_in os o).calling (rw a (t.unended z).0) shut))
      (λ j m a. rw a t.unended)
      c.operation refl;
}

pub tag-new : (os : Operations) (latest : List ℕ) (es : List Ending) (o p : ℕ) (x : Operation) (c : Client) (q : Request) → o < length os.at → o < length latest → c.operation ≡ o → q.on ≡ o
    → q.argument ≡ c.argument → q.at ≡ p → x.calling ≡ true → c.number ≡ x.number
    → Tag (with_operation os o x) (set latest o p) es c q
tag-new os latest es o p x c q b d e on argument place calling number = record {
  same = on ∙ sym e;
  argument = argument;
  newest = λ z m. place ∙ sym (ap (λ j. get_or (set latest o p) j 0) e ∙ get_or-set_same latest o p 0 d);
  unended = operation-each (λ j y. j ≡ c.operation → ends_of q.at es ≡ 0 → (y.calling ≡ true) × (c.number ≡ y.number)) os o x b
      (λ a z. (calling, number))
      (λ j n a. absurd (n (a ∙ e)))
      c.operation refl;
}

module _ (os : Operations) (latest : List ℕ) (es : List Ending) (o : ℕ) (x : Operation) (w : Ending) (b : o < length os.at) (e : x.calling ≡ false) (l : w.call ≡ get_or latest o 0) where
  pub queues-close : (rs : Runnables) (ws : List (List Request)) → Queues os latest es rs ws → Queues (with_operation os o x) latest (w ∷ es) rs ws
  queues-close rs ws = queues-map os (with_operation os o x) latest latest es (w ∷ es) rs ws (λ r j q m t. tag-close os latest es o x w _ q b e l t)

  pub served-close : (ss : Slots) (ts : List Request) → Served os latest es ss ts → Served (with_operation os o x) latest (w ∷ es) ss ts
  served-close ss ts = served-map os (with_operation os o x) latest latest es (w ∷ es) ss ts (λ k q z t. tag-close os latest es o x w _ q b e l t)

module _ (os : Operations) (rs : Runnables) (ss : Slots) (latest : List ℕ) (es : List Ending) (o p : ℕ) (x : Operation)
    (g : clients_as rs ss o (operation_in os o).number ≡ 0) (b : o < length os.at) (d : o < length latest) (e : (operation_in os o).calling ≡ false) (n : x.number ≡ (operation_in os o).number)
  where
    pub queues-open : (ws : List (List Request)) → length rs.at ≡ 16 → Queues os latest es rs ws → Queues (with_operation os o x) (set latest o p) es rs ws
    queues-open ws l =
        queues-map os (with_operation os o x) latest (set latest o p) es es rs ws
        (λ r j q c t. tag_open os latest es o p x _ q b d e (λ y m. unborne rs ss o (operation_in os o).number (get_or (runnable_in rs r).requests.at j no_client) g (queued-counts rs ss r j (omega (arith, l, queued-inside rs r j c)) c) y (m ∙ n)) t)

    pub served-open : (ts : List Request) → length ss.at ≡ 32 → Served os latest es ss ts → Served (with_operation os o x) (set latest o p) es ss ts
    served-open ts l =
        served-map os (with_operation os o x) latest (set latest o p) es es ss ts
        (λ k q z t. tag_open os latest es o p x _ q b d e (λ y m. unborne rs ss o (operation_in os o).number (slot_in ss k).owed.client g (served-counts rs ss k (omega (arith, l, serving-inside ss k z)) z) y (m ∙ n)) t)

-- ---- a queue grows at its end, and is taken at its front

runnable-both : (P : Runnable → List Request → Type 0) (rs : Runnables) (ws : List (List Request)) (r : ℕ) (y : Runnable) (w : List Request) → r < length rs.at → r < length ws → P y w
    → ((j : ℕ) → P (runnable_in rs j) (get_or ws j [])) → (j : ℕ) → P (runnable_in (with_runnable rs r y) j) (get_or (set ws r w) j [])
unfolding place_in with_place
runnable-both P rs ws r y w b c p h = set_both (λ j. P) rs.at ws r y no_runnable w [] b c p (λ j n. h j)

module _ (os : Operations) (latest : List ℕ) (es : List Ending) (rs : Runnables) (ws : List (List Request)) (r : ℕ) (y : Runnable) (h : Queues os latest es rs ws) (b : r < length rs.at) (b16 : r < 16) where
  abbrev Follows : Runnable → List Request → Type 0
  Follows x w = Beside (Tag os latest es) no_client no_request x.requests.queued x.requests.at w

  pub queues-push : (c : Client) (q : Request) → (runnable_in rs r).requests.queued < 16 → length (runnable_in rs r).requests.at ≡ 16
      → y.requests ≡ push_request (runnable_in rs r).requests c → Tag os latest es c q
      → Queues os latest es (with_runnable rs r y) (set ws r (get_or ws r [] ++ (q ∷ [])))
  unfolding pushed
  queues-push c q n l e t = record {
    size = length-set ws r (get_or ws r [] ++ (q ∷ [])) ∙ h.size;
    each = runnable-both Follows rs ws r y (get_or ws r [] ++ (q ∷ [])) b (omega (arith, h.size))
        (rw (e, up) (beside-push (Tag os latest es) no_client no_request _ _ (get_or ws r []) c q (omega (arith, n, l)) t (h.each r)))
        h.each;
  }
    where
      up : up_one (runnable_in rs r).requests.queued ≡ (runnable_in rs r).requests.queued + 1
      up = omega (arith, n)

  pub queues-pop : length (runnable_in rs r).requests.at ≡ 16 → (runnable_in rs r).requests.queued ≤ 16 → y.requests ≡ rest_requests (runnable_in rs r).requests
      → Queues os latest es (with_runnable rs r y) (set ws r (drop 1 (get_or ws r [])))
  unfolding without_oldest
  queues-pop l n e = record {
    size = length-set ws r (drop 1 (get_or ws r [])) ∙ h.size;
    each = runnable-both Follows rs ws r y (drop 1 (get_or ws r [])) b (omega (arith, h.size))
        (rw e (beside-pop (Tag os latest es) no_client no_request _ _ (get_or ws r []) (omega (arith, n, l)) (h.each r)))
        h.each;
  }

pub oldest-tag : (os : Operations) (latest : List ℕ) (es : List Ending) (rs : Runnables) (ws : List (List Request)) (r : ℕ) → Queues os latest es rs ws → 0 < (runnable_in rs r).requests.queued
    → Tag os latest es (first_request (runnable_in rs r).requests) (get_or (get_or ws r []) 0 no_request)
unfolding oldest
oldest-tag os latest es rs ws r h b = (h.each r).each 0 b

-- ---- a slot replaced, with the request beside it or with nothing owed

module _ (os : Operations) (latest : List ℕ) (es : List Ending) (ss : Slots) (ts : List Request) (k : ℕ) (x : Slot) (h : Served os latest es ss ts) (b : k < length ss.at) where
  pub served-put : (q : Request) → k < 32 → (x.owed.serving ≡ true → Tag os latest es x.owed.client q) → Served os latest es (with_slot ss k x) (set ts k q)
  unfolding place_in with_place
  served-put q c t = record {
    size = length-set ts k q ∙ h.size;
    each = set_both (λ j y z. y.owed.serving ≡ true → Tag os latest es y.owed.client z) ss.at ts k x no_slot q no_request b (omega (arith, h.size)) t (λ j n. h.each j);
  }

  pub served-idle : x.owed.serving ≡ false → Served os latest es (with_slot ss k x) ts
  unfolding place_in with_place
  served-idle e = record {
    size = h.size;
    each = set-each (λ j y. y.owed.serving ≡ true → Tag os latest es y.owed.client (get_or ts j no_request)) ss.at k x no_slot b (λ z. absurd (clash x.owed.serving z e)) (λ j n. h.each j);
  }

-- and with whether it has failed
pub failed-put : (ss : Slots) (fs : List Bool) (k : ℕ) (x : Slot) (b : Bool) → Failed ss fs → k < length ss.at → k < 32 → x.life.failed ≡ b → Failed (with_slot ss k x) (set fs k b)
unfolding place_in with_place
failed-put ss fs k x b h l c e = record {
  size = length-set fs k b ∙ h.size;
  each = set_both (λ j y z. y.life.failed ≡ z) ss.at fs k x no_slot b false l (omega (arith, h.size)) e (λ j n. h.each j);
}
