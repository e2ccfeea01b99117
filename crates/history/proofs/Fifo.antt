-- First in, first out: what waits at a server is all that was ever queued there, less one of the oldest for each spawn (`Fifo`).
-- What a recording queues and spawns is what its parts do (`queued-append`, `spawned-append`). A step that queues x and spawns m times turns the queue into
-- itself with x at its end and m of the oldest gone (`fifo-step`): m is 0, or 1 at a server that was due, which had a request. Every deed is of that kind (`fifo-deed`).
-- Assumes nothing.
use Prim.Native.Nat.{ℕ, ◌+◌, ◌≤◌, ◌<◌}
use mathlib.Core.Bool.{Bool, true, false}
use mathlib.Core.List.{List, [], ◌∷◌, ◌++◌, append-nil}
use mathlib.Core.Path.{◌≡◌, refl, sym, ◌∙◌, ap}
use native.Mathlib.Decide.{ℕ_discrete}
use native.Mathlib.Nat.{add-zero, zero-add}
use native.Mathlib.Omega.{arith}
use lib.Dec.{eqb}
use lib.ListN.{length, drop, length-append, length-drop}
use lib.Seq.{drop-append-le, drop-drop, get_or-set_same, get_or-set_other}
use borrow.Author.Tests.{eq-eqb, ne_eqb, eqb-true}
use Rattle.numbers.specs.Codes.{call_code, spawn_code}
use Rattle.laws.specs.Choice.{pick, both, bit}
use Rattle.laws.proofs.Choosing.{clash, both_left, both_right, pick-has}
use Rattle.faces.specs.Types.{Step, Config, State}
use Rattle.values.specs.Values.{ok_v, same_value}
use Rattle.config.specs.Tables.{operation_conf_in}
use Rattle.entries.specs.Faults.{is_server}
use Rattle.effects.proofs.Agreeing.{same-value}
use Rattle.history.specs.History.{Request, no_request, History, nothing, passed, call_adds, slot_adds, server_adds, queued_at, observe, all_queued, all_spawns}
use Rattle.history.proofs.Beside.{all_alike}
use Rattle.history.proofs.Tied.{Tied}
use Rattle.history.proofs.Deeds.{Deed, pass, call, answer, late, end, server, plain, timeout, fail, pass-adds, call-adds, answer-adds, late-adds, end-adds, server-adds, plain-adds, timeout-adds, fail-adds, due-server}

-- ---- what a recording queues at r, and how often it spawns r

queued-append : (cfg : Config) (r n : ℕ) (xs ys : List Step) → all_queued cfg r n (xs ++ ys) ≡ all_queued cfg r n xs ++ all_queued cfg r (n + length xs) ys
unfolding all_queued
queued-append cfg r n [] ys = rw add-zero
queued-append cfg r n (x ∷ xs) ys =
    let rest : all_queued cfg r (n + 1) (xs ++ ys) ≡ all_queued cfg r (n + 1) xs ++ all_queued cfg r (n + length (x ∷ xs)) ys
    = queued-append cfg r (n + 1) xs ys ∙ ap (λ m. all_queued cfg r (n + 1) xs ++ all_queued cfg r m ys) (omega arith) in
    go (both (eqb x.code call_code) (both (same_value x.claim ok_v) (eqb (operation_conf_in cfg.operations x.what).server r))) rest
  where
    go : (b : Bool) → all_queued cfg r (n + 1) (xs ++ ys) ≡ all_queued cfg r (n + 1) xs ++ all_queued cfg r (n + length (x ∷ xs)) ys
        → pick b (record { at = n + 1; on = x.what; argument = x.argument } ∷ all_queued cfg r (n + 1) (xs ++ ys)) (all_queued cfg r (n + 1) (xs ++ ys))
        ≡ pick b (record { at = n + 1; on = x.what; argument = x.argument } ∷ all_queued cfg r (n + 1) xs) (all_queued cfg r (n + 1) xs) ++ all_queued cfg r (n + length (x ∷ xs)) ys
    go true e = ap (λ l. record { at = n + 1; on = x.what; argument = x.argument } ∷ l) e
    go false e = e

spawned-append : (r : ℕ) (xs ys : List Step) → all_spawns r (xs ++ ys) ≡ all_spawns r xs + all_spawns r ys
unfolding all_spawns
spawned-append r [] ys = sym (zero-add _)
spawned-append r (x ∷ xs) ys = omega (arith, spawned-append r xs ys)

-- one step alone
queues-none : (cfg : Config) (r n : ℕ) (s : Step) → (s.code ≡ call_code → s.claim ≡ ok_v → ⊥) → all_queued cfg r n (s ∷ []) ≡ []
unfolding all_queued
queues-none cfg r n s q =
    pick-has (λ l. l ≡ []) (both (eqb s.code call_code) (both (same_value s.claim ok_v) mine)) _ []
    (λ e. absurd (q (eqb-true _ _ (both_left (eqb s.code call_code) _ e)) (same-value _ _ (both_left (same_value s.claim ok_v) mine (both_right (eqb s.code call_code) _ e)))))
    (λ e. refl)
  where
    mine : Bool
    mine = eqb (operation_conf_in cfg.operations s.what).server r

queues-one : (cfg : Config) (r n : ℕ) (s : Step) → s.code ≡ call_code → s.claim ≡ ok_v
    → all_queued cfg r n (s ∷ []) ≡ pick (eqb (operation_conf_in cfg.operations s.what).server r) (record { at = n + 1; on = s.what; argument = s.argument } ∷ []) []
unfolding all_queued same_value
queues-one cfg r n s c k = rw (c, k)

spawns-none : (r : ℕ) (s : Step) → (s.code ≡ spawn_code → ⊥) → all_spawns r (s ∷ []) ≡ 0
unfolding all_spawns
spawns-none r s n = rw (ne_eqb s.code spawn_code n)

spawns-one : (r : ℕ) (s : Step) → s.code ≡ spawn_code → all_spawns r (s ∷ []) ≡ bit (eqb s.what r)
unfolding all_spawns
spawns-one r s c = rw c (add-zero _)

-- ---- the invariant

pub record Fifo (cfg : Config) (r : ℕ) (rs : List Step) (h : History) : Type 0 where
  pub queue : queued_at h r ≡ drop (all_spawns r rs) (all_queued cfg r 0 rs)
  pub taken : all_spawns r rs ≤ length (all_queued cfg r 0 rs)

pub fifo-start : (cfg : Config) (r : ℕ) → Fifo cfg r [] nothing
unfolding nothing all_queued all_spawns
fifo-start cfg r = record { queue = all_alike (λ w. w ≡ []) 16 [] r refl; taken = omega arith }

module _ (cfg : Config) (r : ℕ) (rs : List Step) (h : History) (s : Step) (f : Fifo cfg r rs h) where
  fifo-step : (h' : History) → queued_at h' r ≡ drop (all_spawns r (s ∷ [])) (queued_at h r ++ all_queued cfg r (length rs) (s ∷ []))
      → all_spawns r (s ∷ []) ≤ length (queued_at h r ++ all_queued cfg r (length rs) (s ∷ []))
      → Fifo cfg r (rs ++ (s ∷ [])) h'
  fifo-step h' e b = record {
    queue =
        rw (all, spawned-append r rs (s ∷ []))
        (e ∙ ap (λ l. drop m (l ++ x)) f.queue ∙ ap (drop m) (sym (drop-append-le (all_spawns r rs) (all_queued cfg r 0 rs) x f.taken)) ∙ drop-drop m (all_spawns r rs) (all_queued cfg r 0 rs ++ x));
    taken =
        rw (all, spawned-append r rs (s ∷ []))
        (omega (arith, b, f.taken, ap length f.queue, length-append (queued_at h r) x, length-append (all_queued cfg r 0 rs) x, length-drop (all_spawns r rs) (all_queued cfg r 0 rs)));
  }
    where
      m : ℕ
      m = all_spawns r (s ∷ [])

      x : List Request
      x = all_queued cfg r (length rs) (s ∷ [])

      all : all_queued cfg r 0 (rs ++ (s ∷ [])) ≡ all_queued cfg r 0 rs ++ x
      all = queued-append cfg r 0 rs (s ∷ []) ∙ rw zero-add

  -- a step that leaves the queue as it is
  fifo-quiet : (h' : History) → queued_at h' r ≡ queued_at h r → (s.code ≡ call_code → s.claim ≡ ok_v → ⊥) → (s.code ≡ spawn_code → ⊥) → Fifo cfg r (rs ++ (s ∷ [])) h'
  fifo-quiet h' e n m = fifo-step h' (rw (queues-none cfg r (length rs) s n, spawns-none r s m, append-nil (queued_at h r)) e) (rw (spawns-none r s m) (omega arith))

  -- a call that starts: its request joins its server's queue
  fifo-call : s.code ≡ call_code → s.claim ≡ ok_v → h.place ≡ length rs → r < length h.queued → Fifo cfg r (rs ++ (s ∷ [])) (call_adds cfg h s.what s.argument)
  fifo-call c k p b = fifo-step (call_adds cfg h s.what s.argument) (rw (none, queues-one cfg r (length rs) s c k) (go (ℕ_discrete r t))) (rw none (omega arith))
    where
      none : all_spawns r (s ∷ []) ≡ 0
      none = spawns-none r s (λ z. omega (arith, c, z))

      t : ℕ
      t = (operation_conf_in cfg.operations s.what).server

      go : Dec (r ≡ t) → queued_at (call_adds cfg h s.what s.argument) r ≡ queued_at h r ++ pick (eqb t r) (record { at = length rs + 1; on = s.what; argument = s.argument } ∷ []) []
      go (yes e) = rw (eq-eqb t r (sym e), ← e, ← p) (get_or-set_same h.queued r _ [] b)
      go (no n) = rw (ne_eqb t r (λ e. n (sym e)), append-nil (queued_at h r)) (get_or-set_other h.queued t r _ [] n)

  -- a spawn of a server takes the oldest
  fifo-oldest : s.code ≡ spawn_code → r < length h.queued → (s.what ≡ r → 0 < length (queued_at h r)) → (i : ℕ) → Fifo cfg r (rs ++ (s ∷ [])) (server_adds h i s.what)
  fifo-oldest c b q i =
      fifo-step (server_adds h i s.what)
      (rw (none, spawns-one r s c, append-nil (queued_at h r)) (go (ℕ_discrete r s.what)))
      (rw (none, spawns-one r s c, append-nil (queued_at h r)) (some (ℕ_discrete r s.what)))
    where
      none : all_queued cfg r (length rs) (s ∷ []) ≡ []
      none = queues-none cfg r (length rs) s (λ z w. omega (arith, c, z))

      go : Dec (r ≡ s.what) → queued_at (server_adds h i s.what) r ≡ drop (bit (eqb s.what r)) (queued_at h r)
      go (yes e) = rw (eq-eqb s.what r (sym e), ← e) (get_or-set_same h.queued r _ [] b)
      go (no n) = rw (ne_eqb s.what r (λ e. n (sym e))) (get_or-set_other h.queued s.what r _ [] n)

      some : Dec (r ≡ s.what) → bit (eqb s.what r) ≤ length (queued_at h r)
      some (yes e) = rw (eq-eqb s.what r (sym e)) (omega (arith, q (sym e)))
      some (no n) = rw (ne_eqb s.what r (λ e. n (sym e))) (omega arith)

  -- a spawn of a plain runnable is none of a server
  fifo-plain : s.code ≡ spawn_code → (s.what ≡ r → ⊥) → (i : ℕ) → Fifo cfg r (rs ++ (s ∷ [])) (slot_adds h i no_request)
  fifo-plain c n i =
      let none : all_queued cfg r (length rs) (s ∷ []) ≡ [] = queues-none cfg r (length rs) s (λ z w. omega (arith, c, z)) in
      let zero : all_spawns r (s ∷ []) ≡ 0 = spawns-one r s c ∙ ap bit (ne_eqb s.what r n) in
      fifo-step (slot_adds h i no_request) (rw (none, zero, append-nil (queued_at h r))) (rw zero (omega arith))

pub fifo-deed : (cfg : Config) (st : State) (s : Step) (st' : State) (r : ℕ) (rs : List Step) (h : History) → Deed cfg st s st' → Tied st h → h.place ≡ length rs → is_server cfg r ≡ true
    → r < 16 → Fifo cfg r rs h → Fifo cfg r (rs ++ (s ∷ [])) (observe cfg h s)
fifo-deed cfg st s st' r rs h (pass a q m w) t p y b f = rw (pass-adds cfg h s q) (fifo-quiet cfg r rs h s f (passed h) refl q.call q.spawn)
fifo-deed cfg st s st' r rs h (call c k z e) t p y b f = rw (call-adds cfg h s c k) (fifo-call cfg r rs h s f c k p (omega (arith, t.queues.size, b)))
fifo-deed cfg st s st' r rs h (answer c k z a e) t p y b f = rw (answer-adds cfg h s c k) (fifo-quiet cfg r rs h s f _ refl (λ q w. omega (arith, c, q)) (λ q. omega (arith, c, q)))
fifo-deed cfg st s st' r rs h (late c k z e) t p y b f = rw (late-adds cfg h s c k) (fifo-quiet cfg r rs h s f _ refl (λ q w. omega (arith, c, q)) (λ q. omega (arith, c, q)))
fifo-deed cfg st s st' r rs h (end c z e) t p y b f = rw (end-adds cfg h s c) (fifo-quiet cfg r rs h s f _ refl (λ q w. omega (arith, c, q)) (λ q. omega (arith, c, q)))
fifo-deed cfg st s st' r rs h (server c k v z e) t p y b f =
    rw (server-adds cfg h s c v)
    (fifo-oldest cfg r rs h s f c (omega (arith, t.queues.size, b)) (λ q. rw (← q) (omega (arith, due-server cfg st s.what v z, (t.queues.each s.what).size))) s.claim.number)
fifo-deed cfg st s st' r rs h (plain c k v z e) t p y b f = rw (plain-adds cfg h s c v) (fifo-plain cfg r rs h s f c (λ q. clash (is_server cfg r) y (rw q at v)) s.claim.number)
fifo-deed cfg st s st' r rs h (timeout c z e) t p y b f = rw (timeout-adds cfg h s c) (fifo-quiet cfg r rs h s f _ refl (λ q w. omega (arith, c, q)) (λ q. omega (arith, c, q)))
fifo-deed cfg st s st' r rs h (fail c z e) t p y b f = rw (fail-adds cfg h s c) (fifo-quiet cfg r rs h s f _ refl (λ q w. omega (arith, c, q)) (λ q. omega (arith, c, q)))
