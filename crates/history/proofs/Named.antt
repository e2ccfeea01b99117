-- The places in a history are what they are called: the latest call of an operation is the step of a call on it that was answered Ok (`Named`). A recording that
-- grows keeps its steps at their places (`started-more`), and its last step is at the place of its length (`started-here`). Every deed keeps that (`named-deed`).
-- Assumes nothing.
use Prim.Native.Nat.{ℕ, zero, suc, ◌+◌, ◌<◌}
use mathlib.Core.List.{List, [], ◌∷◌, ◌++◌}
use mathlib.Core.Path.{◌≡◌, refl}
use native.Mathlib.Numerals.{add-one}
use native.Mathlib.Omega.{arith}
use lib.ListN.{length, length-append}
use Rattle.numbers.specs.Codes.{call_code}
use Rattle.laws.proofs.Places.{put-each}
use Rattle.faces.specs.Types.{Step, Config, State}
use Rattle.values.specs.Values.{ok_v}
use Rattle.history.specs.History.{no_request, How, by_timeout, History, nothing, passed, call_adds, closing_adds, fail_adds, slot_adds, server_adds, taken_by, latest_on, observe, Started}
use Rattle.history.proofs.Beside.{all_alike}
use Rattle.history.proofs.Deeds.{Deed, pass, call, answer, late, end, server, plain, timeout, fail, pass-adds, call-adds, answer-adds, late-adds, end-adds, server-adds, plain-adds, timeout-adds, fail-adds}

-- ---- steps at their places

pub started-more : (rs xs : List Step) (k o : ℕ) → Started rs k o → Started (rs ++ xs) k o
unfolding Started
started-more [] xs k o h = absurd h
started-more (s ∷ rs) xs zero o h = absurd h
started-more (s ∷ rs) xs (suc zero) o h = h
started-more (s ∷ rs) xs (suc (suc k)) o h = started-more rs xs (suc k) o h

pub started-here : (rs : List Step) (s : Step) → s.code ≡ call_code → s.claim ≡ ok_v → Started (rs ++ (s ∷ [])) (suc (length rs)) s.what
unfolding Started
started-here [] s c k = (c, refl, k)
started-here (x ∷ rs) s c k = started-here rs s c k

-- ---- every place of a history

pub record Named (rs : List Step) (h : History) : Type 0 where
  pub place : h.place ≡ length rs
  pub latest : (o : ℕ) → 0 < latest_on h o → Started rs (latest_on h o) o

pub named_start : Named [] nothing
unfolding nothing
named_start = record { place = refl; latest = λ o. all_alike (λ k. 0 < k → Started [] k o) 8 0 o (λ q. absurd (omega arith)) }

module _ (rs : List Step) (h : History) (s : Step) (n : Named rs h) where
  next : h.place + 1 ≡ length (rs ++ (s ∷ []))
  next = omega (arith, n.place, length-append rs (s ∷ []))

  keeps : (o : ℕ) → 0 < latest_on h o → Started (rs ++ (s ∷ [])) (latest_on h o) o
  keeps o q = started-more rs (s ∷ []) (latest_on h o) o (n.latest o q)

  named-passed : Named (rs ++ (s ∷ [])) (passed h)
  named-passed = record { place = next; latest = keeps }

  named-call : (cfg : Config) → s.code ≡ call_code → s.claim ≡ ok_v → Named (rs ++ (s ∷ [])) (call_adds cfg h s.what s.argument)
  named-call cfg c k = record {
    place = next;
    latest = λ o. put-each (λ j m. 0 < m → Started (rs ++ (s ∷ [])) m j) h.latest s.what (h.place + 1) 0 (λ q. rw (n.place, add-one) (started-here rs s c k)) o (keeps o);
  }

  named-closed : (o : ℕ) (w : How) → Named (rs ++ (s ∷ [])) (closing_adds h o w)
  named-closed o w = record { place = next; latest = keeps }

  named-fails : (i : ℕ) → Named (rs ++ (s ∷ [])) (fail_adds h i)
  named-fails i = record { place = next; latest = keeps }

  named-takes : (i : ℕ) → Named (rs ++ (s ∷ [])) (slot_adds h i no_request)
  named-takes i = record { place = next; latest = keeps }

  named-oldest : (i r : ℕ) → Named (rs ++ (s ∷ [])) (server_adds h i r)
  named-oldest i r = record { place = next; latest = keeps }

pub named-deed : (cfg : Config) (st : State) (s : Step) (st' : State) (rs : List Step) (h : History) → Deed cfg st s st' → Named rs h → Named (rs ++ (s ∷ [])) (observe cfg h s)
named-deed cfg st s st' rs h (pass a q m w) n = rw (pass-adds cfg h s q) (named-passed rs h s n)
named-deed cfg st s st' rs h (call c k z e) n = rw (call-adds cfg h s c k) (named-call rs h s n cfg c k)
named-deed cfg st s st' rs h (answer c k z a e) n = rw (answer-adds cfg h s c k) (named-closed rs h s n (taken_by h s.who).on _)
named-deed cfg st s st' rs h (late c k z e) n = rw (late-adds cfg h s c k) (named-passed rs h s n)
named-deed cfg st s st' rs h (end c z e) n = rw (end-adds cfg h s c) (named-takes rs h s n s.who)
named-deed cfg st s st' rs h (server c k y z e) n = rw (server-adds cfg h s c y) (named-oldest rs h s n s.claim.number s.what)
named-deed cfg st s st' rs h (plain c k y z e) n = rw (plain-adds cfg h s c y) (named-takes rs h s n s.claim.number)
named-deed cfg st s st' rs h (timeout c z e) n = rw (timeout-adds cfg h s c) (named-closed rs h s n s.what by_timeout)
named-deed cfg st s st' rs h (fail c z e) n = rw (fail-adds cfg h s c) (named-fails rs h s n s.who)
