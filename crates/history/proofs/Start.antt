-- The start state is tied to the history before any step: no request waits (`no-requests`), no slot serves or has failed and no operation is Calling.
-- Assumes nothing.
use Prim.Native.Nat.{ℕ, ◌+◌, ◌%◌, ◌≤◌, ◌<◌}
use mathlib.Core.Bool.{Bool, true, false}
use mathlib.Core.List.{[]}
use mathlib.Core.Path.{◌≡◌, refl, sym, ◌∙◌}
use native.Mathlib.Omega.{arith}
use lib.ListN.{get_or, replicate}
use Rattle.laws.specs.Choice.{bit}
use Rattle.laws.proofs.Choosing.{clash}
use Rattle.laws.proofs.Places.{each-has}
use Rattle.values.specs.Values.{void_v}
use Rattle.faces.specs.Types.{Config, Runnable}
use Rattle.config.specs.Tables.{runnable_conf_in}
use Rattle.state.specs.Parts.{last_number, no_client, no_requests, no_runnable, no_operation, no_slot}
use Rattle.state.specs.Tables.{no_operations, no_slots, runnable_in, slot_in}
use Rattle.state.specs.Start.{start_runnable, start_runnables, start_of, started}
use Rattle.history.specs.History.{no_request, nothing, ends_of, ended_on, last_on}
use Rattle.history.proofs.Beside.{all_alike, Beside, beside_none}
use Rattle.state.specs.Places.{no_places, place_in}
use Rattle.history.proofs.Tied.{Tag, AllProper, Calls, Tied}

no-requests : (cfg : Config) (r : ℕ) → (runnable_in (start_runnables cfg.runnables) r).requests ≡ no_requests
unfolding place_in started no_places no_runnable
no-requests cfg r =
    each-has (λ (k : ℕ) (x : Runnable). start_runnable (runnable_conf_in cfg.runnables k)) no_runnable (λ j y. y.requests ≡ no_requests) cfg.runnables.n (replicate 16 no_runnable) r
    (λ b. refl) (all_alike (λ y. y.requests ≡ no_requests) 16 no_runnable r refl)

none-serves : (k : ℕ) → (slot_in no_slots k).owed.serving ≡ false
unfolding place_in no_places no_slot
none-serves k = all_alike (λ y. y.owed.serving ≡ false) 32 no_slot k refl

none-failed : (k : ℕ) → (slot_in no_slots k).life.failed ≡ false
unfolding place_in no_places no_slot
none-failed k = all_alike (λ y. y.life.failed ≡ false) 32 no_slot k refl

calls-start : Calls no_operations nothing.latest nothing.endings nothing.place
unfolding no_places place_in nothing ends_of ended_on last_on AllProper
calls-start = record {
  size = refl;
  state = λ o. all_alike (λ k. 0 < k → 0 + bit (get_or (replicate 8 no_operation) o no_operation).calling ≡ 1) 8 0 o (λ q. absurd (omega arith));
  begun = λ o. all_alike (λ y. y.calling ≡ true → 0 < get_or (replicate 8 0) o 0) 8 no_operation o (λ e. absurd (clash false e refl));
  number = λ o. all_alike (λ y. y.number ≡ 0 % (last_number + 1)) 8 no_operation o refl;
  past = λ o. all_alike (λ k. k ≤ 0) 8 0 o (omega arith);
  future = λ k q. refl;
  apart = λ o p. all_alike (λ k. 0 < k → k ≡ get_or (replicate 8 0) p 0 → o ≡ p) 8 0 o (λ q. absurd (omega arith));
  once = λ k. omega arith;
  proper = tt;
  last = λ o. all_alike (λ y. y.calling ≡ false → y.done ≡ void_v) 8 no_operation o (λ e. refl);
  ended = λ o e. all_alike (λ k. ◌≡◌ {A = ℕ} 0 k) 8 0 o refl;
}

pub tied-start : (cfg : Config) → Tied (start_of cfg) nothing
unfolding start_of nothing no_requests
tied-start cfg = record {
  queues = record {
    size = refl;
    each = λ r.
        rw (no-requests cfg r)
        (all_alike (λ w. Beside (Tag no_operations (replicate 8 0) []) no_client no_request 0 (replicate 16 no_client) w) 16 [] r
        (beside_none (Tag no_operations (replicate 8 0) []) no_client no_request (replicate 16 no_client)));
  };
  served = record { size = refl; each = λ k e. absurd (clash _ e (none-serves k)) };
  calls = calls-start;
  failed = record { size = refl; each = λ k. none-failed k ∙ sym (all_alike (λ (b : Bool). b ≡ false) 32 false k refl) };
}
