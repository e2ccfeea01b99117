-- `call_steps::is_borne` meets its contract.
-- Assumes nothing.
use Prim.Native.Nat.{ℕ, ◌+◌}
use mathlib.Core.Bool.{true, false}
use mathlib.Core.Path.{◌≡◌, sym, ◌∙◌, ap}
use native.Mathlib.Omega.{arith}
use lib.Dec.{ltb}
use borrow.Author.Tests.{lt-ltb, ltb-true, ltb-false}
use Rattle.laws.specs.Loop.{sum_below}
use Rattle.config.specs.Tables.{max_runnable_confs}
use Rattle.faces.specs.Types.{Runnables, Slots}
use Rattle.state.specs.Tables.{max_slots, runnable_in, slot_in}
use Rattle.rules.specs.Sound.{queued_as, served_as, clients_as}
use Rattle.call_steps.proofs.is_borne.Goals as goal

module _ (rs : Runnables) (ss : Slots) (o m : ℕ) where
  abbrev queued : ℕ
  queued = sum_below (λ (r : ℕ). queued_as o m (runnable_in rs r).requests) max_runnable_confs

  abbrev served : ℕ
  served = sum_below (λ (k : ℕ). served_as o m (slot_in ss k).owed) max_slots

  -- a client in a queue is one; where there is none, it is one on an instance
  in-queue : ltb 0 queued ≡ true → ltb 0 (clients_as rs ss o m) ≡ true
  unfolding clients_as
  in-queue h = lt-ltb 0 (queued + served) (omega (arith, ltb-true 0 queued h))

  on-instance : ltb 0 queued ≡ false → ltb 0 served ≡ ltb 0 (clients_as rs ss o m)
  unfolding clients_as
  on-instance h = let e : served ≡ queued + served = omega (arith, ltb-false 0 queued h) in ap (ltb 0) e

pub returns-then-queued : goal.returns-then-queued
returns-then-queued c = c.if-queued.true ∙ sym (in-queue _ _ _ _ (sym c.any_queued_as-queued.ensures ∙ c.if-queued.true))

pub returns-else-queued : goal.returns-else-queued
returns-else-queued c = c.any_served_as-served.ensures ∙ on-instance _ _ _ _ (sym c.any_queued_as-queued.ensures ∙ c.if-queued.false)
