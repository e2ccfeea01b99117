-- What the counting flag makes of the top: fifteen with it, and one without, where a runnable is pending or not, as before. While one is pending a spawn is possible.
-- Assumes nothing.
use Prim.Native.Nat.{◌+◌, ◌≤◌}
use mathlib.Core.Bool.{Bool, true, false}
use mathlib.Core.Path.{◌≡◌, refl}
use native.Mathlib.Omega.{arith}
use lib.Dec.{leb}
use borrow.Author.Tests.{lt-ltb, leb-true, leb-false}
use Rattle.numbers.specs.Codes.{spawn_code}
use Rattle.laws.specs.Choice.{pick, both, bit}
use Rattle.laws.proofs.Choosing.{clash}
use Rattle.faces.specs.Types.{RunnableConf}
use Rattle.values.specs.Values.{void_v, is_void}
use Rattle.config.specs.Tables.{max_pending, runnable_conf_in, top_of}
use Rattle.entries.specs.Entries.{count_of}
use Rattle.rules.specs.Rows.{rows, row_of}
use Rattle.rules.specs.Refusals.{argues, formed, part_there, scheduler_refusal, refusal_by, refusal_of}
use Rattle.effects.specs.Steps.{is_due, may_spawn, spawn_of}
use Rattle.effects.specs.Step.{step_of}
use Rattle.effects.proofs.Codes.{spawn, possible-by}
use Rattle.stays_sound.proofs.Accepted.{accepted}
use Rattle.history.proofs.Runs.{taken_of}
use Rattle.activations.specs.Claims.{pending_of, top_at, triggers, loses, spawns, PendingSpawns, CountedInAnyOrder, AsBefore}
use Rattle.activations.proofs.Steps.{plain-capacity, spawn-still, top-holds, step_counts}
use Rattle.activations.proofs.Runs.{run-counts, none-lost}

-- ---- the top, by the flag: the only two places that ask for it

pub top-counting : (c : RunnableConf) → c.counting ≡ true → top_of c ≡ max_pending
unfolding top_of
top-counting c f = rw f

pub top-single : (c : RunnableConf) → c.counting ≡ false → top_of c ≡ 1
unfolding top_of
top-single c f = rw f

pub counted-in-any-order : CountedInAnyOrder
counted-in-any-order cfg st st' rs r p f e h =
    let l = none-lost cfg st st' rs r p e (omega (arith, h, top-counting (runnable_conf_in cfg.runnables r) f)) in
    omega (arith, run-counts cfg st st' rs r p e, l)

-- ---- without the flag

pub as_before : AsBefore
unfolding loses
as_before cfg st s r p f a = (most, by (triggers cfg st s r) refl (spawns s r) refl)
  where
    top : top_at cfg r ≡ 1
    top = top-single (runnable_conf_in cfg.runnables r) f

    most : pending_of st r ≤ 1
    most = omega (arith, top, top-holds cfg st r p (accepted cfg st s (taken_of cfg st s a)).0)

    -- the account of the step, with its tests known
    account : (b d : Bool) → triggers cfg st s r ≡ b → spawns s r ≡ d
        → pending_of (step_of cfg st s).state r + bit d + bit (both b (leb (top_at cfg r) (pending_of st r))) ≡ pending_of st r + bit b
    account b d e g = rw (← e, ← g) (step_counts cfg st s r p a)

    -- lost at one, or one more from none
    one : (b : Bool) → leb (top_at cfg r) (pending_of st r) ≡ b → pending_of (step_of cfg st s).state r + 0 + bit b ≡ pending_of st r + 1 → pending_of (step_of cfg st s).state r ≡ 1
    one true e h = omega (arith, h, top, most, leb-true (top_at cfg r) (pending_of st r) e)
    one false e h = omega (arith, h, top, leb-false (top_at cfg r) (pending_of st r) e)

    by : (b : Bool) → triggers cfg st s r ≡ b → (d : Bool) → spawns s r ≡ d → pending_of (step_of cfg st s).state r ≡ pick b 1 (pick d 0 (pending_of st r))
    by true e true g = absurd (clash (triggers cfg st s r) e (spawn-still cfg st s r g))
    by true e false g = one (leb (top_at cfg r) (pending_of st r)) refl (account true false e g)
    by false e true g = omega (arith, account false true e g, most)
    by false e false g = omega (arith, account false false e g)

-- ---- a spawn while one is pending

pub pending-spawns : PendingSpawns
unfolding refusal_of refusal_by row_of rows scheduler_refusal formed argues part_there count_of is_void spawn_of may_spawn is_due
pending-spawns cfg st r p d z a l =
    rw (possible-by cfg st (record { code = spawn_code; who = 0; what = r; argument = void_v; claim = void_v }) spawn refl (rw (lt-ltb r cfg.runnables.n p.0)), z, a, plain-capacity cfg r p, lt-ltb 0 (pending_of st r) d, lt-ltb _ _ l)
