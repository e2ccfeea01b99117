-- What holds of every run and the state that it reaches, each by the one induction over the recording (`along`): the state is sound (`sound-at`) and tied to the
-- history (`tied_at`), the history's places are started calls (`named-at`), each server's queue is first in, first out (`fifo-at`), the counts of open calls are
-- what is left of their time (`timed-at`), as those of timers are of their periods (`ticked-at`), each ending stands at its step, in time (`ended-along`), areas stand with whoever entered
-- them (`holds_at`), a call without an ending is the latest of its operation (`unended-at`), a slot is in use while an instance lives there (`lives_at`), is
-- finished once it has handed back (`backs-at`), does not wait if it has failed (`runs-at`), is held by its own step (`held_at`), waits for its own call alone (`awaits-at`) on an operation that is bound (`bounds-at`), and owes an answer or has given it if it was spawned for a call (`paid-at`).
-- Endings are only added: a call has ended at least as often after more steps (`ends-grow`).
-- Assumes nothing.
use Prim.Native.Nat.{ℕ, ◌≤◌, ◌<◌}
use mathlib.Core.Bool.{true}
use mathlib.Core.List.{List, [], ◌∷◌, ◌++◌}
use mathlib.Core.Path.{◌≡◌}
use native.Mathlib.Omega.{arith}
use Rattle.faces.specs.Types.{Step, Config, State}
use Rattle.entries.specs.Faults.{is_server, config_sound}
use Rattle.rules.specs.Sound.{sound_of}
use Rattle.effects.specs.Step.{step_of}
use Rattle.stays_sound.specs.Facts.{Sound}
use Rattle.stays_sound.proofs.Told.{told}
use Rattle.stays_sound.proofs.Start.{start-sound}
use Rattle.stays_sound.proofs.Keeps.{kept_step}
use Rattle.stays_sound.proofs.Accepted.{accepted}
use Rattle.history.specs.History.{History, nothing, observe, history_from, history_of, ends_of, holder_of}
use Rattle.history.specs.Promises.{Run}
use Rattle.history.proofs.Tied.{Tied}
use Rattle.history.proofs.Runs.{history-append, history-one, along}
use Rattle.history.proofs.Deeds.{tied-deed}
use Rattle.history.proofs.Accepts.{deed}
use Rattle.history.proofs.Start.{tied-start}
use Rattle.history.proofs.Named.{Named, named_start, named-deed}
use Rattle.history.proofs.Fifo.{Fifo, fifo-start, fifo-deed}
use Rattle.history.proofs.Timed.{Timed, timed-start, timed-deed}
use Rattle.history.proofs.Ticked.{Ticked, ticked-start, clocks, ticked-deed}
use Rattle.history.proofs.Ended.{AllEnded, ended-start, ended-deed}
use Rattle.history.proofs.Unended.{Unended, grows, unended-start, unended-deed}
use Rattle.history.proofs.Lives.{Lives, lives-start, lives-deed}
use Rattle.history.proofs.Backs.{Backs, backs-start, backs-deed, Runs, runs-start, runs-deed, Paid, paid-start, paid-deed}
use Rattle.history.proofs.Holding.{Held, held_start, held-step}
use Rattle.history.proofs.Waiting.{Bounds, bounds-start, bounds-step, Awaits, awaits-start, waits-by, awaits-step}
use Rattle.history.proofs.Held.{Holds, holder-one, moves, holds-start, holds-deed}

-- ---- by induction over the recording

pub sound-along : (cfg : Config) (rs : List Step) (st : State) → config_sound cfg ≡ true → Run cfg rs st → sound_of cfg st ≡ true
sound-along cfg rs st c e = along cfg (λ before m. sound_of cfg m ≡ true) (λ before s m r p a. kept_step cfg m s p) (start-sound cfg c) rs st e

pub sound-at : (cfg : Config) (rs : List Step) (st : State) → config_sound cfg ≡ true → Run cfg rs st → Sound cfg st
sound-at cfg rs st c e = told cfg st (sound-along cfg rs st c e)

pub tied_at : (cfg : Config) (rs : List Step) (st : State) → Run cfg rs st → Tied st (history_of cfg rs)
unfolding history_of history_from
tied_at cfg rs st e =
    along cfg (λ before m. Tied m (history_of cfg before))
    (λ before s m r t a. rw (history-one cfg before s) (tied-deed cfg m s (step_of cfg m s).state (history_of cfg before) (told cfg m (accepted cfg m s a).0) (deed cfg m s a) t))
    (tied-start cfg) rs st e

pub named-at : (cfg : Config) (rs : List Step) (st : State) → Run cfg rs st → Named rs (history_of cfg rs)
unfolding history_of history_from
named-at cfg rs st e =
    along cfg (λ before m. Named before (history_of cfg before))
    (λ before s m r n a. rw (history-one cfg before s) (named-deed cfg m s (step_of cfg m s).state before (history_of cfg before) (deed cfg m s a) n))
    named_start rs st e

pub fifo-at : (cfg : Config) (rs : List Step) (st : State) (r : ℕ) → is_server cfg r ≡ true → r < 16 → Run cfg rs st → Fifo cfg r rs (history_of cfg rs)
unfolding history_of history_from
fifo-at cfg rs st r y b e =
    along cfg (λ before m. Fifo cfg r before (history_of cfg before))
    (λ before s m k f a.
    rw (history-one cfg before s)
    (fifo-deed cfg m s (step_of cfg m s).state r before (history_of cfg before) (deed cfg m s a) (tied_at cfg before m k) (named-at cfg before m k).place y b f))
    (fifo-start cfg r) rs st e

pub timed-at : (cfg : Config) (rs : List Step) (st : State) → Run cfg rs st → Timed cfg st.operations (history_of cfg rs).latest rs
unfolding history_of history_from
timed-at cfg rs st e =
    along cfg (λ before m. Timed cfg m.operations (history_of cfg before).latest before)
    (λ before s m r t a.
    rw (history-one cfg before s)
    (timed-deed cfg m s (step_of cfg m s).state before (history_of cfg before) (told cfg m (accepted cfg m s a).0) (deed cfg m s a) (tied_at cfg before m r) (named-at cfg before m r) t))
    (timed-start cfg) rs st e

pub ended-along : (cfg : Config) (rs : List Step) (st : State) → Run cfg rs st → AllEnded cfg rs (history_of cfg rs).endings
unfolding history_of history_from
ended-along cfg rs st e =
    along cfg (λ before m. AllEnded cfg before (history_of cfg before).endings)
    (λ before s m r l a.
    rw (history-one cfg before s)
    (ended-deed cfg m s (step_of cfg m s).state before (deed cfg m s a) (tied_at cfg before m r) (named-at cfg before m r) (timed-at cfg before m r) l))
    (ended-start cfg) rs st e

pub ticked-at : (cfg : Config) (rs : List Step) (st : State) → Run cfg rs st → Ticked cfg st.timers rs
ticked-at cfg rs st e =
    along cfg (λ before m. Ticked cfg m.timers before)
    (λ before s m r t a. ticked-deed cfg m s (step_of cfg m s).state before (told cfg m (accepted cfg m s a).0) (clocks cfg m s (step_of cfg m s).state (deed cfg m s a)) t)
    (ticked-start cfg) rs st e

pub holds_at : (cfg : Config) (rs : List Step) (st : State) (a : ℕ) → Run cfg rs st → Holds st a (holder_of a rs)
holds_at cfg rs st a e =
    along cfg (λ before m. Holds m a (holder_of a before))
    (λ before s m r h x.
    let g = told cfg m (accepted cfg m s x).0 in
    rw (holder-one a before s) (holds-deed cfg m s g (step_of cfg m s).state (moves cfg m s (step_of cfg m s).state g (deed cfg m s x)) a (holder_of a before) h))
    (holds-start cfg a) rs st e

pub unended-at : (cfg : Config) (rs : List Step) (st : State) → Run cfg rs st → Unended rs (history_of cfg rs)
unfolding history_of history_from
unended-at cfg rs st e =
    along cfg (λ before m. Unended before (history_of cfg before))
    (λ before s m r u a.
    rw (history-one cfg before s)
    (unended-deed cfg m s (step_of cfg m s).state before (history_of cfg before) (told cfg m (accepted cfg m s a).0) (deed cfg m s a) (tied_at cfg before m r) (named-at cfg before m r) u))
    unended-start rs st e

pub lives_at : (cfg : Config) (rs : List Step) (st : State) → Run cfg rs st → Lives st.slots rs
lives_at cfg rs st e =
    along cfg (λ before m. Lives m.slots before)
    (λ before s m r l a. lives-deed cfg m s (step_of cfg m s).state before (told cfg m (accepted cfg m s a).0) (deed cfg m s a) l)
    (lives-start cfg) rs st e

pub backs-at : (cfg : Config) (rs : List Step) (st : State) → Run cfg rs st → Backs st.slots rs
backs-at cfg rs st e =
    along cfg (λ before m. Backs m.slots before)
    (λ before s m r l a. backs-deed cfg m s (step_of cfg m s).state before (told cfg m (accepted cfg m s a).0) (deed cfg m s a) l)
    (backs-start cfg) rs st e

pub runs-at : (cfg : Config) (rs : List Step) (st : State) → Run cfg rs st → Runs st.slots
runs-at cfg rs st e = along cfg (λ before m. Runs m.slots) (λ before s m r l a. runs-deed cfg m s (step_of cfg m s).state (deed cfg m s a) l) (runs-start cfg) rs st e

pub paid-at : (cfg : Config) (rs : List Step) (st : State) → Run cfg rs st → Paid st.slots (history_of cfg rs).taken
unfolding history_of history_from
paid-at cfg rs st e =
    along cfg (λ before m. Paid m.slots (history_of cfg before).taken)
    (λ before s m r l a.
    rw (history-one cfg before s)
    (paid-deed cfg m s (step_of cfg m s).state (history_of cfg before) (told cfg m (accepted cfg m s a).0) (deed cfg m s a) (tied_at cfg before m r) l))
    (paid-start cfg) rs st e

pub bounds-at : (cfg : Config) (rs : List Step) (st : State) → Run cfg rs st → Bounds cfg st.slots rs
bounds-at cfg rs st e =
    along cfg (λ before m. Bounds cfg m.slots before)
    (λ before s m r l a. bounds-step cfg m s (step_of cfg m s).state before (told cfg m (accepted cfg m s a).0) (waits-by cfg m s a) l)
    (bounds-start cfg) rs st e

pub awaits-at : (cfg : Config) (rs : List Step) (st : State) → Run cfg rs st → Awaits cfg st.slots rs (history_of cfg rs)
unfolding history_of history_from
awaits-at cfg rs st e =
    along cfg (λ before m. Awaits cfg m.slots before (history_of cfg before))
    (λ before s m r l a. rw (history-one cfg before s) (awaits-step cfg m s a before (history_of cfg before) (tied_at cfg before m r) (named-at cfg before m r) (lives_at cfg before m r) l))
    (awaits-start cfg) rs st e

pub held_at : (cfg : Config) (rs : List Step) (st : State) → Run cfg rs st → Held st.slots rs
held_at cfg rs st e = along cfg (λ before m. Held m.slots before) (λ before s m r l a. held-step cfg m s before l a) (held_start cfg) rs st e

-- ---- endings are only added

grows_from : (cfg : Config) (h : History) (rs : List Step) (k : ℕ) → ends_of k h.endings ≤ ends_of k (history_from cfg h rs).endings
unfolding history_from
grows_from cfg h [] k = omega arith
grows_from cfg h (s ∷ rs) k = omega (arith, grows cfg h s k, grows_from cfg (observe cfg h s) rs k)

pub ends-grow : (cfg : Config) (before after : List Step) (k : ℕ) → ends_of k (history_of cfg before).endings ≤ ends_of k (history_of cfg (before ++ after)).endings
unfolding history_of
ends-grow cfg before after k = rw (history-append cfg nothing before after) (grows_from cfg (history_from cfg nothing before) after k)
