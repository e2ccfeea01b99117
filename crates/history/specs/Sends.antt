-- What the claim of an accepted step says of its answer (W-201). For every code but send it is the answer (`ClaimIsAnswer`). A send answers which of its linked queues were full, and may claim Limit instead (`SendSays`);
-- what the promises read of a recording is the same whatever a send claims (`Unread`), and so are the promises at that send (`SendIsUnread`). Proved in proofs/Sends.antt.
-- Assumes nothing.
use Rattle.std.specs.Prelude.{ℕ, ◌<◌, Bool, true, false, List, ◌∷◌, ◌↔◌, ◌⊎◌, ◌≡◌}
use Rattle.std.proofs.Math.Option.{Option}
use Rattle.numbers.specs.Codes.{send_code}
use Rattle.laws.specs.Mask.{is_set}
use Rattle.faces.specs.Types.{Value, Step, Taken, Config, State}
use Rattle.values.specs.Values.{ok_v, limit_v, is_good}
use Rattle.state.specs.Tables.{element_in}
use Rattle.effects.specs.Steps.{linked, queueing, full_mask, sent_of}
use Rattle.effects.specs.Fullness.{FullQueue}
use Rattle.effects.specs.Step.{step_of}
use Rattle.history.specs.History.{History, observe, Started, time_of, tick_after, lives_after, back_after, bound_after, awaits_after, held_after, holder_after, all_queued, all_spawns}
use Rattle.history.specs.Promises.{Run, AtStep}

-- a step of any code but send answered, in the state before it, what it claims (W-201)
abbrev pub ClaimIsAnswer : Config → List Step → Step → List Step → Type 0
ClaimIsAnswer cfg before s after = (s.code ≡ send_code → ⊥) → (m : State) × Run cfg before m × ((step_of cfg m s).answer ≡ Taken s.claim)

-- a send from the state m (W-201)
pub record Said (cfg : Config) (m : State) (s : Step) : Type 0 where
  -- it answers by the mask of its full queues: Ok for none, else Full
  pub answer : (step_of cfg m s).answer ≡ Taken (sent_of (full_mask cfg m.elements s.what))
  -- it claims that, or Limit where a queue was full
  pub claim : (s.claim ≡ sent_of (full_mask cfg m.elements s.what)) ⊎ ((s.claim ≡ limit_v) × (0 < full_mask cfg m.elements s.what))
  -- Ok says that none was full
  pub none : s.claim ≡ ok_v → (q : ℕ) → FullQueue cfg m.elements s.what q → ⊥
  -- a recording may hold the answer
  pub good : is_good (sent_of (full_mask cfg m.elements s.what)) ≡ true
  -- bit q is set exactly if q is linked and its queue was full
  pub bits : (q : ℕ) → (is_set (full_mask cfg m.elements s.what) q ≡ true) ↔ FullQueue cfg m.elements s.what q
  -- a queue that is named is as it was
  pub kept : (q : ℕ) → is_set (full_mask cfg m.elements s.what) q ≡ true → element_in (step_of cfg m s).state.elements q ≡ element_in m.elements q
  -- every other linked queue got the value
  pub got : (q : ℕ) → q < cfg.required.n → linked cfg s.what q ≡ true → is_set (full_mask cfg m.elements s.what) q ≡ false
      → element_in (step_of cfg m s).state.elements q ≡ queueing s.argument (element_in m.elements q)

-- every send is so, from the state that the steps before it reach (W-201)
abbrev pub SendSays : Config → List Step → Step → List Step → Type 0
SendSays cfg before s after = s.code ≡ send_code → (m : State) × Run cfg before m × Said cfg m s

-- the same step with another claim (W-201)
abbrev pub claiming : Step → Value → Step
claiming s v = record { code = s.code; who = s.who; what = s.what; argument = s.argument; claim = v }

-- nothing that the promises read of a recording reads the claim of s (W-201)
pub record Unread (s : Step) (v : Value) : Type 0 where
  pub history : (cfg : Config) (h : History) → observe cfg h (claiming s v) ≡ observe cfg h s
  pub started : (rs : List Step) (k o : ℕ) → Started (claiming s v ∷ rs) k o ↔ Started (s ∷ rs) k o
  pub time : time_of (claiming s v) ≡ time_of s
  pub ticks : (k n w : ℕ) → tick_after k n w (claiming s v) ≡ tick_after k n w s
  pub lives : (i n w : ℕ) → lives_after i n w (claiming s v) ≡ lives_after i n w s
  pub backs : (i : ℕ) (w : Bool) → back_after i w (claiming s v) ≡ back_after i w s
  pub bounds : (cfg : Config) (o : ℕ) (w : Bool) → bound_after cfg o w (claiming s v) ≡ bound_after cfg o w s
  pub awaits : (cfg : Config) (i n w : ℕ) → awaits_after cfg i n w (claiming s v) ≡ awaits_after cfg i n w s
  pub helds : (i n w : ℕ) → held_after i n w (claiming s v) ≡ held_after i n w s
  pub holders : (a : ℕ) (w : Option ℕ) → holder_after a w (claiming s v) ≡ holder_after a w s
  pub queued : (cfg : Config) (r n : ℕ) (rs : List Step) → all_queued cfg r n (claiming s v ∷ rs) ≡ all_queued cfg r n (s ∷ rs)
  pub spawns : (r : ℕ) (rs : List Step) → all_spawns r (claiming s v ∷ rs) ≡ all_spawns r (s ∷ rs)

-- a send's claim is not read, and the promises that hold at it hold whatever it claims (W-201)
abbrev pub SendIsUnread : Type 0
SendIsUnread = (cfg : Config) (before after : List Step) (s : Step) (v : Value) → s.code ≡ send_code → Unread s v × (AtStep cfg before s after → AtStep cfg before (claiming s v) after)
