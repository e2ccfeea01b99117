-- What one accepted step does to the pending activations of a plain runnable, way by way (`counts-way`): most leave them (`calm`), events and ticks wake (`wakes`), a spawn takes one (`takes`).
-- Assumes nothing.
use Prim.Native.Nat.{ℕ, ◌+◌, ◌-◌, ◌<◌}
use mathlib.Core.Bool.{Bool, true, false}
use mathlib.Core.Path.{◌≡◌, refl, sym, ◌∙◌, ap}
use native.Mathlib.Decide.{ℕ_discrete, dec_lt}
use native.Mathlib.Omega.{arith}
use lib.Dec.{eqb}
use lib.ListN.{length}
use lib.Seq.{get_or-set_same, get_or-set_other}
use borrow.Author.Tests.{lt-leb, le-leb, leb-true, ltb-true, ltb-false, eq-eqb, ne_eqb, eqb-true}
use Rattle.numbers.specs.Codes.{write_code, send_code, hand_back_code, end_code, spawn_code, timeout_code, tick_code}
use Rattle.laws.specs.Choice.{pick, both, bit}
use Rattle.laws.proofs.Choosing.{both_left}
use Rattle.laws.proofs.Places.{each_at}
use Rattle.faces.specs.Types.{Value, Step, RunnableConf, Config, Runnable, Copies, State}
use Rattle.config.specs.Tables.{runnable_conf_in, timer_conf_in, top_of}
use Rattle.entries.specs.Faults.{is_server}
use Rattle.state.specs.Parts.{no_runnable}
use Rattle.state.specs.Tables.{runnable_in, with_runnable, copies_in}
use Rattle.rules.proofs.Configured.{runnables-most}
use Rattle.effects.specs.Steps.{runnable_of, leaving, is_given_to, given_runnables, hands_on, handed_runnables, one_more, woken, is_fed, fed_runnables, fed, called, is_returned, returned_runnables, closed, answers, client_of, is_due, starting, spawned, waited}
use Rattle.effects.proofs.Pending.{more-below, more-above}
use Rattle.stays_sound.specs.Facts.{Sound, CanSpawn}
use Rattle.stays_sound.proofs.Told.{told, runnables-length}
use Rattle.stays_sound.proofs.Kept.{runnable-kept, after_kept}
use Rattle.stays_sound.proofs.Runnables.{most-plain, sits-at}
use Rattle.stays_sound.proofs.Ways.{Way}
use Rattle.stays_sound.proofs.Ways as go
use Rattle.stays_sound.proofs.Accepted.{accepted, gone}
use Rattle.history.proofs.Runs.{taken_of}
use Rattle.state.specs.Places.{place_in, with_place}
use Rattle.activations.specs.Claims.{pending_of, top_at, Plain, hands_on_to, triggers, loses, spawns, StepCounts, TopHolds}

-- ---- the top

pub top-holds : TopHolds
top-holds cfg st r p h =
    let g = told cfg st h in
    leb-true (pending_of st r) (top_at cfg r) (rw (most-plain cfg r p.0 p.1) at (sits-at cfg st g r p.0).pending)

-- ---- one step

-- a plain runnable has no capacity
pub plain-capacity : (cfg : Config) (r : ℕ) → Plain cfg r → (runnable_conf_in cfg.runnables r).capacity ≡ 0
unfolding is_server
plain-capacity cfg r p = omega (arith, ltb-false 0 (runnable_conf_in cfg.runnables r).capacity p.1)

-- a spawn triggers nothing
pub spawn-still : (cfg : Config) (st : State) (s : Step) (r : ℕ) → spawns s r ≡ true → triggers cfg st s r ≡ false
unfolding spawns triggers
spawn-still cfg st s r h = let c : s.code ≡ spawn_code = eqb-true s.code spawn_code (both_left (eqb s.code spawn_code) _ h) in rw c

-- a runnable that is woken, or not
woken-pending : (b : Bool) (c : RunnableConf) (x : Runnable) → (pick b (woken c x) x).pending ≡ pick b (one_more (top_of c) x.pending) x.pending
woken-pending true c x = refl
woken-pending false c x = refl

module _ (cfg : Config) (st : State) (s : Step) (r : ℕ) (p : Plain cfg r) (g : Sound cfg st) where
  -- what triggers says of a code
  abbrev triggers_by : ℕ → Bool
  triggers_by n =
      pick (eqb n write_code) (is_fed cfg st.elements s.what r)
      (pick (eqb n send_code) (is_fed cfg st.elements s.what r)
      (pick (eqb n hand_back_code) (both (answers st.operations (client_of st s.who)) (is_returned cfg (client_of st s.who).operation r))
      (pick (eqb n timeout_code) (is_returned cfg s.what r)
      (pick (eqb n end_code) (hands_on_to cfg st s.who r)
      (both (eqb n tick_code) (eqb (timer_conf_in cfg.timers s.what).runnable r))))))

  trigger : {n : ℕ} → s.code ≡ n → triggers cfg st s r ≡ triggers_by n
  unfolding triggers
  trigger c = ap triggers_by c

  spawn : {n : ℕ} → s.code ≡ n → spawns s r ≡ both (eqb n spawn_code) (eqb s.what r)
  unfolding spawns
  spawn c = ap (λ (n : ℕ). both (eqb n spawn_code) (eqb s.what r)) c

  -- the account of a step that leaves n pending
  abbrev Counts : ℕ → Type 0
  Counts n = n + bit (spawns s r) + bit (loses cfg st s r) ≡ pending_of st r + bit (triggers cfg st s r)

  -- what triggers nothing loses nothing
  keeps-all : triggers cfg st s r ≡ false → loses cfg st s r ≡ false
  unfolding loses
  keeps-all f = rw f

  calm : {n : ℕ} → triggers cfg st s r ≡ false → spawns s r ≡ false → n ≡ pending_of st r → Counts n
  calm f q e = omega (arith, e, ap bit f, ap bit q, ap bit (keeps-all f))

  wakes : {n : ℕ} (b : Bool) → triggers cfg st s r ≡ b → spawns s r ≡ false → n ≡ pick b (one_more (top_at cfg r) (pending_of st r)) (pending_of st r) → Counts n
  unfolding loses
  wakes false f q e = calm f q e
  wakes {n} true f q e = by (dec_lt (pending_of st r) (top_at cfg r))
    where
      by : Dec (pending_of st r < top_at cfg r) → Counts n
      by (yes b) =
          let l : loses cfg st s r ≡ false = rw (f, lt-leb (top_at cfg r) (pending_of st r) b) in
          omega (arith, e ∙ more-below (top_at cfg r) (pending_of st r) b, ap bit f, ap bit q, ap bit l)
      by (no b) =
          let l : loses cfg st s r ≡ true = rw (f, le-leb (top_at cfg r) (pending_of st r) (omega (arith, b))) in
          omega (arith, e ∙ more-above (top_at cfg r) (pending_of st r) (omega (arith, b)), ap bit f, ap bit q, ap bit l)

  takes : {n : ℕ} → triggers cfg st s r ≡ false → spawns s r ≡ true → 0 < pending_of st r → n ≡ pending_of st r - 1 → Counts n
  takes f q d e = omega (arith, e, d, ap bit f, ap bit q, ap bit (keeps-all f))

  -- ---- the tables

  here : r < length st.runnables.at
  here = omega (arith, runnables-length cfg st g, runnables-most cfg g.config, p.0)

  fed-pending : (q : ℕ) (v : Value) → pending_of (fed cfg st q v) r ≡ pick (is_fed cfg st.elements q r) (one_more (top_at cfg r) (pending_of st r)) (pending_of st r)
  unfolding fed fed_runnables place_in
  fed-pending q v =
      ap (λ (x : Runnable). x.pending) (each_at (λ (k : ℕ) (x : Runnable). pick (is_fed cfg st.elements q k) (woken (runnable_conf_in cfg.runnables k) x) x) no_runnable cfg.runnables.n st.runnables.at r p.0 here)
      ∙ woken-pending (is_fed cfg st.elements q r) (runnable_conf_in cfg.runnables r) (runnable_in st.runnables r)

  given-at : (k : ℕ) (c : Copies) → (runnable_in (given_runnables cfg st.elements k c st.runnables) r).pending ≡ pick (is_given_to cfg st.elements k c r) (one_more (top_at cfg r) (pending_of st r)) (pending_of st r)
  unfolding given_runnables place_in
  given-at k c =
      ap (λ (x : Runnable). x.pending) (each_at (λ (j : ℕ) (x : Runnable). pick (is_given_to cfg st.elements k c j) (woken (runnable_conf_in cfg.runnables j) x) x) no_runnable cfg.runnables.n st.runnables.at r p.0 here)
      ∙ woken-pending (is_given_to cfg st.elements k c r) (runnable_conf_in cfg.runnables r) (runnable_in st.runnables r)

  closed-pending : (o : ℕ) (v : Value) → pending_of (closed cfg st o v) r ≡ pick (is_returned cfg o r) (one_more (top_at cfg r) (pending_of st r)) (pending_of st r)
  unfolding closed returned_runnables place_in
  closed-pending o v =
      ap (λ (x : Runnable). x.pending) (each_at (λ (k : ℕ) (x : Runnable). pick (is_returned cfg o k) (woken (runnable_conf_in cfg.runnables k) x) x) no_runnable cfg.runnables.n st.runnables.at r p.0 here)
      ∙ woken-pending (is_returned cfg o r) (runnable_conf_in cfg.runnables r) (runnable_in st.runnables r)

  -- an end hands on what its instance has set
  handed-pending : (i : ℕ) → (runnable_in (handed_runnables cfg st i) r).pending ≡ pick (hands_on_to cfg st i r) (one_more (top_at cfg r) (pending_of st r)) (pending_of st r)
  unfolding handed_runnables
  handed-pending i = by (hands_on cfg st i) refl
    where
      k : ℕ
      k = runnable_of st i

      given-pending : (runnable_in (given_runnables cfg st.elements k (copies_in st.outgoing i) st.runnables) r).pending ≡ pick (is_given_to cfg st.elements k (copies_in st.outgoing i) r) (one_more (top_at cfg r) (pending_of st r)) (pending_of st r)
      given-pending = given-at k (copies_in st.outgoing i)

      by : (b : Bool) → hands_on cfg st i ≡ b → (runnable_in (pick b (given_runnables cfg st.elements k (copies_in st.outgoing i) st.runnables) st.runnables) r).pending ≡ pick (both b (is_given_to cfg st.elements k (copies_in st.outgoing i) r)) (one_more (top_at cfg r) (pending_of st r)) (pending_of st r)
      by true e = given-pending
      by false e = refl

  -- one runnable changed: r itself, or another
  put_same : (x : Runnable) → runnable_in (with_runnable st.runnables r x) r ≡ x
  unfolding place_in with_place
  put_same x = get_or-set_same st.runnables.at r x no_runnable here

  put_other : (k : ℕ) (x : Runnable) → (r ≡ k → ⊥) → runnable_in (with_runnable st.runnables k x) r ≡ runnable_in st.runnables r
  unfolding place_in with_place
  put_other k x n = get_or-set_other st.runnables.at k r x no_runnable n

  tick-pending : (k : ℕ) → (runnable_in (with_runnable st.runnables k (woken (runnable_conf_in cfg.runnables k) (runnable_in st.runnables k))) r).pending ≡ pick (eqb k r) (one_more (top_at cfg r) (pending_of st r)) (pending_of st r)
  tick-pending k = by (ℕ_discrete r k)
    where
      by : Dec (r ≡ k) → (runnable_in (with_runnable st.runnables k (woken (runnable_conf_in cfg.runnables k) (runnable_in st.runnables k))) r).pending ≡ pick (eqb k r) (one_more (top_at cfg r) (pending_of st r)) (pending_of st r)
      by (yes e) = rw (← e, put_same (woken (runnable_conf_in cfg.runnables r) (runnable_in st.runnables r)), eq-eqb r r refl)
      by (no n) = rw (put_other k (woken (runnable_conf_in cfg.runnables k) (runnable_in st.runnables k)) n, ne_eqb k r (λ e. n (sym e)))

  -- ---- a spawn

  due : CanSpawn cfg st r → 0 < pending_of st r
  unfolding is_due
  due z = ltb-true 0 (pending_of st r) (rw (plain-capacity cfg r p) at z.due)

  begun-pending : (x : Runnable) → (starting (runnable_conf_in cfg.runnables r) x).pending ≡ x.pending - 1
  unfolding starting
  begun-pending x = rw (plain-capacity cfg r p)

  -- the runnable that is spawned, as it stands then
  abbrev after : ℕ → Runnable
  after k = starting (runnable_conf_in cfg.runnables k) (runnable_in st.runnables k)

  spawn-counts : s.code ≡ spawn_code → CanSpawn cfg st s.what → Counts (runnable_in (with_runnable st.runnables s.what (after s.what)) r).pending
  spawn-counts c z = by (ℕ_discrete r s.what)
    where
      by : Dec (r ≡ s.what) → Counts (runnable_in (with_runnable st.runnables s.what (after s.what)) r).pending
      by (yes e) =
          takes (trigger c) (spawn c ∙ eq-eqb s.what r (sym e)) (due (rw e z))
          (ap (λ (k : ℕ). (runnable_in (with_runnable st.runnables k (after k)) r).pending) (sym e) ∙ ap (λ (x : Runnable). x.pending) (put_same (after r)) ∙ begun-pending (runnable_in st.runnables r))
      by (no n) = calm (trigger c) (spawn c ∙ ne_eqb s.what r (λ e. n (sym e))) (ap (λ (x : Runnable). x.pending) (put_other s.what (after s.what) n))

  -- ---- every way

  counts-way : {n : ℕ} {w : Value} {t : State} → s.code ≡ n → Way cfg st s n w t → Counts (pending_of t r)
  unfolding called waited spawned
  counts-way c go.read_variable = calm (trigger c) (spawn c) refl
  counts-way c (go.write_variable z) = calm (trigger c) (spawn c) refl
  counts-way c (go.enter z) = calm (trigger c) (spawn c) refl
  counts-way c (go.exit z) = calm (trigger c) (spawn c) refl
  counts-way c (go.read z) = calm (trigger c) (spawn c) refl
  counts-way c (go.write z) = wakes (is_fed cfg st.elements s.what r) (trigger c) (spawn c) (fed-pending s.what s.argument)
  counts-way c go.updated = calm (trigger c) (spawn c) refl
  counts-way c (go.invalidate z) = calm (trigger c) (spawn c) refl
  counts-way c (go.receive_none e i) = calm (trigger c) (spawn c) refl
  counts-way c (go.receive z) = calm (trigger c) (spawn c) refl
  counts-way c (go.send z) = wakes (is_fed cfg st.elements s.what r) (trigger c) (spawn c) (fed-pending s.what s.argument)
  counts-way c (go.call_busy e) = calm (trigger c) (spawn c) refl
  counts-way c (go.call z) = calm (trigger c) (spawn c) (runnable-kept (λ x. x.pending) st.runnables _ _ refl r)
  counts-way c (go.poll_open a e) = calm (trigger c) (spawn c) refl
  counts-way c (go.poll a e) = calm (trigger c) (spawn c) refl
  counts-way c (go.collect z) = calm (trigger c) (spawn c) refl
  counts-way c (go.answer z e) =
      wakes (is_returned cfg (client_of st s.who).operation r) (trigger c ∙ ap (λ (b : Bool). both b (is_returned cfg (client_of st s.who).operation r)) e) (spawn c) (closed-pending (client_of st s.who).operation _)
  counts-way c (go.late z e) = calm (trigger c ∙ ap (λ (b : Bool). both b (is_returned cfg (client_of st s.who).operation r)) e) (spawn c) refl
  counts-way c (go.end z) = wakes (hands_on_to cfg st s.who r) (trigger c) (spawn c) (runnable-kept (λ x. x.pending) (handed_runnables cfg st s.who) (runnable_of st s.who) (leaving (runnable_in (handed_runnables cfg st s.who) (runnable_of st s.who))) refl r ∙ handed-pending s.who)
  counts-way c (go.spawn z) = spawn-counts c z
  counts-way c (go.timeout z) = wakes (is_returned cfg s.what r) (trigger c) (spawn c) (closed-pending s.what _)
  counts-way c (go.tick z) = wakes (eqb (timer_conf_in cfg.timers s.what).runnable r) (trigger c) (spawn c) (tick-pending (timer_conf_in cfg.timers s.what).runnable)
  counts-way c (go.wait z) = calm (trigger c) (spawn c) (after_kept (λ x. x.pending) s.argument.number (λ x. refl) cfg st.runnables r)
  counts-way c (go.fail z) = calm (trigger c) (spawn c) refl
  counts-way c (go.hold z) = calm (trigger c) (spawn c) refl
  counts-way c (go.give_up z) = calm (trigger c) (spawn c) refl
  counts-way c (go.read_copy z) = calm (trigger c) (spawn c) refl
  counts-way c (go.write_copy z) = calm (trigger c) (spawn c) refl

pub step_counts : StepCounts
step_counts cfg st s r p a =
    let h = taken_of cfg st s a in
    counts-way cfg st s r p (told cfg st (accepted cfg st s h).0) refl (gone cfg st s refl h)
