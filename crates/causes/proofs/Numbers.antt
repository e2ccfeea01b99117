-- The cause of a refusal stands for the machine's own number: of the step before its claim, with it, and after the test of soundness.
-- And there is no cause exactly where the step is taken.
-- Assumes nothing.
use Prim.Native.Nat.{ℕ}
use mathlib.Core.Bool.{Bool, true, false}
use mathlib.Core.Path.{◌≡◌, refl, sym, ap, ◌∙◌, subst}
use lib.Dec.{ltb, leb, eqb}
use Rattle.laws.specs.Choice.{pick, both}
use Rattle.laws.proofs.Choosing.{pick-has}
use Rattle.numbers.specs.Refusals.{malformed, step_gone, not_there, not_own, barred, area_taken, not_on_top, queue_full, number_borne, not_due, no_slot_free, too_far, not_over, areas_held, wrong_client, other_answer, still_waits}
use Rattle.numbers.specs.Codes.{timeout_code, receive_code, give_up_code}
use Rattle.values.specs.Values.{answer_refusal}
use Rattle.faces.specs.Types.{Value, Step, Answer, Taken, Refused, Config, RunnableConf, Life, Runnable, Slots, State, Stepped}
use Rattle.config.specs.Editions.{has_step}
use Rattle.config.specs.Tables.{runnable_conf_in}
use Rattle.entries.specs.Entries.{count_of, entry_of}
use Rattle.state.specs.Tables.{max_slots, runnable_in, operation_in, slot_in}
use Rattle.rules.specs.declared.Row.{Row}
use Rattle.rules.specs.Sound.{is_caller, component_of, sound_of}
use Rattle.rules.specs.Rows.{a_slot, scheduler, no_part, row_of}
use Rattle.rules.specs.Refusals.{formed, part_there, named_there, part_own, waiting_lets, life_lets, owned_refusal, instance_refusal, scheduler_refusal, refusal_by, refusal_of}
use Rattle.effects.specs.Steps.{refused}
use Rattle.effects.specs.Step.{possible_of, on_answer, agrees, claimed_of, inner_of, step_of}
use Rattle.effects.proofs.Codes.{never}
use Rattle.stays_sound.proofs.Ways.{Barred, shared, enter_taken, exit_other, receive_held, call_borne, call_full, collect_open, answer_number, answer_none, end_serving, end_holding, spawn_need, spawn_full, timeout_early, tick_early, wait_far, give_up_early, Went, bars, goes, went}
use Rattle.stays_sound.proofs.Refusals.{refused-same}
use Rattle.whys.specs.declared.Cause.{Cause}
use Rattle.whys.specs.declared.Cause.TheVariants.{NoCause, Differs}
use Rattle.passing.specs.Passing.{passes_of, operation_stop, timer_stop}
use Rattle.whys.specs.Whys.{cause_refusal, form_cause, slot_cause, code_cause, part_cause, there_cause, own_cause, life_cause, top_cause, still_cause, full_cause, bearer_of, borne_cause, open_cause, due_cause, spawn_cause, stop_cause, early_cause, owed_cause, why_of}
use Rattle.causes.specs.Causes.{claim_cause, cause_of}

-- ---- each number's causes have that number

-- a choice between two causes of one number
either_number : (b : Bool) (x y : Cause) (n : ℕ) → cause_refusal x ≡ n → cause_refusal y ≡ n → cause_refusal (pick b x y) ≡ n
either_number true x y n p q = p
either_number false x y n p q = q

form-number : (r : Row) (s : Step) → cause_refusal (form_cause r s) ≡ malformed
unfolding form_cause
form-number r s = either_number (ltb no_part r.part) _ _ malformed refl (either_number (ltb 0 s.what) _ _ malformed refl refl)

slot-number : (r : Row) (s : Step) → cause_refusal (slot_cause r s) ≡ malformed
unfolding slot_cause
slot-number r s = either_number (formed r s.what s.argument) _ _ malformed refl (form-number r s)

code-number : (r : Row) (s : Step) → cause_refusal (code_cause r s) ≡ malformed
unfolding code_cause
code-number r s =
    either_number (eqb r.who a_slot) _ _ malformed (slot-number r s)
    (either_number (eqb r.who scheduler) _ _ malformed (either_number (eqb s.who 0) _ _ malformed (form-number r s) refl) refl)

part-number : (cfg : Config) (w : ℕ) (r : Row) (n : ℕ) → cause_refusal (part_cause cfg w r n) ≡ not_there
unfolding part_cause
part-number cfg w r n = either_number (ltb n (count_of cfg r.part)) _ _ not_there refl refl

there-number : (cfg : Config) (ss : Slots) (r : Row) (s : Step) → cause_refusal (there_cause cfg ss r s) ≡ not_there
unfolding there_cause
there-number cfg ss r s =
    either_number (eqb r.who a_slot) _ _ not_there
    (either_number (leb max_slots s.who) _ _ not_there refl (either_number (slot_in ss s.who).used _ _ not_there (part-number cfg (slot_in ss s.who).life.runnable r s.what) refl))
    refl

own-number : (cfg : Config) (ss : Slots) (r : Row) (s : Step) → cause_refusal (own_cause cfg ss r s) ≡ not_own
unfolding own_cause
own-number cfg ss r s =
    either_number (eqb (entry_of cfg r.part s.what).first (component_of cfg (slot_in ss s.who).life.runnable)) _ _ not_own
    (either_number (ltb 0 (entry_of cfg r.part s.what).second) _ _ not_own refl refl)
    refl

life-number : (l : Life) (s : Step) → cause_refusal (life_cause l s) ≡ barred
unfolding life_cause
life-number l s =
    either_number (waiting_lets l s.code s.what) _ _ barred
    (either_number l.failed _ _ barred (either_number l.finished _ _ barred refl refl)
    (either_number l.finished _ _ barred refl refl))
    (either_number (is_caller l) _ _ barred refl refl)

top-number : (ss : Slots) (i : ℕ) → cause_refusal (top_cause ss i) ≡ not_on_top
unfolding top_cause
top-number ss i = either_number (ltb 0 (slot_in ss i).stack.held) _ _ not_on_top refl refl

full-number : (cfg : Config) (o : ℕ) → cause_refusal (full_cause cfg o) ≡ queue_full
unfolding full_cause
full-number cfg o = refl

borne-number : (cfg : Config) (st : State) (o : ℕ) → cause_refusal (borne_cause cfg st o) ≡ number_borne
unfolding borne_cause
borne-number cfg st o = either_number (ltb (bearer_of st.slots o (operation_in st.operations o).number) max_slots) _ _ number_borne refl refl

open-number : (st : State) (s : Step) → cause_refusal (open_cause st s) ≡ still_waits
unfolding open_cause
open-number st s = either_number (eqb s.code receive_code) _ _ still_waits refl refl

due-number : (n : ℕ) → cause_refusal (due_cause n) ≡ not_due
unfolding due_cause
due-number n = either_number (eqb n 0) _ _ not_due refl refl

spawn-number : (c : RunnableConf) (x : Runnable) → cause_refusal (spawn_cause c x) ≡ not_due
unfolding spawn_cause
spawn-number c x =
    either_number (ltb 0 x.interval) _ _ not_due refl
    (either_number c.concurrent _ _ not_due (due-number c.capacity)
    (either_number (ltb 0 x.instances) _ _ not_due refl (due-number c.capacity)))

stop-number : (cfg : Config) (st : State) (t : ℕ) → cause_refusal (stop_cause cfg st t) ≡ too_far
unfolding stop_cause
stop-number cfg st t = either_number (ltb (operation_stop cfg st.operations t) cfg.operations.n) _ _ too_far refl (either_number (ltb (timer_stop cfg st.timers t) cfg.timers.n) _ _ too_far refl refl)

early-number : (st : State) (s : Step) → cause_refusal (early_cause st s) ≡ not_over
unfolding early_cause
early-number st s =
    either_number (eqb s.code timeout_code) _ _ not_over (either_number (operation_in st.operations s.what).calling _ _ not_over refl refl)
    (either_number (eqb s.code give_up_code) _ _ not_over refl refl)

still-number : (ss : Slots) (i : ℕ) → cause_refusal (still_cause ss i) ≡ areas_held
unfolding still_cause
still-number ss i = refl

owed-number : (ss : Slots) (i : ℕ) → cause_refusal (owed_cause ss i) ≡ wrong_client
unfolding owed_cause
owed-number ss i = either_number (slot_in ss i).owed.serving _ _ wrong_client refl refl

-- ---- by the number: 2 to 16, 28 and 30 are all that a step before its claim can have

module _ (cfg : Config) (st : State) (s : Step) where
  abbrev Named : ℕ → Type 0
  Named n = cause_refusal (why_of cfg st s n) ≡ n

  named-malformed : Named malformed
  unfolding why_of
  named-malformed = code-number (row_of s.code) s

  named-step-gone : Named step_gone
  unfolding why_of
  named-step-gone = refl

  named-not-there : Named not_there
  unfolding why_of
  named-not-there = there-number cfg st.slots (row_of s.code) s

  named-not-own : Named not_own
  unfolding why_of
  named-not-own = own-number cfg st.slots (row_of s.code) s

  named-barred : Named barred
  unfolding why_of
  named-barred = life-number (slot_in st.slots s.who).life s

  named-area-taken : Named area_taken
  unfolding why_of
  named-area-taken = refl

  named-not-on-top : Named not_on_top
  unfolding why_of
  named-not-on-top = top-number st.slots s.who

  named-queue-full : Named queue_full
  unfolding why_of
  named-queue-full = full-number cfg s.what

  named-number-borne : Named number_borne
  unfolding why_of
  named-number-borne = borne-number cfg st s.what

  named-still-waits : Named still_waits
  unfolding why_of
  named-still-waits = open-number st s

  named-not-due : Named not_due
  unfolding why_of
  named-not-due = spawn-number (runnable_conf_in cfg.runnables s.what) (runnable_in st.runnables s.what)

  named-no-slot-free : Named no_slot_free
  unfolding why_of
  named-no-slot-free = refl

  named-too-far : Named too_far
  unfolding why_of
  named-too-far = stop-number cfg st (passes_of cfg st s.argument.number)

  named-not-over : Named not_over
  unfolding why_of
  named-not-over = early-number st s

  named-areas-held : Named areas_held
  unfolding why_of
  named-areas-held = still-number st.slots s.who

  named-wrong-client : Named wrong_client
  unfolding why_of
  named-wrong-client = owed-number st.slots s.who

  -- a number that is not 0 is that of its cause
  abbrev Good : ℕ → Type 0
  Good n = (n ≡ 0 → ⊥) → Named n

  -- a step's refusal is one of them
  abbrev Fair : Stepped → Type 0
  Fair r = (n : ℕ) → r.answer ≡ Refused n → Named n

  -- ---- the refusals that all share

  shared-named : (a g b c d : Bool) → (pick a (pick g (pick b (pick c (pick d 0 barred) not_own) not_there) step_gone) malformed ≡ 0 → ⊥) → Named (pick a (pick g (pick b (pick c (pick d 0 barred) not_own) not_there) step_gone) malformed)
  shared-named true true true true true e = absurd (e refl)
  shared-named true true true true false e = named-barred
  shared-named true true true false d e = named-not-own
  shared-named true true false c d e = named-not-there
  shared-named true false b c d e = named-step-gone
  shared-named false g b c d e = named-malformed

  refusal-named : (r : Row) → (refusal_by cfg st.slots r s ≡ 0 → ⊥) → Named (refusal_by cfg st.slots r s)
  unfolding refusal_by instance_refusal owned_refusal scheduler_refusal
  refusal-named r = pick-has Good (eqb r.who a_slot) _ _
      (λ e. shared-named (formed r s.what s.argument) (has_step cfg.edition s.code) (both (slot_in st.slots s.who).used (named_there cfg (slot_in st.slots s.who).life.runnable r s.what))
      (part_own cfg (component_of cfg (slot_in st.slots s.who).life.runnable) r s.what) (life_lets cfg (slot_in st.slots s.who).life s.code s.what))
      (λ e. pick-has Good (eqb r.who scheduler) _ _
      (λ d. shared-named (both (eqb s.who 0) (formed r s.what s.argument)) true (part_there cfg r.part s.what) true true)
      (λ d n. named-malformed))

  -- ---- each way to be refused

  barred-named : {n k : ℕ} → Barred cfg st s n k → Named k
  unfolding refusal_of
  barred-named (shared n) = refusal-named (row_of s.code) n
  barred-named (enter_taken e) = named-area-taken
  barred-named (exit_other e) = named-not-on-top
  barred-named (call_borne a b) = named-number-borne
  barred-named (call_full a b) = named-queue-full
  barred-named (receive_held e w) = named-still-waits
  barred-named (collect_open e) = named-still-waits
  barred-named (answer_number e) = named-malformed
  barred-named (answer_none e) = named-wrong-client
  barred-named (end_serving e) = named-wrong-client
  barred-named (end_holding a b) = named-areas-held
  barred-named (spawn_need e) = named-not-due
  barred-named (spawn_full a b) = named-no-slot-free
  barred-named (timeout_early e) = named-not-over
  barred-named (tick_early e) = named-not-over
  barred-named (wait_far e) = named-too-far
  barred-named (give_up_early e) = named-not-over

  went-fair : {n : ℕ} {r : Stepped} → Went cfg st s n r → Fair r
  went-fair (bars b) n e = subst Named (refused-same _ n e) (barred-named b)
  went-fair (goes w) n e = absurd (never (sym e))

  possible-fair : Fair (possible_of cfg st s)
  possible-fair = went-fair (went cfg st s)

  -- ---- the theorems

  -- the number of the cause is the number under which the step is refused, and 0 where it is taken
  pub cause-is-refusal : cause_refusal (cause_of cfg st s) ≡ answer_refusal (inner_of cfg st s).answer
  unfolding cause_of inner_of claimed_of claim_cause
  cause-is-refusal = go (possible_of cfg st s) (possible_of cfg st s).answer refl possible-fair
    where
      go : (r : Stepped) (a : Answer) → r.answer ≡ a → Fair r → cause_refusal (on_answer a (λ (v : Value). pick (agrees s.code v s.claim) NoCause (Differs v)) (λ (n : ℕ). why_of cfg st s n)) ≡ answer_refusal (on_answer a (λ (v : Value). pick (agrees s.code v s.claim) r (refused other_answer st)) (λ (n : ℕ). r)).answer
      go r (Taken v) e f = told (agrees s.code v s.claim)
        where
          told : (b : Bool) → cause_refusal (pick b NoCause (Differs v)) ≡ answer_refusal (pick b r (refused other_answer st)).answer
          told true = sym (ap answer_refusal e)
          told false = refl
      go r (Refused n) e f = f n e ∙ sym (ap answer_refusal e)

  -- the same of the whole step, in a state that is sound
  pub cause-is-step : sound_of cfg st ≡ true → cause_refusal (cause_of cfg st s) ≡ answer_refusal (step_of cfg st s).answer
  unfolding step_of
  cause-is-step h = rw h cause-is-refusal
