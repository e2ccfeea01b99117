-- What an accepted step was let through with, beyond its way: whoever takes it as an instance is in its slot (`taker-used`) and, if it has failed, does what is left to it (`failed-lets`), as it does if it is finished (`finished-lets`) or waits (`waiting-lets`); a result of a synchronous operation finds no call open there (`collected-shut`), and a send is of a queued element (`sent-queued`).
-- Assumes nothing.
use mathlib.Core.Bool.{Bool, true, false}
use mathlib.Core.Path.{◌≡◌, refl}
use lib.Dec.{ltb, eqb}
use borrow.Author.Tests.{eqb-true}
use Rattle.numbers.specs.Codes.{exit_code, send_code, result_code, hand_back_code, end_code, receive_code, give_up_code}
use Rattle.laws.specs.Choice.{both, either, bit}
use Rattle.laws.proofs.Choosing.{both_left, both_right, all_told, alike_is}
use Rattle.faces.specs.Types.{Value, Step, Taken, Config, State}
use Rattle.config.specs.Tables.{provided_conf_in, operation_conf_in}
use Rattle.entries.specs.Entries.{entry_of}
use Rattle.state.specs.Tables.{slot_in}
use Rattle.numbers.specs.Tags.{operation_tag, required_tag}
use Rattle.rules.specs.Rows.{a_slot, rows, row_of}
use Rattle.rules.specs.Sound.{component_of, is_caller, is_held}
use Rattle.rules.specs.Refusals.{queues_as, part_own, finished_lets, failed_lets, ends_waiting, waiting_lets, life_lets, refusal_of}
use Rattle.effects.specs.Steps.{is_open, collect_of, result_of, has_failed}
use Rattle.effects.specs.Step.{step_of}
use Rattle.effects.proofs.Codes.{never, result, possible-by, possible-let}
use Rattle.stays_sound.proofs.Says.{let-told}
use Rattle.stays_sound.proofs.Accepted.{accepted}

module _ (cfg : Config) (st : State) (s : Step) {v : Value} (a : (step_of cfg st s).answer ≡ Taken v) where
  let_through : refusal_of cfg st.slots s ≡ 0
  let_through = possible-let cfg st s (rw (accepted cfg st s a).1 at a)

  pub taker-used : (row_of s.code).who ≡ a_slot → (slot_in st.slots s.who).used ≡ true
  taker-used w = (let-told cfg st s refl let_through w).used

  pub failed-lets : (row_of s.code).who ≡ a_slot → has_failed st s.who ≡ true → either (eqb s.code hand_back_code) (either (eqb s.code exit_code) (eqb s.code end_code)) ≡ true
  unfolding life_lets failed_lets
  failed-lets w f = rw f at (all_told _ (let-told cfg st s refl let_through w).life).1.1.0

  pub finished-lets : (row_of s.code).who ≡ a_slot → (slot_in st.slots s.who).life.finished ≡ true → either (eqb s.code end_code) (both (has_failed st s.who) (eqb s.code exit_code)) ≡ true
  unfolding life_lets finished_lets
  finished-lets w f = rw f at (all_told _ (let-told cfg st s refl let_through w).life).1.0

  pub waiting-lets : (row_of s.code).who ≡ a_slot → is_caller (slot_in st.slots s.who).life ≡ true → (s.code ≡ result_code) × ((slot_in st.slots s.who).life.awaited.on ≡ s.what)
  unfolding life_lets waiting_lets ends_waiting
  waiting-lets w f =
      let p = eqb-true (slot_in st.slots s.who).life.awaited.part operation_tag f in
      let t = rw p at (all_told _ (let-told cfg st s refl let_through w).life).0 in
      (eqb-true _ _ (both_left (eqb s.code result_code) _ t), eqb-true _ _ (both_right (eqb s.code result_code) _ t))

  pub held-lets : (row_of s.code).who ≡ a_slot → is_held (slot_in st.slots s.who).life ≡ true → either (eqb s.code give_up_code) (both (eqb s.code receive_code) (eqb (slot_in st.slots s.who).life.awaited.on s.what)) ≡ true
  unfolding life_lets waiting_lets ends_waiting
  held-lets w f =
      let p = eqb-true (slot_in st.slots s.who).life.awaited.part required_tag f in
      rw p at (all_told _ (let-told cfg st s refl let_through w).life).0

  -- a send is of a queued element
  pub sent-queued : s.code ≡ send_code → (provided_conf_in cfg.provided s.what).queued ≡ true
  unfolding row_of rows part_own queues_as entry_of
  sent-queued c =
      on (provided_conf_in cfg.provided s.what).queued (alike_is (ltb 0 (bit (provided_conf_in cfg.provided s.what).queued)) true
      (both_right (eqb (provided_conf_in cfg.provided s.what).component (component_of cfg (slot_in st.slots s.who).life.runnable)) _ (let-told cfg st s c let_through refl).own))
    where
      on : (b : Bool) → ltb 0 (bit b) ≡ true → b ≡ true
      on true h = refl
      on false h = h

  pub collected-shut : s.code ≡ result_code → (operation_conf_in cfg.operations s.what).asynchronous ≡ false → is_open st s.what ≡ false
  unfolding result_of collect_of
  collected-shut c f = go (is_open st s.what) refl
    where
      taken : (result_of cfg st s.who s.what).answer ≡ Taken v
      taken = rw ((accepted cfg st s a).1, possible-by cfg st s result c let_through) at a

      go : (b : Bool) → is_open st s.what ≡ b → is_open st s.what ≡ false
      go true e = absurd (never (rw (f, e) at taken))
      go false e = e
