-- What is left to an instance that has failed is open to it, in every sound state in which it does not wait: to hand back while it owes an answer (`back-open`), to exit the area on top (`exit-open`), and
-- to end with neither (`end-open`). Refusals 2 to 5 let each of these through, and its own do not bar it.
-- Assumes nothing.
use Prim.Native.Nat.{ℕ, ◌-◌, ◌<◌}
use mathlib.Core.Bool.{Bool, true, false, not}
use mathlib.Core.List.{[], ◌∷◌}
use mathlib.Core.Path.{◌≡◌, refl, sym, ◌∙◌}
use native.Mathlib.Omega.{arith}
use lib.Dec.{ltb, eqb}
use borrow.Author.Tests.{not-true, lt-ltb, eq-eqb}
use Rattle.numbers.specs.Codes.{exit_code, hand_back_code, end_code}
use Rattle.laws.specs.Choice.{pick, both, all_of}
use Rattle.laws.proofs.Choosing.{clash, both_left, both_right, either-more, pick-has, all_told}
use Rattle.laws.proofs.Places.{filled-good}
use Rattle.faces.specs.Types.{Config, Stack, State, Stepped}
use Rattle.values.specs.Values.{void_v, is_void, is_payload, answer_refusal}
use Rattle.config.specs.Editions.{marks_invalid, has_step}
use Rattle.config.specs.Tables.{max_area_confs, area_conf_in}
use Rattle.entries.specs.Entries.{count_of, entry_of}
use Rattle.entries.specs.Faults.{is_server}
use Rattle.state.specs.Queues.{top_area}
use Rattle.state.specs.Tables.{max_slots, slot_in}
use Rattle.rules.specs.Sound.{component_of, area_fits, is_zero, life_sound, owed_sound, stack_sound, is_no_life, is_no_slot, slot_sound}
use Rattle.rules.specs.Rows.{no_part, rows, row_of}
use Rattle.rules.specs.Refusals.{named_there, listed_there, argues, formed, part_there, queues_as, part_own, asks_synchronous, asks_waiting, finished_lets, failed_lets, ends_waiting, waiting_lets, life_lets, owned_refusal, instance_refusal, refusal_by, refusal_of}
use Rattle.effects.specs.Steps.{on_top, answers, client_of, has_failed, hand_back_of, exit_of, end_of}
use Rattle.effects.proofs.Codes.{exit, hand_back, end, possible-by}
use Rattle.stays_sound.specs.Facts.{Sound}
use Rattle.stays_sound.proofs.Instances.{Instance, slot_at, instance-at, owed-when, stack-most, stack-filled}
use Rattle.history.specs.Promises.{Possible}

module _ (cfg : Config) (st : State) (g : Sound cfg st) (i : ℕ) (b : i < max_slots) (f : has_failed st i ≡ true) (r : (slot_in st.slots i).life.awaited.part ≡ no_part) where
  -- it is there
  used : (slot_in st.slots i).used ≡ true
  unfolding slot_sound is_no_slot is_no_life
  used = let x = slot_in st.slots i in go x.used refl (slot_at cfg st.slots g.slots i b)
    where
      go : (u : Bool) → (slot_in st.slots i).used ≡ u
          → pick u (all_of (life_sound cfg (slot_in st.slots i).life ∷ owed_sound cfg (slot_in st.slots i).life (slot_in st.slots i).owed ∷ stack_sound cfg (slot_in st.slots i).life (slot_in st.slots i).stack ∷ [])) (is_no_slot (slot_in st.slots i)) ≡ true
          → (slot_in st.slots i).used ≡ true
      go true e h = e
      go false e h = absurd (clash (slot_in st.slots i).life.failed f (not-true _ (all_told _ (all_told _ h).0).1.1.1.0))

  it : Instance cfg (slot_in st.slots i)
  it = instance-at cfg st g i used

  -- it has not handed back while it owes an answer
  unfinished : (slot_in st.slots i).owed.serving ≡ true → (slot_in st.slots i).life.finished ≡ false
  unfinished e =
      let x = slot_in st.slots i in
      not-true _ (both_right (is_server cfg x.life.runnable) _ (sym (owed-when cfg x.life x.owed it.owed) ∙ e))

  pub back-open : (slot_in st.slots i).owed.serving ≡ true → Possible cfg st hand_back_code i 0
  unfolding refusal_of refusal_by instance_refusal owned_refusal row_of rows formed argues named_there listed_there part_there part_own asks_synchronous finished_lets failed_lets life_lets all_of is_payload is_void hand_back_of has_step marks_invalid ends_waiting waiting_lets asks_waiting
  back-open e =
      rw (possible-by cfg st (record { code = hand_back_code; who = i; what = 0; argument = void_v; claim = void_v }) hand_back refl (rw (used, r, f, unfinished e)), f, e)
      (pick-has (λ (y : Stepped). answer_refusal y.answer ≡ 0) (answers st.operations (client_of st i)) _ _ (λ q. refl) (λ q. refl))

  pub exit-open : 0 < (slot_in st.slots i).stack.held → Possible cfg st exit_code i (top_area (slot_in st.slots i).stack)
  unfolding refusal_of refusal_by instance_refusal owned_refusal row_of rows formed argues named_there listed_there part_there part_own queues_as count_of entry_of asks_synchronous finished_lets failed_lets life_lets all_of is_void exit_of on_top area_fits top_area has_step marks_invalid ends_waiting waiting_lets asks_waiting
  exit-open p =
      rw (possible-by cfg st (record { code = exit_code; who = i; what = top_area k; argument = void_v; claim = void_v }) exit refl (rw (used, r, f, either-more (not (slot_in st.slots i).life.finished) true refl, both_left (ltb (top_area k) cfg.areas.n) _ top, both_right (ltb (top_area k) cfg.areas.n) _ top)), lt-ltb 0 k.held p, eq-eqb (top_area k) (top_area k) refl)
    where
      k : Stack
      k = (slot_in st.slots i).stack

      top : both (ltb (top_area k) cfg.areas.n) (eqb (area_conf_in cfg.areas (top_area k)).component (component_of cfg (slot_in st.slots i).life.runnable)) ≡ true
      top =
          filled-good (area_fits cfg (component_of cfg (slot_in st.slots i).life.runnable)) is_zero 0 max_area_confs k.held k.at (stack-filled cfg (slot_in st.slots i).life k it.stack) (k.held - 1)
          (omega (arith, stack-most cfg (slot_in st.slots i).life k it.stack, p)) (omega (arith, p))

  pub end-open : (slot_in st.slots i).owed.serving ≡ false → (slot_in st.slots i).stack.held ≡ 0 → Possible cfg st end_code i 0
  unfolding refusal_of refusal_by instance_refusal owned_refusal row_of rows formed argues named_there listed_there part_there part_own asks_synchronous finished_lets failed_lets life_lets all_of is_void end_of has_step marks_invalid ends_waiting waiting_lets asks_waiting
  end-open e h = rw (possible-by cfg st (record { code = end_code; who = i; what = 0; argument = void_v; claim = void_v }) end refl (rw (used, r, f, either-more (not (slot_in st.slots i).life.finished) true refl)), e, h)
