-- Every operation stays sound: its number fits, and it is soundly Calling or Done.
-- Assumes nothing.
use Prim.Native.Nat.{ℕ, ◌+◌, ◌-◌, ◌%◌, ◌≤◌, ◌<◌}
use mathlib.Core.Bool.{Bool, true, false}
use mathlib.Core.Path.{◌≡◌, refl}
use native.Mathlib.Omega.{arith}
use lib.Dec.{leb}
use lib.ListN.{get_or}
use borrow.Author.Tests.{ltb-true, leb-true, lt-ltb, le-leb}
use Rattle.laws.specs.Choice.{pick}
use Rattle.laws.proofs.Choosing.{both_left, both_right, both-make, all_told, all_made, pick-has}
use Rattle.laws.proofs.Looping.{all-at}
use Rattle.laws.proofs.Places.{all-put, all-each}
use Rattle.values.specs.Values.{timeout_v, server_err_v, is_void, is_payload}
use Rattle.faces.specs.Types.{Value, Config, Operation, Operations, State}
use Rattle.config.specs.Tables.{max_operation_confs, operation_conf_in}
use Rattle.state.specs.Parts.{last_number, no_operation}
use Rattle.state.specs.Fields.{with_count}
use Rattle.state.specs.Tables.{operation_in, slot_in, with_operation}
use Rattle.rules.specs.Sound.{is_outcome, calling_sound, done_sound, operation_sound, operations_sound}
use Rattle.effects.specs.Steps.{opening, called, closing, closed, answers, client_of, has_failed, handed_back, answered, operation_after, operations_after, waited}
use Rattle.stays_sound.specs.Facts.{Sound, CanCall, CanHandBack, CanTimeout, CanWait}
use Rattle.rules.proofs.Configured.{operations-most}
use Rattle.state.specs.Places.{place_in, with_place}
use Rattle.stays_sound.proofs.Instances.{instance-at, owed-client, client-there}

-- ---- one operation

-- a Calling one, its tests as facts
pub record Calls (cfg : Config) (o : ℕ) (x : Operation) : Type 0 where
  pub there : o < cfg.operations.n
  pub count : x.count ≤ (operation_conf_in cfg.operations o).timeout
  pub number : x.number ≤ last_number
  pub done : is_void x.done ≡ true

pub calls-told : (cfg : Config) (o : ℕ) (x : Operation) → x.calling ≡ true → operation_sound cfg o x ≡ true → Calls cfg o x
unfolding operation_sound calling_sound
calls-told cfg o x e h =
    let t = all_told _ (rw e at (both_right (leb x.number last_number) _ h)) in
    record { there = ltb-true _ _ t.0; count = leb-true _ _ t.1.0; number = leb-true _ _ (both_left (leb x.number last_number) _ h); done = t.1.1.0 }

pub calls-made : (cfg : Config) (o : ℕ) (x : Operation) → x.calling ≡ true → Calls cfg o x → operation_sound cfg o x ≡ true
unfolding operation_sound calling_sound
calls-made cfg o x e h =
    rw e
    (both-make _ _ (le-leb x.number last_number h.number)
    (all_made _ (lt-ltb _ _ h.there, (le-leb _ _ h.count, (h.done, tt)))))

number-told : (cfg : Config) (o : ℕ) (x : Operation) → operation_sound cfg o x ≡ true → x.number ≤ last_number
unfolding operation_sound
number-told cfg o x h = leb-true _ _ (both_left (leb x.number last_number) _ h)

-- a call started, under any number
open-sound : (cfg : Config) (o : ℕ) (x : Operation) → o < cfg.operations.n → operation_sound cfg o x ≡ true → operation_sound cfg o (opening (operation_conf_in cfg.operations o).timeout x) ≡ true
unfolding is_void
open-sound cfg o x b h =
    calls-made cfg o (opening (operation_conf_in cfg.operations o).timeout x) refl
    (record { there = b; count = omega arith; number = number-told cfg o x h; done = refl })

-- a call ended, with a payload or Timeout: the next number fits, behind the last one too
close-sound : (cfg : Config) (o : ℕ) (x : Operation) (v : Value) → is_outcome v ≡ true → x.calling ≡ true → operation_sound cfg o x ≡ true → operation_sound cfg o (closing v x) ≡ true
unfolding operation_sound done_sound closing
close-sound cfg o x v g e h =
    let t = calls-told cfg o x e h in
    both-make _ _ (le-leb ((x.number + 1) % (last_number + 1)) last_number (omega arith)) (rw (lt-ltb o cfg.operations.n t.there) g)

-- time passes
after-sound : (cfg : Config) (o t : ℕ) (x : Operation) → operation_sound cfg o x ≡ true → operation_sound cfg o (operation_after t x) ≡ true
unfolding operation_after
after-sound cfg o t x h = go x.calling refl
  where
    go : (b : Bool) → x.calling ≡ b → operation_sound cfg o (pick b (with_count x (x.count - t)) x) ≡ true
    go true e = let k = calls-told cfg o x e h in calls-made cfg o _ e (record { there = k.there; count = omega (arith, k.count); number = k.number; done = k.done })
    go false e = h

payload-outcome : (v : Value) → is_payload v ≡ true → is_outcome v ≡ true
unfolding is_outcome
payload-outcome v h = rw h

-- and so is what a hand back delivers
handed-outcome : (st : State) (i : ℕ) (v : Value) → is_payload v ≡ true → is_outcome (handed_back st i v) ≡ true
unfolding is_outcome is_payload is_void
handed-outcome st i v h = pick-has (λ w. is_outcome w ≡ true) (has_failed st i) server_err_v v (λ e. refl) (λ e. payload-outcome v h)

-- ---- the table

operations-put : (cfg : Config) (t : Operations) (o : ℕ) (x : Operation) → operations_sound cfg t ≡ true → operation_sound cfg o x ≡ true → operations_sound cfg (with_operation t o x) ≡ true
unfolding operations_sound place_in with_place
operations-put cfg t o x h g = all-put (λ k y. operation_sound cfg k y) t.at o max_operation_confs x no_operation h g

-- ---- step by step

module _ (cfg : Config) (st : State) (s : Sound cfg st) where
  pub operation-at : (o : ℕ) → o < cfg.operations.n → operation_sound cfg o (operation_in st.operations o) ≡ true
  unfolding operations_sound
  operation-at o b = all-at (λ (o : ℕ). operation_sound cfg o (operation_in st.operations o)) max_operation_confs s.operations o (omega (arith, operations-most cfg s.config))

module _ (cfg : Config) (st : State) where
  pub call-keeps-operations : (i o : ℕ) (v : Value) → Sound cfg st → CanCall cfg st i o v → operations_sound cfg (called cfg st i o v).operations ≡ true
  unfolding called
  call-keeps-operations i o v s z = operations-put cfg st.operations o _ s.operations (open-sound cfg o (operation_in st.operations o) z.inside (operation-at cfg st s o z.inside))

  -- where the call is the client's, and it is ended
  pub answer-keeps-operations : (i : ℕ) (v : Value) → Sound cfg st → CanHandBack cfg st i v → answers st.operations (client_of st i) ≡ true → operations_sound cfg (answered cfg st i (handed_back st i v)).operations ≡ true
  unfolding closed answers
  answer-keeps-operations i v s z a =
      let x = slot_in st.slots i in
      let o = x.owed.client.operation in
      let h = instance-at cfg st s i z.who.there.used in
      let b : o < cfg.operations.n = client-there cfg x.life.runnable x.owed.client (owed-client cfg x.life x.owed h.owed z.serving) in
      operations-put cfg st.operations o _ s.operations
      (close-sound cfg o (operation_in st.operations o) (handed_back st i v) (handed-outcome st i v z.payload) (both_left (operation_in st.operations o).calling _ a) (operation-at cfg st s o b))

  pub timeout-keeps-operations : (o : ℕ) → Sound cfg st → CanTimeout cfg st o → operations_sound cfg (closed cfg st o timeout_v).operations ≡ true
  unfolding closed is_outcome is_payload is_void
  timeout-keeps-operations o s z = operations-put cfg st.operations o _ s.operations (close-sound cfg o (operation_in st.operations o) timeout_v refl z.calling (operation-at cfg st s o z.inside))

  pub wait-keeps-operations : (t : ℕ) → Sound cfg st → CanWait cfg st t → operations_sound cfg (waited cfg st t).operations ≡ true
  unfolding waited operations_sound place_in operations_after
  wait-keeps-operations t s z =
      all-each (λ (o : ℕ) (x : Operation). operation_after t x) no_operation (λ o y. operation_sound cfg o y) cfg.operations.n max_operation_confs st.operations.at s.operations
      (λ o b c h. after-sound cfg o t (get_or st.operations.at o no_operation) h)
