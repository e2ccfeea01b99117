-- A spawn that is not refused; and that of a runnable that lists no element, which copies nothing.
-- Assumes nothing.
use Prim.Native.Nat.{ℕ}
use mathlib.Core.Bool.{Bool, true, false}
use mathlib.Core.Path.{◌≡◌, ap}
use Rattle.laws.specs.Choice.{pick}
use Rattle.values.specs.Values.{number_v}
use Rattle.faces.specs.Types.{Config, Elements, Copied, State}
use Rattle.config.specs.Tables.{runnable_conf_in}
use Rattle.state.specs.Tables.{runnable_in, with_copies}
use Rattle.std.specs.Prelude.{Some}
use Rattle.effects.specs.Steps.{took, may_spawn, found_empty, spawned, lists_some, copies_of, seen_elements, copied_elements, copied_into, copied_to, begun_in, spawn_of}
use Rattle.time_steps.proofs.Places.{found_at}

module _ (cfg : Config) (st : State) (r k : ℕ) where
  pub spawn-taken : may_spawn (runnable_conf_in cfg.runnables r) (runnable_in st.runnables r) ≡ true → found_empty st.slots ≡ Some k → spawn_of cfg st r ≡ took (number_v k) (begun_in cfg st r k)
  unfolding spawn_of
  spawn-taken m h = let f = found_at st.slots k h in rw (m, f.1, f.0)

  copied-elements : lists_some cfg.incoming r ≡ false → (es : Elements) → copied_elements cfg r es ≡ es
  unfolding copied_elements
  copied-elements h es = ap (λ (b : Bool). pick b (seen_elements cfg r es) es) h

  copied-into : lists_some cfg.incoming r ≡ false → (es : Elements) (cs : Copied) → copied_into cfg r es cs k ≡ cs
  unfolding copied_into
  copied-into h es cs = ap (λ (b : Bool). pick b (with_copies cs k (copies_of cfg.incoming r es)) cs) h

  copied-unlisted : lists_some cfg.incoming r ≡ false → (s : State) → copied_to cfg s r k ≡ s
  copied-unlisted h s = rw (copied-elements h s.elements, copied-into h s.elements s.incoming)

  pub begun-unlisted : lists_some cfg.incoming r ≡ false → begun_in cfg st r k ≡ spawned cfg st r k
  begun-unlisted h = copied-unlisted h (spawned cfg st r k)
