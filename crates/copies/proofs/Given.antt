-- What is written at an end: one place more; by the note of the elements the same as by the elements themselves; and nothing, of an instance that lists none or has failed.
-- Assumes nothing.
use Prim.Native.Nat.{ℕ, ◌+◌}
use mathlib.Core.Bool.{Bool, true, false, not}
use mathlib.Core.Path.{◌≡◌, refl, ap}
use native.Mathlib.Numerals.{add-one}
use lib.ListN.{length}
use Rattle.laws.specs.Choice.{pick, both}
use Rattle.laws.proofs.Choosing.{both-no, both-make}
use Rattle.laws.proofs.Looping.{any_same}
use Rattle.faces.specs.Types.{Config, Copies, Elements, Runnable, Runnables, State}
use Rattle.config.specs.Tables.{runnable_conf_in, max_listed}
use Rattle.config.specs.Lists.{element_at}
use Rattle.state.specs.Parts.{no_runnable}
use Rattle.state.specs.Tables.{copy_in, copies_in, with_elements, with_runnables}
use Rattle.effects.specs.Steps.{woken, fed_elements, is_fed, is_given, given_elements, is_given_to, given_runnables, runnable_of, has_failed, lists_some, hands_on, handed_elements, handed_runnables, handed_on}
use Rattle.feeding.specs.Rooms.{rooms_of}
use Rattle.feeding.proofs.Noted.{each_same, fed_by}
use Rattle.copies.specs.Given.{gives_by, is_given_by, given_runnables_by}

module _ (cfg : Config) (r : ℕ) (c : Copies) where
  pub given-none : (t : Elements) → given_elements cfg r c 0 t ≡ t
  unfolding given_elements
  given-none t = refl

  pub given-more : (j : ℕ) (t : Elements) → given_elements cfg r c (j + 1) t ≡ pick (is_given cfg.outgoing r c j) (fed_elements cfg (element_at cfg.outgoing r j) (copy_in c j) (given_elements cfg r c j t)) (given_elements cfg r c j t)
  unfolding given_elements
  given-more j t = rw add-one

  pub given_by : (t : Elements) → length cfg.required.at ≡ 16 → (k : ℕ) → is_given_by cfg (rooms_of cfg t) r c k ≡ is_given_to cfg t r c k
  unfolding is_given_by is_given_to gives_by
  given_by t e k =
      any_same (gives_by cfg (rooms_of cfg t) r c k) (λ (j : ℕ). both (is_given cfg.outgoing r c j) (is_fed cfg t (element_at cfg.outgoing r j) k)) max_listed (λ j l. rw (fed_by cfg t e (element_at cfg.outgoing r j) k))

  -- the runnables that data events wake
  pub given-runnables-by : (t : Elements) → length cfg.required.at ≡ 16 → (rs : Runnables) → given_runnables_by cfg (rooms_of cfg t) r c rs ≡ given_runnables cfg t r c rs
  unfolding given_runnables_by given_runnables
  given-runnables-by t e rs =
      rw (each_same (λ (k : ℕ) (x : Runnable). pick (is_given_by cfg (rooms_of cfg t) r c k) (woken (runnable_conf_in cfg.runnables k) x) x) (λ (k : ℕ) (x : Runnable). pick (is_given_to cfg t r c k) (woken (runnable_conf_in cfg.runnables k) x) x) no_runnable cfg.runnables.n rs.at (λ k x. rw (given_by t e k)))

module _ (cfg : Config) (st : State) (i : ℕ) where
  handed-elements : {b : Bool} → hands_on cfg st i ≡ b → handed_elements cfg st i ≡ pick b (given_elements cfg (runnable_of st i) (copies_in st.outgoing i) max_listed st.elements) st.elements
  unfolding handed_elements
  handed-elements h = ap (λ (b : Bool). pick b (given_elements cfg (runnable_of st i) (copies_in st.outgoing i) max_listed st.elements) st.elements) h

  handed-runnables : {b : Bool} → hands_on cfg st i ≡ b → handed_runnables cfg st i ≡ pick b (given_runnables cfg st.elements (runnable_of st i) (copies_in st.outgoing i) st.runnables) st.runnables
  unfolding handed_runnables
  handed-runnables h = ap (λ (b : Bool). pick b (given_runnables cfg st.elements (runnable_of st i) (copies_in st.outgoing i) st.runnables) st.runnables) h

  handed-kept : hands_on cfg st i ≡ false → handed_on cfg st i ≡ st
  handed-kept h = rw (handed-elements h, handed-runnables h)

  -- an instance that lists nothing writes nothing
  pub handed-unlisted : lists_some cfg.outgoing (runnable_of st i) ≡ false → handed_on cfg st i ≡ st
  handed-unlisted h = handed-kept (ap (λ (b : Bool). both b (not (has_failed st i))) h)

  -- nor does one that has failed
  pub handed-failed : has_failed st i ≡ true → handed_on cfg st i ≡ st
  handed-failed h = handed-kept (both-no (lists_some cfg.outgoing (runnable_of st i)) (not (has_failed st i)) (ap not h))

  -- any other writes what it has set
  pub handed-all : lists_some cfg.outgoing (runnable_of st i) ≡ true → has_failed st i ≡ false → handed_on cfg st i ≡ with_runnables (with_elements st (given_elements cfg (runnable_of st i) (copies_in st.outgoing i) max_listed st.elements)) (given_runnables cfg st.elements (runnable_of st i) (copies_in st.outgoing i) st.runnables)
  handed-all l f =
      let h : hands_on cfg st i ≡ true = both-make (lists_some cfg.outgoing (runnable_of st i)) (not (has_failed st i)) l (ap not f) in
      rw (handed-elements h, handed-runnables h)
