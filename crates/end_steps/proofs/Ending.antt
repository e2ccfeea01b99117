-- The end of an instance whose runnable lists no element: nothing is written and no copy goes, so that only its slot is emptied.
-- Assumes nothing.
use Rattle.std.proofs.Common.{◌≡◌, ℕ, Bool, true, false, not, refl, ap, ◌∙◌}
use Rattle.laws.specs.Choice.{pick, both}
use Rattle.laws.proofs.Choosing.{clash, both_left, both_right}
use Rattle.values.specs.Values.{void_v}
use Rattle.faces.specs.Types.{Lists, Config, Copied, State}
use Rattle.state.specs.Parts.{no_copies}
use Rattle.state.specs.Tables.{with_copies}
use Rattle.effects.specs.Steps.{took, serves, holds, runnable_of, lists_some, cleared, uncopied, emptied, ended, end_of}
use Rattle.copies.proofs.Given.{handed-unlisted}

is-not : (b : Bool) → not b ≡ true → b ≡ false
is-not true h = absurd (clash false h refl)
is-not false h = refl

cleared-unlisted : (t : Lists) (r : ℕ) (cs : Copied) (i : ℕ) → lists_some t r ≡ false → cleared t r cs i ≡ cs
unfolding cleared
cleared-unlisted t r cs i h = ap (λ (b : Bool). pick b (with_copies cs i no_copies) cs) h

uncopied-unlisted : (cfg : Config) (st : State) (r i : ℕ) → lists_some cfg.incoming r ≡ false → lists_some cfg.outgoing r ≡ false → uncopied cfg st r i ≡ st
uncopied-unlisted cfg st r i a b = rw (cleared-unlisted cfg.incoming r st.incoming i a, cleared-unlisted cfg.outgoing r st.outgoing i b)

module _ (cfg : Config) (st : State) (i : ℕ) where
  pub ended-unlisted : both (not (lists_some cfg.incoming (runnable_of st i))) (not (lists_some cfg.outgoing (runnable_of st i))) ≡ true → ended cfg st i ≡ emptied st i
  ended-unlisted h =
      let a : lists_some cfg.incoming (runnable_of st i) ≡ false = is-not (lists_some cfg.incoming (runnable_of st i)) (both_left (not (lists_some cfg.incoming (runnable_of st i))) (not (lists_some cfg.outgoing (runnable_of st i))) h) in
      let b : lists_some cfg.outgoing (runnable_of st i) ≡ false = is-not (lists_some cfg.outgoing (runnable_of st i)) (both_right (not (lists_some cfg.incoming (runnable_of st i))) (not (lists_some cfg.outgoing (runnable_of st i))) h) in
      ap (λ (s : State). uncopied cfg (emptied s i) (runnable_of st i) i) (handed-unlisted cfg st i b) ∙ uncopied-unlisted cfg (emptied st i) (runnable_of st i) i a b

  -- an end that is not refused
  pub end-taken : serves st i ≡ false → holds st i ≡ false → end_of cfg st i ≡ took void_v (ended cfg st i)
  unfolding end_of
  end-taken s h = rw (s, h)
