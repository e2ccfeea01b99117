-- Turns, one step at a time: a gap that is filled, one that is not, and a step that is accepted as it stands, whose turn is the step itself without a note.
-- Assumes nothing.
use Prim.Native.Nat.{ℕ, ◌+◌, ◌<◌}
use mathlib.Core.Bool.{true, false}
use mathlib.Core.List.{List, [], ◌∷◌, map}
use mathlib.Core.Path.{◌≡◌, refl, ap}
use native.Mathlib.Omega.{arith}
use lib.ListN.{length, get_or}
use borrow.Author.Tests.{lt-ltb}
use Rattle.faces.specs.Types.{Step, Config, State, Stepped}
use Rattle.gaps.specs.Orders.{sequences, up_to_three}
use Rattle.gaps.specs.Gaps.{sequences_of, is_taken, answered, fills, rank_of, can_fill, answered_all, state_after, Turn, turn_of, turn_steps, turns_of, mended_steps}
use Rattle.gaps.specs.Report.{turn_notes, report_from, note_count}
use Rattle.gaps.proofs.Ordered.{passed-hit}

-- the empty sequence is one of the list
some-listed : (cfg : Config) → 0 < length (sequences_of cfg)
unfolding sequences_of up_to_three sequences
some-listed cfg = omega arith

-- the turn of a step that is accepted as it stands
unfoldable pub bare : Step → Turn
bare s = record { passed = 0; inserted = []; kept = s }

module _ (f : State → Step → Stepped) (cfg : Config) where
  pub turns-on : (st : State) (s : Step) (rs : List Step) → can_fill f cfg st s ≡ true → turns_of f cfg st (s ∷ rs) ≡ turn_of f cfg st s ∷ turns_of f cfg (state_after f st (turn_steps (turn_of f cfg st s))) rs
  unfolding turns_of
  turns-on st s rs h = rw h

  pub turns-off : (st : State) (s : Step) (rs : List Step) → can_fill f cfg st s ≡ false → turns_of f cfg st (s ∷ rs) ≡ []
  unfolding turns_of
  turns-off st s rs h = rw h

  pub answered-length : (st : State) (q : List Step) → length (answered_all f cfg st q) ≡ length q
  unfolding answered_all
  answered-length st [] = refl
  answered-length st (x ∷ xs) = let r = answered-length (f st (answered cfg st x)).state xs in omega arith

  -- the empty sequence stands first, so a step that is accepted as it stands has the rank 0
  pub rank-taken : (st : State) (s : Step) → is_taken (f st s).answer ≡ true → rank_of f cfg st s ≡ 0
  unfolding rank_of sequences_of up_to_three sequences fills
  rank-taken st s h = passed-hit (fills f cfg st s) [] _ h

  pub bare-fills : (st : State) (s : Step) → rank_of f cfg st s ≡ 0 → can_fill f cfg st s ≡ true
  bare-fills st s e = lt-ltb (rank_of f cfg st s) (length (sequences_of cfg)) (omega (arith, e, some-listed cfg))

  pub turn-bare : (st : State) (s : Step) → rank_of f cfg st s ≡ 0 → turn_of f cfg st s ≡ bare s
  unfolding bare sequences_of up_to_three sequences answered_all
  turn-bare st s e = ap (λ (n : ℕ). record { passed = n; inserted = answered_all f cfg st (get_or (sequences_of cfg) n []); kept = s }) e

-- ---- nothing but such steps

pub bare-mended : (rs : List Step) → mended_steps (map bare rs) ≡ rs
unfolding mended_steps bare
bare-mended [] = refl
bare-mended (s ∷ rs) = ap (λ (l : List Step). s ∷ l) (bare-mended rs)

pub bare-report : (n : ℕ) (rs : List Step) → report_from n (map bare rs) ≡ []
unfolding report_from turn_notes bare
bare-report n [] = refl
bare-report n (s ∷ rs) = bare-report (n + 1) rs

pub bare-notes : (rs : List Step) → note_count (map bare rs) ≡ 0
unfolding note_count bare
bare-notes [] = refl
bare-notes (s ∷ rs) = let r = bare-notes rs in omega arith
