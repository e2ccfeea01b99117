-- Edition 1 has every step (`has-every`), so its refusals are as they were (`refusal-before`), and so is each step (`inner-before`); a recording is judged from the start state by steps alone (`untested-is-same`).
-- Assumes nothing.
use Prim.Native.Nat.{ℕ}
use mathlib.Core.Bool.{true, not}
use mathlib.Core.Path.{◌≡◌, refl, ap, ◌∙◌}
use lib.Dec.{eqb}
use Rattle.numbers.specs.Codes.{invalidate_code}
use Rattle.laws.proofs.Choosing.{either-more}
use Rattle.faces.specs.Types.{Step, Config, Slots, State, Stepped}
use Rattle.config.specs.Editions.{first_edition, marks_invalid, has_step}
use Rattle.state.specs.Start.{start_of}
use Rattle.rules.specs.declared.Row.{Row}
use Rattle.rules.specs.Refusals.{instance_refusal, refusal_by, refusal_of}
use Rattle.effects.specs.Step.{possible_of, inner_of}
use Rattle.judging.specs.Judging.{judge_from}
use Rattle.claims.specs.Editions.{instance_before, refusal_before, inner_before, FirstIsBefore}
use Rattle.claims.proofs.Verdicts.{untested-is-same}

has-every : (e code : ℕ) → e ≡ first_edition → has_step e code ≡ true
unfolding has_step marks_invalid
has-every e code q = rw q (either-more (not (eqb code invalidate_code)) true refl)

module _ (cfg : Config) (q : cfg.edition ≡ first_edition) where
  refusal-before : (ss : Slots) (r : Row) (s : Step) → refusal_by cfg ss r s ≡ refusal_before cfg ss r s
  unfolding refusal_by instance_refusal refusal_before instance_before
  refusal-before ss r s = rw (has-every cfg.edition s.code q)

  inner-before : (st : State) (s : Step) → inner_of cfg st s ≡ inner_before cfg st s
  unfolding inner_of possible_of refusal_of inner_before
  inner-before st s = rw (refusal-before st.slots _ s)

pub first-is-before : FirstIsBefore
first-is-before cfg t a h q =
    untested-is-same cfg t a h ∙ ap (λ (f : State → Step → Stepped). judge_from f a t 0 (start_of cfg)) (λ i st s. inner-before cfg q st s i)
