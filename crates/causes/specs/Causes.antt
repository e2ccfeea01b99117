-- The cause of a refusal: the machine's own answer, and why ("Numbers of refusal").
-- Assumes nothing.
use Rattle.std.specs.Prelude.{ℕ}
use Rattle.laws.specs.Choice.{pick}
use Rattle.faces.specs.Types.{Value, Step, Config, State}
use Rattle.effects.specs.Step.{agrees, possible_of, on_answer}
use Rattle.whys.specs.declared.Cause.{Cause}
use Rattle.whys.specs.declared.Cause.TheVariants.{NoCause, Differs}
use Rattle.whys.specs.Whys.{why_of}

-- a possible step: what it would answer, where that does not agree with what it claims ("Numbers of refusal", 17; W-201)
unfoldable pub claim_cause : ℕ → Value → Value → Cause
claim_cause code v claim = pick (agrees code v claim) NoCause (Differs v)

-- why a step is refused in a state, or that it is not ("Numbers of refusal", 2 to 17; W-206)
unfoldable pub cause_of : Config → State → Step → Cause
cause_of cfg st s = on_answer (possible_of cfg st s).answer (λ (v : Value). claim_cause s.code v s.claim) (λ (n : ℕ). why_of cfg st s n)
