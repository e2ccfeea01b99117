-- What a board may rely on: the contract of a lent step leaves no choice, and a refusal changes nothing there.
-- Assumes nothing.
use Prim.Native.Nat.{ℕ, ◌<◌}
use mathlib.Core.Path.{◌≡◌, refl, sym, ◌∙◌}
use seplogic.Ra.Ura.{Ura}
use base.Logic.{SProp}
use prog.Memory.{Memory}
use prog.Routine.{Routine}
use types.Logic.{Logic}
use contract.Lifetimes.{Lfts}
use contract.Monad.{Fun, fact}
use denote.Triple.Clauses.{AtExit}
use denote.Triple.Entry.{Args}
use Rattle.faces.specs.Types.{Step, Answer, Refused, Config, State}
use Rattle.effects.specs.Step.{step_of}
use Rattle.stays_sound.proofs.Refusals.{refusal-keeps, never-zero}
use Rattle.lending.specs.contracts.step_lent as lent

module _ (cfg : Config) (st : State) (s : Step) where
  -- the contract (`lent_one`): the answer, and the state that is left
  abbrev pub Lends : Answer → State → Type 0
  Lends r t = (r ≡ (step_of cfg st s).answer) × (t ≡ (step_of cfg st s).state)

  -- no two that differ meet it
  pub lent-unique : (r r' : Answer) (t t' : State) → Lends r t → Lends r' t' → (r ≡ r') × (t ≡ t')
  lent-unique r r' t t' p p' = (p.0 ∙ sym p'.0, p.1 ∙ sym p'.1)

  -- a refused step leaves the lent state as it was
  pub lent-stays : (n : ℕ) (r : Answer) (t : State) → Lends r t → r ≡ Refused n → t ≡ st
  lent-stays n r t p e = p.1 ∙ refusal-keeps cfg st s n (sym p.0 ∙ e)

  -- and its number is not 0
  pub lent-number : (n : ℕ) (r : Answer) (t : State) → Lends r t → r ≡ Refused n → 0 < n
  lent-number n r t p e = never-zero cfg st s n (sym p.0 ∙ e)

-- that is the contract of the code itself: what its `ensures` asks of the arguments a, the result r and the places e at exit
pub lent_one : {M : Type 1} {𝓤 : Ura M} (𝓛 : Logic 𝓤) (mem : Memory → SProp 𝓤) (run : Routine → Fun 𝓤) (κs : Lfts 1) (a : Args lent.signature κs) (r : Answer) (e : AtExit lent.ended κs)
    → (lent.clauses 𝓛 mem run κs a).ensures tt r e ≡ fact 𝓤 (Lends a.0 a.1.0.now a.1.1.0 r e.1.0.now)
lent_one 𝓛 mem run κs a r e = refl
