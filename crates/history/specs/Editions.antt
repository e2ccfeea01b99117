-- What holds in an edition that marks no element invalid (W-208): no accepted step is an invalidate, no state that is reached holds Invalid, and no step answers it. Proved in proofs/Editions.antt.
-- Assumes nothing.
use Rattle.std.specs.Prelude.{ℕ, ◌<◌, true, false, List, ◌≡◌, get_or}
use Rattle.numbers.specs.Codes.{invalidate_code}
use Rattle.faces.specs.Types.{Value, Step, Config, State}
use Rattle.values.specs.Values.{void_v, invalid_v, answer_value}
use Rattle.config.specs.Editions.{marks_invalid}
use Rattle.config.specs.Tables.{max_runnable_confs, max_variable_confs, max_required_confs, max_operation_confs, max_listed}
use Rattle.state.specs.Parts.{no_client, max_requests}
use Rattle.state.specs.Tables.{max_slots, runnable_in, variable_in, element_in, operation_in, slot_in, copy_in, copies_in}
use Rattle.effects.specs.Step.{step_of}
use Rattle.history.specs.Promises.{Run}

-- a value is not Invalid (W-208)
abbrev pub Valid : Value → Type 0
Valid v = v.kind ≡ invalid_v.kind → ⊥

-- no accepted step is an invalidate (W-208)
abbrev pub NoneInvalidates : Config → List Step → Step → List Step → Type 0
NoneInvalidates cfg before s after = marks_invalid cfg.edition ≡ false → s.code ≡ invalidate_code → ⊥

-- nothing that a state holds is Invalid: no variable, no element, nothing that an operation is Done with, no value and no request that is queued, no client that is served, and no copy of an instance (W-208, W-211)
pub record HoldsValid (st : State) : Type 0 where
  pub variables : (k : ℕ) → k < max_variable_confs → Valid (variable_in st.variables k).value
  pub elements : (q : ℕ) → q < max_required_confs → Valid (element_in st.elements q).value
  pub operations : (o : ℕ) → o < max_operation_confs → Valid (operation_in st.operations o).done
  pub queues : (q j : ℕ) → q < max_required_confs → j < (element_in st.elements q).queue.queued → Valid (get_or (element_in st.elements q).queue.at j void_v)
  pub requests : (r j : ℕ) → r < max_runnable_confs → j < max_requests → j < (runnable_in st.runnables r).requests.queued → Valid (get_or (runnable_in st.runnables r).requests.at j no_client).argument
  pub served : (i : ℕ) → i < max_slots → (slot_in st.slots i).used ≡ true → (slot_in st.slots i).owed.serving ≡ true → Valid (slot_in st.slots i).owed.client.argument
  pub incoming : (i j : ℕ) → i < max_slots → j < max_listed → Valid (copy_in (copies_in st.incoming i) j)
  pub outgoing : (i j : ℕ) → i < max_slots → j < max_listed → Valid (copy_in (copies_in st.outgoing i) j)

-- every state that is reached is so (W-208)
abbrev pub NoneInvalid : Config → List Step → State → Type 0
NoneInvalid cfg rs st = marks_invalid cfg.edition ≡ false → HoldsValid st

-- no accepted step answers Invalid (W-208)
abbrev pub AnswersValid : Config → List Step → Step → List Step → Type 0
AnswersValid cfg before s after = marks_invalid cfg.edition ≡ false → (m : State) × Run cfg before m × Valid (answer_value (step_of cfg m s).answer)
