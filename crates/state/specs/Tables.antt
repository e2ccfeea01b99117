-- The nine tables of a state: what stands at a place, and one place changed ("The parts, and how many").
-- Past its end a table gives the blank part, and a change there changes nothing.
-- Assumes nothing.
use Rattle.std.specs.Prelude.{ℕ, slice_index_or, slice_set}
use Rattle.config.specs.Tables.{max_runnable_confs, max_variable_confs, max_area_confs, max_required_confs, max_operation_confs, max_timer_confs}
use Rattle.values.specs.Values.{never_received_v}
use Rattle.state.specs.Parts.{no_runnable, no_variable, no_area, no_element, no_operation, no_timer, no_slot, no_copies}
use Rattle.state.specs.Places.{no_places, place_in, with_place}
use Rattle.state.specs.declared.Places.{Places}
use Rattle.state.specs.declared.Runnable.{Runnable}
use Rattle.state.specs.declared.Variable.{Variable}
use Rattle.state.specs.declared.Area.{Area}
use Rattle.state.specs.declared.Element.{Element}
use Rattle.state.specs.declared.Operation.{Operation}
use Rattle.state.specs.declared.Timer.{Timer}
use Rattle.state.specs.declared.Slot.{Slot}
use Rattle.values.specs.declared.Value.{Value}
use Rattle.state.specs.declared.Copies.{Copies}
use Rattle.state.specs.declared.State.{State}

-- how many slots there are for instances ("The parts, and how many")
abbrev pub max_slots : ℕ
max_slots = 32

-- ---- runnables

-- the runnables, by their numbers ("The parts, and how many")
abbrev pub Runnables : Type 0
Runnables = Places Runnable max_runnable_confs

-- a table of blank runnables ("A sound state", unused places)
abbrev pub no_runnables : Runnables
no_runnables = no_places no_runnable

-- the runnable at place i ("The parts, and how many")
abbrev pub runnable_in : Runnables → ℕ → Runnable
runnable_in t i = place_in no_runnable t i

-- the table with the runnable x at place i ("The parts, and how many")
abbrev pub with_runnable : Runnables → ℕ → Runnable → Runnables
with_runnable t i x = with_place t i x

-- the state with another table of runnables ("The parts, and how many")
abbrev pub with_runnables : State → Runnables → State
with_runnables st t = record { runnables = t; variables = st.variables; areas = st.areas; elements = st.elements; operations = st.operations; timers = st.timers; slots = st.slots; incoming = st.incoming; outgoing = st.outgoing }

-- ---- variables

-- the variables ("The parts, and how many")
abbrev pub Variables : Type 0
Variables = Places Variable max_variable_confs

-- a table of blank variables ("A sound state", unused places)
abbrev pub no_variables : Variables
no_variables = no_places no_variable

-- the variable at place i ("The parts, and how many")
abbrev pub variable_in : Variables → ℕ → Variable
variable_in t i = place_in no_variable t i

-- the table with the variable x at place i ("The parts, and how many")
abbrev pub with_variable : Variables → ℕ → Variable → Variables
with_variable t i x = with_place t i x

-- the state with another table of variables ("The parts, and how many")
abbrev pub with_variables : State → Variables → State
with_variables st t = record { runnables = st.runnables; variables = t; areas = st.areas; elements = st.elements; operations = st.operations; timers = st.timers; slots = st.slots; incoming = st.incoming; outgoing = st.outgoing }

-- ---- exclusive areas

-- the exclusive areas ("The parts, and how many")
abbrev pub Areas : Type 0
Areas = Places Area max_area_confs

-- a table of blank areas ("A sound state", unused places)
abbrev pub no_areas : Areas
no_areas = no_places no_area

-- the area at place i ("The parts, and how many")
abbrev pub area_in : Areas → ℕ → Area
area_in t i = place_in no_area t i

-- the table with the area x at place i ("The parts, and how many")
abbrev pub with_area : Areas → ℕ → Area → Areas
with_area t i x = with_place t i x

-- the state with another table of areas ("The parts, and how many")
abbrev pub with_areas : State → Areas → State
with_areas st t = record { runnables = st.runnables; variables = st.variables; areas = t; elements = st.elements; operations = st.operations; timers = st.timers; slots = st.slots; incoming = st.incoming; outgoing = st.outgoing }

-- ---- required elements

-- the required elements ("The parts, and how many")
abbrev pub Elements : Type 0
Elements = Places Element max_required_confs

-- a table of blank required elements ("A sound state", unused places)
abbrev pub no_elements : Elements
no_elements = no_places no_element

-- the required element at place i ("The parts, and how many")
abbrev pub element_in : Elements → ℕ → Element
element_in t i = place_in no_element t i

-- the table with the required element x at place i ("The parts, and how many")
abbrev pub with_element : Elements → ℕ → Element → Elements
with_element t i x = with_place t i x

-- the state with another table of required elements ("The parts, and how many")
abbrev pub with_elements : State → Elements → State
with_elements st t = record { runnables = st.runnables; variables = st.variables; areas = st.areas; elements = t; operations = st.operations; timers = st.timers; slots = st.slots; incoming = st.incoming; outgoing = st.outgoing }

-- ---- operations

-- the operations ("The parts, and how many")
abbrev pub Operations : Type 0
Operations = Places Operation max_operation_confs

-- a table of blank operations ("A sound state", unused places)
abbrev pub no_operations : Operations
no_operations = no_places no_operation

-- the operation at place i ("The parts, and how many")
abbrev pub operation_in : Operations → ℕ → Operation
operation_in t i = place_in no_operation t i

-- the table with the operation x at place i ("The parts, and how many")
abbrev pub with_operation : Operations → ℕ → Operation → Operations
with_operation t i x = with_place t i x

-- the state with another table of operations ("The parts, and how many")
abbrev pub with_operations : State → Operations → State
with_operations st t = record { runnables = st.runnables; variables = st.variables; areas = st.areas; elements = st.elements; operations = t; timers = st.timers; slots = st.slots; incoming = st.incoming; outgoing = st.outgoing }

-- ---- timers

-- the timers ("The parts, and how many")
abbrev pub Timers : Type 0
Timers = Places Timer max_timer_confs

-- a table of blank timers ("A sound state", unused places)
abbrev pub no_timers : Timers
no_timers = no_places no_timer

-- the timer at place i ("The parts, and how many")
abbrev pub timer_in : Timers → ℕ → Timer
timer_in t i = place_in no_timer t i

-- the table with the timer x at place i ("The parts, and how many")
abbrev pub with_timer : Timers → ℕ → Timer → Timers
with_timer t i x = with_place t i x

-- the state with another table of timers ("The parts, and how many")
abbrev pub with_timers : State → Timers → State
with_timers st t = record { runnables = st.runnables; variables = st.variables; areas = st.areas; elements = st.elements; operations = st.operations; timers = t; slots = st.slots; incoming = st.incoming; outgoing = st.outgoing }

-- ---- instance slots

-- the instance slots ("The parts, and how many")
abbrev pub Slots : Type 0
Slots = Places Slot max_slots

-- a table of blank slots ("A sound state", unused places)
abbrev pub no_slots : Slots
no_slots = no_places no_slot

-- the slot at place i ("The parts, and how many")
abbrev pub slot_in : Slots → ℕ → Slot
slot_in t i = place_in no_slot t i

-- the table with the slot x at place i ("The parts, and how many")
abbrev pub with_slot : Slots → ℕ → Slot → Slots
with_slot t i x = with_place t i x

-- the state with another table of slots ("The parts, and how many")
abbrev pub with_slots : State → Slots → State
with_slots st t = record { runnables = st.runnables; variables = st.variables; areas = st.areas; elements = st.elements; operations = st.operations; timers = st.timers; slots = t; incoming = st.incoming; outgoing = st.outgoing }

-- ---- the copies of instances

-- the copies of all instances, by their slots (W-211)
abbrev pub Copied : Type 0
Copied = Places Copies max_slots

-- the copy at place j of an instance's (W-211)
unfoldable pub copy_in : Copies → ℕ → Value
copy_in c j = slice_index_or c.at j never_received_v

-- the copies of an instance with v at place j (W-211)
unfoldable pub with_copy : Copies → ℕ → Value → Copies
with_copy c j v = record { at = slice_set c.at j v }

-- a table of blank copies (W-211)
abbrev pub no_copied : Copied
no_copied = no_places no_copies

-- the copies of the instance in the slot i (W-211)
abbrev pub copies_in : Copied → ℕ → Copies
copies_in t i = place_in no_copies t i

-- the table with the copies c for the slot i (W-211)
abbrev pub with_copies : Copied → ℕ → Copies → Copied
with_copies t i c = with_place t i c

-- the state with another table of what instances have copied at their spawn (W-211)
abbrev pub with_incoming : State → Copied → State
with_incoming st t = record { runnables = st.runnables; variables = st.variables; areas = st.areas; elements = st.elements; operations = st.operations; timers = st.timers; slots = st.slots; incoming = t; outgoing = st.outgoing }

-- the state with another table of what instances have set to be written at their end (W-211)
abbrev pub with_outgoing : State → Copied → State
with_outgoing st t = record { runnables = st.runnables; variables = st.variables; areas = st.areas; elements = st.elements; operations = st.operations; timers = st.timers; slots = st.slots; incoming = st.incoming; outgoing = t }
