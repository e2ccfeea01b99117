-- Two configurations with the same counts, the same lengths and the same entries are the same: an entry holds all that its part holds.
-- Assumes nothing.
use Prim.Native.Nat.{ℕ, ◌+◌, ◌*◌, ◌%◌, ◌≤◌, ◌<◌}
use mathlib.Core.Bool.{Bool, true, false}
use mathlib.Core.List.{List}
use mathlib.Core.Path.{◌≡◌, refl, sym, ap, ap₂, ◌∙◌}
use native.Mathlib.Decide.{dec_lt}
use native.Mathlib.Omega.{arith}
use lib.ListN.{length, get_or}
use lib.Seq.{ext_get_or}
use lib.Dec.{eqb, ltb}
use Rattle.numbers.specs.Tags.{last_tag}
use Rattle.laws.specs.Choice.{bit}
use Rattle.laws.proofs.Choosing.{bit-back}
use Rattle.laws.proofs.Places.{past}
use Rattle.config.specs.declared.RunnableConf.{RunnableConf}
use Rattle.config.specs.Tables.{RunnableConfs}
use Rattle.config.specs.declared.VariableConf.{VariableConf}
use Rattle.config.specs.Tables.{VariableConfs}
use Rattle.config.specs.declared.AreaConf.{AreaConf}
use Rattle.config.specs.Tables.{AreaConfs}
use Rattle.config.specs.declared.RequiredConf.{RequiredConf}
use Rattle.config.specs.Tables.{RequiredConfs}
use Rattle.config.specs.declared.ProvidedConf.{ProvidedConf}
use Rattle.config.specs.Tables.{ProvidedConfs}
use Rattle.config.specs.declared.Link.{Link}
use Rattle.config.specs.Tables.{Links}
use Rattle.config.specs.declared.OperationConf.{OperationConf}
use Rattle.config.specs.Tables.{OperationConfs}
use Rattle.config.specs.declared.TimerConf.{TimerConf}
use Rattle.config.specs.Tables.{TimerConfs}
use Rattle.config.specs.declared.DataEvent.{DataEvent}
use Rattle.config.specs.Tables.{DataEvents}
use Rattle.config.specs.declared.ReturnEvent.{ReturnEvent}
use Rattle.config.specs.Tables.{ReturnEvents}
use Rattle.config.specs.declared.Listed.{Listed}
use Rattle.config.specs.Tables.{Lists}
use Rattle.config.specs.declared.Config.{Config}
use Rattle.config.specs.Tables.{no_runnable_conf, no_variable_conf, no_area_conf, no_required_conf, no_provided_conf, no_link, no_operation_conf, no_timer_conf, no_data_event, no_return_event, no_listed}
use Rattle.entries.specs.declared.Entry.{Entry}
use Rattle.entries.specs.Entries.{no_entry, max_of, count_of, places_of, entry_of, runnable_entry, runnable_part, variable_entry, variable_part, area_entry, area_part, required_entry, required_part, provided_entry, provided_part, link_entry, link_part, operation_entry, operation_part, timer_entry, timer_part, data_event_entry, data_event_part, return_event_entry, return_event_part, listed_entry, listed_part}
use Rattle.entries.specs.Faults.{is_no_entry, config_sound}
use Rattle.entries.proofs.Kind.{blank-told, config-told}
use Rattle.config.specs.Table.{part_in}
use Rattle.reading.proofs.Adding.{each-kind}

-- ---- an entry holds all of its part

flags-told : (a b d : Bool) → (eqb ((bit a + 2 * bit b + 4 * bit d) % 2) 1 ≡ a) × ((ltb 1 ((bit a + 2 * bit b + 4 * bit d) % 4) ≡ b) × (ltb 3 (bit a + 2 * bit b + 4 * bit d) ≡ d))
flags-told true true true = (refl, (refl, refl))
flags-told true true false = (refl, (refl, refl))
flags-told true false true = (refl, (refl, refl))
flags-told true false false = (refl, (refl, refl))
flags-told false true true = (refl, (refl, refl))
flags-told false true false = (refl, (refl, refl))
flags-told false false true = (refl, (refl, refl))
flags-told false false false = (refl, (refl, refl))

runnable-back : (x : RunnableConf) → runnable_part (runnable_entry x) ≡ x
runnable-back x =
    let t = flags-told x.concurrent x.init x.counting in
    λ i. record { component = x.component; concurrent = t.0 i; init = t.1.0 i; counting = t.1.1 i; interval = x.interval; capacity = x.capacity }

variable-back : (x : VariableConf) → variable_part (variable_entry x) ≡ x
variable-back x = ap (λ (m : Bool). record { component = x.component; initialed = m; initial = x.initial }) (bit-back x.initialed)

provided-back : (x : ProvidedConf) → provided_part (provided_entry x) ≡ x
provided-back x = ap (λ (m : Bool). record { component = x.component; queued = m }) (bit-back x.queued)

operation-back : (x : OperationConf) → operation_part (operation_entry x) ≡ x
operation-back x = ap (λ (m : Bool). record { component = x.component; asynchronous = m; server = x.server; timeout = x.timeout }) (bit-back x.asynchronous)

-- rows whose parts have the same entries
same_rows : {A : Type 0} (entry : A → Entry) (part : Entry → A) → ((x : A) → part (entry x) ≡ x) → (d : A) (l m : List A) → length l ≡ length m
    → ((i : ℕ) → i < length l → entry (get_or l i d) ≡ entry (get_or m i d)) → l ≡ m
same_rows entry part back d l m e h = ext_get_or d l m e (λ i b. sym (back (get_or l i d)) ∙ ap part (h i b) ∙ back (get_or m i d))

-- ---- kind by kind

-- two configurations agree on a kind
pub record Agree (p q : Config) (k : ℕ) : Type 0 where
  pub counts : count_of p k ≡ count_of q k
  pub places : places_of p k ≡ places_of q k
  pub entries : (i : ℕ) → i < places_of p k → entry_of p k i ≡ entry_of q k i

module _ (p q : Config) where
  same-runnables : Agree p q 0x10 → p.runnables ≡ q.runnables
  unfolding count_of places_of entry_of part_in
  same-runnables a =
      ap₂ (λ (n : ℕ) (l : List RunnableConf). record { n = n; at = l }) a.counts (same_rows runnable_entry runnable_part runnable-back no_runnable_conf p.runnables.at q.runnables.at a.places a.entries)

  same-variables : Agree p q 0x11 → p.variables ≡ q.variables
  unfolding count_of places_of entry_of part_in
  same-variables a =
      ap₂ (λ (n : ℕ) (l : List VariableConf). record { n = n; at = l }) a.counts (same_rows variable_entry variable_part variable-back no_variable_conf p.variables.at q.variables.at a.places a.entries)

  same-areas : Agree p q 0x12 → p.areas ≡ q.areas
  unfolding count_of places_of entry_of part_in
  same-areas a =
      ap₂ (λ (n : ℕ) (l : List AreaConf). record { n = n; at = l }) a.counts (same_rows area_entry area_part (λ x. refl) no_area_conf p.areas.at q.areas.at a.places a.entries)

  same-requireds : Agree p q 0x13 → p.required ≡ q.required
  unfolding count_of places_of entry_of part_in
  same-requireds a =
      ap₂ (λ (n : ℕ) (l : List RequiredConf). record { n = n; at = l }) a.counts (same_rows required_entry required_part (λ x. refl) no_required_conf p.required.at q.required.at a.places a.entries)

  same-provideds : Agree p q 0x14 → p.provided ≡ q.provided
  unfolding count_of places_of entry_of part_in
  same-provideds a =
      ap₂ (λ (n : ℕ) (l : List ProvidedConf). record { n = n; at = l }) a.counts (same_rows provided_entry provided_part provided-back no_provided_conf p.provided.at q.provided.at a.places a.entries)

  same-links : Agree p q 0x15 → p.links ≡ q.links
  unfolding count_of places_of entry_of part_in
  same-links a =
      ap₂ (λ (n : ℕ) (l : List Link). record { n = n; at = l }) a.counts (same_rows link_entry link_part (λ x. refl) no_link p.links.at q.links.at a.places a.entries)

  same-operations : Agree p q 0x16 → p.operations ≡ q.operations
  unfolding count_of places_of entry_of part_in
  same-operations a =
      ap₂ (λ (n : ℕ) (l : List OperationConf). record { n = n; at = l }) a.counts (same_rows operation_entry operation_part operation-back no_operation_conf p.operations.at q.operations.at a.places a.entries)

  same-timers : Agree p q 0x17 → p.timers ≡ q.timers
  unfolding count_of places_of entry_of part_in
  same-timers a =
      ap₂ (λ (n : ℕ) (l : List TimerConf). record { n = n; at = l }) a.counts (same_rows timer_entry timer_part (λ x. refl) no_timer_conf p.timers.at q.timers.at a.places a.entries)

  same-data-events : Agree p q 0x18 → p.devents ≡ q.devents
  unfolding count_of places_of entry_of part_in
  same-data-events a =
      ap₂ (λ (n : ℕ) (l : List DataEvent). record { n = n; at = l }) a.counts (same_rows data_event_entry data_event_part (λ x. refl) no_data_event p.devents.at q.devents.at a.places a.entries)

  same-return-events : Agree p q 0x19 → p.revents ≡ q.revents
  unfolding count_of places_of entry_of part_in
  same-return-events a =
      ap₂ (λ (n : ℕ) (l : List ReturnEvent). record { n = n; at = l }) a.counts (same_rows return_event_entry return_event_part (λ x. refl) no_return_event p.revents.at q.revents.at a.places a.entries)

  same-incoming : Agree p q 0x1a → p.incoming ≡ q.incoming
  unfolding count_of places_of entry_of part_in
  same-incoming a =
      ap₂ (λ (n : ℕ) (l : List Listed). record { n = n; at = l }) a.counts (same_rows listed_entry listed_part (λ x. refl) no_listed p.incoming.at q.incoming.at a.places a.entries)

  same_outgoing : Agree p q 0x1b → p.outgoing ≡ q.outgoing
  unfolding count_of places_of entry_of part_in
  same_outgoing a =
      ap₂ (λ (n : ℕ) (l : List Listed). record { n = n; at = l }) a.counts (same_rows listed_entry listed_part (λ x. refl) no_listed p.outgoing.at q.outgoing.at a.places a.entries)

-- a configuration of its edition and its tables
config_of_tables : ℕ → RunnableConfs → VariableConfs → AreaConfs → RequiredConfs → ProvidedConfs → Links → OperationConfs → TimerConfs → DataEvents → ReturnEvents → Lists → Lists → Config
config_of_tables n a b c d e f g h i j k l =
    record { edition = n; runnables = a; variables = b; areas = c; required = d; provided = e; links = f; operations = g; timers = h; devents = i; revents = j; incoming = k; outgoing = l }

-- an edition and tables that are the same make the same configuration
joined : (p q : Config) → p.edition ≡ q.edition → p.runnables ≡ q.runnables → p.variables ≡ q.variables → p.areas ≡ q.areas → p.required ≡ q.required → p.provided ≡ q.provided → p.links ≡ q.links → p.operations ≡ q.operations → p.timers ≡ q.timers → p.devents ≡ q.devents → p.revents ≡ q.revents → p.incoming ≡ q.incoming → p.outgoing ≡ q.outgoing → config_of_tables p.edition p.runnables p.variables p.areas p.required p.provided p.links p.operations p.timers p.devents p.revents p.incoming p.outgoing ≡ config_of_tables q.edition q.runnables q.variables q.areas q.required q.provided q.links q.operations q.timers q.devents q.revents q.incoming q.outgoing
joined p q n a b c d e f g h i j k l = rw (n, a, b, c, d, e, f, g, h, i, j, k, l)

pub same-config : (p q : Config) → p.edition ≡ q.edition → ((k : ℕ) → 0x10 ≤ k → k ≤ last_tag → Agree p q k) → p ≡ q
unfolding config_of_tables
same-config p q n f =
    joined p q n
    (same-runnables p q (f 0x10 (omega arith) (omega arith)))
    (same-variables p q (f 0x11 (omega arith) (omega arith)))
    (same-areas p q (f 0x12 (omega arith) (omega arith)))
    (same-requireds p q (f 0x13 (omega arith) (omega arith)))
    (same-provideds p q (f 0x14 (omega arith) (omega arith)))
    (same-links p q (f 0x15 (omega arith) (omega arith)))
    (same-operations p q (f 0x16 (omega arith) (omega arith)))
    (same-timers p q (f 0x17 (omega arith) (omega arith)))
    (same-data-events p q (f 0x18 (omega arith) (omega arith)))
    (same-return-events p q (f 0x19 (omega arith) (omega arith)))
    (same-incoming p q (f 0x1a (omega arith) (omega arith)))
    (same_outgoing p q (f 0x1b (omega arith) (omega arith)))

-- ---- places that are not in use

is-blank : (e : Entry) → is_no_entry e ≡ true → e ≡ no_entry
is-blank e h = let z = blank-told e h in λ i. record { first = z.first i; second = z.second i; third = z.third i; number = z.number i }

past-places : (cfg : Config) (k : ℕ) → 0x10 ≤ k → k ≤ last_tag → (n : ℕ) → places_of cfg k ≤ n → entry_of cfg k n ≡ no_entry
unfolding places_of entry_of part_in
past-places cfg =
    each-kind (λ k. (n : ℕ) → places_of cfg k ≤ n → entry_of cfg k n ≡ no_entry)
    (λ n h. ap runnable_entry (past cfg.runnables.at n (length cfg.runnables.at) no_runnable_conf refl h))
    (λ n h. ap variable_entry (past cfg.variables.at n (length cfg.variables.at) no_variable_conf refl h))
    (λ n h. ap area_entry (past cfg.areas.at n (length cfg.areas.at) no_area_conf refl h))
    (λ n h. ap required_entry (past cfg.required.at n (length cfg.required.at) no_required_conf refl h))
    (λ n h. ap provided_entry (past cfg.provided.at n (length cfg.provided.at) no_provided_conf refl h))
    (λ n h. ap link_entry (past cfg.links.at n (length cfg.links.at) no_link refl h))
    (λ n h. ap operation_entry (past cfg.operations.at n (length cfg.operations.at) no_operation_conf refl h))
    (λ n h. ap timer_entry (past cfg.timers.at n (length cfg.timers.at) no_timer_conf refl h))
    (λ n h. ap data_event_entry (past cfg.devents.at n (length cfg.devents.at) no_data_event refl h))
    (λ n h. ap return_event_entry (past cfg.revents.at n (length cfg.revents.at) no_return_event refl h))
    (λ n h. ap listed_entry (past cfg.incoming.at n (length cfg.incoming.at) no_listed refl h))
    (λ n h. ap listed_entry (past cfg.outgoing.at n (length cfg.outgoing.at) no_listed refl h))

-- no entry stands behind those in use
pub no_more : (cfg : Config) → config_sound cfg ≡ true → (k : ℕ) → 0x10 ≤ k → k ≤ last_tag → (n : ℕ) → count_of cfg k ≤ n → entry_of cfg k n ≡ no_entry
no_more cfg s k low high n h = go (dec_lt n (max_of k))
  where
    go : Dec (n < max_of k) → entry_of cfg k n ≡ no_entry
    go (yes l) = is-blank (entry_of cfg k n) ((config-told cfg s k low high).blank n l h)
    go (no l) = past-places cfg k low high n (omega (arith, l, (config-told cfg s k low high).places))
