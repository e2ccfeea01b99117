-- Each contract of a public function has one answer: no two that differ meet it, nor two that leave differing bytes in a lent buffer.
-- The contracts are those of the code itself: `Reads.Post` is what the `ensures` lines of a function ask of its result and of what it leaves in the places lent to it, so that a
-- contract that says less than it did breaks its line here. One law serves them all: what equals one thing is equal (`same`; of a written text `written_once`).
-- Every public function has its line; tools/listed holds this page to the code. `lending::step_lent` has `lent_one` in crate lending; crate program_io,
-- which reads and prints, has none (docs/contracts.md).
-- Assumes nothing.
use Prim.Native.Nat.{ℕ}
use mathlib.Core.List.{List, ◌++◌}
use mathlib.Core.Path.{◌≡◌, sym, ap₂, ◌∙◌}
use contract.Lifetimes.{Lfts}
use denote.Triple.Clauses.{AtExit}
use borrow.Fn.Kind.{ParamKind, ResultKind}
use borrow.Fn.Kinds.{Dens, res_t, ended_of, Out}
use denote.Param.Laws.{Laws, IsCopy}
use denote.RattleType.{RattleType}
use mir.Syntax.{Dict, w64}
use mir.Val.{Fits}
use Rattle.wire.proofs.Laws.{written_once}

-- ---- the law

same : {A : Type 0} {x y z : A} → x ≡ z → y ≡ z → x ≡ y
same p q = p ∙ sym q

-- a contract with one result, whatever is passed
abbrev pub One : {n : ℕ} (ps : List (ParamKind n)) (r : ResultKind n) → Out n ps r → Type 0
One {n} ps r P = (κs : Lfts n) (a : Dens κs ps) (x y : (res_t r κs).Denot) (s t : AtExit (ended_of n ps r) κs) → P κs a x s → P κs a y t → x ≡ y

-- and one content of the bytes that it leaves, read off the places lent to it
abbrev pub Lent : {n : ℕ} (ps : List (ParamKind n)) (r : ResultKind n) → Out n ps r → ((κs : Lfts n) → AtExit (ended_of n ps r) κs → List ℕ) → Type 0
Lent {n} ps r P left = (κs : Lfts n) (a : Dens κs ps) (x y : (res_t r κs).Denot) (s t : AtExit (ended_of n ps r) κs) → P κs a x s → P κs a y t → (x ≡ y) × (left κs s ≡ left κs t)

-- ---- values

pub values-Value-of : One Rattle.values.proofs.Value.of.Kinds.ps Rattle.values.proofs.Value.of.Kinds.r Rattle.values.proofs.Value.of.Reads.Post
values-Value-of κs a x y s t = same

pub values-Value-full : One Rattle.values.proofs.Value.full.Kinds.ps Rattle.values.proofs.Value.full.Kinds.r Rattle.values.proofs.Value.full.Reads.Post
values-Value-full κs a x y s t = same

pub values-Value-is-void : One Rattle.values.proofs.Value.is_void.Kinds.ps Rattle.values.proofs.Value.is_void.Kinds.r Rattle.values.proofs.Value.is_void.Reads.Post
values-Value-is-void κs a x y s t = same

pub values-Value-says-full : One Rattle.values.proofs.Value.says_full.Kinds.ps Rattle.values.proofs.Value.says_full.Kinds.r Rattle.values.proofs.Value.says_full.Reads.Post
values-Value-says-full κs a x y s t = same

pub values-Value-is-payload : One Rattle.values.proofs.Value.is_payload.Kinds.ps Rattle.values.proofs.Value.is_payload.Kinds.r Rattle.values.proofs.Value.is_payload.Reads.Post
values-Value-is-payload κs a x y s t = same

pub values-Value-is-good : One Rattle.values.proofs.Value.is_good.Kinds.ps Rattle.values.proofs.Value.is_good.Kinds.r Rattle.values.proofs.Value.is_good.Reads.Post
values-Value-is-good κs a x y s t = same

pub values-Value-same : One Rattle.values.proofs.Value.same.Kinds.ps Rattle.values.proofs.Value.same.Kinds.r Rattle.values.proofs.Value.same.Reads.Post
values-Value-same κs a x y s t = same

-- ---- config

pub config-bit : One Rattle.config.proofs.bit.Kinds.ps Rattle.config.proofs.bit.Kinds.r Rattle.config.proofs.bit.Reads.Post
config-bit κs a x y s t = same

pub config-RunnableConf-top : One Rattle.config.proofs.RunnableConf.top.Kinds.ps Rattle.config.proofs.RunnableConf.top.Kinds.r Rattle.config.proofs.RunnableConf.top.Reads.Post
config-RunnableConf-top κs a x y s t = same

pub config-Config-none : One Rattle.config.proofs.Config.none.Kinds.ps Rattle.config.proofs.Config.none.Kinds.r Rattle.config.proofs.Config.none.Reads.Post
config-Config-none κs a x y s t = same

pub config-is-edition : One Rattle.config.proofs.is_edition.Kinds.ps Rattle.config.proofs.is_edition.Kinds.r Rattle.config.proofs.is_edition.Reads.Post
config-is-edition κs a x y s t = same

pub config-marks-invalid : One Rattle.config.proofs.marks_invalid.Kinds.ps Rattle.config.proofs.marks_invalid.Kinds.r Rattle.config.proofs.marks_invalid.Reads.Post
config-marks-invalid κs a x y s t = same

pub config-has-step : One Rattle.config.proofs.has_step.Kinds.ps Rattle.config.proofs.has_step.Kinds.r Rattle.config.proofs.has_step.Reads.Post
config-has-step κs a x y s t = same

pub config-Lists-below : One Rattle.config.proofs.Lists.below.Kinds.ps Rattle.config.proofs.Lists.below.Kinds.r Rattle.config.proofs.Lists.below.Reads.Post
config-Lists-below κs a x y s t = same

pub config-Lists-first : One Rattle.config.proofs.Lists.first.Kinds.ps Rattle.config.proofs.Lists.first.Kinds.r Rattle.config.proofs.Lists.first.Reads.Post
config-Lists-first κs a x y s t = same

pub config-Lists-lists-at : One Rattle.config.proofs.Lists.lists_at.Kinds.ps Rattle.config.proofs.Lists.lists_at.Kinds.r Rattle.config.proofs.Lists.lists_at.Reads.Post
config-Lists-lists-at κs a x y s t = same

pub config-Lists-element-at : One Rattle.config.proofs.Lists.element_at.Kinds.ps Rattle.config.proofs.Lists.element_at.Kinds.r Rattle.config.proofs.Lists.element_at.Reads.Post
config-Lists-element-at κs a x y s t = same

pub config-Lists-place : One Rattle.config.proofs.Lists.place.Kinds.ps Rattle.config.proofs.Lists.place.Kinds.r Rattle.config.proofs.Lists.place.Reads.Post
config-Lists-place κs a x y s t = same

pub config-Lists-has : One Rattle.config.proofs.Lists.has.Kinds.ps Rattle.config.proofs.Lists.has.Kinds.r Rattle.config.proofs.Lists.has.Reads.Post
config-Lists-has κs a x y s t = same

pub config-lists-elements : One Rattle.config.proofs.lists_elements.Kinds.ps Rattle.config.proofs.lists_elements.Kinds.r Rattle.config.proofs.lists_elements.Reads.Post
config-lists-elements κs a x y s t = same

pub config-has-field : One Rattle.config.proofs.has_field.Kinds.ps Rattle.config.proofs.has_field.Kinds.r Rattle.config.proofs.has_field.Reads.Post
config-has-field κs a x y s t = same

-- ---- state

pub state-Stack-push : One Rattle.state.proofs.Stack.push.Kinds.ps Rattle.state.proofs.Stack.push.Kinds.r Rattle.state.proofs.Stack.push.Reads.Post
state-Stack-push κs a x y s t = same

pub state-Stack-top : One Rattle.state.proofs.Stack.top.Kinds.ps Rattle.state.proofs.Stack.top.Kinds.r Rattle.state.proofs.Stack.top.Reads.Post
state-Stack-top κs a x y s t = same

pub state-Stack-pop : One Rattle.state.proofs.Stack.pop.Kinds.ps Rattle.state.proofs.Stack.pop.Kinds.r Rattle.state.proofs.Stack.pop.Reads.Post
state-Stack-pop κs a x y s t = same

pub state-State-start : One Rattle.state.proofs.State.start.Kinds.ps Rattle.state.proofs.State.start.Kinds.r Rattle.state.proofs.State.start.Reads.Post
state-State-start κs a x y s t = same

pub state-up-one : One Rattle.state.proofs.up_one.Kinds.ps Rattle.state.proofs.up_one.Kinds.r Rattle.state.proofs.up_one.Reads.Post
state-up-one κs a x y s t = same

pub state-down-one : One Rattle.state.proofs.down_one.Kinds.ps Rattle.state.proofs.down_one.Kinds.r Rattle.state.proofs.down_one.Reads.Post
state-down-one κs a x y s t = same

pub state-Copies-get : One Rattle.state.proofs.Copies.get.Kinds.ps Rattle.state.proofs.Copies.get.Kinds.r Rattle.state.proofs.Copies.get.Reads.Post
state-Copies-get κs a x y s t = same

pub state-Copies-with : One Rattle.state.proofs.Copies.with.Kinds.ps Rattle.state.proofs.Copies.with.Kinds.r Rattle.state.proofs.Copies.with.Reads.Post
state-Copies-with κs a x y s t = same

-- ---- tables and queues, of every kind of part and every size

module _ (T : RattleType) (l : Laws T) (c : IsCopy T) (p : Rattle.values.specs.declared.Part.Ghosts T.Denot) (d : Dict) (q : Rattle.std.specs.declared.clone.Clone.Ghosts T.Denot) (e : Dict) where
  pub config-Table-none : (n : ℕ) (f : Fits w64 n) → One (Rattle.config.proofs.Table.none.Kinds.ps T n l f c) (Rattle.config.proofs.Table.none.Kinds.r T n l f c) (Rattle.config.proofs.Table.none.Reads.Post T n l f c p d q e)
  config-Table-none n f κs a x y s t = same

  pub config-Table-get : (n : ℕ) (f : Fits w64 n) → One (Rattle.config.proofs.Table.get.Kinds.ps T n l f c) (Rattle.config.proofs.Table.get.Kinds.r T n l f c) (Rattle.config.proofs.Table.get.Reads.Post T n l f c p d q e)
  config-Table-get n f κs a x y s t = same

  pub config-Table-part : (n : ℕ) (f : Fits w64 n) → One (Rattle.config.proofs.Table.part.Kinds.ps T n l f c) (Rattle.config.proofs.Table.part.Kinds.r T n l f c) (Rattle.config.proofs.Table.part.Reads.Post T n l f c p d q e)
  config-Table-part n f κs a x y s t = same

  pub config-Table-add : (n : ℕ) (f : Fits w64 n) → One (Rattle.config.proofs.Table.add.Kinds.ps T n l f c) (Rattle.config.proofs.Table.add.Kinds.r T n l f c) (Rattle.config.proofs.Table.add.Reads.Post T n l f c p d q e)
  config-Table-add n f κs a x y s t = same

  pub state-Places-none : (n : ℕ) (f : Fits w64 n) → One (Rattle.state.proofs.Places.none.Kinds.ps T n l f c) (Rattle.state.proofs.Places.none.Kinds.r T n l f c) (Rattle.state.proofs.Places.none.Reads.Post T n l f c p d q e)
  state-Places-none n f κs a x y s t = same

  pub state-Places-get : (n : ℕ) (f : Fits w64 n) → One (Rattle.state.proofs.Places.get.Kinds.ps T n l f c) (Rattle.state.proofs.Places.get.Kinds.r T n l f c) (Rattle.state.proofs.Places.get.Reads.Post T n l f c p d q e)
  state-Places-get n f κs a x y s t = same

  pub state-Places-with : (n : ℕ) (f : Fits w64 n) → One (Rattle.state.proofs.Places.with.Kinds.ps T n l f c) (Rattle.state.proofs.Places.with.Kinds.r T n l f c) (Rattle.state.proofs.Places.with.Reads.Post T n l f c p d q e)
  state-Places-with n f κs a x y s t = same

  pub state-Queue-get : One (Rattle.state.proofs.Queue.get.Kinds.ps T l c) (Rattle.state.proofs.Queue.get.Kinds.r T l c) (Rattle.state.proofs.Queue.get.Reads.Post T l c p d q e)
  state-Queue-get κs a x y s t = same

  pub state-Queue-push : One (Rattle.state.proofs.Queue.push.Kinds.ps T l c) (Rattle.state.proofs.Queue.push.Kinds.r T l c) (Rattle.state.proofs.Queue.push.Reads.Post T l c p d q e)
  state-Queue-push κs a x y s t = same

  pub state-Queue-first : One (Rattle.state.proofs.Queue.first.Kinds.ps T l c) (Rattle.state.proofs.Queue.first.Kinds.r T l c) (Rattle.state.proofs.Queue.first.Reads.Post T l c p d q e)
  state-Queue-first κs a x y s t = same

  pub state-Queue-rest : One (Rattle.state.proofs.Queue.rest.Kinds.ps T l c) (Rattle.state.proofs.Queue.rest.Kinds.r T l c) (Rattle.state.proofs.Queue.rest.Reads.Post T l c p d q e)
  state-Queue-rest κs a x y s t = same

-- ---- entries

pub entries-is-time : One Rattle.entries.proofs.is_time.Kinds.ps Rattle.entries.proofs.is_time.Kinds.r Rattle.entries.proofs.is_time.Reads.Post
entries-is-time κs a x y s t = same

pub entries-max-of : One Rattle.entries.proofs.max_of.Kinds.ps Rattle.entries.proofs.max_of.Kinds.r Rattle.entries.proofs.max_of.Reads.Post
entries-max-of κs a x y s t = same

pub entries-count-of : One Rattle.entries.proofs.count_of.Kinds.ps Rattle.entries.proofs.count_of.Kinds.r Rattle.entries.proofs.count_of.Reads.Post
entries-count-of κs a x y s t = same

pub entries-entry-of : One Rattle.entries.proofs.entry_of.Kinds.ps Rattle.entries.proofs.entry_of.Kinds.r Rattle.entries.proofs.entry_of.Reads.Post
entries-entry-of κs a x y s t = same

pub entries-placed : One Rattle.entries.proofs.placed.Kinds.ps Rattle.entries.proofs.placed.Kinds.r Rattle.entries.proofs.placed.Reads.Post
entries-placed κs a x y s t = same

pub entries-in-range : One Rattle.entries.proofs.in_range.Kinds.ps Rattle.entries.proofs.in_range.Kinds.r Rattle.entries.proofs.in_range.Reads.Post
entries-in-range κs a x y s t = same

pub entries-names-there : One Rattle.entries.proofs.names_there.Kinds.ps Rattle.entries.proofs.names_there.Kinds.r Rattle.entries.proofs.names_there.Reads.Post
entries-names-there κs a x y s t = same

pub entries-is-server : One Rattle.entries.proofs.is_server.Kinds.ps Rattle.entries.proofs.is_server.Kinds.r Rattle.entries.proofs.is_server.Reads.Post
entries-is-server κs a x y s t = same

pub entries-is-queued : One Rattle.entries.proofs.is_queued.Kinds.ps Rattle.entries.proofs.is_queued.Kinds.r Rattle.entries.proofs.is_queued.Reads.Post
entries-is-queued κs a x y s t = same

pub entries-rises : One Rattle.entries.proofs.rises.Kinds.ps Rattle.entries.proofs.rises.Kinds.r Rattle.entries.proofs.rises.Reads.Post
entries-rises κs a x y s t = same

pub entries-rises-at : One Rattle.entries.proofs.rises_at.Kinds.ps Rattle.entries.proofs.rises_at.Kinds.r Rattle.entries.proofs.rises_at.Reads.Post
entries-rises-at κs a x y s t = same

pub entries-pairs-well : One Rattle.entries.proofs.pairs_well.Kinds.ps Rattle.entries.proofs.pairs_well.Kinds.r Rattle.entries.proofs.pairs_well.Reads.Post
entries-pairs-well κs a x y s t = same

pub entries-entry-fault : One Rattle.entries.proofs.entry_fault.Kinds.ps Rattle.entries.proofs.entry_fault.Kinds.r Rattle.entries.proofs.entry_fault.Reads.Post
entries-entry-fault κs a x y s t = same

pub entries-is-no-entry : One Rattle.entries.proofs.is_no_entry.Kinds.ps Rattle.entries.proofs.is_no_entry.Kinds.r Rattle.entries.proofs.is_no_entry.Reads.Post
entries-is-no-entry κs a x y s t = same

pub entries-place-sound : One Rattle.entries.proofs.place_sound.Kinds.ps Rattle.entries.proofs.place_sound.Kinds.r Rattle.entries.proofs.place_sound.Reads.Post
entries-place-sound κs a x y s t = same

pub entries-kind-sound : One Rattle.entries.proofs.kind_sound.Kinds.ps Rattle.entries.proofs.kind_sound.Kinds.r Rattle.entries.proofs.kind_sound.Reads.Post
entries-kind-sound κs a x y s t = same

pub entries-config-sound : One Rattle.entries.proofs.config_sound.Kinds.ps Rattle.entries.proofs.config_sound.Kinds.r Rattle.entries.proofs.config_sound.Reads.Post
entries-config-sound κs a x y s t = same

pub entries-has-room : One Rattle.entries.proofs.has_room.Kinds.ps Rattle.entries.proofs.has_room.Kinds.r Rattle.entries.proofs.has_room.Reads.Post
entries-has-room κs a x y s t = same

-- ---- wire

pub wire-number : One Rattle.wire.proofs.number.Kinds.ps Rattle.wire.proofs.number.Kinds.r Rattle.wire.proofs.number.Reads.Post
wire-number κs a x y s t = same

pub wire-length-of : One Rattle.wire.proofs.length_of.Kinds.ps Rattle.wire.proofs.length_of.Kinds.r Rattle.wire.proofs.length_of.Reads.Post
wire-length-of κs a x y s t = same

pub wire-write : Lent Rattle.wire.proofs.write.Kinds.ps Rattle.wire.proofs.write.Kinds.r Rattle.wire.proofs.write.Reads.Post (λ κs s. s.0.now)
wire-write κs a x y s t p q = written_once _ _ _ _ _ _ _ p q

-- ---- recording

pub recording-values-good : One Rattle.recording.proofs.values_good.Kinds.ps Rattle.recording.proofs.values_good.Kinds.r Rattle.recording.proofs.values_good.Reads.Post
recording-values-good κs a x y s t = same

pub recording-end-in : One Rattle.recording.proofs.end_in.Kinds.ps Rattle.recording.proofs.end_in.Kinds.r Rattle.recording.proofs.end_in.Reads.Post
recording-end-in κs a x y s t = same

pub recording-read-field : One Rattle.recording.proofs.read_field.Kinds.ps Rattle.recording.proofs.read_field.Kinds.r Rattle.recording.proofs.read_field.Reads.Post
recording-read-field κs a x y s t = same

pub recording-write-step : Lent Rattle.recording.proofs.write_step.Kinds.ps Rattle.recording.proofs.write_step.Kinds.r Rattle.recording.proofs.write_step.Reads.Post (λ κs s. s.0.now)
recording-write-step κs a x y s t p q = (same p.0 q.0, same p.1 q.1)

pub recording-write-end : Lent Rattle.recording.proofs.write_end.Kinds.ps Rattle.recording.proofs.write_end.Kinds.r Rattle.recording.proofs.write_end.Reads.Post (λ κs s. s.0.now)
recording-write-end κs a x y s t p q = written_once _ _ _ _ _ _ _ p q

pub copying-is-sound : One Rattle.copying.proofs.is_sound.Kinds.ps Rattle.copying.proofs.is_sound.Kinds.r Rattle.copying.proofs.is_sound.Reads.Post
copying-is-sound κs a x y s t = same

pub copying-rewrite : Lent Rattle.copying.proofs.rewrite.Kinds.ps Rattle.copying.proofs.rewrite.Kinds.r Rattle.copying.proofs.rewrite.Reads.Post (λ κs s. s.1.0.now)
copying-rewrite κs a x y s t p q = (same p.0 q.0, same p.1 q.1)

pub copying-write-and-read : Lent Rattle.copying.proofs.write_and_read.Kinds.ps Rattle.copying.proofs.write_and_read.Kinds.r Rattle.copying.proofs.write_and_read.Reads.Post (λ κs s. s.0.now)
copying-write-and-read κs a x y s t p q = (same p.0 q.0, same p.1 q.1)

-- ---- reading

pub reading-read-config : One Rattle.reading.proofs.read_config.Kinds.ps Rattle.reading.proofs.read_config.Kinds.r Rattle.reading.proofs.read_config.Reads.Post
reading-read-config κs a x y s t = same

-- ---- writing

pub writing-write-config : Lent Rattle.writing.proofs.write_config.Kinds.ps Rattle.writing.proofs.write_config.Kinds.r Rattle.writing.proofs.write_config.Reads.Post (λ κs s. s.0.now)
writing-write-config κs a x y s t p q = (same p.0 q.0, same p.1 q.1)

-- ---- lines

pub lines-put-decimal : Lent Rattle.lines.proofs.put_decimal.Kinds.ps Rattle.lines.proofs.put_decimal.Kinds.r Rattle.lines.proofs.put_decimal.Reads.Post (λ κs s. s.0.now)
lines-put-decimal κs a x y s t p q = written_once _ _ _ _ _ _ _ p.0 q.0

pub lines-put-line : Lent Rattle.lines.proofs.put_line.Kinds.ps Rattle.lines.proofs.put_line.Kinds.r Rattle.lines.proofs.put_line.Reads.Post (λ κs s. s.0.now)
lines-put-line κs a x y s t p q = written_once _ _ _ _ _ _ _ p q

-- ---- trip

pub round-trips-rewrite-config : Lent Rattle.round_trips.proofs.rewrite_config.Kinds.ps Rattle.round_trips.proofs.rewrite_config.Kinds.r Rattle.round_trips.proofs.rewrite_config.Reads.Post (λ κs s. s.1.0.now)
round-trips-rewrite-config κs a x y s t p q = (same p.0 q.0, same p.1 q.1)

pub round-trips-write-and-read : Lent Rattle.round_trips.proofs.write_and_read.Kinds.ps Rattle.round_trips.proofs.write_and_read.Kinds.r Rattle.round_trips.proofs.write_and_read.Reads.Post (λ κs s. s.0.now)
round-trips-write-and-read κs a x y s t p q = (same p.0 q.0, same p.1 q.1)

-- ---- gate

pub refusals-row-of : One Rattle.refusals.proofs.row_of.Kinds.ps Rattle.refusals.proofs.row_of.Kinds.r Rattle.refusals.proofs.row_of.Reads.Post
refusals-row-of κs a x y s t = same

pub refusals-formed : One Rattle.refusals.proofs.formed.Kinds.ps Rattle.refusals.proofs.formed.Kinds.r Rattle.refusals.proofs.formed.Reads.Post
refusals-formed κs a x y s t = same

pub refusals-waiting-lets : One Rattle.refusals.proofs.waiting_lets.Kinds.ps Rattle.refusals.proofs.waiting_lets.Kinds.r Rattle.refusals.proofs.waiting_lets.Reads.Post
refusals-waiting-lets κs a x y s t = same

pub refusals-instance-refusal : One Rattle.refusals.proofs.instance_refusal.Kinds.ps Rattle.refusals.proofs.instance_refusal.Kinds.r Rattle.refusals.proofs.instance_refusal.Reads.Post
refusals-instance-refusal κs a x y s t = same

pub refusals-scheduler-refusal : One Rattle.refusals.proofs.scheduler_refusal.Kinds.ps Rattle.refusals.proofs.scheduler_refusal.Kinds.r Rattle.refusals.proofs.scheduler_refusal.Reads.Post
refusals-scheduler-refusal κs a x y s t = same

-- ---- sound

pub sound-is-sound : One Rattle.sound.proofs.is_sound.Kinds.ps Rattle.sound.proofs.is_sound.Kinds.r Rattle.sound.proofs.is_sound.Reads.Post
sound-is-sound κs a x y s t = same

-- ---- shared_steps

pub shared-steps-refuse : One Rattle.shared_steps.proofs.refuse.Kinds.ps Rattle.shared_steps.proofs.refuse.Kinds.r Rattle.shared_steps.proofs.refuse.Reads.Post
shared-steps-refuse κs a x y s t = same

pub shared-steps-take : One Rattle.shared_steps.proofs.take.Kinds.ps Rattle.shared_steps.proofs.take.Kinds.r Rattle.shared_steps.proofs.take.Reads.Post
shared-steps-take κs a x y s t = same

pub shared-steps-awaiting : One Rattle.shared_steps.proofs.awaiting.Kinds.ps Rattle.shared_steps.proofs.awaiting.Kinds.r Rattle.shared_steps.proofs.awaiting.Reads.Post
shared-steps-awaiting κs a x y s t = same

pub shared-steps-awaited : One Rattle.shared_steps.proofs.awaited.Kinds.ps Rattle.shared_steps.proofs.awaited.Kinds.r Rattle.shared_steps.proofs.awaited.Reads.Post
shared-steps-awaited κs a x y s t = same

pub shared-steps-gone-on : One Rattle.shared_steps.proofs.gone_on.Kinds.ps Rattle.shared_steps.proofs.gone_on.Kinds.r Rattle.shared_steps.proofs.gone_on.Reads.Post
shared-steps-gone-on κs a x y s t = same

pub shared-steps-within : One Rattle.shared_steps.proofs.within.Kinds.ps Rattle.shared_steps.proofs.within.Kinds.r Rattle.shared_steps.proofs.within.Reads.Post
shared-steps-within κs a x y s t p q = same p.1 q.1

pub shared-steps-woken : One Rattle.shared_steps.proofs.woken.Kinds.ps Rattle.shared_steps.proofs.woken.Kinds.r Rattle.shared_steps.proofs.woken.Reads.Post
shared-steps-woken κs a x y s t = same

pub shared-steps-woken-if : One Rattle.shared_steps.proofs.woken_if.Kinds.ps Rattle.shared_steps.proofs.woken_if.Kinds.r Rattle.shared_steps.proofs.woken_if.Reads.Post
shared-steps-woken-if κs a x y s t = same

-- ---- feeding

pub feeding-linked : One Rattle.feeding.proofs.linked.Kinds.ps Rattle.feeding.proofs.linked.Kinds.r Rattle.feeding.proofs.linked.Reads.Post
feeding-linked κs a x y s t = same

pub feeding-fed-elements : One Rattle.feeding.proofs.fed_elements.Kinds.ps Rattle.feeding.proofs.fed_elements.Kinds.r Rattle.feeding.proofs.fed_elements.Reads.Post
feeding-fed-elements κs a x y s t = same

pub feeding-Rooms-of : One Rattle.feeding.proofs.Rooms.of.Kinds.ps Rattle.feeding.proofs.Rooms.of.Kinds.r Rattle.feeding.proofs.Rooms.of.Reads.Post
feeding-Rooms-of κs a x y s t = same

pub feeding-Rooms-get : One Rattle.feeding.proofs.Rooms.get.Kinds.ps Rattle.feeding.proofs.Rooms.get.Kinds.r Rattle.feeding.proofs.Rooms.get.Reads.Post
feeding-Rooms-get κs a x y s t = same

pub feeding-is-fed : One Rattle.feeding.proofs.is_fed.Kinds.ps Rattle.feeding.proofs.is_fed.Kinds.r Rattle.feeding.proofs.is_fed.Reads.Post
feeding-is-fed κs a x y s t = same

pub feeding-fed-runnables : One Rattle.feeding.proofs.fed_runnables.Kinds.ps Rattle.feeding.proofs.fed_runnables.Kinds.r Rattle.feeding.proofs.fed_runnables.Reads.Post
feeding-fed-runnables κs a x y s t = same

-- ---- copies

pub copies-lists-some : One Rattle.copies.proofs.lists_some.Kinds.ps Rattle.copies.proofs.lists_some.Kinds.r Rattle.copies.proofs.lists_some.Reads.Post
copies-lists-some κs a x y s t = same

pub copies-handed-on : One Rattle.copies.proofs.handed_on.Kinds.ps Rattle.copies.proofs.handed_on.Kinds.r Rattle.copies.proofs.handed_on.Reads.Post
copies-handed-on κs a x y s t = same

pub copies-uncopied : One Rattle.copies.proofs.uncopied.Kinds.ps Rattle.copies.proofs.uncopied.Kinds.r Rattle.copies.proofs.uncopied.Reads.Post
copies-uncopied κs a x y s t = same

pub copies-copied-to : One Rattle.copies.proofs.copied_to.Kinds.ps Rattle.copies.proofs.copied_to.Kinds.r Rattle.copies.proofs.copied_to.Reads.Post
copies-copied-to κs a x y s t = same

pub copies-read-copy : One Rattle.copies.proofs.read_copy.Kinds.ps Rattle.copies.proofs.read_copy.Kinds.r Rattle.copies.proofs.read_copy.Reads.Post
copies-read-copy κs a x y s t = same

pub copies-write-copy : One Rattle.copies.proofs.write_copy.Kinds.ps Rattle.copies.proofs.write_copy.Kinds.r Rattle.copies.proofs.write_copy.Reads.Post
copies-write-copy κs a x y s t = same

-- ---- data_steps

pub data-steps-read-variable : One Rattle.data_steps.proofs.read_variable.Kinds.ps Rattle.data_steps.proofs.read_variable.Kinds.r Rattle.data_steps.proofs.read_variable.Reads.Post
data-steps-read-variable κs a x y s t = same

pub data-steps-write-variable : One Rattle.data_steps.proofs.write_variable.Kinds.ps Rattle.data_steps.proofs.write_variable.Kinds.r Rattle.data_steps.proofs.write_variable.Reads.Post
data-steps-write-variable κs a x y s t = same

pub data-steps-enter : One Rattle.data_steps.proofs.enter.Kinds.ps Rattle.data_steps.proofs.enter.Kinds.r Rattle.data_steps.proofs.enter.Reads.Post
data-steps-enter κs a x y s t = same

pub data-steps-exit : One Rattle.data_steps.proofs.exit.Kinds.ps Rattle.data_steps.proofs.exit.Kinds.r Rattle.data_steps.proofs.exit.Reads.Post
data-steps-exit κs a x y s t = same

pub data-steps-read : One Rattle.data_steps.proofs.read.Kinds.ps Rattle.data_steps.proofs.read.Kinds.r Rattle.data_steps.proofs.read.Reads.Post
data-steps-read κs a x y s t = same

pub data-steps-updated : One Rattle.data_steps.proofs.updated.Kinds.ps Rattle.data_steps.proofs.updated.Kinds.r Rattle.data_steps.proofs.updated.Reads.Post
data-steps-updated κs a x y s t = same

pub data-steps-write : One Rattle.data_steps.proofs.write.Kinds.ps Rattle.data_steps.proofs.write.Kinds.r Rattle.data_steps.proofs.write.Reads.Post
data-steps-write κs a x y s t = same

pub data-steps-invalidate : One Rattle.data_steps.proofs.invalidate.Kinds.ps Rattle.data_steps.proofs.invalidate.Kinds.r Rattle.data_steps.proofs.invalidate.Reads.Post
data-steps-invalidate κs a x y s t = same

pub data-steps-send : One Rattle.data_steps.proofs.send.Kinds.ps Rattle.data_steps.proofs.send.Kinds.r Rattle.data_steps.proofs.send.Reads.Post
data-steps-send κs a x y s t = same

pub data-steps-hold : One Rattle.data_steps.proofs.hold.Kinds.ps Rattle.data_steps.proofs.hold.Kinds.r Rattle.data_steps.proofs.hold.Reads.Post
data-steps-hold κs a x y s t = same

pub data-steps-give-up : One Rattle.data_steps.proofs.give_up.Kinds.ps Rattle.data_steps.proofs.give_up.Kinds.r Rattle.data_steps.proofs.give_up.Reads.Post
data-steps-give-up κs a x y s t = same

pub data-steps-receive : One Rattle.data_steps.proofs.receive.Kinds.ps Rattle.data_steps.proofs.receive.Kinds.r Rattle.data_steps.proofs.receive.Reads.Post
data-steps-receive κs a x y s t = same

-- ---- call_steps

pub call-steps-call : One Rattle.call_steps.proofs.call.Kinds.ps Rattle.call_steps.proofs.call.Kinds.r Rattle.call_steps.proofs.call.Reads.Post
call-steps-call κs a x y s t = same

pub call-steps-result : One Rattle.call_steps.proofs.result.Kinds.ps Rattle.call_steps.proofs.result.Kinds.r Rattle.call_steps.proofs.result.Reads.Post
call-steps-result κs a x y s t = same

-- ---- end_steps

pub end-steps-hand-back : One Rattle.end_steps.proofs.hand_back.Kinds.ps Rattle.end_steps.proofs.hand_back.Kinds.r Rattle.end_steps.proofs.hand_back.Reads.Post
end-steps-hand-back κs a x y s t = same

pub end-steps-timeout : One Rattle.end_steps.proofs.timeout.Kinds.ps Rattle.end_steps.proofs.timeout.Kinds.r Rattle.end_steps.proofs.timeout.Reads.Post
end-steps-timeout κs a x y s t = same

pub end-steps-end : One Rattle.end_steps.proofs.end.Kinds.ps Rattle.end_steps.proofs.end.Kinds.r Rattle.end_steps.proofs.end.Reads.Post
end-steps-end κs a x y s t = same

pub end-steps-fail : One Rattle.end_steps.proofs.fail.Kinds.ps Rattle.end_steps.proofs.fail.Kinds.r Rattle.end_steps.proofs.fail.Reads.Post
end-steps-fail κs a x y s t = same

-- ---- time_steps

pub time-steps-spawn : One Rattle.time_steps.proofs.spawn.Kinds.ps Rattle.time_steps.proofs.spawn.Kinds.r Rattle.time_steps.proofs.spawn.Reads.Post
time-steps-spawn κs a x y s t = same

pub time-steps-tick : One Rattle.time_steps.proofs.tick.Kinds.ps Rattle.time_steps.proofs.tick.Kinds.r Rattle.time_steps.proofs.tick.Reads.Post
time-steps-tick κs a x y s t = same

pub time-steps-wait : One Rattle.time_steps.proofs.wait.Kinds.ps Rattle.time_steps.proofs.wait.Kinds.r Rattle.time_steps.proofs.wait.Reads.Post
time-steps-wait κs a x y s t = same

-- ---- machine

pub machine-possible : One Rattle.machine.proofs.possible.Kinds.ps Rattle.machine.proofs.possible.Kinds.r Rattle.machine.proofs.possible.Reads.Post
machine-possible κs a x y s t = same

pub machine-agrees : One Rattle.machine.proofs.agrees.Kinds.ps Rattle.machine.proofs.agrees.Kinds.r Rattle.machine.proofs.agrees.Reads.Post
machine-agrees κs a x y s t = same

pub machine-inner : One Rattle.machine.proofs.inner.Kinds.ps Rattle.machine.proofs.inner.Kinds.r Rattle.machine.proofs.inner.Reads.Post
machine-inner κs a x y s t = same

pub machine-step : One Rattle.machine.proofs.step.Kinds.ps Rattle.machine.proofs.step.Kinds.r Rattle.machine.proofs.step.Reads.Post
machine-step κs a x y s t = same

-- ---- judging

pub judging-judge : One Rattle.judging.proofs.judge.Kinds.ps Rattle.judging.proofs.judge.Kinds.r Rattle.judging.proofs.judge.Reads.Post
judging-judge κs a x y s t = same

pub judging-line-of : One Rattle.judging.proofs.line_of.Kinds.ps Rattle.judging.proofs.line_of.Kinds.r Rattle.judging.proofs.line_of.Reads.Post
judging-line-of κs a x y s t = same

-- ---- printing

pub printing-put-printed : Lent Rattle.printing.proofs.put_printed.Kinds.ps Rattle.printing.proofs.put_printed.Kinds.r Rattle.printing.proofs.put_printed.Reads.Post (λ κs s. s.0.now)
printing-put-printed κs a x y s t p q = written_once _ _ _ _ _ _ _ p q

-- ---- searching

pub searching-choices-of : One Rattle.searching.proofs.choices_of.Kinds.ps Rattle.searching.proofs.choices_of.Kinds.r Rattle.searching.proofs.choices_of.Reads.Post
searching-choices-of κs a x y s t = same

pub searching-count-of : One Rattle.searching.proofs.count_of.Kinds.ps Rattle.searching.proofs.count_of.Kinds.r Rattle.searching.proofs.count_of.Reads.Post
searching-count-of κs a x y s t p q = same p.is q.is

pub searching-choice-at : One Rattle.searching.proofs.choice_at.Kinds.ps Rattle.searching.proofs.choice_at.Kinds.r Rattle.searching.proofs.choice_at.Reads.Post
searching-choice-at κs a x y s t = same

pub searching-claiming : One Rattle.searching.proofs.claiming.Kinds.ps Rattle.searching.proofs.claiming.Kinds.r Rattle.searching.proofs.claiming.Reads.Post
searching-claiming κs a x y s t = same

pub searching-rank : One Rattle.searching.proofs.rank.Kinds.ps Rattle.searching.proofs.rank.Kinds.r Rattle.searching.proofs.rank.Reads.Post
searching-rank κs a x y s t p q = same p.0 q.0

-- ---- mending

pub mending-mend : Lent Rattle.mending.proofs.mend.Kinds.ps Rattle.mending.proofs.mend.Kinds.r Rattle.mending.proofs.mend.Reads.Post (λ κs s. s.1.1.1.0.now ++ s.1.1.1.1.0.now)
mending-mend κs a x y s t p q = (same p.0 q.0, ap₂ ◌++◌ (same p.1.0 q.1.0) (same p.1.1 q.1.1))

-- ---- mender

pub mender-mend-files : Lent Rattle.mender.proofs.mend_files.Kinds.ps Rattle.mender.proofs.mend_files.Kinds.r Rattle.mender.proofs.mend_files.Reads.Post (λ κs s. s.1.1.0.now ++ s.1.1.1.0.now)
mender-mend-files κs a x y s t p q = (same p.0 q.0, ap₂ ◌++◌ (same p.1.0 q.1.0) (same p.1.1 q.1.1))

pub mender-put-note : Lent Rattle.mender.proofs.put_note.Kinds.ps Rattle.mender.proofs.put_note.Kinds.r Rattle.mender.proofs.put_note.Reads.Post (λ κs s. s.0.now)
mender-put-note κs a x y s t p q = written_once _ _ _ _ _ _ _ p q

pub mender-put-told : Lent Rattle.mender.proofs.put_told.Kinds.ps Rattle.mender.proofs.put_told.Kinds.r Rattle.mender.proofs.put_told.Reads.Post (λ κs s. s.0.now)
mender-put-told κs a x y s t p q = written_once _ _ _ _ _ _ _ p q

pub mender-size-of : One Rattle.mender.proofs.size_of.Kinds.ps Rattle.mender.proofs.size_of.Kinds.r Rattle.mender.proofs.size_of.Reads.Post
mender-size-of κs a x y s t p q = same p.0 q.0

-- ---- posting

pub posting-Board-none : One Rattle.posting.proofs.Board.none.Kinds.ps Rattle.posting.proofs.Board.none.Kinds.r Rattle.posting.proofs.Board.none.Reads.Post
posting-Board-none κs a x y s t = same

pub posting-Board-rows : One Rattle.posting.proofs.Board.rows.Kinds.ps Rattle.posting.proofs.Board.rows.Kinds.r Rattle.posting.proofs.Board.rows.Reads.Post
posting-Board-rows κs a x y s t = same

pub posting-Board-row : One Rattle.posting.proofs.Board.row.Kinds.ps Rattle.posting.proofs.Board.row.Kinds.r Rattle.posting.proofs.Board.row.Reads.Post
posting-Board-row κs a x y s t = same

pub posting-Board-post : One Rattle.posting.proofs.Board.post.Kinds.ps Rattle.posting.proofs.Board.post.Kinds.r Rattle.posting.proofs.Board.post.Reads.Post
posting-Board-post κs a x y s t = same

pub posting-leaves : One Rattle.posting.proofs.leaves.Kinds.ps Rattle.posting.proofs.leaves.Kinds.r Rattle.posting.proofs.leaves.Reads.Post
posting-leaves κs a x y s t = same

pub posting-operation-shown : One Rattle.posting.proofs.operation_shown.Kinds.ps Rattle.posting.proofs.operation_shown.Kinds.r Rattle.posting.proofs.operation_shown.Reads.Post
posting-operation-shown κs a x y s t = same

-- ---- showing

pub showing-show : One Rattle.showing.proofs.show.Kinds.ps Rattle.showing.proofs.show.Kinds.r Rattle.showing.proofs.show.Reads.Post
showing-show κs a x y s t = same

pub showing-show-files : One Rattle.showing.proofs.show_files.Kinds.ps Rattle.showing.proofs.show_files.Kinds.r Rattle.showing.proofs.show_files.Reads.Post
showing-show-files κs a x y s t = same

pub board-lines-put-shown : Lent Rattle.board_lines.proofs.put_shown.Kinds.ps Rattle.board_lines.proofs.put_shown.Kinds.r Rattle.board_lines.proofs.put_shown.Reads.Post (λ κs s. s.0.now)
board-lines-put-shown κs a x y s t p q = written_once _ _ _ _ _ _ _ p.0 q.0

pub board-lines-put-told : Lent Rattle.board_lines.proofs.put_told.Kinds.ps Rattle.board_lines.proofs.put_told.Kinds.r Rattle.board_lines.proofs.put_told.Reads.Post (λ κs s. s.0.now)
board-lines-put-told κs a x y s t p q = written_once _ _ _ _ _ _ _ p q

pub board-lines-put-history : Lent Rattle.board_lines.proofs.put_history.Kinds.ps Rattle.board_lines.proofs.put_history.Kinds.r Rattle.board_lines.proofs.put_history.Reads.Post (λ κs s. s.0.now)
board-lines-put-history κs a x y s t p q = written_once _ _ _ _ _ _ _ p q

-- ---- merging

pub merging-merge : Lent Rattle.merging.proofs.merge.Kinds.ps Rattle.merging.proofs.merge.Kinds.r Rattle.merging.proofs.merge.Reads.Post (λ κs s. s.1.0.now)
merging-merge κs a x y s t p q = (same p.0 q.0, same p.1 q.1)

-- ---- passing

pub passing-passes : One Rattle.passing.proofs.passes.Kinds.ps Rattle.passing.proofs.passes.Kinds.r Rattle.passing.proofs.passes.Reads.Post
passing-passes κs a x y s t = same

pub passing-operation-stop : One Rattle.passing.proofs.operation_stop.Kinds.ps Rattle.passing.proofs.operation_stop.Kinds.r Rattle.passing.proofs.operation_stop.Reads.Post
passing-operation-stop κs a x y s t = same

pub passing-slot-stop : One Rattle.passing.proofs.slot_stop.Kinds.ps Rattle.passing.proofs.slot_stop.Kinds.r Rattle.passing.proofs.slot_stop.Reads.Post
passing-slot-stop κs a x y s t = same

pub passing-timer-stop : One Rattle.passing.proofs.timer_stop.Kinds.ps Rattle.passing.proofs.timer_stop.Kinds.r Rattle.passing.proofs.timer_stop.Reads.Post
passing-timer-stop κs a x y s t = same

-- ---- whys

pub whys-why : One Rattle.whys.proofs.why.Kinds.ps Rattle.whys.proofs.why.Kinds.r Rattle.whys.proofs.why.Reads.Post
whys-why κs a x y s t = same

-- ---- causes

pub causes-cause-of : One Rattle.causes.proofs.cause_of.Kinds.ps Rattle.causes.proofs.cause_of.Kinds.r Rattle.causes.proofs.cause_of.Reads.Post
causes-cause-of κs a x y s t = same

pub causes-allowed : One Rattle.causes.proofs.allowed.Kinds.ps Rattle.causes.proofs.allowed.Kinds.r Rattle.causes.proofs.allowed.Reads.Post
causes-allowed κs a x y s t = same

-- ---- forms

pub forms-has-short : One Rattle.forms.proofs.has_short.Kinds.ps Rattle.forms.proofs.has_short.Kinds.r Rattle.forms.proofs.has_short.Reads.Post
forms-has-short κs a x y s t = same

pub forms-read-short : One Rattle.forms.proofs.read_short.Kinds.ps Rattle.forms.proofs.read_short.Kinds.r Rattle.forms.proofs.read_short.Reads.Post
forms-read-short κs a x y s t = same

pub forms-is-short : One Rattle.forms.proofs.is_short.Kinds.ps Rattle.forms.proofs.is_short.Kinds.r Rattle.forms.proofs.is_short.Reads.Post
forms-is-short κs a x y s t = same

pub forms-is-headed : One Rattle.forms.proofs.is_headed.Kinds.ps Rattle.forms.proofs.is_headed.Kinds.r Rattle.forms.proofs.is_headed.Reads.Post
forms-is-headed κs a x y s t = same

pub forms-short-size : One Rattle.forms.proofs.short_size.Kinds.ps Rattle.forms.proofs.short_size.Kinds.r Rattle.forms.proofs.short_size.Reads.Post
forms-short-size κs a x y s t = same

pub forms-write-header : Lent Rattle.forms.proofs.write_header.Kinds.ps Rattle.forms.proofs.write_header.Kinds.r Rattle.forms.proofs.write_header.Reads.Post (λ κs s. s.0.now)
forms-write-header κs a x y s t p q = written_once _ _ _ _ _ _ _ p q

pub forms-write-short : Lent Rattle.forms.proofs.write_short.Kinds.ps Rattle.forms.proofs.write_short.Kinds.r Rattle.forms.proofs.write_short.Reads.Post (λ κs s. s.0.now)
forms-write-short κs a x y s t p q = (same p.0 q.0, same p.1 q.1)

-- ---- moving

pub moving-shorten : Lent Rattle.moving.proofs.shorten.Kinds.ps Rattle.moving.proofs.shorten.Kinds.r Rattle.moving.proofs.shorten.Reads.Post (λ κs s. s.1.0.now)
moving-shorten κs a x y s t p q = (same p.0 q.0, same p.1 q.1)

pub moving-lengthen : Lent Rattle.moving.proofs.lengthen.Kinds.ps Rattle.moving.proofs.lengthen.Kinds.r Rattle.moving.proofs.lengthen.Reads.Post (λ κs s. s.1.0.now)
moving-lengthen κs a x y s t p q = (same p.0 q.0, same p.1 q.1)

pub moving-stretch : Lent Rattle.moving.proofs.stretch.Kinds.ps Rattle.moving.proofs.stretch.Kinds.r Rattle.moving.proofs.stretch.Reads.Post (λ κs s. s.1.0.now)
moving-stretch κs a x y s t p q = (same p.0 q.0, same p.1 q.1)
