-- What reading a field and writing a step answer, by document 01's numbers: 18 and nothing else for a field, 18 and then 27 for a step.
-- Assumes nothing.
use Prim.Native.Nat.{ℕ, ◌+◌, ◌≤◌, ◌<◌}
use mathlib.Core.Bool.{true, false}
use mathlib.Core.List.{List}
use mathlib.Core.Path.{◌≡◌, refl, ap, ◌∙◌}
use lib.ListN.{length}
use borrow.Author.Tests.{le-leb, lt-leb}
use Rattle.numbers.specs.Tags.{step_size}
use Rattle.values.specs.declared.Step.{Step}
use Rattle.wire.specs.Bytes.{wrote_refusal, wrote_length, put_at}
use Rattle.recording.specs.Recording.{field_refusal, values_good, field_of, bytes_of, step_to, step_written}
use Rattle.recording.specs.declared.Field.{Field}
use Rattle.recording.specs.declared.Field.TheVariants.{Step as IsStep, End, Refused}
use Rattle.recording.proofs.OneField.{refused-18}

-- a field that is refused at all is refused with 18
pub field-number : (t : List ℕ) → (field_refusal (field_of t) ≡ 0 → ⊥) → field_refusal (field_of t) ≡ 18
field-number t n = go (field_of t) refl
  where
    go : (f : Field) → field_of t ≡ f → field_refusal (field_of t) ≡ 18
    go (IsStep s k) e = absurd (n (ap field_refusal e))
    go End e = absurd (n (ap field_refusal e))
    go (Refused p r) e = ap field_refusal e ∙ (refused-18 t r p e).0

module _ (b : List ℕ) (at : ℕ) (s : Step) where
  pub bad-refused : values_good s ≡ false → (wrote_refusal (step_to b at s) ≡ 18) × (step_written b at s ≡ b)
  bad-refused g = (rw g, rw g)

  pub step-short : values_good s ≡ true → length b < at + step_size → (wrote_refusal (step_to b at s) ≡ 27) × (step_written b at s ≡ b)
  step-short g h = let t = lt-leb (at + step_size) (length b) h in (rw (g, t), rw (g, t))

  pub step-written : values_good s ≡ true → at + step_size ≤ length b
      → (wrote_refusal (step_to b at s) ≡ 0) × (wrote_length (step_to b at s) ≡ at + step_size) × (step_written b at s ≡ put_at b at (bytes_of s))
  step-written g h = let t = le-leb (at + step_size) (length b) h in (rw (g, t), rw (g, t), rw (g, t))
