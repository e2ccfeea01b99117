-- How much room mending may need: at most four steps and four notes for each recorded step.
-- Assumes nothing.
use Prim.Native.Nat.{ℕ, ◌+◌, ◌*◌, ◌≤◌, ◌<◌}
use mathlib.Core.Bool.{Bool, true, false}
use mathlib.Core.List.{List, [], ◌∷◌}
use mathlib.Core.Logic.{⊎_elim}
use mathlib.Core.Path.{◌≡◌, ap, subst}
use native.Mathlib.Omega.{arith}
use lib.Dec.{eqb}
use lib.ListN.{length, length-append}
use Rattle.numbers.specs.Tags.{step_size, end_size}
use Rattle.laws.specs.Choice.{pick}
use Rattle.laws.proofs.Choosing.{clash}
use Rattle.faces.specs.Types.{Step, Config, State, Stepped}
use Rattle.effects.specs.Step.{step_of}
use Rattle.recording.specs.Whole.{Whole as Texted, steps_in, is_end, is_sound}
use Rattle.recording.proofs.OneField.{end-bytes}
use Rattle.recording.proofs.Texts.{by-fields, step-shorter, whole-step, whole-end, whole-refused}
use Rattle.gaps.specs.declared.Mended.TheVariants.{Refused}
use Rattle.gaps.specs.Gaps.{Turn, turn_of, turn_steps, turns_of, mended_steps}
use Rattle.gaps.specs.Report.{note_count, mend_to, note_size}
use Rattle.mended.specs.Claims.{turns_in, mended, Outcome, unsound, unfilled, unread, short, whole, FourTimesSuffice}
use Rattle.mended.proofs.Walks.{turns-each}
use Rattle.mended.proofs.Answers.{answer-by-cases}
use Rattle.mended.proofs.Faithful.{turn-few}

-- ---- for each recorded step

turn-notes : (t : Turn) → length t.inserted ≤ 3 → pick (eqb t.passed 0) 0 (length t.inserted + 1) ≤ 4
turn-notes t l = go (eqb t.passed 0)
  where
    go : (b : Bool) → pick b 0 (length t.inserted + 1) ≤ 4
    go true = omega arith
    go false = omega arith

module _ (f : State → Step → Stepped) (cfg : Config) where
  pub turns-room : (st : State) (rs : List Step) → (length (mended_steps (turns_of f cfg st rs)) ≤ 4 * length rs) × (note_count (turns_of f cfg st rs) ≤ 4 * length rs)
  unfolding mended_steps note_count
  turns-room =
      turns-each f cfg (λ st rs ts. (length (mended_steps ts) ≤ 4 * length rs) × (note_count ts ≤ 4 * length rs))
      (record {
        ended = λ st. (omega arith, omega arith);
        stuck = λ st s rs h. (omega arith, omega arith);
        went = λ st s rs ts h rest. let t = turn_of f cfg st s in
            let few = (turn-few f cfg st s h).0 in
            let a = rest.0 in
            let b = rest.1 in
            (omega (arith, length-append (turn_steps t) (mended_steps ts), length-append t.inserted (s ∷ [])), omega (arith, turn-notes t few));
      })

-- ---- for the bytes

-- a recording has sixteen bytes for each step, and three for its end
sound-length : (t : List ℕ) → is_sound t ≡ true → length (steps_in t) * step_size + end_size ≡ length t
sound-length =
    by-fields (λ t. is_sound t ≡ true → length (steps_in t) * step_size + end_size ≡ length t)
    (λ t s n e rest h. let w = whole-step t s n e in
    let r = rest (subst (λ (x : Texted). is_end x.last ≡ true) w h) in
    omega (arith, step-shorter t s n e, ap (λ (x : Texted). length x.steps) w))
    (λ t e h. omega (arith, ap length (end-bytes t e), ap (λ (x : Texted). length x.steps) (whole-end t e)))
    (λ t r p e h. absurd (clash (is_sound t) h (ap (λ (x : Texted). is_end x.last) (whole-refused t r p e))))

pub four-times-suffice : FourTimesSuffice
four-times-suffice cfg st t b p = (room.0, room.1, λ l m place h. go l m place h (answer-by-cases cfg st t b p))
  where
    room : (length (mended cfg st t) ≤ 4 * length (steps_in t)) × (note_count (turns_in cfg st t) ≤ 4 * length (steps_in t))
    room = turns-room (step_of cfg) cfg st (steps_in t)

    go : 4 * length t ≤ length b → 4 * length t ≤ length p → (place : ℕ) → mend_to cfg st t b p ≡ Refused place 27 → Outcome cfg st t b p (mend_to cfg st t b p) → ⊥
    go l m place h (unsound a e) = let z : ◌≡◌ {A = ℕ} 1 27 = cc in omega arith
    go l m place h (unfilled q a u e) = let z : ◌≡◌ {A = ℕ} 31 27 = cc in omega arith
    go l m place h (unread a k s e) = let z : ◌≡◌ {A = ℕ} 18 27 = cc in omega arith
    go l m place h (short a k s o e) =
        let g = sound-length t s in
        let x = room.0 in
        let y = room.1 in
        ⊎_elim (λ (i : length b < length (mended cfg st t) * step_size + end_size). omega arith) (λ (i : length p < note_count (turns_in cfg st t) * note_size). omega arith) o
    go l m place h (whole a k s i j e) = let z : ◌≡◌ {A = ℕ} 0 1 = cc in omega arith
