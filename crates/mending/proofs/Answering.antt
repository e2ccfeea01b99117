-- What mending answers and leaves, outcome by outcome.
-- Assumes nothing.
use Prim.Native.Nat.{ℕ, suc, ◌+◌, ◌*◌, ◌≤◌}
use mathlib.Core.Bool.{Bool, true, false}
use mathlib.Core.List.{List, [], ◌∷◌, map}
use mathlib.Core.Path.{◌≡◌, refl, sym, ap, ap₂, ◌∙◌}
use native.Mathlib.Omega.{arith}
use lib.Dec.{leb, eqb}
use lib.ListN.{length}
use borrow.Author.Tests.{eqb-true, leb-true}
use Rattle.numbers.specs.Tags.{step_size, end_size}
use Rattle.laws.specs.Choice.{pick, both}
use Rattle.laws.proofs.Choosing.{both_left, both_right}
use Rattle.faces.specs.Types.{Step, Config, State}
use Rattle.rules.specs.Sound.{sound_of}
use Rattle.effects.specs.Step.{inner_of, step_of}
use Rattle.wire.specs.Bytes.{put_at, wrote_bytes}
use Rattle.wire.proofs.Laws.{Bytes}
use Rattle.recording.specs.declared.Field.{Field}
use Rattle.recording.specs.declared.Field.TheVariants.{Step as IsStep, End, Refused as NoField}
use Rattle.recording.specs.Whole.{whole_of, steps_in, is_end, is_sound, text_of, rewrite_written}
use Rattle.recording.proofs.Texts.{text-again}
use Rattle.gaps.specs.declared.Mended.{Mended}
use Rattle.gaps.specs.declared.Mended.TheVariants.{Whole, Refused}
use Rattle.gaps.specs.Gaps.{rank_of, can_fill, state_after, Turn, turn_of, turn_steps, turns_of, mended_steps}
use Rattle.gaps.specs.Report.{on_mended, report_from, note_count, on_last, survey_of, fitted, mend_to, mend_written, mend_reported, note_size}
use Rattle.gaps.proofs.Same.{turns-once, survey-once}
use Rattle.gaps.proofs.Reported.{text-length}
use Rattle.gaps.proofs.Turns.{bare, turn-bare, bare-mended, bare-report}
use Rattle.mending.proofs.Putting.{put-none, wrote-fits}
use Rattle.mending.proofs.Writing.{refuses, survey-counts}

-- ---- refused

module _ (b p : List ℕ) {r s : Mended} {x y : ℕ} (is : r ≡ s) (told : r ≡ Refused x y) where
  pub refused-fitted : r ≡ fitted b p s
  refused-fitted = told ∙ sym (ap (fitted b p) (sym is ∙ told))

pub refused-leaves : {r : Mended} {x y : ℕ} (a b : List ℕ) → r ≡ Refused x y → b ≡ on_mended r a b
refused-leaves a b told = rw told

-- ---- mended

module _ (b p : List ℕ) {s : Mended} {n m : ℕ} (told : s ≡ Whole n m) where
  pub fitted-whole : both (leb (n * step_size + end_size) (length b)) (leb (m * note_size) (length p)) ≡ true → Whole n m ≡ fitted b p s
  fitted-whole h = sym (ap (fitted b p) told ∙ ap (λ (x : Bool). pick x (Whole n m) (Refused 0 27)) h)

  pub fitted_short : both (leb (n * step_size + end_size) (length b)) (leb (m * note_size) (length p)) ≡ false → Refused 0 27 ≡ fitted b p s
  fitted_short h = sym (ap (fitted b p) told ∙ ap (λ (x : Bool). pick x (Whole n m) (Refused 0 27)) h)

pub room-told : (n m b p : ℕ) → both (leb (n * step_size + end_size) b) (leb (m * note_size) p) ≡ true → (n * step_size + end_size ≤ b) × (m * note_size ≤ p)
room-told n m b p h =
    (leb-true (n * step_size + end_size) b (both_left (leb (n * step_size + end_size) b) (leb (m * note_size) p) h), leb-true (m * note_size) p (both_right (leb (n * step_size + end_size) b) (leb (m * note_size) p) h))

-- ---- nothing was lost

module _ (cfg : Config) where
  -- turns without a note are the steps themselves
  quiet-turns : (st : State) (rs : List Step) → length (turns_of (inner_of cfg) cfg st rs) ≡ length rs → note_count (turns_of (inner_of cfg) cfg st rs) ≡ 0 → turns_of (inner_of cfg) cfg st rs ≡ map bare rs
  unfolding turns_of note_count
  quiet-turns st [] l c = refl
  quiet-turns st (s ∷ rs) l c = go (can_fill (inner_of cfg) cfg st s) (eqb (rank_of (inner_of cfg) cfg st s) 0) refl l c (quiet-turns (state_after (inner_of cfg) st (turn_steps (turn_of (inner_of cfg) cfg st s))) rs)
    where
      next : List Turn
      next = turns_of (inner_of cfg) cfg (state_after (inner_of cfg) st (turn_steps (turn_of (inner_of cfg) cfg st s))) rs

      all : Bool → List Turn
      all b = pick b (turn_of (inner_of cfg) cfg st s ∷ next) []

      go : (b z : Bool) → eqb (rank_of (inner_of cfg) cfg st s) 0 ≡ z → length (all b) ≡ suc (length rs) → note_count (all b) ≡ 0 → (length next ≡ length rs → note_count next ≡ 0 → next ≡ map bare rs) → all b ≡ bare s ∷ map bare rs
      go true true e l c rest =
          let n : note_count next ≡ 0 = let q : pick true 0 (length (turn_of (inner_of cfg) cfg st s).inserted + 1) + note_count next ≡ 0 = rw e at c in omega arith in
          ap₂ (λ (t : Turn) (l : List Turn). t ∷ l) (turn-bare (inner_of cfg) cfg st s (eqb-true _ _ e)) (rest (omega arith) n)
      go true false e l c rest = absurd (let q : pick false 0 (length (turn_of (inner_of cfg) cfg st s).inserted + 1) + note_count next ≡ 0 = rw e at c in omega arith)
      go false z e l c rest = absurd (omega arith)

-- what a survey without a refusal tells of the text
survey-told : (cfg : Config) (st : State) (t : List ℕ) (n m : ℕ) → survey_of (inner_of cfg) cfg st t ≡ Whole n m
    → (length (turns_of (inner_of cfg) cfg st (steps_in t)) ≡ length (steps_in t)) × (is_sound t ≡ true)
unfolding survey_of
survey-told cfg st t n m h = go (eqb (length ts) (length (steps_in t))) (whole_of t).last refl refl h
  where
    ts : List Turn
    ts = turns_of (inner_of cfg) cfg st (steps_in t)

    go : (b : Bool) (f : Field) → eqb (length ts) (length (steps_in t)) ≡ b → (whole_of t).last ≡ f → pick b (on_last f (length (steps_in t)) (Whole (length (mended_steps ts)) (note_count ts))) (Refused (length ts + 1) 31) ≡ Whole n m
        → (length ts ≡ length (steps_in t)) × (is_sound t ≡ true)
    go true (IsStep s z) e l k = refuses k
    go true End e l k = (eqb-true _ _ e, ap is_end l)
    go true (NoField p j) e l k = refuses k
    go false f e l k = refuses k

-- a recording that needs no mending is its own text, and the report is empty
module _ (cfg : Config) (st : State) (t : List ℕ) (n m : ℕ) (whole : survey_of (inner_of cfg) cfg st t ≡ Whole n m) (none : m ≡ 0) (small : Bytes t) where
  quiet : turns_of (inner_of cfg) cfg st (steps_in t) ≡ map bare (steps_in t)
  quiet = quiet-turns cfg st (steps_in t) (survey-told cfg st t n m whole).0 (sym (survey-counts cfg st t n m whole).1 ∙ none)

  same_text : text_of (mended_steps (turns_of (inner_of cfg) cfg st (steps_in t))) ≡ t
  same_text = ap (λ (ts : List Turn). text_of (mended_steps ts)) quiet ∙ ap text_of (bare-mended (steps_in t)) ∙ text-again t small (survey-told cfg st t n m whole).1

  long : length t ≡ n * step_size + end_size
  long =
      ap length (sym same_text) ∙ text-length (mended_steps (turns_of (inner_of cfg) cfg st (steps_in t))) ∙ omega (arith, (survey-counts cfg st t n m whole).0)

  pub still-text : (b b' : List ℕ) → n * step_size + end_size ≤ length b → b' ≡ rewrite_written t b → b' ≡ put_at b 0 (text_of (mended_steps (turns_of (inner_of cfg) cfg st (steps_in t))))
  still-text b b' h w =
      w ∙ ap (λ (x : Bool). pick x (wrote_bytes b 0 t) b) (survey-told cfg st t n m whole).1 ∙ wrote-fits b t 0 (omega (arith, h, long)) ∙ ap (put_at b 0) (sym same_text)

  pub still-report : (p : List ℕ) → p ≡ put_at p 0 (report_from 0 (turns_of (inner_of cfg) cfg st (steps_in t)))
  still-report p = sym (ap (λ (ts : List Turn). put_at p 0 (report_from 0 ts)) quiet ∙ ap (put_at p 0) (bare-report 0 (steps_in t)) ∙ put-none p 0)

-- ---- from the state's test on

module _ (cfg : Config) (st : State) (t b p : List ℕ) where
  module _ {r : Mended} (sound : sound_of cfg st ≡ true) (is : r ≡ fitted b p (survey_of (inner_of cfg) cfg st t)) where
    pub sound-answers : r ≡ mend_to cfg st t b p
    unfolding mend_to
    sound-answers = is ∙ ap (fitted b p) (sym (survey-once cfg st sound t)) ∙ sym (ap (λ (x : Bool). pick x (fitted b p (survey_of (step_of cfg) cfg st t)) (Refused 0 1)) sound)

    pub sound-writes : {b' : List ℕ} → b' ≡ on_mended r (put_at b 0 (text_of (mended_steps (turns_of (inner_of cfg) cfg st (steps_in t))))) b → b' ≡ mend_written cfg st t b p
    sound-writes w =
        w ∙ ap₂ (λ (x : Mended) (ts : List Turn). on_mended x (put_at b 0 (text_of (mended_steps ts))) b) sound-answers (sym (turns-once cfg st sound (steps_in t)))

    pub sound-reports : {p' : List ℕ} → p' ≡ on_mended r (put_at p 0 (report_from 0 (turns_of (inner_of cfg) cfg st (steps_in t)))) p → p' ≡ mend_reported cfg st t b p
    sound-reports w =
        w ∙ ap₂ (λ (x : Mended) (ts : List Turn). on_mended x (put_at p 0 (report_from 0 ts)) p) sound-answers (sym (turns-once cfg st sound (steps_in t)))

  pub unsound-answers : sound_of cfg st ≡ false → (Refused 0 1 ≡ mend_to cfg st t b p) × (b ≡ mend_written cfg st t b p) × (p ≡ mend_reported cfg st t b p)
  unfolding mend_to
  unsound-answers h = (rw h, rw h, rw h)
