-- From the bytes of two files to the line, and back: files are too long, not read, or judged (`files`), and a line that names steps is the verdict's on a configuration
-- that was read (`judged-line`).
-- Assumes nothing.
use Prim.Native.Nat.{ℕ, ◌<◌}
use mathlib.Core.Bool.{true}
use mathlib.Core.List.{List}
use mathlib.Core.Path.{◌≡◌, refl, sym, ap, ◌∙◌}
use native.Mathlib.Decide.{dec_lt}
use native.Mathlib.Omega.{arith}
use lib.Dec.{ltb}
use lib.ListN.{length}
use borrow.Author.Tests.{lt-ltb, le-ltb}
use Rattle.laws.specs.Choice.{pick, either}
use Rattle.faces.specs.Types.{Config, State}
use Rattle.entries.specs.Faults.{config_sound}
use Rattle.reading.specs.declared.Outcome.{Outcome}
use Rattle.reading.specs.declared.Outcome.TheVariants.{Whole, Refused as NotRead}
use Rattle.reading.specs.Reading.{config_of, outcome_refusal, outcome_place}
use Rattle.reading.proofs.Sound.{read-sound, read_number}
use Rattle.judging.specs.declared.Verdict.{Verdict}
use Rattle.judging.specs.declared.Verdict.TheVariants.{Accepted, Refused, Unfinished}
use Rattle.judging.specs.declared.Judged.{Judged}
use Rattle.judging.specs.declared.Line.TheVariants.{Configuration, TooLong}
use Rattle.judging.specs.Judging.{verdict_refusal, verdict_place, verdict_form}
use Rattle.judging.specs.Line.{max_config, max_recording, allowed, verdict_line, judged_line, read_line, line_of, line_form, line_count, line_place, line_refusal}
use Rattle.claims.specs.Claims.{Says, Fits, Readable, AcceptedIsRun, RefusedIsRun, UnfinishedIsRun, ConfigurationIsUnread, TooLongIsLong}
use Rattle.claims.proofs.Verdicts.{from_start, judged_of, accepted-so, so-accepted, unfinished-so, so-unfinished, refused-so, so-refused}

-- ---- the line

-- the files fit, or they do not
fits_or : (c t : List ℕ) → Dec (Fits c t)
fits_or c t = go (dec_lt max_config (length c)) (dec_lt max_recording (length t))
  where
    go : Dec (max_config < length c) → Dec (max_recording < length t) → Dec (Fits c t)
    go (yes x) y = no (λ f. omega (arith, f.0, x))
    go (no x) (yes y) = no (λ f. omega (arith, f.1, y))
    go (no x) (no y) = yes (omega (arith, x), omega (arith, y))

-- the line of files that fit
fit_line : (c t : List ℕ) → Fits c t → line_of c t ≡ read_line (config_of c) t
unfolding line_of
fit_line c t f = rw (le-ltb max_config (length c) f.0, le-ltb max_recording (length t) f.1)

-- and of files that do not
long-line : (c t : List ℕ) → (Fits c t → ⊥) → line_of c t ≡ TooLong
unfolding line_of
long-line c t n = go (dec_lt max_config (length c)) (dec_lt max_recording (length t))
  where
    go : Dec (max_config < length c) → Dec (max_recording < length t) → pick (either (ltb max_config (length c)) (ltb max_recording (length t))) TooLong (read_line (config_of c) t) ≡ TooLong
    go (yes x) y = rw (lt-ltb max_config (length c) x)
    go (no x) (yes y) = rw (le-ltb max_config (length c) (omega (arith, x)), lt-ltb max_recording (length t) y)
    go (no x) (no y) = absurd (n (omega (arith, x), omega (arith, y)))

-- of a configuration that is read: sound, and its line is that of the verdict
module _ (c t : List ℕ) (r : Readable c t) where
  whole : (config_of c).outcome ≡ Whole
  whole = read_number c r.1

  pub sound-config : config_sound (config_of c).config ≡ true
  sound-config = read-sound c whole

  judged-line : line_of c t ≡ verdict_line (judged_of (config_of c).config t allowed).verdict (judged_of (config_of c).config t allowed).count
  unfolding read_line judged_line
  judged-line = fit_line c t r.0 ∙ rw (whole, from_start (config_of c).config t allowed sound-config)

-- the numbers of a verdict's line are those of the verdict
form-same : (v : Verdict) (n : ℕ) → line_form (verdict_line v n) ≡ verdict_form v
form-same Accepted n = refl
form-same (Refused p k) n = refl
form-same Unfinished n = refl

place_same : (v : Verdict) (n : ℕ) → line_place (verdict_line v n) ≡ verdict_place v
place_same Accepted n = refl
place_same (Refused p k) n = refl
place_same Unfinished n = refl

refusal-same : (v : Verdict) (n : ℕ) → line_refusal (verdict_line v n) ≡ verdict_refusal v
refusal-same Accepted n = refl
refusal-same (Refused p k) n = refl
refusal-same Unfinished n = refl

-- and one that refuses nothing has the count
count_same : (v : Verdict) (n : ℕ) → (verdict_form v ≡ 1 → ⊥) → line_count (verdict_line v n) ≡ n
count_same Accepted n h = refl
count_same (Refused p k) n h = absurd (h refl)
count_same Unfinished n h = refl

-- the line of a configuration that is not read
unread-line : (c t : List ℕ) (p k : ℕ) → Fits c t → (config_of c).outcome ≡ NotRead p k → line_of c t ≡ Configuration p k
unfolding read_line
unread-line c t p k f e = fit_line c t f ∙ rw e

-- by the files: too long, not read, or judged
data Files (c t : List ℕ) : Type 0 where
  too_long : (Fits c t → ⊥) → line_of c t ≡ TooLong → Files c t
  unread : (p k : ℕ) → Fits c t → (config_of c).outcome ≡ NotRead p k → line_of c t ≡ Configuration p k → Files c t
  readable : Readable c t → Files c t

files : (c t : List ℕ) → Files c t
files c t = go (fits_or c t)
  where
    by : Fits c t → (o : Outcome) → (config_of c).outcome ≡ o → Files c t
    by f Whole e = readable (f, ap outcome_refusal e)
    by f (NotRead p k) e = unread p k f e (unread-line c t p k f e)

    go : Dec (Fits c t) → Files c t
    go (yes f) = by f (config_of c).outcome refl
    go (no n) = too_long n (long-line c t n)

-- a line that names steps has been judged
has-read : (c t : List ℕ) (f : ℕ) → line_form (line_of c t) ≡ f → f < 3 → Readable c t
has-read c t f h l = go (files c t)
  where
    go : Files c t → Readable c t
    go (too_long n e) = absurd (omega (arith, l, h, ap line_form e))
    go (unread p k g o e) = absurd (omega (arith, l, h, ap line_form e))
    go (readable r) = r

module _ (c t : List ℕ) where
  abbrev cfg : Config
  cfg = (config_of c).config

  abbrev j : Judged
  j = judged_of (config_of c).config t allowed

  same-form : Readable c t → line_form (line_of c t) ≡ verdict_form j.verdict
  same-form r = ap line_form (judged-line c t r) ∙ form-same j.verdict j.count

  same_place : Readable c t → line_place (line_of c t) ≡ verdict_place j.verdict
  same_place r = ap line_place (judged-line c t r) ∙ place_same j.verdict j.count

  same-refusal : Readable c t → line_refusal (line_of c t) ≡ verdict_refusal j.verdict
  same-refusal r = ap line_refusal (judged-line c t r) ∙ refusal-same j.verdict j.count

  same_count : Readable c t → (verdict_form j.verdict ≡ 1 → ⊥) → line_count (line_of c t) ≡ j.count
  same_count r n = ap line_count (judged-line c t r) ∙ count_same j.verdict j.count n

  -- a line and the judgment behind it, with the form f that refuses nothing and the count n
  line-says : (f n : ℕ) → f < 3 → (f ≡ 1 → ⊥) → (line_form (line_of c t) ≡ f) × (line_count (line_of c t) ≡ n) → Readable c t × Says j f n j.state
  line-says f n l m h =
      let r = has-read c t f h.0 l in
      let e : verdict_form j.verdict ≡ f = sym (same-form r) ∙ h.0 in
      (r, (e, sym (same_count r (λ z. m (sym e ∙ z))) ∙ h.1, refl))

  says-line : (f n : ℕ) (st : State) → (f ≡ 1 → ⊥) → Readable c t → Says j f n st → (line_form (line_of c t) ≡ f) × (line_count (line_of c t) ≡ n)
  says-line f n st m r s = (same-form r ∙ s.0, same_count r (λ z. m (sym s.0 ∙ z)) ∙ s.1)

pub accepted-is-run : AcceptedIsRun
accepted-is-run c t n = (
  λ h.
      let s = line-says c t 0 n (omega arith) (λ z. omega (arith, z)) h in
      let w = accepted-so (cfg c t) t allowed n _ s.1 in
      (s.0, w.0, w.1, w.2, _, w.3),
  λ w. says-line c t 0 n w.4 (λ z. omega (arith, z)) w.0 (so-accepted (cfg c t) t allowed n w.4 (w.1, w.2, w.3, w.5)),
)

pub unfinished-is-run : UnfinishedIsRun
unfinished-is-run c t n = (
  λ h.
      let s = line-says c t 2 n (omega arith) (λ z. omega (arith, z)) h in
      let w = unfinished-so (cfg c t) t allowed n _ s.1 in
      (s.0, w.0, w.1, _, w.2),
  λ w. says-line c t 2 n w.3 (λ z. omega (arith, z)) w.0 (so-unfinished (cfg c t) t allowed n w.3 (w.1, w.2, w.4)),
)

pub refused-is-run : RefusedIsRun
refused-is-run c t p k = (
  λ h.
      let r = has-read c t 1 h.0 (omega arith) in
      let w = refused-so (cfg c t) t allowed _ _ p k ((sym (same-form c t r) ∙ h.0, refl, refl), sym (same_place c t r) ∙ h.1, sym (same-refusal c t r) ∙ h.2) in
      (r, _, _, w.0, w.1),
  λ w.
      let s = so-refused (cfg c t) t allowed w.1 w.2 p k (w.3, w.4) in
      (same-form c t w.0 ∙ s.0.0, same_place c t w.0 ∙ s.1, same-refusal c t w.0 ∙ s.2),
)

pub configuration-is-unread : ConfigurationIsUnread
configuration-is-unread c t p k = (to (files c t), from (files c t))
  where
    to : Files c t → (line_form (line_of c t) ≡ 3) × (line_place (line_of c t) ≡ p) × (line_refusal (line_of c t) ≡ k)
        → Fits c t × (outcome_place (config_of c).outcome ≡ p) × (outcome_refusal (config_of c).outcome ≡ k) × (0 < k)
    to (too_long n e) h = absurd (omega (arith, h.0, ap line_form e))
    to (unread q m f o e) h =
        let same : m ≡ k = sym (ap line_refusal e) ∙ h.2 in
        (f, ap outcome_place o ∙ sym (ap line_place e) ∙ h.1, ap outcome_refusal o ∙ same, omega (arith, same, not-zero m q o))
      where
        not-zero : (m q : ℕ) → (config_of c).outcome ≡ NotRead q m → 0 < m
        not-zero m q o = go (dec_lt 0 m)
          where
            go : Dec (0 < m) → 0 < m
            go (yes l) = l
            go (no n) = let w : (config_of c).outcome ≡ Whole = read_number c (ap outcome_refusal o ∙ omega (arith, n)) in absurd (let z : ◌≡◌ {A = ℕ} 0 1 = cc in omega arith)
    to (readable r) h = absurd (form-low (j c t).verdict (sym (same-form c t r) ∙ h.0))
      where
        form-low : (v : Verdict) → verdict_form v ≡ 3 → ⊥
        form-low Accepted z = omega (arith, z)
        form-low (Refused q m) z = omega (arith, z)
        form-low Unfinished z = omega (arith, z)

    from : Files c t → Fits c t × (outcome_place (config_of c).outcome ≡ p) × (outcome_refusal (config_of c).outcome ≡ k) × (0 < k)
        → (line_form (line_of c t) ≡ 3) × (line_place (line_of c t) ≡ p) × (line_refusal (line_of c t) ≡ k)
    from (too_long n e) h = absurd (n h.0)
    from (unread q m f o e) h = (ap line_form e, ap line_place e ∙ sym (ap outcome_place o) ∙ h.1, ap line_refusal e ∙ sym (ap outcome_refusal o) ∙ h.2)
    from (readable r) h = absurd (omega (arith, r.1, h.2, h.3))

pub too-long-is-long : TooLongIsLong
too-long-is-long c t = (to (files c t), λ n. ap line_form (long-line c t n))
  where
    to : Files c t → line_form (line_of c t) ≡ 4 → Fits c t → ⊥
    to (too_long n e) h = n
    to (unread q m f o e) h = absurd (omega (arith, h, ap line_form e))
    to (readable r) h = absurd (form-low (j c t).verdict (sym (same-form c t r) ∙ h))
      where
        form-low : (v : Verdict) → verdict_form v ≡ 4 → ⊥
        form-low Accepted z = omega (arith, z)
        form-low (Refused q m) z = omega (arith, z)
        form-low Unfinished z = omega (arith, z)
