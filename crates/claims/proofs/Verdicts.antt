-- A judgment from the start state, by any allowance, and what stands in the text: the start state of a sound configuration is sound, so judging it is judging its steps
-- (`from_start`), with or without the test of soundness; and each verdict is given exactly if the text has it so.
-- Assumes nothing.
use Prim.Native.Nat.{ℕ, ◌+◌, ◌≤◌, ◌<◌}
use mathlib.Core.Bool.{true}
use mathlib.Core.List.{List}
use mathlib.Core.Path.{◌≡◌, refl, sym, ap, ◌∙◌, subst}
use native.Mathlib.Omega.{arith}
use lib.ListN.{length, take}
use Rattle.faces.specs.Types.{Config, State}
use Rattle.state.specs.Start.{start_of}
use Rattle.entries.specs.Faults.{config_sound}
use Rattle.rules.specs.Sound.{sound_of}
use Rattle.effects.specs.Step.{inner_of, step_of}
use Rattle.stays_sound.proofs.Start.{start-sound}
use Rattle.stays_sound.proofs.Keeps.{once, kept}
use Rattle.recording.specs.Whole.{steps_in, is_sound}
use Rattle.judging.specs.declared.Verdict.{Verdict}
use Rattle.judging.specs.declared.Verdict.TheVariants.{Accepted, Refused, Unfinished}
use Rattle.judging.specs.declared.Judged.{Judged}
use Rattle.judging.specs.Judging.{verdict_refusal, verdict_place, verdict_form, judged, judge_from, judge_of}
use Rattle.history.specs.Promises.{Run}
use Rattle.claims.specs.Claims.{Says, FirstRun, UntestedIsSame, CountedIsRun, AcceptedIsWhole, UnfinishedIsCut, Stops, RefusedIsStopped}
use Rattle.judging.proofs.Laws.{judged-same}
use Rattle.claims.proofs.Counted.{counted, accepted-whole, unfinished-more}
use Rattle.claims.proofs.Stopped.{stopped-at}
use Rattle.claims.proofs.Told.{whole-judged, cut-judged, stopped-judged}

-- ---- a judgment, by any allowance

-- from the start state of a sound configuration, no refusal at place 0
pub from_start : (cfg : Config) (t : List ℕ) (a : ℕ) → config_sound cfg ≡ true → judge_of cfg (start_of cfg) t a ≡ judge_from (step_of cfg) a t 0 (start_of cfg)
unfolding judge_of
from_start cfg t a h = rw (start-sound cfg h)

pub untested-is-same : UntestedIsSame
untested-is-same cfg t a h =
    from_start cfg t a h
    ∙ sym (judged-same (inner_of cfg) (step_of cfg) (sound_of cfg) (λ st s e. sym (once cfg st s e)) (λ st s e. kept cfg st s e) a t 0 (start_of cfg) (start-sound cfg h))

-- a verdict by its form
is-accepted : (v : Verdict) → verdict_form v ≡ 0 → v ≡ Accepted
is-accepted Accepted h = refl
is-accepted (Refused p k) h = absurd (omega (arith, h))
is-accepted Unfinished h = absurd (omega (arith, h))

is-unfinished : (v : Verdict) → verdict_form v ≡ 2 → v ≡ Unfinished
is-unfinished Accepted h = absurd (omega (arith, h))
is-unfinished (Refused p k) h = absurd (omega (arith, h))
is-unfinished Unfinished h = refl

-- the judgment of a text from the start state
abbrev pub judged_of : Config → List ℕ → ℕ → Judged
judged_of cfg t a = judge_from (step_of cfg) a t 0 (start_of cfg)

module _ (cfg : Config) (t : List ℕ) (a : ℕ) where
  counted-run : FirstRun cfg t (judged_of cfg t a).count (judged_of cfg t a).state
  counted-run =
      let k = counted cfg a t 0 (start_of cfg) in
      let n : k.steps ≡ (judged_of cfg t a).count = omega (arith, k.count) in
      record { there = omega (arith, n, k.there); run = subst (λ (m : ℕ). Run cfg (take m (steps_in t)) (judged_of cfg t a).state) n k.taken }

  -- the same by the count and the state that are said
  said-run : (n : ℕ) (st : State) → (judged_of cfg t a).count ≡ n → (judged_of cfg t a).state ≡ st → FirstRun cfg t n st
  said-run n st c e = subst (FirstRun cfg t n) e (subst (λ (m : ℕ). FirstRun cfg t m (judged_of cfg t a).state) c counted-run)

  -- what a judgment says that is known
  known : (v : Verdict) (n : ℕ) (st : State) → judged_of cfg t a ≡ judged v n st → Says (judged_of cfg t a) (verdict_form v) n st
  known v n st e = (ap (λ (x : Judged). verdict_form x.verdict) e, ap (λ (x : Judged). x.count) e, ap (λ (x : Judged). x.state) e)

  pub accepted-so : (n : ℕ) (st : State) → Says (judged_of cfg t a) 0 n st → (is_sound t ≡ true) × (n ≡ length (steps_in t)) × (n ≤ a) × Run cfg (steps_in t) st
  accepted-so n st s =
      let w = accepted-whole cfg a t 0 (start_of cfg) (is-accepted _ s.0) in
      let c : n ≡ length (steps_in t) = omega (arith, s.1, w.count) in
      (w.whole, c, omega (arith, c, w.most), subst (Run cfg (steps_in t)) s.2 w.taken)

  pub so-accepted : (n : ℕ) (st : State) → (is_sound t ≡ true) × (n ≡ length (steps_in t)) × (n ≤ a) × Run cfg (steps_in t) st → Says (judged_of cfg t a) 0 n st
  so-accepted n st w =
      let k = known Accepted (0 + length (steps_in t)) st (whole-judged cfg a t 0 (start_of cfg) st w.0 (omega (arith, w.1, w.2)) w.3) in
      (k.0, omega (arith, k.1, w.1), k.2)

  pub unfinished-so : (n : ℕ) (st : State) → Says (judged_of cfg t a) 2 n st → (n ≡ a) × (n < length (steps_in t)) × Run cfg (take n (steps_in t)) st
  unfinished-so n st s =
      let m = unfinished-more cfg a t 0 (start_of cfg) (is-unfinished _ s.0) in
      let c : n ≡ a = omega (arith, s.1, m.0) in
      (c, omega (arith, c, m.1), (said-run n st s.1 s.2).run)

  pub so-unfinished : (n : ℕ) (st : State) → (n ≡ a) × (n < length (steps_in t)) × Run cfg (take n (steps_in t)) st → Says (judged_of cfg t a) 2 n st
  so-unfinished n st w =
      let k = known Unfinished (0 + a) st (cut-judged cfg a t 0 (start_of cfg) st (omega (arith, w.0, w.1)) (subst (λ (m : ℕ). Run cfg (take m (steps_in t)) st) w.0 w.2)) in
      (k.0, omega (arith, k.1, w.0), k.2)

  abbrev pub SaysRefused : ℕ → State → ℕ → ℕ → Type 0
  SaysRefused n st p k = Says (judged_of cfg t a) 1 n st × (verdict_place (judged_of cfg t a).verdict ≡ p) × (verdict_refusal (judged_of cfg t a).verdict ≡ k)

  pub refused-so : (n : ℕ) (st : State) (p k : ℕ) → SaysRefused n st p k → FirstRun cfg t n st × Stops cfg a t n st p k
  refused-so n st p k s =
      let f = stopped-at cfg a t 0 (start_of cfg) s.0.0 in (
        said-run n st s.0.1 s.0.2,
        subst (λ (i : ℕ). Stops cfg a t n st p i) s.2
            (subst (λ (q : ℕ). Stops cfg a t n st q (verdict_refusal (judged_of cfg t a).verdict)) (omega (arith, f.at, s.1))
            (subst (λ (x : State). Stops cfg a t n x f.place (verdict_refusal (judged_of cfg t a).verdict)) s.0.2
            (subst (λ (m : ℕ). Stops cfg a t m (judged_of cfg t a).state f.place (verdict_refusal (judged_of cfg t a).verdict)) (omega (arith, f.count, s.0.1)) f.stops))),
      )

  pub so-refused : (n : ℕ) (st : State) (p k : ℕ) → FirstRun cfg t n st × Stops cfg a t n st p k → SaysRefused n st p k
  so-refused n st p k w =
      let e = stopped-judged cfg a t 0 (start_of cfg) n st p k w.0.run w.1 in
      let s = known (Refused (0 + p) k) (0 + n) st e in
      ((s.0, omega (arith, s.1), s.2), omega (arith, ap (λ (x : Judged). verdict_place x.verdict) e), ap (λ (x : Judged). verdict_refusal x.verdict) e)

pub counted-is-run : CountedIsRun
counted-is-run cfg t a h = rw (from_start cfg t a h) (counted-run cfg t a)

pub accepted-is-whole : AcceptedIsWhole
accepted-is-whole cfg t a n st h = rw (from_start cfg t a h) (accepted-so cfg t a n st, so-accepted cfg t a n st)

pub unfinished-is-cut : UnfinishedIsCut
unfinished-is-cut cfg t a n st h = rw (from_start cfg t a h) (unfinished-so cfg t a n st, so-unfinished cfg t a n st)

pub refused-is-stopped : RefusedIsStopped
refused-is-stopped cfg t a n st p k h = rw (from_start cfg t a h) (refused-so cfg t a n st p k, so-refused cfg t a n st p k)
