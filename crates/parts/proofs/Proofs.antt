-- Judging in parts is judging in one: by the law that an unfinished recording goes on from the state reached (`judged-goes-on`).
-- Assumes nothing.
use Prim.Native.Nat.{ℕ, ◌+◌, ◌-◌, ◌*◌, ◌≤◌}
use mathlib.Core.Bool.{Bool, true, false}
use mathlib.Core.List.{List, [], ◌∷◌, ◌++◌, append_assoc, append-nil}
use mathlib.Core.Path.{◌≡◌, refl, sym, ap, ap₂, ◌∙◌}
use native.Mathlib.Omega.{arith}
use lib.Dec.{ltb}
use lib.ListN.{length, drop, length-append, length-drop}
use lib.Seq.{drop-append-le}
use Rattle.numbers.specs.Tags.{step_size}
use Rattle.laws.specs.Choice.{pick, either}
use Rattle.faces.specs.Types.{Config, State}
use Rattle.state.specs.Start.{start_of}
use Rattle.rules.specs.Sound.{sound_of}
use Rattle.effects.specs.Step.{step_of}
use Rattle.reading.specs.declared.Outcome.{Outcome}
use Rattle.reading.specs.declared.Outcome.TheVariants.{Whole, Refused as NotRead}
use Rattle.reading.specs.Reading.{config_of}
use Rattle.stays_sound.proofs.Keeps.{kept_step}
use Rattle.judging.specs.declared.Verdict.{Verdict}
use Rattle.judging.specs.declared.Verdict.TheVariants.{Accepted, Refused, Unfinished}
use Rattle.judging.specs.declared.Judged.{Judged}
use Rattle.judging.specs.declared.Line.{Line}
use Rattle.judging.specs.declared.Line.TheVariants.{TooLong, Unfinished as UnfinishedLine}
use Rattle.judging.specs.Line.{max_config, max_recording, allowed, judged_line, outcome_line, read_line, line_of}
use Rattle.judging.specs.Judging.{judged, judge_from, judge_of, rest_of, verdict_place}
use Rattle.judging.proofs.Laws.{judged-stays, judged-goes-on, unfinished-accepted, unfinished-refused}
use Rattle.parts.specs.Parts.{later, later_verdict, whole_of, sure, on_unfinished, in_parts, joined, long_line, PartsAsOne, LongIsLine}
use Rattle.parts.proofs.Laws.{judged-later, judged-finishes, judged-front, rest-drop, judged-keeps, judged-within}

-- ---- steps counted before steps counted before

verdict-twice : (n m : ℕ) (v : Verdict) → later_verdict n (later_verdict m v) ≡ later_verdict (n + m) v
verdict-twice n m Accepted = refl
verdict-twice n m (Refused p k) = ap (λ (x : ℕ). Refused x k) (omega arith)
verdict-twice n m Unfinished = refl

later-twice : (n m : ℕ) (j : Judged) → later n (later m j) ≡ later (n + m) j
later-twice n m j =
    let e : n + (m + j.count) ≡ n + m + j.count = omega arith in
    ap₂ (λ (v : Verdict) (k : ℕ). judged v k j.state) (verdict-twice n m j.verdict) e

-- ---- one part

judged-from : (cfg : Config) (st : State) (t : List ℕ) (a : ℕ) → sound_of cfg st ≡ true → judge_of cfg st t a ≡ judge_from (step_of cfg) a t 0 st
unfolding judge_of
judged-from cfg st t a h = rw h

-- more allowance than bytes changes nothing
whole_is : (cfg : Config) (st : State) (t : List ℕ) (a : ℕ) → sound_of cfg st ≡ true → length t ≤ a → judge_from (step_of cfg) a t 0 st ≡ whole_of cfg st t
unfolding whole_of
whole_is cfg st t a h l =
    let e : a ≡ length t + (a - length t) = omega arith in
    ap (λ (x : ℕ). judge_from (step_of cfg) x t 0 st) e
    ∙ judged-stays (step_of cfg) (length t) (a - length t) t 0 st (judged-finishes (step_of cfg) (length t) t 0 st (omega arith))
    ∙ sym (judged-from cfg st t (length t) h)

module _ (cfg : Config) (st : State) (s r : List ℕ) (h : sound_of cfg st ≡ true) (long : step_size ≤ length s) where
  part-is : judge_of cfg st s (sure s) ≡ judge_from (step_of cfg) (sure s) s 0 st
  part-is = judged-from cfg st s (sure s) h

  more-allowed : judge_from (step_of cfg) (sure s + (length (s ++ r) - sure s)) (s ++ r) 0 st ≡ whole_of cfg st (s ++ r)
  more-allowed = whole_is cfg st (s ++ r) (sure s + (length (s ++ r) - sure s)) h (omega arith)

  front : judge_from (step_of cfg) (sure s) (s ++ r) 0 st ≡ judge_from (step_of cfg) (sure s) s 0 st
  front = judged-front (step_of cfg) r (sure s) s 0 st (omega arith)

  -- a verdict on a part is the verdict on the whole
  part-stops : ((judge_of cfg st s (sure s)).verdict ≡ Unfinished → ⊥) → judge_of cfg st s (sure s) ≡ whole_of cfg st (s ++ r)
  part-stops not =
      part-is ∙ sym front
      ∙ sym (judged-stays (step_of cfg) (sure s) (length (s ++ r) - sure s) (s ++ r) 0 st (λ u. not (ap (λ (j : Judged). j.verdict) (part-is ∙ sym front) ∙ u)))
      ∙ more-allowed

  -- and a part without one leaves the rest to be judged from the state that it led to
  part-goes-on : (judge_of cfg st s (sure s)).verdict ≡ Unfinished → whole_of cfg st (s ++ r) ≡ later (sure s) (whole_of cfg (judge_of cfg st s (sure s)).state (drop (step_size * sure s) s ++ r))
  part-goes-on u =
      let f = step_of cfg in
      let a = sure s in
      let b = length (s ++ r) - sure s in
      let st' = (judge_from f a (s ++ r) 0 st).state in
      let t' = drop (step_size * a) s ++ r in
      let u' : (judge_from f a (s ++ r) 0 st).verdict ≡ Unfinished = ap (λ (j : Judged). j.verdict) (front ∙ sym part-is) ∙ u in
      let d : rest_of a (s ++ r) ≡ t' = rest-drop f a (s ++ r) 0 st u' ∙ drop-append-le (step_size * a) s r (omega arith) in
      let n : 0 + a ≡ a + 0 = omega arith in
      let k : sound_of cfg st' ≡ true = judged-keeps f (sound_of cfg) (kept_step cfg) a (s ++ r) 0 st h in
      let l : length t' ≤ b = omega (arith, length-append s r, length-append (drop (step_size * a) s) r, length-drop (step_size * a) s) in
      let g = (judged-goes-on f a b (s ++ r) 0 st u').1 in
      sym more-allowed ∙ g ∙ ap₂ (λ (t : List ℕ) (m : ℕ). judge_from f b t m st') d n ∙ judged-later f a b t' 0 st'
      ∙ ap (later a) (whole_is cfg st' t' b k l) ∙ ap (λ (j : Judged). later a (whole_of cfg j.state t')) (front ∙ sym part-is)

  part_sound : sound_of cfg (judge_of cfg st s (sure s)).state ≡ true
  part_sound = ap (λ (j : Judged). sound_of cfg j.state) part-is ∙ judged-keeps (step_of cfg) (sound_of cfg) (kept_step cfg) (sure s) s 0 st h

-- ---- all parts

on-more : {A : Type 0} (v : Verdict) (x y : A) → v ≡ Unfinished → on_unfinished v x y ≡ x
on-more v x y e = rw e

on-done : {A : Type 0} (v : Verdict) (x y : A) → (v ≡ Unfinished → ⊥) → on_unfinished v x y ≡ y
on-done Accepted x y not = refl
on-done (Refused p k) x y not = refl
on-done Unfinished x y not = absurd (not refl)

pub parts-as-one : PartsAsOne
unfolding in_parts
parts-as-one cfg st n held [] h l = ap (λ (t : List ℕ). later n (whole_of cfg st t)) (sym (append-nil held))
parts-as-one cfg st n held (p ∷ ps) h l =
    go (judge_of cfg st (held ++ p) (sure (held ++ p))).verdict refl
    (λ k. parts-as-one cfg (judge_of cfg st (held ++ p) (sure (held ++ p))).state (n + sure (held ++ p)) (drop (step_size * sure (held ++ p)) (held ++ p)) ps k l.1)
    ∙ ap (λ (t : List ℕ). later n (whole_of cfg st t)) (append_assoc held p (joined ps))
  where
    long : step_size ≤ length (held ++ p)
    long = omega (arith, length-append held p, l.0)

    Rest : Type 0
    Rest = sound_of cfg (judge_of cfg st (held ++ p) (sure (held ++ p))).state ≡ true → in_parts cfg (judge_of cfg st (held ++ p) (sure (held ++ p))).state (n + sure (held ++ p)) (drop (step_size * sure (held ++ p)) (held ++ p)) ps
        ≡ later (n + sure (held ++ p)) (whole_of cfg (judge_of cfg st (held ++ p) (sure (held ++ p))).state (drop (step_size * sure (held ++ p)) (held ++ p) ++ joined ps))

    Other : Type 0
    Other = (judge_of cfg st (held ++ p) (sure (held ++ p))).verdict ≡ Unfinished → ⊥

    stop : Other → later n (judge_of cfg st (held ++ p) (sure (held ++ p))) ≡ later n (whole_of cfg st ((held ++ p) ++ joined ps))
    stop not = ap (later n) (part-stops cfg st (held ++ p) (joined ps) h long not)

    go : (v : Verdict) → (judge_of cfg st (held ++ p) (sure (held ++ p))).verdict ≡ v → Rest → in_parts cfg st n held (p ∷ ps) ≡ later n (whole_of cfg st ((held ++ p) ++ joined ps))
    go Accepted e rest = let not : Other = λ u. unfinished-accepted (sym u ∙ e) in on-done _ _ _ not ∙ stop not
    go (Refused q k) e rest = let not : Other = λ u. unfinished-refused (sym u ∙ e) in on-done _ _ _ not ∙ stop not
    go Unfinished e rest =
        on-more _ _ _ e ∙ rest (part_sound cfg st (held ++ p) (joined ps) h long)
        ∙ sym (later-twice n (sure (held ++ p)) (whole_of cfg (judge_of cfg st (held ++ p) (sure (held ++ p))).state (drop (step_size * sure (held ++ p)) (held ++ p) ++ joined ps)))
        ∙ ap (later n) (sym (part-goes-on cfg st (held ++ p) (joined ps) h long e))

-- ---- how far a part reaches

-- no more steps are counted than allowed, and no place is more than two behind them
pub judged-near : (cfg : Config) (st : State) (t : List ℕ) (a : ℕ) → ((judge_of cfg st t a).count ≤ a) × (verdict_place (judge_of cfg st t a).verdict ≤ a + 2)
unfolding judge_of
judged-near cfg st t a = go (sound_of cfg st) refl
  where
    go : (b : Bool) → sound_of cfg st ≡ b → ((pick b (judge_from (step_of cfg) a t 0 st) (judged (Refused 0 1) 0 st)).count ≤ a) × (verdict_place (pick b (judge_from (step_of cfg) a t 0 st) (judged (Refused 0 1) 0 st)).verdict ≤ a + 2)
    go true e = let w = judged-within (step_of cfg) a t 0 st in (omega (arith, w.0), omega (arith, w.1))
    go false e = (omega arith, omega arith)

-- ---- the line

-- a verdict within some allowance is the verdict without limits
whole-as-allowed : (cfg : Config) (st : State) (t : List ℕ) (a : ℕ) → ((judge_of cfg st t a).verdict ≡ Unfinished → ⊥) → whole_of cfg st t ≡ judge_of cfg st t a
unfolding whole_of judge_of
whole-as-allowed cfg st t a not = go (sound_of cfg st) refl not
  where
    stays : ((judge_from (step_of cfg) a t 0 st).verdict ≡ Unfinished → ⊥) → judge_from (step_of cfg) (length t) t 0 st ≡ judge_from (step_of cfg) a t 0 st
    stays ends =
        let e : a + length t ≡ length t + a = omega arith in
        sym (judged-stays (step_of cfg) (length t) a t 0 st (judged-finishes (step_of cfg) (length t) t 0 st (omega arith)))
        ∙ ap (λ (x : ℕ). judge_from (step_of cfg) x t 0 st) (sym e) ∙ judged-stays (step_of cfg) a (length t) t 0 st ends

    go : (b : Bool) → sound_of cfg st ≡ b → ((pick b (judge_from (step_of cfg) a t 0 st) (judged (Refused 0 1) 0 st)).verdict ≡ Unfinished → ⊥)
        → pick b (judge_from (step_of cfg) (length t) t 0 st) (judged (Refused 0 1) 0 st) ≡ pick b (judge_from (step_of cfg) a t 0 st) (judged (Refused 0 1) 0 st)
    go true e ends = stays ends
    go false e ends = refl

-- a line that is not unfinished comes from a verdict that is not
line-ends : (j : Judged) → ((n : ℕ) → judged_line j ≡ UnfinishedLine n → ⊥) → j.verdict ≡ Unfinished → ⊥
unfolding judged_line
line-ends j not u = not j.count (rw u)

outcome-same : (o : Outcome) (x y : Line) → (o ≡ Whole → x ≡ y) → outcome_line o x ≡ outcome_line o y
outcome-same Whole x y e = e refl
outcome-same (NotRead p k) x y e = refl

pub long-is-line : LongIsLine
unfolding long_line line_of read_line
long-is-line c t short ends = go (ltb max_config (length c)) (ltb max_recording (length t)) refl refl short ends
  where
    cfg : Config
    cfg = (config_of c).config

    whole : Line
    whole = outcome_line (config_of c).outcome (judged_line (whole_of cfg (start_of cfg) t))

    allow : Line
    allow = outcome_line (config_of c).outcome (judged_line (judge_of cfg (start_of cfg) t allowed))

    same : ((n : ℕ) → allow ≡ UnfinishedLine n → ⊥) → whole ≡ allow
    same not = outcome-same (config_of c).outcome _ _
        (λ e. ap judged_line (whole-as-allowed cfg (start_of cfg) t allowed (line-ends (judge_of cfg (start_of cfg) t allowed) (λ n q. not n (rw e q)))))

    go : (a b : Bool) → ltb max_config (length c) ≡ a → ltb max_recording (length t) ≡ b → (pick (either a b) TooLong allow ≡ TooLong → ⊥) → ((n : ℕ) → pick (either a b) TooLong allow ≡ UnfinishedLine n → ⊥)
        → pick a TooLong whole ≡ pick (either a b) TooLong allow
    go true b p q s e = refl
    go false true p q s e = absurd (s refl)
    go false false p q s e = same e
