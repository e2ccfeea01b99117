-- Every answer by cases: where mending stops, and why.
-- Assumes nothing.
use Prim.Native.Nat.{ℕ, ◌+◌, ◌*◌, ◌≤◌, ◌<◌}
use mathlib.Core.Bool.{Bool, true, false}
use mathlib.Core.List.{List, [], ◌∷◌, ◌++◌, map}
use mathlib.Core.Logic.{◌⊎◌, inl, inr, ⊎_elim}
use mathlib.Core.Path.{◌≡◌, refl, sym, ap, subst, ◌∙◌}
use native.Mathlib.Omega.{arith}
use lib.Dec.{leb}
use lib.ListN.{length, drop, length-append, length-map}
use borrow.Author.Tests.{eq-eqb, ne_eqb, le-leb, leb-true, leb-false, ltb-false}
use Rattle.numbers.specs.Tags.{step_size, end_size}
use Rattle.laws.proofs.Choosing.{clash}
use Rattle.faces.specs.Types.{Step, Config, State, Stepped}
use Rattle.rules.specs.Sound.{sound_of}
use Rattle.effects.specs.Step.{step_of}
use Rattle.recording.specs.declared.Field.{Field}
use Rattle.recording.specs.declared.Field.TheVariants.{End, Refused as NoField}
use Rattle.recording.specs.Recording.{field_past}
use Rattle.recording.specs.Whole.{Whole as Texted, whole_of, steps_in, is_end, is_sound}
use Rattle.recording.proofs.OneField.{refused-18}
use Rattle.recording.proofs.Texts.{by-fields, whole-step, whole-end, whole-refused}
use Rattle.history.specs.Promises.{Accepted}
use Rattle.gaps.specs.declared.Mended.{Mended}
use Rattle.gaps.specs.declared.Mended.TheVariants.{Whole, Refused}
use Rattle.gaps.specs.Gaps.{Turn, sequences_of, fills, rank_of, can_fill, turn_of, turn_steps, turns_of, state_after, mended_steps}
use Rattle.gaps.specs.Report.{note_count, on_last, survey_of, fitted, mend_to, note_size}
use Rattle.gaps.proofs.Ordered.{passed-before}
use Rattle.gaps.proofs.Members.{member-at}
use Rattle.gaps.proofs.Turns.{turns-on}
use Rattle.mended.specs.Claims.{turns_in, mended, Unfilled, AllMended, Outcome, unsound, unfilled, unread, short, whole, AnswerByCases, RefusalsAreFour}
use Rattle.mended.proofs.Walks.{after-append, turns-each}
use Rattle.mended.proofs.Fills.{turns-accepted}

-- ---- where turns stop

abbrev pub kept_of : List Turn → List Step
kept_of ts = map (λ (t : Turn). t.kept) ts

module _ (f : State → Step → Stepped) (cfg : Config) where
  -- the turns are those of the steps before one whose gap can't be filled
  pub record Stop (st : State) (rs : List Step) (ts : List Turn) : Type 0 where
    pub before : List Step
    pub step : Step
    pub after : List Step
    pub split : rs ≡ before ++ (step ∷ after)
    pub turns : turns_of f cfg st before ≡ ts
    pub kept : kept_of ts ≡ before
    pub none : can_fill f cfg (state_after f st (mended_steps ts)) step ≡ false

  stop-later : (st : State) (s : Step) (rs : List Step) (ts : List Turn) → can_fill f cfg st s ≡ true → Stop (state_after f st (turn_steps (turn_of f cfg st s))) rs ts → Stop st (s ∷ rs) (turn_of f cfg st s ∷ ts)
  unfolding mended_steps
  stop-later st s rs ts h x = record {
    before = s ∷ x.before;
    step = x.step;
    after = x.after;
    split = ap (λ (l : List Step). s ∷ l) x.split;
    turns = turns-on f cfg st s x.before h ∙ ap (λ (l : List Turn). turn_of f cfg st s ∷ l) x.turns;
    kept = ap (λ (l : List Step). s ∷ l) x.kept;
    none = subst (λ (m : State). can_fill f cfg m x.step ≡ false) (sym (after-append f st (turn_steps (turn_of f cfg st s)) (mended_steps ts))) x.none;
  }

  stop-here : (st : State) (s : Step) (rs : List Step) → can_fill f cfg st s ≡ false → Stop st (s ∷ rs) []
  unfolding turns_of mended_steps state_after
  stop-here st s rs h = record { before = []; step = s; after = rs; split = refl; turns = refl; kept = refl; none = h }

  pub turns-end : (st : State) (rs : List Step) → (kept_of (turns_of f cfg st rs) ≡ rs) ⊎ Stop st rs (turns_of f cfg st rs)
  turns-end =
      turns-each f cfg (λ st rs ts. (kept_of ts ≡ rs) ⊎ Stop st rs ts)
      (record {
        ended = λ st. inl refl;
        stuck = λ st s rs h. inr (stop-here st s rs h);
        went = λ st s rs ts h rest. ⊎_elim (λ (e : kept_of ts ≡ rs). inl (ap (λ (l : List Step). s ∷ l) e)) (λ (x : Stop (state_after f st (turn_steps (turn_of f cfg st s))) rs ts). inr (stop-later st s rs ts h x)) rest;
      })

  pub kept-length : (st : State) (rs : List Step) → kept_of (turns_of f cfg st rs) ≡ rs → length (turns_of f cfg st rs) ≡ length rs
  kept-length st rs e = sym (length-map (turns_of f cfg st rs) (λ (t : Turn). t.kept)) ∙ ap length e

  pub stop-length : (st : State) (rs : List Step) (ts : List Turn) (x : Stop st rs ts) → (length ts ≡ length x.before) × (length ts < length rs)
  stop-length st rs ts x =
      let a : length ts ≡ length x.before = sym (length-map ts (λ (t : Turn). t.kept)) ∙ ap length x.kept in
      (a, omega (arith, a, ap length x.split, length-append x.before (x.step ∷ x.after)))

-- ---- a stop is a gap that nothing fills

pub stop-unfilled : (cfg : Config) (st : State) (rs : List Step) → Stop (step_of cfg) cfg st rs (turns_of (step_of cfg) cfg st rs) → Unfilled cfg st rs (length (turns_of (step_of cfg) cfg st rs) + 1)
unfolding rank_of
stop-unfilled cfg st rs x =
    let ts = turns_of (step_of cfg) cfg st rs in
    let m = state_after (step_of cfg) st (mended_steps ts) in
    record {
      before = x.before;
      step = x.step;
      after = x.after;
      split = x.split;
      at = ap (λ (n : ℕ). n + 1) (stop-length (step_of cfg) cfg st rs ts x).0;
      whole = ap kept_of x.turns ∙ x.kept;
      state = m;
      reached = subst (λ (l : List Turn). Accepted cfg st (mended_steps l) m) (sym x.turns) (turns-accepted cfg st rs);
      none = λ q k. let at = member-at (sequences_of cfg) [] k in
          subst (λ (l : List Step). fills (step_of cfg) cfg m x.step l ≡ false) at.2
          (passed-before (fills (step_of cfg) cfg m x.step) (sequences_of cfg) [] at.0 (omega (arith, at.1, ltb-false (rank_of (step_of cfg) cfg m x.step) (length (sequences_of cfg)) x.none)));
    }

-- ---- the field behind the steps

pub last-is : (t : List ℕ) → ((is_sound t ≡ true) × ((whole_of t).last ≡ End)) ⊎ ((is_sound t ≡ false) × ((whole_of t).last ≡ NoField (field_past (whole_of t).last) 18))
last-is =
    by-fields (λ t. ((is_sound t ≡ true) × ((whole_of t).last ≡ End)) ⊎ ((is_sound t ≡ false) × ((whole_of t).last ≡ NoField (field_past (whole_of t).last) 18)))
    (λ t s n e rest. let w : (whole_of t).last ≡ (whole_of (drop n t)).last = ap (λ (x : Texted). x.last) (whole-step t s n e) in
    subst (λ (l : Field). ((is_end l ≡ true) × (l ≡ End)) ⊎ ((is_end l ≡ false) × (l ≡ NoField (field_past l) 18))) (sym w) rest)
    (λ t e. let w : (whole_of t).last ≡ End = ap (λ (x : Texted). x.last) (whole-end t e) in inl (ap is_end w, w))
    (λ t r p e. let w : (whole_of t).last ≡ NoField p r = ap (λ (x : Texted). x.last) (whole-refused t r p e) in
    let k = (refused-18 t r p e).0 in
    inr (ap is_end w, w ∙ ap (λ (n : ℕ). NoField p n) k ∙ ap (λ (n : ℕ). NoField n 18) (sym (ap field_past w))))

-- ---- the answer by cases

module _ (cfg : Config) (st : State) (t b p : List ℕ) where
  survey-whole : AllMended cfg st t → survey_of (step_of cfg) cfg st t ≡ on_last (whole_of t).last (length (steps_in t)) (Whole (length (mended cfg st t)) (note_count (turns_in cfg st t)))
  unfolding survey_of
  survey-whole e = rw (eq-eqb (length (turns_in cfg st t)) (length (steps_in t)) (kept-length (step_of cfg) cfg st (steps_in t) e))

  survey-stop : Stop (step_of cfg) cfg st (steps_in t) (turns_in cfg st t) → survey_of (step_of cfg) cfg st t ≡ Refused (length (turns_in cfg st t) + 1) 31
  unfolding survey_of
  survey-stop x =
      let l = (stop-length (step_of cfg) cfg st (steps_in t) (turns_in cfg st t) x).1 in
      rw (ne_eqb (length (turns_in cfg st t)) (length (steps_in t)) (λ e. omega (arith, e, l)))

  mend-unsound : sound_of cfg st ≡ false → mend_to cfg st t b p ≡ Refused 0 1
  unfolding mend_to
  mend-unsound h = rw h

  pub mend-sound : sound_of cfg st ≡ true → (r : Mended) → survey_of (step_of cfg) cfg st t ≡ r → mend_to cfg st t b p ≡ fitted b p r
  unfolding mend_to
  mend-sound h r e = rw (h, e)

  pub mend-stop : sound_of cfg st ≡ true → Stop (step_of cfg) cfg st (steps_in t) (turns_in cfg st t) → mend_to cfg st t b p ≡ Refused (length (turns_in cfg st t) + 1) 31
  mend-stop h x = mend-sound h _ (survey-stop x)

  -- the text is a whole recording, and there is room
  pub mend-whole : sound_of cfg st ≡ true → AllMended cfg st t → is_sound t ≡ true → length (mended cfg st t) * step_size + end_size ≤ length b → note_count (turns_in cfg st t) * note_size ≤ length p
      → mend_to cfg st t b p ≡ Whole (length (mended cfg st t)) (note_count (turns_in cfg st t))
  mend-whole h e s l m =
      ⊎_elim
      (λ (x : (is_sound t ≡ true) × ((whole_of t).last ≡ End)).
      mend-sound h _ (survey-whole e ∙ ap (λ (y : Field). on_last y (length (steps_in t)) (Whole (length (mended cfg st t)) (note_count (turns_in cfg st t)))) x.1)
      ∙ rw (le-leb (length (mended cfg st t) * step_size + end_size) (length b) l, le-leb (note_count (turns_in cfg st t) * note_size) (length p) m))
      (λ (x : (is_sound t ≡ false) × ((whole_of t).last ≡ NoField (field_past (whole_of t).last) 18)). absurd (clash (is_sound t) s x.0))
      (last-is t)

  whole-fitted : (x y : Bool) → leb (length (mended cfg st t) * step_size + end_size) (length b) ≡ x → leb (note_count (turns_in cfg st t) * note_size) (length p) ≡ y
      → sound_of cfg st ≡ true → AllMended cfg st t → is_sound t ≡ true → mend_to cfg st t b p ≡ fitted b p (Whole (length (mended cfg st t)) (note_count (turns_in cfg st t))) → Outcome cfg st t b p (mend_to cfg st t b p)
  whole-fitted true true f g h e s q = whole h e s (leb-true _ _ f) (leb-true _ _ g) (q ∙ rw (f, g))
  whole-fitted true false f g h e s q = short h e s (inr (leb-false (note_count (turns_in cfg st t) * note_size) (length p) g)) (q ∙ rw (f, g))
  whole-fitted false y f g h e s q = short h e s (inl (leb-false (length (mended cfg st t) * step_size + end_size) (length b) f)) (q ∙ rw f)

  all-mended : sound_of cfg st ≡ true → AllMended cfg st t → Outcome cfg st t b p (mend_to cfg st t b p)
  all-mended h e =
      ⊎_elim
      (λ (l : (is_sound t ≡ true) × ((whole_of t).last ≡ End)).
      whole-fitted (leb (length (mended cfg st t) * step_size + end_size) (length b)) (leb (note_count (turns_in cfg st t) * note_size) (length p)) refl refl h e l.0
      (mend-sound h _ (survey-whole e ∙ ap (λ (x : Field). on_last x (length (steps_in t)) (Whole (length (mended cfg st t)) (note_count (turns_in cfg st t)))) l.1)))
      (λ (l : (is_sound t ≡ false) × ((whole_of t).last ≡ NoField (field_past (whole_of t).last) 18)).
      unread h e l.0 (mend-sound h _ (survey-whole e ∙ ap (λ (x : Field). on_last x (length (steps_in t)) (Whole (length (mended cfg st t)) (note_count (turns_in cfg st t)))) l.1)))
      (last-is t)

  by-soundness : (x : Bool) → sound_of cfg st ≡ x → Outcome cfg st t b p (mend_to cfg st t b p)
  by-soundness false h = unsound h (mend-unsound h)
  by-soundness true h =
      ⊎_elim (λ (e : AllMended cfg st t). all-mended h e)
      (λ (x : Stop (step_of cfg) cfg st (steps_in t) (turns_in cfg st t)). unfilled (length (turns_in cfg st t) + 1) h (stop-unfilled cfg st (steps_in t) x) (mend-stop h x))
      (turns-end (step_of cfg) cfg st (steps_in t))

pub answer-by-cases : AnswerByCases
answer-by-cases cfg st t b p = by-soundness cfg st t b p (sound_of cfg st) refl

pub refusals-are-four : RefusalsAreFour
refusals-are-four cfg st t b p place number h = go (answer-by-cases cfg st t b p)
  where
    go : Outcome cfg st t b p (mend_to cfg st t b p) → ((number ≡ 1) × (place ≡ 0)) ⊎ ((number ≡ 31) ⊎ ((number ≡ 18) ⊎ ((number ≡ 27) × (place ≡ 0))))
    go (unsound a e) = inl (cc, cc)
    go (unfilled q a u e) = inr (inl (cc))
    go (unread a m s e) = inr (inr (inl (cc)))
    go (short a m s l e) = inr (inr (inr (cc, cc)))
    go (whole a m s l k e) = absurd (let z : ◌≡◌ {A = ℕ} 0 1 = cc in omega arith)
