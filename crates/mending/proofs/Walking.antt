-- The walk over a recording: what holds before each field, and how a field moves it on. Survey and writing go by the same record.
-- Assumes nothing.
use Prim.Native.Nat.{ℕ, ◌+◌, ◌*◌, ◌≤◌, ◌<◌}
use mathlib.Core.Bool.{Bool, true, false}
use mathlib.Core.List.{List, [], ◌∷◌, ◌++◌, append_assoc, append-nil}
use mathlib.Core.Path.{◌≡◌, refl, sym, ap, ap₂, ◌∙◌, subst}
use native.Mathlib.Omega.{arith}
use lib.Dec.{eqb}
use lib.ListN.{length, get_or, drop, length-append}
use lib.Seq.{drop-drop}
use borrow.Author.Tests.{lt-ltb, le-ltb, eq-eqb, ne_eqb}
use Rattle.numbers.specs.Tags.{step_size}
use Rattle.laws.specs.Choice.{pick}
use Rattle.faces.specs.Types.{Value, Step, Taken, Refused as Barred, Config, State, Stepped}
use Rattle.effects.specs.Step.{inner_of}
use Rattle.recording.specs.declared.Field.{Field}
use Rattle.recording.specs.declared.Field.TheVariants.{Step as IsStep, End, Refused as NoField}
use Rattle.recording.specs.Recording.{field_of}
use Rattle.recording.specs.Whole.{Whole, whole_of, steps_in}
use Rattle.recording.proofs.Texts.{whole-step, whole-end, whole-refused}
use Rattle.recording.proofs.Loops.{step_room}
use Rattle.gaps.specs.declared.Choices.{Choices}
use Rattle.gaps.specs.declared.Mended.TheVariants.{Whole as Mends, Refused}
use Rattle.gaps.specs.Orders.{sequences, up_to_three}
use Rattle.gaps.specs.Gaps.{counts_of, choices_in, sequences_of, is_taken, answered, fills, rank_of, can_fill, fill_of, answered_all, state_after, Turn, turn_of, turn_steps, turns_of, mended_steps}
use Rattle.gaps.specs.Report.{note_count, on_last, survey_of}
use Rattle.gaps.proofs.Ordered.{passed-miss, length-all}
use Rattle.gaps.proofs.Members.{length-choices}
use Rattle.gaps.proofs.Turns.{bare, turns-on, turns-off, answered-length, rank-taken, bare-fills, turn-bare}
use Rattle.gaps.proofs.Same.{answered-is}
use Rattle.gaps.proofs.Reported.{mended-one, counted-one}
use Rattle.mending.specs.declared.Picks.{Picks}
use Rattle.searching.specs.Search.{Counted}
use Rattle.mending.specs.Going.{most_of, picks_of, picked, taken_all}
use Rattle.mending.proofs.Ranking.{picks-are, length-picked}
use Rattle.searching.proofs.Searching.{Passed}

-- ---- what holds before a field

-- the turns so far, as many as fields were passed; what is ahead makes up the rest
pub record Along (cfg : Config) (st : State) (t : List ℕ) (reached : State) (at : ℕ) (done : List Turn) : Type 0 where
  pub inside : at ≤ length t
  pub places : length done * step_size ≡ at
  pub turns : turns_of (inner_of cfg) cfg st (steps_in t) ≡ done ++ turns_of (inner_of cfg) cfg reached (steps_in (drop at t))
  pub steps : length (steps_in t) ≡ length done + length (steps_in (drop at t))
  pub last : (whole_of t).last ≡ (whole_of (drop at t)).last

pub along-starts : (cfg : Config) (st : State) (t : List ℕ) → Along cfg st t st 0 []
along-starts cfg st t = record { inside = omega arith; places = omega arith; turns = refl; steps = omega arith; last = refl }

-- ---- a field that is a step

module _ (cfg : Config) (st : State) (t : List ℕ) (reached : State) (at : ℕ) (done : List Turn) (w : Along cfg st t reached at done) (x : Step) (size : ℕ) (e : field_of (drop at t) ≡ IsStep x size) where
  next-steps : steps_in (drop at t) ≡ x ∷ steps_in (drop (at + size) t)
  next-steps = ap (λ (v : Whole). v.steps) (whole-step (drop at t) x size e) ∙ ap (λ (u : List ℕ). x ∷ steps_in u) (drop-drop size at t)

  next_last : (whole_of (drop at t)).last ≡ (whole_of (drop (at + size) t)).last
  next_last = ap (λ (v : Whole). v.last) (whole-step (drop at t) x size e) ∙ ap (λ (u : List ℕ). (whole_of u).last) (drop-drop size at t)

  next-turns : can_fill (inner_of cfg) cfg reached x ≡ true
      → turns_of (inner_of cfg) cfg reached (steps_in (drop at t)) ≡ turn_of (inner_of cfg) cfg reached x ∷ turns_of (inner_of cfg) cfg (state_after (inner_of cfg) reached (turn_steps (turn_of (inner_of cfg) cfg reached x))) (steps_in (drop (at + size) t))
  next-turns h = ap (turns_of (inner_of cfg) cfg reached) next-steps ∙ turns-on (inner_of cfg) cfg reached x _ h

  -- the gap before it is filled
  pub along-step : can_fill (inner_of cfg) cfg reached x ≡ true → (next : State) → next ≡ state_after (inner_of cfg) reached (turn_steps (turn_of (inner_of cfg) cfg reached x)) → Along cfg st t next (at + size) (done ++ (turn_of (inner_of cfg) cfg reached x ∷ []))
  along-step h next q =
      let room = step_room t at size x w.inside e in
      record {
        inside = room.0;
        places = omega (arith, length-append (done) (turn_of (inner_of cfg) cfg reached x ∷ []), w.places, room.1);
        turns =
            w.turns ∙ ap (λ (l : List Turn). done ++ l) (next-turns h)
            ∙ sym (append_assoc (done) (turn_of (inner_of cfg) cfg reached x ∷ []) _)
            ∙ ap (λ (y : State). (done ++ (turn_of (inner_of cfg) cfg reached x ∷ [])) ++ turns_of (inner_of cfg) cfg y (steps_in (drop (at + size) t))) (sym q);
        steps = omega (arith, w.steps, ap length next-steps, length-append (done) (turn_of (inner_of cfg) cfg reached x ∷ []));
        last = w.last ∙ next_last;
      }

  -- it can't be filled
  pub along_stuck : can_fill (inner_of cfg) cfg reached x ≡ false → Refused (length (done) + 1) 31 ≡ survey_of (inner_of cfg) cfg st t
  unfolding survey_of
  along_stuck h =
      let none : turns_of (inner_of cfg) cfg reached (steps_in (drop at t)) ≡ [] = ap (turns_of (inner_of cfg) cfg reached) next-steps ∙ turns-off (inner_of cfg) cfg reached x _ h in
      let all : turns_of (inner_of cfg) cfg st (steps_in t) ≡ done = w.turns ∙ ap (λ (l : List Turn). done ++ l) none ∙ append-nil (done) in
      let less : length (done) ≡ length (steps_in t) → ⊥ = λ q. omega (arith, w.steps, ap length next-steps, q) in
      rw (all, ne_eqb _ _ less)

-- ---- a field that is none

-- a field that is no step is all that is left
pub no_step : (t : List ℕ) (f : Field) → ((x : Step) (n : ℕ) → f ≡ IsStep x n → ⊥) → f ≡ field_of t → whole_of t ≡ record { steps = []; last = f }
no_step t (IsStep x n) p e = absurd (p x n refl)
no_step t End p e = whole-end t (sym e)
no_step t (NoField n k) p e = whole-refused t k n (sym e)

module _ (cfg : Config) (st : State) (t : List ℕ) (reached : State) (at : ℕ) (done : List Turn) (w : Along cfg st t reached at done) (f : Field) (e : whole_of (drop at t) ≡ record { steps = []; last = f }) where
  over : turns_of (inner_of cfg) cfg st (steps_in t) ≡ done
  unfolding turns_of
  over =
      w.turns ∙ ap (λ (v : Whole). done ++ turns_of (inner_of cfg) cfg reached v.steps) e ∙ append-nil (done)

  pub along-ended : on_last f (length (done)) (Mends (length (mended_steps (done))) (note_count (done))) ≡ survey_of (inner_of cfg) cfg st t
  unfolding survey_of
  along-ended =
      let long : length (steps_in t) ≡ length (done) = omega (arith, w.steps, ap (λ (v : Whole). length v.steps) e) in
      let last : (whole_of t).last ≡ f = w.last ∙ ap (λ (v : Whole). v.last) e in
      rw (over, long, eq-eqb (length (done)) (length (done)) refl, last)

-- ---- the turn of a step

-- choices taken in turn and a step behind them
pub after-taken : (cfg : Config) (st : State) (s : Step) (xs : List Step) → state_after (inner_of cfg) st (answered_all (inner_of cfg) cfg st xs ++ (s ∷ [])) ≡ (inner_of cfg (taken_all cfg st xs) s).state
unfolding state_after answered_all taken_all
after-taken cfg st s [] = refl
after-taken cfg st s (x ∷ xs) =
    after-taken cfg (inner_of cfg st (answered cfg st x)).state s xs
    ∙ ap (λ (r : Stepped). (inner_of cfg (taken_all cfg r.state xs) s).state) (answered-is cfg st x)

pub most-is : (cfg : Config) {k : ℕ} → Counted (counts_of cfg) k → length (sequences_of cfg) ≡ most_of k
unfolding sequences_of
most-is cfg {k} c = length-all (choices_in (counts_of cfg)) ∙ ap most_of (length-choices (counts_of cfg) ∙ sym c.is)

module _ (cfg : Config) (st : State) (s : Step) {r : Stepped} (q : r ≡ inner_of cfg st s) where
  -- a step that is accepted as it stands
  module _ (v : Value) (taken : r.answer ≡ Taken v) where
    pub kept-rank : rank_of (inner_of cfg) cfg st s ≡ 0
    kept-rank = rank-taken (inner_of cfg) cfg st s (ap (λ (y : Stepped). is_taken y.answer) (sym q) ∙ ap is_taken taken)

    pub kept_fills : can_fill (inner_of cfg) cfg st s ≡ true
    kept_fills = bare-fills (inner_of cfg) cfg st s kept-rank

    pub kept-none : (turn_of (inner_of cfg) cfg st s).inserted ≡ []
    unfolding bare
    kept-none = ap (λ (t : Turn). t.inserted) (turn-bare (inner_of cfg) cfg st s kept-rank)

    pub kept-state : r.state ≡ state_after (inner_of cfg) st (turn_steps (turn_of (inner_of cfg) cfg st s))
    unfolding state_after
    kept-state = ap (λ (y : Stepped). y.state) q ∙ sym (ap (λ (l : List Step). state_after (inner_of cfg) st (l ++ (s ∷ []))) kept-none)

  -- one that is refused
  pub refused-rank : (n : ℕ) → r.answer ≡ Barred n → 0 < rank_of (inner_of cfg) cfg st s
  unfolding rank_of sequences_of up_to_three sequences fills
  refused-rank n barred =
      let xs = choices_in (counts_of cfg) in
      omega (arith, passed-miss (fills (inner_of cfg) cfg st s) [] (sequences xs 1 ++ (sequences xs 2 ++ sequences xs 3)) (ap (λ (y : Stepped). is_taken y.answer) (sym q) ∙ ap is_taken barred))

-- a gap whose fill was found
module _ (cfg : Config) (st : State) (s : Step) {k passed : ℕ} {fill : Picks} {next : State} {last : Stepped}
    (counted : Counted (counts_of cfg) k) (found : passed ≡ Passed cfg st s (up_to_three (choices_in (counts_of cfg)))) (some : passed < most_of k)
    (picks : fill ≡ picks_of k passed) (taken : next ≡ taken_all cfg st (picked (counts_of cfg) fill)) (stepped : last ≡ inner_of cfg next s) where
  pub found-rank : passed ≡ rank_of (inner_of cfg) cfg st s
  unfolding rank_of sequences_of
  found-rank = found

  pub found-fills : can_fill (inner_of cfg) cfg st s ≡ true
  found-fills = lt-ltb (rank_of (inner_of cfg) cfg st s) (length (sequences_of cfg)) (omega (arith, found-rank, most-is cfg counted))

  pub found-fill : picked (counts_of cfg) fill ≡ fill_of (inner_of cfg) cfg st s
  unfolding sequences_of
  found-fill =
      ap (picked (counts_of cfg)) picks ∙ picks-are (counts_of cfg) counted passed some
      ∙ ap (λ (n : ℕ). get_or (up_to_three (choices_in (counts_of cfg))) n []) found-rank

  pub found-state : last.state ≡ state_after (inner_of cfg) st (turn_steps (turn_of (inner_of cfg) cfg st s))
  found-state =
      ap (λ (y : Stepped). y.state) stepped ∙ ap (λ (y : State). (inner_of cfg y s).state) (taken ∙ ap (taken_all cfg st) found-fill)
      ∙ sym (after-taken cfg st s (fill_of (inner_of cfg) cfg st s))

  pub found-length : fill.length ≤ 3 → length (turn_of (inner_of cfg) cfg st s).inserted ≡ fill.length
  found-length h =
      answered-length (inner_of cfg) cfg st (fill_of (inner_of cfg) cfg st s) ∙ ap length (sym found-fill) ∙ length-picked (counts_of cfg) fill h

-- no sequence fills it
pub missing : (cfg : Config) (st : State) (s : Step) {k passed : ℕ} → Counted (counts_of cfg) k → passed ≡ Passed cfg st s (up_to_three (choices_in (counts_of cfg))) → most_of k ≤ passed → can_fill (inner_of cfg) cfg st s ≡ false
unfolding rank_of sequences_of
missing cfg st s counted found many = le-ltb (rank_of (inner_of cfg) cfg st s) (length (sequences_of cfg)) (omega (arith, found, most-is cfg counted, many))

-- ---- the survey: the same, counted

pub record Surveying (cfg : Config) (st : State) (t : List ℕ) (reached : State) (count steps notes at : ℕ) : Type 0 where
  pub done : List Turn
  pub along : Along cfg st t reached at done
  pub counts : count ≡ length (done)
  pub mends : steps ≡ length (mended_steps (done))
  pub reports : notes ≡ note_count (done)
  pub few-steps : steps ≤ count * 4
  pub few-notes : notes ≤ count * 4

pub surveying-starts : (cfg : Config) (st : State) (t : List ℕ) → Surveying cfg st t st 0 0 0 0
unfolding mended_steps note_count
surveying-starts cfg st t = record { done = []; along = along-starts cfg st t; counts = refl; mends = refl; reports = refl; few-steps = omega arith; few-notes = omega arith }

module _ (cfg : Config) (st : State) (t : List ℕ) (reached : State) (count steps notes at : ℕ) (w : Surveying cfg st t reached count steps notes at) where
  -- the counts are small against the text
  pub surveying-room : (count * step_size ≤ length t) × (steps * 4 ≤ length t) × (notes * 4 ≤ length t)
  surveying-room =
      let i = w.along.inside in
      let p = w.along.places in
      (omega (arith, w.counts, i, p), omega (arith, w.counts, i, p, w.few-steps), omega (arith, w.counts, i, p, w.few-notes))

  pub surveying-ended : (f : Field) → whole_of (drop at t) ≡ record { steps = []; last = f } → on_last f count (Mends steps notes) ≡ survey_of (inner_of cfg) cfg st t
  surveying-ended f e = rw (w.counts, w.mends, w.reports) (along-ended cfg st t reached at w.done w.along f e)

  module _ (x : Step) (size : ℕ) (e : field_of (drop at t) ≡ IsStep x size) {all : Choices} {k : ℕ} (alls : all ≡ counts_of cfg) (counted : Counted all k) where
    counted' : Counted (counts_of cfg) k
    counted' = subst (λ (n : Choices). Counted n k) alls counted

    -- the turn is one more, whose step brings so many to the text and to the report
    surveying-turn : (m n : ℕ) (next : State) → can_fill (inner_of cfg) cfg reached x ≡ true → next ≡ state_after (inner_of cfg) reached (turn_steps (turn_of (inner_of cfg) cfg reached x))
        → length (turn_steps (turn_of (inner_of cfg) cfg reached x)) ≡ m → pick (eqb (rank_of (inner_of cfg) cfg reached x) 0) 0 (length (turn_of (inner_of cfg) cfg reached x).inserted + 1) ≡ n → m ≤ 4 → n ≤ 4
        → Surveying cfg st t next (count + 1) (steps + m) (notes + n) (at + size)
    surveying-turn m n next h q lm ln bm bn =
        record {
          done = w.done ++ (turn_of (inner_of cfg) cfg reached x ∷ []);
          along = along-step cfg st t reached at w.done w.along x size e h next q;
          counts = omega (arith, w.counts, length-append w.done (turn_of (inner_of cfg) cfg reached x ∷ []));
          mends =
              ap₂ ◌+◌ w.mends (sym lm) ∙ sym (length-append (mended_steps w.done) (turn_steps (turn_of (inner_of cfg) cfg reached x)))
              ∙ ap length (sym (mended-one w.done (turn_of (inner_of cfg) cfg reached x)));
          reports = ap₂ ◌+◌ w.reports (sym ln) ∙ sym (counted-one w.done (turn_of (inner_of cfg) cfg reached x));
          few-steps = omega (arith, w.few-steps, bm);
          few-notes = omega (arith, w.few-notes, bn);
        }

    pub surveying-kept : {r : Stepped} → r ≡ inner_of cfg reached x → (v : Value) → r.answer ≡ Taken v → Surveying cfg st t r.state (count + 1) (steps + 1) notes (at + size)
    surveying-kept {r} q v taken =
        let zero' : notes + 0 ≡ notes = omega arith in
        subst (λ (n : ℕ). Surveying cfg st t r.state (count + 1) (steps + 1) n (at + size)) zero'
        (surveying-turn 1 0 r.state (kept_fills cfg reached x q v taken) (kept-state cfg reached x q v taken)
        (ap (λ (l : List Step). length (l ++ (x ∷ []))) (kept-none cfg reached x q v taken))
        (ap (λ (n : ℕ). pick (eqb n 0) 0 (length (turn_of (inner_of cfg) cfg reached x).inserted + 1)) (kept-rank cfg reached x q v taken))
        (omega arith) (omega arith))

    module _ {r : Stepped} (q : r ≡ inner_of cfg reached x) (n : ℕ) (barred : r.answer ≡ Barred n) {passed : ℕ} (found : passed ≡ Passed cfg reached x (up_to_three (choices_in all))) where
      found' : passed ≡ Passed cfg reached x (up_to_three (choices_in (counts_of cfg)))
      found' = found ∙ ap (λ (a : Choices). Passed cfg reached x (up_to_three (choices_in a))) alls

      pub surveying-stuck : most_of k ≤ passed → Refused (count + 1) 31 ≡ survey_of (inner_of cfg) cfg st t
      surveying-stuck many = ap (λ (m : ℕ). Refused (m + 1) 31) w.counts ∙ along_stuck cfg st t reached at w.done w.along x size e (missing cfg reached x counted' found' many)

      pub surveying-filled : {fill : Picks} {next : State} {last : Stepped} → passed < most_of k → fill ≡ picks_of k passed → fill.length ≤ 3 → next ≡ taken_all cfg reached (picked all fill) → last ≡ inner_of cfg next x
          → Surveying cfg st t last.state (count + 1) (steps + (fill.length + 1)) (notes + (fill.length + 1)) (at + size)
      surveying-filled {fill} {next} {last} some picks short taken stepped =
          let taken' : next ≡ taken_all cfg reached (picked (counts_of cfg) fill) = taken ∙ ap (λ (a : Choices). taken_all cfg reached (picked a fill)) alls in
          let long = found-length cfg reached x counted' found' some picks taken' stepped short in
          let gap : rank_of (inner_of cfg) cfg reached x ≡ 0 → ⊥ = λ z. omega (arith, refused-rank cfg reached x q n barred, z) in
          surveying-turn (fill.length + 1) (fill.length + 1) last.state
          (found-fills cfg reached x counted' found' some picks taken' stepped) (found-state cfg reached x counted' found' some picks taken' stepped)
          (length-append (turn_of (inner_of cfg) cfg reached x).inserted (x ∷ []) ∙ omega (arith, long))
          (ap (λ (b : Bool). pick b 0 (length (turn_of (inner_of cfg) cfg reached x).inserted + 1)) (ne_eqb _ _ gap) ∙ omega (arith, long))
          (omega arith) (omega arith)
