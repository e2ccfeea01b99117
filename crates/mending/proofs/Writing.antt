-- A recording written turn by turn: what the loop keeps, and what it is at the end.
-- Assumes nothing.
use Prim.Native.Nat.{ℕ, ◌+◌, ◌*◌, ◌≤◌}
use mathlib.Core.Bool.{Bool, true, false}
use mathlib.Core.List.{List, [], ◌∷◌, ◌++◌, append-nil}
use mathlib.Core.Path.{◌≡◌, refl, sym, ap, ap₂, ◌∙◌, subst}
use native.Mathlib.Omega.{arith}
use lib.Dec.{eqb}
use lib.ListN.{length, drop, length-append}
use borrow.Author.Tests.{ne_eqb}
use Rattle.numbers.specs.Tags.{step_size, end_size}
use Rattle.laws.specs.Choice.{pick}
use Rattle.faces.specs.Types.{Value, Step, Taken, Refused as Barred, Config, State, Stepped}
use Rattle.effects.specs.Step.{inner_of}
use Rattle.wire.specs.Bytes.{end_bytes, put_at, Written}
use Rattle.wire.specs.declared.Wrote.{Wrote}
use Rattle.recording.specs.declared.Field.{Field}
use Rattle.recording.specs.declared.Field.TheVariants.{Step as IsStep, End, Refused as NoField}
use Rattle.recording.specs.Recording.{field_of, step_written}
use Rattle.recording.specs.Whole.{Whole, whole_of, steps_in, text_of}
use Rattle.recording.proofs.OneField.{step-told}
use Rattle.gaps.specs.declared.Choices.{Choices}
use Rattle.gaps.specs.declared.Mended.TheVariants.{Whole as Mends, Refused}
use Rattle.gaps.specs.Gaps.{counts_of, can_fill, rank_of, fill_of, state_after, Turn, turn_of, turn_steps, turns_of, mended_steps}
use Rattle.gaps.specs.Report.{gap_note, step_notes, turn_notes, report_from, note_count, on_last, survey_of, note_size}
use Rattle.gaps.proofs.Reported.{report-length, mended-one, counted-one, report-one, mended-append, counted-append}
use Rattle.gaps.proofs.Turns.{answered-length}
use Rattle.mending.specs.declared.Crossed.{Crossed}
use Rattle.mending.specs.Going.{fields_of, Fillable, Mendable, crossed_of}
use Rattle.mending.proofs.Putting.{put-none, length-put, put-more, wrote-fits, step_fits, length_fields, fields-append, fields-one, text-fields}
use Rattle.mending.proofs.Walking.{Along, along-starts, along-step, along_stuck, after-taken, kept-rank, kept-none, kept-state, refused-rank}

-- ---- what a survey without a refusal tells

pub refuses : {p k a b : ℕ} {A : Type 0} → Refused p k ≡ Mends a b → A
refuses e = absurd (let z : ◌≡◌ {A = ℕ} 0 1 = cc in omega arith)

-- the steps and the notes are those of the turns
pub survey-counts : (cfg : Config) (st : State) (t : List ℕ) (n m : ℕ) → survey_of (inner_of cfg) cfg st t ≡ Mends n m
    → (n ≡ length (mended_steps (turns_of (inner_of cfg) cfg st (steps_in t)))) × (m ≡ note_count (turns_of (inner_of cfg) cfg st (steps_in t)))
unfolding survey_of
survey-counts cfg st t n m h = go (eqb (length (turns_of (inner_of cfg) cfg st (steps_in t))) (length (steps_in t))) (whole_of t).last h
  where
    ts : List Turn
    ts = turns_of (inner_of cfg) cfg st (steps_in t)

    go : (b : Bool) (f : Field) → pick b (on_last f (length (steps_in t)) (Mends (length (mended_steps ts)) (note_count ts))) (Refused (length ts + 1) 31) ≡ Mends n m → (n ≡ length (mended_steps ts)) × (m ≡ note_count ts)
    go true (IsStep s z) e = refuses e
    go true End e = (cc, cc)
    go true (NoField p k) e = refuses e
    go false f e = refuses e

-- ---- the loop

module _ (cfg : Config) (st : State) (t out₀ report₀ : List ℕ) where
  pub record Writing (out report : List ℕ) (reached : State) (steps notes at : ℕ) : Type 0 where
    pub done : List Turn
    pub along : Along cfg st t reached at done
    pub mends : steps ≡ length (mended_steps done)
    pub reports : notes ≡ note_count done
    pub text : out ≡ put_at out₀ 0 (fields_of (mended_steps done))
    pub told : report ≡ put_at report₀ 0 (report_from 0 done)
    pub out-same : length out ≡ length out₀
    pub report-same : length report ≡ length report₀

  pub writing-starts : Writing out₀ report₀ st 0 0 0
  unfolding mended_steps note_count fields_of report_from
  writing-starts = record {
    done = [];
    along = along-starts cfg st t;
    mends = refl;
    reports = refl;
    text = sym (put-none out₀ 0);
    told = sym (put-none report₀ 0);
    out-same = refl;
    report-same = refl;
  }

  module _ (can : Mendable cfg st t (length out₀) (length report₀)) (out report : List ℕ) (reached : State) (steps notes at : ℕ) (w : Writing out report reached steps notes at) where
    -- what is done and one turn more has room
    fits-turn : (u : Turn) (us : List Turn) → turns_of (inner_of cfg) cfg st (steps_in t) ≡ (w.done ++ (u ∷ [])) ++ us
        → ((steps + length (turn_steps u)) * step_size + end_size ≤ length out₀) × ((notes + pick (eqb u.passed 0) 0 (length u.inserted + 1)) * note_size ≤ length report₀)
    fits-turn u us e =
        let c = survey-counts cfg st t can.steps can.notes can.survey in
        let a = c.0 ∙ ap (λ (l : List Turn). length (mended_steps l)) e ∙ ap length (mended-append (w.done ++ (u ∷ [])) us) ∙ length-append (mended_steps (w.done ++ (u ∷ []))) (mended_steps us) in
        let b = ap length (mended-one w.done u) ∙ length-append (mended_steps w.done) (turn_steps u) in
        let d = c.1 ∙ ap note_count e ∙ counted-append (w.done ++ (u ∷ [])) us in
        (omega (arith, a, b, w.mends, can.text), omega (arith, d, counted-one w.done u, w.reports, can.note))

    -- what is done has room
    pub writing-room : (steps * step_size + end_size ≤ length out₀) × (notes * note_size ≤ length report₀)
    writing-room =
        let c = survey-counts cfg st t can.steps can.notes can.survey in
        let e = w.along.turns in
        let r = turns_of (inner_of cfg) cfg reached (steps_in (drop at t)) in
        let a = c.0 ∙ ap (λ (l : List Turn). length (mended_steps l)) e ∙ ap length (mended-append w.done r) ∙ length-append (mended_steps w.done) (mended_steps r) in
        let d = c.1 ∙ ap note_count e ∙ counted-append w.done r in
        (omega (arith, a, w.mends, can.text), omega (arith, d, w.reports, can.note))

    -- the end
    pub writing-ended : (f : Field) → whole_of (drop at t) ≡ record { steps = []; last = f } → {r : Wrote} {out' : List ℕ} → Written out (steps * step_size) end_bytes r out'
        → (out' ≡ put_at out₀ 0 (text_of (mended_steps (turns_of (inner_of cfg) cfg st (steps_in t))))) × (report ≡ put_at report₀ 0 (report_from 0 (turns_of (inner_of cfg) cfg st (steps_in t)))) × (length out' ≡ length out₀)
    unfolding turns_of
    writing-ended f e {r} {out'} wrote =
        let all : turns_of (inner_of cfg) cfg st (steps_in t) ≡ w.done = w.along.turns ∙ ap (λ (v : Whole). w.done ++ turns_of (inner_of cfg) cfg reached v.steps) e ∙ append-nil w.done in
        let put : out' ≡ put_at out₀ 0 (text_of (mended_steps w.done)) =
        wrote.bytes ∙ wrote-fits out end_bytes (steps * step_size) (omega (arith, writing-room.0, w.out-same))
        ∙ ap (λ (b : List ℕ). put_at b (steps * step_size) end_bytes) w.text
        ∙ put-more out₀ (fields_of (mended_steps w.done)) end_bytes 0 (steps * step_size) (omega arith) (omega (arith, length_fields (mended_steps w.done), w.mends))
        ∙ ap (put_at out₀ 0) (sym (text-fields (mended_steps w.done))) in
        let long : length (text_of (mended_steps w.done)) ≡ steps * step_size + end_size = ap length (text-fields (mended_steps w.done)) ∙ length-append (fields_of (mended_steps w.done)) end_bytes ∙ omega (arith, length_fields (mended_steps w.done), w.mends) in (
          put ∙ ap (λ (l : List Turn). put_at out₀ 0 (text_of (mended_steps l))) (sym all),
          w.told ∙ ap (λ (l : List Turn). put_at report₀ 0 (report_from 0 l)) (sym all),
          ap length put ∙ length-put out₀ (text_of (mended_steps w.done)) 0 (omega (arith, long, writing-room.0)),
        )

    module _ (x : Step) (size : ℕ) (e : field_of (drop at t) ≡ IsStep x size) where
      -- no gap is without a fill
      fillable : can_fill (inner_of cfg) cfg reached x ≡ true
      fillable = go (can_fill (inner_of cfg) cfg reached x) refl
        where
          go : (b : Bool) → can_fill (inner_of cfg) cfg reached x ≡ b → b ≡ true
          go true h = refl
          go false h = refuses (along_stuck cfg st t reached at w.done w.along x size e h ∙ can.survey)

      moved : Along cfg st t (state_after (inner_of cfg) reached (turn_steps (turn_of (inner_of cfg) cfg reached x))) (at + size) (w.done ++ (turn_of (inner_of cfg) cfg reached x ∷ []))
      moved = along-step cfg st t reached at w.done w.along x size e fillable _ refl

      fit : ((steps + length (turn_steps (turn_of (inner_of cfg) cfg reached x))) * step_size + end_size ≤ length out₀) × ((notes + pick (eqb (rank_of (inner_of cfg) cfg reached x) 0) 0 (length (turn_of (inner_of cfg) cfg reached x).inserted + 1)) * note_size ≤ length report₀)
      fit = fits-turn (turn_of (inner_of cfg) cfg reached x) _ moved.turns

      -- one turn more is written
      writing-turn : (next : State) → next ≡ state_after (inner_of cfg) reached (turn_steps (turn_of (inner_of cfg) cfg reached x)) → {out' report' : List ℕ}
          → out' ≡ put_at out (steps * step_size) (fields_of (turn_steps (turn_of (inner_of cfg) cfg reached x))) → report' ≡ put_at report (notes * note_size) (turn_notes steps (turn_of (inner_of cfg) cfg reached x))
          → Writing out' report' next (steps + length (turn_steps (turn_of (inner_of cfg) cfg reached x))) (notes + pick (eqb (rank_of (inner_of cfg) cfg reached x) 0) 0 (length (turn_of (inner_of cfg) cfg reached x).inserted + 1)) (at + size)
      writing-turn next q {out'} {report'} put note =
          let long : length (mended_steps (w.done ++ (turn_of (inner_of cfg) cfg reached x ∷ []))) ≡ steps + length (turn_steps (turn_of (inner_of cfg) cfg reached x)) =
          ap length (mended-one w.done (turn_of (inner_of cfg) cfg reached x)) ∙ length-append (mended_steps w.done) (turn_steps (turn_of (inner_of cfg) cfg reached x)) ∙ omega (arith, w.mends) in
          let many : note_count (w.done ++ (turn_of (inner_of cfg) cfg reached x ∷ [])) ≡ notes + pick (eqb (rank_of (inner_of cfg) cfg reached x) 0) 0 (length (turn_of (inner_of cfg) cfg reached x).inserted + 1) =
          counted-one w.done (turn_of (inner_of cfg) cfg reached x) ∙ omega (arith, w.reports) in
          let tx : out' ≡ put_at out₀ 0 (fields_of (mended_steps (w.done ++ (turn_of (inner_of cfg) cfg reached x ∷ [])))) =
          put ∙ ap (λ (b : List ℕ). put_at b (steps * step_size) (fields_of (turn_steps (turn_of (inner_of cfg) cfg reached x)))) w.text
          ∙ put-more out₀ (fields_of (mended_steps w.done)) (fields_of (turn_steps (turn_of (inner_of cfg) cfg reached x))) 0 (steps * step_size) (omega arith) (omega (arith, length_fields (mended_steps w.done), w.mends))
          ∙ ap (put_at out₀ 0) (sym (ap fields_of (mended-one w.done (turn_of (inner_of cfg) cfg reached x)) ∙ fields-append (mended_steps w.done) (turn_steps (turn_of (inner_of cfg) cfg reached x)))) in
          let nt : report' ≡ put_at report₀ 0 (report_from 0 (w.done ++ (turn_of (inner_of cfg) cfg reached x ∷ []))) =
          note ∙ ap₂ (λ (b : List ℕ) (k : ℕ). put_at b (notes * note_size) (turn_notes k (turn_of (inner_of cfg) cfg reached x))) w.told w.mends
          ∙ put-more report₀ (report_from 0 w.done) (turn_notes (length (mended_steps w.done)) (turn_of (inner_of cfg) cfg reached x)) 0 (notes * note_size) (omega arith) (omega (arith, report-length 0 w.done, w.reports))
          ∙ ap (put_at report₀ 0) (sym (report-one 0 w.done (turn_of (inner_of cfg) cfg reached x) ∙ ap (λ (k : ℕ). report_from 0 w.done ++ turn_notes k (turn_of (inner_of cfg) cfg reached x)) (let z : 0 + length (mended_steps w.done) ≡ length (mended_steps w.done) = omega arith in z))) in
          record {
            done = w.done ++ (turn_of (inner_of cfg) cfg reached x ∷ []);
            along = subst (λ (y : State). Along cfg st t y (at + size) (w.done ++ (turn_of (inner_of cfg) cfg reached x ∷ []))) (sym q) moved;
            mends = sym long;
            reports = sym many;
            text = tx;
            told = nt;
            out-same = ap length tx ∙ length-put out₀ (fields_of (mended_steps (w.done ++ (turn_of (inner_of cfg) cfg reached x ∷ [])))) 0 (omega (arith, length_fields (mended_steps (w.done ++ (turn_of (inner_of cfg) cfg reached x ∷ []))), long, fit.0));
            report-same = ap length nt ∙ length-put report₀ (report_from 0 (w.done ++ (turn_of (inner_of cfg) cfg reached x ∷ []))) 0 (omega (arith, report-length 0 (w.done ++ (turn_of (inner_of cfg) cfg reached x ∷ [])), many, fit.1));
          }

      -- the step is accepted as it stands
      pub writing-kept : {r : Stepped} → r ≡ inner_of cfg reached x → (v : Value) → r.answer ≡ Taken v → {out' : List ℕ} → out' ≡ step_written out (steps * step_size) x
          → Writing out' report r.state (steps + 1) notes (at + size)
      unfolding turn_notes
      writing-kept {r} q v taken {out'} put =
          let none : (turn_of (inner_of cfg) cfg reached x).inserted ≡ [] = kept-none cfg reached x q v taken in
          let rank : rank_of (inner_of cfg) cfg reached x ≡ 0 = kept-rank cfg reached x q v taken in
          let one : length (turn_steps (turn_of (inner_of cfg) cfg reached x)) ≡ 1 = ap (λ (l : List Step). length (l ++ (x ∷ []))) none in
          let zero' : pick (eqb (rank_of (inner_of cfg) cfg reached x) 0) 0 (length (turn_of (inner_of cfg) cfg reached x).inserted + 1) ≡ 0 = ap (λ (n : ℕ). pick (eqb n 0) 0 (length (turn_of (inner_of cfg) cfg reached x).inserted + 1)) rank in
          let plain : notes + 0 ≡ notes = omega arith in
          let text : out' ≡ put_at out (steps * step_size) (fields_of (turn_steps (turn_of (inner_of cfg) cfg reached x))) =
          put ∙ step_fits out (steps * step_size) x (step-told (drop at t) x size e).good (omega (arith, fit.0, one, w.out-same))
          ∙ ap (put_at out (steps * step_size)) (sym (ap (λ (l : List Step). fields_of (l ++ (x ∷ []))) none ∙ fields-one x)) in
          let note : report ≡ put_at report (notes * note_size) (turn_notes steps (turn_of (inner_of cfg) cfg reached x)) =
          sym (ap (λ (n : ℕ). put_at report (notes * note_size) (pick (eqb n 0) [] (step_notes steps (turn_of (inner_of cfg) cfg reached x).inserted ++ gap_note (steps + length (turn_of (inner_of cfg) cfg reached x).inserted + 1) (rank_of (inner_of cfg) cfg reached x)))) rank ∙ put-none report (notes * note_size)) in
          subst (λ (m : ℕ). Writing out' report r.state (steps + 1) m (at + size)) (ap (λ (m : ℕ). notes + m) zero' ∙ plain)
          (subst (λ (m : ℕ). Writing out' report r.state (steps + m) (notes + pick (eqb (rank_of (inner_of cfg) cfg reached x) 0) 0 (length (turn_of (inner_of cfg) cfg reached x).inserted + 1)) (at + size)) one
          (writing-turn r.state (kept-state cfg reached x q v taken) text note))

      -- it is refused as it stands
      module _ {r : Stepped} (q : r ≡ inner_of cfg reached x) (n : ℕ) (barred : r.answer ≡ Barred n) {all : Choices} (alls : all ≡ counts_of cfg) where
        noted : pick (eqb (rank_of (inner_of cfg) cfg reached x) 0) 0 (length (turn_of (inner_of cfg) cfg reached x).inserted + 1) ≡ length (turn_steps (turn_of (inner_of cfg) cfg reached x))
        noted =
            let gap : rank_of (inner_of cfg) cfg reached x ≡ 0 → ⊥ = λ z. omega (arith, refused-rank cfg reached x q n barred, z) in
            ap (λ (b : Bool). pick b 0 (length (turn_of (inner_of cfg) cfg reached x).inserted + 1)) (ne_eqb _ _ gap) ∙ sym (length-append (turn_of (inner_of cfg) cfg reached x).inserted (x ∷ []))

        pub writing-gap : Fillable cfg reached x all steps notes (length out) (length report)
        writing-gap = record {
          counts = alls;
          fills = fillable;
          gap = refused-rank cfg reached x q n barred;
          good = (step-told (drop at t) x size e).good;
          room = record { text = omega (arith, fit.0, w.out-same); note = omega (arith, fit.1, noted, w.report-same) };
        }

        pub writing-filled : {c : Crossed} {out' report' : List ℕ} → c ≡ crossed_of cfg reached x → out' ≡ put_at out (steps * step_size) (fields_of (turn_steps (turn_of (inner_of cfg) cfg reached x)))
            → report' ≡ put_at report (notes * note_size) (turn_notes steps (turn_of (inner_of cfg) cfg reached x)) → Writing out' report' c.state (steps + (c.inserted + 1)) (notes + (c.inserted + 1)) (at + size)
        writing-filled {c} {out'} {report'} crossed put note =
            let more : length (turn_steps (turn_of (inner_of cfg) cfg reached x)) ≡ c.inserted + 1 =
            length-append (turn_of (inner_of cfg) cfg reached x).inserted (x ∷ [])
            ∙ ap (λ (k : ℕ). k + 1) (answered-length (inner_of cfg) cfg reached (fill_of (inner_of cfg) cfg reached x) ∙ sym (ap (λ (y : Crossed). y.inserted) crossed)) in
            let next : c.state ≡ state_after (inner_of cfg) reached (turn_steps (turn_of (inner_of cfg) cfg reached x)) =
            ap (λ (y : Crossed). y.state) crossed ∙ sym (after-taken cfg reached x (fill_of (inner_of cfg) cfg reached x)) in
            subst (λ (m : ℕ). Writing out' report' c.state (steps + (c.inserted + 1)) (notes + m) (at + size)) (noted ∙ more)
            (subst (λ (m : ℕ). Writing out' report' c.state (steps + m) (notes + pick (eqb (rank_of (inner_of cfg) cfg reached x) 0) 0 (length (turn_of (inner_of cfg) cfg reached x).inserted + 1)) (at + size)) more
            (writing-turn c.state next put note))

        -- the counts stay small
        pub writing_more : (length (turn_steps (turn_of (inner_of cfg) cfg reached x)) ≡ length (fill_of (inner_of cfg) cfg reached x) + 1) × ((steps + length (turn_steps (turn_of (inner_of cfg) cfg reached x))) * step_size + end_size ≤ length out₀) × ((notes + length (turn_steps (turn_of (inner_of cfg) cfg reached x))) * note_size ≤ length report₀)
        writing_more =
            (length-append (turn_of (inner_of cfg) cfg reached x).inserted (x ∷ []) ∙ ap (λ (k : ℕ). k + 1) (answered-length (inner_of cfg) cfg reached (fill_of (inner_of cfg) cfg reached x)), fit.0, omega (arith, fit.1, noted))
