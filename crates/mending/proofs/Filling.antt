-- A fill written step by step, and its notes: what the loop keeps.
-- Assumes nothing.
use Prim.Native.Nat.{ℕ, ◌+◌, ◌*◌, ◌≤◌, ◌<◌}
use mathlib.Core.Bool.{Bool}
use mathlib.Core.List.{List, [], ◌∷◌, ◌++◌, append_assoc, append-nil}
use mathlib.Core.Path.{◌≡◌, refl, sym, ap, ap₂, ◌∙◌, subst}
use native.Mathlib.Omega.{arith}
use lib.ListN.{length, get_or, length-append}
use lib.Dec.{ltb}
use borrow.Author.Tests.{ltb-true, ne_eqb}
use Rattle.numbers.specs.Tags.{step_size}
use Rattle.numbers.specs.Codes.{spawn_code, timeout_code, tick_code}
use Rattle.laws.specs.Choice.{pick}
use Rattle.laws.proofs.Choosing.{pick-has}
use Rattle.faces.specs.Types.{Step, Config, State, Stepped}
use Rattle.effects.specs.Step.{possible_of, inner_of}
use Rattle.wire.specs.Bytes.{put_at, Written}
use Rattle.wire.specs.declared.Wrote.{Wrote}
use Rattle.recording.specs.Recording.{Recorded, bytes_of, step_written}
use Rattle.gaps.specs.declared.Choices.{Choices}
use Rattle.gaps.specs.Orders.{up_to_three}
use Rattle.gaps.specs.Gaps.{counts_of, choices_in, sequences_of, rank_of, fill_of, answered, answered_all, turn_of, turn_steps}
use Rattle.gaps.specs.Report.{step_note, gap_note, step_notes, turn_notes, note_size}
use Rattle.gaps.proofs.Same.{answered-is}
use Rattle.gaps.proofs.Reported.{notes-length, notes-one}
use Rattle.gaps.proofs.Turns.{answered-length}
use Rattle.gaps.proofs.Answers.{spawn, timeout, tick, answered-recorded}
use Rattle.mending.specs.declared.Picks.{Picks}
use Rattle.searching.specs.Search.{Counted, choice_at, claiming_of}
use Rattle.mending.specs.Going.{most_of, picks_of, Fillable, crossed_of, picked, rest_of, taken_all, fields_of, note_of, Room}
use Rattle.searching.proofs.Searching.{Passed}
use Rattle.mending.proofs.Ranking.{picks-are, picked_none, picked-rest, length-picked, taken_none, taken_next}
use Rattle.mending.proofs.Walking.{most-is}
use Rattle.mending.proofs.Putting.{put-none, length-put, put-more, wrote-fits, step_fits, length_fields, fields-append, fields-one}

-- a choice with its answer can be written
pub choice-recorded : (cfg : Config) (st : State) (n : Choices) (k : ℕ) → Recorded (answered cfg st (choice_at n k))
unfolding choice_at
choice-recorded cfg st n k =
    pick-has (λ (x : Step). Recorded (answered cfg st x)) (ltb k n.spawns) _ _
    (λ e. answered-recorded cfg st spawn_code _ spawn)
    (λ e. pick-has (λ (x : Step). Recorded (answered cfg st x)) (ltb k (n.spawns + n.timeouts)) _ _
    (λ d. answered-recorded cfg st timeout_code _ timeout)
    (λ d. answered-recorded cfg st tick_code _ tick))

module _ (cfg : Config) (all : Choices) (out₀ : List ℕ) (n : ℕ) (report₀ : List ℕ) (m : ℕ) (st : State) (fill : Picks) where
  pub record Filling (out report : List ℕ) (reached : State) (left : Picks) (done : ℕ) : Type 0 where
    pub put : List Step
    pub short : left.length ≤ 3
    pub count : done ≡ length put
    pub total : done + left.length ≡ fill.length
    pub states : taken_all cfg st (picked all fill) ≡ taken_all cfg reached (picked all left)
    pub steps : answered_all (inner_of cfg) cfg st (picked all fill) ≡ put ++ answered_all (inner_of cfg) cfg reached (picked all left)
    pub text : out ≡ put_at out₀ (n * step_size) (fields_of put)
    pub notes : report ≡ put_at report₀ (m * note_size) (step_notes n put)
    pub out-same : length out ≡ length out₀
    pub report-same : length report ≡ length report₀

  pub filling-starts : fill.length ≤ 3 → Filling out₀ report₀ st fill 0
  unfolding fields_of step_notes
  filling-starts h = record {
    put = [];
    short = h;
    count = refl;
    total = omega arith;
    states = refl;
    steps = refl;
    text = sym (put-none out₀ (n * step_size));
    notes = sym (put-none report₀ (m * note_size));
    out-same = refl;
    report-same = refl;
  }

  module _ (room : Room (n + fill.length) (m + fill.length) (length out₀) (length report₀))
      (out report : List ℕ) (reached : State) (left : Picks) (done : ℕ) (f : Filling out report reached left done) where
    -- the text and the notes of the whole fill are there
    pub filling-over : left.length ≡ 0
        → (reached ≡ taken_all cfg st (picked all fill)) × (out ≡ put_at out₀ (n * step_size) (fields_of (answered_all (inner_of cfg) cfg st (picked all fill)))) × (report ≡ put_at report₀ (m * note_size) (step_notes n (answered_all (inner_of cfg) cfg st (picked all fill))))
    unfolding answered_all
    filling-over e =
        let none : answered_all (inner_of cfg) cfg reached (picked all left) ≡ [] = ap (answered_all (inner_of cfg) cfg reached) (picked_none all left e) in
        let whole : f.put ≡ answered_all (inner_of cfg) cfg st (picked all fill) = sym (f.steps ∙ ap (λ (l : List Step). f.put ++ l) none ∙ append-nil f.put) in
        (sym (f.states ∙ taken_none cfg reached all left e), f.text ∙ ap (λ (l : List Step). put_at out₀ (n * step_size) (fields_of l)) whole, f.notes ∙ ap (λ (l : List Step). put_at report₀ (m * note_size) (step_notes n l)) whole)

    module _ (some : 0 < left.length) {x : Step} {r : Stepped} {y : Step} (is : x ≡ choice_at all left.first) (stepped : r ≡ possible_of cfg reached x) (claims : y ≡ claiming_of x r.answer) where
      answers : y ≡ answered cfg reached x
      answers = claims ∙ ap (λ (z : Stepped). claiming_of x z.answer) stepped

      good : Recorded y
      good = subst (λ (z : Step). Recorded z) (sym (answers ∙ ap (answered cfg reached) is)) (choice-recorded cfg reached all left.first)

      next-steps : answered_all (inner_of cfg) cfg reached (picked all left) ≡ y ∷ answered_all (inner_of cfg) cfg r.state (picked all (rest_of left))
      unfolding answered_all
      next-steps =
          ap (answered_all (inner_of cfg) cfg reached) (picked-rest all left some f.short ∙ ap (λ (z : Step). z ∷ picked all (rest_of left)) (sym is))
          ∙ ap₂ (λ (z : Step) (w : Stepped). z ∷ answered_all (inner_of cfg) cfg w.state (picked all (rest_of left))) (sym answers) (answered-is cfg reached x ∙ sym stepped)

      pub filling-next : {out' report' : List ℕ} {w : Wrote} → out' ≡ step_written out ((n + done) * step_size) y
          → Written report ((m + done) * note_size) (note_of 1 y.code y.what y.claim (n + done + 1)) w report'
          → Filling out' report' r.state (rest_of left) (done + 1)
      filling-next {out'} {report'} {w} wrote noted =
          let long = length-append f.put (y ∷ []) in
          let tx : out' ≡ put_at out₀ (n * step_size) (fields_of (f.put ++ (y ∷ []))) =
          wrote ∙ step_fits out ((n + done) * step_size) y good.good (omega (arith, f.total, some, room.text, f.out-same))
          ∙ ap (λ (b : List ℕ). put_at b ((n + done) * step_size) (bytes_of y)) f.text
          ∙ put-more out₀ (fields_of f.put) (bytes_of y) (n * step_size) ((n + done) * step_size) (omega (arith, room.text)) (omega (arith, length_fields f.put, f.count))
          ∙ ap (put_at out₀ (n * step_size)) (sym (fields-append f.put (y ∷ []) ∙ ap (λ (l : List ℕ). fields_of f.put ++ l) (fields-one y))) in
          let nt : report' ≡ put_at report₀ (m * note_size) (step_notes n (f.put ++ (y ∷ []))) =
          noted.bytes ∙ wrote-fits report (note_of 1 y.code y.what y.claim (n + done + 1)) ((m + done) * note_size) (omega (arith, f.total, some, room.note, f.report-same))
          ∙ ap (λ (b : List ℕ). put_at b ((m + done) * note_size) (step_note (n + done + 1) y)) f.notes
          ∙ put-more report₀ (step_notes n f.put) (step_note (n + done + 1) y) (m * note_size) ((m + done) * note_size) (omega (arith, room.note)) (omega (arith, notes-length n f.put, f.count))
          ∙ ap (put_at report₀ (m * note_size)) (ap (λ (k : ℕ). step_notes n f.put ++ step_note (n + k + 1) y) f.count ∙ sym (notes-one n f.put y)) in
          record {
            put = f.put ++ (y ∷ []);
            short = omega (arith, f.short);
            count = omega (arith, f.count, long);
            total = omega (arith, f.total, some);
            states = f.states ∙ taken_next cfg reached all left some f.short is stepped;
            steps = f.steps ∙ ap (λ (l : List Step). f.put ++ l) next-steps ∙ sym (append_assoc f.put (y ∷ []) _);
            text = tx;
            notes = nt;
            out-same = ap length tx ∙ length-put out₀ (fields_of (f.put ++ (y ∷ []))) (n * step_size) (omega (arith, length_fields (f.put ++ (y ∷ [])), long, f.count, f.total, some, room.text));
            report-same = ap length nt ∙ length-put report₀ (step_notes n (f.put ++ (y ∷ []))) (m * note_size) (omega (arith, notes-length n (f.put ++ (y ∷ [])), long, f.count, f.total, some, room.note));
          }

-- ---- a gap, its step and its note

module _ (cfg : Config) (st : State) (s : Step) (all : Choices) (n m : ℕ) (out report : List ℕ) (g : Fillable cfg st s all n m (length out) (length report))
    {k passed : ℕ} {fill : Picks} (counted : Counted all k) (found : passed ≡ Passed cfg st s (up_to_three (choices_in all))) (picks : fill ≡ picks_of k passed) (short : fill.length ≤ 3) where
  counted' : Counted (counts_of cfg) k
  counted' = subst (λ (a : Choices). Counted a k) g.counts counted

  ranked : passed ≡ rank_of (inner_of cfg) cfg st s
  unfolding rank_of sequences_of
  ranked = found ∙ ap (λ (a : Choices). Passed cfg st s (up_to_three (choices_in a))) g.counts

  some : passed < most_of k
  some = omega (arith, ltb-true (rank_of (inner_of cfg) cfg st s) (length (sequences_of cfg)) g.fills, ranked, most-is cfg counted')

  filled : picked all fill ≡ fill_of (inner_of cfg) cfg st s
  unfolding sequences_of
  filled =
      ap₂ (λ (a : Choices) (p : Picks). picked a p) g.counts picks ∙ picks-are (counts_of cfg) counted' passed some
      ∙ ap (λ (r : ℕ). get_or (up_to_three (choices_in (counts_of cfg))) r []) ranked

  inserted-is : answered_all (inner_of cfg) cfg st (picked all fill) ≡ (turn_of (inner_of cfg) cfg st s).inserted
  inserted-is = ap (answered_all (inner_of cfg) cfg st) filled

  pub fill-long : length (fill_of (inner_of cfg) cfg st s) ≡ fill.length
  fill-long = ap length (sym filled) ∙ length-picked all fill short

  inserted-long : length (turn_of (inner_of cfg) cfg st s).inserted ≡ fill.length
  inserted-long = answered-length (inner_of cfg) cfg st (fill_of (inner_of cfg) cfg st s) ∙ fill-long

  turn-long : length (turn_steps (turn_of (inner_of cfg) cfg st s)) ≡ fill.length + 1
  turn-long = length-append (turn_of (inner_of cfg) cfg st s).inserted (s ∷ []) ∙ omega (arith, inserted-long)

  pub gap-room : Room (n + fill.length) (m + fill.length) (length out) (length report)
  gap-room = record { text = omega (arith, g.room.text, turn-long); note = omega (arith, g.room.note, turn-long) }

  pub gap_more : ((n + (fill.length + 1)) * step_size ≤ length out) × ((m + (fill.length + 1)) * note_size ≤ length report)
  gap_more = (omega (arith, g.room.text, turn-long), omega (arith, g.room.note, turn-long))

  module _ {next : State} {last : Stepped} (taken : next ≡ taken_all cfg st (picked all fill)) (stepped : last ≡ inner_of cfg next s) where
    pub gap-crossed : record { state = last.state; inserted = fill.length } ≡ crossed_of cfg st s
    gap-crossed =
        ap₂ (λ (x : State) (i : ℕ). record { state = x; inserted = i })
        (ap (λ (y : Stepped). y.state) stepped ∙ ap (λ (x : State). (inner_of cfg x s).state) (taken ∙ ap (taken_all cfg st) filled)) (sym fill-long)

  pub gap-text : {b c : List ℕ} → b ≡ put_at out (n * step_size) (fields_of (answered_all (inner_of cfg) cfg st (picked all fill))) → c ≡ step_written b ((n + fill.length) * step_size) s
      → c ≡ put_at out (n * step_size) (fields_of (turn_steps (turn_of (inner_of cfg) cfg st s)))
  gap-text {b} {c} put wrote =
      let first : b ≡ put_at out (n * step_size) (fields_of (turn_of (inner_of cfg) cfg st s).inserted) = put ∙ ap (λ (l : List Step). put_at out (n * step_size) (fields_of l)) inserted-is in
      let long : length (fields_of (turn_of (inner_of cfg) cfg st s).inserted) ≡ fill.length * step_size = length_fields (turn_of (inner_of cfg) cfg st s).inserted ∙ ap (λ (i : ℕ). i * step_size) inserted-long in
      let same : length b ≡ length out = ap length first ∙ length-put out (fields_of (turn_of (inner_of cfg) cfg st s).inserted) (n * step_size) (omega (arith, long, gap-room.text)) in
      wrote ∙ step_fits b ((n + fill.length) * step_size) s g.good (omega (arith, same, gap_more.0))
      ∙ ap (λ (x : List ℕ). put_at x ((n + fill.length) * step_size) (bytes_of s)) first
      ∙ put-more out (fields_of (turn_of (inner_of cfg) cfg st s).inserted) (bytes_of s) (n * step_size) ((n + fill.length) * step_size) (omega (arith, gap-room.text)) (omega (arith, long))
      ∙ ap (put_at out (n * step_size)) (sym (fields-append (turn_of (inner_of cfg) cfg st s).inserted (s ∷ []) ∙ ap (λ (l : List ℕ). fields_of (turn_of (inner_of cfg) cfg st s).inserted ++ l) (fields-one s)))

  pub gap-notes : {b c : List ℕ} {w : Wrote} → b ≡ put_at report (m * note_size) (step_notes n (answered_all (inner_of cfg) cfg st (picked all fill)))
      → Written b ((m + fill.length) * note_size) (gap_note (n + fill.length + 1) passed) w c
      → c ≡ put_at report (m * note_size) (turn_notes n (turn_of (inner_of cfg) cfg st s))
  unfolding turn_notes
  gap-notes {b} {c} {w} put noted =
      let first : b ≡ put_at report (m * note_size) (step_notes n (turn_of (inner_of cfg) cfg st s).inserted) = put ∙ ap (λ (l : List Step). put_at report (m * note_size) (step_notes n l)) inserted-is in
      let long : length (step_notes n (turn_of (inner_of cfg) cfg st s).inserted) ≡ fill.length * note_size = notes-length n (turn_of (inner_of cfg) cfg st s).inserted ∙ ap (λ (i : ℕ). i * note_size) inserted-long in
      let same : length b ≡ length report = ap length first ∙ length-put report (step_notes n (turn_of (inner_of cfg) cfg st s).inserted) (m * note_size) (omega (arith, long, gap-room.note)) in
      let is : gap_note (n + fill.length + 1) passed ≡ gap_note (n + length (turn_of (inner_of cfg) cfg st s).inserted + 1) (rank_of (inner_of cfg) cfg st s) = ap₂ (λ (i r : ℕ). gap_note (n + i + 1) r) (sym inserted-long) ranked in
      let gap : rank_of (inner_of cfg) cfg st s ≡ 0 → ⊥ = λ z. omega (arith, g.gap, z) in
      noted.bytes ∙ wrote-fits b (gap_note (n + fill.length + 1) passed) ((m + fill.length) * note_size) (omega (arith, same, gap_more.1))
      ∙ ap₂ (λ (x y : List ℕ). put_at x ((m + fill.length) * note_size) y) first is
      ∙ put-more report (step_notes n (turn_of (inner_of cfg) cfg st s).inserted) (gap_note (n + length (turn_of (inner_of cfg) cfg st s).inserted + 1) (rank_of (inner_of cfg) cfg st s)) (m * note_size) ((m + fill.length) * note_size) (omega (arith, gap-room.note)) (omega (arith, long))
      ∙ ap (λ (x : Bool). put_at report (m * note_size) (pick x [] (step_notes n (turn_of (inner_of cfg) cfg st s).inserted ++ gap_note (n + length (turn_of (inner_of cfg) cfg st s).inserted + 1) (rank_of (inner_of cfg) cfg st s)))) (sym (ne_eqb _ _ gap))
