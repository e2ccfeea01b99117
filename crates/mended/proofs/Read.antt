-- The report read back from the lent buffer: its bytes say the notes that were put into them.
-- Assumes nothing.
use Prim.Native.Nat.{ℕ, ◌+◌, ◌*◌, ◌/◌, ◌%◌, ◌≤◌, ◌<◌, ◌^◌}
use mathlib.Core.List.{List, [], ◌∷◌, ◌++◌, append_assoc, Memᴰ}
use mathlib.Core.Path.{◌≡◌, refl, sym, ap, ap₂, subst, ◌∙◌}
use native.Mathlib.Omega.{arith}
use lib.ListN.{length, drop, length-append}
use Rattle.faces.specs.Types.{Step, Config, State}
use Rattle.values.specs.Values.{void_v}
use Rattle.stays_sound.proofs.Told.{told}
use Rattle.wire.specs.Bytes.{number_of}
use Rattle.wire.proofs.Laws.{Bytes, be32-bytes}
use Rattle.recording.specs.Recording.{Recorded}
use Rattle.recording.specs.Whole.{steps_in, EachRecorded}
use Rattle.gaps.specs.Gaps.{sequences_of}
use Rattle.gaps.specs.Report.{mend_reported, note_size}
use Rattle.mended.specs.Claims.{turns_in, mended}
use Rattle.mended.specs.Faithful.{Insertable, Note, inserts, mends, note_bytes, notes_bytes, insert_places, without, Stands, True, note_read, notes_read, ReportReadsBack}
use Rattle.mended.proofs.First.{list-is-bounded, first-is-inserted}
use Rattle.mended.proofs.Judged.{mended-done, mended-recorded}
use Rattle.mended.proofs.Still.{buffers-hold}
use Rattle.mended.proofs.Reports.{report-is-true}

-- ---- one note

-- eight bytes hold 64 bits
place-back : (n : ℕ) → n < 2 ^ 64
    → number_of (n / 4294967296 / 256 / 256 / 256 % 256) (n / 4294967296 / 256 / 256 % 256) (n / 4294967296 / 256 % 256) (n / 4294967296 % 256) * 4294967296
    + number_of (n / 256 / 256 / 256 % 256) (n / 256 / 256 % 256) (n / 256 % 256) (n % 256) ≡ n
place-back n h =
    let hi : n / 4294967296 < 2 ^ 32 = omega arith in
    let lo : number_of (n / 256 / 256 / 256 % 256) (n / 256 / 256 % 256) (n / 256 % 256) (n % 256) ≡ n % 4294967296 = omega arith in
    let e = be32-bytes (n / 4294967296) hi in
    omega (arith, e, lo)

-- a note whose numbers its bytes can hold
abbrev Holds : Note → Type 0
Holds (inserts place x) = (place < 2 ^ 64) × (x.claim.number < 2 ^ 32) × Insertable x
Holds (mends place passed) = (place < 2 ^ 64) × (passed < 2 ^ 32)

note-back : (y : Note) (rest : List ℕ) → Holds y → note_read (note_bytes y ++ rest) ≡ y
note-back (inserts place x) rest h =
    let w = h.2.who in
    let a = h.2.argument in
    ap₂ (λ (m k : ℕ). inserts m (record { code = x.code; who = 0; what = x.what; argument = void_v; claim = record { kind = x.claim.kind; number = k } })) (place-back place h.0) (be32-bytes x.claim.number h.1)
    ∙ ap (inserts place) (λ i. record { code = x.code; who = sym w i; what = x.what; argument = sym a i; claim = x.claim })
note-back (mends place passed) rest h = ap₂ mends (place-back place h.0) (be32-bytes passed h.1)

note-drop : (y : Note) (rest : List ℕ) → drop note_size (note_bytes y ++ rest) ≡ rest
note-drop (inserts place x) rest = refl
note-drop (mends place passed) rest = refl

notes-back : (ys : List Note) (rest : List ℕ) → ((y : Note) → Memᴰ y ys → Holds y) → notes_read (length ys) (notes_bytes ys ++ rest) ≡ ys
unfolding notes_read notes_bytes
notes-back [] rest h = refl
notes-back (y ∷ ys) rest h =
    ap (λ (l : List ℕ). note_read l ∷ notes_read (length ys) (drop note_size l)) (append_assoc (note_bytes y) (notes_bytes ys) rest)
    ∙ ap₂ (λ (z : Note) (l : List ℕ). z ∷ notes_read (length ys) l) (note-back y (notes_bytes ys ++ rest) (h y (Memᴰ.head refl))) (note-drop y (notes_bytes ys ++ rest))
    ∙ ap (λ (l : List Note). y ∷ l) (notes-back ys rest (λ z m. h z (Memᴰ.tail m)))

-- ---- what stands among mended steps

stands-small : (ms : List Step) (place : ℕ) (x : Step) → Stands ms place x → place ≤ length ms
stands-small ms place x s = omega (arith, s.3, ap length s.2, length-append s.0 (x ∷ s.1))

stands-recorded : (front back : List Step) (x : Step) → EachRecorded (front ++ (x ∷ back)) → Recorded x
stands-recorded [] back x h = h.0
stands-recorded (y ∷ front) back x h = stands-recorded front back x h.1

module _ (cfg : Config) (st : State) (t : List ℕ) (small : Bytes t) (few : length (sequences_of cfg) ≤ 33825) (short : length (mended cfg st t) < 2 ^ 64) where
  true-holds : (y : Note) → True (turns_in cfg st t) y → Holds y
  true-holds (inserts place x) h =
      let s = h.0 in
      let r = stands-recorded s.0 s.1 x (subst EachRecorded s.2 (mended-recorded cfg st t small)) in
      (omega (arith, stands-small (mended cfg st t) place x s), r.claim, h.1)
  true-holds (mends place passed) h =
      let f = (first-is-inserted cfg st (steps_in t) h.0 h.2 h.1 h.3).2.there in
      (omega (arith, stands-small (mended cfg st t) place h.1.kept h.7), omega (arith, h.4, f))

pub report-reads-back : ReportReadsBack
report-reads-back cfg st t b p n k small h l =
    let d = mended-done cfg st t b p n k h in
    let r = report-is-true cfg st (steps_in t) in
    let m : length (mended cfg st t) < 2 ^ 64 = subst (λ (x : ℕ). x < 2 ^ 64) d.steps l in
    let few = (list-is-bounded cfg).1 (told cfg st d.sound).config in
    let e : notes_read k (mend_reported cfg st t b p) ≡ r.notes =
    ap₂ notes_read (d.notes ∙ r.count) ((buffers-hold cfg st t b p n k h).2 ∙ ap (λ (x : List ℕ). x ++ drop (k * note_size) p) r.bytes)
    ∙ notes-back r.notes (drop (k * note_size) p) (λ y j. true-holds cfg st t small few m y (r.each y j)) in (
      λ x j. r.each x (subst (λ (ys : List Note). Memᴰ x ys) e j),
      ap (λ (ys : List Note). without (insert_places ys) 0 (mended cfg st t)) e ∙ r.rest ∙ d.kept,
    )
