-- What moves, exactly (`MovesToShort`, `MovesToOld`), and both round trips of the moves (`ShortAndBack`, `BackAndShort`), in lent buffers too (`BuffersReturn`).
-- Assumes nothing.
use Prim.Native.Nat.{ℕ, ◌+◌, ◌≤◌}
use mathlib.Core.Bool.{Bool, true}
use mathlib.Core.List.{List, [], ◌∷◌, ◌++◌}
use mathlib.Core.Path.{◌≡◌, refl, sym, ap, ◌∙◌, subst}
use native.Mathlib.Omega.{arith}
use borrow.Author.Tests.{le-leb, leb-true, eqb-true}
use lib.ListN.{length, take, drop, get_or}
use lib.Dec.{leb}
use lib.Seq.{take-append_seam}
use Rattle.numbers.specs.Refusals.{no_room}
use Rattle.forms.specs.Numbers.{edition_size}
use Rattle.laws.specs.Choice.{pick, both, all_of}
use Rattle.laws.proofs.Choosing.{clash, pick-on, both_left, both_right, all_told}
use Rattle.values.specs.declared.Step.{Step}
use Rattle.wire.specs.Bytes.{put_at}
use Rattle.wire.proofs.Laws.{front_read}
use Rattle.recording.specs.Whole.{whole_of, steps_in, is_end, is_sound}
use Rattle.recording.specs.declared.Field.{Field}
use Rattle.recording.specs.declared.Field.TheVariants.{Step as IsStep, End, Refused as NoField}
use Rattle.recording.proofs.Texts.{text-again, steps-recorded, bytes_drop}
use Rattle.forms.specs.Short.{header_bytes, is_short, is_headed}
use Rattle.moving.specs.declared.Moved.{Moved}
use Rattle.moving.specs.declared.Moved.TheVariants.{To, Refused}
use Rattle.moving.specs.Old.{long_of}
use Rattle.moving.specs.Moves.{shorts_of, short_text_of, EachShort, on_last, unless_long, fitted, shortens_of, shorten_to, shorten_written, lengthens_of, lengthen_to, lengthen_written}
use Rattle.moving.specs.Claims.{MovesToShort, MovesToOld, ShortAndBack, BackAndShort, BuffersReturn}
use Rattle.moving.proofs.Standing.{shorts-stand, shorts-again, steps-short}
use Rattle.moving.proofs.Answers.{shortens-each}

no_move : {A : Type 0} {p k n : ℕ} → Refused p k ≡ To n → A
no_move e = let z : ◌≡◌ {A = ℕ} 0 1 = cc in absurd (omega arith)

-- a text moves only if its steps are followed by the end
last_end : (f : Field) (c m n : ℕ) → on_last f c (To m) ≡ To n → f ≡ End
last_end (IsStep s z) c m n e = no_move e
last_end End c m n e = refl
last_end (NoField p k) c m n e = no_move e

-- steps that all have short forms leave what is said of the end
pub unless-each : (k : ℕ) (ss : List Step) (x : Moved) → EachShort ss → unless_long k ss x ≡ x
unfolding unless_long
unless-each k [] x h = refl
unless-each k (s ∷ ss) x h = ap (λ (b : Bool). pick b (unless_long (k + 1) ss x) (Refused (k + 1) 29)) h.0 ∙ unless-each (k + 1) ss x h.1

-- the end behind the steps of a text that moves
pub shortens-end : (t : List ℕ) (n : ℕ) → shortens_of t ≡ To n → (whole_of t).last ≡ End
unfolding shortens_of
shortens-end t n e = last_end (whole_of t).last (length (steps_in t)) (length (short_text_of (steps_in t))) n (sym (unless-each 0 (steps_in t) _ (shortens-each t n e).0) ∙ e)

pub short-and-back : ShortAndBack
unfolding lengthens_of is_short is_headed all_of
short-and-back t n h e =
    let each = shortens-each t n e in
    let sound : is_sound t ≡ true = ap is_end (shortens-end t n e) in
    let stands : long_of (shorts_of (steps_in t)) ≡ t = shorts-stand (steps_in t) (steps-recorded t h) each.0 ∙ text-again t h sound in
    let answer : on_last (whole_of t).last (length (steps_in t)) (To (length t)) ≡ To (length t) = rw (shortens-end t n e) in
    let long : leb edition_size (length (short_text_of (steps_in t))) ≡ true = le-leb edition_size (length (short_text_of (steps_in t))) (omega arith) in
    (rw (long, stands) answer, stands)

-- a text with a good header begins with it
pub headed-is : (t : List ℕ) → both (is_short t) (is_headed t) ≡ true → t ≡ header_bytes ++ drop edition_size t
unfolding is_short is_headed
headed-is t e =
    let g = all_told _ (both_right (is_short t) (is_headed t) e) in
    let g₀ : get_or t 0 0 ≡ 1 = eqb-true (get_or t 0 0) 1 (both_left (is_short t) (is_headed t) e) in
    let g₁ : get_or t 1 0 ≡ 0 = eqb-true (get_or t 1 0) 0 g.1.0 in
    let g₂ : get_or t 2 0 ≡ 1 = eqb-true (get_or t 2 0) 1 g.1.1.0 in
    let g₃ : get_or t 3 0 ≡ 2 = eqb-true (get_or t 3 0) 2 g.1.1.1.0 in
    front_read edition_size t header_bytes (leb-true edition_size (length t) g.0) cc

-- a text that moves to the old form has a good header, and there the end behind its steps
pub lengthens-end : (t : List ℕ) (n : ℕ) → lengthens_of t ≡ To n → (is_short t ≡ true) × (is_headed t ≡ true) × ((whole_of (long_of (drop edition_size t))).last ≡ End)
unfolding lengthens_of
lengthens-end t n e =
    let l : List ℕ = long_of (drop edition_size t) in
    let p = pick-on (both (is_short t) (is_headed t)) _ _ (To n) e no_move in
    (both_left (is_short t) (is_headed t) p.0, both_right (is_short t) (is_headed t) p.0, last_end (whole_of l).last (length (steps_in l)) (length l) n p.1)

pub back-and-short : BackAndShort
unfolding shortens_of lengthens_of
back-and-short t n h e =
    let u : List ℕ = drop edition_size t in
    let l : List ℕ = long_of u in
    let hu = bytes_drop t edition_size h in
    let p = pick-on (both (is_short t) (is_headed t)) _ _ (To n) e no_move in
    let last : (whole_of l).last ≡ End = last_end (whole_of l).last (length (steps_in l)) (length l) n p.1 in
    let same : short_text_of (steps_in l) ≡ t = ap (λ (x : List ℕ). header_bytes ++ x) (shorts-again u hu (ap is_end last)) ∙ sym (headed-is t p.0) in
    (unless-each 0 (steps_in l) _ (steps-short u hu) ∙ rw last (ap (λ (x : List ℕ). To (length x)) same), same)

-- ---- what moves

-- behind the steps of a whole recording stands the end
sound-end : (t : List ℕ) → is_sound t ≡ true → (whole_of t).last ≡ End
sound-end t = go (whole_of t).last
  where
    go : (f : Field) → is_end f ≡ true → f ≡ End
    go (IsStep s z) e = absurd (clash (is_end (IsStep s z)) e refl)
    go End e = refl
    go (NoField p k) e = absurd (clash (is_end (NoField p k)) e refl)

pub moves-to-short : MovesToShort
unfolding shortens_of
moves-to-short t n = (
  λ e. let r = shortens-each t n e in (ap is_end (shortens-end t n e), r.0, r.1),
  λ w. unless-each 0 (steps_in t) _ w.1 ∙ rw (sound-end t w.0) (ap To (sym w.2)),
)

pub moves-to-old : MovesToOld
unfolding lengthens_of
moves-to-old t n = (
  λ e.
      let l : List ℕ = long_of (drop edition_size t) in
      let w = lengthens-end t n e in
      let size : To (length l) ≡ To n = sym (rw (w.0, w.1, w.2)) ∙ e in
      (w.0, w.1, ap is_end w.2, sized size),
  λ w. rw (w.0, w.1, sound-end (long_of (drop edition_size t)) w.2) (ap To (sym w.3)),
)
  where
    sized : {m k : ℕ} → To m ≡ To k → k ≡ m
    sized e = cc

-- ---- in lent buffers

-- a move that had room is the move, and what was put stands in front
fitted-told : (b : List ℕ) (r : Moved) (n : ℕ) → fitted b r ≡ To n → (r ≡ To n) × (n ≤ length b)
fitted-told b (Refused p k) n e = no_move e
fitted-told b (To m) n e = let p = pick-on (leb m (length b)) (To m) (Refused 0 no_room) (To n) e no_move in (p.1, subst (λ (k : ℕ). k ≤ length b) (sized p.1) (leb-true m (length b) p.0))
  where
    sized : {m k : ℕ} → To m ≡ To k → m ≡ k
    sized e = cc

front-put : (b xs : List ℕ) (n : ℕ) → n ≡ length xs → take n (put_at b 0 xs) ≡ xs
front-put b xs n e = rw e (take-append_seam xs (drop (0 + length xs) b))

-- the text that each leaves
shortened : (t b : List ℕ) (n : ℕ) → shorten_to t b ≡ To n → (shortens_of t ≡ To n) × (take n (shorten_written t b) ≡ short_text_of (steps_in t))
unfolding shorten_to
shortened t b n e =
    let f = fitted-told b (shortens_of t) n e in
    (f.0, rw e (front-put b (short_text_of (steps_in t)) n (shortens-each t n f.0).1))

lengthened : (t b : List ℕ) (n : ℕ) → lengthen_to t b ≡ To n → (lengthens_of t ≡ To n) × (take n (lengthen_written t b) ≡ long_of (drop edition_size t))
unfolding lengthen_to
lengthened t b n e =
    let f = fitted-told b (lengthens_of t) n e in
    (f.0, rw e (front-put b (long_of (drop edition_size t)) n ((moves-to-old t n).0 f.0).3))

pub buffers-return : BuffersReturn
buffers-return t b c n m h = (
  λ e f.
      let u = shortened t b n e in
      let w = lengthened (take n (shorten_written t b)) c m f in
      w.1 ∙ ap (λ (x : List ℕ). long_of (drop edition_size x)) u.1 ∙ (short-and-back t n h u.0).1,
  λ e f.
      let u = lengthened t b n e in
      let w = shortened (take n (lengthen_written t b)) c m f in
      w.1 ∙ ap (λ (x : List ℕ). short_text_of (steps_in x)) u.1 ∙ (back-and-short t n h u.0).1,
)
