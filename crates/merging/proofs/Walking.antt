-- What the two walks keep before each field: the walk that counts (`Surveying`), and the walk that writes (`Writing`).
-- Assumes nothing.
use Prim.Native.Nat.{ℕ, ◌+◌, ◌*◌, ◌≤◌}
use mathlib.Core.Bool.{Bool, true, false}
use mathlib.Core.List.{List, [], ◌∷◌, ◌++◌}
use mathlib.Core.Path.{◌≡◌, refl, sym, ap, ap₂, ◌∙◌}
use native.Mathlib.Omega.{arith}
use Rattle.std.specs.Prelude.{Option, Some, None}
use lib.ListN.{length, take, drop, length-append, length-drop}
use lib.Seq.{drop-drop, drop_at, length-take-le, take-length}
use lib.Dec.{leb}
use borrow.Author.Tests.{le-leb, leb-true}
use Rattle.numbers.specs.Tags.{step_size, end_size}
use Rattle.laws.specs.Choice.{pick}
use Rattle.values.specs.declared.Step.{Step}
use Rattle.wire.specs.Bytes.{end_bytes, put_at, wrote_bytes, Written}
use Rattle.wire.specs.declared.Wrote.{Wrote}
use Rattle.wire.proofs.Laws.{grown}
use Rattle.recording.specs.declared.Field.{Field}
use Rattle.recording.specs.declared.Field.TheVariants.{Step as IsStep, End, Refused as NoField}
use Rattle.recording.specs.Recording.{values_good, field_of, bytes_of, step_written}
use Rattle.recording.specs.Whole.{Whole, whole_of, steps_in, text_of}
use Rattle.recording.proofs.OneField.{step-told}
use Rattle.recording.proofs.Texts.{whole-step, whole-end, whole-refused}
use Rattle.recording.proofs.Loops.{step_room}
use Rattle.merging.specs.declared.Merged.{Merged}
use Rattle.merging.specs.declared.Merged.TheVariants.{Whole as Merges, Refused}
use Rattle.merging.specs.Waits.{is_wait, adds_up, joined, merged_from, merged_of}
use Rattle.merging.specs.Merging.{on_last, survey_of, merge_to, merge_written}
use Rattle.merging.proofs.Waits.{wait-good}

-- ---- a step and those behind it

pub merged-none : (s : Step) → merged_from s [] ≡ s ∷ []
unfolding merged_from
merged-none s = refl

pub merged_on : (s x : Step) (xs : List Step) → adds_up s x ≡ true → merged_from s (x ∷ xs) ≡ merged_from (joined s x) xs
unfolding merged_from
merged_on s x xs e = rw e

pub merged-off : (s x : Step) (xs : List Step) → adds_up s x ≡ false → merged_from s (x ∷ xs) ≡ s ∷ merged_from x xs
unfolding merged_from
merged-off s x xs e = rw e

-- the step of no code is no wait
abbrev pub no_step : Step
no_step = record { code = 0; who = 0; what = 0; argument = record { kind = 0; number = 0 }; claim = record { kind = 0; number = 0 } }

-- the step that is held back; none before the first
abbrev pub held : Option Step → Step
held None = no_step
held (Some s) = s

pub no-wait : (x : Step) → adds_up no_step x ≡ false
unfolding adds_up is_wait
no-wait x = refl

pub merged-first : (xs : List Step) → merged_from no_step xs ≡ no_step ∷ merged_of xs
unfolding merged_from merged_of adds_up is_wait
merged-first [] = refl
merged-first (x ∷ xs) = refl

-- ---- fields

-- what is ahead of a step
pub next-steps : (t : List ℕ) (at : ℕ) (x : Step) (size : ℕ) → field_of (drop at t) ≡ IsStep x size → steps_in (drop at t) ≡ x ∷ steps_in (drop (at + size) t)
next-steps t at x size e = ap (λ (v : Whole). v.steps) (whole-step (drop at t) x size e) ∙ ap (λ (u : List ℕ). x ∷ steps_in u) (drop-drop size at t)

pub next_last : (t : List ℕ) (at : ℕ) (x : Step) (size : ℕ) → field_of (drop at t) ≡ IsStep x size → (whole_of (drop at t)).last ≡ (whole_of (drop (at + size) t)).last
next_last t at x size e = ap (λ (v : Whole). v.last) (whole-step (drop at t) x size e) ∙ ap (λ (u : List ℕ). (whole_of u).last) (drop-drop size at t)

-- a field that is no step is all that is left
pub no-step : (t : List ℕ) (f : Field) → ((x : Step) (n : ℕ) → f ≡ IsStep x n → ⊥) → f ≡ field_of t → whole_of t ≡ record { steps = []; last = f }
no-step t (IsStep x n) p e = absurd (p x n refl)
no-step t End p e = whole-end t (sym e)
no-step t (NoField n k) p e = whole-refused t k n (sym e)

-- ---- the walk that counts

pub record Surveying (t : List ℕ) (last : Step) (count steps at : ℕ) : Type 0 where
  pub inside : at ≤ length t
  pub places : count * step_size ≡ at
  pub most : steps ≤ count
  pub counted : length (steps_in t) ≡ count + length (steps_in (drop at t))
  pub merged : steps + length (merged_from last (steps_in (drop at t))) ≡ 1 + length (merged_of (steps_in t))
  pub behind : (whole_of t).last ≡ (whole_of (drop at t)).last

pub surveying-starts : (t : List ℕ) → Surveying t no_step 0 0 0
surveying-starts t = record { inside = omega arith; places = refl; most = omega arith; counted = omega arith; merged = omega (arith, ap length (merged-first (steps_in t))); behind = refl }

module _ (t : List ℕ) (last : Step) (count steps at : ℕ) (w : Surveying t last count steps at) where
  -- there are as many fields as sixteens of bytes
  pub surveying-room : (steps ≤ count) × (count * step_size ≤ length t)
  surveying-room = (w.most, omega (arith, w.places, w.inside))

  module _ (x : Step) (size : ℕ) (e : field_of (drop at t) ≡ IsStep x size) where
    pub surveying-joined : adds_up last x ≡ true → Surveying t (joined last x) (count + 1) steps (at + size)
    surveying-joined h =
        let room = step_room t at size x w.inside e in
        record {
          inside = room.0;
          places = omega (arith, w.places, room.1);
          most = omega (arith, w.most);
          counted = omega (arith, w.counted, ap length (next-steps t at x size e));
          merged = ap (λ (l : List Step). steps + length l) (sym (ap (merged_from last) (next-steps t at x size e) ∙ merged_on last x _ h)) ∙ w.merged;
          behind = w.behind ∙ next_last t at x size e;
        }

    pub surveying-next : adds_up last x ≡ false → Surveying t x (count + 1) (steps + 1) (at + size)
    surveying-next h =
        let room = step_room t at size x w.inside e in
        record {
          inside = room.0;
          places = omega (arith, w.places, room.1);
          most = omega (arith, w.most);
          counted = omega (arith, w.counted, ap length (next-steps t at x size e));
          merged = omega (arith, w.merged, ap (λ (l : List Step). length (merged_from last l)) (next-steps t at x size e), ap length (merged-off last x (steps_in (drop (at + size) t)) h));
          behind = w.behind ∙ next_last t at x size e;
        }

  pub surveying-ended : (f : Field) → whole_of (drop at t) ≡ record { steps = []; last = f } → on_last f count (Merges steps) ≡ survey_of t
  unfolding survey_of
  surveying-ended f e =
      let none : steps_in (drop at t) ≡ [] = ap (λ (v : Whole). v.steps) e in
      let long : length (steps_in t) ≡ count = omega (arith, w.counted, ap length none) in
      let field : (whole_of t).last ≡ f = w.behind ∙ ap (λ (v : Whole). v.last) e in
      let left : length (merged_of (steps_in t)) ≡ steps = omega (arith, w.merged, ap (λ (l : List Step). length (merged_from last l)) none, ap length (merged-none last)) in
      rw (field, long, left)

-- ---- the walk that writes

-- the merged text
abbrev pub text_merged : List ℕ → List ℕ
text_merged t = text_of (merged_of (steps_in t))

pub record Writing (t b₀ b : List ℕ) (last : Step) (at to : ℕ) : Type 0 where
  pub inside : at ≤ length t
  pub good : values_good last ≡ true
  pub within : to ≤ length (text_merged t)
  pub ahead : drop to (text_merged t) ≡ text_of (merged_from last (steps_in (drop at t)))
  pub same : length b ≡ length b₀
  pub bytes : b ≡ take to (text_merged t) ++ drop to b₀

pub writing-starts : (t b₀ : List ℕ) (x : Step) (size : ℕ) → field_of t ≡ IsStep x size → Writing t b₀ b₀ x size 0
unfolding merged_of
writing-starts t b₀ x size e = record {
  inside = let f = step-told t x size e in omega (arith, f.size, f.long);
  good = (step-told t x size e).good;
  within = omega arith;
  ahead = ap (λ (l : List Step). text_of (merged_of l)) (ap (λ (v : Whole). v.steps) (whole-step t x size e));
  same = refl;
  bytes = refl;
}

module _ (t b₀ b : List ℕ) (last : Step) (at to : ℕ) (w : Writing t b₀ b last at to) where
  -- the next joins the one that is held back
  pub writing-joined : (x : Step) (size : ℕ) → field_of (drop at t) ≡ IsStep x size → adds_up last x ≡ true → Writing t b₀ b (joined last x) (at + size) to
  writing-joined x size e h = record {
    inside = (step_room t at size x w.inside e).0;
    good = wait-good _;
    within = w.within;
    ahead = w.ahead ∙ ap text_of (ap (merged_from last) (next-steps t at x size e) ∙ merged_on last x _ h);
    same = w.same;
    bytes = w.bytes;
  }

  -- bytes that come next in the merged text are put behind those that stand there
  module _ (room : length (text_merged t) ≤ length b₀) (b' xs rest : List ℕ) (next : drop to (text_merged t) ≡ xs ++ rest) (put : b' ≡ wrote_bytes b to xs) where
    long : to + length xs ≤ length (text_merged t)
    long = omega (arith, length-drop to (text_merged t), ap length next ∙ length-append xs rest, w.within)

    left : drop (length xs) (drop to (text_merged t)) ≡ rest
    left = ap (drop (length xs)) next ∙ drop_at xs rest (length xs) refl

    pub put-bytes : b' ≡ take (to + length xs) (text_merged t) ++ drop (to + length xs) b₀
    put-bytes =
        put ∙ ap (λ (x : Bool). pick x (put_at b to xs) b) (le-leb (to + length xs) (length b) (omega (arith, long, w.same, room)))
        ∙ grown (text_merged t) b₀ b xs to w.within room w.bytes (next ∙ ap (λ (l : List ℕ). xs ++ l) (sym left))

    pub put_same : length b' ≡ length b₀
    put_same =
        ap length put-bytes ∙ length-append (take (to + length xs) (text_merged t)) (drop (to + length xs) b₀)
        ∙ ap₂ ◌+◌ (length-take-le (to + length xs) (text_merged t) long) (length-drop (to + length xs) b₀) ∙ omega (arith, long, room)

    pub put-ahead : drop (to + length xs) (text_merged t) ≡ rest
    put-ahead = sym (drop-drop (length xs) to (text_merged t)) ∙ left

  -- the one that is held back is written, and the next is held back
  step-put : (b' : List ℕ) → b' ≡ step_written b to last → b' ≡ wrote_bytes b to (bytes_of last)
  step-put b' p = p ∙ ap (λ (q : Bool). pick q (wrote_bytes b to (bytes_of last)) b) w.good

  pub writing-next : length (text_merged t) ≤ length b₀ → (x : Step) (size : ℕ) → field_of (drop at t) ≡ IsStep x size → adds_up last x ≡ false → (b' : List ℕ) → b' ≡ step_written b to last → Writing t b₀ b' x (at + size) (to + step_size)
  unfolding text_of
  writing-next room x size e h b' p =
      let next : drop to (text_merged t) ≡ bytes_of last ++ text_of (merged_from x (steps_in (drop (at + size) t))) = w.ahead ∙ ap text_of (ap (merged_from last) (next-steps t at x size e) ∙ merged-off last x _ h) in
      record {
        inside = (step_room t at size x w.inside e).0;
        good = (step-told (drop at t) x size e).good;
        within = long room b' (bytes_of last) _ next (step-put b' p);
        ahead = put-ahead room b' (bytes_of last) _ next (step-put b' p);
        same = put_same room b' (bytes_of last) _ next (step-put b' p);
        bytes = put-bytes room b' (bytes_of last) _ next (step-put b' p);
      }

  -- there is no next: the one that is held back is written, and the end
  module _ (room : length (text_merged t) ≤ length b₀) (f : Field) (e : whole_of (drop at t) ≡ record { steps = []; last = f }) (b' : List ℕ) (p : b' ≡ step_written b to last) where
    rest-is : drop to (text_merged t) ≡ bytes_of last ++ end_bytes
    unfolding text_of
    rest-is = w.ahead ∙ ap (λ (v : Whole). text_of (merged_from last v.steps)) e ∙ ap text_of (merged-none last)

    pub last_fits : to + step_size + end_size ≤ length (text_merged t)
    last_fits = omega (arith, length-drop to (text_merged t), ap length rest-is, w.within)

    pub last-same : length b' ≡ length b₀
    last-same = put_same room b' (bytes_of last) end_bytes rest-is (step-put b' p)

    pub writing-ended : (r : Wrote) (b'' : List ℕ) → Written b' (to + step_size) end_bytes r b'' → b'' ≡ put_at b₀ 0 (text_merged t)
    writing-ended r b'' q =
        let T = text_merged t in
        let all : to + step_size + end_size ≡ length T = omega (arith, length-drop to T, ap length rest-is, w.within) in
        let none : length T ≡ 0 + length T = omega arith in
        let ahead : drop (to + step_size) T ≡ end_bytes = put-ahead room b' (bytes_of last) end_bytes rest-is (step-put b' p) in
        q.bytes ∙ ap (λ (x : Bool). pick x (put_at b' (to + step_size) end_bytes) b') (le-leb (to + step_size + end_size) (length b') (omega (arith, last_fits, last-same, room)))
        ∙ grown T b₀ b' end_bytes (to + step_size) (omega (arith, last_fits)) room (put-bytes room b' (bytes_of last) end_bytes rest-is (step-put b' p)) (ahead ∙ sym (ap (λ (l : List ℕ). end_bytes ++ drop 3 l) ahead))
        ∙ ap (λ (n : ℕ). take n T ++ drop n b₀) all ∙ ap₂ (λ (l : List ℕ) (n : ℕ). l ++ drop n b₀) (take-length T) none

-- a recording with no step is its end
pub none_written : (t b₀ b : List ℕ) (f : Field) (r : Wrote) → whole_of t ≡ record { steps = []; last = f } → length (text_merged t) ≤ length b₀ → Written b₀ 0 end_bytes r b → b ≡ put_at b₀ 0 (text_merged t)
unfolding text_of merged_of
none_written t b₀ b f r e room q =
    let T : text_merged t ≡ end_bytes = ap (λ (v : Whole). text_of (merged_of v.steps)) e in
    q.bytes ∙ ap (λ (x : Bool). pick x (put_at b₀ 0 end_bytes) b₀) (le-leb (0 + end_size) (length b₀) (omega (arith, room, ap length T))) ∙ ap (put_at b₀ 0) (sym T)

-- ---- the answer

pub text-long : (xs : List Step) → length (text_of xs) ≡ length xs * step_size + end_size
unfolding text_of
text-long [] = refl
text-long (x ∷ xs) = length-append (bytes_of x) (text_of xs) ∙ omega (arith, text-long xs)

pub survey-counts : (t : List ℕ) (n : ℕ) → survey_of t ≡ Merges n → n ≡ length (merged_of (steps_in t))
unfolding survey_of
survey-counts t n h = go (whole_of t).last h
  where
    go : (f : Field) → on_last f (length (steps_in t)) (Merges (length (merged_of (steps_in t)))) ≡ Merges n → n ≡ length (merged_of (steps_in t))
    go (IsStep s z) e = absurd (let z : ◌≡◌ {A = ℕ} 0 1 = cc in omega arith)
    go End e = cc
    go (NoField p k) e = absurd (let z : ◌≡◌ {A = ℕ} 0 1 = cc in omega arith)

-- what has room for so many steps has room for the text
pub survey-fits : (t b : List ℕ) (n : ℕ) → survey_of t ≡ Merges n → leb (n * step_size + end_size) (length b) ≡ true → length (text_merged t) ≤ length b
survey-fits t b n h r = omega (arith, leb-true (n * step_size + end_size) (length b) r, text-long (merged_of (steps_in t)), survey-counts t n h)

module _ (t b : List ℕ) where
  -- a refusal, and nothing is written
  pub refused-to : {r : Merged} {p k : ℕ} → r ≡ survey_of t → r ≡ Refused p k → (r ≡ merge_to t b) × (b ≡ merge_written t b)
  unfolding merge_to
  refused-to {r} {p} {k} h e = let s : survey_of t ≡ Refused p k = sym h ∙ e in (rw s e, rw s)

  -- all has room
  pub whole_to : (n : ℕ) → survey_of t ≡ Merges n → leb (n * step_size + end_size) (length b) ≡ true → (Merges n ≡ merge_to t b) × (put_at b 0 (text_merged t) ≡ merge_written t b)
  unfolding merge_to
  whole_to n s r = (rw (s, r), rw (s, r))

  -- it has not
  pub short-to : (n : ℕ) → survey_of t ≡ Merges n → leb (n * step_size + end_size) (length b) ≡ false → (Refused 0 27 ≡ merge_to t b) × (b ≡ merge_written t b)
  unfolding merge_to
  short-to n s r = (rw (s, r), rw (s, r))
