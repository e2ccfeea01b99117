-- Two configurations of the same text have the same edition (`edition-fixed`) and the same parts (`text-fixes`), and two lists of steps of the same text are the same (`steps-are-one`). A text is its edition, its fields one behind the other and the end
-- (`text-runs`). The fields tell which parts they are of: each has its tag first, is as long as its tag says, and reads back as its entry (`runs-one`); and by their tags they give back each kind (`kind-of-fields`).
-- Assumes nothing.
use Prim.Native.Nat.{ℕ, zero, suc, ◌+◌, ◌≤◌, ◌<◌, ◌^◌}
use mathlib.Core.Bool.{Bool, true, false}
use mathlib.Core.List.{List, [], ◌∷◌, ◌++◌, append-nil, append_assoc}
use mathlib.Core.Path.{◌≡◌, refl, sym, ap, ap₂, ◌∙◌}
use native.Mathlib.Decide.{ℕ_discrete, dec_lt}
use native.Mathlib.Omega.{arith}
use lib.Dec.{ltb, eqb}
use lib.ListN.{length, get_or, drop, length-append, get_or-append}
use lib.Seq.{get_or_at}
use borrow.Author.Tests.{eq-eqb, ne_eqb, lt-ltb, le-ltb}
use Rattle.numbers.specs.Tags.{last_tag, part_kinds}
use Rattle.laws.specs.Choice.{pick}
use Rattle.faces.specs.Types.{Step, Config, Entry}
use Rattle.entries.specs.Entries.{no_entry, count_of, entry_of}
use Rattle.entries.proofs.Tags.{no-kind-count, no-kind-entry}
use Rattle.wire.specs.Bytes.{end_bytes, build}
use Rattle.wire.proofs.Laws.{build-same}
use Rattle.reading.specs.Reading.{size_of, entry_read}
use Rattle.recording.specs.Whole.{Whole, whole_of as steps_of, text_of as steps_text, EachRecorded}
use Rattle.recording.proofs.Texts.{text-reads}
use Rattle.writing.specs.Writing.{entry_bytes, part_bytes, kind_bytes, block_of, parts_bytes, edition_bytes, text_of as config_text}
use Rattle.round_trips.proofs.EachEntry.{shape_of, entry-back, part-shaped, Leads, entry-leads}
use Rattle.crew.specs.Crew.{Fixed}

-- ---- steps

pub steps-are-one : (a b : List Step) → EachRecorded a → EachRecorded b → steps_text a ≡ steps_text b → a ≡ b
steps-are-one a b r q e = ap (λ (w : Whole). w.steps) (sym (text-reads a r) ∙ ap steps_of e ∙ text-reads b q)

-- ---- lists made piece by piece

gather : {A : Type 0} → (ℕ → List A) → ℕ → List A
gather f zero = []
gather f (suc n) = gather f n ++ f n

gather-same : {A : Type 0} (f g : ℕ → List A) (n : ℕ) → ((k : ℕ) → k < n → f k ≡ g k) → gather f n ≡ gather g n
unfolding gather
gather-same f g zero h = refl
gather-same f g (suc n) h = ap₂ (λ l r. l ++ r) (gather-same f g n (λ k b. h k (omega arith))) (h n (omega arith))

-- one thing for each place: as many as there are, and each at its place
one_each : {A : Type 0} (f : ℕ → A) (n : ℕ) → length (gather (λ i. f i ∷ []) n) ≡ n
unfolding gather
one_each f zero = refl
one_each f (suc n) = length-append (gather (λ i. f i ∷ []) n) (f n ∷ []) ∙ omega (arith, one_each f n)

one_at : {A : Type 0} (f : ℕ → A) (d : A) (n i : ℕ) → i < n → get_or (gather (λ i. f i ∷ []) n) i d ≡ f i
unfolding gather
one_at f d zero i l = absurd (omega arith)
one_at f d (suc n) i l = go (ℕ_discrete i n) (λ b. one_at f d n i b)
  where
    go : Dec (i ≡ n) → (i < n → get_or (gather (λ i. f i ∷ []) n) i d ≡ f i) → get_or (gather (λ i. f i ∷ []) n ++ (f n ∷ [])) i d ≡ f i
    go (yes e) rest = rw e (get_or_at (gather (λ i. f i ∷ []) n) (f n) [] d n (one_each f n))
    go (no q) rest = get_or-append (gather (λ i. f i ∷ []) n) (f n ∷ []) d i (omega (arith, l, q, one_each f n)) ∙ rest (omega (arith, l, q))

-- ---- fields one behind the other

record Piece : Type 0 where
  tag : ℕ
  entry : Entry

-- the bytes of fields, with u behind them
runs : List ℕ → List Piece → List ℕ
runs u [] = u
runs u (p ∷ ps) = entry_bytes p.tag p.entry ++ runs u ps

runs_append : (u : List ℕ) (xs ys : List Piece) → runs u (xs ++ ys) ≡ runs (runs u ys) xs
unfolding runs
runs_append u [] ys = refl
runs_append u (p ∷ xs) ys = ap (λ (l : List ℕ). entry_bytes p.tag p.entry ++ l) (runs_append u xs ys)

runs-behind : (u : List ℕ) (xs : List Piece) → runs u xs ≡ runs [] xs ++ u
unfolding runs
runs-behind u [] = refl
runs-behind u (p ∷ xs) = ap (λ (l : List ℕ). entry_bytes p.tag p.entry ++ l) (runs-behind u xs) ∙ sym (append_assoc (entry_bytes p.tag p.entry) (runs [] xs) u)

runs-gather : (f : ℕ → List Piece) (n : ℕ) → runs [] (gather f n) ≡ build (λ (i : ℕ). runs [] (f i)) n
unfolding runs gather build
runs-gather f zero = refl
runs-gather f (suc n) = runs_append [] (gather f n) (f n) ∙ runs-behind (runs [] (f n)) (gather f n) ∙ ap (λ (l : List ℕ). l ++ runs [] (f n)) (runs-gather f n)

-- a field of a kind, whose entry its bytes say
record Says (p : Piece) : Type 0 where
  low : 0x10 ≤ p.tag
  high : p.tag ≤ last_tag
  number : p.entry.number < 2 ^ 32
  shape : shape_of p.tag p.entry ≡ p.entry

EachSays : List Piece → Type 0
EachSays [] = Unit {0}
EachSays (p ∷ ps) = Says p × EachSays ps

says-append : (xs ys : List Piece) → EachSays xs → EachSays ys → EachSays (xs ++ ys)
unfolding EachSays
says-append [] ys h g = g
says-append (p ∷ xs) ys h g = (h.0, says-append xs ys h.1 g)

says-gather : (f : ℕ → List Piece) (n : ℕ) → ((i : ℕ) → i < n → EachSays (f i)) → EachSays (gather f n)
unfolding EachSays gather
says-gather f zero h = tt
says-gather f (suc n) h = says-append (gather f n) (f n) (says-gather f n (λ i l. h i (omega arith))) (h n (omega arith))

leads : (p : Piece) (rest : List ℕ) → Says p → Leads p.tag p.entry rest
leads p rest s = entry-leads p.tag s.low s.high p.entry rest

reads : (p : Piece) (rest : List ℕ) → Says p → entry_read p.tag (entry_bytes p.tag p.entry ++ rest) ≡ p.entry
reads p rest s = entry-back p.tag p.entry rest s.number ∙ s.shape

-- a field is not the end
no_end : (p : Piece) (rest : List ℕ) → Says p → end_bytes ≡ entry_bytes p.tag p.entry ++ rest → ⊥
no_end p rest s e = omega (arith, ap (λ (l : List ℕ). get_or l 0 0) e, (leads p rest s).first, s.high)

runs-one : (xs ys : List Piece) → EachSays xs → EachSays ys → runs end_bytes xs ≡ runs end_bytes ys → xs ≡ ys
unfolding runs EachSays
runs-one [] [] h g e = refl
runs-one [] (q ∷ ys) h g e = absurd (no_end q (runs end_bytes ys) g.0 e)
runs-one (p ∷ xs) [] h g e = absurd (no_end p (runs end_bytes xs) h.0 (sym e))
runs-one (p ∷ xs) (q ∷ ys) h g e =
    let a = leads p (runs end_bytes xs) h.0 in
    let b = leads q (runs end_bytes ys) g.0 in
    let t : p.tag ≡ q.tag = sym a.first ∙ ap (λ (l : List ℕ). get_or l 0 0) e ∙ b.first in
    let x : p.entry ≡ q.entry = sym (reads p (runs end_bytes xs) h.0) ∙ ap₂ entry_read t e ∙ reads q (runs end_bytes ys) g.0 in
    let r : runs end_bytes xs ≡ runs end_bytes ys = sym a.behind ∙ ap₂ (λ (n : ℕ) (l : List ℕ). drop (3 + size_of n) l) t e ∙ b.behind in
    ap₂ (λ (z : Piece) (zs : List Piece). z ∷ zs) (ap₂ (λ (n : ℕ) (y : Entry). record { tag = n; entry = y }) t x) (runs-one xs ys h.1 g.1 r)

-- ---- the fields of a configuration

module _ (cfg : Config) where
  kind_fields : ℕ → List Piece
  kind_fields tag = gather (λ i. record { tag = tag; entry = entry_of cfg tag i } ∷ []) (count_of cfg tag)

  fields : List Piece
  fields = gather (λ j. kind_fields (0x10 + j)) part_kinds

  kind-runs : (tag : ℕ) → runs [] (kind_fields tag) ≡ kind_bytes cfg tag
  unfolding kind_fields kind_bytes part_bytes runs
  kind-runs tag = runs-gather (λ i. record { tag = tag; entry = entry_of cfg tag i } ∷ []) (count_of cfg tag) ∙ build-same _ _ (count_of cfg tag) (λ k l. append-nil (entry_bytes tag (entry_of cfg tag k)))

  text-runs : config_text cfg ≡ edition_bytes cfg.edition ++ runs end_bytes fields
  unfolding config_text parts_bytes block_of fields
  text-runs =
      append_assoc (edition_bytes cfg.edition) (build (λ (j : ℕ). kind_bytes cfg (0x10 + j)) part_kinds) end_bytes
      ∙ ap (λ (l : List ℕ). edition_bytes cfg.edition ++ (l ++ end_bytes)) (sym (runs-gather (λ j. kind_fields (0x10 + j)) part_kinds ∙ build-same _ _ part_kinds (λ k l. kind-runs (0x10 + k))))
      ∙ ap (λ (l : List ℕ). edition_bytes cfg.edition ++ l) (sym (runs-behind end_bytes fields))

  fields-say : Fixed cfg → EachSays fields
  unfolding fields kind_fields EachSays
  fields-say f =
      says-gather (λ j. kind_fields (0x10 + j)) part_kinds
      (λ j l. says-gather (λ i. record { tag = 0x10 + j; entry = entry_of cfg (0x10 + j) i } ∷ []) (count_of cfg (0x10 + j))
      (λ i b. (record { low = omega arith; high = omega (arith, l); number = f.numbers (0x10 + j) i; shape = part-shaped (0x10 + j) (omega arith) (omega (arith, l)) cfg i }, tt)))

-- ---- the entries of one kind among fields

entries_of : ℕ → List Piece → List Entry
entries_of k [] = []
entries_of k (p ∷ ps) = pick (eqb p.tag k) (p.entry ∷ entries_of k ps) (entries_of k ps)

entries-append : (k : ℕ) (xs ys : List Piece) → entries_of k (xs ++ ys) ≡ entries_of k xs ++ entries_of k ys
unfolding entries_of
entries-append k [] ys = refl
entries-append k (p ∷ xs) ys = go (eqb p.tag k) (entries-append k xs ys)
  where
    go : (b : Bool) → entries_of k (xs ++ ys) ≡ entries_of k xs ++ entries_of k ys
        → pick b (p.entry ∷ entries_of k (xs ++ ys)) (entries_of k (xs ++ ys)) ≡ pick b (p.entry ∷ entries_of k xs) (entries_of k xs) ++ entries_of k ys
    go true e = ap (λ (l : List Entry). p.entry ∷ l) e
    go false e = e

entries-gather : (k : ℕ) (f : ℕ → List Piece) (n : ℕ) → entries_of k (gather f n) ≡ gather (λ i. entries_of k (f i)) n
unfolding entries_of gather
entries-gather k f zero = refl
entries-gather k f (suc n) = entries-append k (gather f n) (f n) ∙ ap (λ (l : List Entry). l ++ entries_of k (f n)) (entries-gather k f n)

-- all of a kind or nothing
gather-by : {A : Type 0} (b : Bool) (f : ℕ → A) (n : ℕ) → gather (λ i. pick b (f i ∷ []) []) n ≡ pick b (gather (λ i. f i ∷ []) n) []
unfolding gather
gather-by true f n = refl
gather-by false f zero = refl
gather-by false f (suc n) = ap (λ l. l ++ []) (gather-by false f n)

-- one kind among all from c on
gather-hit : {A : Type 0} (g : ℕ → List A) (c k n : ℕ) → c ≤ k → gather (λ j. pick (eqb (c + j) k) (g (c + j)) []) n ≡ pick (ltb k (c + n)) (g k) []
unfolding gather
gather-hit g c k zero l = rw (le-ltb k (c + 0) (omega (arith, l)))
gather-hit g c k (suc n) l = go (ℕ_discrete (c + n) k) (dec_lt k (c + n)) (gather-hit g c k n l)
  where
    go : Dec (c + n ≡ k) → Dec (k < c + n) → gather (λ j. pick (eqb (c + j) k) (g (c + j)) []) n ≡ pick (ltb k (c + n)) (g k) []
        → gather (λ j. pick (eqb (c + j) k) (g (c + j)) []) n ++ pick (eqb (c + n) k) (g (c + n)) [] ≡ pick (ltb k (c + suc n)) (g k) []
    go (yes e) d h = rw (h, le-ltb k (c + n) (omega (arith, e)), eq-eqb (c + n) k e, lt-ltb k (c + suc n) (omega (arith, e)), e)
    go (no q) (yes b) h = rw (h, lt-ltb k (c + n) b, ne_eqb (c + n) k q, lt-ltb k (c + suc n) (omega (arith, b))) (append-nil (g k))
    go (no q) (no b) h = rw (h, le-ltb k (c + n) (omega (arith, b)), ne_eqb (c + n) k q, le-ltb k (c + suc n) (omega (arith, b, q)))

kind-of-fields : (cfg : Config) (k : ℕ) → 0x10 ≤ k → k ≤ last_tag → entries_of k (fields cfg) ≡ gather (λ i. entry_of cfg k i ∷ []) (count_of cfg k)
unfolding fields kind_fields entries_of
kind-of-fields cfg k low high =
    entries-gather k (λ j. kind_fields cfg (0x10 + j)) part_kinds
    ∙ gather-same _ _ part_kinds (λ j l. entries-gather k (λ i. record { tag = 0x10 + j; entry = entry_of cfg (0x10 + j) i } ∷ []) (count_of cfg (0x10 + j)) ∙ gather-by (eqb (0x10 + j) k) (entry_of cfg (0x10 + j)) (count_of cfg (0x10 + j)))
    ∙ gather-hit (λ tag. gather (λ i. entry_of cfg tag i ∷ []) (count_of cfg tag)) 0x10 k part_kinds low ∙ rw (lt-ltb k (0x10 + part_kinds) (omega (arith, high)))

-- ---- the same text, the same parts

module _ (a b : Config) (f : Fixed a) (g : Fixed b) (e : config_text a ≡ config_text b) where
  pub edition-fixed : a.edition ≡ b.edition
  edition-fixed = ap (λ (l : List ℕ). get_or l 3 0) (sym (text-runs a) ∙ e ∙ text-runs b)

  same-fields : fields a ≡ fields b
  same-fields = runs-one (fields a) (fields b) (fields-say a f) (fields-say b g) (ap (drop 4) (sym (text-runs a) ∙ e ∙ text-runs b))

  module _ (tag : ℕ) (low : 0x10 ≤ tag) (high : tag ≤ last_tag) where
    same_kind : gather (λ i. entry_of a tag i ∷ []) (count_of a tag) ≡ gather (λ i. entry_of b tag i ∷ []) (count_of b tag)
    same_kind = sym (kind-of-fields a tag low high) ∙ ap (entries_of tag) same-fields ∙ kind-of-fields b tag low high

    same_count : count_of a tag ≡ count_of b tag
    same_count = sym (one_each (entry_of a tag) (count_of a tag)) ∙ ap length same_kind ∙ one_each (entry_of b tag) (count_of b tag)

    same-entry : (i : ℕ) → Dec (i < count_of a tag) → entry_of a tag i ≡ entry_of b tag i
    same-entry i (yes l) = sym (one_at (entry_of a tag) no_entry (count_of a tag) i l) ∙ ap (λ (x : List Entry). get_or x i no_entry) same_kind ∙ one_at (entry_of b tag) no_entry (count_of b tag) i (omega (arith, l, same_count))
    same-entry i (no n) = f.blank tag i (omega (arith, n)) ∙ sym (g.blank tag i (omega (arith, n, same_count)))

  pub text-fixes : (tag i : ℕ) → (count_of a tag ≡ count_of b tag) × (entry_of a tag i ≡ entry_of b tag i)
  text-fixes tag i = go (dec_lt tag 0x10) (dec_lt last_tag tag)
    where
      outside : (0x10 ≤ tag → tag ≤ last_tag → ⊥) → (count_of a tag ≡ count_of b tag) × (entry_of a tag i ≡ entry_of b tag i)
      outside n = (no-kind-count tag n a ∙ sym (no-kind-count tag n b), no-kind-entry tag n a i ∙ sym (no-kind-entry tag n b i))

      go : Dec (tag < 0x10) → Dec (last_tag < tag) → (count_of a tag ≡ count_of b tag) × (entry_of a tag i ≡ entry_of b tag i)
      go (yes x) y = outside (λ l h. omega (arith, x, l))
      go (no x) (yes y) = outside (λ l h. omega (arith, y, h))
      go (no x) (no y) = (same_count tag (omega (arith, x)) (omega (arith, y)), same-entry tag (omega (arith, x)) (omega (arith, y)) i (dec_lt i (count_of a tag)))
