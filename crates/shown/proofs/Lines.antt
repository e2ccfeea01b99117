-- From the bytes of two files to what is told, and back: the files are too long, not read, without the operation, or judged (`Files`); a line that is told is the judged
-- one, and means what it says (`shown-means`, `means-shown`).
-- Assumes nothing.
use Prim.Native.Nat.{ℕ, ◌≤◌, ◌<◌}
use mathlib.Core.Bool.{false}
use mathlib.Core.List.{List}
use mathlib.Core.Option.{some}
use mathlib.Core.Path.{◌≡◌, refl, sym, ap, ◌∙◌, subst}
use native.Mathlib.Decide.{dec_lt}
use native.Mathlib.Omega.{arith}
use lib.ListN.{length}
use borrow.Author.Tests.{lt-ltb, le-ltb}
use Rattle.numbers.specs.Refusals.{not_there}
use Rattle.values.specs.Values.{number_v}
use Rattle.state.specs.Tables.{operation_in}
use Rattle.reading.specs.declared.Outcome.{Outcome}
use Rattle.reading.specs.declared.Outcome.TheVariants.{Whole as IsRead, Refused as NotRead}
use Rattle.reading.specs.Reading.{config_of, outcome_refusal}
use Rattle.reading.proofs.Sound.{read_number}
use Rattle.recording.specs.Whole.{steps_in}
use Rattle.recording.proofs.Texts.{text-again}
use Rattle.judging.specs.Line.{max_config, allowed}
use Rattle.history.specs.History.{How, by_instance, Ending, history_of, latest_on, ends_of, last_on, ended_call, given, delivered, Started, EndedBy, InTime, time_since}
use Rattle.history.specs.Promises.{Ended}
use Rattle.history.proofs.Proofs.{done-is-delivered, done-is-final, open-is-unended}
use Rattle.config.specs.Tables.{operation_conf_in}
use Rattle.claims.proofs.FromBytes.{accepted-is-run}
use Rattle.gaps.proofs.Reported.{text-length}
use Rattle.posting.specs.declared.Shown.{Shown}
use Rattle.posting.specs.declared.Shown.TheVariants.{Final, Wait, NoPlan, None, Unjudged}
use Rattle.posting.specs.declared.Board.{Board}
use Rattle.posting.specs.declared.Told.{Told}
use Rattle.posting.specs.declared.Told.TheVariants.{Line, Refused, Configuration, TooLong}
use Rattle.posting.specs.declared.Posted.{Posted}
use Rattle.posting.specs.Posting.{enters, leaves}
use Rattle.showing.specs.Showing.{recording_shown, show_of, show_files_of}
use Rattle.shown.specs.Claims.{told_of, There, Whole, after_all, NoneOpen, Means, LineIsMeant, RefusedIsAbsent, Planned, FinalIsHandedBack, JudgedIsAccepted}
use Rattle.shown.proofs.Meant.{last-in, config-sound, inside, shown-unjudged, whole-or, shown_by, none-unended, last-ended, shown-means, means-shown}

-- ---- by the files

pub data Files (c : List ℕ) (o : ℕ) (t : List ℕ) (b : Board) : Type 0 where
  too_long : max_config < length c → show_files_of c o t b ≡ leaves b TooLong → Files c o t b
  unread : (p k : ℕ) → (config_of c).outcome ≡ NotRead p k → show_files_of c o t b ≡ leaves b (Configuration p k) → Files c o t b
  absent : length c ≤ max_config → outcome_refusal (config_of c).outcome ≡ 0 → (config_of c).config.operations.n ≤ o → show_files_of c o t b ≡ leaves b (Refused not_there) → Files c o t b
  there : There c o → show_files_of c o t b ≡ enters b (recording_shown (config_of c).config o t allowed) → Files c o t b

pub files : (c : List ℕ) (o : ℕ) (t : List ℕ) (b : Board) → Files c o t b
unfolding show_files_of show_of
files c o t b = go (dec_lt max_config (length c)) (config_of c).outcome refl (dec_lt o (config_of c).config.operations.n)
  where
    go : Dec (max_config < length c) → (x : Outcome) → (config_of c).outcome ≡ x → Dec (o < (config_of c).config.operations.n) → Files c o t b
    go (yes l) x e d = too_long l (rw (lt-ltb max_config (length c) l))
    go (no l) (NotRead p k) e d = unread p k e (rw (le-ltb max_config (length c) (omega (arith, l)), e))
    go (no l) IsRead e (yes d) = there (record { fits = omega (arith, l); read = ap outcome_refusal e; there = d }) (rw (le-ltb max_config (length c) (omega (arith, l)), e, lt-ltb o (config_of c).config.operations.n d))
    go (no l) IsRead e (no d) = absent (omega (arith, l)) (ap outcome_refusal e) (omega (arith, d)) (rw (le-ltb max_config (length c) (omega (arith, l)), e, le-ltb o (config_of c).config.operations.n (omega (arith, d))))

-- what is told tells itself apart
abbrev pub kind_of : Told → ℕ
kind_of (Line x) = 0
kind_of (Refused k) = 1
kind_of (Configuration p k) = 2
kind_of TooLong = 3

abbrev pub line_in : Told → Shown
line_in (Line x) = x
line_in (Refused k) = Unjudged
line_in (Configuration p k) = Unjudged
line_in TooLong = Unjudged

abbrev number_in : Told → ℕ
number_in (Line x) = 0
number_in (Refused k) = k
number_in (Configuration p k) = 0
number_in TooLong = 0

module _ (c : List ℕ) (o : ℕ) (t : List ℕ) (b : Board) where
  pub told-by : {x y : Told} {d : Board} → show_files_of c o t b ≡ record { told = y; board = d } → told_of c o t b ≡ x → y ≡ x
  told-by e h = sym (ap (λ (p : Posted). p.told) e) ∙ h

  told-there : (x : Shown) → told_of c o t b ≡ Line x → There c o × (recording_shown (config_of c).config o t allowed ≡ x)
  told-there x h = go (files c o t b)
    where
      go : Files c o t b → There c o × (recording_shown (config_of c).config o t allowed ≡ x)
      go (too_long l e) = absurd (omega (arith, ap kind_of (told-by e h)))
      go (unread p k u e) = absurd (omega (arith, ap kind_of (told-by e h)))
      go (absent l r n e) = absurd (omega (arith, ap kind_of (told-by e h)))
      go (there w e) = (w, ap line_in (told-by e h))

  there-told : There c o → told_of c o t b ≡ Line (recording_shown (config_of c).config o t allowed)
  there-told w = go (files c o t b)
    where
      go : Files c o t b → told_of c o t b ≡ Line (recording_shown (config_of c).config o t allowed)
      go (too_long l e) = absurd (omega (arith, l, w.fits))
      go (unread p k u e) = absurd (let z : IsRead ≡ NotRead p k = sym (read_number c w.read) ∙ u in let y : ◌≡◌ {A = ℕ} 0 1 = cc in omega arith)
      go (absent l r n e) = absurd (omega (arith, n, w.there))
      go (there v e) = ap (λ (p : Posted). p.told) e

  -- what is shown means what it says
  meant : There c o → Means c o t (recording_shown (config_of c).config o t allowed)
  meant w = go (whole-or c o t w)
    where
      go : Dec (Whole c t) → Means c o t (recording_shown (config_of c).config o t allowed)
      go (yes x) = rw (shown_by c o t w x) (shown-means c o t w x)
      go (no n) = rw (shown-unjudged c o t w n) n

pub line-is-meant : LineIsMeant
line-is-meant c o t b x = (
  λ h. let w = told-there c o t b x h in (w.0, subst (Means c o t) w.1 (meant c o t b w.0)),
  λ w. there-told c o t b w.0 ∙ ap Line (means-shown c o t w.0 x w.1),
)

pub refused-is-absent : RefusedIsAbsent
refused-is-absent c o t b k = (λ h. go h (files c o t b), λ w. back w (files c o t b))
  where
    go : told_of c o t b ≡ Refused k → Files c o t b → (length c ≤ max_config) × (outcome_refusal (config_of c).outcome ≡ 0) × ((config_of c).config.operations.n ≤ o) × (k ≡ not_there)
    go h (too_long l e) = absurd (omega (arith, ap kind_of (told-by c o t b e h)))
    go h (unread p i u e) = absurd (omega (arith, ap kind_of (told-by c o t b e h)))
    go h (absent l r n e) = (l, r, n, sym (ap number_in (told-by c o t b e h)))
    go h (there w e) = absurd (omega (arith, ap kind_of (told-by c o t b e h)))

    back : (length c ≤ max_config) × (outcome_refusal (config_of c).outcome ≡ 0) × ((config_of c).config.operations.n ≤ o) × (k ≡ not_there) → Files c o t b → told_of c o t b ≡ Refused k
    back w (too_long l e) = absurd (omega (arith, l, w.0))
    back w (unread p i u e) = absurd (let z : IsRead ≡ NotRead p i = sym (read_number c w.1) ∙ u in let y : ◌≡◌ {A = ℕ} 0 1 = cc in omega arith)
    back w (absent l r n e) = ap (λ (p : Posted). p.told) e ∙ ap Refused (sym w.3)
    back w (there v e) = absurd (omega (arith, v.there, w.2))

-- ---- final

module _ (c : List ℕ) (o : ℕ) (t : List ℕ) (n : ℕ) (h : There c o) (w : Whole c t) (no : NoneOpen c o t) (e : Ending) (q : last_on o (after_all c t).endings ≡ some e) (how : e.how ≡ by_instance e.call (number_v n)) where
  closed : (operation_in w.state.operations o).calling ≡ false
  closed = open-is-unended (config_of c).config (steps_in t) w.state (config-sound c o t h) w.run o (inside c o t h) ∙ none-unended c o t h w no

  ended : Ended (config_of c).config (steps_in t) e
  ended = last-ended c o t h w e q

  by : EndedBy (history_of (config_of c).config ended.before) ended.step e.on e.call (by_instance e.call (number_v n))
  by = subst (λ (y : How). EndedBy (history_of (config_of c).config ended.before) ended.step e.on e.call y) how ended.by

  on-o : e.on ≡ o
  on-o = (last-in o (after_all c t).endings e q).1

  in-time : time_since e.call ended.before ≤ (operation_conf_in (config_of c).config.operations o).timeout
  in-time = subst (λ (i : ℕ). time_since e.call ended.before ≤ (operation_conf_in (config_of c).config.operations i).timeout) on-o
      (subst (λ (y : How). InTime (time_since e.call ended.before) (operation_conf_in (config_of c).config.operations e.on).timeout y) how ended.time)

  newest : e.call ≡ latest_on (after_all c t) o
  newest = ap ended_call (sym q) ∙ (done-is-delivered (config_of c).config (steps_in t) w.state (config-sound c o t h) w.run o (inside c o t h) closed).1

  ended-once : ends_of e.call (after_all c t).endings ≡ 1
  ended-once =
      let d = (done-is-delivered (config_of c).config (steps_in t) w.state (config-sound c o t h) w.run o (inside c o t h) closed).0 ∙ ap delivered q ∙ ap given how in
      let f = done-is-final (config_of c).config (steps_in t) w.state (config-sound c o t h) w.run o n (inside c o t h) closed d in
      let s : f.0 ≡ e = let p = sym f.1 ∙ q in cc in
      ap (λ (x : Ending). ends_of x.call (after_all c t).endings) (sym s) ∙ f.3

  handed-back : Planned c o t n
  handed-back = record {
    before = ended.before;
    step = ended.step;
    after = ended.after;
    text = λ y. sym (text-again t y w.whole);
    place = ended.whole;
    back = by.0.0;
    plan = by.2;
    ends = by.0.1;
    call = e.call;
    started = subst (λ (i : ℕ). Started ended.before e.call i) on-o ended.call;
    for = by.0.3;
    on = by.0.2 ∙ on-o;
    fine = by.3;
    time = in-time;
    latest = newest;
    once = ended-once;
    none = no;
  }

pub final-is-handed-back : FinalIsHandedBack
final-is-handed-back c o t b n h = let m = (line-is-meant c o t b (Final n)).0 h in handed-back c o t n m.0 m.1.0 m.1.1 m.1.2 m.1.3 m.1.4

-- ---- the judge's line

judged-whole : (c : List ℕ) (o : ℕ) (t : List ℕ) (x : Shown) → Means c o t x → (x ≡ Unjudged → ⊥) → Whole c t
judged-whole c o t (Final n) m d = m.0
judged-whole c o t Wait m d = m.0
judged-whole c o t NoPlan m d = m.0
judged-whole c o t None m d = m.0
judged-whole c o t Unjudged m d = absurd (d refl)

pub judged-is-accepted : JudgedIsAccepted
judged-is-accepted c o t b x y h d =
    let m = (line-is-meant c o t b x).0 h in
    let w = judged-whole c o t x m.1 d in
    let l = ap length (sym (text-again t y w.whole)) ∙ text-length (steps_in t) in
    ((accepted-is-run c t (length (steps_in t))).1 (((m.0.fits, omega (arith, l, w.few)), m.0.read), w.whole, refl, w.few, w.state, w.run)).0
