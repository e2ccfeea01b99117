-- What a regulator needs of its copies: each time it is answered what the element held at its spawn (`reads-its-spawn`, `reads-alike`), and what it sets is seen by nobody before its end (`set-is-unseen`).
-- Assumes nothing.
use Prim.Native.Nat.{ℕ, ◌-◌}
use mathlib.Core.Bool.{true, false}
use mathlib.Core.List.{List, [], ◌∷◌}
use mathlib.Core.Path.{◌≡◌, refl, sym, ap, ◌∙◌, subst}
use native.Mathlib.Omega.{arith}
use lib.ListN.{take}
use Rattle.numbers.specs.Codes.{read_copy_code, write_copy_code}
use Rattle.values.specs.Values.{void_v, is_payload}
use Rattle.faces.specs.Types.{Value, Step, Taken, Config, State, Stepped}
use Rattle.config.specs.Lists.{place_of}
use Rattle.state.specs.Start.{start_of}
use Rattle.state.specs.Tables.{element_in, copy_in, copies_in, with_copies, with_outgoing}
use Rattle.rules.specs.Rows.{rows, row_of}
use Rattle.rules.specs.Refusals.{formed, argues, named_there, owned_refusal, instance_refusal, refusal_by, refusal_of}
use Rattle.rules.specs.Sound.{sound_of}
use Rattle.rules.proofs.Listing.{place_inside, place-lists, place-element, lists-some}
use Rattle.effects.specs.Step.{agrees, claimed_of, inner_of, step_of}
use Rattle.effects.specs.Steps.{took, runnable_of, setting, write_copy_of}
use Rattle.effects.proofs.Codes.{write_copy, possible-by, possible-let}
use Rattle.stays_sound.specs.Facts.{CanReadCopy, CanWriteCopy}
use Rattle.stays_sound.proofs.Says.{Let, let-told}
use Rattle.stays_sound.proofs.Keeps.{kept_step}
use Rattle.stays_sound.proofs.Ways.{Way}
use Rattle.stays_sound.proofs.Ways as go
use Rattle.stays_sound.proofs.Accepted.{answer_in, accepted, gone, way}
use Rattle.history.specs.History.{lives_in, arguing}
use Rattle.history.specs.Promises.{Accepted, Run, OfSteps, ReadsItsSpawn, ReadsAlike, SetIsUnseen}
use Rattle.history.proofs.Runs.{halves, joined, first}
use Rattle.history.proofs.Copying.{copies-along, lives-most, take_more}
use Rattle.history.proofs.Unseen.{off-apart, Live, accept-by, unseen-on}
use Rattle.history.proofs.Reached.{sound-along}

-- ---- reading

-- what a read copy was answered, and relied on
read_told : {cfg : Config} {st : State} {s : Step} {w : Value} {t : State} → Way cfg st s read_copy_code w t → CanReadCopy cfg st s.who s.what × (w ≡ copy_in (copies_in st.incoming s.who) (place_of cfg.incoming (runnable_of st s.who) s.what))
read_told (go.read_copy z) = (z, refl)

pub reads-its-spawn : OfSteps ReadsItsSpawn
reads-its-spawn cfg before after s st c e q =
    let m = halves cfg (start_of cfg) st before (s ∷ after) e in
    let z = read_told (way cfg m.mid s q refl (first cfg m.mid st s after m.after)) in
    let a = (copies-along cfg c before m.mid m.before).each s.who z.0.who.there.used in
    let t = cfg.incoming in
    let r = runnable_of m.mid s.who in
    let l = z.0.listed in
    (a.m, a.run, z.1 ∙ a.held (place_of t r s.what) (place_inside t r s.what l) (place-lists t r s.what l) ∙ ap (λ (k : ℕ). (element_in a.m.elements k).value) (place-element t r s.what l))

-- the state that steps reach is one
run-same : (cfg : Config) (st a b : State) (rs : List Step) → Accepted cfg st rs a → Accepted cfg st rs b → a ≡ b
unfolding Accepted
run-same cfg st a b [] p q = sym p ∙ q
run-same cfg st a b (s ∷ rs) p q = run-same cfg (step_of cfg st s).state a b rs p.1 q.1

pub reads-alike : OfSteps ReadsAlike
reads-alike cfg before after s st c e q x earlier between w d u v l =
    let m = halves cfg (start_of cfg) st before (s ∷ after) e in
    let a = reads-its-spawn cfg before after s st c e q in
    let b = reads-its-spawn cfg earlier between x m.mid c (subst (λ (rs : List Step). Run cfg rs m.mid) w m.before) d in
    let n = lives_in s.who before - 1 in
    let t : take n before ≡ take n earlier = ap (take n) w ∙ take_more n earlier (x ∷ between) (omega (arith, lives-most s.who earlier, l)) in
    let p : lives_in x.who earlier - 1 ≡ n = ap (λ (i : ℕ). lives_in i earlier - 1) u ∙ ap (λ (k : ℕ). k - 1) l in
    let same = run-same cfg (start_of cfg) b.0 a.0 (take n earlier) (subst (λ (k : ℕ). Run cfg (take k earlier) b.0) p b.1) (subst (λ (rs : List Step). Run cfg rs a.0) t a.1) in
    b.2 ∙ ap (λ (y : State). (element_in y.elements x.what).value) same ∙ ap (λ (k : ℕ). (element_in a.0.elements k).value) v ∙ sym a.2

-- ---- setting

-- what a write copy relied on, and came to
write-told : {cfg : Config} {st : State} {s : Step} {w : Value} {t : State} → Way cfg st s write_copy_code w t
    → CanWriteCopy cfg st s.who s.what s.argument × (w ≡ void_v) × (t ≡ with_outgoing st (with_copies st.outgoing s.who (setting cfg st s.who s.what s.argument)))
write-told (go.write_copy z) = (z, refl, refl)

-- the same step with another payload: it is let through as the first one was, and sets that
module _ (cfg : Config) (st : State) (s : Step) (c : s.code ≡ write_copy_code) (h : (step_of cfg st s).answer ≡ Taken (answer_in cfg st s)) (v : Value) (p : is_payload v ≡ true) where
  told-let : Let cfg st write_copy_code s.who s.what s.argument
  unfolding row_of rows
  told-let = let-told cfg st s c (possible-let cfg st s (rw (accepted cfg st s h).1 at h)) refl

  argued-let : refusal_of cfg st.slots (arguing s v) ≡ 0
  unfolding refusal_of refusal_by instance_refusal owned_refusal named_there row_of rows formed argues
  argued-let = let z = told-let in rw (c, p, z.has, z.used, z.part, z.listed, z.own, z.life)

  argued : step_of cfg st (arguing s v) ≡ took void_v (with_outgoing st (with_copies st.outgoing s.who (setting cfg st s.who s.what v)))
  unfolding step_of inner_of claimed_of write_copy_of
  argued =
      let a = accepted cfg st s h in
      let w : answer_in cfg st s ≡ void_v = (write-told (gone cfg st s c h)).1 in
      rw (a.0, possible-by cfg st (arguing s v) write_copy c argued-let, subst (λ (u : Value). agrees s.code u s.claim ≡ true) w a.2)

pub set-is-unseen : OfSteps SetIsUnseen
unfolding Accepted
set-is-unseen cfg before after s st c e q p v k =
    let m = halves cfg (start_of cfg) st before (s ∷ after) e in
    let mid = m.mid in
    let i = s.who in
    let h = first cfg mid st s after m.after in
    let z = write-told (gone cfg mid s q h) in
    let d = argued cfg mid s q h v k in
    let u = with_copies mid.outgoing i (setting cfg mid i s.what s.argument) in
    let t = with_copies mid.outgoing i (setting cfg mid i s.what v) in
    let g = sound-along cfg before mid c m.before in
    let sound-one : sound_of cfg (with_outgoing mid u) ≡ true = ap (sound_of cfg) (sym z.2) ∙ kept_step cfg mid s g in
    let sound-two : sound_of cfg (with_outgoing mid t) ≡ true = ap (λ (x : Stepped). sound_of cfg x.state) (sym d) ∙ kept_step cfg mid (arguing s v) g in
    let l = z.0.listed in
    let live : Live cfg (with_outgoing mid u) i false = record { used = z.0.who.there.used; lists = lists-some cfg.outgoing (runnable_of mid i) (place_of cfg.outgoing (runnable_of mid i) s.what) (place-lists cfg.outgoing (runnable_of mid i) s.what l); failed = z.0.fine } in
    let rest = subst (λ (x : State). Accepted cfg x after st) z.2 (behind cfg mid st s after m.after) in
    let r = unseen-on cfg i false after (with_outgoing mid u) st t sound-one sound-two (off-apart i mid.outgoing _ _) live p rest in
    (r.0, joined cfg (start_of cfg) mid r.0 before (arguing s v ∷ after) m.before (accept-by cfg mid r.0 (arguing s v) after _ d (refl, claims cfg mid s q h) r.1))
  where
    -- the steps behind the first
    behind : (cfg : Config) (a b : State) (s : Step) (rs : List Step) → Accepted cfg a (s ∷ rs) b → Accepted cfg (step_of cfg a s).state rs b
    behind cfg a b s rs x = x.1

    -- its claim agrees with Void
    claims : (cfg : Config) (st : State) (s : Step) → s.code ≡ write_copy_code → (step_of cfg st s).answer ≡ Taken (answer_in cfg st s) → agrees s.code void_v s.claim ≡ true
    claims cfg st s c h = subst (λ (u : Value). agrees s.code u s.claim ≡ true) (write-told (gone cfg st s c h)).1 (accepted cfg st s h).2
