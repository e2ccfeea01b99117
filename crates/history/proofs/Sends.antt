-- What the claim of an accepted step says of its answer, and that nothing reads the claim of a send.
-- Assumes nothing.
use Prim.Native.Nat.{ℕ, suc, zero, ◌<◌}
use mathlib.Core.Bool.{true}
use mathlib.Core.List.{List, ◌∷◌}
use mathlib.Core.Logic.{◌↔◌, ◌⊎◌, inl, inr, ⊎_elim}
use mathlib.Core.Path.{◌≡◌, refl, sym, ap, ◌∙◌}
use native.Mathlib.Omega.{arith}
use borrow.Author.Tests.{ne_eqb}
use Rattle.numbers.specs.Codes.{read_copy_code, write_copy_code, send_code, call_code, result_code, hand_back_code, spawn_code, receive_code, give_up_code}
use Rattle.laws.specs.Mask.{is_set}
use Rattle.laws.proofs.Choosing.{clash}
use Rattle.laws.proofs.Masks.{none-set}
use Rattle.faces.specs.Types.{Value, Step, Taken, Config, State}
use Rattle.values.specs.Values.{ok_v, limit_v}
use Rattle.rules.specs.Refusals.{asks_synchronous}
use Rattle.rules.proofs.Configured.{required-most}
use Rattle.state.specs.Tables.{element_in}
use Rattle.effects.specs.Steps.{fed, full_mask, sent_of}
use Rattle.effects.specs.Fullness.{FullQueue}
use Rattle.effects.specs.Step.{step_of}
use Rattle.effects.proofs.Agreeing.{Older, agrees-send}
use Rattle.effects.proofs.Sends.{bit-is-full, named-kept, unnamed-fed, fed-at, sent-ok, sent-full, sent-good}
use Rattle.stays_sound.specs.Facts.{Sound}
use Rattle.stays_sound.proofs.Told.{told, shape-told}
use Rattle.stays_sound.proofs.Elements.{linked-alike}
use Rattle.stays_sound.proofs.Accepted.{accepted, claim-told, gone, send-told}
use Rattle.history.specs.History.{observe, Started, time_of, tick_after, lives_after, back_after, binds, bound_after, awaits_after, held_after, holder_after, all_queued, all_spawns}
use Rattle.history.specs.Promises.{OfSteps, AtStep}
use Rattle.history.specs.Sends.{ClaimIsAnswer, Said, SendSays, claiming, Unread, SendIsUnread}
use Rattle.history.proofs.Runs.{halves, first}
use Rattle.history.proofs.Deeds.{other-code}
use Rattle.history.proofs.Lets.{sent-queued}
use Rattle.history.proofs.Lives.{lives-one}
use Rattle.state.specs.Start.{start_of}

-- ---- every code but send

pub claim-is-answer : OfSteps ClaimIsAnswer
claim-is-answer cfg before after s st c e n =
    let m = halves cfg (start_of cfg) st before (s ∷ after) e in
    let t = first cfg m.mid st s after m.after in
    (m.mid, m.before, t ∙ ap Taken (sym (claim-told cfg m.mid s t (ne_eqb s.code send_code n))))

-- ---- a send

module _ (cfg : Config) (m : State) (s : Step) (c : s.code ≡ send_code) {v : Value} (a : (step_of cfg m s).answer ≡ Taken v) where
  abbrev mask : ℕ
  mask = full_mask cfg m.elements s.what

  fine : Sound cfg m
  fine = told cfg m (accepted cfg m s a).0

  answer-is : v ≡ sent_of mask
  answer-is = (send-told cfg m s (gone cfg m s c a)).0

  after_is : (step_of cfg m s).state ≡ fed cfg m s.what s.argument
  after_is = (send-told cfg m s (gone cfg m s c a)).1

  claimed-so : (s.claim ≡ sent_of mask) ⊎ ((s.claim ≡ limit_v) × (0 < mask))
  claimed-so =
      ⊎_elim (λ (e : v ≡ s.claim). inl (sym e ∙ answer-is)) (λ (o : Older v s.claim). inr (o.claim, older o))
      (agrees-send v s.claim (rw c at (accepted cfg m s a).2))
    where
      older : Older v s.claim → 0 < mask
      older o = let f = sent-full mask v.number (sym answer-is ∙ o.answer) in omega (arith, f.0, f.1)

  same_place : (q : ℕ) → q < cfg.required.n → q < 16
  same_place q l = omega (arith, l, required-most cfg fine.config)

  sent-at : (q : ℕ) → q < cfg.required.n → element_in (step_of cfg m s).state.elements q ≡ element_in (fed cfg m s.what s.argument).elements q
  sent-at q l = ap (λ (t : State). element_in t.elements q) after_is

  named-stays : (q : ℕ) → is_set mask q ≡ true → element_in (step_of cfg m s).state.elements q ≡ element_in m.elements q
  unfolding fed
  named-stays q h =
      let f = (bit-is-full cfg m.elements s.what q).0 h in
      sent-at q f.there ∙ fed-at cfg m.elements s.what q s.argument f.there (omega (arith, same_place q f.there, (shape-told m fine.shape).elements))
      ∙ named-kept cfg m.elements s.what q s.argument h

  none-full : s.claim ≡ ok_v → (q : ℕ) → FullQueue cfg m.elements s.what q → ⊥
  none-full k q f =
      ⊎_elim (λ (e : s.claim ≡ sent_of mask). clash (is_set mask q) ((bit-is-full cfg m.elements s.what q).1 f) (ap (λ (n : ℕ). is_set n q) (sent-ok mask (sym e ∙ k)) ∙ none-set q))
      (λ (e : (s.claim ≡ limit_v) × (0 < mask)). omega (arith, ap (λ (w : Value). w.kind) (sym e.0 ∙ k))) claimed-so

  pub said : Said cfg m s
  unfolding fed
  said = record {
    answer = a ∙ ap Taken answer-is;
    claim = claimed-so;
    none = none-full;
    good = sent-good cfg m.elements s.what (required-most cfg fine.config);
    bits = λ q. bit-is-full cfg m.elements s.what q;
    kept = named-stays;
    got = λ q l k h.
        sent-at q l ∙ fed-at cfg m.elements s.what q s.argument l (omega (arith, same_place q l, (shape-told m fine.shape).elements))
        ∙ unnamed-fed cfg m.elements s.what q s.argument l k (sym (linked-alike cfg fine.config s.what q k) ∙ sent-queued cfg m s a c) h;
  }

pub send-says : OfSteps SendSays
send-says cfg before after s st c e q =
    let m = halves cfg (start_of cfg) st before (s ∷ after) e in
    (m.mid, m.before, said cfg m.mid s q (first cfg m.mid st s after m.after))

-- ---- what a send claims is not read

module _ (s : Step) (v : Value) (c : s.code ≡ send_code) where
  unread-started : (rs : List Step) (k o : ℕ) → Started (claiming s v ∷ rs) k o ↔ Started (s ∷ rs) k o
  unfolding Started
  unread-started rs zero o = (λ h. h, λ h. h)
  unread-started rs (suc zero) o = (λ h. absurd (other-code call_code c refl h.0), λ h. absurd (other-code call_code c refl h.0))
  unread-started rs (suc (suc k)) o = (λ h. h, λ h. h)

  unread : Unread s v
  unfolding observe time_of tick_after lives_after back_after bound_after awaits_after held_after binds asks_synchronous holder_after all_queued all_spawns
  unread = record {
    history = λ cfg h. rw c;
    started = unread-started;
    time = refl;
    ticks = λ k n w. refl;
    lives = λ i n w. rw c;
    backs = λ i w. rw c;
    bounds = λ cfg o w. rw c;
    awaits = λ cfg i n w. rw c;
    helds = λ i n w. refl;
    holders = λ a w. refl;
    queued = λ cfg r n rs. rw c;
    spawns = λ r rs. refl;
  }

pub send-is-unread : SendIsUnread
send-is-unread cfg before after s v c = (u, at)
  where
    u : Unread s v
    u = unread s v c

    at : AtStep cfg before s after → AtStep cfg before (claiming s v) after
    at p = record {
      enter = p.enter;
      exit = p.exit;
      end = p.end;
      fresh = λ q. absurd (other-code spawn_code c refl q);
      alive = p.alive;
      holder = λ a i b h. ((p.holder a i b h).0, lives-one i before (claiming s v) ∙ u.lives i _ _ ∙ sym (lives-one i before s) ∙ (p.holder a i b h).1);
      failed = p.failed;
      last = p.last;
      paid = p.paid;
      call = λ q. absurd (other-code call_code c refl q);
      waiter = p.waiter;
      held = λ w q. absurd (⊎_elim (λ x. other-code receive_code c refl x.0) (λ x. other-code give_up_code c refl x.0) (p.held w q).3);
      spent = λ q. absurd (other-code give_up_code c refl q);
      copy = λ q. absurd (other-code read_copy_code c refl q);
      copies = λ q. absurd (other-code read_copy_code c refl q);
      unseen = λ q. absurd (other-code write_copy_code c refl q);
      answer = λ q. absurd (other-code hand_back_code c refl q);
      zero = p.zero;
      ends = p.ends;
      timeout = p.timeout;
      back = λ q k. absurd (other-code hand_back_code c refl q);
      tick = p.tick;
      result = λ q. absurd (other-code result_code c refl q);
      own = λ q f. absurd (other-code result_code c refl q);
      number = λ n q k. absurd (other-code result_code c refl q);
      failure = λ q k. absurd (other-code result_code c refl q);
      spawn = λ q b. absurd (other-code spawn_code c refl q);
    }
