-- The values that are followed are those of the machine's queues: as many, and the same in the same order (`Follows`). A send adds to a linked queue that has room, a receive takes the oldest, and every
-- other step leaves the queues as they were (`follows-way`); so it is of every run and the state that it reaches (`follows-at`), and what is promised of them is read off that. Beside it, that a step names a part that is there.
-- Assumes nothing.
use Prim.Native.Nat.{ℕ, ◌+◌, ◌≤◌, ◌<◌, zero, suc}
use mathlib.Core.Bool.{Bool, true, false, not}
use mathlib.Core.List.{List, [], ◌∷◌, ◌++◌}
use mathlib.Core.Logic.{inl, inr, ⊎_elim}
use mathlib.Core.Path.{◌≡◌, refl, sym, ap, ◌∙◌, subst}
use native.Mathlib.Decide.{ℕ_discrete, dec_lt}
use native.Mathlib.Nat.{mod-eq_of_lt}
use native.Mathlib.Omega.{arith}
use lib.Dec.{ltb, leb, eqb}
use lib.ListN.{length, get_or, set, drop, length-append, length-drop}
use lib.Seq.{get_or-set_same, get_or-set_other}
use borrow.Author.Tests.{ltb-true, eqb-true, eq-eqb, ne_eqb}
use Rattle.stays_sound.proofs.Shapes.{fed-elements-length}
use Rattle.rules.proofs.Listing.{lists-there}
use Rattle.config.specs.Lists.{first_listed, lists_at, element_at, is_listed}
use Rattle.numbers.specs.Codes.{write_code, receive_code, send_code, give_up_code}
use Rattle.laws.specs.Choice.{pick, both, bit}
use Rattle.laws.specs.Mask.{is_set}
use Rattle.laws.proofs.Choosing.{clash, both_right, alike_is, pick-has, both_left}
use Rattle.laws.proofs.Looping.{all-at}
use Rattle.laws.proofs.Places.{filled-length, each-has}
use Rattle.faces.specs.Types.{Value, Step, Taken, RequiredConf, Config, Element, Elements, State, Copies}
use Rattle.values.specs.Values.{void_v, limit_v, no_data_v, never_received_v, full_v, is_void, is_payload, timeout_v}
use Rattle.config.specs.Tables.{required_conf_in, provided_conf_in}
use Rattle.entries.specs.Entries.{entry_of}
use Rattle.entries.specs.Faults.{is_queued, config_sound}
use Rattle.state.specs.Parts.{no_values, no_element}
use Rattle.state.specs.Queues.{up_one, push_value, rest_values, first_value, oldest, pushed, without_oldest}
use Rattle.state.specs.Start.{start_element, start_of, started}
use Rattle.state.specs.Tables.{no_elements, element_in, with_element, slot_in, copy_in}
use Rattle.rules.specs.Rows.{a_slot, scheduler, rows, row_of}
use Rattle.rules.specs.Sound.{component_of, is_stored, values_sound, element_sound, elements_sound}
use Rattle.rules.specs.Refusals.{part_there, queues_as, part_own, refusal_by, refusal_of}
use Rattle.rules.proofs.Configured.{required-most, required-blank, length_most, outgoing-unqueued}
use Rattle.effects.specs.Fullness.{FullQueue}
use Rattle.effects.specs.Step.{step_of}
use Rattle.effects.specs.Steps.{linked, accepts, fed_element, fed_elements, fed, full_mask, sent_of, is_bare, receiving, received, called, closed, spawned, waited, seen, is_given, given_elements, hands_on, handed_elements, seen_elements, copied_elements}
use Rattle.effects.proofs.Codes.{possible-let}
use Rattle.effects.proofs.Sends.{fed-at, unlinked-kept, sent-full}
use Rattle.stays_sound.specs.Facts.{Sound}
use Rattle.stays_sound.proofs.Told.{told, shape-told}
use Rattle.stays_sound.proofs.Says.{let-told, run-told}
use Rattle.stays_sound.proofs.Elements.{linked-alike}
use Rattle.stays_sound.proofs.Ways.{Way}
use Rattle.stays_sound.proofs.Ways as go
use Rattle.stays_sound.proofs.Accepted.{accepted, answer_in, gone, way}
use Rattle.history.specs.History.{traced_from, time_since, held_in}
use Rattle.history.proofs.Traced.{traced-one, traced-always}
use Rattle.history.proofs.Proofs.{held-goes-on}
use Rattle.history.specs.Promises.{Run, OfSteps}
use Rattle.history.specs.Sends.{Said}
use Rattle.history.proofs.Beside.{all_alike, Beside, beside_none, beside-push, beside-pop}
use Rattle.history.proofs.Finals.{values-told}
use Rattle.history.proofs.Lets.{sent-queued}
use Rattle.history.proofs.Runs.{Halves, halves, first, along}
use Rattle.history.proofs.Sends.{said}
use Rattle.crew.specs.Crew.{NamesParts}
use Rattle.state.specs.Places.{no_places, place_in, with_place}
use Rattle.crew.specs.Values.{values_after, values_in, ValuesWaitingFit, OkHadRoom, FullNamesSpent, ReceivesOldest, HeldWaits}

-- ---- the followed values, step by step

values_one : (cfg : Config) (q : ℕ) (before : List Step) (s : Step) → values_in cfg q (before ++ (s ∷ [])) ≡ values_after cfg q (values_in cfg q before) s
unfolding values_in
values_one cfg q before s = traced-one (λ n. values_after cfg q) [] before s

-- a step never adds past the capacity
after-fits : (cfg : Config) (q : ℕ) (w : List Value) (s : Step) → length w ≤ (required_conf_in cfg.required q).capacity → length (values_after cfg q w s) ≤ (required_conf_in cfg.required q).capacity
unfolding values_after
after-fits cfg q w s h =
    pick-has fits (both (eqb s.code send_code) (linked cfg s.what q)) _ _
    (λ a. pick-has fits (ltb (length w) (required_conf_in cfg.required q).capacity) _ _
    (λ b. omega (arith, ltb-true (length w) _ b, length-append w (s.argument ∷ []))) (λ b. h))
    (λ a. pick-has fits (both (eqb s.code receive_code) (eqb s.what q)) _ _ (λ b. omega (arith, h, length-drop 1 w)) (λ b. h))
  where
    fits : List Value → Type 0
    fits l = length l ≤ (required_conf_in cfg.required q).capacity

pub values-waiting-fit : (cfg : Config) (rs : List Step) → ValuesWaitingFit cfg rs
unfolding values_in
values-waiting-fit cfg rs q = traced-always (λ n. values_after cfg q) (λ n w. length w ≤ (required_conf_in cfg.required q).capacity) (λ n w s h. after-fits cfg q w s h) [] rs (omega arith)

-- ---- what a step was let through with: the part that it names is there, a write is of an element that is not queued, a receive of one that is

module _ (cfg : Config) (st : State) (s : Step) {v : Value} (a : (step_of cfg st s).answer ≡ Taken v) where
  let_through : refusal_of cfg st.slots s ≡ 0
  let_through = possible-let cfg st s (rw (accepted cfg st s a).1 at a)

  there-named : part_there cfg (row_of s.code).part s.what ≡ true
  unfolding refusal_of refusal_by
  there-named = go (ℕ_discrete (row_of s.code).who a_slot) (ℕ_discrete (row_of s.code).who scheduler)
    where
      go : Dec ((row_of s.code).who ≡ a_slot) → Dec ((row_of s.code).who ≡ scheduler) → part_there cfg (row_of s.code).part s.what ≡ true
      go (yes w) d = (let-told cfg st s refl let_through w).part
      go (no n) (yes w) = (run-told cfg st s refl let_through w).part
      go (no n) (no m) = absurd (omega (arith, rw (ne_eqb (row_of s.code).who a_slot n, ne_eqb (row_of s.code).who scheduler m) at let_through))

  written-unqueued : s.code ≡ write_code → (provided_conf_in cfg.provided s.what).queued ≡ false
  unfolding row_of rows part_own queues_as entry_of
  written-unqueued c =
      off (provided_conf_in cfg.provided s.what).queued (alike_is (ltb 0 (bit (provided_conf_in cfg.provided s.what).queued)) false
      (both_right (eqb (provided_conf_in cfg.provided s.what).component (component_of cfg (slot_in st.slots s.who).life.runnable)) _ (let-told cfg st s c let_through refl).own))
    where
      off : (b : Bool) → ltb 0 (bit b) ≡ false → b ≡ false
      off true h = h
      off false h = refl

  received-queued : s.code ≡ receive_code → is_queued cfg s.what ≡ true
  unfolding row_of rows part_own queues_as entry_of is_queued
  received-queued c =
      alike_is (ltb 0 (required_conf_in cfg.required s.what).capacity) true
      (both_right (eqb (required_conf_in cfg.required s.what).component (component_of cfg (slot_in st.slots s.who).life.runnable)) _ (let-told cfg st s c let_through refl).own)

-- ---- the queue of the machine, and the followed one beside it

abbrev Follows : Elements → ℕ → List Value → Type 0
Follows t q w = Beside (λ (a b : Value). a ≡ b) void_v void_v (element_in t q).queue.queued (element_in t q).queue.at w

-- only the queue counts
follows_same : (t t' : Elements) (q : ℕ) (w : List Value) → (element_in t' q).queue ≡ (element_in t q).queue → Follows t q w → Follows t' q w
follows_same t t' q w e h = rw e h

-- every queue starts empty
starts-empty : (k : RequiredConf) → (start_element k).queue.queued ≡ 0
unfolding start_element no_element no_values
starts-empty k = go (eqb k.capacity 0)
  where
    go : (b : Bool) → (pick b (record { value = never_received_v; updated = false; queue = no_values }) no_element).queue.queued ≡ 0
    go true = refl
    go false = refl

module _ (cfg : Config) (c : config_sound cfg ≡ true) (q : ℕ) (y : is_queued cfg q ≡ true) where
  abbrev room : ℕ
  room = (required_conf_in cfg.required q).capacity

  there : q < cfg.required.n
  unfolding is_queued
  there = go (dec_lt q cfg.required.n)
    where
      go : Dec (q < cfg.required.n) → q < cfg.required.n
      go (yes l) = l
      go (no n) = absurd (clash (ltb 0 room) y (ap (λ x. ltb 0 x.capacity) (required-blank cfg c q (omega (arith, n)))))

  follows-start : Follows (start_of cfg).elements q []
  unfolding start_of started place_in no_places no_element no_values
  follows-start =
      let z : (element_in (start_of cfg).elements q).queue.queued ≡ 0 =
      each-has (λ (k : ℕ) (x : Element). start_element (required_conf_in cfg.required k)) no_element (λ (k : ℕ) (x : Element). x.queue.queued ≡ 0) cfg.required.n no_elements.at q
      (λ l. starts-empty (required_conf_in cfg.required q)) (all_alike (λ (x : Element). x.queue.queued ≡ 0) 16 no_element q refl) in
      rw z (beside_none (λ (a b : Value). a ≡ b) void_v void_v _)

  module _ (st : State) (g : Sound cfg st) where
    abbrev x : Element
    x = element_in st.elements q

    small : q < 16
    small = omega (arith, there, required-most cfg c)

    -- the queue keeps to its capacity, and has the places for it
    most : x.queue.queued ≤ room
    most = values-told cfg st q g small

    places : length x.queue.at ≡ 16
    unfolding elements_sound element_sound values_sound
    places =
        let held = pick (both (ltb q cfg.required.n) (eqb room 0)) (is_stored cfg.edition x.value) (both (is_void x.value) (not x.updated)) in
        filled-length is_payload is_void void_v 16 x.queue.queued x.queue.at
        (both_right (leb x.queue.queued room) _ (both_right held _ (all-at (λ (k : ℕ). element_sound cfg k (element_in st.elements k)) 16 g.elements q small)))

    inside : q < length st.elements.at
    inside = omega (arith, small, (shape-told st g.shape).elements)

    -- ---- step by step

    follows-other : (s : Step) (t : Elements) (w : List Value) {n : ℕ} → s.code ≡ n → eqb n send_code ≡ false → eqb n receive_code ≡ false
        → (element_in t q).queue ≡ x.queue → Follows st.elements q w → Follows t q (values_after cfg q w s)
    unfolding values_after
    follows-other s t w k f h e r = rw (k, f, h) (follows_same st.elements t q w e r)

    -- a value that is handed over from an element that is not queued passes this queue by
    passed-by : (t : Elements) (p : ℕ) (v : Value) → length t.at ≡ length st.elements.at → (provided_conf_in cfg.provided p).queued ≡ false → (element_in (fed_elements cfg p v t) q).queue ≡ (element_in t q).queue
    passed-by t p v l u = ap (λ (z : Element). z.queue) (fed-at cfg t p q v there (omega (arith, l, inside)) ∙ unlinked-kept cfg t p q v (off (linked cfg p q) refl))
      where
        off : (b : Bool) → linked cfg p q ≡ b → linked cfg p q ≡ false
        off true e = absurd (clash (is_queued cfg q) y (sym (linked-alike cfg c p q e) ∙ u))
        off false e = e

    unfed : (p : ℕ) (v : Value) → (provided_conf_in cfg.provided p).queued ≡ false → (element_in (fed_elements cfg p v st.elements) q).queue ≡ x.queue
    unfed p v u = passed-by st.elements p v refl u

    -- what an instance hands on at its end is of elements that are not queued, and so is what a new one copies
    given-queue : (r : ℕ) (d : Copies) (n : ℕ) → (length (given_elements cfg r d n st.elements).at ≡ length st.elements.at) × ((element_in (given_elements cfg r d n st.elements) q).queue ≡ x.queue)
    unfolding given_elements is_given element_at
    given-queue r d zero = (refl, refl)
    given-queue r d (suc n) =
        let h = given-queue r d n in
        let t = given_elements cfg r d n st.elements in
        pick-has (λ (u : Elements). (length u.at ≡ length st.elements.at) × ((element_in u q).queue ≡ x.queue)) (both (lists_at cfg.outgoing r n) (is_payload (copy_in d n))) _ t
        (λ e. (fed-elements-length cfg (element_at cfg.outgoing r n) (copy_in d n) t ∙ h.0, passed-by t (element_at cfg.outgoing r n) (copy_in d n) h.0 (listed-unqueued r n (both_left (lists_at cfg.outgoing r n) _ e)) ∙ h.1)) (λ e. h)
      where
        listed-unqueued : (r n : ℕ) → lists_at cfg.outgoing r n ≡ true → (provided_conf_in cfg.provided (element_at cfg.outgoing r n)).queued ≡ false
        listed-unqueued r n e = outgoing-unqueued cfg c (first_listed cfg.outgoing r + n) (lists-there cfg.outgoing r n e)

    handed-queue : (i : ℕ) → (element_in (handed_elements cfg st i) q).queue ≡ x.queue
    unfolding handed_elements
    handed-queue i = pick-has (λ (u : Elements). (element_in u q).queue ≡ x.queue) (hands_on cfg st i) _ st.elements (λ _. (given-queue _ _ 4).1) (λ _. refl)

    copied-queue : (r : ℕ) → (element_in (copied_elements cfg r st.elements) q).queue ≡ x.queue
    unfolding copied_elements seen_elements place_in
    copied-queue r =
        pick-has (λ (u : Elements). (get_or u.at q no_element).queue ≡ x.queue) (lists_at cfg.incoming r 0) _ st.elements
        (λ _. each-has (λ (k : ℕ) (z : Element). pick (is_listed cfg.incoming r k) (seen z) z) no_element (λ k z. z.queue ≡ (get_or st.elements.at k no_element).queue) cfg.required.n st.elements.at q
        (λ _. pick-has (λ (z : Element). z.queue ≡ x.queue) (is_listed cfg.incoming r q) _ _ (λ _. refl) (λ _. refl)) refl) (λ _. refl)

    -- another element is replaced, or this one with its queue kept
    replaced : (k : ℕ) (z : Element) → z.queue ≡ (element_in st.elements k).queue → (element_in (with_element st.elements k z) q).queue ≡ x.queue
    unfolding place_in with_place
    replaced k z e = go (ℕ_discrete q k)
      where
        go : Dec (q ≡ k) → (get_or (set st.elements.at k z) q no_element).queue ≡ (get_or st.elements.at q no_element).queue
        go (yes d) = rw (sym d, get_or-set_same st.elements.at q z no_element inside) (e ∙ ap (λ (j : ℕ). (get_or st.elements.at j no_element).queue) (sym d))
        go (no d) = rw (get_or-set_other st.elements.at k q z no_element d)

    -- a send: a linked queue with room has the value as its newest, any other is as it was
    put-behind : (w : List Value) (v : Value) → x.queue.queued < room → Follows st.elements q w
        → Beside (λ (a b : Value). a ≡ b) void_v void_v (push_value x.queue v).queued (push_value x.queue v).at (w ++ (v ∷ []))
    unfolding pushed
    put-behind w v l r =
        let e : up_one x.queue.queued ≡ x.queue.queued + 1 = mod-eq_of_lt (omega (arith, l, length_most cfg c q)) in
        rw e (beside-push (λ (a b : Value). a ≡ b) void_v void_v x.queue.queued x.queue.at w v v (omega (arith, l, length_most cfg c q, places)) refl r)

    sent : (p : ℕ) (v : Value) (w : List Value) (b d : Bool) → linked cfg p q ≡ b → ltb x.queue.queued room ≡ d → Follows st.elements q w
        → Beside (λ (a b : Value). a ≡ b) void_v void_v (fed_element cfg p v q x).queue.queued (fed_element cfg p v q x).queue.at (pick b (pick d (w ++ (v ∷ [])) w) w)
    unfolding fed_element accepts
    sent p v w false d e f r = rw e r
    sent p v w true false e f r = rw (e, y, f) r
    sent p v w true true e f r = rw (e, y, f) (put-behind w v (ltb-true _ _ f) r)

    follows-send : (s : Step) (w : List Value) → s.code ≡ send_code → Follows st.elements q w → Follows (fed cfg st s.what s.argument).elements q (values_after cfg q w s)
    unfolding fed values_after
    follows-send s w k r =
        rw (k, fed-at cfg st.elements s.what q s.argument there inside)
        (sent s.what s.argument w (linked cfg s.what q) (ltb (length w) room) refl (ap (λ (n : ℕ). ltb n room) (sym r.size)) r)

    -- a receive: the oldest is gone from its queue, and where there was none nothing is
    taken : (w : List Value) → Follows st.elements q w → Beside (λ (a b : Value). a ≡ b) void_v void_v (rest_values x.queue).queued (rest_values x.queue).at (drop 1 w)
    unfolding without_oldest
    taken w r = beside-pop (λ (a b : Value). a ≡ b) void_v void_v x.queue.queued x.queue.at w (omega (arith, most, length_most cfg c q, places)) r

    follows-receive : (s : Step) (w : List Value) → s.code ≡ receive_code → Follows st.elements q w → Follows (received st s.who s.what).elements q (values_after cfg q w s)
    unfolding values_after place_in with_place
    follows-receive s w k r = go (ℕ_discrete s.what q)
      where
        go : Dec (s.what ≡ q) → Follows (received st s.who s.what).elements q (values_after cfg q w s)
        go (yes e) = rw (k, e, eq-eqb q q refl, get_or-set_same st.elements.at q (receiving x) no_element inside) (taken w r)
        go (no n) = rw (k, ne_eqb s.what q n, get_or-set_other st.elements.at s.what q (receiving (element_in st.elements s.what)) no_element (λ e. n (sym e))) r

    none-there : (w : List Value) → length w ≡ 0 → drop 1 w ≡ w
    none-there [] e = refl
    none-there (v ∷ w) e = absurd (omega (arith, e))

    follows-bare : (s : Step) (w : List Value) → s.code ≡ receive_code → is_bare st s.what ≡ true → Follows st.elements q w → Follows st.elements q (values_after cfg q w s)
    unfolding values_after
    follows-bare s w k b r = go (ℕ_discrete s.what q)
      where
        go : Dec (s.what ≡ q) → Follows st.elements q (values_after cfg q w s)
        go (yes e) = rw (k, eq-eqb s.what q e, none-there w (r.size ∙ eqb-true _ _ (subst (λ (j : ℕ). is_bare st j ≡ true) e b))) r
        go (no n) = rw (k, ne_eqb s.what q n) r

    follows-way : (s : Step) (w : List Value) {v : Value} → (step_of cfg st s).answer ≡ Taken v → {n : ℕ} {u : Value} {t : State} → s.code ≡ n → Way cfg st s n u t → Follows st.elements q w
        → Follows t.elements q (values_after cfg q w s)
    unfolding fed called closed spawned waited
    follows-way s w a k go.read_variable r = follows-other s _ w k refl refl refl r
    follows-way s w a k (go.write_variable z) r = follows-other s _ w k refl refl refl r
    follows-way s w a k (go.enter z) r = follows-other s _ w k refl refl refl r
    follows-way s w a k (go.exit z) r = follows-other s _ w k refl refl refl r
    follows-way s w a k (go.read z) r = follows-other s _ w k refl refl (replaced s.what _ refl) r
    follows-way s w a k (go.write z) r = follows-other s _ w k refl refl (unfed s.what s.argument (written-unqueued cfg st s a k)) r
    follows-way s w a k go.updated r = follows-other s _ w k refl refl refl r
    follows-way s w a k (go.invalidate z) r = follows-other s _ w k refl refl (unfed s.what _ z.unqueued) r
    follows-way s w a k (go.receive_none e i) r = follows-bare s w k e r
    follows-way s w a k (go.receive z) r = follows-receive s w k r
    follows-way s w a k (go.send z) r = follows-send s w k r
    follows-way s w a k (go.call_busy e) r = follows-other s _ w k refl refl refl r
    follows-way s w a k (go.call z) r = follows-other s _ w k refl refl refl r
    follows-way s w a k (go.poll_open d e) r = follows-other s _ w k refl refl refl r
    follows-way s w a k (go.poll d e) r = follows-other s _ w k refl refl refl r
    follows-way s w a k (go.collect z) r = follows-other s _ w k refl refl refl r
    follows-way s w a k (go.answer z e) r = follows-other s _ w k refl refl refl r
    follows-way s w a k (go.late z e) r = follows-other s _ w k refl refl refl r
    follows-way s w a k (go.end z) r = follows-other s _ w k refl refl (handed-queue s.who) r
    follows-way s w a k (go.spawn z) r = follows-other s _ w k refl refl (copied-queue s.what) r
    follows-way s w a k (go.timeout z) r = follows-other s _ w k refl refl refl r
    follows-way s w a k (go.tick z) r = follows-other s _ w k refl refl refl r
    follows-way s w a k (go.wait z) r = follows-other s _ w k refl refl refl r
    follows-way s w a k (go.fail z) r = follows-other s _ w k refl refl refl r
    follows-way s w a k (go.hold z) r = follows-other s _ w k refl refl refl r
    follows-way s w a k (go.give_up z) r = follows-other s _ w k refl refl refl r
    follows-way s w a k (go.read_copy z) r = follows-other s _ w k refl refl refl r
    follows-way s w a k (go.write_copy z) r = follows-other s _ w k refl refl refl r

  follows-at : (rs : List Step) (st : State) → Run cfg rs st → Follows st.elements q (values_in cfg q rs)
  unfolding values_in traced_from
  follows-at =
      along cfg (λ before m. Follows m.elements q (values_in cfg q before))
      (λ before s m r f a. rw (values_one cfg q before s) (follows-way m (told cfg m (accepted cfg m s a).0) s (values_in cfg q before) a refl (gone cfg m s refl a) f))
      follows-start

-- ---- what is promised

pub names-parts : OfSteps NamesParts
names-parts cfg before after s st c e =
    let m = halves cfg (start_of cfg) st before (s ∷ after) e in
    there-named cfg m.mid s (first cfg m.mid st s after m.after)

-- the answer to a receive, by its way
first-came : (cfg : Config) (st : State) (s : Step) (w : List Value) {u : Value} {t : State} → Follows st.elements s.what w → Way cfg st s receive_code u t → u ≡ get_or w 0 no_data_v
unfolding oldest
first-came cfg st s [] r (go.receive_none e i) = refl
first-came cfg st s (v ∷ w) r (go.receive_none e i) = absurd (omega (arith, r.size, eqb-true (element_in st.elements s.what).queue.queued 0 e))
first-came cfg st s [] r (go.receive z) = absurd (omega (arith, r.size, z.some))
first-came cfg st s (v ∷ w) r (go.receive z) = r.each 0 z.some

pub receives-oldest : OfSteps ReceivesOldest
receives-oldest cfg before after s st c e k =
    let m = halves cfg (start_of cfg) st before (s ∷ after) e in
    let a = first cfg m.mid st s after m.after in
    first-came cfg m.mid s (values_in cfg s.what before) (follows-at cfg c s.what (received-queued cfg m.mid s a k) before m.mid m.before) (way cfg m.mid s k refl a)

-- who is held and receives finds a value: its queue is not empty, and as many are followed
pub held-waits : OfSteps HeldWaits
held-waits cfg before after s st c e w h =
    let x = held-goes-on cfg before after s st c e w h in
    (x.0, x.1, x.2, ⊎_elim (λ (g : Got x.0). inl (g.0, g.1, some x.0 g)) (λ (g : Spent x.1). inr g) x.3)
  where
    Got : ℕ → Type 0
    Got q = (s.code ≡ receive_code) × (s.what ≡ q) × ((m : State) × Run cfg before m × (0 < (element_in m.elements q).queue.queued) × (s.claim ≡ first_value (element_in m.elements q).queue))

    Spent : ℕ → Type 0
    Spent t = (s.code ≡ give_up_code) × (s.claim ≡ timeout_v) × (time_since (held_in s.who before) before ≡ t)

    some : (q : ℕ) → Got q → 0 < length (values_in cfg q before)
    some q g =
        let m = halves cfg (start_of cfg) st before (s ∷ after) e in
        let a = first cfg m.mid st s after m.after in
        let r = follows-at cfg c q (subst (λ (k : ℕ). is_queued cfg k ≡ true) g.1 (received-queued cfg m.mid s a g.0)) before g.2.0 g.2.1 in
        omega (arith, r.size, g.2.2)

-- a linked queue has as many values as are followed, so it is full exactly if those are as many as it holds
module _ (cfg : Config) (before after : List Step) (s : Step) (st : State) (c : config_sound cfg ≡ true) (e : Run cfg (before ++ (s ∷ after)) st) (k : s.code ≡ send_code) where
  abbrev found : Halves cfg (start_of cfg) st before (s ∷ after)
  found = halves cfg (start_of cfg) st before (s ∷ after) e

  sent-there : (step_of cfg found.mid s).answer ≡ Taken (answer_in cfg found.mid s)
  sent-there = first cfg found.mid st s after found.after

  told-so : Said cfg found.mid s
  told-so = said cfg found.mid s k sent-there

  linked-queued : (q : ℕ) → linked cfg s.what q ≡ true → is_queued cfg q ≡ true
  linked-queued q l = sym (linked-alike cfg c s.what q l) ∙ sent-queued cfg found.mid s sent-there k

  abbrev mask : ℕ
  mask = full_mask cfg found.mid.elements s.what

  size-there : (q : ℕ) → linked cfg s.what q ≡ true → length (values_in cfg q before) ≡ (element_in found.mid.elements q).queue.queued
  size-there q l = (follows-at cfg c q (linked-queued q l) before found.mid found.before).size

  spent-full : (q : ℕ) → linked cfg s.what q ≡ true → (required_conf_in cfg.required q).capacity ≤ length (values_in cfg q before) → FullQueue cfg found.mid.elements s.what q
  spent-full q l h = record { there = there cfg c q (linked-queued q l); link = l; queue = linked-queued q l; spent = omega (arith, h, size-there q l) }

  -- a claim of Full is the answer
  mask_is : (m : ℕ) → s.claim ≡ full_v m → mask ≡ m
  mask_is m v =
      ⊎_elim (λ (x : s.claim ≡ sent_of mask). (sent-full mask m (sym x ∙ v)).0)
      (λ (x : (s.claim ≡ limit_v) × (0 < mask)). absurd (omega (arith, ap (λ (u : Value). u.kind) (sym x.0 ∙ v)))) told-so.claim

pub ok-had-room : OfSteps OkHadRoom
ok-had-room cfg before after s st c e k v q l = go (dec_lt (length (values_in cfg q before)) (required_conf_in cfg.required q).capacity)
  where
    go : Dec (length (values_in cfg q before) < (required_conf_in cfg.required q).capacity) → length (values_in cfg q before) < (required_conf_in cfg.required q).capacity
    go (yes h) = h
    go (no n) = absurd ((told-so cfg before after s st c e k).none v q (spent-full cfg before after s st c e k q l (omega (arith, n))))

pub full-names-spent : OfSteps FullNamesSpent
full-names-spent cfg before after s st c e m k v q =
    let n = mask_is cfg before after s st c e k m v in
    let b = (told-so cfg before after s st c e k).bits q in (
      λ h. let f = b.0 (subst (λ (j : ℕ). is_set j q ≡ true) (sym n) h) in (f.link, omega (arith, f.spent, size-there cfg before after s st c e k q f.link)),
      λ h. subst (λ (j : ℕ). is_set j q ≡ true) n (b.1 (spent-full cfg before after s st c e k q h.0 h.1)),
    )
