-- Every required element stays sound: an unqueued one holds what it may, a queued one keeps to its capacity and holds payloads.
-- Assumes nothing.
use Prim.Native.Nat.{ℕ, zero, suc, ◌+◌, ◌-◌, ◌≤◌, ◌<◌}
use mathlib.Core.Bool.{Bool, true, false, not}
use mathlib.Core.Path.{◌≡◌, refl, sym, ◌∙◌, ap}
use native.Mathlib.Nat.{mod-eq_of_lt}
use native.Mathlib.Omega.{arith}
use lib.Dec.{ltb, leb, eqb}
use lib.ListN.{get_or}
use borrow.Author.Tests.{ltb-true, ltb-false, leb-true, eqb-true, lt-ltb, le-leb, eq-eqb}
use Rattle.laws.specs.Choice.{pick, both}
use Rattle.laws.specs.Row.{filled}
use Rattle.laws.proofs.Choosing.{clash, both_left, both_right, both-make, either-right, pick-has}
use Rattle.laws.proofs.Looping.{all-at, any-find}
use Rattle.laws.proofs.Places.{all-put, all-each, filled-push, filled_shift}
use Rattle.values.specs.Values.{void_v, invalid_v, is_void, is_payload}
use Rattle.faces.specs.Types.{Value, Config, Values, Element, Elements, Copies, State}
use Rattle.config.specs.Editions.{marks_invalid}
use Rattle.config.specs.Tables.{max_required_confs, required_conf_in, provided_conf_in, link_in}
use Rattle.config.specs.Lists.{lists_at, element_at, is_listed}
use Rattle.entries.specs.Faults.{is_queued, config_sound}
use Rattle.state.specs.Parts.{no_element, max_values}
use Rattle.state.specs.Queues.{up_one, push_value, rest_values, pushed, without_oldest}
use Rattle.state.specs.Tables.{element_in, with_element, copy_in}
use Rattle.rules.specs.Sound.{values_sound, is_stored, element_sound, elements_sound}
use Rattle.effects.specs.Steps.{seen, looked, joins, linked, accepts, storing, queueing, fed_element, fed_elements, fed, invalidated, receiving, dequeued, is_given, given_elements, hands_on, handed_elements, seen_elements, copied_elements}
use Rattle.stays_sound.specs.Facts.{Sound, CanRead, CanFeed, CanInvalidate, CanReceive}
use Rattle.state.specs.Places.{place_in, with_place}
use Rattle.rules.proofs.Configured.{required-most, length_most, link-alike}

-- ---- a queue of values

module _ (c : ℕ) (q : Values) (m : c ≤ 16) (h : values_sound c q.queued q.at ≡ true) where
  values-most : q.queued ≤ c
  unfolding values_sound
  values-most = leb-true _ _ (both_left (leb q.queued c) _ h)

  values-filled : filled is_payload is_void void_v max_values q.queued q.at ≡ true
  unfolding values_sound
  values-filled = both_right (leb q.queued c) _ h

  -- one more, where there is room
  push-sound : (v : Value) → q.queued < c → is_payload v ≡ true → values_sound c (push_value q v).queued (push_value q v).at ≡ true
  unfolding values_sound pushed
  push-sound v b g =
      let e : up_one q.queued ≡ q.queued + 1 = mod-eq_of_lt (omega arith) in
      rw e (both-make _ _ (le-leb (q.queued + 1) c (omega arith)) (filled-push is_payload is_void void_v max_values q.queued q.at v (omega arith) g values-filled))

  -- the oldest taken
  rest-sound : 0 < q.queued → values_sound c (rest_values q).queued (rest_values q).at ≡ true
  unfolding values_sound without_oldest is_void
  rest-sound p =
      let n = values-most in
      let e : q.queued ≡ (q.queued - 1) + 1 = omega arith in
      both-make _ _ (le-leb (q.queued - 1) c (omega arith))
      (filled_shift is_payload is_void void_v max_values (q.queued - 1) q.at refl (omega arith)
      (ap (λ (n : ℕ). filled is_payload is_void void_v max_values n q.at) (sym e) ∙ values-filled))

-- ---- one element

-- what an element holds beside its queue
abbrev holds : Config → ℕ → Value → Bool → Bool
holds cfg q v u = pick (both (ltb q cfg.required.n) (eqb (required_conf_in cfg.required q).capacity 0)) (is_stored cfg.edition v) (both (is_void v) (not u))

-- its tests as facts
record Stands (cfg : Config) (q : ℕ) (x : Element) : Type 0 where
  value : holds cfg q x.value x.updated ≡ true
  queue : values_sound (required_conf_in cfg.required q).capacity x.queue.queued x.queue.at ≡ true

stands-told : (cfg : Config) (q : ℕ) (x : Element) → element_sound cfg q x ≡ true → Stands cfg q x
unfolding element_sound
stands-told cfg q x h = record { value = both_left (holds cfg q x.value x.updated) _ h; queue = both_right (holds cfg q x.value x.updated) _ h }

stands-made : (cfg : Config) (q : ℕ) (x : Element) → Stands cfg q x → element_sound cfg q x ≡ true
unfolding element_sound
stands-made cfg q x h = both-make _ _ h.value h.queue

-- the flag may always go off
seen-sound : (cfg : Config) (q : ℕ) (x : Element) → element_sound cfg q x ≡ true → element_sound cfg q (seen x) ≡ true
seen-sound cfg q x h =
    let t = stands-told cfg q x h in
    stands-made cfg q (seen x) (record { value = off (both (ltb q cfg.required.n) (eqb (required_conf_in cfg.required q).capacity 0)) (is_stored cfg.edition x.value) (is_void x.value) x.updated t.value; queue = t.queue })
  where
    off : (b s v u : Bool) → pick b s (both v (not u)) ≡ true → pick b s (both v true) ≡ true
    off true s v u h = h
    off false s v u h = both-make _ _ (both_left v (not u) h) refl

-- an unqueued element that is there may hold what is stored in its edition
store-sound : (cfg : Config) (q : ℕ) (x : Element) (v : Value) → q < cfg.required.n → is_queued cfg q ≡ false → is_stored cfg.edition v ≡ true → element_sound cfg q x ≡ true → element_sound cfg q (storing v x) ≡ true
unfolding is_queued
store-sound cfg q x v b n g h =
    let z : (required_conf_in cfg.required q).capacity ≡ 0 = omega (arith, ltb-false 0 (required_conf_in cfg.required q).capacity n) in
    stands-made cfg q (storing v x) (record { value = rw (lt-ltb q cfg.required.n b, eq-eqb (required_conf_in cfg.required q).capacity 0 z) g; queue = (stands-told cfg q x h).queue })

-- a queued one with room takes a payload
queue-sound : (cfg : Config) → config_sound cfg ≡ true → (q : ℕ) (x : Element) (v : Value) → x.queue.queued < (required_conf_in cfg.required q).capacity → is_payload v ≡ true → element_sound cfg q x ≡ true → element_sound cfg q (queueing v x) ≡ true
queue-sound cfg k q x v b g h =
    let t = stands-told cfg q x h in
    stands-made cfg q (queueing v x) (record { value = t.value; queue = push-sound (required_conf_in cfg.required q).capacity x.queue (length_most cfg k q) t.queue v b g })

payload-stored : (e : ℕ) (v : Value) → is_payload v ≡ true → is_stored e v ≡ true
unfolding is_stored
payload-stored e v h = rw h

-- Invalid is stored in an edition that marks so
invalid-stored : (e : ℕ) → marks_invalid e ≡ true → is_stored e invalid_v ≡ true
unfolding is_stored is_payload is_void
invalid-stored e h = rw h

-- ---- a value handed over: an element that takes it and is queued takes a payload

module _ (cfg : Config) (k : config_sound cfg ≡ true) (p : ℕ) (v : Value) (g : is_stored cfg.edition v ≡ true) (pay : (q : ℕ) → linked cfg p q ≡ true → is_queued cfg q ≡ true → is_payload v ≡ true) where
  fed-one : (q : ℕ) (x : Element) → q < cfg.required.n → element_sound cfg q x ≡ true → element_sound cfg q (fed_element cfg p v q x) ≡ true
  unfolding fed_element accepts
  fed-one q x b h = pick-has (λ y. element_sound cfg q y ≡ true) (both (linked cfg p q) (accepts cfg q x)) (pick (is_queued cfg q) (queueing v x) (storing v x)) x (λ e. takes e) (λ e. h)
    where
      room : is_queued cfg q ≡ true → accepts cfg q x ≡ true → x.queue.queued < (required_conf_in cfg.required q).capacity
      room e a = ltb-true _ _ (either-right (not (is_queued cfg q)) _ a (ap not e))

      takes : both (linked cfg p q) (accepts cfg q x) ≡ true → element_sound cfg q (pick (is_queued cfg q) (queueing v x) (storing v x)) ≡ true
      takes e =
          pick-has (λ y. element_sound cfg q y ≡ true) (is_queued cfg q) (queueing v x) (storing v x)
          (λ i. queue-sound cfg k q x v (room i (both_right (linked cfg p q) (accepts cfg q x) e)) (pay q (both_left (linked cfg p q) (accepts cfg q x) e) i) h)
          (λ i. store-sound cfg q x v b i g h)

  fed-sound : (t : Elements) → elements_sound cfg t ≡ true → elements_sound cfg (fed_elements cfg p v t) ≡ true
  unfolding elements_sound place_in fed_elements
  fed-sound t h = all-each (fed_element cfg p v) no_element (λ q y. element_sound cfg q y) cfg.required.n max_required_confs t.at h (λ q b c e. fed-one q (get_or t.at q no_element) c e)

-- ---- the table

elements-put : (cfg : Config) (t : Elements) (q : ℕ) (x : Element) → elements_sound cfg t ≡ true → element_sound cfg q x ≡ true → elements_sound cfg (with_element t q x) ≡ true
unfolding elements_sound place_in with_place
elements-put cfg t q x h g = all-put (λ k y. element_sound cfg k y) t.at q max_required_confs x no_element h g

-- a linked element is queued as the provided one is
pub linked-alike : (cfg : Config) → config_sound cfg ≡ true → (p q : ℕ) → linked cfg p q ≡ true → (provided_conf_in cfg.provided p).queued ≡ is_queued cfg q
unfolding linked
linked-alike cfg k p q h =
    let f = any-find (λ (l : ℕ). joins (link_in cfg.links l) p q) cfg.links.n h in
    let a = eqb-true (link_in cfg.links f.0).provided p (both_left (eqb (link_in cfg.links f.0).provided p) _ f.2) in
    let b = eqb-true (link_in cfg.links f.0).required q (both_right (eqb (link_in cfg.links f.0).provided p) _ f.2) in
    rw (a, b) at (link-alike cfg k f.0 f.1)

-- ---- step by step

module _ (cfg : Config) (st : State) (s : Sound cfg st) where
  element-at : (q : ℕ) → q < cfg.required.n → element_sound cfg q (element_in st.elements q) ≡ true
  unfolding elements_sound
  element-at q b = all-at (λ (q : ℕ). element_sound cfg q (element_in st.elements q)) max_required_confs s.elements q (omega (arith, required-most cfg s.config))

module _ (cfg : Config) (st : State) where
  pub read-keeps-elements : (i q : ℕ) → Sound cfg st → CanRead cfg st i q → elements_sound cfg (looked st q).elements ≡ true
  read-keeps-elements i q s z = elements-put cfg st.elements q (seen (element_in st.elements q)) s.elements (seen-sound cfg q (element_in st.elements q) (element-at cfg st s q z.inside))

  pub feed-keeps-elements : (i p : ℕ) (v : Value) → Sound cfg st → CanFeed cfg st i p v → elements_sound cfg (fed cfg st p v).elements ≡ true
  unfolding fed
  feed-keeps-elements i p v s z = fed-sound cfg s.config p v (payload-stored cfg.edition v z.payload) (λ q l e. z.payload) st.elements s.elements

  pub invalidate-keeps-elements : (i p : ℕ) → Sound cfg st → CanInvalidate cfg st i p → elements_sound cfg (invalidated cfg st p).elements ≡ true
  invalidate-keeps-elements i p s z =
      fed-sound cfg s.config p invalid_v (invalid-stored cfg.edition z.marks) (λ q l e. absurd (clash (is_queued cfg q) e (sym (linked-alike cfg s.config p q l) ∙ z.unqueued))) st.elements s.elements

  pub receive-keeps-elements : (i q : ℕ) → Sound cfg st → CanReceive cfg st i q → elements_sound cfg (dequeued st q).elements ≡ true
  receive-keeps-elements i q s z =
      let x = element_in st.elements q in
      let t = stands-told cfg q x (element-at cfg st s q z.inside) in
      elements-put cfg st.elements q (receiving x) s.elements
      (stands-made cfg q (receiving x) (record { value = t.value; queue = rest-sound (required_conf_in cfg.required q).capacity x.queue (length_most cfg s.config q) t.queue z.some }))

-- ---- what an instance has set, and what a new one copies

-- each that is written was set to a payload
given-sound : (cfg : Config) → config_sound cfg ≡ true → (r : ℕ) (c : Copies) (n : ℕ) (t : Elements) → elements_sound cfg t ≡ true → elements_sound cfg (given_elements cfg r c n t) ≡ true
unfolding given_elements is_given
given-sound cfg k r c zero t h = h
given-sound cfg k r c (suc n) t h =
    let rest = given_elements cfg r c n t in
    let v = copy_in c n in
    pick-has (λ (y : Elements). elements_sound cfg y ≡ true) (both (lists_at cfg.outgoing r n) (is_payload v)) _ rest
    (λ e. let p = both_right (lists_at cfg.outgoing r n) (is_payload v) e in
    fed-sound cfg k (element_at cfg.outgoing r n) v (payload-stored cfg.edition v p) (λ q l i. p) rest (given-sound cfg k r c n t h))
    (λ e. given-sound cfg k r c n t h)

module _ (cfg : Config) (st : State) where
  pub hand-on-keeps-elements : (i : ℕ) → Sound cfg st → elements_sound cfg (handed_elements cfg st i) ≡ true
  unfolding handed_elements
  hand-on-keeps-elements i s = pick-has (λ (y : Elements). elements_sound cfg y ≡ true) (hands_on cfg st i) _ st.elements (λ _. given-sound cfg s.config _ _ 4 st.elements s.elements) (λ _. s.elements)

  pub copy-keeps-elements : (r : ℕ) → Sound cfg st → elements_sound cfg (copied_elements cfg r st.elements) ≡ true
  unfolding copied_elements seen_elements elements_sound place_in
  copy-keeps-elements r s =
      pick-has (λ (y : Elements). elements_sound cfg y ≡ true) (lists_at cfg.incoming r 0) _ st.elements
      (λ _. all-each (λ (q : ℕ) (x : Element). pick (is_listed cfg.incoming r q) (seen x) x) no_element (λ q y. element_sound cfg q y) cfg.required.n max_required_confs st.elements.at s.elements
      (λ q b c e. pick-has (λ y. element_sound cfg q y ≡ true) (is_listed cfg.incoming r q) _ _ (λ _. seen-sound cfg q (get_or st.elements.at q no_element) e) (λ _. e)))
      (λ _. s.elements)

  -- what an unqueued element that is there holds is stored
  pub element-stored : (q : ℕ) → Sound cfg st → q < cfg.required.n → (required_conf_in cfg.required q).capacity ≡ 0 → is_stored cfg.edition (element_in st.elements q).value ≡ true
  element-stored q s b z = rw (lt-ltb q cfg.required.n b, eq-eqb (required_conf_in cfg.required q).capacity 0 z) at (stands-told cfg q (element_in st.elements q) (element-at cfg st s q b)).value
