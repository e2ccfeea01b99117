-- What is noted of the elements says the same as the elements themselves.
-- Assumes nothing.
use Prim.Native.Nat.{ℕ, zero, suc, ◌≤◌, ◌<◌}
use mathlib.Core.Bool.{Bool, true, false}
use mathlib.Core.List.{List}
use mathlib.Core.Path.{◌≡◌, refl}
use native.Mathlib.Decide.{dec_lt}
use native.Mathlib.Omega.{arith}
use lib.ListN.{length, get_or, replicate}
use Rattle.laws.specs.Choice.{pick}
use Rattle.laws.specs.Row.{each_below}
use Rattle.laws.proofs.Choosing.{both-no}
use Rattle.laws.proofs.Looping.{any_same}
use Rattle.laws.proofs.Masks.{mask-same}
use Rattle.laws.proofs.Places.{past, each_at, each-length}
use Rattle.faces.specs.Types.{Config, Elements, Runnable, Runnables}
use Rattle.config.specs.Tables.{runnable_conf_in, data_event_in, no_required_conf}
use Rattle.entries.specs.Faults.{is_queued}
use Rattle.state.specs.Parts.{no_runnable}
use Rattle.state.specs.Tables.{element_in}
use Rattle.effects.specs.Steps.{linked, accepts, woken, feeds, is_fed, fed_runnables, is_full, full_mask}
use Rattle.feeding.specs.declared.Rooms.{Rooms}
use Rattle.config.specs.Table.{part_in}
use Rattle.feeding.specs.Rooms.{rooms_of, room_in, feeds_by, is_fed_by, fed_runnables_by, is_full_by, full_mask_by}

pub rooms-made : {u : Rooms} {l : List Bool} → u.at ≡ l → ◌≡◌ {A = Rooms} u (record { at = l })
rooms-made h = rw (← h)

-- the same change of every place
pub each_same : {A : Type 0} (f g : ℕ → A → A) (d : A) (n : ℕ) (l : List A) → ((k : ℕ) (x : A) → f k x ≡ g k x) → each_below f d n l ≡ each_below g d n l
unfolding each_below
each_same f g d zero l h = refl
each_same f g d (suc n) l h = rw (each_same f g d n l h, h n (get_or (each_below g d n l) n d))

module _ (cfg : Config) (t : Elements) (e : length cfg.required.at ≡ 16) where
  pub room-in : (q : ℕ) → room_in (rooms_of cfg t) q ≡ accepts cfg q (element_in t q)
  unfolding room_in rooms_of accepts is_queued part_in
  room-in q = go (dec_lt q 16)
    where
      f : ℕ → Bool → Bool
      f k b = accepts cfg k (element_in t k)

      go : Dec (q < 16) → get_or (each_below f true 16 (replicate 16 true)) q true ≡ accepts cfg q (element_in t q)
      go (yes l) = each_at f true 16 (replicate 16 true) q l l
      go (no l) =
          let a : get_or (each_below f true 16 (replicate 16 true)) q true ≡ true = past (each_below f true 16 (replicate 16 true)) q 16 true (each-length f true 16 (replicate 16 true)) (omega (arith, l)) in
          let b : get_or cfg.required.at q no_required_conf ≡ no_required_conf = past cfg.required.at q 16 no_required_conf e (omega (arith, l)) in
          rw (a, b)

  feeds-by : (p r k : ℕ) → feeds_by cfg (rooms_of cfg t) p r k ≡ feeds cfg t p r k
  unfolding feeds_by feeds
  feeds-by p r k = rw (room-in (data_event_in cfg.devents k).required)

  -- some data event is one that p feeds
  pub fed_by : (p r : ℕ) → is_fed_by cfg (rooms_of cfg t) p r ≡ is_fed cfg t p r
  unfolding is_fed_by is_fed
  fed_by p r = any_same (feeds_by cfg (rooms_of cfg t) p r) (feeds cfg t p r) cfg.devents.n (λ k l. feeds-by p r k)

  -- the runnables that data events wake
  pub fed-runnables-by : (p : ℕ) (rs : Runnables) → fed_runnables_by cfg (rooms_of cfg t) p rs ≡ fed_runnables cfg t p rs
  unfolding fed_runnables_by fed_runnables
  fed-runnables-by p rs =
      rw (each_same (λ (r : ℕ) (x : Runnable). pick (is_fed_by cfg (rooms_of cfg t) p r) (woken (runnable_conf_in cfg.runnables r) x) x) (λ (r : ℕ) (x : Runnable). pick (is_fed cfg t p r) (woken (runnable_conf_in cfg.runnables r) x) x) no_runnable cfg.runnables.n rs.at (λ r x. rw (fed_by p r)))

  full_by : (p q : ℕ) → is_full_by cfg (rooms_of cfg t) p q ≡ is_full cfg t p q
  unfolding is_full_by is_full
  full_by p q = rw (room-in q)

  -- which linked queues are full
  pub full-mask-by : (p : ℕ) → full_mask_by cfg (rooms_of cfg t) p ≡ full_mask cfg t p
  unfolding full_mask_by full_mask
  full-mask-by p = mask-same (is_full_by cfg (rooms_of cfg t) p) (is_full cfg t p) cfg.required.n (λ q l. full_by p q)

-- past the last place nothing is full
pub full-past : (cfg : Config) (u : Rooms) (p q : ℕ) → length u.at ≡ 16 → 16 ≤ q → is_full_by cfg u p q ≡ false
unfolding is_full_by room_in
full-past cfg u p q e l = let z : get_or u.at q true ≡ true = past u.at q 16 true e l in rw z (both-no (linked cfg p q) false refl)
