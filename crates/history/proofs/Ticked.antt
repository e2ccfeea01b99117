-- Timers, as the ticks and waits of the recording tell it: the time since the last tick and the count that is left are the period, or nothing before the first
-- tick (`Ticked`). A tick starts the period again (`ticked-tick`), a wait takes its time from every timer, which had as much left (`ticked-wait`), and any other step
-- leaves timers and time alone (`ticked-still`). Every deed is of these kinds (`clocks`).
-- Assumes nothing.
use Prim.Native.Nat.{ℕ, ◌+◌, ◌≤◌, ◌<◌}
use mathlib.Core.Bool.{Bool, true, false}
use mathlib.Core.List.{List, [], ◌∷◌, ◌++◌}
use mathlib.Core.Path.{◌≡◌, refl, sym, ◌∙◌}
use native.Mathlib.Decide.{ℕ_discrete}
use native.Mathlib.Omega.{arith}
use lib.Dec.{eqb}
use lib.ListN.{length, length-append}
use lib.Seq.{get_or-set_same, get_or-set_other}
use borrow.Author.Tests.{leb-true, eq-eqb, ne_eqb}
use Rattle.numbers.specs.Codes.{tick_code, wait_code}
use Rattle.laws.specs.Choice.{pick, both}
use Rattle.laws.proofs.Choosing.{pick-has}
use Rattle.laws.proofs.Looping.{all-at}
use Rattle.laws.proofs.Places.{each_at}
use Rattle.faces.specs.Types.{Step, Config, Timer, Timers, State}
use Rattle.config.specs.Tables.{timer_conf_in}
use Rattle.state.specs.Parts.{no_timer}
use Rattle.state.specs.Start.{start_of}
use Rattle.state.specs.Tables.{timer_in, with_timer}
use Rattle.effects.specs.Steps.{called, closed, spawned, timer_lets, timers_let, timer_after, timers_after, waited}
use Rattle.stays_sound.specs.Facts.{Sound}
use Rattle.rules.proofs.Configured.{timers-most}
use Rattle.stays_sound.proofs.Told.{timers-length}
use Rattle.history.specs.History.{time_of, time_in, time_since, traced_from, tick_after, last_tick}
use Rattle.history.proofs.Beside.{all_alike}
use Rattle.history.proofs.Traced.{traced-one, traced-always}
use Rattle.history.proofs.Timed.{since-more, since-now, still}
use Rattle.state.specs.Places.{no_places, place_in, with_place}
use Rattle.history.proofs.Deeds.{Clocks, ticks, waits, keeps, Deed, pass, call, answer, late, end, server, plain, timeout, fail, other-code}

-- ---- the last tick, step by step

last_one : (k : ℕ) (rs : List Step) (s : Step) → last_tick k (rs ++ (s ∷ [])) ≡ pick (both (eqb s.code tick_code) (eqb s.what k)) (length rs + 1) (last_tick k rs)
unfolding last_tick tick_after
last_one k rs s = traced-one (tick_after k) 0 rs s

last-past : (k : ℕ) (rs : List Step) → last_tick k rs ≤ length rs
unfolding last_tick tick_after
last-past k rs =
    traced-always (tick_after k) (λ n p. p ≤ n)
    (λ n p s l. pick-has (λ m. m ≤ n + 1) (both (eqb s.code tick_code) (eqb s.what k)) (n + 1) p (λ e. omega arith) (λ e. omega (arith, l))) 0 rs (omega arith)

-- a tick of this timer, and any other step
last-here : (k : ℕ) (rs : List Step) (s : Step) → s.code ≡ tick_code → s.what ≡ k → last_tick k (rs ++ (s ∷ [])) ≡ length rs + 1
last-here k rs s c e = last_one k rs s ∙ rw (c, eq-eqb s.what k e)

last-other : (k : ℕ) (rs : List Step) (s : Step) → (s.what ≡ k → ⊥) → last_tick k (rs ++ (s ∷ [])) ≡ last_tick k rs
last-other k rs s n = last_one k rs s ∙ rw (ne_eqb s.what k n) (none (eqb s.code tick_code))
  where
    none : (b : Bool) → pick (both b false) (length rs + 1) (last_tick k rs) ≡ last_tick k rs
    none true = refl
    none false = refl

last-still : (k : ℕ) (rs : List Step) (s : Step) → (s.code ≡ tick_code → ⊥) → last_tick k (rs ++ (s ∷ [])) ≡ last_tick k rs
last-still k rs s n = last_one k rs s ∙ rw (ne_eqb s.code tick_code n)

-- ---- what is left of each timer

-- what the time since the last tick at p, and the count, come to
abbrev pub round : Config → ℕ → ℕ → ℕ
round cfg k p = pick (eqb p 0) 0 (timer_conf_in cfg.timers k).period

pub record Ticked (cfg : Config) (ts : Timers) (rs : List Step) : Type 0 where
  pub rest : (k : ℕ) → k < cfg.timers.n → time_since (last_tick k rs) rs + (timer_in ts k).count ≡ round cfg k (last_tick k rs)

pub ticked-start : (cfg : Config) → Ticked cfg (start_of cfg).timers []
unfolding start_of no_places place_in last_tick traced_from time_in
ticked-start cfg = record { rest = λ k b. all_alike (λ (y : Timer). 0 + y.count ≡ 0) 8 no_timer k refl }

module _ (cfg : Config) (ts : Timers) (rs : List Step) (s : Step) (t : Ticked cfg ts rs) where
  -- the timer ticks no more, its count has m less, and m has passed
  onward : (k m : ℕ) (x : Timer) → k < cfg.timers.n → last_tick k (rs ++ (s ∷ [])) ≡ last_tick k rs → time_of s ≡ m → x.count + m ≡ (timer_in ts k).count
      → time_since (last_tick k (rs ++ (s ∷ []))) (rs ++ (s ∷ [])) + x.count ≡ round cfg k (last_tick k (rs ++ (s ∷ [])))
  onward k m x b e w c = rw e (omega (arith, since-more (last_tick k rs) rs s (last-past k rs), w, c, t.rest k b))

  ticked-still : (s.code ≡ tick_code → ⊥) → (s.code ≡ wait_code → ⊥) → Ticked cfg ts (rs ++ (s ∷ []))
  ticked-still n w = record { rest = λ k b. onward k 0 (timer_in ts k) b (last-still k rs s n) (still s w) (omega arith) }

  ticked-tick : s.code ≡ tick_code → s.what < length ts.at → Ticked cfg (with_timer ts s.what (record { count = (timer_conf_in cfg.timers s.what).period })) (rs ++ (s ∷ []))
  unfolding place_in with_place
  ticked-tick c l = record { rest = λ k b. go k b (ℕ_discrete k s.what) }
    where
      x : Timer
      x = record { count = (timer_conf_in cfg.timers s.what).period }

      go : (k : ℕ) → k < cfg.timers.n → Dec (k ≡ s.what)
          → time_since (last_tick k (rs ++ (s ∷ []))) (rs ++ (s ∷ [])) + (timer_in (with_timer ts s.what x) k).count ≡ round cfg k (last_tick k (rs ++ (s ∷ [])))
      go k b (yes e) =
          rw (e, last-here s.what rs s c refl, get_or-set_same ts.at s.what x no_timer l, ne_eqb (length rs + 1) 0 (λ z. omega (arith, z)))
          (omega (arith, since-now (length rs + 1) (rs ++ (s ∷ [])) (length-append rs (s ∷ []))))
      go k b (no n) =
          rw (get_or-set_other ts.at s.what k x no_timer n)
          (onward k 0 (timer_in ts k) b (last-other k rs s (λ e. n (sym e))) (still s (λ w. omega (arith, c, w))) (omega arith))

  ticked-wait : s.code ≡ wait_code → timers_let cfg ts s.argument.number ≡ true → length ts.at ≡ 8 → cfg.timers.n ≤ 8 → Ticked cfg (timers_after cfg ts s.argument.number) (rs ++ (s ∷ []))
  unfolding timers_let timer_lets timers_after place_in time_of
  ticked-wait c z l m = record {
    rest = λ k b.
        let lets : s.argument.number ≤ (timer_in ts k).count = leb-true _ _ (all-at (λ (k : ℕ). timer_lets s.argument.number (timer_in ts k)) cfg.timers.n z k b) in
        rw (each_at (λ (k : ℕ) (x : Timer). timer_after s.argument.number x) no_timer cfg.timers.n ts.at k b (omega (arith, b, l, m)))
        (onward k s.argument.number (timer_after s.argument.number (timer_in ts k)) b (last-still k rs s (λ w. omega (arith, c, w))) (rw c) (omega (arith, lets)));
  }

-- ---- every deed

pub clocks : (cfg : Config) (st : State) (s : Step) (st' : State) → Deed cfg st s st' → Clocks cfg st s st'
unfolding called closed spawned
clocks cfg st s st' d = go d
  where
    same : {n : ℕ} → s.code ≡ n → eqb n tick_code ≡ false → eqb n wait_code ≡ false → st'.timers ≡ st.timers → Clocks cfg st s st'
    same c f g e = keeps (other-code tick_code c f) (other-code wait_code c g) e

    go : Deed cfg st s st' → Clocks cfg st s st'
    go (pass a q m w) = w
    go (call c k z e) = same c refl refl (rw e)
    go (answer c k z a e) = same c refl refl (rw e)
    go (late c k z e) = same c refl refl (rw e)
    go (end c z e) = same c refl refl (rw e.timers)
    go (server c k y z e) = same c refl refl (rw e.timers)
    go (plain c k y z e) = same c refl refl (rw e.timers)
    go (timeout c z e) = same c refl refl (rw e)
    go (fail c z e) = same c refl refl (rw e)

pub ticked-deed : (cfg : Config) (st : State) (s : Step) (st' : State) (rs : List Step) → Sound cfg st → Clocks cfg st s st' → Ticked cfg st.timers rs → Ticked cfg st'.timers (rs ++ (s ∷ []))
unfolding waited
ticked-deed cfg st s st' rs g (ticks c z e) t = rw e (ticked-tick cfg st.timers rs s t c (omega (arith, timers-length cfg st g, timers-most cfg g.config, z.inside)))
ticked-deed cfg st s st' rs g (waits c z e) t = rw e (ticked-wait cfg st.timers rs s t c z.timers (timers-length cfg st g) (timers-most cfg g.config))
ticked-deed cfg st s st' rs g (keeps n w e) t = rw e (ticked-still cfg st.timers rs s t n w)
