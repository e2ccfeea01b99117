-- From the printed line to all that may be relied on: the bytes are those of `accepted N` (`accepted-printed`), so the steps of the recording are a run of the configuration that was read (`accepted-is-run`),
-- which keeps demand 3 (`demand3`); both files are the texts of what was read (`text-again`), and these texts leave nothing open (`fixed`).
-- Assumes nothing.
use mathlib.Core.List.{List, ◌∷◌, ◌++◌}
use mathlib.Core.Path.{◌≡◌, sym, ap, subst}
use native.Mathlib.Omega.{arith}
use Rattle.faces.specs.Types.{Step}
use Rattle.reading.specs.Reading.{config_of}
use Rattle.reading.proofs.Sound.{read-sound, read_number}
use Rattle.recording.specs.Whole.{steps_in}
use Rattle.recording.proofs.Texts.{text-again, steps-recorded}
use Rattle.round_trips.proofs.Again.{text-again as config-again}
use Rattle.judging.specs.Line.{line_of, line_form, line_count}
use Rattle.history.specs.Promises.{Run, OfRuns, Demand3}
use Rattle.history.proofs.Together.{demand3}
use Rattle.claims.proofs.FromBytes.{accepted-is-run}
use Rattle.crew.specs.Crew.{Demanded, PrintedIsRelied}
use Rattle.crew.proofs.Following.{names-parts, values-waiting-fit, ok-had-room, full-names-spent, receives-oldest, held-waits}
use Rattle.crew.proofs.Fixing.{fixed}
use Rattle.crew.proofs.Printing.{accepted-printed}

-- ---- demand 3 of the steps of a run

pub demanded : OfRuns (λ cfg rs st. Demanded cfg rs)
demanded cfg rs st c e = record {
  part = λ b a s w. names-parts cfg b a s st c (whole b a s w);
  enter = λ b a s w. (d.steps b a s w).enter;
  exit = λ b a s w. (d.steps b a s w).exit;
  end = λ b a s w. (d.steps b a s w).end;
  holder = λ b a s w. (d.steps b a s w).holder;
  fresh = λ b a s w. (d.steps b a s w).fresh;
  alive = λ b a s w. (d.steps b a s w).alive;
  failed = λ b a s w. (d.steps b a s w).failed;
  requests = λ b a w r l. let m = (d.moments b a w).1 in omega (arith, m.requests r l, (m.history.queues r l).0);
  fifo = λ b a w. (d.moments b a w).1.history.fifo;
  spawn = λ b a s w. (d.steps b a s w).spawn;
  values = λ b a w. values-waiting-fit cfg b;
  send = λ b a s w. ok-had-room cfg b a s st c (whole b a s w);
  full = λ b a s w. full-names-spent cfg b a s st c (whole b a s w);
  receive = λ b a s w. receives-oldest cfg b a s st c (whole b a s w);
  held = λ b a s w. held-waits cfg b a s st c (whole b a s w);
  spent = λ b a s w. (d.steps b a s w).spent;
  hold = λ b a w. (d.moments b a w).1.held;
  copies = λ b a s w. (d.steps b a s w).copies;
  once = λ b a w. (d.moments b a w).1.once;
  call = λ b a s w. (d.steps b a s w).call;
  latest = λ b a w. (d.moments b a w).1.history.latest;
  newest = λ b a w. (d.moments b a w).1.history.newest;
  properly = λ b a w. (d.moments b a w).1.properly;
  ends = λ b a s w. (d.steps b a s w).ends;
  answer = λ b a s w. (d.steps b a s w).answer;
  last = λ b a s w. (d.steps b a s w).last;
  paid = λ b a s w. (d.steps b a s w).paid;
  timeout = λ b a s w. (d.steps b a s w).timeout;
  back = λ b a s w. (d.steps b a s w).back;
  time = λ b a w. (d.moments b a w).1.time;
  tick = λ b a s w. (d.steps b a s w).tick;
  timers = λ b a w. (d.moments b a w).1.timers;
  number = λ b a s w. (d.steps b a s w).number;
  failure = λ b a s w. (d.steps b a s w).failure;
  result = λ b a s w. (d.steps b a s w).result;
  own = λ b a s w. (d.steps b a s w).own;
  waiter = λ b a s w. (d.steps b a s w).waiter;
}
  where
    d : Demand3 cfg rs
    d = demand3 cfg rs st c e

    whole : (before after : List Step) (s : Step) → rs ≡ before ++ (s ∷ after) → Run cfg (before ++ (s ∷ after)) st
    whole before after s w = subst (λ (l : List Step). Run cfg l st) w e

-- ---- from the printed line

pub printed-is-relied : PrintedIsRelied
printed-is-relied c t n p =
    let l = accepted-printed (line_of c t) n p.2 in
    let w = (accepted-is-run c t n).0 (ap line_form l, ap line_count l) in
    let o = read_number c w.0.1 in
    let s = read-sound c o in
    record {
      config = (config_of c).config;
      steps = steps_in t;
      written = sym (config-again c p.0 o);
      fixed = fixed c p.0 o;
      recorded = sym (text-again t p.1 w.1);
      each = steps-recorded t p.1;
      count = w.2;
      demand = demanded (config_of c).config (steps_in t) w.4 s w.5;
    }
