-- All promises together: a run has its moments, each of them reached by a run (`halves`), and its steps.
-- Assumes nothing.
use mathlib.Core.List.{List}
use mathlib.Core.Path.{subst}
use Rattle.faces.specs.Types.{Step}
use Rattle.state.specs.Start.{start_of}
use Rattle.history.specs.Promises.{Run, OfRuns, OfSteps, Followed, AtMoment, AtStep, Demand3}
use Rattle.history.proofs.Regulated.{reads-its-spawn, reads-alike, set-is-unseen}
use Rattle.history.proofs.Runs.{halves}
use Rattle.history.proofs.Proofs.{stays-sound, areas-held, enters-free, exits-held, ends-empty, spawns-empty, acts-alive, holder-stays, failed-stops, back-is-last, ends-paid, failed-goes-on, requests-fit, values-fit, calls-one-by-one, waiter-waits, back-is-answered, ends-once, ends-properly, timeout-at-zero, timeout-ends-open, timeout-in-time, back-in-time, open-in-time, ticks-in-time, timers-in-time, result-is-delivered, result-is-own, done-is-delivered, number-is-final, done-is-final, failure-is-final, done-is-failure, used-is-lived, failed-followed, finished-followed, number-goes-round, waiting-followed, bound-followed, open-is-unended, unended-is-latest, latest-started, count-is-rest, queues-followed, served-followed, first-in-first-out, spawn-takes-next, held-goes-on, gives-up-held, held-in-time, held-followed}

followed : OfRuns Followed
followed cfg rs st c e = record {
  used = used-is-lived cfg rs st c e;
  failed = failed-followed cfg rs st c e;
  finished = finished-followed cfg rs st c e;
  waiting = waiting-followed cfg rs st c e;
  held = held-followed cfg rs st c e;
  bound = bound-followed cfg rs st c e;
  number = number-goes-round cfg rs st c e;
  unended = open-is-unended cfg rs st c e;
  newest = unended-is-latest cfg rs st c e;
  latest = latest-started cfg rs st c e;
  rest = count-is-rest cfg rs st c e;
  queues = queues-followed cfg rs st c e;
  served = served-followed cfg rs st c e;
  fifo = first-in-first-out cfg rs st c e;
}

at-moment : OfRuns AtMoment
at-moment cfg rs st c e = record {
  run = e;
  sound = stays-sound cfg rs st c e;
  areas = areas-held cfg rs st c e;
  goes = failed-goes-on cfg rs st c e;
  requests = requests-fit cfg rs st c e;
  values = values-fit cfg rs st c e;
  once = ends-once cfg rs st c e;
  properly = ends-properly cfg rs st c e;
  time = open-in-time cfg rs st c e;
  held = held-in-time cfg rs st c e;
  timers = timers-in-time cfg rs st c e;
  delivered = done-is-delivered cfg rs st c e;
  done = done-is-final cfg rs st c e;
  failure = done-is-failure cfg rs st c e;
  history = followed cfg rs st c e;
}

at-step : OfSteps AtStep
at-step cfg before after s st c e = record {
  enter = enters-free cfg before after s st c e;
  exit = exits-held cfg before after s st c e;
  end = ends-empty cfg before after s st c e;
  fresh = spawns-empty cfg before after s st c e;
  alive = acts-alive cfg before after s st c e;
  holder = holder-stays cfg before after s st c e;
  failed = failed-stops cfg before after s st c e;
  last = back-is-last cfg before after s st c e;
  paid = ends-paid cfg before after s st c e;
  call = calls-one-by-one cfg before after s st c e;
  waiter = waiter-waits cfg before after s st c e;
  held = held-goes-on cfg before after s st c e;
  spent = gives-up-held cfg before after s st c e;
  copy = reads-its-spawn cfg before after s st c e;
  copies = reads-alike cfg before after s st c e;
  unseen = set-is-unseen cfg before after s st c e;
  answer = back-is-answered cfg before after s st c e;
  zero = timeout-at-zero cfg before after s st c e;
  ends = timeout-ends-open cfg before after s st c e;
  timeout = timeout-in-time cfg before after s st c e;
  back = back-in-time cfg before after s st c e;
  tick = ticks-in-time cfg before after s st c e;
  result = result-is-delivered cfg before after s st c e;
  own = result-is-own cfg before after s st c e;
  number = number-is-final cfg before after s st c e;
  failure = failure-is-final cfg before after s st c e;
  spawn = spawn-takes-next cfg before after s st c e;
}

pub demand3 : OfRuns (λ cfg rs st. Demand3 cfg rs)
demand3 cfg rs st c e = record {
  moments = λ before after w.
      let m = halves cfg (start_of cfg) st before after (subst (λ (l : List Step). Run cfg l st) w e) in
      (m.mid, at-moment cfg before m.mid c m.before);
  steps = λ before after s w. at-step cfg before after s st c (subst (λ (l : List Step). Run cfg l st) w e);
}
