-- The measures of `chooser` and `stepper`: the remaining length times 767, in the chooser with the choices that are left and one more.
use Rattle.std.proofs.Common.{◌*◌, ◌+◌}
use Rattle.searching.proofs.+chooser_stepper.Given as goal

abbrev pub decreases-chooser : goal.decreases-chooser
decreases-chooser l = l.n * 767 + l.left + 1

abbrev pub decreases-stepper : goal.decreases-stepper
decreases-stepper l = l.n * 767
