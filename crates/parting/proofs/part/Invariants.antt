use Rattle.std.proofs.Common.{◌≡◌, ◌++◌}
use Rattle.parting.specs.Points.{points_left}
use Rattle.parting.proofs.part.Given as goal

abbrev pub invariant-loop-first : goal.invariant-loop-first
invariant-loop-first l = points_left l.fn.seconds ≡ l.yielded ++ points_left l.seconds
