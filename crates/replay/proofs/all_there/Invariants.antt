use Rattle.std.proofs.Common.{◌≡◌, drop}
use Rattle.replay.specs.Runs.{all_fit}
use Rattle.replay.proofs.all_there.Given as goal

abbrev pub invariant-loop-call : goal.invariant-loop-call
invariant-loop-call l = all_fit l.cursors (drop l.call-index l.calls) ≡ all_fit l.cursors l.calls
