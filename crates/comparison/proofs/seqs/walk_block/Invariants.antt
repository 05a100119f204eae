-- The instructions so far are added. Assumes nothing.
use Rattle.std.proofs.Common.{◌≡◌, ◌++◌}
use Rattle.comparison.proofs.seqs.walk_block.Given as goal

abbrev pub invariant-loop-inst : goal.invariant-loop-inst
invariant-loop-inst l = l.walked.items ≡ l.fn.walked.items ++ l.yielded
