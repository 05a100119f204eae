-- The blocks so far are walked. Assumes nothing.
use Rattle.std.proofs.Common.{◌≡◌}
use Rattle.std.specs.List.{flat_map}
use Rattle.entities.specs.Reading.{block_insts}
use Rattle.layout.specs.Program.{program}
use Rattle.comparison.proofs.seqs.walked.Given as goal

abbrev pub invariant-loop-block : goal.invariant-loop-block
invariant-loop-block l = l.walked.items ≡ flat_map (λ b. block_insts b (program l.layout)) l.yielded
