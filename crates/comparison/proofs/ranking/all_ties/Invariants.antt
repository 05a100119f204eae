-- The blocks so far are ranked. Assumes nothing.
use Rattle.std.proofs.Common.{◌≡◌, map}
use Rattle.std.specs.List.{flat_map}
use Rattle.entities.specs.Reading.{block_insts}
use Rattle.layout.specs.Program.{program}
use Rattle.comparison.specs.Ranking.{ranks_among, ranks_of}
use Rattle.comparison.proofs.ranking.all_ties.Given as goal

abbrev pub invariant-loop-block : goal.invariant-loop-block
invariant-loop-block l = map ranks_of l.ties.items ≡ flat_map (λ b. ranks_among (program l.first) (program l.second) (block_insts b (program l.first))) l.yielded
