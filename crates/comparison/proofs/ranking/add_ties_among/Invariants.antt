-- What is ranked so far, with what the rest gives, is all. Assumes nothing.
use Rattle.std.proofs.Common.{◌≡◌, ◌++◌, map, length}
use Rattle.layout.specs.Program.{program}
use Rattle.comparison.specs.Ranking.{ranks_among, ranks_of}
use Rattle.comparison.proofs.ranking.add_ties_among.Given as goal

abbrev pub invariant-loop-rest : goal.invariant-loop-rest
invariant-loop-rest l =
    map ranks_of l.ties.items ++ ranks_among (program l.first) (program l.second) l.rest
    ≡ map ranks_of l.fn.ties.items ++ ranks_among (program l.first) (program l.second) l.insts

abbrev pub decreases-loop-rest : goal.decreases-loop-rest
decreases-loop-rest l = length l.rest
