-- The instructions so far are ranked. Assumes nothing.
use Rattle.std.proofs.Common.{◌≡◌, ◌++◌, map, take}
use Rattle.layout.specs.Program.{program}
use Rattle.comparison.specs.Ranking.{ranks, ranks_of}
use Rattle.comparison.proofs.ranking.add_ties.Given as goal

abbrev pub invariant-loop-other : goal.invariant-loop-other
invariant-loop-other l = map ranks_of l.ties.items ≡ map ranks_of l.fn.ties.items ++ map (ranks (program l.first) (program l.second) l.inst) (take l.other-index l.behind)
