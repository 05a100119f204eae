use Rattle.layout.specs.Program.{program}
use Rattle.comparison.specs.Ranking.{ranks, ranks_of}
use Rattle.comparison.proofs.Made.{one_each}
use Rattle.comparison.proofs.ranking.add_ties.Goals as goal

pub loop-other-preserved : goal.loop-other-preserved
loop-other-preserved c = one_each ranks_of (ranks (program c.args.first.now) (program c.args.second.now) c.args.inst) c.args.ties.now.items c.loop-other.ties.items c.push.new.self.items c.args.behind.now c.loop-other.other-index _ c.rank_pair.result c.loop-other-test.true c.loop-other.invariant c.in_ok-push.ensures.items c.rank_pair.ensures
