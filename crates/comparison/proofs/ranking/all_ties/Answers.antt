use Rattle.std.proofs.Common.{ap, ◌∙◌}
use Rattle.std.specs.List.{flat_map}
use Rattle.entities.specs.Reading.{block_insts}
use Rattle.layout.specs.Program.{program}
use Rattle.comparison.specs.Ranking.{ranks_among}
use Rattle.comparison.proofs.Walked.{blocks_over, to_come}
use Rattle.comparison.proofs.ranking.all_ties.Goals as goal

pub returns : goal.returns
returns c =
    c.loop-block.invariant
    ∙ ap (flat_map (λ b. ranks_among (program c.args.first.now) (program c.args.second.now) (block_insts b (program c.args.first.now)))) (blocks_over _ _ _ c.loop-block.yielded _ _ (ap to_come c.into_iter-block-iterator.ensures.into_iter_gives ∙ c.blocks-block-items.ensures.all) c.loop-block.yielded_by c.next.ensures.steps c.in-None.is)
