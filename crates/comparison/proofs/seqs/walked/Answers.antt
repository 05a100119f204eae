use Rattle.std.proofs.Common.{ap, ◌∙◌}
use Rattle.std.specs.List.{flat_map}
use Rattle.entities.specs.Reading.{block_insts}
use Rattle.layout.specs.Program.{program}
use Rattle.comparison.proofs.Walked.{blocks_over, to_come}
use Rattle.comparison.proofs.seqs.walked.Goals as goal

pub returns : goal.returns
returns c =
    c.loop-block.invariant
    ∙ ap (flat_map (λ b. block_insts b (program c.args.layout.now))) (blocks_over _ _ _ c.loop-block.yielded _ _ (ap to_come c.into_iter-block-iterator.ensures.into_iter_gives ∙ c.blocks-block-items.ensures.all) c.loop-block.yielded_by c.next.ensures.steps c.in-None.is)
