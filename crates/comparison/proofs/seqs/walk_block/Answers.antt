use Rattle.std.proofs.Common.{◌++◌, ap, ◌∙◌}
use Rattle.comparison.proofs.Walked.{insts_over, insts_to_come}
use Rattle.comparison.proofs.seqs.walk_block.Goals as goal

pub returns : goal.returns
returns c =
    c.loop-inst.invariant
    ∙ ap (λ xs. c.args.walked.now.items ++ xs) (insts_over _ _ _ c.loop-inst.yielded _ _ (ap insts_to_come c.into_iter-inst-iterator.ensures.into_iter_gives ∙ c.block_insts-inst-items.ensures.all) c.loop-inst.yielded_by c.next.ensures.steps c.in-None.is)
