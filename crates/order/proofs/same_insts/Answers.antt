use Rattle.entities.specs.Reading.{block_insts}
use Rattle.layout.specs.Program.{program}
use Rattle.walks.specs.Walks.{insts_left}
use Rattle.walks.specs.declared.Insts.{Insts}
use Rattle.order.proofs.Comparing.{insts_compared}
use Rattle.order.proofs.same_insts.Goals as goal

pub returns : goal.returns
returns c =
    let left = λ (s : Insts). insts_left s.listing.now s.block s.left in
    insts_compared left left c.block_insts.result c.block_insts-2.result c.eq.result (block_insts c.args.block (program c.args.a.now)) (block_insts c.args.block (program c.args.b.now)) c.block_insts.ensures.all c.block_insts-2.ensures.all c.eq.ensures.ran
