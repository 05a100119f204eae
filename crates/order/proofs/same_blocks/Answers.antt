use Rattle.entities.specs.Program.{blocks_of}
use Rattle.layout.specs.Program.{program}
use Rattle.walks.specs.Walks.{blocks_left}
use Rattle.walks.specs.declared.Blocks.{Blocks}
use Rattle.order.proofs.Comparing.{blocks_compared}
use Rattle.order.proofs.same_blocks.Goals as goal

pub returns : goal.returns
returns c =
    let left = λ (s : Blocks). blocks_left s.listing.now s.next in
    blocks_compared left left c.blocks-2.result c.blocks-3.result c.eq.result (blocks_of (program c.args.a.now).lines) (blocks_of (program c.args.b.now).lines) c.blocks-2.ensures.all c.blocks-3.ensures.all c.eq.ensures.ran
