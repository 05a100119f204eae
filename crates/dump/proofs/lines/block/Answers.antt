-- The word names a block, or something else. Assumes nothing.
use Rattle.dump.proofs.Named.{nothing_no_block, inst_no_block, this_block}
use Rattle.dump.proofs.lines.block.Goals as goal

pub returns-in_err-block : goal.returns-in_err-block
returns-in_err-block c b = rw c.from_residual.ensures (nothing_no_block _ b c.in_err-block.ensures)

pub returns-in-Block : goal.returns-in-Block
returns-in-Block c b = this_block _ b _ (rw c.in-Block.is at c.in_ok-block.ensures)

pub returns-in-Inst : goal.returns-in-Inst
returns-in-Inst c b = inst_no_block _ b _ (rw c.in-Inst.is at c.in_ok-block.ensures)
