-- The word names an instruction, or something else. Assumes nothing.
use Rattle.dump.proofs.Named.{nothing_no_inst, block_no_inst, this_inst}
use Rattle.dump.proofs.lines.inst.Goals as goal

pub returns-in_err-inst : goal.returns-in_err-inst
returns-in_err-inst c i = rw c.from_residual.ensures (nothing_no_inst _ i c.in_err-inst.ensures)

pub returns-in-Inst : goal.returns-in-Inst
returns-in-Inst c i = this_inst _ i _ (rw c.in-Inst.is at c.in_ok-inst.ensures)

pub returns-in-Block : goal.returns-in-Block
returns-in-Block c i = block_no_inst _ i _ (rw c.in-Block.is at c.in_ok-inst.ensures)
