-- What the first word tells. Assumes nothing.
use Rattle.dump.proofs.Named.{no_line, no_block_line, block_line, no_inst_line, inst_line}
use Rattle.dump.proofs.lines.Line.read.Goals as goal

pub returns-in_err-block-in_default : goal.returns-in_err-block-in_default
returns-in_err-block-in_default c = rw (c.from_residual-in_err-block-in_default.ensures, c.in_ok-first.ensures.cases.0) (no_line _ _ c.in_default.not-ends c.in_err-block-in_default.ensures)

pub returns-in_err-block_node-in-Block : goal.returns-in_err-block_node-in-Block
returns-in_err-block_node-in-Block c =
    rw (c.from_residual-in_err-block_node-in-Block.ensures, c.in_ok-first.ensures.cases.0)
    (no_block_line _ _ c.in_default.not-ends _ (rw c.in-Block.is at c.in_ok-block-in_default.ensures) c.in_err-block_node-in-Block.ensures)

pub returns-in_ok-block_node-in-Block : goal.returns-in_ok-block_node-in-Block
returns-in_ok-block_node-in-Block c =
    rw c.in_ok-first.ensures.cases.0 (block_line _ _ c.in_default.not-ends _ (rw c.in-Block.is at c.in_ok-block-in_default.ensures) _ c.in_ok-block_node-in-Block.ensures)

pub returns-in_err-inst_node-in-Inst : goal.returns-in_err-inst_node-in-Inst
returns-in_err-inst_node-in-Inst c =
    rw (c.from_residual-in_err-inst_node-in-Inst.ensures, c.in_ok-first.ensures.cases.0)
    (no_inst_line _ _ c.in_default.not-ends _ (rw c.in-Inst.is at c.in_ok-block-in_default.ensures) c.in_err-inst_node-in-Inst.ensures)

pub returns-in_ok-inst_node-in-Inst : goal.returns-in_ok-inst_node-in-Inst
returns-in_ok-inst_node-in-Inst c =
    rw c.in_ok-first.ensures.cases.0 (inst_line _ _ c.in_default.not-ends _ (rw c.in-Inst.is at c.in_ok-block-in_default.ensures) _ c.in_ok-inst_node-in-Inst.ensures)
