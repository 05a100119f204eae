use Rattle.inst_edits.proofs.Closing.{closed}
use Rattle.inst_edits.proofs.close_up.Goals as goal

pub returns : goal.returns
returns c t k none = closed t c.args.tables.now c.args.inst c.args.block c.args.ends c.args.name _ _ k none c.set_inst_ends.ensures c.set_block.ensures
