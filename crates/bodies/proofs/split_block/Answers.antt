use Rattle.bodies.proofs.Splitting.{cut_run}
use Rattle.bodies.proofs.split_block.Goals as goal

pub name_all-requires : goal.name_all-requires
name_all-requires c = cut_run c.args.listing.now c.args.block c.args.before c.requires.stands c.insert_block_after.new.listing c.args.new_block c.insert_block_after.ensures c.cut_off.new.tables c.cut_off.ensures
