use Rattle.listing.proofs.InstLaws.{inst_low, inst_next, inst_prev, its_block_low, still_low}
use Rattle.inst_edits.proofs.remove_inst.Goals as goal

pub inst_ends-old-requires : goal.inst_ends-old-requires
inst_ends-old-requires c = let l = c.args.listing.now in its_block_low l.tables c.args.inst c.args.block l.sound c.requires

pub remove-new-requires : goal.remove-new-requires
remove-new-requires c =
    let l = c.args.listing.now in
    record {
      key = inst_low l.tables c.args.inst c.args.block l.sound c.requires;
      prev = inst_prev l.tables c.args.inst c.args.block l.sound c.requires;
      next = inst_next l.tables c.args.inst c.args.block l.sound c.requires;
    }

pub close_up-requires : goal.close_up-requires
close_up-requires c = let l = c.args.listing.now in record {
  inst = still_low l.tables c.args.inst c.args.block l.sound c.requires _ c.remove-new.ensures.table;
  block = its_block_low l.tables c.args.inst c.args.block l.sound c.requires;
}
