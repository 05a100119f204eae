use Rattle.std.proofs.Common.{◌<◌, sym, refl, subst}
use Rattle.listing.proofs.Props.{sound_out}
use Rattle.listing.proofs.InstLaws.{inst_low, inst_prev, its_block_low, put_before}
use Rattle.inst_edits.proofs.link_before.Goals as goal

pub inst_ends-old-requires : goal.inst_ends-old-requires
inst_ends-old-requires c = its_block_low c.args.tables.now c.args.before c.args.block c.requires.sound c.requires.stands

pub insert_before-new-requires : goal.insert_before-new-requires
insert_before-new-requires c =
    let t = c.args.tables.now in
    record {
      key = subst (λ n. c.args.inst.0 < n) (sym (sound_out c.requires.sound).wired.insts_size) c.requires.free.0;
      before = inst_low t c.args.before c.args.block c.requires.sound c.requires.stands;
      prev = inst_prev t c.args.before c.args.block c.requires.sound c.requires.stands;
    }

pub set_inst_ends-requires : goal.set_inst_ends-requires
set_inst_ends-requires c = its_block_low c.args.tables.now c.args.before c.args.block c.requires.sound c.requires.stands

pub returns : goal.returns
returns c = record { linked = put_before c.args.tables.now c.args.block c.args.inst _ _ _ _ _ _ _ c.requires.sound c.requires.free.0 c.requires.free.1 c.inst_ends-old.ensures c.insert_before-new.ensures.table c.insert_before-new.ensures.chain c.set_inst_ends.ensures c.set_block.ensures c.args.before refl refl c.requires.stands }
