use Rattle.std.proofs.Common.{◌<◌, length, sym, refl, subst}
use Rattle.chain.specs.declared.Ends.{Ends}
use Rattle.chain.specs.Table.{Within}
use Rattle.entities.specs.declared.Inst.{Inst}
use Rattle.entities.specs.Nodes.{inst_place}
use Rattle.listing.proofs.Props.{sound_out}
use Rattle.listing.proofs.BlockEdits.{in_table}
use Rattle.listing.proofs.InstLaws.{last_low, put_last}
use Rattle.listing.proofs.Landed.{block_stands}
use Rattle.inst_edits.proofs.link_last.Goals as goal

pub inst_ends-old-requires : goal.inst_ends-old-requires
inst_ends-old-requires c = let t = c.args.tables.now in (in_table t c.args.block (sound_out c.requires.sound).wired (block_stands t c.args.block c.requires.inserted)).here

pub append-new-requires : goal.append-new-requires
append-new-requires c =
    let t = c.args.tables.now in
    let law = (sound_out c.requires.sound).wired in
    record {
      key = subst (λ n. c.args.inst.0 < n) (sym law.insts_size) c.requires.free.0;
      last = subst (λ (e : Ends Inst). Within inst_place (length t.insts) e.last) (sym c.inst_ends-old.ensures) (last_low t c.args.block law (block_stands t c.args.block c.requires.inserted));
    }

pub set_inst_ends-requires : goal.set_inst_ends-requires
set_inst_ends-requires c = let t = c.args.tables.now in (in_table t c.args.block (sound_out c.requires.sound).wired (block_stands t c.args.block c.requires.inserted)).here

pub returns : goal.returns
returns c = record { linked = put_last c.args.tables.now c.args.block c.args.inst _ _ _ _ _ _ _ c.requires.sound c.requires.free.0 c.requires.free.1 c.inst_ends-old.ensures c.append-new.ensures.table c.append-new.ensures.chain c.set_inst_ends.ensures c.set_block.ensures refl refl c.requires.inserted }
