use Rattle.listing.proofs.Naming.{going_start, going_turn, read_on, step_less, turned}
use Rattle.bodies.proofs.name_all.Goals as goal

pub loop-at-init : goal.loop-at-init
loop-at-init c = going_start c.args.insts.now c.args.first c.args.block c.requires

pub set_block-requires : goal.set_block-requires
set_block-requires c = (going_turn c.in-Some.is c.loop-at.invariant).in_table

pub loop-at-smaller : goal.loop-at-smaller
loop-at-smaller c =
    let r = going_turn c.in-Some.is c.loop-at.invariant in
    let s = turned r c.set_block.ensures (read_on c.loop-at.insts _ c.index.result c.in-Some.inst.0 c.args.block _ c.set_block.ensures c.index.ensures r.in_table) in
    step_less c.loop-at.invariant s.0 s.1

pub loop-at-preserved : goal.loop-at-preserved
loop-at-preserved c =
    let r = going_turn c.in-Some.is c.loop-at.invariant in
    (turned r c.set_block.ensures (read_on c.loop-at.insts _ c.index.result c.in-Some.inst.0 c.args.block _ c.set_block.ensures c.index.ensures r.in_table)).0
