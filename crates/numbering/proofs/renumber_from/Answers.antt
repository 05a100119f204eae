use Rattle.std.proofs.Common.{arith}
use Rattle.numbering.proofs.Turns.{in_table, room, turns_done, turns_on, turns_start, unfinished}
use Rattle.numbering.proofs.renumber_from.Goals as goal

pub loop-next_inst-init : goal.loop-next_inst-init
loop-next_inst-init c = turns_start c.args.seq

pub set_seq-requires : goal.set_seq-requires
set_seq-requires c = in_table c.loop-next_inst.invariant c.in-Some.is c.requires.run.run

pub overflow_add-seq : goal.overflow_add-seq
overflow_add-seq c = omega (arith, room c.loop-next_inst.invariant c.in-Some.is c.requires.run.run)

pub overflow_add-count : goal.overflow_add-count
overflow_add-count c = omega (arith, unfinished c.loop-next_inst.invariant c.in-Some.is c.requires.run.run)

pub bounds-insts-index : goal.bounds-insts-index
bounds-insts-index c = omega (arith, in_table c.loop-next_inst.invariant c.in-Some.is c.requires.run.run, c.set_seq.auto.insts)

pub loop-next_inst-smaller : goal.loop-next_inst-smaller
loop-next_inst-smaller c = omega (arith, unfinished c.loop-next_inst.invariant c.in-Some.is c.requires.run.run)

pub loop-next_inst-preserved : goal.loop-next_inst-preserved
loop-next_inst-preserved c = turns_on c.loop-next_inst.invariant c.in-Some.is c.set_seq.ensures.stored c.index.ensures

pub returns : goal.returns
returns c = turns_done c.in_default.is c.loop-next_inst.invariant
