use Rattle.std.proofs.Common.{◌-◌}
use Rattle.numbering.proofs.Pushes.{Pushes}
use Rattle.numbering.proofs.renumber_behind.Given as goal

abbrev pub invariant-loop-next_inst : goal.invariant-loop-next_inst
invariant-loop-next_inst l = Pushes l.initial.insts l.insts l.initial.next_inst l.next_inst l.limit l.initial.seq l.seq l.count

abbrev pub decreases-loop-next_inst : goal.decreases-loop-next_inst
decreases-loop-next_inst l = 1024 - l.count
