-- The numbers of the instructions so far are there. Assumes nothing.
use Rattle.std.proofs.Common.{◌≡◌, filter_map, take}
use Rattle.layout.specs.Program.{program}
use Rattle.comparison.specs.Numbering.{difference}
use Rattle.comparison.proofs.seqs.differing.Given as goal

abbrev pub invariant-loop-inst : goal.invariant-loop-inst
invariant-loop-inst l = l.differing.items ≡ filter_map (λ i. difference i (program l.first) (program l.second)) (take l.inst-index l.insts)
