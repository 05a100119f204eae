use Rattle.std.proofs.Common.{◌≡◌, map}
use Rattle.layout.specs.Program.{program}
use Rattle.transcript.proofs.Slots.{numbered}
use Rattle.transcript.proofs.rows.slots_forward.Given as goal

abbrev pub invariant-loop-inst : goal.invariant-loop-inst
invariant-loop-inst l = l.slots.items ≡ map (numbered (program l.layout)) l.yielded
