use Rattle.std.proofs.Common.{◌-◌, length}
use Rattle.transcript.proofs.Back.{GivenBack, all_blocks}
use Rattle.transcript.proofs.rows.blocks_back.Given as goal

abbrev pub invariant-loop-next : goal.invariant-loop-next
invariant-loop-next l = GivenBack l.layout l.next l.blocks.items

abbrev pub decreases-loop-next : goal.decreases-loop-next
decreases-loop-next l = length (all_blocks l.layout) - length l.blocks.items
