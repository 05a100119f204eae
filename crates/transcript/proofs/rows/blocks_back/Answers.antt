use Rattle.transcript.proofs.Back.{back_end}
use Rattle.transcript.proofs.rows.blocks_back.Goals as goal

pub returns : goal.returns
returns c = back_end c.args.layout.now c.loop-next.next c.loop-next.blocks.items c.in_default.not-Some c.loop-next.invariant
