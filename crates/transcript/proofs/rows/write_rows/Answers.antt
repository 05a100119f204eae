use Rattle.layout.specs.Program.{program}
use Rattle.transcript.specs.Walks.{block_row}
use Rattle.transcript.proofs.Known.{appends_nothing, next_piece}
use Rattle.transcript.proofs.rows.write_rows.Goals as goal

pub loop-block-init : goal.loop-block-init
loop-block-init g c = appends_nothing _

pub loop-block-preserved : goal.loop-block-preserved
loop-block-preserved g c = next_piece (block_row c.args.way (program c.args.layout.now)) _ _ _ c.args.blocks.now c.loop-block.block-index _ c.loop-block.invariant c.loop-block-test.true c.in_ok-write_row.ensures
