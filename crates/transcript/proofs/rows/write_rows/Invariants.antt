use Rattle.std.proofs.Common.{take}
use Rattle.std.specs.Io.KnownBytes.{Appends}
use Rattle.std.specs.List.{flat_map}
use Rattle.layout.specs.Program.{program}
use Rattle.transcript.specs.Walks.{block_row}
use Rattle.transcript.proofs.rows.write_rows.Given as goal

abbrev pub invariant-loop-block : goal.invariant-loop-block
invariant-loop-block g l = Appends (g.W.Write.contents l.fn.out) (g.W.Write.contents l.out) (flat_map (block_row l.way (program l.layout)) (take l.block-index l.blocks))
