-- The lines of the nodes so far are written. Assumes nothing.
use Rattle.std.proofs.Common.{take}
use Rattle.std.specs.List.{flat_map}
use Rattle.std.specs.Fmt.{HasWritten, IsPlainFormatter}
use Rattle.dump.specs.Dumps.{block_lines, line_text}
use Rattle.dump.proofs.printed.PartRefSliceBlockNodeDisplay.fmt.Given as goal

abbrev pub invariant-loop-number : goal.invariant-loop-number
invariant-loop-number g l =
    IsPlainFormatter l.fn.f → HasWritten g.W.Write.write_str_gives l.fn.f (flat_map line_text (block_lines 0 (take l.number-counter l.node-items))) l.f
