-- The ties so far are written. Assumes nothing.
use Rattle.std.proofs.Common.{map, take}
use Rattle.std.specs.Fmt.{HasWritten, IsPlainFormatter}
use Rattle.comparison.specs.Ranking.{ranks_of}
use Rattle.comparison.specs.Text.{ranks_lines}
use Rattle.comparison.proofs.ranking.TiesDisplay.fmt.Given as goal

abbrev pub invariant-loop-tie : goal.invariant-loop-tie
invariant-loop-tie g l = IsPlainFormatter l.fn.f → HasWritten g.W.Write.write_str_gives l.fn.f (ranks_lines (map ranks_of (take l.tie-index l.tie-items))) l.f
