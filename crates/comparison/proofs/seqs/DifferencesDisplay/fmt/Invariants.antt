-- The numbers so far are written. Assumes nothing.
use Rattle.std.proofs.Common.{take}
use Rattle.std.specs.Fmt.{HasWritten, IsPlainFormatter}
use Rattle.comparison.specs.Text.{numbers_lines}
use Rattle.comparison.proofs.seqs.DifferencesDisplay.fmt.Given as goal

abbrev pub invariant-loop-numbers : goal.invariant-loop-numbers
invariant-loop-numbers g l = IsPlainFormatter l.fn.f → HasWritten g.W.Write.write_str_gives l.fn.f (numbers_lines (take l.numbers-index l.numbers-items)) l.f
