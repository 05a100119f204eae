-- The lines so far are added. Assumes nothing.
use Rattle.std.proofs.Common.{length, take}
use Rattle.words.specs.Words.{rows}
use Rattle.dump.specs.Parts.{AddsRows, part}
use Rattle.dump.proofs.texts.Partial.add_lines.Given as goal

abbrev pub invariant-loop-i : goal.invariant-loop-i
invariant-loop-i l = AddsRows (take (length l.yielded) (rows l.text)) (part l.fn.self) (part l.self)
