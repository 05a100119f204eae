-- The lines so far are read. Assumes nothing.
use Rattle.std.proofs.Common.{length, take}
use Rattle.words.specs.Words.{rows}
use Rattle.script.specs.Scripts.{ReadsRows, content}
use Rattle.script.proofs.texts.add_lines.Given as goal

abbrev pub invariant-loop-i : goal.invariant-loop-i
invariant-loop-i l = ReadsRows (take (length l.yielded) (rows l.text)) (content l.fn.script) (content l.script)
