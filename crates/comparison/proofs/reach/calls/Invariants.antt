-- The calls of the commands so far are there. Assumes nothing.
use Rattle.std.proofs.Common.{◌≡◌, take}
use Rattle.comparison.specs.Reached.{calls_of}
use Rattle.comparison.proofs.reach.calls.Given as goal

abbrev pub invariant-loop-command : goal.invariant-loop-command
invariant-loop-command l = l.calls.items ≡ calls_of (take l.command-index l.commands)
