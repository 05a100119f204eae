-- The session is as the commands so far make it. Assumes nothing.
use Rattle.std.proofs.Common.{take}
use Rattle.comparison.specs.Reached.{IsFresh, kinds_of}
use Rattle.comparison.proofs.reach.fresh.Given as goal

abbrev pub invariant-loop-command : goal.invariant-loop-command
invariant-loop-command l = IsFresh (kinds_of (take l.command-index l.commands)) l.session
