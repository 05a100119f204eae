use Rattle.std.proofs.Common.{take}
use Rattle.transcript.specs.Carried.{CarriesInTurn, IsEmpty}
use Rattle.transcript.proofs.carry.play_commands.Given as goal

abbrev pub invariant-loop-command : goal.invariant-loop-command
invariant-loop-command g l = record {
  is_empty : IsEmpty l.initial.session;
  carries : CarriesInTurn l.names (take l.command-index l.commands) l.initial.session l.session (g.W.Write.contents l.fn.out) (g.W.Write.contents l.out);
}
