use Rattle.std.proofs.Common.{subst}
use Rattle.std.proofs.lemmas.List.{take_all}
use Rattle.transcript.specs.Carried.{CarriesInTurn}
use Rattle.transcript.proofs.carry.play_commands.Goals as goal

pub returns : goal.returns
returns g c =
    let all = take_all c.loop-command.command-index c.args.commands.now c.loop-command-test.false in
    record {
      start = c.new-session.result;
      is_empty = c.loop-command.invariant.is_empty;
      carries = subst (λ q. CarriesInTurn c.args.names.now q c.new-session.result c.loop-command.session (g.W.Write.contents c.args.out.now) (g.W.Write.contents c.loop-command.out)) all c.loop-command.invariant.carries;
    }
