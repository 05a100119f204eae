use Rattle.std.proofs.Common.{◌≡◌, ap}
use Rattle.commands.specs.declared.CursorCommand.TheVariants.{Call}
use Rattle.printed.specs.declared.Reply.TheVariants.{Outcome}
use Rattle.script.specs.declared.Command.TheVariants.{Cursor}
use Rattle.session.specs.Sessions.{place_at}
use Rattle.transcript.specs.Carried.{entry_row}
use Rattle.transcript.proofs.InTurn.{carry_told}
use Rattle.transcript.proofs.carry.call_cursor.Goals as goal

pub returns-clause-told : goal.returns-clause-told
returns-clause-told g c =
    let o = c.in_ok-call.field-0 in
    let command = Cursor c.args.index (Call c.args.made) in
    let at = c.position-position.result in
    let here : at ≡ place_at c.args.index c.call.new.session = c.position-position.ensures in
    carry_told c.write_entry.result c.args.names.now command c.args.session.now c.call.new.session (g.W.Write.contents c.args.out.now) (g.W.Write.contents c.write_entry.new.out) (entry_row c.args.names.now command (Outcome o) at) (o, c.in_ok-call.ensures.ok, ap (λ p. entry_row c.args.names.now command (Outcome o) p) here) c.write_entry.ensures
