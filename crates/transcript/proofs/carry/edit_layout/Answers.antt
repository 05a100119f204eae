use Rattle.std.proofs.Common.{None, refl}
use Rattle.commands.specs.declared.LayoutCommand.TheVariants.{Edit}
use Rattle.printed.specs.declared.Reply.TheVariants.{Outcome}
use Rattle.script.specs.declared.Command.TheVariants.{Layout}
use Rattle.transcript.specs.Carried.{entry_row}
use Rattle.transcript.proofs.InTurn.{carry_told}
use Rattle.transcript.proofs.carry.edit_layout.Goals as goal

pub returns : goal.returns
returns g c =
    let o = c.in_ok-call.field-0 in
    let command = Layout (Edit c.args.edit) in
    carry_told c.write_entry.result c.args.names.now command c.args.session.now c.call.new.session (g.W.Write.contents c.args.out.now) (g.W.Write.contents c.write_entry.new.out) (entry_row c.args.names.now command (Outcome o) None) (o, c.in_ok-call.ensures.ok, refl) c.write_entry.ensures
