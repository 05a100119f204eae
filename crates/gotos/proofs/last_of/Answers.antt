use Rattle.std.proofs.Common.{sym, refl, ap, ◌∙◌, not}
use Rattle.gotos.proofs.Last.{has_last, no_last}
use Rattle.layout.specs.Program.{program}
use Rattle.gotos.proofs.last_of.Goals as goal

pub returns-in-None : goal.returns-in-None
returns-in-None c = (ap not (no_last c.args.block (program c.args.layout.now) (sym c.last_inst.ensures ∙ c.in-None.is)), refl)

pub returns-in-Some : goal.returns-in-Some
returns-in-Some c = (ap not (has_last c.args.block (program c.args.layout.now) c.in-Some.inst (sym c.last_inst.ensures ∙ c.in-Some.is)), sym c.last_inst.ensures ∙ c.in-Some.is)
