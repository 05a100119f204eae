-- The word is none of the keywords. Assumes nothing.
use Rattle.std.proofs.Common.{Some, None}
use Rattle.forms.proofs.Arguments.{named}
use Rattle.forms.proofs.Arg.read.Goals as goal

pub returns-in_err-entity-in_default : goal.returns-in_err-entity-in_default
returns-in_err-entity-in_default c =
    let no = c.in_default in
    rw c.from_residual.ensures (named _ no.not-nowhere no.not-at no.not-before no.not-after None c.in_err-entity-in_default.ensures)

pub returns-in_ok-entity-in_default : goal.returns-in_ok-entity-in_default
returns-in_ok-entity-in_default c =
    let no = c.in_default in
    let there = named _ no.not-nowhere no.not-at no.not-before no.not-after (Some c.in_ok-entity-in_default.field-0) c.in_ok-entity-in_default.ensures in
    rw c.into.ensures there
