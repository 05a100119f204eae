-- How an audit is refused. Assumes nothing.
use Rattle.std.specs.Prelude.{None}
use Rattle.faults.specs.declared.Layer.TheVariants.{Audit as by_audit}
use Rattle.faults.specs.Refusals.{Refusal}
use Rattle.verdicts.specs.declared.AuditFault.{AuditFault}
use Rattle.verdicts.specs.declared.AuditFault.TheVariants.{TooManyNodes}

-- the question's number, who asked it, and that nothing is named
abbrev pub refusal_of : AuditFault → Refusal
refusal_of TooManyNodes = record { number = 1; layer = by_audit; entity = None }
