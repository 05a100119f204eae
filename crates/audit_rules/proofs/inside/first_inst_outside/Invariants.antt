use Rattle.std.proofs.Common.{◌<◌}
use Rattle.entities.specs.declared.Inst.{Inst}
use Rattle.audit_rules.specs.Rules.{InstInside}
use Rattle.audit_rules.proofs.inside.first_inst_outside.Given as goal

abbrev pub invariant-loop-i : goal.invariant-loop-i
invariant-loop-i l = (k : Inst) → k.0 < l.i → InstInside l.blocks l.insts k
