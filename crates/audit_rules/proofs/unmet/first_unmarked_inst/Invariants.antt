use Rattle.std.proofs.Common.{◌<◌, slice_index_or}
use Rattle.entities.specs.Nodes.{inst_place, no_inst}
use Rattle.entities.specs.declared.Inst.{Inst}
use Rattle.audit_rules.specs.Tables.{BareInstNode}
use Rattle.audit_walks.specs.Marks.{Unmarked}
use Rattle.audit_rules.proofs.unmet.first_unmarked_inst.Given as goal

abbrev pub invariant-loop-i : goal.invariant-loop-i
invariant-loop-i l = (k : Inst) → k.0 < l.i → Unmarked inst_place l.met k → BareInstNode (slice_index_or l.insts k.0 no_inst)
