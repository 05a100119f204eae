use Rattle.std.proofs.Common.{◌<◌}
use Rattle.entities.specs.declared.Block.{Block}
use Rattle.audit_rules.specs.Rules.{BlockInside}
use Rattle.audit_rules.proofs.inside.first_block_outside.Given as goal

abbrev pub invariant-loop-i : goal.invariant-loop-i
invariant-loop-i l = (k : Block) → k.0 < l.i → BlockInside l.blocks l.insts k
