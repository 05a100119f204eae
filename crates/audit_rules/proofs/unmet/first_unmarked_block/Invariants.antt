use Rattle.std.proofs.Common.{◌<◌, slice_index_or}
use Rattle.entities.specs.Nodes.{block_place, no_block}
use Rattle.entities.specs.declared.Block.{Block}
use Rattle.audit_rules.specs.Tables.{BareBlockNode}
use Rattle.audit_walks.specs.Marks.{Unmarked}
use Rattle.audit_rules.proofs.unmet.first_unmarked_block.Given as goal

abbrev pub invariant-loop-i : goal.invariant-loop-i
invariant-loop-i l = (k : Block) → k.0 < l.i → Unmarked block_place l.met k → BareBlockNode (slice_index_or l.blocks k.0 no_block)
