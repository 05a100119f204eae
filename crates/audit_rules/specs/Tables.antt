-- The tables received, read as those of a layout are, and what a node of them holds. Assumes nothing.
use Rattle.std.specs.Prelude.{◌≡◌, List, None}
use Rattle.chain.specs.declared.Ends.{Ends}
use Rattle.entities.specs.declared.Block.{Block}
use Rattle.entities.specs.declared.nodes.BlockNode.{BlockNode}
use Rattle.entities.specs.declared.nodes.InstNode.{InstNode}
use Rattle.entities.specs.declared.nodes.Tables.{Tables}
use Rattle.audit_rules.specs.declared.Received.{Received}

-- two node tables and two ends, whatever they hold
abbrev pub received : List BlockNode → List InstNode → Ends Block → Tables
received bs is e = record { blocks = bs; insts = is; ends = e }

-- those of a value received
abbrev pub tables : Received → Tables
tables r = received r.blocks.now r.insts.now r.ends

-- the node of a block holds no link and no instruction
pub record BareBlockNode (n : BlockNode) : Type 0 where
  pub prev : n.prev ≡ None
  pub next : n.next ≡ None
  pub first : n.first_inst ≡ None
  pub last : n.last_inst ≡ None

-- the node of an instruction holds no link and no block name
pub record BareInstNode (n : InstNode) : Type 0 where
  pub block : n.block ≡ None
  pub prev : n.prev ≡ None
  pub next : n.next ≡ None
