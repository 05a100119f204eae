-- How a refusal is written, and in it who asked and what is at fault. Assumes nothing.
use Rattle.std.specs.Prelude.{ℕ, List, [], ◌++◌, Some, None, Option, codes, decimal}
use Rattle.faults.specs.declared.Layer.{Layer}
use Rattle.faults.specs.declared.Layer.TheVariants.{Layout as by_layout, Cursor as by_cursor, Audit as by_audit}
use Rattle.faults.specs.declared.Entity.{Entity}
use Rattle.faults.specs.declared.Entity.TheVariants.{Block as the_block, Inst as the_inst}
use Rattle.faults.specs.declared.LayoutFault.{LayoutFault}
use Rattle.faults.specs.Refusals.{refusal_of}
use Rattle.faults.specs.declared.LayoutFault.TheVariants.{OutOfRange, NotInserted, AlreadyInserted, NotEmpty, DifferentBlocks}

abbrev pub layer_text : Layer → List ℕ
layer_text by_layout = codes "layout"
layer_text by_cursor = codes "cursor"
layer_text by_audit = codes "audit"

abbrev pub entity_text : Entity → List ℕ
entity_text (the_block b) = codes "block" ++ decimal b.0
entity_text (the_inst i) = codes "inst" ++ decimal i.0

-- what is wrong with what is at fault
abbrev pub reason_text : LayoutFault → List ℕ
reason_text (OutOfRange e) = codes "is out of range"
reason_text (NotInserted e) = codes "is not inserted"
reason_text (AlreadyInserted e) = codes "is inserted already"
reason_text (NotEmpty e) = codes "has instructions"
reason_text (DifferentBlocks e) = codes "is in another block"

-- the entity at fault, where there is one
abbrev pub at_fault_text : Option Entity → List ℕ
at_fault_text None = []
at_fault_text (Some e) = entity_text e

abbrev pub fault_text : LayoutFault → List ℕ
fault_text f = codes "refused with " ++ decimal (refusal_of f).number ++ codes " by the " ++ layer_text (refusal_of f).layer ++ codes ": " ++ at_fault_text (refusal_of f).entity ++ codes " " ++ reason_text f
