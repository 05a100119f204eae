-- What a node read from the tables says of the program. Assumes nothing.
use Rattle.std.specs.Prelude.{◌≡◌, true, false, [], is_some, Some, ◌≢◌}
use Rattle.entities.specs.declared.Block.{Block}
use Rattle.entities.specs.declared.Inst.{Inst}
use Rattle.entities.specs.declared.nodes.BlockNode.{BlockNode}
use Rattle.entities.specs.declared.nodes.InstNode.{InstNode}
use Rattle.entities.specs.Program.{Program}
use Rattle.entities.specs.Reading.{inserted_block, entry_block, next_block, prev_block, first_inst, last_inst, is_cold, slots_of, empty, exactly_one, inserted_inst, inst_block, next_inst, prev_inst, inst_seq}

-- the node of block b, for any number b may have
pub record OfBlock (p : Program) (b : Block) (n : BlockNode) : Type 0 where
  pub prev : n.prev ≡ prev_block b p
  pub next : n.next ≡ next_block b p
  pub first : n.first_inst ≡ first_inst b p
  pub last : n.last_inst ≡ last_inst b p
  pub cold : n.cold ≡ is_cold b p
  -- inserted is what has another block ahead of it, or is the first
  pub entry : entry_block p ≡ Some b → inserted_block b p ≡ true
  pub linked : is_some n.prev ≡ true → inserted_block b p ≡ true
  pub loose : (entry_block p ≢ Some b) → is_some n.prev ≡ false → inserted_block b p ≡ false
  -- it has an instruction where a first one is there
  pub vacant : is_some n.first_inst ≡ false → slots_of b p ≡ []
  pub occupied : is_some n.first_inst ≡ true → empty (slots_of b p) ≡ false
  -- it has exactly one instruction where the first is there and is the last
  pub empty : is_some n.first_inst ≡ false → exactly_one (slots_of b p) ≡ false
  pub one : is_some n.first_inst ≡ true → n.first_inst ≡ n.last_inst → exactly_one (slots_of b p) ≡ true
  pub more : (n.first_inst ≢ n.last_inst) → exactly_one (slots_of b p) ≡ false

-- the node of instruction i, for any number i may have; the number of one that is not inserted says nothing
pub record OfInst (p : Program) (i : Inst) (n : InstNode) : Type 0 where
  pub block : n.block ≡ inst_block i p
  pub inserted : is_some n.block ≡ inserted_inst i p
  pub prev : n.prev ≡ prev_inst i p
  pub next : n.next ≡ next_inst i p
  pub seq : inserted_inst i p ≡ true → n.seq ≡ inst_seq i p
