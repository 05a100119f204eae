-- A node read at a place says of the list what the node of the block or instruction of that place says. Assumes nothing.
use Rattle.std.proofs.Common.{◌≡◌, true, false, [], get_or, is_some, Some, refl, ◌≢◌}
use Rattle.entities.specs.Nodes.{no_block, no_inst}
use Rattle.entities.specs.Reading.{empty, entry_block, exactly_one, first_inst, inserted_block, inserted_inst, inst_block, inst_seq, is_cold, last_inst, next_block, next_inst, prev_block, prev_inst, slots_of}
use Rattle.entities.specs.declared.Block.{Block}
use Rattle.entities.specs.declared.Inst.{Inst}
use Rattle.listing.proofs.Questions.{of_block_node, of_inst_node}
use Rattle.listing.specs.Held.{program}
use Rattle.listing.specs.declared.Listing.{Listing}

module _ (l : Listing) (i : Inst) where
  pub inst_block_read : (get_or l.tables.insts i.0 no_inst).block ≡ inst_block i (program l)
  inst_block_read = (of_inst_node l.tables i _ l.sound refl).block

  pub inst_inserted_read : is_some (get_or l.tables.insts i.0 no_inst).block ≡ inserted_inst i (program l)
  inst_inserted_read = (of_inst_node l.tables i _ l.sound refl).inserted

  pub inst_prev_read : (get_or l.tables.insts i.0 no_inst).prev ≡ prev_inst i (program l)
  inst_prev_read = (of_inst_node l.tables i _ l.sound refl).prev

  pub inst_next_read : (get_or l.tables.insts i.0 no_inst).next ≡ next_inst i (program l)
  inst_next_read = (of_inst_node l.tables i _ l.sound refl).next

  pub inst_seq_read : inserted_inst i (program l) ≡ true → (get_or l.tables.insts i.0 no_inst).seq ≡ inst_seq i (program l)
  inst_seq_read = (of_inst_node l.tables i _ l.sound refl).seq

pub ruleset inst_reads = (inst_block_read, inst_inserted_read, inst_prev_read, inst_next_read, inst_seq_read)

module _ (l : Listing) (b : Block) where
  pub block_prev_read : (get_or l.tables.blocks b.0 no_block).prev ≡ prev_block b (program l)
  block_prev_read = (of_block_node l.tables b _ l.sound refl).prev

  pub block_next_read : (get_or l.tables.blocks b.0 no_block).next ≡ next_block b (program l)
  block_next_read = (of_block_node l.tables b _ l.sound refl).next

  pub block_first_read : (get_or l.tables.blocks b.0 no_block).first_inst ≡ first_inst b (program l)
  block_first_read = (of_block_node l.tables b _ l.sound refl).first

  pub block_last_read : (get_or l.tables.blocks b.0 no_block).last_inst ≡ last_inst b (program l)
  block_last_read = (of_block_node l.tables b _ l.sound refl).last

  pub block_cold_read : (get_or l.tables.blocks b.0 no_block).cold ≡ is_cold b (program l)
  block_cold_read = (of_block_node l.tables b _ l.sound refl).cold

  pub block_entry_read : entry_block (program l) ≡ Some b → inserted_block b (program l) ≡ true
  block_entry_read = (of_block_node l.tables b _ l.sound refl).entry

  pub block_linked_read : is_some (get_or l.tables.blocks b.0 no_block).prev ≡ true → inserted_block b (program l) ≡ true
  block_linked_read = (of_block_node l.tables b _ l.sound refl).linked

  pub block_loose_read : (entry_block (program l) ≢ Some b) → is_some (get_or l.tables.blocks b.0 no_block).prev ≡ false → inserted_block b (program l) ≡ false
  block_loose_read = (of_block_node l.tables b _ l.sound refl).loose

  pub block_vacant_read : is_some (get_or l.tables.blocks b.0 no_block).first_inst ≡ false → slots_of b (program l) ≡ []
  block_vacant_read = (of_block_node l.tables b _ l.sound refl).vacant

  pub block_occupied_read : is_some (get_or l.tables.blocks b.0 no_block).first_inst ≡ true → empty (slots_of b (program l)) ≡ false
  block_occupied_read = (of_block_node l.tables b _ l.sound refl).occupied

  pub block_empty_read : is_some (get_or l.tables.blocks b.0 no_block).first_inst ≡ false → exactly_one (slots_of b (program l)) ≡ false
  block_empty_read = (of_block_node l.tables b _ l.sound refl).empty

  pub block_one_read : is_some (get_or l.tables.blocks b.0 no_block).first_inst ≡ true → (get_or l.tables.blocks b.0 no_block).first_inst ≡ (get_or l.tables.blocks b.0 no_block).last_inst → exactly_one (slots_of b (program l)) ≡ true
  block_one_read = (of_block_node l.tables b _ l.sound refl).one

  pub block_more_read : ((get_or l.tables.blocks b.0 no_block).first_inst ≢ (get_or l.tables.blocks b.0 no_block).last_inst) → exactly_one (slots_of b (program l)) ≡ false
  block_more_read = (of_block_node l.tables b _ l.sound refl).more

pub ruleset block_reads = (block_prev_read, block_next_read, block_first_read, block_last_read, block_cold_read, block_entry_read, block_linked_read, block_loose_read, block_vacant_read, block_occupied_read, block_empty_read, block_one_read, block_more_read)
