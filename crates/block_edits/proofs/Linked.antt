-- The chain of blocks edited in a listing: its links lead into the table, and what is written stands for the new list. Assumes nothing.
use Rattle.std.proofs.Common.{◌≡◌, ◌<◌, true, false, List, [], length, Some, None, inl, inr, sym, refl, ◌∙◌, subst}
use Rattle.std.proofs.lemmas.Option.{none-some}
use Rattle.std.proofs.lemmas.Bool.{cases_Bool}
use Rattle.chain.specs.Chain.{Inserts, Removes}
use Rattle.chain.specs.Table.{Within, inserted_table, read_at, removed_table}
use Rattle.chain.specs.declared.Ends.{Ends}
use Rattle.entities.specs.Nodes.{block_links, block_place}
use Rattle.entities.specs.Program.{append_block, insert_block, insert_block_after, remove_block, with_lines}
use Rattle.entities.specs.Reading.{inserted_block, slots_of, BlockFree}
use Rattle.entities.specs.declared.Block.{Block}
use Rattle.entities.specs.declared.nodes.BlockNode.{BlockNode}
use Rattle.listing.proofs.BlockEdits.{InTable, in_table, last_fits}
use Rattle.listing.proofs.Landed.{block_appended, block_inserted, block_inserted_after, block_missing, block_removed, block_stands}
use Rattle.listing.proofs.Props.{sound_out}
use Rattle.listing.specs.Edits.{Becomes, after_blocks}
use Rattle.listing.specs.Held.{program}
use Rattle.listing.specs.Lawful.{BareBlock, Sound, listed, program_of}
use Rattle.listing.specs.declared.Listing.{Listing}

module _ (l : Listing) where
  pub last_low : (k : Block) → l.tables.ends.last ≡ Some k → k.0 < length l.tables.blocks
  last_low k e = subst (λ o. Within block_place (length l.tables.blocks) o) e (last_fits l.tables (sound_out l.sound).wired)

  at : (b : Block) → inserted_block b (program l) ≡ true → InTable l.tables b
  at b stands = in_table l.tables b (sound_out l.sound).wired (block_stands l.tables b stands)

  pub here_low : (b : Block) → inserted_block b (program l) ≡ true → b.0 < length l.tables.blocks
  here_low b stands = (at b stands).here

  -- a block that is not inserted has no links
  bare : (b : Block) → inserted_block b (program l) ≡ false → BareBlock l.tables.blocks b
  bare b out = (sound_out l.sound).wired.sound.bare_blocks b (block_missing l.tables b out)

  pub prev_low : (b k : Block) → read_at block_links.prev_of l.tables.blocks b.0 ≡ Some k → k.0 < length l.tables.blocks
  prev_low b k e =
      elim (cases_Bool (inserted_block b (program l))) [
        | inl stands ↦ subst (λ o. Within block_place (length l.tables.blocks) o) e (at b stands).prev
        | inr out ↦ absurd (none-some k (sym (bare b out).prev ∙ e))
      ]

  pub next_low : (b k : Block) → read_at block_links.next_of l.tables.blocks b.0 ≡ Some k → k.0 < length l.tables.blocks
  next_low b k e =
      elim (cases_Bool (inserted_block b (program l))) [
        | inl stands ↦ subst (λ o. Within block_place (length l.tables.blocks) o) e (at b stands).next
        | inr out ↦ absurd (none-some k (sym (bare b out).next ∙ e))
      ]

  -- the table of blocks and the ends of its chain become bs and e
  module _ (b : Block) (bs : List BlockNode) (e : Ends Block) where
    module _ (free : BlockFree b (program l)) (table : bs ≡ inserted_table block_place block_links l.tables.blocks l.tables.ends.last None b) (chain : Inserts block_place block_links l.tables.blocks l.tables.ends b l.tables.ends.last None bs e) where
      appended : Becomes l.tables (after_blocks l.tables bs e) (append_block b (listed l.tables))
      appended = block_appended l.tables b l.tables.ends bs e l.sound refl free.1 table chain

      pub appended_sound : Sound (after_blocks l.tables bs e)
      appended_sound = appended.sound

      pub appended_program : program_of (after_blocks l.tables bs e) ≡ with_lines (program l) (append_block b (listed l.tables))
      appended_program = appended.program

    module _ (before : Block) (stands : inserted_block before (program l) ≡ true) (free : BlockFree b (program l)) (table : bs ≡ inserted_table block_place block_links l.tables.blocks (read_at block_links.prev_of l.tables.blocks before.0) (Some before) b) (chain : Inserts block_place block_links l.tables.blocks l.tables.ends b (read_at block_links.prev_of l.tables.blocks before.0) (Some before) bs e) where
      inserted : Becomes l.tables (after_blocks l.tables bs e) (insert_block b before (listed l.tables))
      inserted = block_inserted l.tables b l.tables.ends bs e l.sound refl before stands free.1 table chain

      pub inserted_sound : Sound (after_blocks l.tables bs e)
      inserted_sound = inserted.sound

      pub inserted_program : program_of (after_blocks l.tables bs e) ≡ with_lines (program l) (insert_block b before (listed l.tables))
      inserted_program = inserted.program

    module _ (after : Block) (stands : inserted_block after (program l) ≡ true) (free : BlockFree b (program l)) (table : bs ≡ inserted_table block_place block_links l.tables.blocks (Some after) (read_at block_links.next_of l.tables.blocks after.0) b) (chain : Inserts block_place block_links l.tables.blocks l.tables.ends b (Some after) (read_at block_links.next_of l.tables.blocks after.0) bs e) where
      inserted_after : Becomes l.tables (after_blocks l.tables bs e) (insert_block_after b after (listed l.tables))
      inserted_after = block_inserted_after l.tables b l.tables.ends bs e l.sound refl after stands free.1 table chain

      pub inserted_after_sound : Sound (after_blocks l.tables bs e)
      inserted_after_sound = inserted_after.sound

      pub inserted_after_program : program_of (after_blocks l.tables bs e) ≡ with_lines (program l) (insert_block_after b after (listed l.tables))
      inserted_after_program = inserted_after.program

    module _ (stands : inserted_block b (program l) ≡ true) (empty : slots_of b (program l) ≡ []) (table : bs ≡ removed_table block_place block_links l.tables.blocks (read_at block_links.prev_of l.tables.blocks b.0) (read_at block_links.next_of l.tables.blocks b.0) b) (chain : Removes block_place block_links l.tables.blocks l.tables.ends b (read_at block_links.prev_of l.tables.blocks b.0) (read_at block_links.next_of l.tables.blocks b.0) bs e) where
      removed : Becomes l.tables (after_blocks l.tables bs e) (remove_block b (listed l.tables))
      removed = block_removed l.tables b l.tables.ends bs e l.sound refl stands empty table chain

      pub removed_sound : Sound (after_blocks l.tables bs e)
      removed_sound = removed.sound

      pub removed_program : program_of (after_blocks l.tables bs e) ≡ with_lines (program l) (remove_block b (listed l.tables))
      removed_program = removed.program

-- what a search for an edit is told
pub ruleset edited = (last_low, here_low, prev_low, next_low, appended_sound, appended_program, inserted_sound, inserted_program, inserted_after_sound, inserted_after_program, removed_sound, removed_program)
