-- A block split in a listing: what is written stands for the new list. Assumes nothing.
use Rattle.std.proofs.Common.{◌≡◌, ◌<◌, true, List, length, Some, subst}
use Rattle.chain.specs.Chain.{keys_from}
use Rattle.chain.specs.Table.{Within, read_at}
use Rattle.entities.specs.Nodes.{ends_of, inst_links, inst_place}
use Rattle.entities.specs.Program.{insert_block_after, split_block, with_lines}
use Rattle.entities.specs.Reading.{inserted_block, inst_block}
use Rattle.entities.specs.declared.Block.{Block}
use Rattle.entities.specs.declared.Inst.{Inst}
use Rattle.entities.specs.declared.nodes.InstNode.{InstNode}
use Rattle.entities.specs.declared.nodes.Tables.{Tables}
use Rattle.listing.proofs.Splits.{cut_low, cut_prev, its_block, old_low, tail_named, tail_run}
use Rattle.listing.specs.Edits.{Becomes, cut_off, named, with_insts}
use Rattle.listing.specs.Held.{program}
use Rattle.listing.specs.Lawful.{Sound, listed, program_of}
use Rattle.listing.specs.Numbers.{SomeRun}
use Rattle.listing.specs.declared.Listing.{Listing}

-- i stands in block b of the listing l; once nb is put in behind b it is l1
module _ (l : Listing) (b : Block) (i : Inst) (stands : inst_block i (program l) ≡ Some b) where
  pub block_inserted : inserted_block b (program l) ≡ true
  block_inserted = its_block l.tables b b i l.sound stands

  module _ (l1 : Listing) (nb : Block) (opens : program l1 ≡ with_lines (program l) (insert_block_after nb b (listed l.tables))) where
    made : Becomes l.tables l1.tables (insert_block_after nb b (listed l.tables))
    made = record { sound = l1.sound; program = opens }

    pub block_low : b.0 < length l1.tables.blocks
    block_low = old_low l.tables nb b i l.sound stands l1.tables made

    pub inst_low : i.0 < length l1.tables.insts
    inst_low = cut_low l.tables nb b i l.sound stands l1.tables made

    pub prev_low : (k : Inst) → read_at inst_links.prev_of l1.tables.insts i.0 ≡ Some k → k.0 < length l1.tables.insts
    prev_low k e = subst (λ o. Within inst_place (length l1.tables.insts) o) e (cut_prev l.tables nb b i l.sound stands l1.tables made)

    -- i and all that follow it are cut off into nb, and then each of them names nb
    module _ (u : Tables) (cut : u ≡ cut_off l1.tables (ends_of l1.tables.blocks b) (read_at inst_links.prev_of l1.tables.insts i.0) nb i b) where
      pub cut_run : SomeRun u.insts (Some i)
      cut_run = tail_run l.tables nb b i l.sound stands l1.tables made u cut

      module _ (js : List InstNode) (names : js ≡ named u.insts (keys_from inst_place inst_links u.insts (Some i)) nb) where
        split : Becomes l.tables (with_insts u js) (split_block nb i (listed l.tables))
        split = tail_named l.tables nb b i l.sound stands l1.tables made u cut js names

        pub split_sound : Sound (with_insts u js)
        split_sound = split.sound

        pub split_program : program_of (with_insts u js) ≡ with_lines (program l) (split_block nb i (listed l.tables))
        split_program = split.program

-- what a search for the split is told
pub ruleset steps = (block_inserted, block_low, inst_low, prev_low, split_sound, split_program)
