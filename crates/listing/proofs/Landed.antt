-- From what is written in the tables to the program that they then hold. Assumes nothing.
use Rattle.std.proofs.Common.{◌≡◌, true, false, List, [], length, replicate, Some, None, sym, ap, ◌∙◌}
use Rattle.chain.specs.Chain.{Inserts, Removes}
use Rattle.chain.specs.Table.{inserted_table, read_at, removed_table}
use Rattle.chain.specs.declared.Ends.{Ends}
use Rattle.entities.specs.Nodes.{block_links, block_place, inst_place, no_inst, only_mark}
use Rattle.entities.specs.Program.{append_block, blocks_of, insert_block, insert_block_after, insts_of, remove_block}
use Rattle.entities.specs.Reading.{inserted_block, inserted_inst, slots_of}
use Rattle.entities.specs.declared.Block.{Block}
use Rattle.entities.specs.declared.Inst.{Inst}
use Rattle.entities.specs.declared.nodes.BlockNode.{BlockNode}
use Rattle.entities.specs.declared.nodes.InstNode.{InstNode}
use Rattle.entities.specs.declared.nodes.Tables.{Tables}
use Rattle.listing.proofs.BlockEdits.{appended, block_at, inserted_ahead, inserted_behind, removed}
use Rattle.listing.proofs.Empty.{emptied}
use Rattle.listing.proofs.Found.{block_apart, inst_apart}
use Rattle.listing.proofs.Props.{sound_out}
use Rattle.listing.proofs.Questions.{slots_at}
use Rattle.listing.proofs.Rises.{append_block_rises, becomes, insert_block_after_rises, insert_block_rises, remove_block_rises}
use Rattle.listing.proofs.Stretches.{in_holds, not_holds}
use Rattle.listing.specs.Edits.{Becomes, BlockIn, BlockOut, InstOut, after_blocks}
use Rattle.listing.specs.Lawful.{Sound, listed, program_of}

pub block_stands : (t : Tables) (b : Block) → inserted_block b (program_of t) ≡ true → BlockIn b t
block_stands t b h = in_holds block_place block_apart b (blocks_of (listed t)) h

pub block_missing : (t : Tables) (b : Block) → inserted_block b (program_of t) ≡ false → BlockOut b t
block_missing t b h = not_holds block_place block_apart b (blocks_of (listed t)) h

pub inst_missing : (t : Tables) (i : Inst) → inserted_inst i (program_of t) ≡ false → InstOut i t
inst_missing t i h = not_holds inst_place inst_apart i (insts_of (listed t)) h

-- ---- the chain of blocks edited from the ends `old`

module _ (t : Tables) (b : Block) (old : Ends Block) (bs : List BlockNode) (e : Ends Block) (h : Sound t) (eo : old ≡ t.ends) where
  pub block_appended : inserted_block b (program_of t) ≡ false → bs ≡ inserted_table block_place block_links t.blocks old.last None b → Inserts block_place block_links t.blocks old b old.last None bs e → Becomes t (after_blocks t bs e) (append_block b (listed t))
  block_appended fresh table chains =
      let law = sound_out h in
      becomes (appended t b old bs e law.wired (block_missing t b fresh) eo table chains) (append_block_rises b (listed t) law.numbers)

  pub block_inserted : (at : Block) → inserted_block at (program_of t) ≡ true → inserted_block b (program_of t) ≡ false → bs ≡ inserted_table block_place block_links t.blocks (read_at block_links.prev_of t.blocks at.0) (Some at) b → Inserts block_place block_links t.blocks old b (read_at block_links.prev_of t.blocks at.0) (Some at) bs e → Becomes t (after_blocks t bs e) (insert_block b at (listed t))
  block_inserted at stands fresh table chains =
      let law = sound_out h in
      becomes (inserted_ahead t b at old bs e law.wired (block_missing t b fresh) (block_stands t at stands) eo table chains) (insert_block_rises b at (listed t) law.numbers)

  pub block_inserted_after : (at : Block) → inserted_block at (program_of t) ≡ true → inserted_block b (program_of t) ≡ false → bs ≡ inserted_table block_place block_links t.blocks (Some at) (read_at block_links.next_of t.blocks at.0) b → Inserts block_place block_links t.blocks old b (Some at) (read_at block_links.next_of t.blocks at.0) bs e → Becomes t (after_blocks t bs e) (insert_block_after b at (listed t))
  block_inserted_after at stands fresh table chains =
      let law = sound_out h in
      becomes (inserted_behind t b at old bs e law.wired (block_missing t b fresh) (block_stands t at stands) eo table chains) (insert_block_after_rises b at (listed t) law.numbers)

  pub block_removed : inserted_block b (program_of t) ≡ true → slots_of b (program_of t) ≡ [] → bs ≡ removed_table block_place block_links t.blocks (read_at block_links.prev_of t.blocks b.0) (read_at block_links.next_of t.blocks b.0) b → Removes block_place block_links t.blocks old b (read_at block_links.prev_of t.blocks b.0) (read_at block_links.next_of t.blocks b.0) bs e → Becomes t (after_blocks t bs e) (remove_block b (listed t))
  block_removed stands empty table chains =
      let law = sound_out h in
      let a = block_at t b law.wired (block_stands t b stands) in
      becomes (removed t b old bs e law.wired a (sym (slots_at t b a) ∙ empty) eo table chains) (remove_block_rises b (listed t) law.numbers)

pub all_unlinked : (t : Tables) (n : BlockNode) (bs : List BlockNode) (is : List InstNode) → Sound t → n ≡ only_mark n.cold → bs ≡ replicate (length t.blocks) n → is ≡ replicate (length t.insts) no_inst → (Sound (record { blocks = bs; insts = is; ends = record { first = None; last = None } })) × (program_of (record { blocks = bs; insts = is; ends = record { first = None; last = None } }) ≡ record { lines = []; cold = replicate 256 n.cold })
all_unlinked t n bs is h bare eb ei =
    let law = (sound_out h).wired in
    let blocks : bs ≡ replicate 256 (only_mark n.cold) = eb ∙ ap (λ k. replicate k n) law.blocks_size ∙ ap (λ x. replicate 256 x) bare in
    let insts : is ≡ replicate 1024 no_inst = ei ∙ ap (λ k. replicate k no_inst) law.insts_size in
    emptied (record { blocks = bs; insts = is; ends = record { first = None; last = None } }) n.cold (ap (λ q. tables_of q is) blocks ∙ ap (λ q. tables_of (replicate 256 (only_mark n.cold)) q) insts)
  where
    tables_of : List BlockNode → List InstNode → Tables
    tables_of x y = record { blocks = x; insts = y; ends = record { first = None; last = None } }
