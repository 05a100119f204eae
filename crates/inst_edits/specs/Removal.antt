-- An instruction half removed. Assumes nothing.
use Rattle.std.specs.Prelude.{◌≡◌, Some}
use Rattle.chain.specs.Chain.{Removes}
use Rattle.chain.specs.Table.{read_at, removed_table}
use Rattle.chain.specs.declared.Ends.{Ends}
use Rattle.entities.specs.declared.Block.{Block}
use Rattle.entities.specs.declared.Inst.{Inst}
use Rattle.entities.specs.declared.nodes.Tables.{Tables}
use Rattle.entities.specs.Nodes.{ends_of, inst_links, inst_place}
use Rattle.entities.specs.Reading.{inst_block}
use Rattle.listing.specs.Edits.{with_insts}
use Rattle.listing.specs.Lawful.{Sound, program_of}

-- i was taken out of the chain of its block b in the sound tables t, which made u: the chain had the ends `old` and now has the ends e
pub record LeftOut (t u : Tables) (i : Inst) (b : Block) (e : Ends Inst) : Type 0 where
  pub old : Ends Inst
  pub sound : Sound t
  pub stands : inst_block i (program_of t) ≡ Some b
  pub ends : old ≡ ends_of t.blocks b
  pub rest : u ≡ with_insts t u.insts
  pub table : u.insts ≡ removed_table inst_place inst_links t.insts (read_at inst_links.prev_of t.insts i.0) (read_at inst_links.next_of t.insts i.0) i
  pub chain : Removes inst_place inst_links t.insts old i (read_at inst_links.prev_of t.insts i.0) (read_at inst_links.next_of t.insts i.0) u.insts e
