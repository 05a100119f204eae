-- A line of a dump, and its words. Assumes nothing.
use Rattle.std.specs.Prelude.{◌≡◌, ℕ, ◌<◌, ◌^◌, Bool, true, false, List, [], ◌∷◌, Option, Some, None, codes, decimal}
use Rattle.chain.specs.declared.Ends.{Ends}
use Rattle.entities.specs.declared.Block.{Block}
use Rattle.entities.specs.declared.Inst.{Inst}
use Rattle.entities.specs.declared.nodes.BlockNode.{BlockNode}
use Rattle.entities.specs.declared.nodes.InstNode.{InstNode}
use Rattle.faults.specs.declared.Entity.TheVariants.{Block as the_block, Inst as the_inst}
use Rattle.faults.specs.Text.{entity_text}
use Rattle.words.specs.Entities.{block_text, inst_text}
use Rattle.dump.specs.declared.lines.Line.{Line}
use Rattle.dump.specs.declared.lines.Line.TheVariants as line

-- ---- its words

-- what a cold block has at the end
abbrev pub mark_words : (cold : Bool) → List (List ℕ)
mark_words true = codes "cold" ∷ []
mark_words false = []

-- the first block and the last
abbrev pub ends_words : Ends Block → List (List ℕ)
ends_words e = block_text e.first ∷ block_text e.last ∷ []

-- the words of a block's node, behind its number
abbrev pub block_words : BlockNode → List (List ℕ)
block_words n = block_text n.prev ∷ block_text n.next ∷ inst_text n.first_inst ∷ inst_text n.last_inst ∷ mark_words n.cold

-- the words of an instruction's node, behind its number
abbrev pub inst_words : InstNode → List (List ℕ)
inst_words n = block_text n.block ∷ inst_text n.prev ∷ inst_text n.next ∷ decimal n.seq ∷ []

-- the words of a line: what it is of, and what that has
abbrev pub line_words : Line → List (List ℕ)
line_words (line.Ends e) = codes "ends" ∷ ends_words e
line_words (line.Block b n) = entity_text (the_block b) ∷ block_words n
line_words (line.Inst i n) = entity_text (the_inst i) ∷ inst_words n

-- ---- which can be written

-- a block that is there has a number of up to 32 bits
abbrev pub FitsBlock : Option Block → Type 0
FitsBlock None = Unit {0}
FitsBlock (Some b) = b.0 < 2 ^ 32

-- an instruction likewise
abbrev pub FitsInst : Option Inst → Type 0
FitsInst None = Unit {0}
FitsInst (Some i) = i.0 < 2 ^ 32

-- so have both ends
abbrev pub FitsEnds : Ends Block → Type 0
FitsEnds e = FitsBlock e.first × FitsBlock e.last

-- so has what a block's node names
abbrev pub FitsBlockNode : BlockNode → Type 0
FitsBlockNode n = FitsBlock n.prev × FitsBlock n.next × FitsInst n.first_inst × FitsInst n.last_inst

-- so has what an instruction's node names, and its sequence number
abbrev pub FitsInstNode : InstNode → Type 0
FitsInstNode n = FitsBlock n.block × FitsInst n.prev × FitsInst n.next × (n.seq < 2 ^ 32)

-- so have all numbers of a line
abbrev pub FitsLine : Line → Type 0
FitsLine (line.Ends e) = FitsEnds e
FitsLine (line.Block b n) = (b.0 < 2 ^ 32) × FitsBlockNode n
FitsLine (line.Inst i n) = (i.0 < 2 ^ 32) × FitsInstNode n

-- the words are those of the line
pub record Says (words : List (List ℕ)) (l : Line) : Type 0 where
  pub written : words ≡ line_words l
  pub fits : FitsLine l
