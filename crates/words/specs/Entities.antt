-- Which blocks and instructions a word can name, and the word for none. Assumes nothing.
use Rattle.std.specs.Prelude.{ℕ, ◌<◌, ◌^◌, List, Option, Some, None, codes}
use Rattle.entities.specs.declared.Block.{Block as BlockName}
use Rattle.entities.specs.declared.Inst.{Inst as InstName}
use Rattle.faults.specs.declared.Entity.{Entity}
use Rattle.faults.specs.declared.Entity.TheVariants.{Block, Inst}
use Rattle.faults.specs.Text.{entity_text}

-- its number has up to 32 bits
abbrev pub FitsEntity : Entity → Type 0
FitsEntity (Block b) = b.0 < 2 ^ 32
FitsEntity (Inst i) = i.0 < 2 ^ 32

-- a block, or that there is none
abbrev pub block_text : Option BlockName → List ℕ
block_text None = codes "none"
block_text (Some b) = entity_text (Block b)

-- an instruction, or that there is none
abbrev pub inst_text : Option InstName → List ℕ
inst_text None = codes "none"
inst_text (Some i) = entity_text (Inst i)
