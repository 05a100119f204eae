-- The five rules of lawful tables, for tables of any content and any length. Assumes nothing.
use Rattle.std.specs.Prelude.{ℕ, List, [], ◌∷◌, length, slice_index_or, Some}
use Rattle.std.specs.List.{All}
use Rattle.chain.specs.Chain.{Chain, Misses}
use Rattle.chain.specs.Table.{Within}
use Rattle.chain.specs.declared.Ends.{Ends}
use Rattle.entities.specs.Nodes.{block_links, block_place, inst_place, no_block, no_inst}
use Rattle.entities.specs.Program.{Line, Slot, blocks_of, insts_of}
use Rattle.entities.specs.declared.Block.{Block}
use Rattle.entities.specs.declared.Inst.{Inst}
use Rattle.entities.specs.declared.nodes.BlockNode.{BlockNode}
use Rattle.entities.specs.declared.nodes.InstNode.{InstNode}
use Rattle.entities.specs.declared.nodes.Tables.{Tables}
use Rattle.listing.specs.Lawful.{BareBlock, BareInst, Filled, Rising, listed}

-- ---- in-table: every link, end, instruction and block name held leads into its table

-- both ends, where they are there
pub record EndsInside (bs : List BlockNode) (e : Ends Block) : Type 0 where
  pub first : Within block_place (length bs) e.first
  pub last : Within block_place (length bs) e.last

-- a node of a block, in tables of so many blocks and instructions
pub record BlockNodeInside (blocks insts : ℕ) (n : BlockNode) : Type 0 where
  pub prev : Within block_place blocks n.prev
  pub next : Within block_place blocks n.next
  pub first : Within inst_place insts n.first_inst
  pub last : Within inst_place insts n.last_inst

-- a node of an instruction, likewise
pub record InstNodeInside (blocks insts : ℕ) (n : InstNode) : Type 0 where
  pub block : Within block_place blocks n.block
  pub prev : Within inst_place insts n.prev
  pub next : Within inst_place insts n.next

-- the node of block b; past the table there is none, and nothing leads out
abbrev pub BlockInside : List BlockNode → List InstNode → Block → Type 0
BlockInside bs is b = BlockNodeInside (length bs) (length is) (slice_index_or bs b.0 no_block)

-- the node of instruction i, likewise
abbrev pub InstInside : List BlockNode → List InstNode → Inst → Type 0
InstInside bs is i = InstNodeInside (length bs) (length is) (slice_index_or is i.0 no_inst)

-- both ends and every node
pub record InTable (t : Tables) : Type 0 where
  pub ends : EndsInside t.blocks t.ends
  pub blocks : (b : Block) → BlockInside t.blocks t.insts b
  pub insts : (i : Inst) → InstInside t.blocks t.insts i

-- ---- block chain: the blocks that come by next links from the first are a chain between the two ends

-- the lines are read off by next links; their blocks are a chain
abbrev pub BlockChain : Tables → Type 0
BlockChain t = Chain block_place block_links t.blocks t.ends (blocks_of (listed t))

-- ---- instruction chains: each of these blocks has such a chain between its own ends, and each instruction of it names the block

-- each line is filled: a chain between its block's ends, which names the block
abbrev pub InstChains : Tables → Type 0
InstChains t = All (Filled t) (listed t)

-- ---- unmet nodes are bare: what is in none of these chains holds nothing

-- block b, if it is in none of them
abbrev pub UnmetBlockBare : Tables → Block → Type 0
UnmetBlockBare t b = Misses (Some b) (blocks_of (listed t)) → BareBlock t.blocks b

-- instruction i, likewise
abbrev pub UnmetInstBare : Tables → Inst → Type 0
UnmetInstBare t i = Misses (Some i) (insts_of (listed t)) → BareInst t.insts i

-- every node, met or not
pub record UnmetBare (t : Tables) : Type 0 where
  pub blocks : (b : Block) → UnmetBlockBare t b
  pub insts : (i : Inst) → UnmetInstBare t i

-- ---- rising numbers: they rise strictly along each block, from whatever its first one has

-- the first number may be any, and the others rise from it
abbrev pub SlotsRise : List Slot → Type 0
SlotsRise [] = Unit {0}
SlotsRise (s ∷ ss) = Rising s.seq ss

-- those of a line
abbrev pub Rises : Line → Type 0
Rises l = SlotsRise l.slots

-- those of every line
abbrev pub RisingNumbers : Tables → Type 0
RisingNumbers t = All Rises (listed t)

-- ---- all five

-- in the order in which they are asked
pub record AllRules (t : Tables) : Type 0 where
  pub in_table : InTable t
  pub block_chain : BlockChain t
  pub inst_chains : InstChains t
  pub unmet_bare : UnmetBare t
  pub rising_numbers : RisingNumbers t
