-- When two node tables stand for a list of lines. Assumes nothing.
use Rattle.std.specs.Prelude.{◌≡◌, ℕ, ◌^◌, ◌<◌, List, [], ◌∷◌, map, length, Some, None, Option}
use Rattle.chain.specs.Table.{read_at}
use Rattle.chain.specs.Chain.{Chain, Misses, keys_from}
use Rattle.entities.specs.declared.Block.{Block}
use Rattle.entities.specs.declared.Inst.{Inst}
use Rattle.entities.specs.declared.nodes.BlockNode.{BlockNode}
use Rattle.entities.specs.declared.nodes.InstNode.{InstNode}
use Rattle.entities.specs.declared.nodes.Tables.{Tables}
use Rattle.entities.specs.Nodes.{block_place, inst_place, block_links, inst_links, first_of, last_of, block_named, number_of, ends_of, marks}
use Rattle.entities.specs.Program.{Slot, Line, Program, slot, insts_in, blocks_of, insts_of}

-- ---- the list, read off the tables by next links

abbrev pub or_zero : Option ℕ → ℕ
or_zero None = 0
or_zero (Some n) = n

abbrev pub slot_of : List InstNode → Inst → Slot
slot_of t i = slot i (or_zero (read_at number_of t i.0))

abbrev pub line_of : Tables → Block → Line
line_of t b = record { block = b; slots = map (slot_of t.insts) (keys_from inst_place inst_links t.insts (ends_of t.blocks b).first) }

unfoldable pub listed : Tables → List Line
listed t = map (line_of t) (keys_from block_place block_links t.blocks t.ends.first)

-- the program that the tables hold
abbrev pub program_of : Tables → Program
program_of t = record { lines = listed t; cold = marks t.blocks }

-- ---- when that list says all that is in the tables

-- each slot's node names the block and holds the slot's number
abbrev pub Held : List InstNode → Block → List Slot → Type 0
Held t b [] = Unit {0}
Held t b (s ∷ ss) = (read_at block_named t s.inst.0 ≡ Some b) × (read_at number_of t s.inst.0 ≡ Some s.seq) × Held t b ss

-- a line's instructions are a chain between its block's ends
pub record Filled (t : Tables) (l : Line) : Type 0 where
  pub chain : Chain inst_place inst_links t.insts (ends_of t.blocks l.block) (insts_in l.slots)
  pub held : Held t.insts l.block l.slots

abbrev pub AllFilled : Tables → List Line → Type 0
AllFilled t [] = Unit {0}
AllFilled t (l ∷ ls) = Filled t l × AllFilled t ls

-- a node that the list does not name holds no link, no instruction and no block name
pub record BareBlock (t : List BlockNode) (b : Block) : Type 0 where
  pub prev : read_at block_links.prev_of t b.0 ≡ None
  pub next : read_at block_links.next_of t b.0 ≡ None
  pub first : read_at first_of t b.0 ≡ None
  pub last : read_at last_of t b.0 ≡ None

pub record BareInst (t : List InstNode) (i : Inst) : Type 0 where
  pub block : read_at block_named t i.0 ≡ None
  pub prev : read_at inst_links.prev_of t i.0 ≡ None
  pub next : read_at inst_links.next_of t i.0 ≡ None

pub record Represents (t : Tables) (ls : List Line) : Type 0 where
  pub blocks : Chain block_place block_links t.blocks t.ends (blocks_of ls)
  pub lines : AllFilled t ls
  pub bare_blocks : (b : Block) → Misses (Some b) (blocks_of ls) → BareBlock t.blocks b
  pub bare_insts : (i : Inst) → Misses (Some i) (insts_of ls) → BareInst t.insts i

-- ---- the numbers of a block: a fact of the list alone

-- the numbers rise strictly, the first above n
abbrev pub Rising : ℕ → List Slot → Type 0
Rising n [] = Unit {0}
Rising n (s ∷ ss) = (n < s.seq) × Rising s.seq ss

-- each number fits 32 bits
abbrev pub Fitting : List Slot → Type 0
Fitting [] = Unit {0}
Fitting (s ∷ ss) = (s.seq < 2 ^ 32) × Fitting ss

-- they rise from above 0, the number of the block itself, and fit
pub record WellNumbered (ss : List Slot) : Type 0 where
  pub rising : Rising 0 ss
  pub fit : Fitting ss

-- those of every line
abbrev pub AllWellNumbered : List Line → Type 0
AllWellNumbered [] = Unit {0}
AllWellNumbered (l ∷ ls) = WellNumbered l.slots × AllWellNumbered ls

-- ---- what a layout keeps

-- tables of a layout's size that stand for their list, whatever its numbers
pub record Wired (t : Tables) : Type 0 where
  pub blocks_size : length t.blocks ≡ 256
  pub insts_size : length t.insts ≡ 1024
  pub sound : Represents t (listed t)

pub record Lawful (t : Tables) : Type 0 where
  pub wired : Wired t
  pub numbers : AllWellNumbered (listed t)

-- Lawful, with its proof forgotten: a type's invariant may have one proof at most
abbrev pub Sound : Tables → Type 0
Sound t = ∥ Lawful t ∥₁
