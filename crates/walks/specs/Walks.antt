-- What a walk still has to give, and one step of it. Assumes nothing.
use Rattle.std.specs.Prelude.{◌≡◌, Bool, List, [], ◌∷◌, ◌++◌, Some, None, Option}
use Rattle.chain.specs.declared.Ends.{Ends}
use Rattle.entities.specs.declared.Block.{Block}
use Rattle.entities.specs.declared.Inst.{Inst}
use Rattle.entities.specs.Nodes.{block_place, inst_place}
use Rattle.entities.specs.Lists.{from_key, stretch, walks_on, spans}
use Rattle.entities.specs.Program.{blocks_of}
use Rattle.entities.specs.Reading.{block_insts}
use Rattle.listing.specs.Held.{program}
use Rattle.listing.specs.declared.Listing.{Listing}

-- the blocks from `next` on
abbrev pub blocks_left : Listing → Option Block → List Block
blocks_left l next = from_key block_place next (blocks_of (program l).lines)

-- `next` is one of the blocks, or there is none
abbrev pub on_blocks : Listing → Option Block → Bool
on_blocks l next = walks_on block_place next (blocks_of (program l).lines)

-- the instructions of a block from one end of `left` to the other
abbrev pub insts_left : Listing → Block → Ends Inst → List Inst
insts_left l b left = stretch inst_place left.first left.last (block_insts b (program l))

-- `left` are the ends of such a part of the block's instructions, or neither is there
abbrev pub on_insts : Listing → Block → Ends Inst → Bool
on_insts l b left = spans inst_place left.first left.last (block_insts b (program l))

-- a step from the front: it gives the first of what is left, and none once nothing is
abbrev pub GivesFirst : {K : Type 0} → Option K → (before after : List K) → Type 0
GivesFirst None before after = (before ≡ []) × (after ≡ [])
GivesFirst (Some k) before after = before ≡ k ∷ after

-- a step from the back
abbrev pub GivesLast : {K : Type 0} → Option K → (before after : List K) → Type 0
GivesLast None before after = (before ≡ []) × (after ≡ [])
GivesLast (Some k) before after = before ≡ after ++ (k ∷ [])
