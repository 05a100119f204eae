-- The list that a layout stands for: blocks in order, each with its instructions in order and their numbers, and the cold marks.
-- Assumes nothing.
use Rattle.std.specs.Prelude.{ℕ, Bool, true, false, List, [], ◌∷◌, ◌++◌, map, replicate, ◌==◌, slice_set}
use Rattle.entities.specs.declared.Block.{Block}
use Rattle.entities.specs.declared.Inst.{Inst}
use Rattle.entities.specs.Nodes.{inst_place}
use Rattle.entities.specs.Lists.{holds, ahead_of, from_on}

-- a place in a block: an instruction with its sequence number
pub record Slot : Type 0 where
  pub inst : Inst
  pub seq : ℕ

-- an inserted block with its slots, in order
pub record Line : Type 0 where
  pub block : Block
  pub slots : List Slot

-- the lines in order, and a cold mark for each of the 256 blocks
pub record Program : Type 0 where
  pub lines : List Line
  pub cold : List Bool

abbrev pub no_program : Program
no_program = record { lines = []; cold = replicate 256 false }

abbrev pub slot : Inst → ℕ → Slot
slot i n = record { inst = i; seq = n }

abbrev pub insts_in : List Slot → List Inst
insts_in ss = map (λ s. s.inst) ss

abbrev pub blocks_of : List Line → List Block
blocks_of ls = map (λ l. l.block) ls

abbrev pub insts_of : List Line → List Inst
insts_of [] = []
insts_of (l ∷ ls) = insts_in l.slots ++ insts_of ls

abbrev pub empty_line : Block → Line
empty_line b = record { block = b; slots = [] }

abbrev pub with_slots : Line → List Slot → Line
with_slots l ss = record { block = l.block; slots = ss }

abbrev pub with_lines : Program → List Line → Program
with_lines p ls = record { lines = ls; cold = p.cold }

-- ---- in place of each that passes the test, what f makes of it

abbrev pub chosen : {A : Type 0} → Bool → List A → A → List A → List A
chosen true new a rest = new ++ rest
chosen false new a rest = a ∷ rest

abbrev pub instead_where : {A : Type 0} → (A → Bool) → (A → List A) → List A → List A
instead_where test f [] = []
instead_where test f (a ∷ rest) = chosen (test a) (f a) a (instead_where test f rest)

-- is it the line of block b?
abbrev pub is_block : Block → Line → Bool
is_block b l = l.block.0 == b.0

-- does i stand in the line?
abbrev pub has_inst : Inst → Line → Bool
has_inst i l = holds inst_place i (insts_in l.slots)

-- is it the slot of i?
abbrev pub is_inst : Inst → Slot → Bool
is_inst i s = s.inst.0 == i.0

-- ---- the edits

-- an empty block at the end
abbrev pub append_block : Block → List Line → List Line
append_block b ls = ls ++ (empty_line b ∷ [])

-- the slots of block b become what f makes of them
abbrev pub in_block : Block → (List Slot → List Slot) → List Line → List Line
in_block b f ls = instead_where (is_block b) (λ l. with_slots l (f l.slots) ∷ []) ls

abbrev pub mark_cold : Block → Program → Program
mark_cold b p = record { lines = p.lines; cold = slice_set p.cold b.0 true }

-- ---- more edits of blocks

-- an empty block directly ahead of another
abbrev pub insert_block : Block → (before : Block) → List Line → List Line
insert_block b before ls = instead_where (is_block before) (λ l. empty_line b ∷ l ∷ []) ls

-- an empty block directly behind another
abbrev pub insert_block_after : Block → (after : Block) → List Line → List Line
insert_block_after b after ls = instead_where (is_block after) (λ l. l ∷ empty_line b ∷ []) ls

-- a block taken out, with its instructions where it has any
abbrev pub remove_block : Block → List Line → List Line
remove_block b ls = instead_where (is_block b) (λ l. []) ls

-- block b put directly behind the block in which i stands; i and all that follow it move into b with their numbers
abbrev pub split_block : Block → (before : Inst) → List Line → List Line
split_block b i ls =
    instead_where (has_inst i) (λ l. with_slots l (ahead_of (is_inst i) l.slots) ∷ record { block = b; slots = from_on (is_inst i) l.slots } ∷ []) ls

-- ---- more edits of instructions

-- the slots of the block in which i stands become what f makes of them
abbrev pub in_block_of : Inst → (List Slot → List Slot) → List Line → List Line
in_block_of i f ls = instead_where (has_inst i) (λ l. with_slots l (f l.slots) ∷ []) ls

-- an instruction taken out; the numbers of the others stay
abbrev pub remove_inst : Inst → List Line → List Line
remove_inst i ls = in_block_of i (instead_where (is_inst i) (λ s. [])) ls
