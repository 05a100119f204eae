-- The tried cases: what the rules make of a program that holds one block or none. Assumes nothing.
use Rattle.std.specs.Prelude.{◌≡◌, ℕ, zero, suc, ◌+◌, false, List, [], ◌∷◌, map, replicate, Some, None}
use Rattle.entities.specs.declared.Block.{Block}
use Rattle.entities.specs.declared.Inst.{Inst}
use Rattle.entities.specs.declared.progpoint.ProgramPoint.TheVariants.{Inst as inst_point, Block as block_point}
use Rattle.std.specs.declared.cmp.Ordering.TheVariants.{Less}
use Rattle.entities.specs.Numbering.{last_number, midpoint}
use Rattle.entities.specs.Program.{Slot, Program, slot, no_program}
use Rattle.entities.specs.Reading.{slots_of}
use Rattle.faults.specs.declared.Entity.TheVariants.{Block as the_block}
use Rattle.faults.specs.declared.Layer.TheVariants.{Layout as by_layout, Cursor as by_cursor}
use Rattle.faults.specs.Refusals.{Refusal, accepted, refused}
use Rattle.faults.specs.Rules.{Ruled, append_inst_rule, insert_inst_rule, pp_cmp_rule}
use Rattle.cursor.specs.declared.CursorPosition.{CursorPosition}
use Rattle.cursor.specs.declared.CursorPosition.TheVariants.{Nowhere, At}
use Rattle.cursor_faults.specs.Moves.{Moved, next_block_rule, goto_first_inst_rule}
use Rattle.cursor_faults.specs.Edits.{replace_inst_rule}

-- the instruction, the block with this number
abbrev pub i : ℕ → Inst
i n = record { 0 = n }

abbrev pub b : ℕ → Block
b n = record { 0 = n }

-- the program that is block 0 with these slots
abbrev pub holding : List Slot → Program
holding ss = record { lines = record { block = b 0; slots = ss } ∷ []; cold = replicate 256 false }

-- n slots whose instructions and numbers are k, k + 1, k + 2 and so on
abbrev pub slots_from : (n k : ℕ) → List Slot
slots_from zero k = []
slots_from (suc n) k = slot (i k) k ∷ slots_from n (k + 1)

-- the numbers of block 0
abbrev pub numbers : Program → List ℕ
numbers p = map (λ s. s.seq) (slots_of (b 0) p)

-- the last of them
abbrev pub last_of_all : Program → ℕ
last_of_all p = last_number 0 (slots_of (b 0) p)

-- an edit that is accepted with this many writes, and the program afterwards
abbrev pub wrote : ℕ → Program → Ruled
wrote n p = record { answer = accepted n; after = p }

-- a lone 10, and four insertions at the head in turn
abbrev pub lone : Program
lone = holding (slot (i 0) 10 ∷ [])

abbrev pub one : Program
one = (insert_inst_rule (i 1) (i 0) lone).after

abbrev pub two : Program
two = (insert_inst_rule (i 2) (i 1) one).after

abbrev pub three : Program
three = (insert_inst_rule (i 3) (i 2) two).after

abbrev pub four : Ruled
four = insert_inst_rule (i 4) (i 3) three

-- a number at the ceiling, and one appended behind it
abbrev pub at_ceiling : Ruled
at_ceiling = append_inst_rule (i 1) (b 0) (holding (slot (i 0) 4294967093 ∷ []))

-- a goto of a cursor at `at` that is refused, and leaves it there
abbrev pub stays : Refusal → (at : CursorPosition) → Moved (Unit {0})
stays r at = record { answer = refused r; place = at }

pub record Tried : Type 0 where
  -- between 10 and 20 comes 15
  pub halfway : insert_inst_rule (i 2) (i 1) (holding (slot (i 0) 10 ∷ slot (i 1) 20 ∷ [])) ≡ wrote 1 (holding (slot (i 0) 10 ∷ slot (i 2) 15 ∷ slot (i 1) 20 ∷ []))
  -- between 10 and 11 there is no number, and a local renumbering begins
  pub no_room : midpoint 10 11 ≡ None
  pub begins_local : insert_inst_rule (i 2) (i 1) (holding (slot (i 0) 10 ∷ slot (i 1) 11 ∷ [])) ≡ wrote 2 (holding (slot (i 0) 10 ∷ slot (i 2) 12 ∷ slot (i 1) 14 ∷ []))
  -- four insertions at the head of a lone 10 end at 2, 4, 6, 8, 10, the fourth with 4 writes
  pub four_heads : numbers four.after ≡ 2 ∷ 4 ∷ 6 ∷ 8 ∷ 10 ∷ []
  pub fourth_writes : four.answer ≡ accepted 4
  -- at the head of 1 to 100: 101 writes, and the last number is 202
  pub hundred_writes : (insert_inst_rule (i 0) (i 1) (holding (slots_from 100 1))).answer ≡ accepted 101
  pub hundred_ends : last_of_all (insert_inst_rule (i 0) (i 1) (holding (slots_from 100 1))).after ≡ 202
  -- at the head of 1 to 101: 203 writes, and the last number is 1,020
  pub one_more_writes : (insert_inst_rule (i 0) (i 1) (holding (slots_from 101 1))).answer ≡ accepted 203
  pub one_more_ends : last_of_all (insert_inst_rule (i 0) (i 1) (holding (slots_from 101 1))).after ≡ 1020
  -- behind 4,294,967,093 comes 4,294,967,103
  pub up_to_ceiling : at_ceiling ≡ wrote 1 (holding (slot (i 0) 4294967093 ∷ slot (i 1) 4294967103 ∷ []))
  -- and behind that the whole block is numbered anew
  pub above_ceiling : append_inst_rule (i 2) (b 0) at_ceiling.after ≡ wrote 3 (holding (slot (i 0) 10 ∷ slot (i 1) 20 ∷ slot (i 2) 30 ∷ []))
  -- a block point against its first instruction is Less
  pub block_first : pp_cmp_rule (block_point (b 0)) (inst_point (i 0)) lone ≡ accepted Less
  -- where there is no block, a block step from Nowhere answers none and leads to Nowhere
  pub no_block : next_block_rule Nowhere no_program ≡ record { answer = accepted None; place = Nowhere }
  -- a block without instructions has no first one to go to: the cursor refuses
  pub no_first_inst : (at : CursorPosition) → goto_first_inst_rule (b 0) at (holding []) ≡ stays (record { number = 8; layer = by_cursor; entity = Some (the_block (b 0)) }) at
  -- a block that is not inserted is not gone to: the layout refuses
  pub not_inserted : (at : CursorPosition) → goto_first_inst_rule (b 1) at (holding []) ≡ stays (record { number = 5; layer = by_layout; entity = Some (the_block (b 1)) }) at
  -- an instruction is replaced by itself: it is put in anew, with one write
  pub by_itself : replace_inst_rule (i 1) (At (i 1)) (holding (slot (i 0) 10 ∷ slot (i 1) 12 ∷ slot (i 2) 20 ∷ [])) ≡ record { answer = accepted (Some (i 1), 1); after = holding (slot (i 0) 10 ∷ slot (i 1) 15 ∷ slot (i 2) 20 ∷ []); place = At (i 2) }
