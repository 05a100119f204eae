-- What each call answers, and what becomes of the program. Assumes nothing.
use Rattle.std.specs.Prelude.{◌≡◌, ℕ, Some, None, Option, Result}
use Rattle.entities.specs.declared.Block.{Block}
use Rattle.entities.specs.declared.Inst.{Inst}
use Rattle.entities.specs.declared.progpoint.ProgramPoint.{ProgramPoint}
use Rattle.std.specs.declared.cmp.Ordering.{Ordering}
use Rattle.std.specs.Ordering.{nat_cmp}
use Rattle.faults.specs.declared.LayoutFault.{LayoutFault}
use Rattle.entities.specs.Program.{Program, append_block, insert_block, insert_block_after, remove_block, split_block, remove_inst, mark_cold, with_lines}
use Rattle.entities.specs.Reading.{slots_of, slots_with, point_block, point_seq}
use Rattle.faults.specs.Refusals.{Refusal, Told, accepted, refused, told}
use Rattle.faults.specs.Questions.{first_no, append_block_asked, insert_block_asked, insert_block_after_asked, remove_block_asked, remove_block_and_insts_asked, split_block_asked, append_inst_asked, insert_inst_asked, remove_inst_asked, set_cold_asked, pp_block_asked, pp_cmp_asked}
use Rattle.entities.specs.Numbering.{numbered_last, numbered_before, appended_inst, inserted_before}

-- what a question answers, once it has passed its own questions
abbrev pub answered : {A : Type 0} → Option Refusal → A → Told A
answered None a = accepted a
answered (Some r) a = refused r

-- what an edit answers, how many numbers it wrote, and the program afterwards
pub record Ruled : Type 0 where
  pub answer : Told ℕ
  pub after : Program

-- asked first: a refusal leaves the program
abbrev pub ruled : Option Refusal → (writes : ℕ) (new old : Program) → Ruled
ruled None writes new old = record { answer = accepted writes; after = new }
ruled (Some r) writes new old = record { answer = refused r; after = old }

-- an edit that answered r and left the program `after` went by the rule
pub record Follows (rule : Ruled) (r : Result ℕ LayoutFault) (after : Program) : Type 0 where
  pub answer : told r ≡ rule.answer
  pub program : after ≡ rule.after

-- ---- the edits

abbrev pub append_block_rule : Block → Program → Ruled
append_block_rule b p = ruled (first_no (append_block_asked b p)) 0 (with_lines p (append_block b p.lines)) p

abbrev pub insert_block_rule : Block → (before : Block) → Program → Ruled
insert_block_rule b before p =
    ruled (first_no (insert_block_asked b before p)) 0 (with_lines p (insert_block b before p.lines)) p

abbrev pub insert_block_after_rule : Block → (after : Block) → Program → Ruled
insert_block_after_rule b after p =
    ruled (first_no (insert_block_after_asked b after p)) 0 (with_lines p (insert_block_after b after p.lines)) p

abbrev pub remove_block_rule : Block → Program → Ruled
remove_block_rule b p = ruled (first_no (remove_block_asked b p)) 0 (with_lines p (remove_block b p.lines)) p

abbrev pub remove_block_and_insts_rule : Block → Program → Ruled
remove_block_and_insts_rule b p = ruled (first_no (remove_block_and_insts_asked b p)) 0 (with_lines p (remove_block b p.lines)) p

abbrev pub split_block_rule : Block → (before : Inst) → Program → Ruled
split_block_rule b before p = ruled (first_no (split_block_asked b before p)) 0 (with_lines p (split_block b before p.lines)) p

abbrev pub append_inst_rule : Inst → Block → Program → Ruled
append_inst_rule i b p =
    ruled (first_no (append_inst_asked i b p)) (numbered_last (slots_of b p) i).writes (appended_inst i b p) p

abbrev pub insert_inst_rule : Inst → (before : Inst) → Program → Ruled
insert_inst_rule i before p =
    ruled (first_no (insert_inst_asked i before p)) (numbered_before i before (slots_with before p)).writes (inserted_before i before p) p

abbrev pub remove_inst_rule : Inst → Program → Ruled
remove_inst_rule i p = ruled (first_no (remove_inst_asked i p)) 0 (with_lines p (remove_inst i p.lines)) p

abbrev pub set_cold_rule : Block → Program → Ruled
set_cold_rule b p = ruled (first_no (set_cold_asked b)) 0 (mark_cold b p) p

-- ---- questions that can be refused

abbrev pub pp_block_rule : ProgramPoint → Program → Told (Option Block)
pp_block_rule a p = answered (first_no (pp_block_asked a p)) (point_block a p)

abbrev pub pp_cmp_rule : ProgramPoint → ProgramPoint → Program → Told Ordering
pp_cmp_rule a b p = answered (first_no (pp_cmp_asked a b p)) (nat_cmp (point_seq a p) (point_seq b p))
