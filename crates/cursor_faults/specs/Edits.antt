-- What a cursor edit answers, and what becomes of the program and of the position. Assumes nothing.
use Rattle.std.specs.Prelude.{◌≡◌, ℕ, Some, None, Ok, Err, Option, Result}
use Rattle.entities.specs.declared.Block.{Block}
use Rattle.entities.specs.declared.Inst.{Inst}
use Rattle.entities.specs.Program.{Program, append_block, insert_block, insert_block_after, split_block, remove_inst, with_lines}
use Rattle.entities.specs.Reading.{slots_of, slots_with}
use Rattle.entities.specs.Numbering.{numbered_last, numbered_before, appended_inst, inserted_before}
use Rattle.faults.specs.Refusals.{Refusal, Told, accepted, refused}
use Rattle.faults.specs.Questions.{first_no}
use Rattle.cursor.specs.declared.CursorPosition.{CursorPosition}
use Rattle.cursor.specs.declared.CursorPosition.TheVariants.{Nowhere, At, Before, After}
use Rattle.cursor.specs.Positions.{current_inst}
use Rattle.cursor_faults.specs.declared.CursorFault.{CursorFault}
use Rattle.cursor_faults.specs.Refusals.{cursor_refusal_of}
use Rattle.cursor_faults.specs.Questions.{put_inst_asked, take_inst_asked, replace_inst_asked, put_block_asked}
use Rattle.cursor_faults.specs.Moves.{or_this, next_inst_position, prev_inst_position}

-- what a cursor edit answers, the program afterwards, and where the cursor then is
pub record Worked (A : Type 0) : Type 0 where
  pub answer : Told A
  pub after : Program
  pub place : CursorPosition

-- asked first: a refusal leaves program and cursor
abbrev pub worked : {A : Type 0} → Option Refusal → A → (new : Program) → (to : CursorPosition) → (old : Program) → (at : CursorPosition) → Worked A
worked None a new to old at = record { answer = accepted a; after = new; place = to }
worked (Some r) a new to old at = record { answer = refused r; after = old; place = at }

-- an edit that answered r and left the program `after` and the cursor at `to` went by the rule
pub record Works {A : Type 0} (rule : Worked A) (r : Told A) (after : Program) (to : CursorPosition) : Type 0 where
  pub answer : r ≡ rule.answer
  pub program : after ≡ rule.after
  pub place : to ≡ rule.place

-- what a removal tells: the instruction taken out, and how many numbers were written
abbrev pub told_taken : Result (Inst × ℕ) CursorFault → Told (Option Inst × ℕ)
told_taken (Ok r) = accepted (Some r.0, r.1)
told_taken (Err f) = refused (cursor_refusal_of f)

-- ---- what is done at a position that allows it; where it does not, nothing

-- an instruction put in ahead of At, or at the end for After
abbrev pub inst_put : Inst → CursorPosition → Program → Program
inst_put i Nowhere p = p
inst_put i (At k) p = inserted_before i k p
inst_put i (Before b) p = p
inst_put i (After b) p = appended_inst i b p

-- how many numbers that writes
abbrev pub inst_put_writes : Inst → CursorPosition → Program → ℕ
inst_put_writes i Nowhere p = 0
inst_put_writes i (At k) p = (numbered_before i k (slots_with k p)).writes
inst_put_writes i (Before b) p = 0
inst_put_writes i (After b) p = (numbered_last (slots_of b p) i).writes

-- the instruction taken out
abbrev pub inst_taken : CursorPosition → Program → Program
inst_taken Nowhere p = p
inst_taken (At k) p = with_lines p (remove_inst k p.lines)
inst_taken (Before b) p = p
inst_taken (After b) p = p

-- At an instruction the block is cut there; Nowhere appends, Before and After insert on that side
abbrev pub block_put : Block → CursorPosition → Program → Program
block_put b Nowhere p = with_lines p (append_block b p.lines)
block_put b (At k) p = with_lines p (split_block b k p.lines)
block_put b (Before c) p = with_lines p (insert_block b c p.lines)
block_put b (After c) p = with_lines p (insert_block_after b c p.lines)

-- at the cut it stays, from everywhere else it goes after the new block
abbrev pub block_put_place : Block → CursorPosition → CursorPosition
block_put_place b Nowhere = After b
block_put_place b (At k) = At k
block_put_place b (Before c) = After b
block_put_place b (After c) = After b

-- ---- the edits

abbrev pub insert_inst_rule : Inst → CursorPosition → Program → Worked ℕ
insert_inst_rule i at p = worked (first_no (put_inst_asked i at p)) (inst_put_writes i at p) (inst_put i at p) at p at

-- the cursor steps to `to`, and the instruction is taken out; no number is written
abbrev pub take_inst_rule : (to : Option CursorPosition) → CursorPosition → Program → Worked (Option Inst × ℕ)
take_inst_rule to at p = worked (first_no (take_inst_asked at p)) (current_inst at, 0) (inst_taken at p) (or_this to at) p at

abbrev pub remove_inst_rule : CursorPosition → Program → Worked (Option Inst × ℕ)
remove_inst_rule at p = take_inst_rule (next_inst_position at p) at p

abbrev pub remove_inst_and_step_back_rule : CursorPosition → Program → Worked (Option Inst × ℕ)
remove_inst_and_step_back_rule at p = take_inst_rule (prev_inst_position at p) at p

-- where the removal of the instruction leads
abbrev pub place_after_removal : CursorPosition → Program → CursorPosition
place_after_removal at p = or_this (next_inst_position at p) at

-- the instruction taken out, and then i put in where that led; the cursor stays there
abbrev pub replace_inst_rule : Inst → CursorPosition → Program → Worked (Option Inst × ℕ)
replace_inst_rule i at p =
    worked (first_no (replace_inst_asked i at p))
    (current_inst at, inst_put_writes i (place_after_removal at p) (inst_taken at p))
    (inst_put i (place_after_removal at p) (inst_taken at p))
    (place_after_removal at p) p at

abbrev pub insert_block_rule : Block → CursorPosition → Program → Worked ℕ
insert_block_rule b at p = worked (first_no (put_block_asked b at p)) 0 (block_put b at p) (block_put_place b at) p at
