-- Where gotos, steps and position questions lead, and what they answer. None of them changes the program. Assumes nothing.
use Rattle.std.specs.Prelude.{◌≡◌, Some, None, Ok, Err, Option, Result}
use Rattle.entities.specs.declared.Block.{Block}
use Rattle.entities.specs.declared.Inst.{Inst}
use Rattle.entities.specs.Program.{Program}
use Rattle.entities.specs.Reading.{entry_block, last_block, next_block, prev_block, first_inst, last_inst, next_inst, prev_inst, inst_block}
use Rattle.faults.specs.Refusals.{Refusal, Told, accepted, refused}
use Rattle.faults.specs.Questions.{first_no}
use Rattle.faults.specs.Rules.{answered}
use Rattle.cursor.specs.declared.CursorPosition.{CursorPosition}
use Rattle.cursor.specs.declared.CursorPosition.TheVariants.{Nowhere, At, Before, After}
use Rattle.cursor.specs.Positions.{current_inst, current_block}
use Rattle.cursor_faults.specs.declared.CursorFault.{CursorFault}
use Rattle.cursor_faults.specs.Refusals.{cursor_told, cursor_refusal_of}
use Rattle.cursor_faults.specs.Questions.{goto_inst_asked, goto_block_asked, goto_end_asked, standing_asked}

-- what a call answers, and where the cursor then is
pub record Moved (A : Type 0) : Type 0 where
  pub answer : Told A
  pub place : CursorPosition

-- asked first: a refusal leaves the cursor
abbrev pub moved : {A : Type 0} → Option Refusal → A → (new old : CursorPosition) → Moved A
moved None a new old = record { answer = accepted a; place = new }
moved (Some r) a new old = record { answer = refused r; place = old }

-- a call that answered r and left the cursor at `to` went by the rule
pub record Goes {A : Type 0} (rule : Moved A) (r : Result A CursorFault) (to : CursorPosition) : Type 0 where
  pub answer : cursor_told r ≡ rule.answer
  pub place : to ≡ rule.place

-- the cursor `given` went by the rule and came back, or it came back itself beside the refusal; `pos` is what a cursor means
abbrev pub ComesBack : {C : Type 0} → (C → CursorPosition) → (given : C) → Moved (Unit {0}) → Result C (C × CursorFault) → Type 0
ComesBack pos given rule (Ok c) = (rule.answer ≡ accepted tt) × (pos c ≡ rule.place)
ComesBack pos given rule (Err e) = (rule.answer ≡ refused (cursor_refusal_of e.1)) × (e.0 ≡ given)

-- ---- positions beside something, where it is there

abbrev pub at_inst : Option Inst → Option CursorPosition
at_inst None = None
at_inst (Some i) = Some (At i)

abbrev pub before_block : Option Block → Option CursorPosition
before_block None = None
before_block (Some b) = Some (Before b)

abbrev pub after_block : Option Block → Option CursorPosition
after_block None = None
after_block (Some b) = Some (After b)

-- the first, or else the second
abbrev pub or_else : {A : Type 0} → Option A → Option A → Option A
or_else None o = o
or_else (Some a) o = Some a

abbrev pub or_nowhere : Option CursorPosition → CursorPosition
or_nowhere None = Nowhere
or_nowhere (Some at) = at

-- ---- where an instruction step leads; none where there is no position to go to

abbrev pub next_inst_position : CursorPosition → Program → Option CursorPosition
next_inst_position Nowhere p = None
next_inst_position (At i) p = or_else (at_inst (next_inst i p)) (after_block (inst_block i p))
next_inst_position (Before b) p = or_else (at_inst (first_inst b p)) (Some (After b))
next_inst_position (After b) p = None

abbrev pub prev_inst_position : CursorPosition → Program → Option CursorPosition
prev_inst_position Nowhere p = None
prev_inst_position (At i) p = or_else (at_inst (prev_inst i p)) (before_block (inst_block i p))
prev_inst_position (Before b) p = None
prev_inst_position (After b) p = or_else (at_inst (last_inst b p)) (Some (Before b))

-- ---- where a block step leads

-- the block behind; from nowhere the first
abbrev pub block_behind : Option Block → Program → Option Block
block_behind None p = entry_block p
block_behind (Some b) p = next_block b p

-- the block ahead; from nowhere the last
abbrev pub block_ahead : Option Block → Program → Option Block
block_ahead None p = last_block p
block_ahead (Some b) p = prev_block b p

abbrev pub next_block_position : CursorPosition → Program → CursorPosition
next_block_position at p = or_nowhere (before_block (block_behind (current_block at p) p))

abbrev pub prev_block_position : CursorPosition → Program → CursorPosition
prev_block_position at p = or_nowhere (after_block (block_ahead (current_block at p) p))

-- ---- the instruction's position, or else the block's

abbrev pub or_this : Option CursorPosition → CursorPosition → CursorPosition
or_this None at = at
or_this (Some to) at = to

abbrev pub next_position : CursorPosition → Program → CursorPosition
next_position at p = or_this (next_inst_position at p) (next_block_position at p)

abbrev pub prev_position : CursorPosition → Program → CursorPosition
prev_position at p = or_this (prev_inst_position at p) (prev_block_position at p)

-- ---- position questions

-- the call whose answer is what `leads` says
abbrev pub asked_position : {A : Type 0} → (leads : CursorPosition → Program → A) → CursorPosition → Program → Told A
asked_position leads at p = answered (first_no (standing_asked at p)) (leads at p)

-- ---- steps

-- an instruction step that leads to `to`: it answers the instruction then current, and with no position to go to the cursor stays
abbrev pub inst_step_rule : (to : Option CursorPosition) → CursorPosition → Program → Moved (Option Inst)
inst_step_rule None at p = moved (first_no (standing_asked at p)) None at at
inst_step_rule (Some to) at p = moved (first_no (standing_asked at p)) (current_inst to) to at

abbrev pub next_inst_rule : CursorPosition → Program → Moved (Option Inst)
next_inst_rule at p = inst_step_rule (next_inst_position at p) at p

abbrev pub prev_inst_rule : CursorPosition → Program → Moved (Option Inst)
prev_inst_rule at p = inst_step_rule (prev_inst_position at p) at p

-- a block step that leads to `to`: it answers the block then current
abbrev pub block_step_rule : (to : CursorPosition) → CursorPosition → Program → Moved (Option Block)
block_step_rule to at p = moved (first_no (standing_asked at p)) (current_block to p) to at

abbrev pub next_block_rule : CursorPosition → Program → Moved (Option Block)
next_block_rule at p = block_step_rule (next_block_position at p) at p

abbrev pub prev_block_rule : CursorPosition → Program → Moved (Option Block)
prev_block_rule at p = block_step_rule (prev_block_position at p) at p

-- ---- gotos

abbrev pub goto_inst_rule : Inst → CursorPosition → Program → Moved (Unit {0})
goto_inst_rule i at p = moved (first_no (goto_inst_asked i p)) tt (At i) at

abbrev pub goto_after_inst_rule : Inst → CursorPosition → Program → Moved (Unit {0})
goto_after_inst_rule i at p = moved (first_no (goto_inst_asked i p)) tt (or_nowhere (next_inst_position (At i) p)) at

abbrev pub goto_first_inst_rule : Block → CursorPosition → Program → Moved (Unit {0})
goto_first_inst_rule b at p = moved (first_no (goto_end_asked b p)) tt (or_nowhere (at_inst (first_inst b p))) at

abbrev pub goto_last_inst_rule : Block → CursorPosition → Program → Moved (Unit {0})
goto_last_inst_rule b at p = moved (first_no (goto_end_asked b p)) tt (or_nowhere (at_inst (last_inst b p))) at

-- at the first instruction, or else after the block
abbrev pub goto_first_insertion_point_rule : Block → CursorPosition → Program → Moved (Unit {0})
goto_first_insertion_point_rule b at p = moved (first_no (goto_block_asked b p)) tt (or_this (at_inst (first_inst b p)) (After b)) at

abbrev pub goto_top_rule : Block → CursorPosition → Program → Moved (Unit {0})
goto_top_rule b at p = moved (first_no (goto_block_asked b p)) tt (Before b) at

abbrev pub goto_bottom_rule : Block → CursorPosition → Program → Moved (Unit {0})
goto_bottom_rule b at p = moved (first_no (goto_block_asked b p)) tt (After b) at
