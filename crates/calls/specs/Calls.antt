-- The rule of each call. Assumes nothing.
use Rattle.std.specs.Prelude.{◌≡◌, ℕ, Some, Option}
use Rattle.entities.specs.declared.Inst.{Inst}
use Rattle.entities.specs.Program.{Program, no_program}
use Rattle.faults.specs.Refusals.{Told, accepted}
use Rattle.faults.specs.Rules.{Ruled, append_block_rule, insert_block_rule, insert_block_after_rule, remove_block_rule, remove_block_and_insts_rule, split_block_rule, append_inst_rule, insert_inst_rule, remove_inst_rule, set_cold_rule}
use Rattle.cursor.specs.declared.CursorPosition.{CursorPosition}
use Rattle.cursor_faults.specs.Moves.{Moved, asked_position, next_inst_position, prev_inst_position, next_block_position, prev_block_position, next_position, prev_position, next_inst_rule, prev_inst_rule, next_block_rule, prev_block_rule, goto_inst_rule, goto_after_inst_rule, goto_first_inst_rule, goto_last_inst_rule, goto_first_insertion_point_rule, goto_top_rule, goto_bottom_rule}
use Rattle.cursor_faults.specs.Edits as at_cursor
use Rattle.cursor_faults.specs.Edits.{Worked}
use Rattle.calls.specs.Replies.{Reply, wrote, took, reached_inst, reached_block, position, done, as_reply}
use Rattle.calls.specs.declared.Edit.{Edit}
use Rattle.calls.specs.declared.Edit.TheVariants as edit
use Rattle.calls.specs.declared.Goto.{Goto}
use Rattle.calls.specs.declared.Goto.TheVariants as goto
use Rattle.calls.specs.declared.Step.{Step}
use Rattle.calls.specs.declared.Step.TheVariants as step
use Rattle.calls.specs.declared.PositionQuestion.{PositionQuestion}
use Rattle.calls.specs.declared.PositionQuestion.TheVariants as asks
use Rattle.calls.specs.declared.CursorEdit.{CursorEdit}
use Rattle.calls.specs.declared.CursorEdit.TheVariants as change
use Rattle.calls.specs.declared.CursorCall.{CursorCall}
use Rattle.calls.specs.declared.CursorCall.TheVariants as call

abbrev pub edit_rule : Edit → Program → Ruled
edit_rule edit.Clear p = record { answer = accepted 0; after = no_program }
edit_rule (edit.SetCold b) p = set_cold_rule b p
edit_rule (edit.AppendBlock b) p = append_block_rule b p
edit_rule (edit.InsertBlock b before) p = insert_block_rule b before p
edit_rule (edit.InsertBlockAfter b after) p = insert_block_after_rule b after p
edit_rule (edit.RemoveBlock b) p = remove_block_rule b p
edit_rule (edit.RemoveBlockAndInsts b) p = remove_block_and_insts_rule b p
edit_rule (edit.SplitBlock b before) p = split_block_rule b before p
edit_rule (edit.AppendInst i b) p = append_inst_rule i b p
edit_rule (edit.InsertInst i before) p = insert_inst_rule i before p
edit_rule (edit.RemoveInst i) p = remove_inst_rule i p

-- ---- calls of a cursor that is at `at`

abbrev pub goto_rule : Goto → CursorPosition → Program → Moved (Unit {0})
goto_rule (goto.Inst i) at p = goto_inst_rule i at p
goto_rule (goto.AfterInst i) at p = goto_after_inst_rule i at p
goto_rule (goto.FirstInst b) at p = goto_first_inst_rule b at p
goto_rule (goto.LastInst b) at p = goto_last_inst_rule b at p
goto_rule (goto.FirstInsertionPoint b) at p = goto_first_insertion_point_rule b at p
goto_rule (goto.Top b) at p = goto_top_rule b at p
goto_rule (goto.Bottom b) at p = goto_bottom_rule b at p

abbrev pub moved_as : {A : Type 0} → (A → Reply) → Moved A → Moved Reply
moved_as f m = record { answer = as_reply f m.answer; place = m.place }

abbrev pub step_rule : Step → CursorPosition → Program → Moved Reply
step_rule step.NextInst at p = moved_as reached_inst (next_inst_rule at p)
step_rule step.PrevInst at p = moved_as reached_inst (prev_inst_rule at p)
step_rule step.NextBlock at p = moved_as reached_block (next_block_rule at p)
step_rule step.PrevBlock at p = moved_as reached_block (prev_block_rule at p)

abbrev pub some_position : CursorPosition → Reply
some_position at = position (Some at)

abbrev pub position_reply : PositionQuestion → CursorPosition → Program → Told Reply
position_reply asks.NextInst at p = as_reply position (asked_position next_inst_position at p)
position_reply asks.PrevInst at p = as_reply position (asked_position prev_inst_position at p)
position_reply asks.NextBlock at p = as_reply some_position (asked_position next_block_position at p)
position_reply asks.PrevBlock at p = as_reply some_position (asked_position prev_block_position at p)
position_reply asks.Next at p = as_reply some_position (asked_position next_position at p)
position_reply asks.Prev at p = as_reply some_position (asked_position prev_position at p)

abbrev pub took_as : Option Inst × ℕ → Reply
took_as r = took r.0 r.1

abbrev pub worked_as : {A : Type 0} → (A → Reply) → Worked A → Worked Reply
worked_as f w = record { answer = as_reply f w.answer; after = w.after; place = w.place }

abbrev pub cursor_edit_rule : CursorEdit → CursorPosition → Program → Worked Reply
cursor_edit_rule (change.InsertInst i) at p = worked_as wrote (at_cursor.insert_inst_rule i at p)
cursor_edit_rule change.RemoveInst at p = worked_as took_as (at_cursor.remove_inst_rule at p)
cursor_edit_rule change.RemoveInstAndStepBack at p = worked_as took_as (at_cursor.remove_inst_and_step_back_rule at p)
cursor_edit_rule (change.ReplaceInst i) at p = worked_as took_as (at_cursor.replace_inst_rule i at p)
cursor_edit_rule (change.InsertBlock b) at p = worked_as wrote (at_cursor.insert_block_rule b at p)

-- a call that leaves the program alone
abbrev pub still : Program → Moved Reply → Worked Reply
still p m = record { answer = m.answer; after = p; place = m.place }

abbrev pub gone : Moved (Unit {0}) → Moved Reply
gone m = moved_as (λ _. done) m

abbrev pub cursor_rule : CursorCall → CursorPosition → Program → Worked Reply
cursor_rule (call.Goto g) at p = still p (gone (goto_rule g at p))
cursor_rule (call.At g) at p = still p (gone (goto_rule g at p))
cursor_rule (call.Step s) at p = still p (step_rule s at p)
cursor_rule (call.Position q) at p = record { answer = position_reply q at p; after = p; place = at }
cursor_rule (call.Edit e) at p = cursor_edit_rule e at p
cursor_rule (call.SetPosition to) at p = record { answer = accepted done; after = p; place = to }
cursor_rule (call.AtPosition to) at p = record { answer = accepted done; after = p; place = to }

-- ---- what a call that is no edit spares

-- the layout stays the very same value, but for an edit
abbrev pub LayoutStays : {L : Type 0} → CursorCall → (before after : L) → Type 0
LayoutStays (call.Goto g) before after = after ≡ before
LayoutStays (call.At g) before after = after ≡ before
LayoutStays (call.Step s) before after = after ≡ before
LayoutStays (call.Position q) before after = after ≡ before
LayoutStays (call.Edit e) before after = Unit {0}
LayoutStays (call.SetPosition to) before after = after ≡ before
LayoutStays (call.AtPosition to) before after = after ≡ before

-- the cursor stays the very same value, where its position is asked for
abbrev pub CursorStays : {C : Type 0} → CursorCall → (before after : C) → Type 0
CursorStays (call.Goto g) before after = Unit {0}
CursorStays (call.At g) before after = Unit {0}
CursorStays (call.Step s) before after = Unit {0}
CursorStays (call.Position q) before after = after ≡ before
CursorStays (call.Edit e) before after = Unit {0}
CursorStays (call.SetPosition to) before after = Unit {0}
CursorStays (call.AtPosition to) before after = Unit {0}
