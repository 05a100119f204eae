-- The name and the arguments of each call. Assumes nothing.
use Rattle.std.specs.Prelude.{ℕ, List, codes}
use Rattle.calls.specs.declared.Edit.{Edit}
use Rattle.calls.specs.declared.Edit.TheVariants as edit
use Rattle.calls.specs.declared.Goto.{Goto}
use Rattle.calls.specs.declared.Goto.TheVariants as goto
use Rattle.calls.specs.declared.Step.{Step}
use Rattle.calls.specs.declared.Step.TheVariants as step
use Rattle.calls.specs.declared.PositionQuestion.{PositionQuestion}
use Rattle.calls.specs.declared.PositionQuestion.TheVariants as asks
use Rattle.calls.specs.declared.CursorEdit.{CursorEdit}
use Rattle.calls.specs.declared.CursorEdit.TheVariants as change
use Rattle.calls.specs.declared.CursorCall.{CursorCall}
use Rattle.calls.specs.declared.CursorCall.TheVariants as call
use Rattle.cursor.specs.declared.CursorPosition.{CursorPosition}
use Rattle.cursor.specs.declared.CursorPosition.TheVariants as pos
use Rattle.forms.specs.declared.Arg.TheVariants as arg
use Rattle.forms.specs.declared.Args.{Args}
use Rattle.forms.specs.declared.Args.TheVariants as args
use Rattle.forms.specs.Args.{point_arg}
use Rattle.forms.specs.Forms.{Form, bare, one, two}
use Rattle.commands.specs.declared.LayoutCommand.{LayoutCommand}
use Rattle.commands.specs.declared.LayoutCommand.TheVariants as layout_command
use Rattle.commands.specs.declared.Question.{Question}
use Rattle.commands.specs.declared.Question.TheVariants as ask
use Rattle.commands.specs.declared.CursorQuestion.{CursorQuestion}
use Rattle.commands.specs.declared.CursorQuestion.TheVariants as cursor_ask
use Rattle.commands.specs.declared.CursorCommand.{CursorCommand}
use Rattle.commands.specs.declared.CursorCommand.TheVariants as cursor_command
use Rattle.commands.specs.declared.CursorKind.{CursorKind}
use Rattle.commands.specs.declared.CursorKind.TheVariants as kind

abbrev pub edit_form : Edit → Form
edit_form edit.Clear = bare (codes "clear")
edit_form (edit.SetCold b) = one (codes "set_cold") (arg.Block b)
edit_form (edit.AppendBlock b) = one (codes "append_block") (arg.Block b)
edit_form (edit.InsertBlock b before) = two (codes "insert_block") (arg.Block b) (arg.Block before)
edit_form (edit.InsertBlockAfter b after) = two (codes "insert_block_after") (arg.Block b) (arg.Block after)
edit_form (edit.RemoveBlock b) = one (codes "remove_block") (arg.Block b)
edit_form (edit.RemoveBlockAndInsts b) = one (codes "remove_block_and_insts") (arg.Block b)
edit_form (edit.SplitBlock b before) = two (codes "split_block") (arg.Block b) (arg.Inst before)
edit_form (edit.AppendInst i b) = two (codes "append_inst") (arg.Inst i) (arg.Block b)
edit_form (edit.InsertInst i before) = two (codes "insert_inst") (arg.Inst i) (arg.Inst before)
edit_form (edit.RemoveInst i) = one (codes "remove_inst") (arg.Inst i)

abbrev pub question_form : Question → Form
question_form (ask.PpCmp a b) = two (codes "pp_cmp") (point_arg a) (point_arg b)
question_form (ask.PpBlock a) = one (codes "pp_block") (point_arg a)
question_form (ask.IsBlockInserted b) = one (codes "is_block_inserted") (arg.Block b)
question_form (ask.InstBlock i) = one (codes "inst_block") (arg.Inst i)
question_form ask.EntryBlock = bare (codes "entry_block")
question_form ask.LastBlock = bare (codes "last_block")
question_form (ask.PrevBlock b) = one (codes "prev_block") (arg.Block b)
question_form (ask.NextBlock b) = one (codes "next_block") (arg.Block b)
question_form (ask.FirstInst b) = one (codes "first_inst") (arg.Block b)
question_form (ask.LastInst b) = one (codes "last_inst") (arg.Block b)
question_form (ask.NextInst i) = one (codes "next_inst") (arg.Inst i)
question_form (ask.PrevInst i) = one (codes "prev_inst") (arg.Inst i)
question_form (ask.InstSeq i) = one (codes "inst_seq") (arg.Inst i)
question_form (ask.IsCold b) = one (codes "is_cold") (arg.Block b)
question_form (ask.BlockContainsExactlyOneInst b) = one (codes "block_contains_exactly_one_inst") (arg.Block b)
question_form ask.BlockCapacity = bare (codes "block_capacity")

abbrev pub layout_form : LayoutCommand → Form
layout_form (layout_command.Edit e) = edit_form e
layout_form (layout_command.Ask q) = question_form q
layout_form layout_command.Walk = bare (codes "walk")
layout_form layout_command.WalkBack = bare (codes "walk_back")

-- ---- calls of a cursor, behind its name

abbrev pub goto_form : Goto → Form
goto_form (goto.Inst i) = one (codes "goto_inst") (arg.Inst i)
goto_form (goto.AfterInst i) = one (codes "goto_after_inst") (arg.Inst i)
goto_form (goto.FirstInst b) = one (codes "goto_first_inst") (arg.Block b)
goto_form (goto.LastInst b) = one (codes "goto_last_inst") (arg.Block b)
goto_form (goto.FirstInsertionPoint b) = one (codes "goto_first_insertion_point") (arg.Block b)
goto_form (goto.Top b) = one (codes "goto_top") (arg.Block b)
goto_form (goto.Bottom b) = one (codes "goto_bottom") (arg.Block b)

abbrev pub at_form : Goto → Form
at_form (goto.Inst i) = one (codes "at_inst") (arg.Inst i)
at_form (goto.AfterInst i) = one (codes "after_inst") (arg.Inst i)
at_form (goto.FirstInst b) = one (codes "at_first_inst") (arg.Block b)
at_form (goto.LastInst b) = one (codes "at_last_inst") (arg.Block b)
at_form (goto.FirstInsertionPoint b) = one (codes "at_first_insertion_point") (arg.Block b)
at_form (goto.Top b) = one (codes "at_top") (arg.Block b)
at_form (goto.Bottom b) = one (codes "at_bottom") (arg.Block b)

abbrev pub step_form : Step → Form
step_form step.NextInst = bare (codes "next_inst")
step_form step.PrevInst = bare (codes "prev_inst")
step_form step.NextBlock = bare (codes "next_block")
step_form step.PrevBlock = bare (codes "prev_block")

abbrev pub position_question_form : PositionQuestion → Form
position_question_form asks.NextInst = bare (codes "next_inst_position")
position_question_form asks.PrevInst = bare (codes "prev_inst_position")
position_question_form asks.NextBlock = bare (codes "next_block_position")
position_question_form asks.PrevBlock = bare (codes "prev_block_position")
position_question_form asks.Next = bare (codes "next_position")
position_question_form asks.Prev = bare (codes "prev_position")

abbrev pub cursor_edit_form : CursorEdit → Form
cursor_edit_form (change.InsertInst i) = one (codes "insert_inst") (arg.Inst i)
cursor_edit_form change.RemoveInst = bare (codes "remove_inst")
cursor_edit_form change.RemoveInstAndStepBack = bare (codes "remove_inst_and_step_back")
cursor_edit_form (change.ReplaceInst i) = one (codes "replace_inst") (arg.Inst i)
cursor_edit_form (change.InsertBlock b) = one (codes "insert_block") (arg.Block b)

abbrev pub position_args : CursorPosition → Args
position_args pos.Nowhere = args.One arg.Nowhere
position_args (pos.At i) = args.Two arg.At (arg.Inst i)
position_args (pos.Before b) = args.Two arg.Before (arg.Block b)
position_args (pos.After b) = args.Two arg.After (arg.Block b)

abbrev pub call_form : CursorCall → Form
call_form (call.Goto g) = goto_form g
call_form (call.At g) = at_form g
call_form (call.Step s) = step_form s
call_form (call.Position q) = position_question_form q
call_form (call.Edit e) = cursor_edit_form e
call_form (call.SetPosition p) = record { name = codes "set_position"; args = position_args p }
call_form (call.AtPosition p) = record { name = codes "at_position"; args = position_args p }

abbrev pub cursor_question_form : CursorQuestion → Form
cursor_question_form cursor_ask.CurrentInst = bare (codes "current_inst")
cursor_question_form cursor_ask.CurrentBlock = bare (codes "current_block")
cursor_question_form cursor_ask.Position = bare (codes "position")

abbrev pub cursor_form : CursorCommand → Form
cursor_form (cursor_command.Call c) = call_form c
cursor_form (cursor_command.Ask q) = cursor_question_form q

abbrev pub kind_word : CursorKind → List ℕ
kind_word kind.Func = codes "func"
kind_word kind.Word = codes "word"
