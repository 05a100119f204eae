-- A refused call leaves the cursor and the program, and a refused edit of the layout the program. Assumes nothing.
use Rattle.std.proofs.Common.{◌≡◌, ℕ, Some, None, Option, refl}
use Rattle.entities.specs.Program.{Program}
use Rattle.faults.specs.Questions.{append_block_asked, append_inst_asked, first_no, insert_block_after_asked, insert_block_asked, insert_inst_asked, remove_block_and_insts_asked, remove_block_asked, remove_inst_asked, set_cold_asked, split_block_asked}
use Rattle.faults.specs.Refusals.{Refusal, accepted, refused}
use Rattle.faults.specs.Rules.{ruled}
use Rattle.cursor.specs.declared.CursorPosition.{CursorPosition}
use Rattle.cursor_faults.specs.Edits.{Worked, worked}
use Rattle.cursor_faults.specs.Moves.{inst_step_rule, moved, next_inst_position, prev_inst_position}
use Rattle.cursor_faults.specs.Questions.{goto_block_asked, goto_end_asked, goto_inst_asked, put_block_asked, put_inst_asked, replace_inst_asked, standing_asked, take_inst_asked}
use Rattle.calls.specs.Calls.{cursor_edit_rule, cursor_rule, edit_rule, goto_rule, step_rule, took_as, worked_as}
use Rattle.calls.specs.Replies.{Reply, as_reply, done, reached_block, reached_inst, wrote}
use Rattle.calls.specs.declared.CursorCall.{CursorCall}
use Rattle.calls.specs.declared.CursorCall.TheVariants as call
use Rattle.calls.specs.declared.CursorEdit.{CursorEdit}
use Rattle.calls.specs.declared.CursorEdit.TheVariants as change
use Rattle.calls.specs.declared.Edit.{Edit}
use Rattle.calls.specs.declared.Edit.TheVariants as edit
use Rattle.calls.specs.declared.Goto.{Goto}
use Rattle.calls.specs.declared.Goto.TheVariants as goto
use Rattle.calls.specs.declared.Step.{Step}
use Rattle.calls.specs.declared.Step.TheVariants as step

not_accepted : {A : Type 0} (a : A) (q : Refusal) → accepted a ≡ refused q → ⊥
not_accepted a q e = cc

-- ---- calls of a cursor

record Stays (rule : Worked Reply) (at : CursorPosition) (p : Program) : Type 0 where
  place : rule.place ≡ at
  program : rule.after ≡ p

module _ (q : Refusal) where
  module _ {A : Type 0} (f : A → Reply) where
    moved_stays : (o : Option Refusal) (a : A) (new old : CursorPosition) → as_reply f (moved o a new old).answer ≡ refused q → (moved o a new old).place ≡ old
    moved_stays None a new old e = absurd (not_accepted (f a) q e)
    moved_stays (Some r) a new old e = refl

    worked_stays : (o : Option Refusal) (a : A) (new : Program) (to : CursorPosition) (old : Program) (at : CursorPosition) → as_reply f (worked o a new to old at).answer ≡ refused q → Stays (worked_as f (worked o a new to old at)) at old
    worked_stays None a new to old at e = absurd (not_accepted (f a) q e)
    worked_stays (Some r) a new to old at e = record { place = refl; program = refl }

  module _ (at : CursorPosition) (p : Program) where
    goto_stays : (g : Goto) → as_reply (λ _. done) (goto_rule g at p).answer ≡ refused q → (goto_rule g at p).place ≡ at
    goto_stays (goto.Inst i) e = moved_stays (λ _. done) (first_no (goto_inst_asked i p)) _ _ _ e
    goto_stays (goto.AfterInst i) e = moved_stays (λ _. done) (first_no (goto_inst_asked i p)) _ _ _ e
    goto_stays (goto.FirstInst b) e = moved_stays (λ _. done) (first_no (goto_end_asked b p)) _ _ _ e
    goto_stays (goto.LastInst b) e = moved_stays (λ _. done) (first_no (goto_end_asked b p)) _ _ _ e
    goto_stays (goto.FirstInsertionPoint b) e = moved_stays (λ _. done) (first_no (goto_block_asked b p)) _ _ _ e
    goto_stays (goto.Top b) e = moved_stays (λ _. done) (first_no (goto_block_asked b p)) _ _ _ e
    goto_stays (goto.Bottom b) e = moved_stays (λ _. done) (first_no (goto_block_asked b p)) _ _ _ e

    inst_step_stays : (to : Option CursorPosition) → as_reply reached_inst (inst_step_rule to at p).answer ≡ refused q → (inst_step_rule to at p).place ≡ at
    inst_step_stays None e = moved_stays reached_inst (first_no (standing_asked at p)) _ _ _ e
    inst_step_stays (Some to) e = moved_stays reached_inst (first_no (standing_asked at p)) _ _ _ e

    step_stays : (s : Step) → (step_rule s at p).answer ≡ refused q → (step_rule s at p).place ≡ at
    step_stays step.NextInst e = inst_step_stays (next_inst_position at p) e
    step_stays step.PrevInst e = inst_step_stays (prev_inst_position at p) e
    step_stays step.NextBlock e = moved_stays reached_block (first_no (standing_asked at p)) _ _ _ e
    step_stays step.PrevBlock e = moved_stays reached_block (first_no (standing_asked at p)) _ _ _ e

    cursor_edit_stays : (c : CursorEdit) → (cursor_edit_rule c at p).answer ≡ refused q → Stays (cursor_edit_rule c at p) at p
    cursor_edit_stays (change.InsertInst i) e = worked_stays wrote (first_no (put_inst_asked i at p)) _ _ _ _ _ e
    cursor_edit_stays change.RemoveInst e = worked_stays took_as (first_no (take_inst_asked at p)) _ _ _ _ _ e
    cursor_edit_stays change.RemoveInstAndStepBack e = worked_stays took_as (first_no (take_inst_asked at p)) _ _ _ _ _ e
    cursor_edit_stays (change.ReplaceInst i) e = worked_stays took_as (first_no (replace_inst_asked i at p)) _ _ _ _ _ e
    cursor_edit_stays (change.InsertBlock b) e = worked_stays wrote (first_no (put_block_asked b at p)) _ _ _ _ _ e

    stays : (c : CursorCall) → (cursor_rule c at p).answer ≡ refused q → Stays (cursor_rule c at p) at p
    stays (call.Goto g) e = record { place = goto_stays g e; program = refl }
    stays (call.At g) e = record { place = goto_stays g e; program = refl }
    stays (call.Step s) e = record { place = step_stays s e; program = refl }
    stays (call.Position a) e = record { place = refl; program = refl }
    stays (call.Edit c) e = cursor_edit_stays c e
    stays (call.SetPosition to) e = absurd (not_accepted done q e)
    stays (call.AtPosition to) e = absurd (not_accepted done q e)

    pub place_stays : (c : CursorCall) → (cursor_rule c at p).answer ≡ refused q → (cursor_rule c at p).place ≡ at
    place_stays c e = (stays c e).place

    pub program_stays : (c : CursorCall) → (cursor_rule c at p).answer ≡ refused q → (cursor_rule c at p).after ≡ p
    program_stays c e = (stays c e).program

  -- ---- edits of a layout

  ruled_stays : (o : Option Refusal) (writes : ℕ) (new old : Program) → (ruled o writes new old).answer ≡ refused q → (ruled o writes new old).after ≡ old
  ruled_stays None writes new old e = absurd (not_accepted writes q e)
  ruled_stays (Some r) writes new old e = refl

  pub edit_stays : (c : Edit) (p : Program) → (edit_rule c p).answer ≡ refused q → (edit_rule c p).after ≡ p
  edit_stays edit.Clear p e = absurd (not_accepted 0 q e)
  edit_stays (edit.SetCold b) p e = ruled_stays (first_no (set_cold_asked b)) _ _ _ e
  edit_stays (edit.AppendBlock b) p e = ruled_stays (first_no (append_block_asked b p)) _ _ _ e
  edit_stays (edit.InsertBlock b before) p e = ruled_stays (first_no (insert_block_asked b before p)) _ _ _ e
  edit_stays (edit.InsertBlockAfter b after) p e = ruled_stays (first_no (insert_block_after_asked b after p)) _ _ _ e
  edit_stays (edit.RemoveBlock b) p e = ruled_stays (first_no (remove_block_asked b p)) _ _ _ e
  edit_stays (edit.RemoveBlockAndInsts b) p e = ruled_stays (first_no (remove_block_and_insts_asked b p)) _ _ _ e
  edit_stays (edit.SplitBlock b before) p e = ruled_stays (first_no (split_block_asked b before p)) _ _ _ e
  edit_stays (edit.AppendInst i b) p e = ruled_stays (first_no (append_inst_asked i b p)) _ _ _ e
  edit_stays (edit.InsertInst i before) p e = ruled_stays (first_no (insert_inst_asked i before p)) _ _ _ e
  edit_stays (edit.RemoveInst i) p e = ruled_stays (first_no (remove_inst_asked i p)) _ _ _ e
