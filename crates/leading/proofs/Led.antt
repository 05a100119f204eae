-- A call that leads the cursor, once accepted, leaves it standing. Assumes nothing.
use Rattle.std.proofs.Common.{◌≡◌, true, List, Some, None, Option, ap, sym, ◌∙◌}
use Rattle.std.proofs.lemmas.Bool.{false≢true}
use Rattle.entities.specs.Program.{Program}
use Rattle.entities.specs.Reading.{inserted_block, inserted_inst}
use Rattle.entities.specs.declared.Block.{Block}
use Rattle.entities.specs.declared.Inst.{Inst}
use Rattle.faults.specs.Questions.{Question, first_no}
use Rattle.faults.specs.Refusals.{accepted}
use Rattle.layout.specs.Program.{program}
use Rattle.layout.specs.declared.Layout.{Layout}
use Rattle.cursor.specs.Positions.{standing}
use Rattle.cursor.specs.declared.CursorPosition.{CursorPosition}
use Rattle.cursor_faults.specs.Moves.{inst_step_rule, next_inst_position, prev_inst_position}
use Rattle.cursor_faults.specs.Questions.{goto_block_asked, goto_end_asked, goto_inst_asked, put_block_asked, put_inst_asked, replace_inst_asked, standing_asked, take_inst_asked}
use Rattle.calls.specs.Calls.{cursor_edit_rule, cursor_rule, goto_rule, step_rule, took_as}
use Rattle.calls.specs.Replies.{Reply, as_reply, done, reached_block, reached_inst, wrote}
use Rattle.calls.specs.declared.CursorCall.{CursorCall}
use Rattle.calls.specs.declared.CursorCall.TheVariants as call
use Rattle.calls.specs.declared.CursorEdit.{CursorEdit}
use Rattle.calls.specs.declared.CursorEdit.TheVariants as change
use Rattle.calls.specs.declared.Goto.{Goto}
use Rattle.calls.specs.declared.Goto.TheVariants as goto
use Rattle.calls.specs.declared.Step.{Step}
use Rattle.calls.specs.declared.Step.TheVariants as step
use Rattle.leading.proofs.Accepted.{all_yes, moved_stands, stood, stood_alone, worked_stands}
use Rattle.leading.proofs.Edits.{insert_block_stands, insert_inst_stands, remove_inst_stands, replace_inst_stands, step_back_stands}
use Rattle.leading.proofs.Positions.{goto_after_inst_stands, goto_first_insertion_point_stands, goto_first_inst_stands, goto_last_inst_stands, next_block_stands, next_inst_stands, prev_block_stands, prev_inst_stands, stands_if_some}
use Rattle.leading.specs.Leading.{leads}

-- ---- gotos and steps, whatever the program's list

module _ (p : Program) where
  inst_asked : (i : Inst) → first_no (goto_inst_asked i p) ≡ None → inserted_inst i p ≡ true
  inst_asked i n = (all_yes (goto_inst_asked i p) n).1.0

  block_asked : (b : Block) → first_no (goto_block_asked b p) ≡ None → inserted_block b p ≡ true
  block_asked b n = (all_yes (goto_block_asked b p) n).1.0

  pub goto_leads : (g : Goto) (at : CursorPosition) (r : Reply) → as_reply (λ _. done) (goto_rule g at p).answer ≡ accepted r → standing (goto_rule g at p).place p ≡ true
  goto_leads (goto.Inst i) at r e = moved_stands (λ _. done) r (first_no (goto_inst_asked i p)) _ _ _ p e (inst_asked i)
  goto_leads (goto.AfterInst i) at r e = moved_stands (λ _. done) r (first_no (goto_inst_asked i p)) _ _ _ p e (λ n. goto_after_inst_stands p i (inst_asked i n))
  goto_leads (goto.FirstInst b) at r e = moved_stands (λ _. done) r (first_no (goto_end_asked b p)) _ _ _ p e (λ n. goto_first_inst_stands p b)
  goto_leads (goto.LastInst b) at r e = moved_stands (λ _. done) r (first_no (goto_end_asked b p)) _ _ _ p e (λ n. goto_last_inst_stands p b)
  goto_leads (goto.FirstInsertionPoint b) at r e = moved_stands (λ _. done) r (first_no (goto_block_asked b p)) _ _ _ p e (λ n. goto_first_insertion_point_stands p b (block_asked b n))
  goto_leads (goto.Top b) at r e = moved_stands (λ _. done) r (first_no (goto_block_asked b p)) _ _ _ p e (block_asked b)
  goto_leads (goto.Bottom b) at r e = moved_stands (λ _. done) r (first_no (goto_block_asked b p)) _ _ _ p e (block_asked b)

  stepped : (at : CursorPosition) → first_no (standing_asked at p) ≡ None → standing at p ≡ true
  stepped at n = stood_alone at p (all_yes (standing_asked at p) n)

  -- with no position to go to the cursor stays, and it stood
  inst_step_leads : (to : Option CursorPosition) (at : CursorPosition) (r : Reply) → (standing at p ≡ true → stands_if_some to p ≡ true) → as_reply reached_inst (inst_step_rule to at p).answer ≡ accepted r → standing (inst_step_rule to at p).place p ≡ true
  inst_step_leads None at r h e = moved_stands reached_inst r (first_no (standing_asked at p)) _ _ _ p e (stepped at)
  inst_step_leads (Some to) at r h e = moved_stands reached_inst r (first_no (standing_asked at p)) _ _ _ p e (λ n. h (stepped at n))

  pub step_leads : (s : Step) (at : CursorPosition) (r : Reply) → (step_rule s at p).answer ≡ accepted r → standing (step_rule s at p).place p ≡ true
  step_leads step.NextInst at r e = inst_step_leads (next_inst_position at p) at r (next_inst_stands p at) e
  step_leads step.PrevInst at r e = inst_step_leads (prev_inst_position at p) at r (prev_inst_stands p at) e
  step_leads step.NextBlock at r e = moved_stands reached_block r (first_no (standing_asked at p)) _ _ _ p e (λ n. next_block_stands p at)
  step_leads step.PrevBlock at r e = moved_stands reached_block r (first_no (standing_asked at p)) _ _ _ p e (λ n. prev_block_stands p at)

-- ---- edits at a layout, where an instruction stands in one place alone

module _ (l : Layout) where
  pub edit_leads : (c : CursorEdit) (at : CursorPosition) (r : Reply) → (cursor_edit_rule c at (program l)).answer ≡ accepted r → standing (cursor_edit_rule c at (program l)).place (cursor_edit_rule c at (program l)).after ≡ true
  edit_leads (change.InsertInst i) at r e =
      let qs : List Question = put_inst_asked i at (program l) in
      worked_stands wrote r (first_no qs) _ _ _ _ _ e (λ n. insert_inst_stands i at (program l) (stood at (program l) _ (all_yes qs n).1))
  edit_leads change.RemoveInst at r e =
      let qs : List Question = take_inst_asked at (program l) in
      worked_stands took_as r (first_no qs) _ _ _ _ _ e (λ n. remove_inst_stands l at (stood at (program l) _ (all_yes qs n)))
  edit_leads change.RemoveInstAndStepBack at r e =
      let qs : List Question = take_inst_asked at (program l) in
      worked_stands took_as r (first_no qs) _ _ _ _ _ e (λ n. step_back_stands l at (stood at (program l) _ (all_yes qs n)))
  edit_leads (change.ReplaceInst i) at r e =
      let qs : List Question = replace_inst_asked i at (program l) in
      worked_stands took_as r (first_no qs) _ _ _ _ _ e (λ n. replace_inst_stands l i at (stood at (program l) _ (all_yes qs n).1))
  edit_leads (change.InsertBlock b) at r e =
      let qs : List Question = put_block_asked b at (program l) in
      worked_stands wrote r (first_no qs) _ _ _ _ _ e (λ n. insert_block_stands b at (program l) (stood at (program l) _ (all_yes qs n).1))

  -- ---- any call

  pub led : (c : CursorCall) (at : CursorPosition) → leads c ≡ true → (r : Reply) → (cursor_rule c at (program l)).answer ≡ accepted r → standing (cursor_rule c at (program l)).place (cursor_rule c at (program l)).after ≡ true
  led (call.Goto g) at h r e = goto_leads (program l) g at r e
  led (call.At g) at h r e = goto_leads (program l) g at r e
  led (call.Step s) at h r e = step_leads (program l) s at r e
  led (call.Position q) at h r e = absurd (false≢true h)
  led (call.Edit c) at h r e = edit_leads c at r e
  led (call.SetPosition to) at h r e = absurd (false≢true h)
  led (call.AtPosition to) at h r e = absurd (false≢true h)

  -- the same of a call that answered r, and left the program `after` and the cursor at `to`, by its rule
  pub led_to : (c : CursorCall) (at : CursorPosition) → leads c ≡ true → (r : Reply) (after : Program) (to : CursorPosition) → accepted r ≡ (cursor_rule c at (program l)).answer → after ≡ (cursor_rule c at (program l)).after → to ≡ (cursor_rule c at (program l)).place → standing to after ≡ true
  led_to c at h r after to answer program_is place_is = ap (standing to) program_is ∙ ap (λ x. standing x (cursor_rule c at (program l)).after) place_is ∙ led c at h r (sym answer)
