-- Where a cursor edit leaves a cursor that stood, it stands. Assumes nothing.
use Rattle.std.proofs.Common.{◌≡◌, true, is_some, Some, None, Option, refl, ◌∙◌}
use Rattle.std.proofs.lemmas.Bool.{false≢true}
use Rattle.entities.specs.Program.{Program}
use Rattle.entities.specs.Reading.{inserted_inst, inst_block, next_inst, prev_inst}
use Rattle.entities.specs.declared.Block.{Block}
use Rattle.entities.specs.declared.Inst.{Inst}
use Rattle.layout.proofs.Removal.{inst_has_block, its_block_kept, next_kept, prev_kept, without}
use Rattle.layout.specs.Program.{program}
use Rattle.layout.specs.declared.Layout.{Layout}
use Rattle.cursor.specs.Positions.{standing}
use Rattle.cursor.specs.declared.CursorPosition.{CursorPosition}
use Rattle.cursor.specs.declared.CursorPosition.TheVariants.{Nowhere, At, Before, After}
use Rattle.cursor_faults.specs.Edits.{block_put, block_put_place, inst_put, inst_taken}
use Rattle.cursor_faults.specs.Moves.{after_block, at_inst, before_block, next_inst_position, or_else, or_this, prev_inst_position}
use Rattle.leading.proofs.Kept.{append_block_inserts, append_keeps_block, insert_block_after_inserts, insert_block_inserts, insert_keeps_inst, split_keeps_inst}
use Rattle.leading.proofs.Positions.{next_inst_stands, prev_inst_stands, this_stands}

-- ---- what is put in, whatever the program's list

pub insert_inst_stands : (i : Inst) (at : CursorPosition) (p : Program) → standing at p ≡ true → standing at (inst_put i at p) ≡ true
insert_inst_stands i Nowhere p h = refl
insert_inst_stands i (At k) p h = insert_keeps_inst k p h i
insert_inst_stands i (Before b) p h = h
insert_inst_stands i (After b) p h = append_keeps_block b p i b ∙ h

pub insert_block_stands : (b : Block) (at : CursorPosition) (p : Program) → standing at p ≡ true → standing (block_put_place b at) (block_put b at p) ≡ true
insert_block_stands b Nowhere p h = append_block_inserts b p
insert_block_stands b (At k) p h = split_keeps_inst k p h b
insert_block_stands b (Before c) p h = insert_block_inserts b p c h
insert_block_stands b (After c) p h = insert_block_after_inserts b p c h

-- ---- an instruction taken out of a layout: its neighbours stand, and so does its block

of_some : {A : Type 0} (P : Option A → Type 0) (o : Option A) → is_some o ≡ true → ((a : A) → o ≡ Some a → P (Some a)) → P o
of_some P None s h = absurd (false≢true s)
of_some P (Some a) s h = h a refl

beside_stands : (n : Option Inst) (to at : CursorPosition) (p : Program) → ((i : Inst) → n ≡ Some i → inserted_inst i p ≡ true) → standing to p ≡ true → standing (or_this (or_else (at_inst n) (Some to)) at) p ≡ true
beside_stands None to at p h k = k
beside_stands (Some i) to at p h k = h i refl

module _ (l : Layout) where
  module _ (k : Inst) (inserted : inserted_inst k (program l) ≡ true) where
    has_block : is_some (inst_block k (program l)) ≡ true
    has_block = inst_has_block l k ∙ inserted

    after_removal : standing (or_this (next_inst_position (At k) (program l)) (At k)) (without k (program l)) ≡ true
    after_removal =
        of_some (λ o. standing (or_this (or_else (at_inst (next_inst k (program l))) (after_block o)) (At k)) (without k (program l)) ≡ true) (inst_block k (program l)) has_block
        (λ b e. beside_stands (next_inst k (program l)) (After b) (At k) (without k (program l)) (next_kept l k) (its_block_kept l k b e))

    before_removal : standing (or_this (prev_inst_position (At k) (program l)) (At k)) (without k (program l)) ≡ true
    before_removal =
        of_some (λ o. standing (or_this (or_else (at_inst (prev_inst k (program l))) (before_block o)) (At k)) (without k (program l)) ≡ true) (inst_block k (program l)) has_block
        (λ b e. beside_stands (prev_inst k (program l)) (Before b) (At k) (without k (program l)) (prev_kept l k) (its_block_kept l k b e))

  pub remove_inst_stands : (at : CursorPosition) → standing at (program l) ≡ true → standing (or_this (next_inst_position at (program l)) at) (inst_taken at (program l)) ≡ true
  remove_inst_stands Nowhere h = refl
  remove_inst_stands (At k) h = after_removal k h
  remove_inst_stands (Before b) h = this_stands (program l) (next_inst_position (Before b) (program l)) (Before b) (next_inst_stands (program l) (Before b) h) (λ e. h)
  remove_inst_stands (After b) h = h

  pub step_back_stands : (at : CursorPosition) → standing at (program l) ≡ true → standing (or_this (prev_inst_position at (program l)) at) (inst_taken at (program l)) ≡ true
  step_back_stands Nowhere h = refl
  step_back_stands (At k) h = before_removal k h
  step_back_stands (Before b) h = h
  step_back_stands (After b) h = this_stands (program l) (prev_inst_position (After b) (program l)) (After b) (prev_inst_stands (program l) (After b) h) (λ e. h)

  pub replace_inst_stands : (i : Inst) (at : CursorPosition) → standing at (program l) ≡ true → standing (or_this (next_inst_position at (program l)) at) (inst_put i (or_this (next_inst_position at (program l)) at) (inst_taken at (program l))) ≡ true
  replace_inst_stands i at h = insert_inst_stands i (or_this (next_inst_position at (program l)) at) (inst_taken at (program l)) (remove_inst_stands at h)
