-- Where gotos and steps lead stands, whatever the program's list. Assumes nothing.
use Rattle.std.proofs.Common.{◌≡◌, Bool, true, Some, None, Option, refl}
use Rattle.entities.specs.Program.{Program}
use Rattle.entities.specs.Reading.{first_inst, inserted_block, inserted_inst, inst_block, last_inst, next_inst, prev_inst}
use Rattle.entities.specs.declared.Block.{Block}
use Rattle.entities.specs.declared.Inst.{Inst}
use Rattle.cursor.specs.Positions.{current_block, standing}
use Rattle.cursor.specs.declared.CursorPosition.{CursorPosition}
use Rattle.cursor.specs.declared.CursorPosition.TheVariants.{Nowhere, At, Before, After}
use Rattle.cursor_faults.specs.Moves.{after_block, at_inst, before_block, block_ahead, block_behind, next_block_position, next_inst_position, or_else, or_nowhere, or_this, prev_block_position, prev_inst_position}
use Rattle.leading.proofs.Inserted.{entry_inserted, first_inst_inserted, inst_block_inserted, last_inserted, last_inst_inserted, next_block_inserted, next_inst_inserted, prev_block_inserted, prev_inst_inserted}

-- is there no position, or one that stands?
abbrev pub stands_if_some : Option CursorPosition → Program → Bool
stands_if_some None p = true
stands_if_some (Some at) p = standing at p

-- ---- positions beside something

module _ (p : Program) where
  pub at_stands : (o : Option Inst) → ((i : Inst) → o ≡ Some i → inserted_inst i p ≡ true) → stands_if_some (at_inst o) p ≡ true
  at_stands None h = refl
  at_stands (Some i) h = h i refl

  pub before_stands : (o : Option Block) → ((b : Block) → o ≡ Some b → inserted_block b p ≡ true) → stands_if_some (before_block o) p ≡ true
  before_stands None h = refl
  before_stands (Some b) h = h b refl

  pub after_stands : (o : Option Block) → ((b : Block) → o ≡ Some b → inserted_block b p ≡ true) → stands_if_some (after_block o) p ≡ true
  after_stands None h = refl
  after_stands (Some b) h = h b refl

  pub else_stands : (o q : Option CursorPosition) → stands_if_some o p ≡ true → stands_if_some q p ≡ true → stands_if_some (or_else o q) p ≡ true
  else_stands None q h k = k
  else_stands (Some at) q h k = h

  pub nowhere_stands : (o : Option CursorPosition) → stands_if_some o p ≡ true → standing (or_nowhere o) p ≡ true
  nowhere_stands None h = refl
  nowhere_stands (Some at) h = h

  pub this_stands : (o : Option CursorPosition) (at : CursorPosition) → stands_if_some o p ≡ true → (o ≡ None → standing at p ≡ true) → standing (or_this o at) p ≡ true
  this_stands None at h k = k refl
  this_stands (Some to) at h k = h

  -- ---- where an instruction step leads

  pub next_inst_stands : (at : CursorPosition) → standing at p ≡ true → stands_if_some (next_inst_position at p) p ≡ true
  next_inst_stands Nowhere h = refl
  next_inst_stands (At i) h =
      else_stands (at_inst (next_inst i p)) (after_block (inst_block i p)) (at_stands (next_inst i p) (λ n. next_inst_inserted n p i)) (after_stands (inst_block i p) (λ b. inst_block_inserted b p i))
  next_inst_stands (Before b) h = else_stands (at_inst (first_inst b p)) (Some (After b)) (at_stands (first_inst b p) (λ n. first_inst_inserted n p b)) h
  next_inst_stands (After b) h = refl

  pub prev_inst_stands : (at : CursorPosition) → standing at p ≡ true → stands_if_some (prev_inst_position at p) p ≡ true
  prev_inst_stands Nowhere h = refl
  prev_inst_stands (At i) h =
      else_stands (at_inst (prev_inst i p)) (before_block (inst_block i p)) (at_stands (prev_inst i p) (λ n. prev_inst_inserted n p i)) (before_stands (inst_block i p) (λ b. inst_block_inserted b p i))
  prev_inst_stands (Before b) h = refl
  prev_inst_stands (After b) h = else_stands (at_inst (last_inst b p)) (Some (Before b)) (at_stands (last_inst b p) (λ n. last_inst_inserted n p b)) h

  -- ---- where a block step leads

  behind_inserted : (o : Option Block) (b : Block) → block_behind o p ≡ Some b → inserted_block b p ≡ true
  behind_inserted None b e = entry_inserted b p e
  behind_inserted (Some c) b e = next_block_inserted b p c e

  ahead_inserted : (o : Option Block) (b : Block) → block_ahead o p ≡ Some b → inserted_block b p ≡ true
  ahead_inserted None b e = last_inserted b p e
  ahead_inserted (Some c) b e = prev_block_inserted b p c e

  pub next_block_stands : (at : CursorPosition) → standing (next_block_position at p) p ≡ true
  next_block_stands at =
      let o : Option Block = current_block at p in
      nowhere_stands (before_block (block_behind o p)) (before_stands (block_behind o p) (behind_inserted o))

  pub prev_block_stands : (at : CursorPosition) → standing (prev_block_position at p) p ≡ true
  prev_block_stands at =
      let o : Option Block = current_block at p in
      nowhere_stands (after_block (block_ahead o p)) (after_stands (block_ahead o p) (ahead_inserted o))

  -- ---- where gotos lead

  pub goto_after_inst_stands : (i : Inst) → inserted_inst i p ≡ true → standing (or_nowhere (next_inst_position (At i) p)) p ≡ true
  goto_after_inst_stands i h = nowhere_stands (next_inst_position (At i) p) (next_inst_stands (At i) h)

  pub goto_first_inst_stands : (b : Block) → standing (or_nowhere (at_inst (first_inst b p))) p ≡ true
  goto_first_inst_stands b = nowhere_stands (at_inst (first_inst b p)) (at_stands (first_inst b p) (λ n. first_inst_inserted n p b))

  pub goto_last_inst_stands : (b : Block) → standing (or_nowhere (at_inst (last_inst b p))) p ≡ true
  goto_last_inst_stands b = nowhere_stands (at_inst (last_inst b p)) (at_stands (last_inst b p) (λ n. last_inst_inserted n p b))

  pub goto_first_insertion_point_stands : (b : Block) → inserted_block b p ≡ true → standing (or_this (at_inst (first_inst b p)) (After b)) p ≡ true
  goto_first_insertion_point_stands b h = this_stands (at_inst (first_inst b p)) (After b) (at_stands (first_inst b p) (λ n. first_inst_inserted n p b)) (λ e. h)
