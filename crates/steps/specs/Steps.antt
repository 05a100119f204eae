-- Where a step leads, by its direction. Assumes nothing.
use Rattle.std.specs.Prelude.{Option}
use Rattle.entities.specs.declared.Block.{Block}
use Rattle.entities.specs.Program.{Program}
use Rattle.cursor.specs.declared.CursorPosition.{CursorPosition}
use Rattle.cursor_faults.specs.Moves.{next_inst_position, prev_inst_position, block_behind, block_ahead, before_block, after_block, or_nowhere}
use Rattle.steps.specs.declared.Direction.{Direction}
use Rattle.steps.specs.declared.Direction.TheVariants.{Forward, Backward}

abbrev pub inst_step : Direction → CursorPosition → Program → Option CursorPosition
inst_step Forward at p = next_inst_position at p
inst_step Backward at p = prev_inst_position at p

-- from the current block, or from nowhere
abbrev pub block_step : Direction → Option Block → Program → CursorPosition
block_step Forward current p = or_nowhere (before_block (block_behind current p))
block_step Backward current p = or_nowhere (after_block (block_ahead current p))
